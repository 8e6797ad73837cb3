use Rattle.std.proofs.Common.{◌∙◌, ℕ, List, sym, set}
use Rattle.std.specs.Prelude.{slice_get}
use Rattle.std.proofs.lemmas.Result.{on_ok_weaker}
use Rattle.ovl_inode.proofs.AttributeLemmas.{whole, put_at, put_between}
use Rattle.ovl_inode.proofs.attributes.put_in.Goals as goal

pub returns-in-Ok-clause-done : goal.returns-in-Ok-clause-done
returns-in-Ok-clause-done c =
    on_ok_weaker c.set_value.result (λ done.
    let own = whole (λ (attr : List ℕ × List ℕ). set c.args.table.now c.in-Ok.place (attr.0, c.args.value.now)) (slice_get c.args.table.now c.in-Ok.place) c.set_value.new.self done in
    sym own.2 ∙ sym (put_at c.args.table.now c.args.name.now c.args.value.now c.in-Ok.place own.0.0 c.in-Ok.ensures own.0.1 own.1)) c.set_value.ensures.done

pub returns-in-Err-clause-done : goal.returns-in-Err-clause-done
returns-in-Err-clause-done c =
    on_ok_weaker c.insert.result (λ done.
    done ∙ sym (put_between c.args.table.now c.args.name.now c.args.value.now c.in-Err.place c.in-Err.ensures)) c.insert.ensures.done
