use Rattle.std.proofs.Common.{ℕ, List, sym, ap}
use Rattle.std.proofs.lemmas.Bool.{eq-eqb}
use Rattle.std.specs.Prelude.{if◌then◌else◌}
use Rattle.ovl_inode.proofs.TableLemmas.{differ, set_from, set-step, set-whole}
use Rattle.ovl_inode.proofs.tables.Table.set_value.Goals as goal

pub loop-name-preserved-in-Continue-1 : goal.loop-name-preserved-in-Continue-1
loop-name-preserved-in-Continue-1 c =
    let own : List ℕ × List ℕ = (c.in-Some.name.now, c.in-Some.own.now) in
    set-step c.loop-name.table c.insert.new.self c.loop-name.name-iterator c.next.new.self (set_from 0 c.args.place c.args.value.now c.args.self.now) c.args.place c.len-number.result c.args.value.now own (own.0, c.args.value.now)
    c.len-number.ensures c.in_ok-insert.ensures.done c.in-Some.ensures.steps
    (sym (ap (λ b. if b then (own.0, c.args.value.now) else own) (eq-eqb c.len-number.result c.args.place c.if-number-place.true))) c.loop-name.invariant

pub loop-name-preserved : goal.loop-name-preserved
loop-name-preserved c =
    let own : List ℕ × List ℕ = (c.in-Some.name.now, c.in-Some.own.now) in
    set-step c.loop-name.table c.insert-else-number-place.new.self c.loop-name.name-iterator c.next.new.self (set_from 0 c.args.place c.args.value.now c.args.self.now) c.args.place c.len-number.result c.args.value.now own own
    c.len-number.ensures c.in_ok-insert-2.ensures.done c.in-Some.ensures.steps
    (sym (ap (λ b. if b then (own.0, c.args.value.now) else own) (differ c.len-number.result c.args.place c.if-number-place.false))) c.loop-name.invariant

pub returns-clause-done : goal.returns-clause-done
returns-clause-done c = set-whole c.args.self.now c.loop-name.table c.loop-name.name-iterator c.args.place c.args.value.now c.requires c.in-None.ensures.steps.0 c.loop-name.invariant
