use Rattle.std.proofs.Common.{◌∙◌, Some, sym, ap}
use Rattle.std.proofs.lemmas.Result.{IfOk-weaker}
use Rattle.ovl_names.specs.Names.{PathName}
use Rattle.ovl_names.specs.Paths.{child_path}
use Rattle.ovl_merge.specs.Places.{merge_of, reach}
use Rattle.ovl_merge.specs.Reckoned.{name_directly_in, next_lookup_at}
use Rattle.ovl_merge.specs.NamesInBoth.{place_from}
use Rattle.ovl_merge.proofs.FinishLemmas.{merge-each}
use Rattle.ovl_merge.proofs.LayerLemmas.{rest}
use Rattle.ovl_merge.proofs.ShownLemmas.{visited-reach}
use Rattle.ovl_merge.proofs.NameInBothLemmas.{reach-above}
use Rattle.ovl_merge.proofs.EntryLemmas.{directly-child}
use Rattle.ovl_merge.proofs.entries.redirected.Goals as goal

pub returns-in-Beside : goal.returns-in-Beside
returns-in-Beside c =
    let stack = c.args.stack.now in
    let m = merge_of stack in
    let above = c.args.above.now in
    let each = rest m (merge-each stack c.requires.several c.ordinary-layers.ensures.each) in
    IfOk-weaker c.renamed.result _ _ (λ new h. λ path goes.
    (let found = reach-above stack each above.path (next_lookup_at above.lower) (visited-reach stack above.path above c.requires.above) (child_path above.path c.args.name.now) path goes c.in-Beside.own.now
    (sym (ap (place_from (next_lookup_at above.lower)) c.in-Beside.is) ∙ (c.requires.place ∙ goes)) in
    h (reach m above.path) path (ap (λ (n : PathName). Some n) c.as_str.ensures.value ∙ (directly-child found.0 c.in-Beside.own.now ∙ (λ j. name_directly_in (sym found.1 j) (sym found.2 j)))))) c.renamed.ensures
