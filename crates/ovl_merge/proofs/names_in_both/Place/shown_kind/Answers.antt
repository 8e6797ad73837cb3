use Rattle.std.proofs.Common.{◌≡◌, ◌∙◌, Some, sym, ap}
use Rattle.std.proofs.lemmas.Result.{IfOk-weaker}
use Rattle.ovl_names.specs.Paths.{PathNames}
use Rattle.ovl_lookup.specs.Merged.{look}
use Rattle.ovl_lookup.specs.ShownKinds.{shown_kind_of}
use Rattle.ovl_merge.specs.Places.{merge_of}
use Rattle.ovl_merge.specs.Reckoned.{next_lookup_at}
use Rattle.ovl_merge.specs.NamesInBoth.{place_from}
use Rattle.ovl_merge.proofs.FinishLemmas.{merge-each}
use Rattle.ovl_merge.proofs.LayerLemmas.{rest}
use Rattle.ovl_merge.proofs.ShownLemmas.{visited-reach}
use Rattle.ovl_merge.proofs.NameInBothLemmas.{beside-look}
use Rattle.ovl_merge.proofs.names_in_both.Place.shown_kind.Goals as goal

pub returns-in-Beside : goal.returns-in-Beside
returns-in-Beside c =
    let stack = c.args.stack.now in
    let above = c.args.above.now in
    let each = rest (merge_of stack) (merge-each stack c.requires.several c.ordinary-layers.ensures.each) in
    λ path there. c.shown_kind.ensures
    ∙ ap shown_kind_of (beside-look stack each above.path above.base c.requires.above.base (next_lookup_at above.lower) (visited-reach stack above.path above c.requires.above) c.in-Beside.name.now path
    (sym (ap (place_from (next_lookup_at above.lower)) c.in-Beside.is) ∙ there))

pub returns-in_ok-copy-in-At : goal.returns-in_ok-copy-in-At
returns-in_ok-copy-in-At c =
    let stack = c.args.stack.now in
    let above = c.args.above.now in
    IfOk-weaker c.shown_kind-in-At.result _ _ (λ shown is. λ path there.
    (let some : Some c.in-At.path ≡ Some path = sym (ap (place_from (next_lookup_at above.lower)) c.in-At.is) ∙ there in
    let same : c.in-At.path ≡ path = cc in
    is ∙ ap (λ (p : PathNames). shown_kind_of (look (merge_of stack).rest p)) (c.in_ok-copy-in-At.ensures ∙ same))) c.shown_kind-in-At.ensures
