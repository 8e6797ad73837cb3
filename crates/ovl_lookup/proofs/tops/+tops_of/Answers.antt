use Rattle.std.proofs.Common.{◌≡◌, ◌∙◌, ◌+◌, ◌++◌, List, length, sym, ap, subst}
use Rattle.std.proofs.lemmas.List.{length-map, map-append}
use Rattle.std.proofs.lemmas.Result.{IfOk-weaker}
use Rattle.ovl_lookup.specs.declared.tops.Top.{Top}
use Rattle.ovl_lookup.specs.declared.views.DirPlace.{DirPlace}
use Rattle.ovl_lookup.specs.Stacks.{StackView}
use Rattle.ovl_lookup.specs.Views.{ReachedDirectory}
use Rattle.ovl_lookup.specs.NamedLists.{both_joined}
use Rattle.ovl_lookup.specs.ViewPasses.{AreTops, tops_told, upper_place}
use Rattle.ovl_lookup.specs.DirViews.{place_in, places_in}
use Rattle.ovl_lookup.proofs.TopLemmas.{merged-tops}
use Rattle.ovl_lookup.proofs.tops.+tops_of.Goals as goal

pub returns-in_ok-lower-in_default : goal.returns-in_ok-lower-in_default
returns-in_ok-lower-in_default t c =
    let stack : StackView = c.args.stack.now in
    let above : List DirPlace = c.split_at.result.0.now in
    let below : List DirPlace = c.split_at.result.1.now in
    let upper : List Top = c.in_ok-upper-in_default.upper.items in
    let lower : List Top = c.in_ok-lower-in_default.lower.items in
    let whole : places_in stack above ++ places_in stack below ≡ places_in stack c.args.places.now =
    sym (ap (places_in stack) c.split_at.ensures.by_index.0 ∙ map-append (place_in stack) above below) in
    let behind : AreTops stack.layers (c.args.first + length (places_in stack above)) (places_in stack below) (tops_told lower) =
    subst (λ n. AreTops stack.layers (c.args.first + n) (places_in stack below) (tops_told lower)) (sym (length-map above (place_in stack))) c.in_ok-lower-in_default.ensures in
    let both : AreTops stack.layers c.args.first (places_in stack c.args.places.now) (both_joined upper_place (tops_told upper) (tops_told lower)) =
    subst (λ (ps : List ReachedDirectory). AreTops stack.layers c.args.first ps (both_joined upper_place (tops_told upper) (tops_told lower))) whole
    (merged-tops stack.layers c.args.first (places_in stack above) (places_in stack below) (tops_told upper) (tops_told lower) c.in_ok-upper-in_default.ensures behind) in
    IfOk-weaker c.join_lists.result _ _ (λ tops are.
    subst (AreTops stack.layers c.args.first (places_in stack c.args.places.now))
    (sym (are ∙ (λ j. both_joined upper_place (tops_told (c.deref.ensures.value j)) (tops_told (c.deref-in_default.ensures.value j))))) both)
    c.join_lists.ensures
