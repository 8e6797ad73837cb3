use Rattle.std.proofs.Common.{◌≡◌, ◌<◌, ◌∙◌, ◌++◌, List, drop, length, refl, sym, subst, arith}
use Rattle.std.specs.List.{All}
use Rattle.std.proofs.lemmas.Bool.Decides.{nat_tests}
use Rattle.std.proofs.lemmas.List.Elements.{All-nil}
use Rattle.ovl_names.specs.Paths.{PathNames}
use Rattle.ovl_layer.specs.Layers.{IsLayer}
use Rattle.ovl_lookup.specs.declared.views.DirPlace.{DirPlace}
use Rattle.ovl_lookup.specs.Stacks.{StackView}
use Rattle.ovl_lookup.specs.Views.{reached}
use Rattle.ovl_lookup.specs.DirViews.{IsPlaceOver, places_in}
use Rattle.ovl_lookup.proofs.ViewLemmas.{views-show}
use Rattle.ovl_lookup.proofs.DirViewLemmas.{some-places, no-places}
use Rattle.ovl_lookup.proofs.views.DirView.at.Goals as goal

pub returns-then-is_empty : goal.returns-then-is_empty
returns-then-is_empty c =
    let stack : StackView = c.args.stack.now in
    let from = c.args.from in
    let path : PathNames = c.args.path in
    let each : All IsLayer stack.layers = subst (λ (s : StackView). All IsLayer s.layers) c.stack.view_is c.stack.invariant.2 in
    let adds = c.in_ok-push_reached.ensures in
    let items : List DirPlace = c.push_reached.new.places.items in
    let same : places_in stack items ≡ reached (drop from stack.layers) from path =
    adds.places ∙ (λ j. places_in stack (c.new-places.ensures.items j) ++ reached (drop from stack.layers) from (c.in_ok-copy.ensures j)) in
    let none : length items ≡ 0 = grind (arith, nat_tests, c.is_empty.ensures, c.if-is_empty.true, c.push_reached.new.places.ok.0) in
    views-show stack each from path ∙ no-places stack items (reached (drop from stack.layers) from path) same none

pub returns : goal.returns
returns c =
    let stack : StackView = c.args.stack.now in
    let from = c.args.from in
    let path : PathNames = c.args.path in
    let each : All IsLayer stack.layers = subst (λ (s : StackView). All IsLayer s.layers) c.stack.view_is c.stack.invariant.2 in
    let adds = c.in_ok-push_reached.ensures in
    let items : List DirPlace = c.push_reached.new.places.items in
    let same : places_in stack items ≡ reached (drop from stack.layers) from path =
    adds.places ∙ (λ j. places_in stack (c.new-places.ensures.items j) ++ reached (drop from stack.layers) from (c.in_ok-copy.ensures j)) in
    let some : 0 < length items = grind (arith, nat_tests, c.is_empty.ensures, c.if-is_empty.false, c.push_reached.new.places.ok.0) in
    record {
      over = record {
        within = c.requires;
        over = adds.over (subst (λ (ps : List DirPlace). All (IsPlaceOver stack) ps) (sym c.new-places.ensures.items) (All-nil (IsPlaceOver stack)));
        reached = same;
      };
      starts = refl;
      stands = refl;
      shown = views-show stack each from path ∙ some-places stack items (reached (drop from stack.layers) from path) same some;
    }
