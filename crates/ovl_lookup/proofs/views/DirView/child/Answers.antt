use Rattle.std.proofs.Common.{◌≡◌, ◌<◌, ◌∙◌, List, drop, length, refl, sym, ap, subst, arith}
use Rattle.std.specs.List.{All}
use Rattle.std.proofs.lemmas.Bool.Decides.{nat_tests}
use Rattle.std.proofs.lemmas.List.Elements.{All-nil}
use Rattle.ovl_names.specs.Paths.{PathNames, child_path}
use Rattle.ovl_layer.specs.Layers.{IsLayer}
use Rattle.ovl_lookup.specs.declared.views.DirPlace.{DirPlace}
use Rattle.ovl_lookup.specs.Stacks.{StackView}
use Rattle.ovl_lookup.specs.Views.{reached}
use Rattle.ovl_lookup.specs.DirViews.{IsPlaceOver, places_in}
use Rattle.ovl_lookup.proofs.ViewLemmas.{views-show}
use Rattle.ovl_lookup.proofs.DirViewLemmas.{some-places, no-places, child-places}
use Rattle.ovl_lookup.proofs.views.DirView.child.Goals as goal

pub returns-then-is_empty : goal.returns-then-is_empty
returns-then-is_empty c =
    let stack : StackView = c.args.stack.now in
    let from = c.args.self.now.from in
    let path : PathNames = child_path c.args.self.now.path c.args.name.now in
    let each : All IsLayer stack.layers = subst (λ (s : StackView). All IsLayer s.layers) c.stack.view_is c.stack.invariant.2 in
    let items : List DirPlace = c.push_below.new.below.items in
    let same = child-places stack from c.args.self.now.path c.args.name.now _ c.deref.result.now items each c.new-places.ensures.items (ap (places_in stack) c.deref.ensures.value ∙ c.requires.reached) c.in_ok-push_below.ensures.places in
    let none : length items ≡ 0 = grind (arith, nat_tests, c.is_empty.ensures, c.if-is_empty.true, c.push_below.new.below.ok.0) in
    views-show stack each from path ∙ no-places stack items (reached (drop from stack.layers) from path) same none

pub returns : goal.returns
returns c =
    let stack : StackView = c.args.stack.now in
    let from = c.args.self.now.from in
    let path : PathNames = child_path c.args.self.now.path c.args.name.now in
    let each : All IsLayer stack.layers = subst (λ (s : StackView). All IsLayer s.layers) c.stack.view_is c.stack.invariant.2 in
    let items : List DirPlace = c.push_below.new.below.items in
    let same = child-places stack from c.args.self.now.path c.args.name.now _ c.deref.result.now items each c.new-places.ensures.items (ap (places_in stack) c.deref.ensures.value ∙ c.requires.reached) c.in_ok-push_below.ensures.places in
    let some : 0 < length items = grind (arith, nat_tests, c.is_empty.ensures, c.if-is_empty.false, c.push_below.new.below.ok.0) in
    let named : c.in_ok-path.path ≡ path = c.in_ok-path.ensures ∙ (λ j. child_path (c.in_ok-copy.ensures j) (c.as_str.ensures.value j)) in
    record {
      over = record {
        within = c.requires.within;
        over = c.in_ok-push_below.ensures.over (subst (λ (ps : List DirPlace). All (IsPlaceOver stack) ps) (sym c.new-places.ensures.items) (All-nil (IsPlaceOver stack)));
        reached = same ∙ ap (reached (drop from stack.layers) from) (sym named);
      };
      starts = refl;
      stands = named;
      shown = views-show stack each from path ∙ some-places stack items (reached (drop from stack.layers) from path) same some;
    }
