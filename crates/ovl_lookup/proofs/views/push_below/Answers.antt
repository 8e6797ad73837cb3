use Rattle.std.proofs.Common.{◌+◌, ◌∙◌, ◌++◌, List, [], drop, length, sym, ap, arith}
use Rattle.std.proofs.lemmas.List.{append-nil}
use Rattle.ovl_names.specs.Paths.{PathNames}
use Rattle.ovl_names.specs.Names.{PathName}
use Rattle.ovl_lookup.specs.declared.views.DirPlace.{DirPlace}
use Rattle.ovl_lookup.specs.Stacks.{StackView}
use Rattle.std.proofs.lemmas.Result.{on_ok_weaker}
use Rattle.ovl_lookup.specs.Views.{ReachedDirectory, reached, reached_below}
use Rattle.ovl_lookup.specs.DirViews.{places_in}
use Rattle.ovl_lookup.proofs.PlaceReads.{none-reached, file-reached}
use Rattle.ovl_lookup.proofs.DirViewLemmas.{place_read, layer-read, below-pushed, on-path, on-name, on-none}
use Rattle.ovl_lookup.proofs.views.push_below.Goals as goal

pub loop-place-preserved-in_default : goal.loop-place-preserved-in_default
loop-place-preserved-in_default c =
    let stack : StackView = c.args.stack.now in
    record {
      places =
          ap (λ (ps : List ReachedDirectory). places_in stack c.loop-place.below.items ++ ps) (sym (none-reached stack c.loop-place.own.now c.args.places.now c.loop-place.place-index c.loop-place-test.true c.in_default.ensures))
          ∙ c.loop-place.invariant.places;
      over = c.loop-place.invariant.over;
    }

pub returns-then-not-is_directory : goal.returns-then-not-is_directory
returns-then-not-is_directory c =
    let stack : StackView = c.args.stack.now in
    record {
      places =
          sym (append-nil (places_in stack c.loop-place.below.items))
          ∙ (ap (λ (ps : List ReachedDirectory). places_in stack c.loop-place.below.items ++ ps) (sym (file-reached stack c.loop-place.own.now c.args.places.now c.loop-place.place-index c.loop-place-test.true c.in-Some.entry c.in-Some.ensures (sym c.is_directory.ensures ∙ c.if-not-is_directory.true)))
          ∙ c.loop-place.invariant.places);
      over = c.loop-place.invariant.over;
    }

pub overflow_add-place : goal.overflow_add-place
overflow_add-place c =
    let inside = layer-read c.args.stack.now c.args.places.now c.loop-place.place-index c.requires c.loop-place-test.true in
    omega (arith, inside, ap (λ (s : StackView). length s.layers) c.stack.view_is, c.stack.invariant.1)

pub push_reached-requires : goal.push_reached-requires
push_reached-requires c =
    let inside = layer-read c.args.stack.now c.args.places.now c.loop-place.place-index c.requires c.loop-place-test.true in
    omega (arith, inside)

pub returns-in-At : goal.returns-in-At
returns-in-At c =
    let places : List DirPlace = c.args.places.now in
    let held = c.loop-place.invariant in
    let pushed = below-pushed c.args.stack.now c.loop-place.own.now places c.loop-place.place-index c.loop-place-test.true c.in-Some.entry c.in-Some.ensures (sym c.is_directory.ensures ∙ c.if-not-is_directory.false) c.args.below.now.items c.loop-place.below.items c.push.new.self.items (reached_below c.args.stack.now.layers c.args.name.now (places_in c.args.stack.now places)) c.in_ok-push.ensures.items held.over held.places in
    let stack : StackView = c.args.stack.now in
    let origin : PathNames = c.in-At.origin.now in
    let from_root : PathNames → List ReachedDirectory = λ path. let own : DirPlace = place_read places c.loop-place.place-index in reached (drop (own.layer + 1) stack.layers) (own.layer + 1) path in
    on_ok_weaker c.push_reached.result
    (λ adds. record {
      places = adds.places ∙ ap (λ (path : PathNames). places_in stack c.push.new.self.items ++ from_root path) (c.in_ok-rope-in-At.ensures ∙ c.names.ensures.value) ∙ pushed.0 (from_root origin) (on-path c.loop-place.own.now _ _ c.in-Some.entry.mark.now origin (sym c.in-At.ensures.at));
      over = λ all. adds.over (pushed.1 all);
    }) c.push_reached.ensures

pub returns-in-Nowhere : goal.returns-in-Nowhere
returns-in-Nowhere c =
    let places : List DirPlace = c.args.places.now in
    let held = c.loop-place.invariant in
    let pushed = below-pushed c.args.stack.now c.loop-place.own.now places c.loop-place.place-index c.loop-place-test.true c.in-Some.entry c.in-Some.ensures (sym c.is_directory.ensures ∙ c.if-not-is_directory.false) c.args.below.now.items c.loop-place.below.items c.push.new.self.items (reached_below c.args.stack.now.layers c.args.name.now (places_in c.args.stack.now places)) c.in_ok-push.ensures.items held.over held.places in
    record {
      places = sym (append-nil (places_in c.args.stack.now c.push.new.self.items)) ∙ pushed.0 [] (on-none c.loop-place.own.now _ _ c.in-Some.entry.mark.now (sym c.in-Nowhere.ensures.at) (sym c.in-Nowhere.ensures.by));
      over = pushed.1;
    }

pub loop-place-preserved : goal.loop-place-preserved
loop-place-preserved c =
    let places : List DirPlace = c.args.places.now in
    let held = c.loop-place.invariant in
    let pushed = below-pushed c.args.stack.now c.loop-place.own.now places c.loop-place.place-index c.loop-place-test.true c.in-Some.entry c.in-Some.ensures (sym c.is_directory.ensures ∙ c.if-not-is_directory.false) c.args.below.now.items c.loop-place.below.items c.push.new.self.items (reached_below c.args.stack.now.layers c.args.name.now (places_in c.args.stack.now places)) c.in_ok-push.ensures.items held.over held.places in
    let stack : StackView = c.args.stack.now in
    let other : PathName = c.in-Beside.other.now in
    let rest : List ReachedDirectory = reached_below stack.layers other (drop (c.loop-place.place-index + 1) (places_in stack places)) in
    record {
      places = pushed.0 rest (on-name c.loop-place.own.now _ _ c.in-Some.entry.mark.now other (sym c.in-Beside.ensures.by));
      over = pushed.1;
    }
