use Rattle.std.proofs.Common.{◌∙◌, ◌+◌, ◌∷◌, List, length, drop, sym, ap, subst, arith}
use Rattle.std.specs.List.{All}
use Rattle.std.proofs.lemmas.List.Elements.{All-drop}
use Rattle.ovl_inode.specs.declared.inodes.Inode.{Inode}
use Rattle.ovl_lookup.specs.declared.views.DirPlace.{DirPlace}
use Rattle.ovl_lookup.specs.Stacks.{StackView}
use Rattle.ovl_lookup.specs.Trace.{things_found}
use Rattle.ovl_lookup.specs.Views.{ReachedDirectory, below_entry, found_below}
use Rattle.ovl_lookup.specs.DirViews.{IsPlaceOver}
use Rattle.ovl_lookup.proofs.DirViewLemmas.{place_read, layer-read}
use Rattle.ovl_lookup.proofs.ViewLookLemmas.{slice-places}
use Rattle.ovl_lookup.proofs.WalkFacts.{take-rest}
use Rattle.ovl_lookup.proofs.PlaceReads.{none-found, whiteout-found, entry-found}
use Rattle.ovl_lookup.proofs.hits.first_in.Goals as goal

pub loop-i-preserved : goal.loop-i-preserved
loop-i-preserved c =
    sym (none-found c.args.stack.now c.args.name.now c.args.places.now c.loop-i.i c.loop-i-test.true c.in_default.ensures) ∙ c.loop-i.invariant

pub returns-then-is_whiteout : goal.returns-then-is_whiteout
returns-then-is_whiteout c = record {
  found = sym (sym c.loop-i.invariant ∙ whiteout-found c.args.stack.now c.args.name.now c.args.places.now c.loop-i.i c.loop-i-test.true c.in-Some.entry c.in-Some.ensures (sym c.is_whiteout.ensures ∙ c.if-is_whiteout.true));
  over = tt;
}

pub overflow_add-from : goal.overflow_add-from
overflow_add-from c =
    let inside = layer-read c.args.stack.now c.args.places.now c.loop-i.i c.requires c.loop-i-test.true in
    omega (arith, inside, ap (λ (s : StackView). length s.layers) c.stack.view_is, c.stack.invariant.1)

pub returns-in-Some : goal.returns-in-Some
returns-in-Some c =
    let stack : StackView = c.args.stack.now in
    let places : List DirPlace = c.args.places.now in
    let own : DirPlace = place_read places c.loop-i.i in
    record {
      found =
          ap (λ (below : List Inode). c.in-Some.entry.inode.now ∷ below) (c.past_entry.ensures.found stack
          ∙ ap (λ (rest : List ReachedDirectory). below_entry c.in-Some.entry.mark.now c.args.name.now (things_found (drop (own.layer + 1) stack.layers)) (λ other. found_below stack.layers other rest)) (slice-places stack places (c.loop-i.i + 1)))
          ∙ sym (sym c.loop-i.invariant ∙ entry-found stack c.args.name.now places c.loop-i.i c.loop-i-test.true c.in-Some.entry c.in-Some.ensures (sym c.is_whiteout.ensures ∙ c.if-is_whiteout.false));
      over = (
        c.in-Some.ensures.mark,
        c.past_entry.ensures.over stack (subst (λ (ps : List DirPlace). All (IsPlaceOver stack) ps) (sym (take-rest places (c.loop-i.i + 1))) (All-drop (IsPlaceOver stack) (c.loop-i.i + 1) places c.requires)),
      );
    }
