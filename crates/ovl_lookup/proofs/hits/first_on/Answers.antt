use Rattle.std.proofs.Common.{◌≡◌, ◌<◌, ◌∷◌, Option, List, sym, ap, ◌∙◌, subst, length, arith}
use Rattle.std.specs.Prelude.{IfSome, slice_get}
use Rattle.std.specs.Option.{option_map}
use Rattle.ovl_inode.specs.declared.inodes.Inode.{Inode}
use Rattle.ovl_inode.specs.Marks.{mark_of}
use Rattle.ovl_layer.specs.Layers.{Entries}
use Rattle.ovl_lookup.specs.declared.steps.Found.{Found}
use Rattle.ovl_lookup.specs.Passes.{step_of}
use Rattle.ovl_lookup.specs.Walk.{walk}
use Rattle.ovl_lookup.proofs.FoundLemmas.{found-first, found-closed, found-open}
use Rattle.ovl_lookup.proofs.hits.first_on.Goals as goal

pub returns-in-Some : goal.returns-in-Some
returns-in-Some c =
    let layers : List Entries = c.args.stack.now.layers in
    let inside : c.loop-i.i < length layers = omega arith in
    let walked : IfSome (slice_get layers c.loop-i.i) (λ layer. step_of c.in_ok-found.field-0 ≡ walk layer c.loop-i.path) = subst (λ (o : Option Entries). IfSome o (λ layer. step_of c.in_ok-found.field-0 ≡ walk layer c.loop-i.path)) (sym c.sheet.ensures) c.in_ok-found.ensures.value in
    record {
      found =
          ap (λ (below : List Inode). c.in-Some.found.inode.now ∷ below) (c.past_walk-below.ensures.found c.args.stack.now)
          ∙ sym (sym c.loop-i.invariant
          ∙ found-first layers c.loop-i.i c.loop-i.path (step_of c.in_ok-found.field-0) inside walked c.in-Some.found.inode.now (ap (option_map (λ (found : Found). found.inode.now)) c.in-Some.is));
      over = (
        subst (λ (found : Option Found). IfSome found (λ own. own.mark.now ≡ mark_of own.inode.now)) c.in-Some.is c.in_ok-found.ensures.marked,
        c.past_walk-below.ensures.over c.args.stack.now,
      );
    }

pub returns-then-closed : goal.returns-then-closed
returns-then-closed c =
    let layers : List Entries = c.args.stack.now.layers in
    let inside : c.loop-i.i < length layers = omega arith in
    let walked : IfSome (slice_get layers c.loop-i.i) (λ layer. step_of c.in_ok-found.field-0 ≡ walk layer c.loop-i.path) = subst (λ (o : Option Entries). IfSome o (λ layer. step_of c.in_ok-found.field-0 ≡ walk layer c.loop-i.path)) (sym c.sheet.ensures) c.in_ok-found.ensures.value in
    record {
      found =
          sym (sym c.loop-i.invariant
          ∙ found-closed layers c.loop-i.i c.loop-i.path (step_of c.in_ok-found.field-0) inside walked (ap (option_map (λ (found : Found). found.inode.now)) c.in_default.is) c.if-closed.true);
      over = tt;
    }

pub loop-i-preserved : goal.loop-i-preserved
loop-i-preserved c =
    let layers : List Entries = c.args.stack.now.layers in
    let inside : c.loop-i.i < length layers = omega arith in
    let walked : IfSome (slice_get layers c.loop-i.i) (λ layer. step_of c.in_ok-found.field-0 ≡ walk layer c.loop-i.path) = subst (λ (o : Option Entries). IfSome o (λ layer. step_of c.in_ok-found.field-0 ≡ walk layer c.loop-i.path)) (sym c.sheet.ensures) c.in_ok-found.ensures.value in
    sym (found-open layers c.loop-i.i c.loop-i.path (step_of c.in_ok-found.field-0) inside walked (ap (option_map (λ (found : Found). found.inode.now)) c.in_default.is) c.if-closed.false) ∙ c.loop-i.invariant
