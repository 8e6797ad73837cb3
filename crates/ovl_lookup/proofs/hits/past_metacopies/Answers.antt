use Rattle.std.proofs.Common.{◌≡◌, ◌∙◌, true, false, Option, Some, List, ◌∷◌, length, sym, ap, subst, arith}
use Rattle.std.specs.Option.{option_map}
use Rattle.ovl_names.specs.Paths.{PathNames}
use Rattle.ovl_inode.specs.declared.inodes.Inode.{Inode}
use Rattle.ovl_inode.specs.declared.marks.Mark.{Mark}
use Rattle.ovl_inode.specs.Marks.{is_metacopy, is_metacopy_mark}
use Rattle.ovl_lookup.specs.declared.hits.Hit.{Hit}
use Rattle.ovl_lookup.specs.Stacks.{StackView}
use Rattle.ovl_lookup.specs.Merged.{place_of_data}
use Rattle.ovl_lookup.specs.Hits.{IsHitOver, found_by, found_of, past_metacopies}
use Rattle.ovl_lookup.proofs.FoundLemmas.{past-metacopy, past-other}
use Rattle.ovl_lookup.proofs.hits.past_metacopies.Goals as goal

pub returns-then-not-is_well_formed_metacopy : goal.returns-then-not-is_well_formed_metacopy
returns-then-not-is_well_formed_metacopy c =
    let stack : StackView = c.args.stack.now in
    let hit : Hit = c.in-Some.field-0 in
    let told : Option PathNames = option_map (λ told. told.now) c.loop-next.told in
    let over : IsHitOver stack (Some hit) = subst (IsHitOver stack) c.in-Some.is c.loop-next.invariant.over in
    let meta : is_metacopy hit.found.inode.now ≡ false = sym (ap is_metacopy_mark over.0) ∙ (sym c.is_well_formed_metacopy.ensures ∙ c.if-not-is_well_formed_metacopy.true) in
    sym (past-other told hit.found.inode.now (found_by stack hit.below) meta)
    ∙ (sym (ap (λ (next : Option Hit). past_metacopies told (found_of stack next)) c.in-Some.is) ∙ c.loop-next.invariant.found)

pub loop-next-preserved : goal.loop-next-preserved
loop-next-preserved c =
    let stack : StackView = c.args.stack.now in
    let hit : Hit = c.in-Some.field-0 in
    let told : Option PathNames = option_map (λ told. told.now) c.loop-next.told in
    let over : IsHitOver stack (Some hit) = subst (IsHitOver stack) c.in-Some.is c.loop-next.invariant.over in
    let meta : is_metacopy hit.found.inode.now ≡ true = sym (ap is_metacopy_mark over.0) ∙ (sym c.is_well_formed_metacopy.ensures ∙ c.if-not-is_well_formed_metacopy.false) in
    record {
      found =
          (λ j. past_metacopies (c.place_of_data-told.ensures j) (c.in_ok-next.ensures.found j))
          ∙ (ap (λ (mark : Mark). past_metacopies (place_of_data mark) (found_by stack hit.below)) over.0
          ∙ (sym (past-metacopy told hit.found.inode.now (found_by stack hit.below) meta)
          ∙ (sym (ap (λ (next : Option Hit). past_metacopies told (found_of stack next)) c.in-Some.is) ∙ c.loop-next.invariant.found)));
      over = c.in_ok-next.ensures.over;
    }

pub loop-next-smaller : goal.loop-next-smaller
loop-next-smaller c =
    let stack : StackView = c.args.stack.now in
    let hit : Hit = c.in-Some.field-0 in
    let here : length (found_of stack c.loop-next.next) ≡ length (hit.found.inode.now ∷ found_by stack hit.below) = ap (λ (next : Option Hit). length (found_of stack next)) c.in-Some.is in
    let less : length (found_of stack c.in_ok-next.next) ≡ length (found_by stack hit.below) = ap (λ (found : List Inode). length found) c.in_ok-next.ensures.found in
    omega (arith, here, less)
