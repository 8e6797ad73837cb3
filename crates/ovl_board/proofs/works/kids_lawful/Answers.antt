use Rattle.std.proofs.Common.{◌≡◌, true, false, sym, ◌∙◌, subst, All, AllPairs}
use Rattle.ovl_board.specs.Pieces.{IsBefore, IsOneBelow}
use Rattle.ovl_board.proofs.works.kids_lawful.Goals as goal

pub returns-then-below : goal.returns-then-below
returns-then-below g c = (
  (λ up. record {
    below = subst (All (IsOneBelow c.args.parcel.now.piece)) c.deref.ensures.value (c.all_below-below.ensures.0 c.if-below.true);
    ascend = subst (AllPairs IsBefore) c.deref-2.ensures.value (c.ascends-ascending.ensures.0 up);
  }),
  (λ law. c.ascends-ascending.ensures.1 (subst (AllPairs IsBefore) (sym c.deref-2.ensures.value) law.ascend)),
)

pub returns-else-below : goal.returns-else-below
returns-else-below g c = (
  (λ up. let no : true ≡ false = sym up ∙ c.if-below.false in cc),
  (λ law. c.all_below-below.ensures.1 (subst (All (IsOneBelow c.args.parcel.now.piece)) (sym c.deref.ensures.value) law.below)),
)
