use Rattle.std.proofs.Common.{refl}
use Rattle.std.proofs.lemmas.Result.{err_from_is_err_and}
use Rattle.ovl_program.proofs.HandedParts.{whole_first, cut_first, cut_later, handed_last}
use Rattle.ovl_program.proofs.output.hand_out.+hand_on.Goals as goal

pub returns-in_default-clause-handed : goal.returns-in_default-clause-handed
returns-in_default-clause-handed g t c =
    handed_last g.W.Write.contents _ c.args.layers.now c.args.files.now _ _ _ _ c.hand.result c.in_default.ensures.cases c.requires.each refl c.hand.ensures

pub returns-in-Ok-clause-handed : goal.returns-in-Ok-clause-handed
returns-in-Ok-clause-handed g t c =
    rw (c.in-Some.ensures.cases.0, c.in-Some-split_first_mut.ensures.cases.0)
    (whole_first _ _ _ _ _ _ (rw c.deref.ensures.value at c.in_ok-hand.ensures) c.in-Ok.ensures.handed)

pub returns-in-Err-clause-handed : goal.returns-in-Err-clause-handed
returns-in-Err-clause-handed g t c =
    rw (c.in-Some.ensures.cases.0, c.in-Some-split_first_mut.ensures.cases.0)
    (cut_later c.in-Err.field-0.part _ _ _ _ _ _ _ _ refl (rw c.deref.ensures.value at c.in_ok-hand.ensures) c.in-Err.ensures.handed)

pub returns-in_err-hand-clause-handed : goal.returns-in_err-hand-clause-handed
returns-in_err-hand-clause-handed g t c =
    let out = err_from_is_err_and c.from_residual.result c.from_residual.ensures.1 in
    rw (out.1, out.2, c.in-Some.ensures.cases.0, c.in-Some-split_first_mut.ensures.cases.0)
    (cut_first _ _ _ _ _ _ _ c.in_err-hand.ensures.0 (rw c.deref.ensures.value at c.in_err-hand.ensures.1.0) (rw c.deref.ensures.value at c.in_err-hand.ensures.1.1))
