use Rattle.std.proofs.Common.{◌≡◌, ◌∙◌, ◌++◌, ◌∷◌, [], Ok, Err, Some, ap, length, sym, subst}
use Rattle.std.specs.Prelude.{flat_map}
use Rattle.std.specs.Option.{option_or}
use Rattle.std.proofs.lemmas.Iterator.Adapters.{YieldsList-from_vec}
use Rattle.std.proofs.lemmas.Iterator.Consumers.{YieldsList-turn}
use Rattle.ovl_files.specs.Slots.{IsShareOf, slot_at, told_at, told_by}
use Rattle.ovl_files.proofs.SlotLemmas.{FirstOf, Share, first_stop, first_told, told_more}
use Rattle.ovl_files.proofs.slots.joined.Goals as goal

pub put-requires-clause-told : goal.put-requires-clause-told
put-requires-clause-told c =
    let gives = c.into_iter-share-iterator.ensures.into_iter_gives in
    let turn = YieldsList-turn (YieldsList-from_vec {s = c.into_iter-share-iterator.result} c.args.shares.items gives.0 (gives.1 ∙ c.args.shares.ok.0)) c.loop-share.yielded c.loop-share.share-iterator c.loop-share.yielded_by c.next.result c.next.new.self c.in-Some.share c.in-Some.is c.next.ensures.steps in
    let is = subst (IsShareOf c.args.folder.now c.args.names.now) (sym turn.1) (c.requires (length c.loop-share.yielded) c.in-Some.share turn.0) in
    rw c.deref.ensures.value (subst (IsShareOf c.args.folder.now c.args.names.now) c.in-Ok.is is)

pub loop-share-preserved-in-Ok : goal.loop-share-preserved-in-Ok
loop-share-preserved-in-Ok c =
    let before = c.loop-share.yielded in (
      c.put.ensures.count,
      (
        c.put.ensures.slots,
        (
          λ number. c.put.ensures.told number
              ∙ (ap (λ told. option_or (told_at told number) (slot_at c.loop-share.slots number)) c.deref.ensures.value
              ∙ (ap (option_or (told_at c.in-Ok.told.items number)) (c.loop-share.invariant.1.1.0 number)
              ∙ sym (subst (λ (share : Share). told_at (flat_map told_by (before ++ share ∷ [])) number ≡ option_or (told_at c.in-Ok.told.items number) (told_at (flat_map told_by before) number)) (sym c.in-Ok.is) (told_more before (Ok c.in-Ok.told) number)))),
          subst (λ (share : Share). FirstOf (before ++ share ∷ []) c.loop-share.first) (sym c.in-Ok.is) (first_told before c.in-Ok.told c.loop-share.first c.loop-share.invariant.1.1.1),
        ),
      ),
    )

pub loop-share-preserved : goal.loop-share-preserved
loop-share-preserved c =
    let before = c.loop-share.yielded in (
      c.loop-share.invariant.0,
      (
        c.loop-share.invariant.1.0,
        (
          λ number. c.loop-share.invariant.1.1.0 number
              ∙ sym (subst (λ (share : Share). told_at (flat_map told_by (before ++ share ∷ [])) number ≡ told_at (flat_map told_by before) number) (sym c.in-Err.is) (told_more before (Err c.in-Err.stop) number)),
          subst (λ (share : Share). FirstOf (before ++ share ∷ []) (Some c.earlier.result)) (sym c.in-Err.is)
              (first_stop before c.in-Err.stop c.earlier.result c.loop-share.first c.loop-share.invariant.1.1.1 c.earlier.ensures.one c.earlier.ensures.least.0 c.earlier.ensures.least.1),
        ),
      ),
    )
