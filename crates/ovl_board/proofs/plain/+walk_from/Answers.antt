use Rattle.std.proofs.Common.{◌++◌, ◌∷◌, [], ◌-◌, length, arith, sym, ap, ◌∙◌, subst, append_assoc, inl, refl}
use Rattle.ovl_board.specs.Walks.{preorder}
use Rattle.ovl_board.specs.Parcels.{own_view}
use Rattle.ovl_board.proofs.LawsOfMembers.{In, In-right}
use Rattle.ovl_board.proofs.LawsOfWalks.{kid_depth, kid_fuel}
use Rattle.ovl_board.proofs.WalkLemmas.{walk_more, walk_done}
use Rattle.ovl_board.proofs.plain.+walk_from.Goals as goal

pub walk_from-requires : goal.walk_from-requires
walk_from-requires g t c κs within =
    let w = c.args.work.now in
    let kids = g.W.Work.kids_of w in
    let here : In c.in-Some.kid (kids c.args.piece) =
    subst (λ ks. In c.in-Some.kid ks) (ap (λ r. c.loop-kid.yielded ++ r) (sym c.in-Some.ensures.steps.0) ∙ c.loop-kid.invariant.2)
    (In-right c.in-Some.kid c.loop-kid.yielded (c.in-Some.kid ∷ c.next.new.self.rest.items) (inl refl)) in
    let d = kid_depth kids (g.W.Work.deepest_of w) c.requires c.args.piece c.in-Some.kid here in
    (omega (arith, d.0, d.1, c.decreases), (within.0, (within.1, c.requires)))

pub loop-kid-preserved : goal.loop-kid-preserved
loop-kid-preserved g t c =
    let w = c.args.work.now in
    let kids = g.W.Work.kids_of w in
    let deepest = g.W.Work.deepest_of w in
    let split = ap (λ r. c.loop-kid.yielded ++ r) (sym c.in-Some.ensures.steps.0) ∙ c.loop-kid.invariant.2 in
    let here : In c.in-Some.kid (kids c.args.piece) =
    subst (λ ks. In c.in-Some.kid ks) split (In-right c.in-Some.kid c.loop-kid.yielded (c.in-Some.kid ∷ c.next.new.self.rest.items) (inl refl)) in (
      tt,
      tt,
      append_assoc c.loop-kid.yielded (c.in-Some.kid ∷ []) c.next.new.self.rest.items ∙ split,
      walk_more (own_view kids (g.W.Work.out_of w)) (λ q. preorder kids (deepest - length c.args.piece.dir - 1) q) _ _ _ c.loop-kid.yielded c.in-Some.kid _
          c.loop-kid.invariant.3 c.in_ok-walk_from.ensures
          (kid_fuel kids deepest c.requires c.args.piece c.in-Some.kid here),
    )

pub returns : goal.returns
returns g t c =
    let w = c.args.work.now in
    walk_done g.W.Work.seen (g.W.Work.kids_of w) (g.W.Work.out_of w) (g.W.Work.deepest_of w) c.requires _ _ _ _ c.loop-kid.yielded c.loop-kid.kid-iterator.rest.items
    c.in_ok-push.ensures.items c.in_ok-kids.ensures.kids c.in_ok-kids.ensures.out (sym c.loop-kid.kid-iterator.rest.ok.0 ∙ c.in-None.ensures.steps.0) c.loop-kid.invariant.2 c.loop-kid.invariant.3
