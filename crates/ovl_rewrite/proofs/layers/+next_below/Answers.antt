use Rattle.std.proofs.Common.{◌≡◌, ◌∙◌, ◌≤◌, inl, inr, [], ◌∷◌, ◌++◌, Err, List, length, sym, ap, subst, arith, append_assoc, length-append}
use Rattle.std.specs.Prelude.{Vec}
use Rattle.std.specs.Global.{Global}
use Rattle.std.specs.declared.vec.IntoIter.{IntoIter}
use Rattle.std.proofs.lemmas.Result.{err_from_is_err_and}
use Rattle.std.specs.Vec.Iter.{into_iter_items}
use Rattle.ovl_layer.specs.LayerTrees.{under, entries_from}
use Rattle.ovl_board.specs.declared.works.Parcel.{Parcel}
use Rattle.ovl_board.specs.Parcels.{parcel_view, parcel_views}
use Rattle.ovl_rewrite.specs.Directories.{NamedInode, inodes_seen}
use Rattle.ovl_rewrite.specs.Passes.{InodesParcel}
use Rattle.ovl_rewrite.proofs.UnderLemmas.{WalksAmong, walk-ends, stops-among}
use Rattle.ovl_rewrite.proofs.NextLemmas.{next-walked, next-stops, walks-on, no-layer}
use Rattle.ovl_rewrite.proofs.layers.+next_below.Goals as goal
use Rattle.ovl_rewrite.proofs.layers.+next_below.Goals.{then-is_directory+in_ok-below, else-is_directory}

-- what is seen of the parcels that are left
abbrev views : IntoIter (Parcel (Vec NamedInode Global)) Global → List InodesParcel
views rest = parcel_views inodes_seen (into_iter_items rest)

pub loop-name-preserved : goal.loop-name-preserved
loop-name-preserved t c =
    let entry : NamedInode = (c.in-Some-2.name, c.in-Some-2.inode) in
    let walked =
    next-walked inodes_seen (into_iter_items c.args.rest.now) c.in-Some.field-0 (into_iter_items c.next.new.self) c.in-Some.ensures.items (views c.loop-name.rest) c.loop-name.yielded (into_iter_items c.loop-name.name-iterator) (into_iter_items c.next-in-loop-name.new.self) entry
    (sym c.into_iter-name-iterator.ensures.into_iter_gives.0 ∙ c.loop-name.invariant.2) c.in-Some-2.ensures.steps.0 c.loop-name.siblings c.loop-name.invariant.1 (views c.if-is_directory.rest) c.if-is_directory.below
    (elim c.if-is_directory.branch [
      | then-is_directory+in_ok-below w ↦ inl (sym c.is_directory.ensures ∙ w.if-is_directory.true, walks-on views (views c.loop-name.rest) _ _ _ _ w.rest-is w.below-is w.in_ok-below.ensures.entries)
      | else-is_directory w ↦ inr (sym c.is_directory.ensures ∙ w.if-is_directory.false, w.below-is ∙ w.none-below.ensures, ap views w.rest-is)
    ]) in
    let left : List NamedInode = into_iter_items c.next-in-loop-name.new.self in
    let fewer : length (into_iter_items c.if-is_directory.rest) ≤ length (into_iter_items c.loop-name.rest) =
    elim c.if-is_directory.branch [
      | then-is_directory+in_ok-below w ↦ omega (arith, ap (λ rest. length (into_iter_items rest)) w.rest-is, w.in_ok-below.ensures.fewer)
      | else-is_directory w ↦ omega (arith, ap (λ rest. length (into_iter_items rest)) w.rest-is)
    ] in (
      omega (arith, c.loop-name.invariant.0, fewer),
      subst (WalksAmong (views c.args.rest.now) (views c.if-is_directory.rest) (length (c.loop-name.yielded ++ entry ∷ []))) (sym c.in_ok-add.ensures.entries) walked,
      c.loop-name.invariant.2 ∙ (ap (λ (es : List NamedInode). c.loop-name.yielded ++ es) c.in-Some-2.ensures.steps.0 ∙ sym (append_assoc c.loop-name.yielded (entry ∷ []) left)),
    )

pub returns-in_err-add-clause-limit : goal.returns-in_err-add-clause-limit
returns-in_err-add-clause-limit t c is =
    let entry : NamedInode = (c.in-Some-2.name, c.in-Some-2.inode) in
    let walked =
    next-walked inodes_seen (into_iter_items c.args.rest.now) c.in-Some.field-0 (into_iter_items c.next.new.self) c.in-Some.ensures.items (views c.loop-name.rest) c.loop-name.yielded (into_iter_items c.loop-name.name-iterator) (into_iter_items c.next-in-loop-name.new.self) entry
    (sym c.into_iter-name-iterator.ensures.into_iter_gives.0 ∙ c.loop-name.invariant.2) c.in-Some-2.ensures.steps.0 c.loop-name.siblings c.loop-name.invariant.1 (views c.if-is_directory.rest) c.if-is_directory.below
    (elim c.if-is_directory.branch [
      | then-is_directory+in_ok-below w ↦ inl (sym c.is_directory.ensures ∙ w.if-is_directory.true, walks-on views (views c.loop-name.rest) _ _ _ _ w.rest-is w.below-is w.in_ok-below.ensures.entries)
      | else-is_directory w ↦ inr (sym c.is_directory.ensures ∙ w.if-is_directory.false, w.below-is ∙ w.none-below.ensures, ap views w.rest-is)
    ]) in
    let out = err_from_is_err_and c.from_residual-in_err-add.result c.from_residual-in_err-add.ensures.1 in
    let refused = no-layer c.in_err-add.field-0.0 c.from_residual-in_err-add.result (out.1 ∙ ap Err out.2) is in
    stops-among (views c.args.rest.now) (views c.if-is_directory.rest) (length (c.loop-name.yielded ++ entry ∷ [])) (c.loop-name.siblings ++ under entry.0 (entries_from entry.1 c.if-is_directory.below)) walked (c.in_err-add.ensures.refused (ap Err refused))

pub returns-in_err-below-clause-limit : goal.returns-in_err-below-clause-limit
returns-in_err-below-clause-limit t c is =
    let out = err_from_is_err_and c.from_residual-in_err-below.result c.from_residual-in_err-below.ensures.1 in
    let told = sym (out.1 ∙ ap Err out.2) ∙ is in
    next-stops inodes_seen (into_iter_items c.args.rest.now) c.in-Some.field-0 (into_iter_items c.next.new.self) c.in-Some.ensures.items (views c.loop-name.rest) c.loop-name.yielded (into_iter_items c.loop-name.name-iterator) (into_iter_items c.next-in-loop-name.new.self) (c.in-Some-2.name, c.in-Some-2.inode)
    (sym c.into_iter-name-iterator.ensures.into_iter_gives.0 ∙ c.loop-name.invariant.2) c.in-Some-2.ensures.steps.0 c.loop-name.siblings c.loop-name.invariant.1 (sym c.is_directory.ensures ∙ c.if-is_directory.true) (c.in_err-below.ensures.limit told)

pub returns-clause-entries : goal.returns-clause-entries
returns-clause-entries t c =
    let before : List InodesParcel = parcel_views inodes_seen (into_iter_items c.args.rest.now) in
    let view : InodesParcel = parcel_view inodes_seen c.in-Some.field-0 in
    let later : List InodesParcel = parcel_views inodes_seen (into_iter_items c.next.new.self) in
    let after : List InodesParcel = parcel_views inodes_seen (into_iter_items c.loop-name.rest) in
    let done : List NamedInode = c.loop-name.yielded in
    let left : List NamedInode = into_iter_items c.loop-name.name-iterator in
    let parts : view.seen ≡ done ++ left = sym c.into_iter-name-iterator.ensures.into_iter_gives.0 ∙ c.loop-name.invariant.2 in
    let all : length view.seen ≤ length done = omega (arith, ap length parts, length-append done left, c.loop-name.name-iterator.rest.ok.0, c.in-None.ensures.steps.0) in
    walk-ends before view later (ap (parcel_views inodes_seen) c.in-Some.ensures.items) after (length done) c.loop-name.siblings all c.loop-name.invariant.1
