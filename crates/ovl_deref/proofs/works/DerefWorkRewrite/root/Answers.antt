use Rattle.std.proofs.Common.{◌≡◌, ◌∙◌, Some, [], sym, ap, subst}
use Rattle.std.proofs.lemmas.Result.{IfOk-weaker}
use Rattle.ovl_inode.specs.declared.inodes.Inode.{Inode}
use Rattle.ovl_layer.specs.Layers.{Entries, entry_at}
use Rattle.ovl_lookup.specs.Stacks.{StackView}
use Rattle.ovl_lookup.specs.Sound.{IsSoundStack}
use Rattle.ovl_lookup.specs.Words.{top_layer}
use Rattle.ovl_board.specs.Parcels.{parcel_views}
use Rattle.ovl_rewrite.specs.Directories.{inodes_seen}
use Rattle.ovl_rewrite.specs.Limits.{IsLayerWithinLimits}
use Rattle.ovl_deref.specs.Directories.{new_at}
use Rattle.ovl_deref.proofs.FinishLemmas.{walk-tells, new-made}
use Rattle.ovl_deref.proofs.works.DerefWorkRewrite.root.Goals as goal

pub returns-clause-told : goal.returns-clause-told
returns-clause-told c =
    let stack = c.self.inside.stack.now in
    let own : entry_at (top_layer stack) [] ≡ Some c.inode.result.now = ap (λ (entries : Entries). entry_at entries []) (sym (c.root.ensures.value ∙ c.top.ensures.value)) ∙ c.inode.ensures in
    rw (← c.self.view_is) (IfOk-weaker c.copy.result _ _ (λ root is parcels walk.
    walk-tells stack c.top.ensures.each c.top.ensures.some root (parcel_views inodes_seen parcels) (own ∙ ap (λ (inode : Inode). Some inode) (sym is)) walk) c.copy.ensures)

pub returns-clause-made : goal.returns-clause-made
returns-clause-made c =
    let stack = c.self.inside.stack.now in
    let made = subst (λ (s : StackView). IsSoundStack s → IsLayerWithinLimits (new_at s)) c.self.view_is
    (new-made stack c.top.ensures.each c.top.ensures.some c.ordinary-layers.ensures.data_only) in
    IfOk-weaker c.copy.result _ _ (λ root is. made) c.copy.ensures
