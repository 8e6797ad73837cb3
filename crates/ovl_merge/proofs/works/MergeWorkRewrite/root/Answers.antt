use Rattle.std.proofs.Common.{◌≡◌, ◌∙◌, Some, [], sym, ap, subst}
use Rattle.std.specs.Option.{option_map}
use Rattle.std.proofs.lemmas.Result.{IfOk-weaker}
use Rattle.ovl_inode.specs.declared.inodes.Inode.{Inode}
use Rattle.ovl_inode.specs.Inodes.{visible}
use Rattle.ovl_layer.specs.Layers.{Entries, entry_at}
use Rattle.ovl_lookup.specs.Stacks.{StackView}
use Rattle.ovl_lookup.specs.Sound.{IsSoundStack}
use Rattle.ovl_lookup.specs.Words.{top_layer}
use Rattle.ovl_board.specs.Parcels.{parcel_views}
use Rattle.ovl_rewrite.specs.Directories.{inodes_seen}
use Rattle.ovl_rewrite.specs.Limits.{IsLayerWithinLimits}
use Rattle.ovl_merge.specs.Places.{merge_of}
use Rattle.ovl_merge.specs.MergeDown.{merged_entry}
use Rattle.ovl_merge.proofs.FinishLemmas.{merge-each, merge-sound, walk-tells}
use Rattle.ovl_merge.proofs.LayerLemmas.{MergeGivesLayer-holds}
use Rattle.ovl_merge.proofs.works.MergeWorkRewrite.root.Goals as goal

pub returns-clause-told : goal.returns-clause-told
returns-clause-told c =
    let stack = c.self.inside.stack.now in
    let own : entry_at (top_layer stack) [] ≡ Some c.inode.result.now = ap (λ (entries : Entries). entry_at entries []) (sym (c.root.ensures.value ∙ c.top.ensures.value)) ∙ c.inode.ensures in
    rw (← c.self.view_is) (IfOk-weaker c.visible.result _ _ (λ root is parcels walk.
    walk-tells (merge_of stack) (merge-each stack c.self.invariant c.top.ensures.each) root (parcel_views inodes_seen parcels) (ap (option_map visible) own ∙ ap (λ (inode : Inode). Some inode) (sym is)) walk) c.visible.ensures)

pub returns-clause-made : goal.returns-clause-made
returns-clause-made c =
    let stack = c.self.inside.stack.now in
    let made = subst (λ (s : StackView). IsSoundStack s → IsLayerWithinLimits (merged_entry (merge_of s))) c.self.view_is
    (λ sound. MergeGivesLayer-holds (merge_of stack) (merge-each stack c.self.invariant c.top.ensures.each) c.ordinary-layers.ensures.data_only (merge-sound stack c.self.invariant sound)) in
    IfOk-weaker c.visible.result _ _ (λ root is. made) c.visible.ensures
