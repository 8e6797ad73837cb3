use Rattle.std.proofs.Common.{◌≡◌, ◌++◌, [], ◌∙◌, ℕ, List, Some, true, false, take, refl, sym, ap, append_assoc}
use Rattle.std.proofs.lemmas.List.{take_all}
use Rattle.serde_json.specs.Written.{compact_text}
use Rattle.ovl_manifest.specs.Compact.{entries_text}
use Rattle.ovl_inode.specs.declared.inodes.Inode.{Inode}
use Rattle.ovl_layer.specs.Layers.{Entries, entry_at}
use Rattle.ovl_layer.specs.LayerTrees.{NodeView, entries_of_nodes, under, entries_from}
use Rattle.ovl_manifest.specs.Text.{entry_value}
use Rattle.ovl_layer.proofs.NodeLemmas.{entries_of_nodes-more, placed_at-under}
use Rattle.ovl_manifest.proofs.CompactLemmas.{Grows, onto, entries-append}
use Rattle.ovl_manifest.proofs.writing.push_entries.Goals as goal

pub loop-child-preserved : goal.loop-child-preserved
loop-child-preserved c =
    let nodes : List NodeView = c.children-child-items.result.now in
    let node : NodeView = c.child-item.result in
    let done : Entries = entries_of_nodes (take c.loop-child.child-index nodes) in
    let own : Entries = under node.name (entries_from node.inode node.below) in
    let before : List ℕ = c.push_entry.new.text.items in
    let more = entries_of_nodes-more nodes c.loop-child.child-index node c.loop-child-test.true c.child-item.is in
    let below = placed_at-under node.name (entries_from node.inode node.below) in (
      c.in_ok-push_under.ensures.text [] c.loop-child.invariant.1
          ∙ ((λ j. c.loop-child.invariant.0 j ++ entries_text true (below j))
          ∙ (append_assoc before (entries_text true done) (entries_text true own)
          ∙ ap (λ (t : List ℕ). before ++ t) (sym (entries-append done own) ∙ ap (entries_text true) (sym more)))),
      c.in_ok-push_under.ensures.path ∙ c.loop-child.invariant.1,
    )

pub returns : goal.returns
returns c =
    let nodes : List NodeView = c.children-child-items.result.now in
    let before : List ℕ = c.args.text.now.items in
    let inode : Inode = c.children-child-items.ensures.0 in
    let below : Entries = entries_of_nodes (take c.loop-child.child-index nodes) in
    let whole : entries_from inode below ≡ c.args.layer.now =
    ap (λ (ns : List NodeView). entries_from inode (entries_of_nodes ns)) (take_all c.loop-child.child-index nodes c.loop-child-test.false)
    ∙ (sym c.children-child-items.ensures.1 ∙ c.root-root.ensures.value) in
    let at : Some inode ≡ Some c.inode.result.now = ap (λ (entries : Entries). entry_at entries []) (sym c.children-child-items.ensures.1) ∙ c.inode.ensures in
    let same : c.inode.result.now ≡ inode = cc in
    let root : Grows before (compact_text (entry_value ([], inode))) (c.push_entry.new.text.items) =
    record { is = c.in_ok-push_entry.ensures [] refl ∙ ap (λ (own : Inode). before ++ compact_text (entry_value ([], own))) same } in
    let rest : Grows (c.push_entry.new.text.items) (entries_text true below) (c.loop-child.text.items) = record { is = c.loop-child.invariant.0 } in
    (onto root rest).is ∙ ap (λ (es : Entries). before ++ entries_text false es) whole
