use Rattle.std.proofs.Common.{◌≡◌, ◌∙◌, Some, [], ◌∷◌, sym, ap}
use Rattle.ovl_inode.specs.declared.inodes.Inode.{Inode}
use Rattle.ovl_layer.specs.Layers.{Entries, entry_at}
use Rattle.ovl_merge.specs.Places.{merge_of}
use Rattle.ovl_merge.proofs.FinishLemmas.{merge-each, top-made}
use Rattle.ovl_merge.proofs.finish.MergeDone.over.Goals as goal

pub returns-clause-top : goal.returns-clause-top
returns-clause-top c stack several each made =
    let root : Inode = c.in_ok-root.root in
    let here : entry_at c.args.lower [] ≡ Some root =
    ap (λ (entries : Entries). entry_at entries []) (sym c.root.ensures.value) ∙ (c.inode.ensures ∙ ap (λ (inode : Inode). Some inode) (sym c.in_ok-root.ensures)) in
    c.in-Some.ensures ∙ (ap (λ (below : Entries). ([], root) ∷ below) c.none.ensures ∙ top-made (merge_of stack) (merge-each stack several each) c.args.lower made root here)
