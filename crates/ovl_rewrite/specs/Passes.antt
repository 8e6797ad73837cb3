-- The entries of a tree that is given directory by directory, and how they are taken from the
-- parcels of its plain walk.
use Rattle.std.specs.Prelude.{◌≡◌, ◌≤◌, ℕ, zero, suc, ◌-◌, false, List, [], ◌∷◌, ◌++◌, length, map, Contains}
use Rattle.std.specs.List.{flat_map}
use Rattle.ovl_names.specs.Paths.{PathNames, child_path}
use Rattle.ovl_inode.specs.Marks.{is_directory}
use Rattle.ovl_layer.specs.Layers.{Entries}
use Rattle.ovl_layer.specs.LayerTrees.{placed}
use Rattle.ovl_layer.specs.SubtreeBuilder.{CanStand}
use Rattle.ovl_layer.specs.declared.faults.SubtreeFault.{SubtreeFault}
use Rattle.ovl_layer.specs.declared.faults.SubtreeFault.TheVariants.{NoLayer, Memory as NoMemory}
use Rattle.ovl_board.specs.declared.pieces.Piece.{Piece}
use Rattle.ovl_board.specs.Pieces.{HasLawfulKids}
use Rattle.ovl_board.specs.Walks.{preorder}
use Rattle.ovl_board.specs.Parcels.{ParcelView, own_view}
use Rattle.ovl_rewrite.specs.Directories.{NamedInode, directories_among}
use Rattle.ovl_rewrite.specs.declared.faults.RewriteFault.{RewriteFault}
use Rattle.ovl_rewrite.specs.declared.faults.RewriteFault.TheVariants.{LimitOut, Memory}

-- a tree by its directories: the entries in each
abbrev pub TreeEntries : Type 0
TreeEntries = PathNames → List NamedInode

abbrev pub tree_kids : TreeEntries → Piece → List Piece
tree_kids tree piece = directories_among piece (tree piece.dir)

abbrev pub tree_out : TreeEntries → Piece → List NamedInode
tree_out tree piece = tree piece.dir

-- its directories are lawful pieces, it ends at a depth, and what is no directory has no entries
pub record IsTree (tree : TreeEntries) (deepest : ℕ) : Type 0 where
  pub lawful : HasLawfulKids (tree_kids tree) deepest
  pub bounded : (directory : PathNames) → deepest ≤ length directory → tree directory ≡ []
  pub files : (directory : PathNames) (entry : NamedInode) → Contains (tree directory) entry
      → is_directory entry.1 ≡ false → tree (child_path directory entry.0) ≡ []

-- the entries at most `depth` names below a directory, in path order
abbrev pub entries_under : TreeEntries → ℕ → PathNames → Entries
entries_under tree zero directory = []
entries_under tree (suc depth) directory =
    flat_map (λ entry. (child_path directory entry.0, entry.1)
    ∷ entries_under tree depth (child_path directory entry.0)) (tree directory)

-- what is seen of a directory's parcel, and the parcels of a directory and of what lies under it
abbrev pub InodesParcel : Type 0
InodesParcel = ParcelView (List NamedInode)

abbrev pub views_under : TreeEntries → ℕ → Piece → List InodesParcel
views_under tree deepest piece =
    map (own_view (tree_kids tree) (tree_out tree))
    (preorder (tree_kids tree) (deepest - length piece.dir) piece)

-- where parcels begin with those of a directory of a tree, these are taken off, and the entries
-- under it are these, with their paths counted from it
abbrev pub WalksUnder : List InodesParcel → List InodesParcel → Entries → Type 0
WalksUnder before after below =
    (tree : TreeEntries) (deepest : ℕ) → IsTree tree deepest
    → (piece : Piece) (rest : List InodesParcel)
    → before ≡ views_under tree deepest piece ++ rest →
    (after ≡ rest)
    × (placed piece.dir below ≡ entries_under tree (deepest - length piece.dir) piece.dir)

-- where parcels begin with those of a directory of a tree, no layer has the entries under it
abbrev pub StopsUnder : List InodesParcel → Type 0
StopsUnder before =
    (tree : TreeEntries) (deepest : ℕ) → IsTree tree deepest
    → (piece : Piece) (rest : List InodesParcel)
    → before ≡ views_under tree deepest piece ++ rest
    → CanStand (entries_under tree (deepest - length piece.dir) piece.dir) → ⊥

-- what it says that entries aren't put together
abbrev pub failed_subtree : SubtreeFault → RewriteFault
failed_subtree NoLayer = LimitOut
failed_subtree NoMemory = Memory
