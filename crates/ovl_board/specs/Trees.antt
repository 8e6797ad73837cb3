-- A tree of listed paths, as work.
use Rattle.std.specs.Prelude.{◌≡◌, ℕ, ◌==◌, Bool, true, ◌&&◌, not, if◌then◌else◌, List, [], Some, IfSome, length, filter, map, fold, max, All, AllPairs, Contains, slice_get}
use Rattle.std.specs.Ordering.{is_lt}
use Rattle.std.specs.List.{starts_with, AllAdjacentBelow}
use Rattle.std.specs.declared.cmp.Ordering.TheVariants.{Less}
use Rattle.ovl_names.specs.Names.{name_eq}
use Rattle.ovl_names.specs.Paths.{PathNames, path_cmp, path_eq, is_root, parent_path, parent_of}
use Rattle.ovl_board.specs.declared.pieces.Piece.{Piece}
use Rattle.ovl_board.specs.Pieces.{piece_at}

-- the first path is the root, the paths ascend strictly, and the parent of each is listed
pub record HasTreeShape (paths : List PathNames) : Type 0 where
  pub root : slice_get paths 0 ≡ Some []
  pub ascend : AllPairs (λ d e. path_cmp d e ≡ Less) paths
  pub parents : All (λ path. IfSome (parent_of path) (Contains paths)) paths

-- the path lies one name below the directory
abbrev pub is_child : PathNames → PathNames → Bool
is_child dir path = not (is_root path) && path_eq (parent_path path) dir

abbrev pub children : List PathNames → PathNames → List PathNames
children paths dir = filter (λ path. is_child dir path) paths

-- the kids of a piece of space 0: the listed paths one name below it
abbrev pub tree_kids : List PathNames → Piece → List Piece
tree_kids paths p = if p.space == 0 then map (piece_at 0) (children paths p.dir) else []

-- the most names of a listed path
abbrev pub deepest_path : List PathNames → ℕ
deepest_path paths = fold (λ most path. max most (length path)) 0 paths

-- a path that may stand right after another one: it comes after it, and its parent is that one or
-- lies above it
abbrev pub is_next : PathNames → PathNames → Bool
is_next before path = is_lt (path_cmp before path) && starts_with name_eq before (parent_path path)

abbrev pub EachFollows : List PathNames → Type 0
EachFollows paths =
    AllAdjacentBelow (λ before path. is_next before path ≡ true) paths (length paths)
