-- What a visit of vacuum knows of its directory.
use Rattle.std.specs.Prelude.{◌≡◌, ◌<◌, ◌||◌, Bool, true, false, not, Option, MatchOption, length}
use Rattle.ovl_names.specs.Paths.{PathNames}
use Rattle.ovl_inode.specs.declared.marks.Mark.{Mark}
use Rattle.ovl_inode.specs.declared.marks.Mark.TheVariants.{Meta, MetaBad}
use Rattle.ovl_layer.specs.Layers.{is_directory_at}
use Rattle.ovl_layer.specs.Sheets.{path_at}
use Rattle.ovl_lookup.specs.declared.views.DirView.{DirView}
use Rattle.ovl_lookup.specs.Walk.{walk}
use Rattle.ovl_lookup.specs.Stacks.{StackView}
use Rattle.ovl_lookup.specs.Merged.{shows_directory}
use Rattle.ovl_lookup.specs.DirViews.{IsViewOf}
use Rattle.ovl_lookup.specs.Words.{top_layer, lower_layers}
use Rattle.ovl_board.specs.declared.pieces.Piece.{Piece}
use Rattle.ovl_vacuum.specs.declared.directories.TopDirectory.{TopDirectory}

-- the view of the layers below the topmost one at a path; none where they are hidden or show no
-- directory there
abbrev pub IsBelowTop : StackView → PathNames → Bool → Option DirView → Type 0
IsBelowTop stack next closed found =
    MatchOption found ((closed || not (shows_directory (lower_layers stack) next)) ≡ true)
    (λ view. (closed ≡ false) × IsViewOf stack 1 next view)

-- a piece's directory in the topmost layer: its row, and what lies below where its walk goes on
pub record IsTopDirectory (stack : StackView) (piece : Piece) (directory : TopDirectory) : Type 0 where
  pub over : directory.stack.now ≡ stack
  pub stands : directory.piece.now ≡ piece
  pub inside : directory.row < length (top_layer stack)
  pub here : path_at (top_layer stack) directory.row ≡ piece.dir
  pub holds : is_directory_at (top_layer stack) piece.dir ≡ true
  pub below : IsBelowTop stack (walk (top_layer stack) piece.dir).next
      (walk (top_layer stack) piece.dir).closed directory.below

-- a metacopy file's, whatever its redirect says
abbrev pub is_metacopy : Mark → Bool
is_metacopy (Meta redirect) = true
is_metacopy MetaBad = true
is_metacopy _ = false
