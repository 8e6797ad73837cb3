-- The merged tree as a list.
use Rattle.std.specs.Prelude.{ℕ, ◌≡◌, ◌+◌, ◌-◌, ◌*◌, ◌<◌, true, false, List, [], ◌∷◌, ◌++◌, All, codes, drop, length}
use Rattle.std.specs.List.{flat_map}
use Rattle.ovl_names.specs.Paths.{PathNames, depth_limit}
use Rattle.ovl_names.specs.Escapes.{escaped}
use Rattle.ovl_layer.specs.Layers.{IsLayer}
use Rattle.ovl_lookup.specs.declared.looks.Look.{Look}
use Rattle.ovl_lookup.specs.Stacks.{StackView}
use Rattle.ovl_lookup.specs.Merged.{IsMerged, look, is_shown_directory}
use Rattle.ovl_lookup.specs.Passes.{looks_from, looks_placed}
use Rattle.ovl_board.specs.Parcels.{ParcelView}
use Rattle.ovl_reports.specs.declared.listings.Open.{Open}
use Rattle.ovl_reports.specs.Directories.{NamedLook, IsShowWalk}
use Rattle.ovl_reports.specs.Reports.{look_line, show_report}

-- the paths of the merged tree of a stack, in order, `/` first, each with what is shown there
abbrev pub merged_tree : StackView → List (PathNames × Look)
merged_tree stack = looks_placed [] (looks_from (depth_limit * length stack.layers + 1) stack [])

-- the report of `show` over this stack is that of its merged tree
pub record IsShowReport (stack : StackView) (report : List ℕ) : Type 0 where
  pub looks : List (PathNames × Look)
  pub merged : IsMerged stack looks
  pub printed : report ≡ show_report looks

-- this is what the stack shows at `/`, and these are the parcels of the walk over its merged tree
pub record IsTreeOf (stack : StackView) (root : Look)
    (parcels : List (ParcelView (List NamedLook))) : Type 0 where
  pub each : All IsLayer stack.layers
  pub some : 0 < length stack.layers
  pub root_is : root ≡ look stack []
  pub walk : IsShowWalk stack parcels

-- the line of an entry of a directory, by what is before the names in it
abbrev pub name_line : List ℕ → NamedLook → List ℕ
name_line above entry = look_line (above ++ (codes "/" ++ escaped entry.0)) entry.1

-- an open directory with one more of its entries listed
abbrev pub one_told : Open → Open
one_told directory = record directory { told = directory.told + 1 }

-- of these entries of a directory the first ones are listed, none of which is a directory, and the
-- others are left; those from number `first` on have their lines
pub record TellsLeaves (first : ℕ) (above : List ℕ) (entries left : List NamedLook) (told told' : ℕ)
    (lines lines' : List ℕ) : Type 0 where
  pub leaves : List NamedLook
  pub all : entries ≡ leaves ++ left
  pub are : All (λ entry. is_shown_directory entry.1 ≡ false) leaves
  pub counted : told' ≡ told + length leaves
  pub written : lines' ≡ lines ++ flat_map (name_line above) (drop (first - told) leaves)

-- the first of these entries, if there is one, is a directory
abbrev pub StartsAtDirectory : List NamedLook → Type 0
StartsAtDirectory entries =
    (entry : NamedLook) (others : List NamedLook) → entries ≡ entry ∷ others
    → is_shown_directory entry.1 ≡ true
