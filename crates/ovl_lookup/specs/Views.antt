-- Views of directories: the layers that have a directory where the walks of a path come to it, and
-- how a view goes on with one more name.
use Rattle.std.specs.Prelude.{◌≡◌, ℕ, suc, ◌<◌, ◌≤◌, Bool, true, false, ◌||◌, Option, Some, None, List, [], ◌∷◌, if◌then◌else◌, length, drop, is_some, slice_get, IfSome, ⊤}
use Rattle.ovl_names.specs.Names.{PathName}
use Rattle.ovl_names.specs.Paths.{PathNames, child_path}
use Rattle.ovl_inode.specs.declared.inodes.Inode.{Inode}
use Rattle.ovl_inode.specs.declared.marks.Mark.{Mark}
use Rattle.ovl_inode.specs.declared.marks.Mark.TheVariants.{DirMoved, DirPlain, Meta}
use Rattle.ovl_inode.specs.declared.marks.Redirect.TheVariants.{To, Beside}
use Rattle.ovl_inode.specs.Marks.{mark_of, is_directory, is_whiteout}
use Rattle.ovl_layer.specs.Layers.{Entries, entry_at, is_directory_at}
use Rattle.ovl_lookup.specs.Walk.{walk, turn, is_shut}
use Rattle.ovl_lookup.specs.Trace.{things_found}
use Rattle.ovl_lookup.specs.Passes.{entered_path, entered_closed}

-- a layer that has a directory where the walks of a path come to it
pub record ReachedDirectory : Type 0 where
  pub layer : ℕ  -- its number in the stack
  pub path : PathNames  -- the directory's path in it
  pub next : PathNames  -- how its walk goes on
  pub closed : Bool

-- the view of a path over these layers, of which the first has this number: a layer that has
-- nothing there is passed over; a whiteout, a file and a walk that is closed end it
abbrev pub reached : List Entries → ℕ → PathNames → List ReachedDirectory
reached [] i path = []
reached (layer ∷ layers) i path =
    let step = walk layer path in
    if is_directory_at layer path
    then (record { layer = i; path = path; next = step.next; closed = step.closed })
    ∷ (if step.closed then [] else reached layers (suc i) step.next)
    else if is_some (entry_at layer path) || step.closed then []
    else reached layers (suc i) step.next

-- some layer has a directory there
abbrev pub is_reached : List ReachedDirectory → Bool
is_reached [] = false
is_reached (place ∷ places) = true

-- a place of such a view, by all layers of the stack: the layer has that directory, whose walk goes
-- on so
pub record IsPlace (layers : List Entries) (from : ℕ) (place : ReachedDirectory) : Type 0 where
  pub not_above : from ≤ place.layer
  pub inside : place.layer < length layers
  pub directory : IfSome (slice_get layers place.layer)
      (λ layer. is_directory_at layer place.path ≡ true)
  pub next : IfSome (slice_get layers place.layer) (λ layer. place.next ≡ turn layer place.path)
  pub closed : IfSome (slice_get layers place.layer)
      (λ layer. place.closed ≡ is_shut layer place.path)

-- after a place whose walk is closed there is none
abbrev pub EndsWhereClosed : List ReachedDirectory → Type 0
EndsWhereClosed [] = ⊤
EndsWhereClosed (place ∷ rest) = (place.closed ≡ true → rest ≡ []) × EndsWhereClosed rest

-- what is at a name in a directory that is reached, by all layers of the stack
abbrev pub entry_in : List Entries → PathName → ReachedDirectory → Option Inode
entry_in layers name place =
    elim (slice_get layers place.layer)
    [ Some layer ↦ entry_at layer (child_path place.path name) | None ↦ None ]

-- the directory of that name and mark in it
abbrev pub entered : PathName → Mark → ReachedDirectory → ReachedDirectory
entered name mark place = record {
  layer = place.layer;
  path = child_path place.path name;
  next = entered_path mark place.next name;
  closed = entered_closed mark place.closed;
}

-- what goes on below an entry of this name and mark: at a path from the root, beside it by a name,
-- or not at all
abbrev pub below_entry : {X : Type 0} → Mark → PathName → (PathNames → List X) → (PathName → List X)
    → List X
below_entry DirPlain name from_root beside = beside name
below_entry (DirMoved (Beside other)) name from_root beside = beside other
below_entry (DirMoved (To origin)) name from_root beside = from_root origin
below_entry (Meta None) name from_root beside = beside name
below_entry (Meta (Some (Beside other))) name from_root beside = beside other
below_entry (Meta (Some (To origin))) name from_root beside = from_root origin
below_entry _ name from_root beside = []

-- the view with one more name, by all layers of the stack and the view
abbrev pub reached_below : List Entries → PathName → List ReachedDirectory → List ReachedDirectory
reached_below layers name [] = []
reached_below layers name (place ∷ rest) =
    elim (entry_in layers name place) [
      | Some inode ↦
          if is_directory inode
          then entered name (mark_of inode) place
          ∷ below_entry (mark_of inode) name
          (reached (drop (suc place.layer) layers) (suc place.layer))
          (λ other. reached_below layers other rest)
          else []
      | None ↦ reached_below layers name rest
    ]

-- what is found with one more name
abbrev pub found_below : List Entries → PathName → List ReachedDirectory → List Inode
found_below layers name [] = []
found_below layers name (place ∷ rest) =
    elim (entry_in layers name place) [
      | Some inode ↦
          if is_whiteout inode then []
          else inode
          ∷ below_entry (mark_of inode) name (things_found (drop (suc place.layer) layers))
          (λ other. found_below layers other rest)
      | None ↦ found_below layers name rest
    ]
