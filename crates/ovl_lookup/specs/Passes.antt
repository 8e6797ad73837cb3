-- What the passes over names and layers keep.
use Rattle.std.specs.Prelude.{◌≡◌, ℕ, zero, suc, ◌<◌, Bool, true, false, ◌||◌, Option, Some, None, List, [], ◌∷◌, ◌++◌, if◌then◌else◌, is_some, unwrap_or, length, filter, map, IfSome}
use Rattle.std.specs.Option.{option_map}
use Rattle.std.specs.List.{flat_map}
use Rattle.ovl_names.specs.Names.{PathName}
use Rattle.ovl_names.specs.NameSets.{put_names}
use Rattle.ovl_names.specs.Paths.{PathNames, child_path}
use Rattle.ovl_inode.specs.declared.inodes.Inode.{Inode}
use Rattle.ovl_inode.specs.declared.marks.Mark.{Mark}
use Rattle.ovl_inode.specs.Marks.{mark_of, is_metacopy, is_data}
use Rattle.ovl_layer.specs.Layers.{Entries, IsLayer, entry_at, is_directory_at, names_below}
use Rattle.ovl_layer.specs.Sheets.{path_at}
use Rattle.ovl_lookup.specs.declared.steps.Descent.{Descent}
use Rattle.ovl_lookup.specs.declared.steps.OwnDirectory.{OwnDirectory}
use Rattle.ovl_lookup.specs.declared.steps.Step.{Step}
use Rattle.ovl_lookup.specs.declared.steps.RopeStep.{RopeStep}
use Rattle.ovl_lookup.specs.declared.steps.OwnStep.{OwnStep}
use Rattle.ovl_lookup.specs.declared.steps.Arrival.{Arrival}
use Rattle.ovl_lookup.specs.declared.looks.Look.{Look}
use Rattle.ovl_lookup.specs.Walk.{walk, nothing_found, origin_path, name_in_lower, is_closing}
use Rattle.ovl_lookup.specs.Stacks.{StackView}
use Rattle.ovl_lookup.specs.declared.looks.Look.TheVariants.{Shown, Broken}
use Rattle.ovl_inode.specs.Inodes.{visible}
use Rattle.ovl_lookup.specs.Merged.{look, shows, without_blob, place_of_data, data_at_place}

-- the number of what a layer has at a path, if it has anything
abbrev pub IsNumberAt : Entries → PathNames → Option ℕ → Type 0
IsNumberAt layer path None = entry_at layer path ≡ None
IsNumberAt layer path (Some number) = (number < length layer) × (path_at layer number ≡ path)

-- a directory of a layer at a path, and how its walk goes on: by another path only if marks turn
-- its own
pub record IsOwnDirectory (layer : Entries) (path : PathNames) (own : OwnDirectory) : Type 0 where
  pub inside : own.row < length layer
  pub here : path_at layer own.row ≡ path
  pub directory : is_directory_at layer path ≡ true
  pub next : unwrap_or own.turned path ≡ (walk layer path).next
  pub closed : own.closed ≡ (walk layer path).closed

-- what a layer has at a path, a directory or something else, and how the walk goes on there
pub record IsOwnEntry (layer : Entries) (path : PathNames) (own : OwnDirectory) : Type 0 where
  pub inside : own.row < length layer
  pub here : path_at layer own.row ≡ path
  pub next : unwrap_or own.turned path ≡ (walk layer path).next
  pub closed : own.closed ≡ (walk layer path).closed

-- where a path stops that leads to a directory of a layer and goes on by these names
abbrev pub IsStop : Entries → PathNames → PathNames → Option ℕ → Type 0
IsStop layer above [] number = number ≡ None
IsStop layer above (name ∷ rest) number =
    (is_directory_at layer (child_path above name) ≡ false)
    × IsNumberAt layer (child_path above name) number

-- how far a path goes through directories of a layer
pub record IsDescent (layer : Entries) (path : PathNames) (descent : Descent) : Type 0 where
  pub layered : IsLayer layer
  pub above : PathNames
  pub rest : PathNames
  pub whole : above ++ rest ≡ path
  pub depth : descent.depth ≡ length above
  pub own : IsOwnDirectory layer above descent.own
  pub stop : IsStop layer above rest descent.number

-- the step that a walk along a rope gives, and that what it found has its mark
abbrev pub step_of : RopeStep → Step
step_of step = record {
  found = option_map (λ found. found.inode.now) step.found;
  next = step.next;
  closed = step.closed;
}

abbrev pub IsMarked : RopeStep → Type 0
IsMarked step = IfSome step.found (λ found. found.mark.now ≡ mark_of found.inode.now)

-- the same of a walk of this path that says where it goes on only if that is another path
abbrev pub own_step_of : PathNames → OwnStep → Step
own_step_of path step =
    record {
      found = option_map (λ found. found.inode.now) step.found;
      next = unwrap_or step.turned path;
      closed = step.closed;
    }

abbrev pub IsOwnMarked : OwnStep → Type 0
IsOwnMarked step = IfSome step.found (λ found. found.mark.now ≡ mark_of found.inode.now)

-- where the walk of a path leads that is no directory: nothing is found below, which goes on by its
-- own names
pub record IsPast (layer : Entries) (path next_lookup : PathNames) (hidden : Bool) : Type 0 where
  pub none : is_directory_at layer path ≡ false
  pub ended : hidden ≡ (is_some (entry_at layer path) || (walk layer path).closed)
  pub next : hidden ≡ false → next_lookup ≡ (walk layer path).next
  pub below : (name : PathName) (names : PathNames)
      → walk layer (path ++ name ∷ names) ≡ nothing_found (next_lookup ++ name ∷ names) hidden

-- where the walk of a path in a layer leads
abbrev pub IsArrivalAt : Entries → PathNames → Option ℕ → PathNames → Bool → Type 0
IsArrivalAt layer path (Some row) next closed =
    IsOwnDirectory layer path (record { row = row; turned = Some next; closed = closed })
IsArrivalAt layer path None next closed = IsPast layer path next closed

abbrev pub IsArrival : Entries → PathNames → Arrival → Type 0
IsArrival layer path arrival = IsArrivalAt layer path arrival.row arrival.next arrival.closed

-- the path and the flag in a directory of this mark, by those of its parent
abbrev pub entered_path : Mark → PathNames → PathName → PathNames
entered_path mark next name =
    unwrap_or (origin_path (Some mark)) (child_path next (name_in_lower (Some mark) name))

abbrev pub entered_closed : Mark → Bool → Bool
entered_closed mark closed =
    if is_some (origin_path (Some mark)) then false else (closed || is_closing (Some mark))

-- what is shown of a metacopy file, by its data
abbrev pub shown_with : Inode → Option Inode → Look
shown_with inode (Some contents) = Shown (record (visible inode) { kind = contents.kind })
shown_with inode None = Broken (record (visible inode) { kind = without_blob inode.kind })

-- the data below a metacopy file, by where that says that data-only layers have it, and by what is
-- found there
abbrev pub data_below : List Entries → Option PathNames → List Inode → Option Inode
data_below data_only place [] = data_at_place data_only place
data_below data_only place (inode ∷ below) =
    if is_metacopy inode then data_below data_only (place_of_data (mark_of inode)) below
    else if is_data inode then Some inode
    else None

-- the names that the layers themselves have directly below a path, along its walks
abbrev pub own_names_along : List Entries → PathNames → List PathName
own_names_along [] path = []
own_names_along (layer ∷ layers) path =
    names_below layer path
    ++ (if (walk layer path).closed then [] else own_names_along layers (walk layer path).next)

-- those of the layers' own names below which something is shown
abbrev pub kids_along : StackView → PathNames → List PathName
kids_along stack path =
    filter (λ name. shows stack (child_path path name))
    (put_names [] (own_names_along stack.layers path))

-- looks with `name` before each path
abbrev pub looks_under : PathName → List (PathNames × Look) → List (PathNames × Look)
looks_under name looks = map (λ e. (name ∷ e.0, e.1)) looks

-- looks with `path` before each path
abbrev pub looks_placed : PathNames → List (PathNames × Look) → List (PathNames × Look)
looks_placed path looks = map (λ e. (path ++ e.0, e.1)) looks

-- what is shown at a path and at most `depth` names under it, the paths counted from it
abbrev pub looks_from : ℕ → StackView → PathNames → List (PathNames × Look)
looks_from zero stack path = []
looks_from (suc depth) stack path =
    ([], look stack path)
    ∷ flat_map (λ name. looks_under name (looks_from depth stack (child_path path name)))
    (kids_along stack path)
