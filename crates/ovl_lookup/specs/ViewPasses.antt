-- What the passes over the places of a view keep.
use Rattle.std.specs.Prelude.{◌≡◌, ℕ, suc, not, Option, Some, None, List, [], ◌∷◌, drop, filter, map}
use Rattle.std.specs.List.{All}
use Rattle.std.specs.Map.{lookup}
use Rattle.ovl_names.specs.Names.{PathName, name_eq}
use Rattle.ovl_names.specs.Paths.{PathNames, child_path}
use Rattle.ovl_inode.specs.declared.inodes.Inode.{Inode}
use Rattle.ovl_layer.specs.Layers.{Entries}
use Rattle.ovl_lookup.specs.declared.looks.Look.{Look}
use Rattle.ovl_lookup.specs.declared.tops.Top.{Top}
use Rattle.ovl_lookup.specs.Stacks.{StackView}
use Rattle.ovl_lookup.specs.Merged.{AreKids, look, shown_of, is_nothing}
use Rattle.ovl_lookup.specs.NamedLists.{AreInOrder}
use Rattle.ovl_lookup.specs.Views.{ReachedDirectory, entry_in, found_below}

-- the first place that has a name, by its number, and the inode there
pub record First : Type 0 where
  pub place : ℕ
  pub inode : Inode

-- the first of these places that has a name, by all layers of the stack; the first place has the
-- number `i`
abbrev pub first_in : List Entries → ℕ → List ReachedDirectory → PathName → Option First
first_in layers i [] name = None
first_in layers i (place ∷ rest) name =
    elim (entry_in layers name place) [
      | Some inode ↦ Some (record { place = i; inode = inode })
      | None ↦ first_in layers (suc i) rest name
    ]

-- all names in the directories of these places in order, each with the first place that has it
pub record AreTops (layers : List Entries) (i : ℕ) (places : List ReachedDirectory)
    (tops : List (PathName × First)) : Type 0 where
  pub in_order : AreInOrder tops
  pub each : (name : PathName) → lookup (name_eq name) tops ≡ first_in layers i places name

-- of two places that have one name, the upper
abbrev pub upper_place : First → First → First
upper_place upper lower = upper

-- the names of a pass with their places
abbrev pub top_told : Top → PathName × First
top_told top = (top.name.now, record { place = top.place; inode = top.inode.now })

abbrev pub tops_told : List Top → List (PathName × First)
tops_told tops = map top_told tops

-- what is shown at a name, from its first place on
abbrev pub look_from_top : StackView → List ReachedDirectory → PathName × First → PathName × Look
look_from_top stack places top =
    (top.0, shown_of stack.data_only (found_below stack.layers top.0 (drop top.1.place places)))

-- the names at which something is shown, with what is shown there
abbrev pub looks_from_tops : StackView → List ReachedDirectory → List (PathName × First)
    → List (PathName × Look)
looks_from_tops stack places tops =
    filter (λ e. not (is_nothing e.1)) (map (look_from_top stack places) tops)

-- the names in a directory of the merged tree in order, each with what is shown there
pub record AreLooks (stack : StackView) (path : PathNames)
    (looks : List (PathName × Look)) : Type 0 where
  pub names : AreKids stack path (map (λ e. e.0) looks)
  pub each : All (λ e. e.1 ≡ look stack (child_path path e.0)) looks
