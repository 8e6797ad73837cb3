-- The names of blobs that layers state.
use Rattle.std.specs.Prelude.{◌≡◌, ◌↔◌, ℕ, true, Some, None, List, [], ◌∷◌, Contains}
use Rattle.std.specs.List.{flat_map}
use Rattle.ovl_names.specs.Order.{ascends}
use Rattle.ovl_inode.specs.declared.inodes.Inode.{Inode}
use Rattle.ovl_inode.specs.Kinds.{blob_of}
use Rattle.ovl_layer.specs.Layers.{Entries}
use Rattle.ovl_lookup.specs.Stacks.{StackView, all_layers}
use Rattle.ovl_blobs.specs.Blobs.{digest_cmp}

-- the name of an inode's blob, where it has one
abbrev pub name_in : Inode → List (List ℕ)
name_in inode = elim (blob_of inode) as (λ _. List (List ℕ)) [ Some name ↦ name ∷ [] | None ↦ [] ]

-- the names that a layer states, by its entries
abbrev pub names_in : Entries → List (List ℕ)
names_in layer = flat_map (λ entry. name_in entry.1) layer

-- a layer of the stack states this name
abbrev pub IsStated : StackView → List ℕ → Type 0
IsStated stack name = Contains (flat_map names_in (all_layers stack)) name

-- these are the names that a stack's layers state, ascending, each once
pub record AreStated (stack : StackView) (names : List (List ℕ)) : Type 0 where
  pub ascend : ascends digest_cmp names ≡ true
  pub same : (name : List ℕ) → Contains names name ↔ IsStated stack name
