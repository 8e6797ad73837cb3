-- What a builder's list of open directories says of its entries.
use Rattle.std.proofs.Common.{◌≡◌, ℕ, zero, suc, ◌-◌, ◌<◌, ◌≤◌, length, take, get_or, Bool, true, false, List, [], ◌∷◌, ◌++◌, map, refl, sym, ap, ◌∙◌, subst, append_assoc, vec_len, Option, Some, None, arith}
use Rattle.std.proofs.lemmas.List.{length-map}
use Rattle.std.specs.List.{list_all}
use Rattle.std.specs.Ordering.{is_lt}
use Rattle.ovl_names.specs.Names.{PathName}
use Rattle.ovl_names.specs.Paths.{PathNames, path_cmp, path_eq, parent_path, child_path, has_names}
use Rattle.ovl_names.specs.Order.{ascends}
use Rattle.ovl_names.proofs.Ascending.{both, list_all-front}
use Rattle.ovl_inode.specs.declared.inodes.Inode.{Inode}
use Rattle.ovl_inode.specs.Marks.{is_directory}
use Rattle.ovl_layer.specs.Layers.{Entry, Entries, entry_cmp, entry_at, is_directory_at}
use Rattle.ovl_layer.specs.LayerTrees.{NodeView, entries_from, entries_of_nodes}
use Rattle.ovl_layer.specs.Entries.{comes_after}
use Rattle.ovl_layer.specs.LayerBuilders.{entries_of_open, builder_entries, inode_on_way, IsLayerBuilder}
use Rattle.ovl_layer.specs.declared.layer_builders.LayerBuilder.{LayerBuilder}
use Rattle.ovl_layer.proofs.OpenLemmas.{opened, entry_at-on_way}
use Rattle.ovl_layer.proofs.LayerLemmas.{parent_on_way, no_parent-deep, no_parent-other, comes_after-last}

-- the names of a list of open directories, as a path
abbrev pub names_of : List NodeView → PathNames
names_of open_dirs = map (λ node. node.name) open_dirs

name-at : (open_dirs : List NodeView) (k : ℕ) (d : NodeView) → k < length open_dirs → get_or (names_of open_dirs) k d.name ≡ (get_or open_dirs k d).name
name-at [] k d inside = absurd (omega (arith, inside))
name-at (node ∷ open_dirs) zero d inside = refl
name-at (node ∷ open_dirs) (suc k) d inside = name-at open_dirs k d (omega (arith, inside))

module _ (builder : LayerBuilder) (is : IsLayerBuilder builder) where
  pub open_dirs_length : length builder.last ≡ vec_len builder.open_dirs
  open_dirs_length = ap length (sym is.spelled) ∙ (length-map builder.open_dirs.items (λ (node : NodeView). node.name) ∙ sym builder.open_dirs.ok.0)

  -- what comes after all entries comes after the last
  pub after-is_last : (path : PathNames) → comes_after (builder_entries builder) path ≡ is_lt (path_cmp builder.last path)
  after-is_last path =
      ap (λ (es : Entries). comes_after es path) is.ends.2
      ∙ comes_after-last is.ends.0 builder.last path is.ends.1 (subst (λ (es : Entries). ascends entry_cmp es ≡ true) is.ends.2 is.layer.in_order)

  pub after_last : (path : PathNames) → comes_after (builder_entries builder) path ≡ true → is_lt (path_cmp builder.last path) ≡ true
  after_last path after = sym (after-is_last path) ∙ after

  -- the last path is made of names, which the list of open directories has
  pub last_named : has_names builder.last ≡ true
  last_named =
      let all = subst (λ (es : Entries). list_all (λ entry. has_names entry.0) es ≡ true) is.ends.2 is.layer.named in
      let here = (list_all-front (λ (entry : Entry). has_names entry.0) is.ends.0 ((builder.last, is.ends.1) ∷ []) all).1 in
      (both {a = has_names builder.last} {b = true} here).0

  pub name-on_way : (depth : ℕ) (d : NodeView) → depth < length builder.last → (get_or builder.open_dirs.items depth d).name ≡ get_or builder.last depth d.name
  name-on_way depth d inside =
      sym (name-at builder.open_dirs.items depth d (omega (arith, inside, ap length is.spelled, length-map builder.open_dirs.items (λ (node : NodeView). node.name))))
      ∙ ap (λ (path : PathNames). get_or path depth d.name) is.spelled

  pub directory-above : (depth : ℕ) → depth ≤ length builder.last → is_directory_at (builder_entries builder) (take depth builder.last) ≡ is_directory (inode_on_way builder.inode builder.open_dirs.items depth)
  directory-above depth inside =
      let at = entry_at-on_way builder.inode (entries_of_nodes builder.children.items) builder.open_dirs.items depth is.layer.in_order (omega (arith, inside, ap length is.spelled, length-map builder.open_dirs.items (λ (node : NodeView). node.name))) in
      ap (λ (o : Option Inode). elim o as (λ _. Bool) [ Some inode ↦ is_directory inode | None ↦ false ])
      (ap (λ (names : PathNames). entry_at (builder_entries builder) (take depth names)) (sym is.spelled) ∙ at)

  module _ (path : PathNames) (after : is_lt (path_cmp builder.last path) ≡ true) where
    pub deep : vec_len builder.open_dirs < length path - 1 → is_directory_at (builder_entries builder) (parent_path path) ≡ false
    deep past = no_parent-deep (builder_entries builder) is.ends.0 builder.last path is.ends.1 is.ends.2 is.layer.in_order after (rw open_dirs_length past)

    pub other : path_eq (take (length path - 1) path) (take (length path - 1) builder.last) ≡ false → is_directory_at (builder_entries builder) (parent_path path) ≡ false
    other differs = no_parent-other (builder_entries builder) is.ends.0 builder.last path is.ends.1 is.ends.2 is.layer.in_order after differs

    pub parent : is_directory_at (builder_entries builder) (parent_path path) ≡ true → (length path - 1 ≤ vec_len builder.open_dirs) × (take (length path - 1) builder.last ≡ parent_path path)
    parent there =
        let way = parent_on_way (builder_entries builder) is.ends.0 builder.last path is.ends.1 is.ends.2 is.layer.in_order after there in
        (subst (λ (n : ℕ). length path - 1 ≤ n) open_dirs_length way.1, way.0)

-- one more node of the list of open directories is one more entry
pub opened_builder : (inode : Inode) (nodes open_dirs more : List NodeView) (name : PathName) (own : Inode) (path : PathNames) → more ≡ open_dirs ++ (record { name = name; inode = own; below = [] }) ∷ [] → child_path (names_of open_dirs) name ≡ path → entries_from inode (entries_of_nodes nodes ++ entries_of_open more) ≡ entries_from inode (entries_of_nodes nodes ++ entries_of_open open_dirs) ++ (path, own) ∷ []
opened_builder inode nodes open_dirs more name own path pushed spelled =
    let node : NodeView = record { name = name; inode = own; below = [] } in
    ap (λ (below : Entries). entries_from inode (entries_of_nodes nodes ++ below))
    (ap entries_of_open pushed ∙ (opened open_dirs node ∙ (λ j. entries_of_open open_dirs ++ (spelled j, own) ∷ [])))
    ∙ ap (λ (below : Entries). entries_from inode below) (sym (append_assoc (entries_of_nodes nodes) (entries_of_open open_dirs) ((path, own) ∷ [])))

pub no_names : (open_dirs : List NodeView) → names_of open_dirs ≡ [] → open_dirs ≡ []
no_names [] none = refl
no_names (node ∷ open_dirs) none = let bad : node.name ∷ names_of open_dirs ≡ [] = none in cc
