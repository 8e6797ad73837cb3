-- What the passes of a visit keep, and what it finds in its directory.
use Rattle.std.proofs.Common.{◌≡◌, ℕ, ◌<◌, Bool, true, false, cond, Option, Some, None, List, [], ◌∷◌, ◌++◌, length, map, refl, sym, ap, ◌∙◌, subst, append_assoc}
use Rattle.std.specs.Prelude.{◌||◌, not, All}
use Rattle.std.specs.Option.{option_map}
use Rattle.std.specs.List.{list_all, cons_option, filter_map}
use Rattle.std.proofs.lemmas.List.{append-nil}
use Rattle.ovl_names.specs.Names.{PathName, name_eq}
use Rattle.ovl_names.specs.Order.{ascends}
use Rattle.ovl_names.specs.Paths.{PathNames, child_path}
use Rattle.ovl_names.proofs.Ascending.{both, ascends-across, ascends-filter}
use Rattle.ovl_inode.specs.declared.inodes.Inode.{Inode}
use Rattle.ovl_inode.specs.Attributes.{Attributes, attribute_cmp, is_attribute, are_attributes, with_attribute, redirect_name, metacopy_name}
use Rattle.ovl_inode.specs.Marks.{mark_of}
use Rattle.ovl_layer.specs.Layers.{Entries, IsLayer, entry_at, names_below}
use Rattle.ovl_layer.specs.LayerTrees.{entries_in, entries_under}
use Rattle.ovl_layer.proofs.NodeLemmas.{entry_at-under}
use Rattle.ovl_layer.specs.Sheets.{path_at}
use Rattle.ovl_layer.specs.RowsBelow.{NamedRow, LiesBelow, AreRowsBelow}
use Rattle.ovl_layer.proofs.SheetLemmas.{entries_under-child}
use Rattle.ovl_inode.proofs.AttributeLemmas.{put-last}
use Rattle.ovl_lookup.specs.Walk.{mark_at}
use Rattle.ovl_lookup.specs.Stacks.{StackView}
use Rattle.ovl_lookup.specs.Passes.{kids_along}
use Rattle.ovl_lookup.specs.ShownInodes.{shown_inodes}
use Rattle.ovl_lookup.specs.Sound.{is_moved}
use Rattle.ovl_lookup.specs.Words.{top_layer, lower_layers}
use Rattle.ovl_lookup.proofs.LawsOfWalks.{mark-child}
use Rattle.ovl_deref.specs.Deref.{full_attributes, dereferenced_inode}
use Rattle.ovl_deref.specs.Directories.{is_at_moved, new_at, names_in, named_inode, inodes_in}
use Rattle.ovl_deref.proofs.DerefLemmas.{any_prefix-child, any_prefix-under}
use Rattle.ovl_deref.proofs.DirectoryLemmas.{new-moved, new-own}

-- ---- the attributes of a full file, one after another

-- an attribute that is kept is put after those kept before it
pub full-put : (attrs full rest : Attributes) (attr : List ℕ × List ℕ) → are_attributes attrs ≡ true → full ++ attr ∷ full_attributes rest ≡ full_attributes attrs → with_attribute full attr.0 attr.1 ≡ full ++ attr ∷ []
full-put attrs full rest attr are whole =
    let up : ascends attribute_cmp (full_attributes attrs) ≡ true = ascends-filter attribute_cmp (λ other. not (name_eq other.0 metacopy_name || name_eq other.0 redirect_name)) attrs (both {a = list_all is_attribute attrs} {b = ascends attribute_cmp attrs} are).1 in
    put-last full attr.0 attr.1 (ascends-across attribute_cmp full attr (full_attributes rest) (ap (ascends attribute_cmp) whole ∙ up))

-- ---- the directories above one

nothing-there : (top : Entries) (path : PathNames) → entries_under path top ≡ [] → entry_at top path ≡ None
nothing-there top path none = entry_at-under path top ∙ ap (λ (entries : Entries). entry_at entries []) none

stays-free : (top : Entries) (path rest : PathNames) → entries_under path top ≡ [] → is_at_moved top path ≡ false → is_at_moved top (path ++ rest) ≡ false
stays-free top path [] none free = ap (is_at_moved top) (append-nil path) ∙ free
stays-free top path (name ∷ rest) none free =
    let below : entries_under (child_path path name) top ≡ [] = entries_under-child path name top ∙ ap (entries_in name) none in
    ap (is_at_moved top) (sym (append_assoc path (name ∷ []) rest))
    ∙ stays-free top (child_path path name) rest below
    (any_prefix-child (λ prefix. is_moved (mark_at top prefix)) path name
    ∙ (λ j. free j || is_moved (mark-child top path name None (nothing-there top (child_path path name) below) j)))

-- where there is nothing at a path, there is nothing under it
empty-under : (top : Entries) (path rest : PathNames) → entries_under path top ≡ [] → entries_under (path ++ rest) top ≡ []
empty-under top path [] none = ap (λ (p : PathNames). entries_under p top) (append-nil path) ∙ none
empty-under top path (name ∷ rest) none =
    ap (λ (p : PathNames). entries_under p top) (sym (append_assoc path (name ∷ []) rest))
    ∙ empty-under top (child_path path name) rest (entries_under-child path name top ∙ ap (entries_in name) none)

module _ (top : Entries) (above : PathNames) (name : PathName) (free : is_at_moved top above ≡ false) where
  pub moved-there : (b : Bool) → b ≡ is_moved (option_map mark_of (entry_at top (child_path above name))) → is_at_moved top (child_path above name) ≡ b
  moved-there b told =
      any_prefix-child (λ prefix. is_moved (mark_at top prefix)) above name
      ∙ (ap (λ c. c || is_moved (mark_at top (child_path above name))) free
      ∙ (ap is_moved (mark-child top above name (entry_at top (child_path above name)) refl) ∙ sym told))

  pub moved-above : (rest : PathNames) → true ≡ is_moved (option_map mark_of (entry_at top (child_path above name))) → is_at_moved top (above ++ name ∷ rest) ≡ true
  moved-above rest told =
      ap (is_at_moved top) (sym (append_assoc above (name ∷ []) rest))
      ∙ any_prefix-under (λ prefix. is_moved (mark_at top prefix)) (child_path above name) rest (moved-there true told)

  -- where the layer has nothing, it has nothing under it, and nothing at or under it is moved
  pub nothing-beyond : (rest : PathNames) → entries_under (child_path above name) top ≡ [] → entries_under (above ++ name ∷ rest) top ≡ []
  nothing-beyond rest none =
      ap (λ (p : PathNames). entries_under p top) (sym (append_assoc above (name ∷ []) rest))
      ∙ empty-under top (child_path above name) rest none

  pub nothing-moved : (rest : PathNames) → entries_under (child_path above name) top ≡ [] → is_at_moved top (above ++ name ∷ rest) ≡ false
  nothing-moved rest none =
      ap (is_at_moved top) (sym (append_assoc above (name ∷ []) rest))
      ∙ stays-free top (child_path above name) rest none
      (moved-there false (sym (ap (λ (found : Option Inode). is_moved (option_map mark_of found)) (nothing-there top (child_path above name) none))))

-- ---- a directory that isn't moved

module _ (stack : StackView) (path : PathNames) where
  -- the names in it, where neither it nor a directory above it is moved
  pub own-names : is_at_moved (top_layer stack) path ≡ false → names_in stack path ≡ names_below (top_layer stack) path
  own-names free = ap (λ b. cond b (kids_along stack path) (names_below (top_layer stack) path)) free

  pub none-listed : is_at_moved (top_layer stack) path ≡ false → names_below (top_layer stack) path ≡ [] → [] ≡ inodes_in stack path
  none-listed free none = sym (ap (filter_map (named_inode stack path)) (own-names free ∙ none))

-- ---- the rows directly below a directory, one after another

module _ (stack : StackView) (dir : PathNames) (free : is_at_moved (top_layer stack) dir ≡ false) where
  -- the entries that become of the rows that are left
  pub all-listed : (rows : List NamedRow) → AreRowsBelow (top_layer stack) dir rows → filter_map (named_inode stack dir) (map (λ row. row.1) rows) ≡ inodes_in stack dir
  all-listed rows are = ap (filter_map (named_inode stack dir)) (are.names ∙ sym (own-names stack dir free))

  pub row-listed : All IsLayer stack.layers → 0 < length stack.layers → (row : NamedRow) (rows : List NamedRow) (inode new : Inode) → entry_at (top_layer stack) (child_path dir row.1) ≡ Some inode → new ≡ dereferenced_inode (top_layer stack) (lower_layers stack) (child_path dir row.1) inode
      → filter_map (named_inode stack dir) (map (λ own. own.1) (row ∷ rows)) ≡ ((row.1, new) ∷ []) ++ filter_map (named_inode stack dir) (map (λ own. own.1) rows)
  row-listed each some row rows inode new there is =
      let made : new_at stack (child_path dir row.1) ≡ Some new =
      new-own stack each some dir row.1 free
      ∙ (ap (option_map (dereferenced_inode (top_layer stack) (lower_layers stack) (child_path dir row.1))) there ∙ ap (λ (i : Inode). Some i) (sym is)) in
      ap (λ (found : Option Inode). cons_option (option_map (λ i. (row.1, i)) found) (filter_map (named_inode stack dir) (map (λ (own : NamedRow). own.1) rows))) made

-- the entry of a row is at its name
pub row-entry : (sheet top : Entries) (dir : PathNames) (row : NamedRow) (inode : Inode) → sheet ≡ top → LiesBelow top dir row → entry_at sheet (path_at sheet row.0) ≡ Some inode → entry_at top (child_path dir row.1) ≡ Some inode
row-entry sheet top dir row inode same below there = ap (entry_at top) (sym below.1) ∙ subst (λ (l : Entries). entry_at l (path_at l row.0) ≡ Some inode) same there

-- ---- what is shown in a directory

-- at and in a moved directory the entries are what is shown
module _ (stack : StackView) (each : All IsLayer stack.layers) (some : 0 < length stack.layers) (dir : PathNames) (moved : is_at_moved (top_layer stack) dir ≡ true) where
  pub moved-listed : shown_inodes stack dir ≡ inodes_in stack dir
  moved-listed =
      (λ j. filter_map (λ name. option_map (λ inode. (name, inode)) (sym (new-moved stack each some dir name moved) j)) (kids_along stack dir))
      ∙ sym (ap (λ b. filter_map (named_inode stack dir) (cond b (kids_along stack dir) (names_below (top_layer stack) dir))) moved)
