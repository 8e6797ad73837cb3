-- The entries of a list of values, one after another, and the fields of a manifest.
use Rattle.std.proofs.Common.{◌≡◌, ◌∙◌, ℕ, suc, ◌+◌, ◌<◌, ◌≤◌, inl, inr, List, [], ◌∷◌, length, drop, get_or, true, false, Option, Ok, Err, refl, sym, ap, subst, arith}
use Rattle.std.proofs.lemmas.List.{at_drop_more}
use Rattle.std.specs.Prelude.{codes, option_and_then}
use Rattle.serde_json.specs.Data.{Data, Items, Num}
use Rattle.serde_json.specs.Find.{as_array, as_number, get}
use Rattle.serde_json.specs.View.{items_view, view}
use Rattle.serde_json.specs.declared.value.Value.{Value}
use Rattle.ovl_layer.specs.Layers.{Entry, Entries, entry_limit}
use Rattle.ovl_layer.specs.Entries.{entry_after, entries_after, layer_of_entries, IsFaultOf}
use Rattle.ovl_layer.specs.declared.faults.LayerFault.{LayerFault}
use Rattle.ovl_layer.specs.declared.faults.LayerFault.TheVariants.{NotJson, Shape, Version as WrongVersion, Count, Entry as WrongEntry, Order, NoParent, Root, Escaped, Memory}
use Rattle.ovl_layer.proofs.EntryLemmas.{counted, miscounted, one_taken}
use Rattle.ovl_manifest.specs.Fields.{entry_of, has_exactly}
use Rattle.ovl_manifest.specs.Manifest.{layer_of_fields, layer_of_value, stated_entries}
use Rattle.ovl_manifest.specs.declared.versions.Version.{Version}

-- what values state, one after another
abbrev pub stated : Version → List Value → List (Option Entry)
stated version values = stated_entries version (items_view values)

stated-count : (version : Version) (values : List Value) → length (stated version values) ≡ length values
stated-count version [] = refl
stated-count version (value ∷ values) = ap suc (stated-count version values)

pub no-values : (version : Version) (values : List Value) → length values ≡ 0 → layer_of_entries (stated version values) ≡ Err Count
no-values version values none = miscounted (stated version values) (inl (stated-count version values ∙ none))

pub many-values : (version : Version) (values : List Value) → entry_limit < length values → layer_of_entries (stated version values) ≡ Err Count
many-values version values many = miscounted (stated version values) (inr (omega (arith, stated-count version values, many)))

-- what is after entries whose next has a fault
refused-next : (before : Entries) (one : Option Entry) (more : List (Option Entry)) (fault : LayerFault) → IsFaultOf (entry_after before one) fault → IsFaultOf (entries_after before (one ∷ more)) fault
refused-next before one more Memory is = tt
refused-next before one more NotJson is = rw (is, entries_after) refl
refused-next before one more Shape is = rw (is, entries_after) refl
refused-next before one more WrongVersion is = rw (is, entries_after) refl
refused-next before one more Count is = rw (is, entries_after) refl
refused-next before one more (WrongEntry n) is = rw (is, entries_after) refl
refused-next before one more (Order n) is = rw (is, entries_after) refl
refused-next before one more (NoParent n) is = rw (is, entries_after) refl
refused-next before one more Root is = rw (is, entries_after) refl
refused-next before one more (Escaped n) is = rw (is, entries_after) refl

-- the first of these values and the others
module _ (version : Version) (values others : List Value) (root : Value) (is : values ≡ root ∷ others) (few : length values ≤ entry_limit) where
  begins : layer_of_entries (stated version values) ≡ entries_after [] (entry_of version (view root) ∷ stated version others)
  begins =
      let some : length values ≡ suc (length others) = ap length is in
      counted (stated version values) (omega (arith, stated-count version values, some)) (omega (arith, stated-count version values, few))
      ∙ ap (λ (all : List Value). entries_after [] (stated version all)) is

  pub first-taken : (entry : Option Entry) (entries : Entries) → entry ≡ entry_of version (view root) → entry_after [] entry ≡ Ok entries → entries_after entries (stated version others) ≡ layer_of_entries (stated version values)
  first-taken entry entries own taken = sym (begins ∙ one_taken [] (entry_of version (view root)) (stated version others) entries (ap (entry_after []) (sym own) ∙ taken))

  pub first-refused : (entry : Option Entry) (fault : LayerFault) → entry ≡ entry_of version (view root) → IsFaultOf (entry_after [] entry) fault → IsFaultOf (layer_of_entries (stated version values)) fault
  first-refused entry fault own told =
      subst (λ r. IsFaultOf r fault) (sym begins) (refused-next [] (entry_of version (view root)) (stated version others) fault (subst (λ (e : Option Entry). IsFaultOf (entry_after [] e) fault) own told))

-- the value at a place among others, and those after it
module _ (version : Version) (others : List Value) (i : ℕ) (value : Value) (inside : i < length others) (is : value ≡ get_or others i value) (before : Entries) (entry : Option Entry) (own : entry ≡ entry_of version (view value)) where
  goes-on : entries_after before (stated version (drop i others)) ≡ entries_after before (entry ∷ stated version (drop (i + 1) others))
  goes-on =
      at_drop_more (λ (all : List Value). entries_after before (stated version all)) others i value inside
      ∙ ap (λ (e : Option Entry). entries_after before (e ∷ stated version (drop (i + 1) others))) (ap (λ (v : Value). entry_of version (view v)) (sym is) ∙ sym own)

  pub next-taken : (entries : Entries) → entry_after before entry ≡ Ok entries → entries_after before (stated version (drop i others)) ≡ entries_after entries (stated version (drop (i + 1) others))
  next-taken entries taken = goes-on ∙ one_taken before entry (stated version (drop (i + 1) others)) entries taken

  pub next-refused : (fault : LayerFault) → IsFaultOf (entry_after before entry) fault → IsFaultOf (entries_after before (stated version (drop i others))) fault
  next-refused fault told = subst (λ r. IsFaultOf r fault) (sym goes-on) (refused-next before entry (stated version (drop (i + 1) others)) fault told)

-- ---- the fields of a manifest

abbrev names : List (List ℕ)
names = codes "entries" ∷ codes "overlay-layer" ∷ []

pub of_fields : (value : Data) (n : Option Num) (items : Option Items) → has_exactly names value ≡ true → option_and_then as_number (get (codes "overlay-layer") value) ≡ n → option_and_then as_array (get (codes "entries") value) ≡ items → layer_of_value value ≡ layer_of_fields n items
of_fields value n items has number list = rw (has, number, list, layer_of_value) refl

pub no_fields : (value : Data) → has_exactly names value ≡ false → layer_of_value value ≡ Err Shape
no_fields value has = rw (has, layer_of_value) refl
