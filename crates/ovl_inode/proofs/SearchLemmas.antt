-- What a search among the places of attributes finds, and the value at what it found.
use Rattle.std.proofs.Common.{◌≡◌, ◌∙◌, ℕ, zero, suc, ◌<◌, ◌≤◌, ◌⊎◌, List, [], ◌∷◌, ◌++◌, refl, sym, ap, subst, arith, length, take, get_or, add-one, le-ltb, Bool, true, false, Some, None, Result, Ok, Err, inl, inr}
use Rattle.std.specs.Prelude.{nat_lt, slice_get, IfSome, MatchResult}
use Rattle.std.specs.Option.{option_map}
use Rattle.std.specs.List.{list_all}
use Rattle.std.specs.List.Sorted.{IsNonDecreasingBy, IsBinarySearchResult, IsSearchInRange}
use Rattle.std.specs.Ordering.{is_lt, is_eq, ordering_index, ordering_reverse}
use Rattle.std.specs.Cmp.Lexicographic.{nat_list_cmp_total, bytes_decides}
use Rattle.std.specs.declared.cmp.Ordering.{Ordering}
use Rattle.std.specs.declared.cmp.Ordering.TheVariants.{Less, Equal, Greater}
use Rattle.std.proofs.lemmas.Bool.{lt-ltb, cases_lt}
use Rattle.std.proofs.lemmas.List.{length-append, length-map, get_or_append_left, get_or_default, get_or_push, get_or-map}
use Rattle.std.proofs.lemmas.List.Sorted.{searchable_from_sorted}
use Rattle.std.proofs.lemmas.Map.Text.{is_eq-slice_cmp}
use Rattle.std.proofs.lemmas.Option.{slice_get-get_or, slice_get-map, slice_get_past, slice_get_read}
use Rattle.ovl_names.specs.Names.{name_cmp, name_eq}
use Rattle.ovl_names.specs.Order.{ascends}
use Rattle.ovl_names.proofs.Ascending.{both, list_all-before, reversed, ascends-next, is_lt-Less}
use Rattle.ovl_inode.specs.declared.tables.AttributePlace.{AttributePlace}
use Rattle.ovl_inode.specs.Attributes.{Attributes, is_attribute, are_attributes, all_before, attribute, attribute_cmp}
use Rattle.ovl_inode.specs.Tables.{bytes_of, attribute_of, attributes_of, place_order, ArePlaces}
use Rattle.ovl_inode.proofs.AttributeLemmas.{attribute_order, list_all-take, all_before-own, name_cmp-Equal, Some_injective, Belongs, IsAt}

-- ---- how the name at a place is to another

pub order-inside : (names name : List ℕ) (place : AttributePlace) → place.name.start ≤ place.name.end → place.name.end ≤ length names → place_order names name place ≡ name_cmp (bytes_of names place.name) name
order-inside names name place order inside = rw (le-ltb place.name.end place.name.start order, le-ltb (length names) place.name.end inside) refl

pub order-outside : (names name : List ℕ) (place : AttributePlace) → (place.name.end < place.name.start) ⊎ (length names < place.name.end) → place_order names name place ≡ Less
order-outside names name place (inl turned) = rw (lt-ltb place.name.end place.name.start turned) refl
order-outside names name place (inr past) = by (nat_lt place.name.end place.name.start) refl
  where
    by : (b : Bool) → nat_lt place.name.end place.name.start ≡ b → place_order names name place ≡ Less
    by true e = rw e refl
    by false e = rw (e, lt-ltb (length names) place.name.end past) refl

-- ---- where a name is among attributes

module _ (attrs : Attributes) (name : List ℕ) (are : are_attributes attrs ≡ true) where
  up : ascends attribute_cmp attrs ≡ true
  up = (both {a = list_all is_attribute attrs} {b = ascends attribute_cmp attrs} are).1

  -- the later a name, the more it is to another
  rises : IsNonDecreasingBy (λ attr. ordering_index (name_cmp attr.0 name)) attrs
  rises = searchable_from_sorted nat_list_cmp_total (λ (attr : List ℕ × List ℕ). attr.0) attrs name (λ k d low inside.
      rw add-one (ap is_lt (reversed attribute_order (get_or attrs k d) (get_or attrs (suc k) d) (ascends-next attribute_cmp attrs k d up (omega arith)))))

  found_at : (place : ℕ) (d : List ℕ × List ℕ) → place < length attrs → name_cmp (get_or attrs place d).0 name ≡ Equal → IsAt attrs name place
  found_at place d inside equal =
      let own : List ℕ × List ℕ = get_or attrs place d in
      let at = slice_get-get_or attrs place d inside in
      let same : own.0 ≡ name = name_cmp-Equal own.0 name equal in
      (rw at same, inside, subst (λ (n : List ℕ). all_before (take place attrs) n ≡ true) same (all_before-own attrs place own up at))

  -- all names before a place come before the name, where the one just before it does
  before : (place : ℕ) (d : List ℕ × List ℕ) → place ≤ length attrs → ((k : ℕ) → place ≡ suc k → name_cmp (get_or attrs k d).0 name ≡ Less) → all_before (take place attrs) name ≡ true
  before zero d inside less = refl
  before (suc k) d inside less =
      list_all-take attrs k (get_or attrs k d) name up (slice_get-get_or attrs k d (omega (arith, inside))) (ap is_lt (less k refl))

  belongs_at : (place : ℕ) (d : List ℕ × List ℕ) → place ≤ length attrs → (place < length attrs → name_cmp (get_or attrs place d).0 name ≡ Greater) → ((k : ℕ) → place ≡ suc k → name_cmp (get_or attrs k d).0 name ≡ Less) → Belongs attrs name place
  belongs_at place d inside greater less = (after (cases_lt place (length attrs)), inside, before place d inside less)
    where
      after : (place < length attrs) ⊎ (length attrs ≤ place) → IfSome (slice_get attrs place) (λ own. name_cmp name own.0 ≡ Less)
      after (inl within) =
          rw (slice_get-get_or attrs place d within) (nat_list_cmp_total.antisymm name (get_or attrs place d).0 ∙ ap ordering_reverse (greater within))
      after (inr past) = rw (slice_get_past attrs place past) tt

-- ---- what a search among the places of a table finds

pub belongs_nowhere : (names values name : List ℕ) (places : List AttributePlace) (attrs : Attributes) → attributes_of names values places ≡ attrs → length places ≡ 0 → Belongs attrs name 0
belongs_nowhere names values name [] attrs view none = subst (λ (all : Attributes). Belongs all name 0) view (tt, omega arith, refl)
belongs_nowhere names values name (place ∷ places) attrs view none = absurd (omega (arith, none))

module _ (names values name : List ℕ) (places others : List AttributePlace) (last : AttributePlace) (attrs : Attributes) (split : places ≡ others ++ last ∷ []) (view : attributes_of names values places ≡ attrs) (full : ArePlaces names values places) (are : are_attributes attrs ≡ true) where
  own : List ℕ × List ℕ
  own = attribute_of names values last

  more : length places ≡ suc (length others)
  more = omega (arith, ap length split, length-append others (last ∷ []))

  count : length attrs ≡ suc (length others)
  count = omega (arith, more, ap length view, length-map places (attribute_of names values))

  -- the order of a place is that of its attribute
  ordered : (k : ℕ) → k < length places → place_order names name (get_or places k last) ≡ name_cmp (get_or attrs k own).0 name
  ordered k inside =
      let is = full k last inside in
      order-inside names name (get_or places k last) is.name.order is.name.last.0
      ∙ ap (λ (attr : List ℕ × List ℕ). name_cmp attr.0 name) (sym (get_or-map (attribute_of names values) places k last own inside) ∙ ap (λ (all : Attributes). get_or all k own) view)

  first : (k : ℕ) → k < length others → place_order names name (get_or others k last) ≡ name_cmp (get_or attrs k own).0 name
  first k inside =
      ap (place_order names name) (sym (get_or_append_left others (last ∷ []) last k inside) ∙ ap (λ (all : List AttributePlace). get_or all k last) (sym split))
      ∙ ordered k (omega (arith, inside, more))

  end : (k : ℕ) → k ≡ length others → place_order names name last ≡ name_cmp (get_or attrs k own).0 name
  end k same =
      ap (place_order names name) (sym (get_or_push others last last k (sym same)) ∙ ap (λ (all : List AttributePlace). get_or all k last) (sym split))
      ∙ ordered k (omega (arith, same, more))

  firsts_rise : IsNonDecreasingBy (λ place. ordering_index (place_order names name place)) others
  firsts_rise i j d low inside =
      let here = λ (k : ℕ) (within : k < length others). ap (λ (place : AttributePlace). ordering_index (place_order names name place)) (get_or_default others k d last within) ∙ ap ordering_index (first k within) in
      omega (arith, rises attrs name are i j own low (omega (arith, inside, count)), here i (omega (arith, low, inside)), here j inside)

  pub behind_last : (place : ℕ) → place ≡ length places → place_order names name last ≡ Less → Belongs attrs name place
  behind_last place same less =
      belongs_at attrs name are place own (omega (arith, same, more, count)) (λ within. absurd (omega (arith, within, same, more, count)))
      (λ k next. sym (end k (omega (arith, next, same, more))) ∙ less)

  pub at_last : (place : ℕ) → place ≡ length others → place_order names name last ≡ Equal → IsAt attrs name place
  at_last place same equal = found_at attrs name are place own (omega (arith, same, count)) (sym (end place same) ∙ equal)

  pub among : (answer : Result ℕ ℕ) → place_order names name last ≡ Greater → IsSearchInRange answer (length others) → IsBinarySearchResult (place_order names name) others answer → MatchResult answer (IsAt attrs name) (Belongs attrs name)
  among (Ok place) greater inside searched =
      found_at attrs name are place own (omega (arith, inside, count)) (sym (first place inside) ∙ searched last)
  among (Err place) greater inside searched =
      let parts = searched firsts_rise in
      belongs_at attrs name are place own (omega (arith, inside, count))
      (λ within. elim (cases_lt place (length others)) [
        | inl less ↦ sym (first place less) ∙ parts.1 place last (omega arith) less
        | inr past ↦ sym (end place (omega (arith, inside, past))) ∙ greater
      ])
      (λ k next. sym (first k (omega (arith, next, inside))) ∙ parts.0 k last (omega arith) (omega (arith, next)))

-- ---- the value of what was found

name_eq-of : (name other : List ℕ) (o : Ordering) → name_cmp name other ≡ o → name_eq name other ≡ is_eq o
name_eq-of name other o e = sym (is_eq-slice_cmp name other) ∙ ap is_eq e

attribute-at : (attrs : Attributes) (place : ℕ) (name : List ℕ) (own : List ℕ × List ℕ) → all_before (take place attrs) name ≡ true → slice_get attrs place ≡ Some own → own.0 ≡ name → attribute attrs name ≡ Some own.1
attribute-at [] place name own before at same = let bad : None ≡ Some own = at in cc
attribute-at (attr ∷ attrs) zero name own before at same =
    let is : attr ≡ own = Some_injective at in
    let equal : name_eq name attr.0 ≡ true = (bytes_decides name attr.0).1 (sym (ap (λ (a : List ℕ × List ℕ). a.0) is ∙ same)) in
    rw equal (ap (λ (a : List ℕ × List ℕ). Some a.1) is)
attribute-at (attr ∷ attrs) (suc place) name own before at same =
    let parts = both {a = is_lt (name_cmp attr.0 name)} {b = list_all (λ a. is_lt (name_cmp a.0 name)) (take place attrs)} before in
    rw (name_eq-of name attr.0 Greater (reversed nat_list_cmp_total attr.0 name parts.0)) (attribute-at attrs place name own parts.1 at same)

attribute-later : (attrs : Attributes) (name : List ℕ) → list_all (λ later. is_lt (name_cmp name later.0)) attrs ≡ true → attribute attrs name ≡ None
attribute-later [] name later = refl
attribute-later (attr ∷ attrs) name later =
    let parts = both {a = is_lt (name_cmp name attr.0)} {b = list_all (λ a. is_lt (name_cmp name a.0)) attrs} later in
    rw (name_eq-of name attr.0 Less (is_lt-Less (name_cmp name attr.0) parts.0)) (attribute-later attrs name parts.1)

attribute-between : (attrs : Attributes) (place : ℕ) (name : List ℕ) → ascends attribute_cmp attrs ≡ true → all_before (take place attrs) name ≡ true → IfSome (slice_get attrs place) (λ own. name_cmp name own.0 ≡ Less) → attribute attrs name ≡ None
attribute-between [] place name up before after = refl
attribute-between (attr ∷ attrs) zero name up before after =
    let parts = both {a = list_all (λ later. is_lt (attribute_cmp attr later)) attrs} {b = ascends attribute_cmp attrs} up in
    rw (name_eq-of name attr.0 Less after) (attribute-later attrs name (list_all-before attribute_order (name, []) attr attrs (ap is_lt after) parts.0))
attribute-between (attr ∷ attrs) (suc place) name up before after =
    let parts = both {a = is_lt (name_cmp attr.0 name)} {b = list_all (λ a. is_lt (name_cmp a.0 name)) (take place attrs)} before in
    let rest = both {a = list_all (λ later. is_lt (attribute_cmp attr later)) attrs} {b = ascends attribute_cmp attrs} up in
    rw (name_eq-of name attr.0 Greater (reversed nat_list_cmp_total attr.0 name parts.0)) (attribute-between attrs place name rest.1 parts.1 after)

module _ (names values name : List ℕ) (places : List AttributePlace) (attrs : Attributes) (place : ℕ) where
  pub value-found : (here : AttributePlace) → attributes_of names values places ≡ attrs → here ≡ get_or places place here → place < length places → IsAt attrs name place → attribute attrs name ≡ Some (bytes_of values here.value)
  value-found here view is inside found =
      let at : slice_get attrs place ≡ Some (attribute_of names values here) =
      ap (λ (all : Attributes). slice_get all place) (sym view)
      ∙ (slice_get-map (attribute_of names values) places place ∙ ap (option_map (attribute_of names values)) (slice_get_read places (length places) place here refl inside is)) in
      attribute-at attrs place name (attribute_of names values here) found.2 at (rw at at found.0)

pub value-missing : (name : List ℕ) (attrs : Attributes) (place : ℕ) → are_attributes attrs ≡ true → Belongs attrs name place → attribute attrs name ≡ None
value-missing name attrs place are belongs =
    attribute-between attrs place name (both {a = list_all is_attribute attrs} {b = ascends attribute_cmp attrs} are).1 belongs.2 belongs.0
