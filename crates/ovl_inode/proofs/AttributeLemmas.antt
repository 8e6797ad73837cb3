-- Bytes and texts whose types say what they hold, and attributes in order.
use Rattle.std.proofs.Common.{◌≡◌, ℕ, zero, suc, ◌<◌, ◌≤◌, List, [], ◌∷◌, ◌++◌, true, false, IsTrue, refl, sym, ap, subst, ◌∙◌, le-ltb, Fits, w8, length, get_or, take, arith, Option, Some, None, set}
use Rattle.std.specs.Prelude.{◌==◌, unwrap_or, IfSome, slice_get, not, insert}
use Rattle.std.specs.List.{list_all, list_any}
use Rattle.std.specs.Str.{IsUtf8}
use Rattle.std.specs.Ordering.{is_lt, is_eq, ordering_reverse}
use Rattle.std.specs.Cmp.{IsTotalOrder}
use Rattle.std.specs.Cmp.Lexicographic.{nat_list_cmp_total, bytes_decides}
use Rattle.std.specs.declared.cmp.Ordering.{Ordering}
use Rattle.std.specs.declared.cmp.Ordering.TheVariants.{Less, Equal, Greater}
use Rattle.std.proofs.lemmas.Bool.{lt-ltb}
use Rattle.std.proofs.lemmas.Cmp.{tied_itself}
use Rattle.std.specs.Option.{option_map}
use Rattle.std.proofs.Math.Dec.{eqb-suc-zero}
use Rattle.std.proofs.Math.Facts.{Fits-lt-pow}
use Rattle.std.proofs.lemmas.Map.Text.{is_eq-slice_cmp}
use Rattle.std.proofs.lemmas.Str.{is_utf8-from_IsUtf8}
use Rattle.ovl_names.specs.Names.{name_cmp}
use Rattle.ovl_names.specs.Order.{ascends}
use Rattle.ovl_names.proofs.Ascending.{both, list_all-get, list_all-before, reversed, is_lt-Less, list_all-filter, ascends-filter}
use Rattle.ovl_inode.specs.Bytes.{are_bytes}
use Rattle.ovl_inode.specs.Attributes.{Attributes, attribute_fault, is_attribute_name, is_attribute, is_overlay_name, are_attributes, all_before, attribute_cmp, visible_attributes, with_attribute}

-- numbers below 256 are bytes
pub are_bytes-below : (numbers : List ℕ) → ((i : ℕ) → get_or numbers i 0 < 256) → are_bytes numbers ≡ true
are_bytes-below [] range = refl
are_bytes-below (number ∷ numbers) range =
    rw (lt-ltb number 256 (range zero)) (are_bytes-below numbers (λ i. range (suc i)))

pub are_bytes-from_range : (numbers : List ℕ) → ((i : ℕ) → Fits w8 (get_or numbers i 0)) → are_bytes numbers ≡ true
are_bytes-from_range numbers range = are_bytes-below numbers (λ i. Fits-lt-pow {w = w8} {n = get_or numbers i 0} (range i))

-- the attributes that are shown are attributes
pub are_attributes-visible : (attrs : Attributes) → are_attributes attrs ≡ true → are_attributes (visible_attributes attrs) ≡ true
are_attributes-visible attrs are =
    let parts = both {a = list_all is_attribute attrs} {b = ascends attribute_cmp attrs} are in
    rw (list_all-filter is_attribute (λ attr. not (is_overlay_name attr.0)) attrs parts.0) (ascends-filter attribute_cmp (λ attr. not (is_overlay_name attr.0)) attrs parts.1)

-- attributes are ordered as their names are
pub attribute_order : IsTotalOrder attribute_cmp
attribute_order = record {
  antisymm = λ x y. nat_list_cmp_total.antisymm x.0 y.0;
  trans = λ x y z. nat_list_cmp_total.trans x.0 y.0 z.0;
  congr = λ x y z. nat_list_cmp_total.congr x.0 y.0 z.0;
}

-- a name that another comes after
after-Greater : (name own : List ℕ) → name_cmp name own ≡ Greater → is_lt (name_cmp own name) ≡ true
after-Greater name own e = ap is_lt (nat_list_cmp_total.antisymm own name ∙ ap ordering_reverse e)

-- one value cannot be two
pub Some_injective : {X : Type 0} {x y : X} → Some x ≡ Some y → x ≡ y
Some_injective {X} {x} {y} e = ap (λ o. unwrap_or o x) e

-- all names before a place come before a name, where the last of them does
pub list_all-take : (attrs : Attributes) (place : ℕ) (last : List ℕ × List ℕ) (name : List ℕ) → ascends attribute_cmp attrs ≡ true → slice_get attrs place ≡ Some last → is_lt (name_cmp last.0 name) ≡ true → all_before (take (suc place) attrs) name ≡ true
list_all-take [] place last name up at before = let bad : None ≡ Some last = at in cc
list_all-take (attr ∷ attrs) zero last name up at before =
    rw (ap (λ (a : List ℕ × List ℕ). is_lt (name_cmp a.0 name)) (Some_injective at) ∙ before) refl
list_all-take (attr ∷ attrs) (suc place) last name up at before =
    let parts = both {a = list_all (λ later. is_lt (attribute_cmp attr later)) attrs} {b = ascends attribute_cmp attrs} up in
    let first : is_lt (name_cmp attr.0 last.0) ≡ true = list_all-get (λ later. is_lt (attribute_cmp attr later)) attrs place last parts.0 at in
    let through : is_lt (name_cmp attr.0 name) ≡ true = ap is_lt (nat_list_cmp_total.trans attr.0 last.0 name (is_lt-Less (name_cmp attr.0 last.0) first) (is_lt-Less (name_cmp last.0 name) before)) in
    rw through (list_all-take attrs place last name parts.1 at before)

-- all names before a place come before the name there
pub all_before-own : (attrs : Attributes) (place : ℕ) (own : List ℕ × List ℕ) → ascends attribute_cmp attrs ≡ true → slice_get attrs place ≡ Some own → all_before (take place attrs) own.0 ≡ true
all_before-own [] place own up at = let bad : None ≡ Some own = at in cc
all_before-own (attr ∷ attrs) zero own up at = refl
all_before-own (attr ∷ attrs) (suc place) own up at =
    let parts = both {a = list_all (λ later. is_lt (attribute_cmp attr later)) attrs} {b = ascends attribute_cmp attrs} up in
    rw (list_all-get (λ later. is_lt (attribute_cmp attr later)) attrs place own parts.0 at) (all_before-own attrs place own parts.1 at)

-- names of which neither comes before the other are one
pub name_cmp-Equal : (name own : List ℕ) → name_cmp name own ≡ Equal → name ≡ own
name_cmp-Equal name own e = (bytes_decides name own).0 (sym (is_eq-slice_cmp name own) ∙ ap is_eq e)

-- an attribute put where its name belongs: in place of the one of its name, or between the others
pub with_attribute-replaced : (attrs : Attributes) (place : ℕ) (own : List ℕ × List ℕ) (value : List ℕ) → all_before (take place attrs) own.0 ≡ true → slice_get attrs place ≡ Some own → with_attribute attrs own.0 value ≡ set attrs place (own.0, value)
with_attribute-replaced [] place own value before at = let bad : None ≡ Some own = at in cc
with_attribute-replaced (attr ∷ attrs) zero own value before at =
    let same : attr ≡ own = Some_injective at in
    subst (λ (a : List ℕ × List ℕ). with_attribute (attr ∷ attrs) a.0 value ≡ set (attr ∷ attrs) 0 (a.0, value)) same (rw (tied_itself nat_list_cmp_total attr.0) refl)
with_attribute-replaced (attr ∷ attrs) (suc place) own value before at =
    let parts = both {a = is_lt (name_cmp attr.0 own.0)} {b = list_all (λ a. is_lt (name_cmp a.0 own.0)) (take place attrs)} before in
    rw (reversed nat_list_cmp_total attr.0 own.0 parts.0) (ap (λ rest. attr ∷ rest) (with_attribute-replaced attrs place own value parts.1 at))

pub with_attribute-inserted : (attrs : Attributes) (place : ℕ) (name value : List ℕ) → all_before (take place attrs) name ≡ true → place ≤ length attrs → IfSome (slice_get attrs place) (λ own. name_cmp name own.0 ≡ Less) → with_attribute attrs name value ≡ insert attrs place (name, value)
with_attribute-inserted [] zero name value before inside after = refl
with_attribute-inserted [] (suc place) name value before inside after = absurd (omega arith)
with_attribute-inserted (attr ∷ attrs) zero name value before inside after = rw after refl
with_attribute-inserted (attr ∷ attrs) (suc place) name value before inside after =
    let parts = both {a = is_lt (name_cmp attr.0 name)} {b = list_all (λ a. is_lt (name_cmp a.0 name)) (take place attrs)} before in
    rw (reversed nat_list_cmp_total attr.0 name parts.0) (ap (λ rest. attr ∷ rest) (with_attribute-inserted attrs place name value parts.1 (omega arith) after))

-- attributes and one more
list_all-with : (attrs : Attributes) (name value : List ℕ) → list_all is_attribute attrs ≡ true → is_attribute_name name ≡ true → are_bytes value ≡ true → list_all is_attribute (with_attribute attrs name value) ≡ true
list_all-with [] name value all is bytes = rw is (rw bytes refl)
list_all-with (attr ∷ attrs) name value all is bytes = by (list_all-with attrs name value parts.1 is bytes) (name_cmp name attr.0) refl
  where
    parts : (is_attribute attr ≡ true) × (list_all is_attribute attrs ≡ true)
    parts = both {a = is_attribute attr} {b = list_all is_attribute attrs} all

    by : list_all is_attribute (with_attribute attrs name value) ≡ true → (o : Ordering) → name_cmp name attr.0 ≡ o → list_all is_attribute (with_attribute (attr ∷ attrs) name value) ≡ true
    by later Less e = rw e (rw is (rw bytes all))
    by later Equal e = rw e (rw (both {a = is_attribute_name attr.0} {b = are_bytes attr.1} parts.0).0 (rw bytes parts.1))
    by later Greater e = rw e (rw parts.0 later)

before-with : (attr : List ℕ × List ℕ) (attrs : Attributes) (name value : List ℕ) → list_all (λ later. is_lt (attribute_cmp attr later)) attrs ≡ true → is_lt (name_cmp attr.0 name) ≡ true → list_all (λ later. is_lt (attribute_cmp attr later)) (with_attribute attrs name value) ≡ true
before-with attr [] name value all before = rw before refl
before-with attr (next ∷ attrs) name value all before = by (before-with attr attrs name value parts.1 before) (name_cmp name next.0) refl
  where
    parts : (is_lt (attribute_cmp attr next) ≡ true) × (list_all (λ later. is_lt (attribute_cmp attr later)) attrs ≡ true)
    parts = both {a = is_lt (attribute_cmp attr next)} {b = list_all (λ later. is_lt (attribute_cmp attr later)) attrs} all

    by : list_all (λ later. is_lt (attribute_cmp attr later)) (with_attribute attrs name value) ≡ true → (o : Ordering) → name_cmp name next.0 ≡ o → list_all (λ later. is_lt (attribute_cmp attr later)) (with_attribute (next ∷ attrs) name value) ≡ true
    by later Less e = rw e (rw before all)
    by later Equal e = rw e all
    by later Greater e = rw e (rw parts.0 later)

ascends-with : (attrs : Attributes) (name value : List ℕ) → ascends attribute_cmp attrs ≡ true → ascends attribute_cmp (with_attribute attrs name value) ≡ true
ascends-with [] name value up = refl
ascends-with (attr ∷ attrs) name value up = by (ascends-with attrs name value parts.1) (name_cmp name attr.0) refl
  where
    parts : (list_all (λ later. is_lt (attribute_cmp attr later)) attrs ≡ true) × (ascends attribute_cmp attrs ≡ true)
    parts = both {a = list_all (λ later. is_lt (attribute_cmp attr later)) attrs} {b = ascends attribute_cmp attrs} up

    by : ascends attribute_cmp (with_attribute attrs name value) ≡ true → (o : Ordering) → name_cmp name attr.0 ≡ o → ascends attribute_cmp (with_attribute (attr ∷ attrs) name value) ≡ true
    by later Less e =
        rw e (rw e (rw (list_all-before attribute_order (name, value) attr attrs (ap is_lt e) parts.0) up))
    by later Equal e = rw e up
    by later Greater e = rw e (rw (before-with attr attrs name value parts.0 (after-Greater name attr.0 e)) later)

pub are_attributes-with : (attrs : Attributes) (name value : List ℕ) → are_attributes attrs ≡ true → is_attribute_name name ≡ true → are_bytes value ≡ true → are_attributes (with_attribute attrs name value) ≡ true
are_attributes-with attrs name value are is bytes =
    let parts = both {a = list_all is_attribute attrs} {b = ascends attribute_cmp attrs} are in
    rw (list_all-with attrs name value parts.0 is bytes) (ascends-with attrs name value parts.1)

-- a text without a fault names an attribute
pub is_attribute_name-from_fault : (name : List ℕ) → attribute_fault name ≡ None → IsUtf8 name → is_attribute_name name ≡ true
is_attribute_name-from_fault name none utf8 = rw none (is_utf8-from_IsUtf8 name utf8)

-- what the tests of a name's fault say together
pub attribute_fault-none : (name : List ℕ) → 0 < length name → length name ≤ 255 → list_any (λ byte. byte == 0) name ≡ false → attribute_fault name ≡ None
attribute_fault-none [] some short plain = absurd (omega arith)
attribute_fault-none (byte ∷ bytes) some short plain =
    rw (eqb-suc-zero (length bytes)) (rw (le-ltb 255 (length (byte ∷ bytes)) short) (rw plain refl))

-- ---- where a name is among attributes

abbrev pub Belongs : Attributes → List ℕ → ℕ → Type 0
Belongs attrs name place =
    IfSome (slice_get attrs place) (λ own. name_cmp name own.0 ≡ Less) × (place ≤ length attrs) × IsTrue (all_before (take place attrs) name)

abbrev pub IsAt : Attributes → List ℕ → ℕ → Type 0
IsAt attrs name place =
    IfSome (slice_get attrs place) (λ own. own.0 ≡ name) × (place < length attrs) × IsTrue (all_before (take place attrs) name)

-- what has a part has a whole
pub whole : {X Y : Type 0} (f : X → Y) (o : Option X) (y : Y) → option_map f o ≡ Some y → (x : X) × (o ≡ Some x) × (f x ≡ y)
whole f None y e = let bad : None ≡ Some y = e in cc
whole f (Some x) y e = (x, refl, Some_injective e)

-- ---- a put at the place that a search gave

pub put_at : (attrs : Attributes) (name value : List ℕ) (place : ℕ) (own : List ℕ) → IsAt attrs name place → (v : List ℕ) → slice_get attrs place ≡ Some (own, v) → with_attribute attrs name value ≡ set attrs place (own, value)
put_at attrs name value place own found v at =
    let same : own ≡ name = rw at at found.0 in
    let replaced = with_attribute-replaced attrs place (own, v) value (rw same found.2) at in
    ap (λ (n : List ℕ). with_attribute attrs n value) (sym same) ∙ replaced

pub put_between : (attrs : Attributes) (name value : List ℕ) (place : ℕ) → Belongs attrs name place → with_attribute attrs name value ≡ insert attrs place (name, value)
put_between attrs name value place belongs = with_attribute-inserted attrs place name value belongs.2 belongs.1 belongs.0

pub put-last : (done : Attributes) (name value : List ℕ) → list_all (λ attr. is_lt (attribute_cmp attr (name, value))) done ≡ true → with_attribute done name value ≡ done ++ (name, value) ∷ []
put-last [] name value before = refl
put-last (first ∷ done) name value before =
    let parts = both {a = is_lt (attribute_cmp first (name, value))} {b = list_all (λ attr. is_lt (attribute_cmp attr (name, value))) done} before in
    rw (reversed nat_list_cmp_total first.0 name parts.0) (ap (λ (rest : Attributes). first ∷ rest) (put-last done name value parts.1))
