-- Places in bytes that grow: what they held they hold.
use Rattle.std.proofs.Common.{◌≡◌, ◌∙◌, ℕ, zero, suc, ◌+◌, ◌-◌, ◌<◌, ◌≤◌, List, [], ◌∷◌, ◌++◌, refl, sym, ap, ap₂, arith, length, take, drop, map, Bool, true, false, ltb-true, inl, inr, Some, None, set, get_or, append-nil, append_assoc}
use Rattle.std.specs.Prelude.{nat_lt}
use Rattle.std.specs.Option.{option_map}
use Rattle.std.proofs.lemmas.Bool.{eq-eqb}
use Rattle.std.proofs.lemmas.Bool.Decides.{eqb_tells}
use Rattle.std.proofs.lemmas.List.Edits.{insert_end}
use Rattle.std.proofs.lemmas.Option.{slice_get-get_or}
use Rattle.std.proofs.lemmas.Bool.Decides.{nat_tests}
use Rattle.std.specs.Prelude.{insert, slice_get, unwrap_or, ◌==◌, if◌then◌else◌}
use Rattle.std.specs.Str.{IsUtf8, IsCharBoundary}
use Rattle.std.proofs.lemmas.List.{length-append, take-append-le, drop-append-le, get_or_append_left, length-drop}
use Rattle.std.proofs.lemmas.List.Sums.{sum_by-insert}
use Rattle.std.proofs.lemmas.List.Elements.{All-cons, All-head, All-tail, All-append, All-take, All-drop, All-weaker}
use Rattle.std.proofs.lemmas.Str.{IsCharBoundary-at_seam, IsCharBoundary-end}
use Rattle.std.proofs.Math.Seq.{drop-append_seam, take-length}
use Rattle.ovl_inode.specs.declared.tables.Part.{Part}
use Rattle.ovl_inode.specs.declared.tables.AttributePlace.{AttributePlace}
use Rattle.ovl_inode.specs.Attributes.{Attributes}
use Rattle.ovl_inode.specs.Tables.{bytes_of, attribute_of, attributes_of, name_bytes, value_bytes, IsPart, IsTextPart, IsAttributePlace, ArePlaces, IsFull}

-- a part of bytes, with more after them
bytes_of-onto : (bytes more : List ℕ) (part : Part) → part.start ≤ part.end → part.end ≤ length bytes → bytes_of (bytes ++ more) part ≡ bytes_of bytes part
bytes_of-onto bytes more part order inside =
    ap (take (part.end - part.start)) (drop-append-le part.start bytes more (omega (arith, order, inside)))
    ∙ take-append-le (part.end - part.start) (drop part.start bytes) more (omega (arith, order, inside, length-drop part.start bytes))

-- the part that is after bytes
pub bytes_of-behind : (bytes more : List ℕ) (part : Part) → part.start ≡ length bytes → part.end ≡ length bytes + length more → bytes_of (bytes ++ more) part ≡ more
bytes_of-behind bytes more part start end =
    rw (start, end) (ap (take (length bytes + length more - length bytes)) (drop-append_seam bytes more)
    ∙ (ap (λ n. take n more) (omega arith) ∙ take-length more))

-- where a text may be cut it may be cut with more after it
boundary-onto : (text more : List ℕ) (i : ℕ) → IsUtf8 more → IsCharBoundary text i → IsCharBoundary (text ++ more) i
boundary-onto text more i utf8 cut = by (nat_lt i (length text)) refl
  where
    by : (b : Bool) → nat_lt i (length text) ≡ b → IsCharBoundary (text ++ more) i
    by true e =
        let less : i < length text = ltb-true i (length text) e in (
          omega (arith, length-append text more, less),
          λ inside lead. rw (get_or_append_left text more 0 i less) (cut.1 less (rw (get_or_append_left text more 0 i less) at lead)),
        )
    by false e =
        let end : i ≡ length text = grind (arith, nat_tests, cut.0) in
        rw end (IsCharBoundary-at_seam (text ++ more) text more refl utf8)

text_part-onto : (text more : List ℕ) (part : Part) → IsUtf8 more → IsTextPart text part → IsTextPart (text ++ more) part
text_part-onto text more part utf8 is = record {
  order = is.order;
  first = boundary-onto text more part.start utf8 is.first;
  last = boundary-onto text more part.end utf8 is.last;
}

part-onto : (bytes more : List ℕ) (part : Part) → IsPart bytes part → IsPart (bytes ++ more) part
part-onto bytes more part is = record { order = is.order; inside = omega (arith, is.inside, length-append bytes more) }

-- places in texts and values that have grown
pub places-grown : (names values name value : List ℕ) (places : List AttributePlace) (more_names more_values : List ℕ) → more_names ≡ names ++ name → more_values ≡ values ++ value → IsUtf8 name → ArePlaces names values places → ArePlaces more_names more_values places
places-grown names values name value places more_names more_values texts bytes utf8 are =
    rw (texts, bytes) (All-weaker (IsAttributePlace names values) (IsAttributePlace (names ++ name) (values ++ value))
    (λ place is. record { name = text_part-onto names name place.name utf8 is.name; value = part-onto values value place.value is.value }) places are)

attributes_of-onto : (names values name value : List ℕ) (places : List AttributePlace) → ArePlaces names values places → attributes_of (names ++ name) (values ++ value) places ≡ attributes_of names values places
attributes_of-onto names values name value [] are = refl
attributes_of-onto names values name value (place ∷ places) are =
    let is : IsAttributePlace names values place = All-head (IsAttributePlace names values) place places are in
    ap₂ (λ (attr : List ℕ × List ℕ) (rest : List (List ℕ × List ℕ)). attr ∷ rest)
    (ap₂ (λ (n v : List ℕ). (n, v)) (bytes_of-onto names name place.name is.name.order is.name.last.0) (bytes_of-onto values value place.value is.value.order is.value.inside))
    (attributes_of-onto names values name value places (All-tail (IsAttributePlace names values) place places are))

pub attributes_of-grown : (names values name value : List ℕ) (places : List AttributePlace) (more_names more_values : List ℕ) → more_names ≡ names ++ name → more_values ≡ values ++ value → ArePlaces names values places → attributes_of more_names more_values places ≡ attributes_of names values places
attributes_of-grown names values name value places more_names more_values texts bytes are =
    rw (texts, bytes) (attributes_of-onto names values name value places are)

-- the part of a text that is after it, and that of bytes
pub text_part-behind : (text more : List ℕ) (part : Part) → IsUtf8 more → part.start ≡ length text → part.end ≡ length text + length more → IsTextPart (text ++ more) part
text_part-behind text more part utf8 start end = record {
  order = omega (arith, start, end);
  first = rw start (IsCharBoundary-at_seam (text ++ more) text more refl utf8);
  last = rw (end ∙ sym (length-append text more)) (IsCharBoundary-end (text ++ more));
}

pub part-behind : (bytes more : List ℕ) (part : Part) → part.start ≡ length bytes → part.end ≡ length bytes + length more → IsPart (bytes ++ more) part
part-behind bytes more part start end = record { order = omega (arith, start, end); inside = omega (arith, end, length-append bytes more) }

-- a place put between others
pub places-insert : (names values : List ℕ) (places : List AttributePlace) (i : ℕ) (place : AttributePlace) → ArePlaces names values places → IsAttributePlace names values place → ArePlaces names values (insert places i place)
places-insert names values places i place are is =
    All-append (IsAttributePlace names values) (take i places) (place ∷ drop i places) (All-take (IsAttributePlace names values) i places are)
    (All-cons (IsAttributePlace names values) place (drop i places) is (All-drop (IsAttributePlace names values) i places are))

pub map-insert : {X Y : Type 0} (f : X → Y) (xs : List X) (i : ℕ) (x : X) → map f (insert xs i x) ≡ insert (map f xs) i (f x)
map-insert f [] zero x = refl
map-insert f [] (suc i) x = refl
map-insert f (own ∷ xs) zero x = refl
map-insert f (own ∷ xs) (suc i) x = ap (λ rest. f own ∷ rest) (map-insert f xs i x)

-- a part that is after others, and is so long
pub record IsBehind (bytes more : List ℕ) (part : Part) : Type 0 where
  pub start : part.start ≡ length bytes
  pub end : part.end ≡ length bytes + length more

-- an attribute whose name and value are put after all others
pub insert-full : (names values name value more_names more_values : List ℕ) (places more_places : List AttributePlace) (i : ℕ) (own : AttributePlace) → IsUtf8 name → IsBehind names name own.name → IsBehind values value own.value
    → more_names ≡ names ++ name → more_values ≡ values ++ value → more_places ≡ insert places i own → IsFull names values places
    → IsFull more_names more_values more_places × (attributes_of more_names more_values more_places ≡ insert (attributes_of names values places) i (name, value))
insert-full names values name value more_names more_values places more_places i own utf8 named valued texts bytes put is = (
  record {
    are = rw (texts, bytes, put) (places-insert (names ++ name) (values ++ value) places i own
        (places-grown names values name value places (names ++ name) (values ++ value) refl refl utf8 is.are)
        (record {
          name = text_part-behind names name own.name utf8 named.start named.end;
          value = part-behind values value own.value valued.start valued.end;
        }));
    named = ap name_bytes given ∙ (sum_by-insert (λ (attr : List ℕ × List ℕ). length attr.0) before i (name, value)
        ∙ (ap (λ n. n + length name) is.named ∙ (sym (length-append names name) ∙ ap length (sym texts))));
    valued = ap value_bytes given ∙ (sum_by-insert (λ (attr : List ℕ × List ℕ). length attr.1) before i (name, value)
        ∙ (ap (λ n. n + length value) is.valued ∙ (sym (length-append values value) ∙ ap length (sym bytes))));
  },
  given,
)
  where
    before : Attributes
    before = attributes_of names values places

    pair : attribute_of more_names more_values own ≡ (name, value)
    pair = rw (texts, bytes) (ap₂ (λ (n v : List ℕ). (n, v)) (bytes_of-behind names name own.name named.start named.end) (bytes_of-behind values value own.value valued.start valued.end))

    given : attributes_of more_names more_values more_places ≡ insert before i (name, value)
    given =
        ap (attributes_of more_names more_values) put
        ∙ (map-insert (attribute_of more_names more_values) places i own
        ∙ ap₂ (λ (all : Attributes) (attr : List ℕ × List ℕ). insert all i attr) (attributes_of-grown names values name value places more_names more_values texts bytes is.are) pair)

-- attributes with this value in place of the one at a place, of which as many come before these as a number says
abbrev pub set_from : ℕ → ℕ → List ℕ → Attributes → Attributes
set_from number place value [] = []
set_from number place value (attr ∷ attrs) = (if number == place then (attr.0, value) else attr) ∷ set_from (suc number) place value attrs

pub differ : (a b : ℕ) → (a ≡ b → ⊥) → (a == b) ≡ false
differ a b apart = elim (eqb_tells a b) [ inl same ↦ absurd (apart same.1) | inr other ↦ other.0 ]

-- one attribute more is put after the others
pub set-step : (table more old rest all : Attributes) (place number : ℕ) (value : List ℕ) (attr put : List ℕ × List ℕ) → number ≡ length table → more ≡ insert table number put → old ≡ attr ∷ rest → put ≡ (if number == place then (attr.0, value) else attr)
    → table ++ set_from (length table) place value old ≡ all → more ++ set_from (length more) place value rest ≡ all
set-step table more old rest all place number value attr put end grown first is kept =
    let behind : more ≡ table ++ put ∷ [] = grown ∙ (ap (λ (n : ℕ). insert table n put) end ∙ insert_end table put) in
    let longer : length more ≡ suc (length table) = omega (arith, ap length behind, length-append table (put ∷ [])) in
    rw (longer, behind) (append_assoc table (put ∷ []) (set_from (suc (length table)) place value rest)
    ∙ (ap (λ (p : List ℕ × List ℕ). table ++ p ∷ set_from (suc (length table)) place value rest) (is ∙ ap (λ (n : ℕ). if n == place then (attr.0, value) else attr) end)
    ∙ (ap (λ (attrs : Attributes). table ++ set_from (length table) place value attrs) (sym first) ∙ kept)))

-- none of the attributes is at the place
set_from-past : (number place : ℕ) (value : List ℕ) (attrs : Attributes) → place < number → set_from number place value attrs ≡ attrs
set_from-past number place value [] past = refl
set_from-past number place value (attr ∷ attrs) past =
    rw (differ number place (λ e. omega (arith, past, e))) (ap (λ (rest : Attributes). attr ∷ rest) (set_from-past (suc number) place value attrs (omega (arith, past))))

set_from-at : (number at place : ℕ) (value : List ℕ) (attrs : Attributes) (own : List ℕ × List ℕ) → at ≡ number + place → slice_get attrs place ≡ Some own → set_from number at value attrs ≡ set attrs place (own.0, value)
set_from-at number at place value [] own e is = let bad : None ≡ Some own = is in cc
set_from-at number at zero value (attr ∷ attrs) own e is =
    let here : number ≡ at = omega (arith, e) in
    rw (eq-eqb number at here) (ap₂ (λ (first : List ℕ × List ℕ) (rest : Attributes). (first.0, value) ∷ rest) (ap (λ o. unwrap_or o attr) is) (set_from-past (suc number) at value attrs (omega (arith, here))))
set_from-at number at (suc place) value (attr ∷ attrs) own e is =
    rw (differ number at (λ same. omega (arith, e, same))) (ap (λ (rest : Attributes). attr ∷ rest) (set_from-at (suc number) at place value attrs own (omega (arith, e)) is))

pub set-whole : (attrs table rest : Attributes) (place : ℕ) (value : List ℕ) → place < length attrs → rest ≡ [] → table ++ set_from (length table) place value rest ≡ set_from 0 place value attrs
    → option_map (λ own. set attrs place (own.0, value)) (slice_get attrs place) ≡ Some table
set-whole attrs table rest place value inside none all =
    let at = slice_get-get_or attrs place ([], []) inside in
    let whole : table ≡ set_from 0 place value attrs = sym (append-nil table) ∙ (ap (λ (r : Attributes). table ++ set_from (length table) place value r) (sym none) ∙ all) in
    rw at (ap Some (sym (set_from-at 0 place place value attrs (get_or attrs place ([], [])) (omega arith) at) ∙ sym whole))
