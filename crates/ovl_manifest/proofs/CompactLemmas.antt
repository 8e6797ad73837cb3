-- The text of a layer, put together piece by piece, and read back.
use Rattle.std.proofs.Common.{◌≡◌, ◌∙◌, ℕ, ℤ, pos, negsuc, zero, suc, ◌+◌, ◌*◌, ◌/◌, ◌%◌, ◌≤◌, ◌<◌, ◌^◌, append-nil, List, [], ◌∷◌, ◌++◌, length, length-take, take, get_or, Bool, true, false, Option, Some, None, Result, Ok, Err, refl, sym, ap, ap₂, subst, append_assoc, arith, ltb-true, eqb-true, decimal}
use Rattle.std.specs.Prelude.{◌==◌, not, ◌&&◌, ◌||◌, nat_eq, nat_lt, slice_index, codes, option_and_then, if◌then◌else◌, is_some, unwrap_or, MatchOption}
use Rattle.std.specs.List.{list_all}
use Rattle.std.specs.Ordering.{is_lt}
use Rattle.std.specs.Cmp.Lexicographic.{nat_list_cmp_total}
use Rattle.std.specs.Fmt.{signed_decimal}
use Rattle.std.specs.Str.{IsUtf8}
use Rattle.std.proofs.lemmas.Option.{option_and_then_some}
use Rattle.std.specs.Str.Parse.{AllDigits, digits_value}
use Rattle.std.proofs.lemmas.Bool.Decides.{nat_tests}
use Rattle.std.proofs.lemmas.Fmt.{decimal-digits_value}
use Rattle.std.proofs.lemmas.List.{get_or-take}
use Rattle.std.proofs.lemmas.Str.Parse.{digits_value_short, numerals_by_value, tells_digits}
use Rattle.hex.specs.Hex.{lower_digits, hex_digit_value, decode_pairs, encode_with, encode_lower}
use Rattle.hex.specs.declared.error.FromHexError.{FromHexError}
use Rattle.hex.specs.declared.error.FromHexError.TheVariants.{InvalidHexCharacter, OddLength}
use Rattle.json.specs.Json as json
use Rattle.json.specs.Lex.{tokens}
use Rattle.json.specs.Print.{escape_byte, escape, quoted, print}
use Rattle.json.specs.Tree.{json_tokens, depth as tree_depth}
use Rattle.json.proofs.Printed.Strings.{escape_byte_plain}
use Rattle.json.proofs.Printed.Tokens.{tokens-print}
use Rattle.json.proofs.Printed.Trees.{ArePrintable-json_tokens, value-json_tokens}
use Rattle.serde_json.specs.Data.{Data, null, boolean, number, string, array, object, Members}
use Rattle.serde_json.specs.Find.{as_str, of_integer}
use Rattle.serde_json.specs.Read.{read, max_depth, of_json}
use Rattle.serde_json.specs.Written.{outline, number_text, comma_if, compact_text, items_text, members_text}
use Rattle.serde_json.proofs.Texts.{print-outline}
use Rattle.ovl_names.specs.Names.{name_cmp}
use Rattle.ovl_names.specs.Order.{ascends}
use Rattle.ovl_names.specs.Paths.{PathNames, path_text}
use Rattle.ovl_names.proofs.Ascending.{both, ascends-across, is_lt-Less}
use Rattle.ovl_inode.specs.declared.digests.Digest.{Digest}
use Rattle.ovl_inode.specs.declared.inodes.Inode.{Inode}
use Rattle.ovl_inode.specs.declared.inodes.Kind.{Kind}
use Rattle.ovl_inode.specs.declared.inodes.Kind.TheVariants.{Dir, File, Symlink, Char, Block, Fifo, Socket}
use Rattle.ovl_inode.specs.Attributes.{Attributes, attribute_cmp, all_before, is_attribute_name, with_attribute}
use Rattle.ovl_inode.proofs.AttributeLemmas.{put-last}
use Rattle.ovl_inode.specs.Hexadecimal.{is_lower_digit, bytes_of_digits, digest_of_text}
use Rattle.ovl_layer.specs.Layers.{Entry, Entries, IsLayer}
use Rattle.ovl_manifest.specs.Manifest.{read_layer}
use Rattle.ovl_manifest.specs.Versions.{version_number, written}
use Rattle.ovl_manifest.specs.declared.compact_entries.Word.{Word}
use Rattle.ovl_manifest.specs.Text.{attribute_members, entry_value, entry_items, layer_value}
use Rattle.ovl_manifest.specs.Compact.{group_text, word_text, contents_text, back_text, blob_of_kind, word_of_kind, attribute_text, attributes_text, entries_text}
use Rattle.ovl_manifest.specs.Fields.{attribute_after}
use Rattle.ovl_manifest.proofs.ReadLemmas.{if-Some, text_read}
use Rattle.ovl_manifest.proofs.TextLemmas.{attributes_in_turn, attribute_members-in_turn, layer-shallow}
use Rattle.ovl_manifest.proofs.TailLemmas.{tokens-ended}
use Rattle.ovl_manifest.proofs.WrittenBackLemmas.{layer_states, layer_numbers, outline-depth}
use Rattle.ovl_manifest.proofs.StatedLemmas.{layer-back}

-- ---- whether something was taken

pub some-taken : (A : Type 0) {B : Type 0} (taken : Option (Unit {0})) → MatchOption taken A (λ _. B) → is_some taken ≡ true → B
some-taken A None is some = let bad : false ≡ true = some in cc
some-taken A (Some own) is some = is

pub none-taken : {A : Type 0} (B : Type 0) (taken : Option (Unit {0})) → MatchOption taken A (λ _. B) → is_some taken ≡ false → A
none-taken B None is none = is
none-taken B (Some own) is none = let bad : true ≡ false = none in cc

-- ---- numbers

pub seconds_text : (seconds : ℤ) → number_text (of_integer seconds) ≡ signed_decimal seconds
seconds_text (pos n) = refl
seconds_text (negsuc n) = refl

pub digits-below : (ds : List ℕ) (count : ℕ) → AllDigits 10 ds → length ds ≤ count → digits_value 10 ds < 10 ^ count
digits-below ds count all short = digits_value_short (numerals_by_value (AllDigits 10) tells_digits) ds count all short

-- at most 19 digits, with no zero before others, are what is written of their number
pub digits-written : (ds : List ℕ) (count : ℕ) → count ≤ length ds → AllDigits 10 (take count ds) → 0 < count → count ≤ 19 → (get_or ds 0 0 ≡ 48 → count ≡ 1) → decimal (digits_value 10 (take count ds)) ≡ take count ds
digits-written ds count inside all some short first =
    let long : length (take count ds) ≡ count = omega (arith, length-take count ds, inside) in
    let head : get_or (take count ds) 0 0 ≡ get_or ds 0 0 = get_or-take count ds 0 0 some in
    decimal-digits_value {P = AllDigits 10} {v = digits_value 10} (numerals_by_value (AllDigits 10) tells_digits) (take count ds) all (omega (arith, long, some))
    (λ zero. long ∙ first (sym head ∙ zero)) (omega (arith, digits-below (take count ds) 19 all (omega (arith, long, short))))

-- ---- strings

-- a value that is a text
pub string-of : (value : Data) (text : List ℕ) → as_str value ≡ Some text → value ≡ string text
string-of null text is = let bad : None ≡ Some text = is in cc
string-of (boolean b) text is = let bad : None ≡ Some text = is in cc
string-of (number n) text is = let bad : None ≡ Some text = is in cc
string-of (string own) text is = ap (λ o. string (unwrap_or o own)) is
string-of (array items) text is = let bad : None ≡ Some text = is in cc
string-of (object own) text is = let bad : None ≡ Some text = is in cc

-- ---- digits

-- a test of all numbers below another
abbrev below : ℕ → (ℕ → Bool) → Bool
below zero test = true
below (suc n) test = test n && below n test

below-at : (n : ℕ) (test : ℕ → Bool) → below n test ≡ true → (k : ℕ) → k < n → test k ≡ true
below-at zero test all k inside = absurd (omega (arith, inside))
below-at (suc n) test all k inside = by (nat_eq k n) refl (below-at n test parts.1 k)
  where
    parts : (test n ≡ true) × (below n test ≡ true)
    parts = both {a = test n} {b = below n test} all

    by : (b : Bool) → nat_eq k n ≡ b → (k < n → test k ≡ true) → test k ≡ true
    by true e earlier = subst (λ m. test m ≡ true) (sym (eqb-true k n e)) parts.0
    by false e earlier = earlier (grind (arith, nat_tests))

-- the value of a lower-case digit spells that digit
abbrev spells_digit : ℕ → Option ℕ → Bool
spells_digit c None = true
spells_digit c (Some value) = nat_lt value 16 && nat_eq (slice_index lower_digits value) c

digit-back : (c value : ℕ) → is_lower_digit c ≡ true → hex_digit_value c ≡ Some value → (value < 16) × (slice_index lower_digits value ≡ c)
digit-back c value lower is =
    let small : c < 103 = grind (arith, nat_tests) in
    let test : (not (is_lower_digit c) || spells_digit c (hex_digit_value c)) ≡ true = below-at 103 (λ d. not (is_lower_digit d) || spells_digit d (hex_digit_value d)) refl c small in
    let told : spells_digit c (Some value) ≡ true = rw (lower, is) at test in
    let parts = both {a = nat_lt value 16} {b = nat_eq (slice_index lower_digits value) c} told in
    (ltb-true value 16 parts.0, eqb-true (slice_index lower_digits value) c parts.1)

digits-back : (i : ℕ) (digits bytes : List ℕ) → list_all is_lower_digit digits ≡ true → decode_pairs i digits ≡ Ok bytes → encode_lower bytes ≡ digits
unfolding decode_pairs encode_with
digits-back i [] bytes lower is = let none : [] ≡ bytes = cc in ap encode_lower (sym none)
digits-back i (digit ∷ []) bytes lower is = let bad : Err OddLength ≡ Ok bytes = is in cc
digits-back i (high ∷ low ∷ digits) bytes lower is = by (hex_digit_value high) refl (hex_digit_value low) refl (decode_pairs (i + 2) digits) refl (digits-back (i + 2) digits)
  where
    first : (is_lower_digit high ≡ true) × (list_all is_lower_digit (low ∷ digits) ≡ true)
    first = both {a = is_lower_digit high} {b = list_all is_lower_digit (low ∷ digits)} lower

    second : (is_lower_digit low ≡ true) × (list_all is_lower_digit digits ≡ true)
    second = both {a = is_lower_digit low} {b = list_all is_lower_digit digits} first.1

    by : (h : Option ℕ) → hex_digit_value high ≡ h → (l : Option ℕ) → hex_digit_value low ≡ l → (more : Result (List ℕ) FromHexError) → decode_pairs (i + 2) digits ≡ more
        → ((rest : List ℕ) → list_all is_lower_digit digits ≡ true → decode_pairs (i + 2) digits ≡ Ok rest → encode_lower rest ≡ digits) → encode_lower bytes ≡ high ∷ low ∷ digits
    by None eh l el more em later = let bad : Err (InvalidHexCharacter high i) ≡ Ok bytes = rw eh at is in cc
    by (Some h) eh None el more em later = let bad : Err (InvalidHexCharacter low (i + 1)) ≡ Ok bytes = rw (eh, el) at is in cc
    by (Some h) eh (Some l) el (Err fault) em later = let bad : Err fault ≡ Ok bytes = rw (eh, el, em) at is in cc
    by (Some h) eh (Some l) el (Ok rest) em later =
        let whole : Ok ((h * 16 + l) ∷ rest) ≡ Ok bytes = rw (eh, el, em) at is in
        let made : (h * 16 + l) ∷ rest ≡ bytes = cc in
        let one = digit-back high h first.0 eh in
        let other = digit-back low l second.0 el in
        let upper : (h * 16 + l) / 16 ≡ h = omega (arith, other.0) in
        let rest_of : (h * 16 + l) % 16 ≡ l = omega (arith, other.0) in
        ap encode_lower (sym made)
        ∙ (ap (λ n. slice_index lower_digits n ∷ slice_index lower_digits ((h * 16 + l) % 16) ∷ encode_lower rest) upper
        ∙ (ap (λ n. slice_index lower_digits h ∷ slice_index lower_digits n ∷ encode_lower rest) rest_of
        ∙ (ap (λ n. n ∷ slice_index lower_digits l ∷ encode_lower rest) one.1
        ∙ (ap (λ n. high ∷ n ∷ encode_lower rest) other.1
        ∙ ap (λ (own : List ℕ). high ∷ low ∷ own) (later rest second.1 em)))))

pub bytes-spelled : (digits bytes : List ℕ) → bytes_of_digits digits ≡ Some bytes → encode_lower bytes ≡ digits
bytes-spelled digits bytes is = by (list_all is_lower_digit digits) refl (length digits % 2 == 1) refl (decode_pairs 0 digits) refl
  where
    by : (b : Bool) → list_all is_lower_digit digits ≡ b → (odd : Bool) → (length digits % 2 == 1) ≡ odd → (r : Result (List ℕ) FromHexError) → decode_pairs 0 digits ≡ r → encode_lower bytes ≡ digits
    by false e odd eo r er = let bad : None ≡ Some bytes = rw e at is in cc
    by true e true eo r er = let bad : None ≡ Some bytes = rw (e, eo) at is in cc
    by true e false eo (Err fault) er = let bad : None ≡ Some bytes = rw (e, eo, er) at is in cc
    by true e false eo (Ok own) er = let some : Some own ≡ Some bytes = rw (e, eo, er) at is in let same : own ≡ bytes = cc in digits-back 0 digits bytes e (er ∙ ap (λ (b : List ℕ). Ok b) same)

pub digest-spelled : (digits blob : List ℕ) → digest_of_text digits ≡ Some blob → encode_lower blob ≡ digits
digest-spelled digits blob is = by (length digits == 64) refl
  where
    by : (b : Bool) → (length digits == 64) ≡ b → encode_lower blob ≡ digits
    by true e = bytes-spelled digits blob (rw e at is)
    by false e = let bad : None ≡ Some blob = rw e at is in cc

-- ---- digests as strings

plain-digits : (digits : List ℕ) → list_all is_lower_digit digits ≡ true → escape digits ≡ digits
plain-digits [] lower = refl
plain-digits (digit ∷ digits) lower =
    let parts = both {a = is_lower_digit digit} {b = list_all is_lower_digit digits} lower in
    let own = parts.0 in
    ap₂ (λ (one other : List ℕ). one ++ other) (escape_byte_plain digit (λ e. grind (arith, nat_tests)) (λ e. grind (arith, nat_tests)) (grind (arith, nat_tests))) (plain-digits digits parts.1)

digest-lower : (digits blob : List ℕ) → digest_of_text digits ≡ Some blob → list_all is_lower_digit digits ≡ true
digest-lower digits blob is = by (length digits == 64) refl (list_all is_lower_digit digits) refl
  where
    by : (b : Bool) → (length digits == 64) ≡ b → (c : Bool) → list_all is_lower_digit digits ≡ c → list_all is_lower_digit digits ≡ true
    by true e true lower = lower
    by true e false lower = let bad : None ≡ Some blob = rw (e, lower) at is in cc
    by false e c lower = let bad : None ≡ Some blob = rw e at is in cc

-- a digest's digits as a string
pub digest-quoted : (digits blob : List ℕ) → digest_of_text digits ≡ Some blob → quoted (encode_lower blob) ≡ 34 ∷ (digits ++ 34 ∷ [])
digest-quoted digits blob is = ap quoted (digest-spelled digits blob is) ∙ ap (λ (own : List ℕ). 34 ∷ (own ++ 34 ∷ [])) (plain-digits digits (digest-lower digits blob is))

-- ---- an entry

-- the pieces of an entry's text, and what follows it
abbrev pub in_turn : Option Digest → Word → Inode → List ℕ → List ℕ → List ℕ → List ℕ
in_turn blob word inode seconds path rest =
    group_text blob inode.gid ++ word_text word (decimal inode.mode
    ++ (codes ",\"mtime\":" ++ (seconds ++ (codes ",\"mtime-nsec\":" ++ (decimal inode.nsec ++ (codes ",\"path\":" ++ (quoted path ++ (contents_text inode.kind
    ++ back_text inode.uid inode.attrs rest))))))))

-- those of an entry of this kind
abbrev pub pieces : PathNames → Inode → Kind → List ℕ → List ℕ
pieces path inode kind rest =
    in_turn (blob_of_kind kind) (word_of_kind kind) (record inode { kind = kind }) (number_text (of_integer inode.mtime)) (path_text path) rest

kind_text : (path : PathNames) (inode : Inode) (kind : Kind) (rest : List ℕ)
    → pieces path inode kind rest ≡ compact_text (entry_value (path, record inode { kind = kind })) ++ rest
unfolding escape_byte
kind_text path inode Dir rest = simp append_assoc
kind_text path inode (File size None) rest = simp append_assoc
kind_text path inode (File size (Some blob)) rest = simp append_assoc
kind_text path inode (Symlink target) rest = simp append_assoc
kind_text path inode (Char major minor) rest = simp append_assoc
kind_text path inode (Block major minor) rest = simp append_assoc
kind_text path inode Fifo rest = simp append_assoc
kind_text path inode Socket rest = simp append_assoc

pub entry_text : (path : PathNames) (inode : Inode) (rest : List ℕ) → pieces path inode inode.kind rest ≡ compact_text (entry_value (path, inode)) ++ rest
entry_text path inode rest = kind_text path inode inode.kind rest

-- ---- piece after piece

pub piece-then : (piece : List ℕ) {all rest more : List ℕ} → all ≡ piece ++ rest → rest ≡ more → all ≡ piece ++ more
piece-then piece first next = first ∙ ap (λ (t : List ℕ). piece ++ t) next

-- what is put after pieces of a text
pub record Grows (before piece after : List ℕ) : Type 0 where
  pub is : after ≡ before ++ piece

pub onto : {before middle after first more : List ℕ} → Grows before first middle → Grows middle more after → Grows before (first ++ more) after
onto {before} {middle} {after} {first} {more} one next = record { is = next.is ∙ (ap (λ (t : List ℕ). t ++ more) one.is ∙ append_assoc before first more) }

-- ---- attributes

members-attributes : (before : Bool) (attrs : Attributes) → members_text before (attributes_in_turn attrs) ≡ attributes_text before attrs ++ 125 ∷ []
members-attributes before [] = refl
members-attributes before (attr ∷ attrs) =
    ap (λ (t : List ℕ). comma_if before ++ (quoted attr.0 ++ 58 ∷ (quoted (encode_lower attr.1) ++ t))) (members-attributes true attrs)
    ∙ simp append_assoc

-- one attribute more, after others
attributes-more : (attrs : Attributes) (attr : List ℕ × List ℕ) → 0 < length attrs → attributes_text false (attrs ++ attr ∷ []) ≡ attributes_text false attrs ++ 44 ∷ attribute_text attr
attributes-more [] attr some = absurd (omega (arith, some))
attributes-more (first ∷ attrs) attr some = ap (λ (t : List ℕ). attribute_text first ++ t) (behind attrs) ∙ sym (append_assoc (attribute_text first) (attributes_text true attrs) (44 ∷ attribute_text attr))
  where
    behind : (attrs : Attributes) → attributes_text true (attrs ++ attr ∷ []) ≡ attributes_text true attrs ++ 44 ∷ attribute_text attr
    behind [] = ap (λ (t : List ℕ). 44 ∷ t) (append-nil (attribute_text attr))
    behind (next ∷ attrs) = ap (λ (t : List ℕ). 44 ∷ (attribute_text next ++ t)) (behind attrs) ∙ ap (λ (t : List ℕ). 44 ∷ t) (sym (append_assoc (attribute_text next) (attributes_text true attrs) (44 ∷ attribute_text attr)))

-- the same in front of what follows
pub attributes-onto : (attrs : Attributes) (attr : List ℕ × List ℕ) (rest : List ℕ) → 0 < length attrs → attributes_text false attrs ++ 44 ∷ (attribute_text attr ++ rest) ≡ attributes_text false (attrs ++ attr ∷ []) ++ rest
attributes-onto attrs attr rest some =
    sym (append_assoc (attributes_text false attrs) (44 ∷ attribute_text attr) rest) ∙ ap (λ (t : List ℕ). t ++ rest) (sym (attributes-more attrs attr some))

-- where the last name comes before another, all do
pub all_before-last : (front : Attributes) (last : List ℕ × List ℕ) (name : List ℕ) → ascends attribute_cmp (front ++ last ∷ []) ≡ true → is_lt (name_cmp last.0 name) ≡ true → all_before (front ++ last ∷ []) name ≡ true
all_before-last front last name up before = through front (ascends-across attribute_cmp front last [] up)
  where
    through : (attrs : Attributes) → list_all (λ other. is_lt (attribute_cmp other last)) attrs ≡ true → all_before (attrs ++ last ∷ []) name ≡ true
    through [] all = rw before refl
    through (attr ∷ attrs) all =
        let parts = both {a = is_lt (attribute_cmp attr last)} {b = list_all (λ other. is_lt (attribute_cmp other last)) attrs} all in
        let less : is_lt (name_cmp attr.0 name) ≡ true = ap is_lt (nat_list_cmp_total.trans attr.0 last.0 name (is_lt-Less (name_cmp attr.0 last.0) parts.0) (is_lt-Less (name_cmp last.0 name) before)) in
        rw less (through attrs parts.1)

-- an attribute that is put after all others, with the digits of its value
pub attribute-behind : (attrs more : Attributes) (name digits : List ℕ) → all_before attrs name ≡ true → attribute_after attrs name (string digits) ≡ Some more → (bytes : List ℕ) × (encode_lower bytes ≡ digits) × (more ≡ attrs ++ (name, bytes) ∷ [])
attribute-behind attrs more name digits before is =
    option_and_then_some (λ bytes. if is_attribute_name name then Some (with_attribute attrs name bytes) else None) (bytes_of_digits digits) more is (λ bytes spelled made.
    let same = (if-Some (is_attribute_name name) (with_attribute attrs name bytes) more made).1 in
    (bytes, bytes-spelled digits bytes spelled, sym same ∙ put-last attrs name bytes before))

-- the object of ascending attributes
pub attributes_object : (attrs : Attributes) → ascends attribute_cmp attrs ≡ true → compact_text (object (attribute_members attrs)) ≡ 123 ∷ (attributes_text false attrs ++ 125 ∷ [])
attributes_object attrs up = ap (λ (ms : Members). compact_text (object ms)) (attribute_members-in_turn attrs up) ∙ ap (λ (t : List ℕ). 123 ∷ t) (members-attributes false attrs)

-- ---- the list of entries

pub items-entries : (before : Bool) (entries : Entries) → items_text before (entry_items entries) ≡ entries_text before entries ++ 93 ∷ []
items-entries before [] = refl
items-entries before (entry ∷ entries) =
    ap (λ (t : List ℕ). comma_if before ++ (compact_text (entry_value entry) ++ t)) (items-entries true entries)
    ∙ sym (append_assoc (comma_if before) (compact_text (entry_value entry) ++ entries_text true entries) (93 ∷ []) ∙ ap (λ (t : List ℕ). comma_if before ++ t) (append_assoc (compact_text (entry_value entry)) (entries_text true entries) (93 ∷ [])))

-- one entry more, after others
entries-more : (entries : Entries) (entry : Entry) → 0 < length entries → entries_text false (entries ++ entry ∷ []) ≡ entries_text false entries ++ 44 ∷ compact_text (entry_value entry)
entries-more [] entry some = absurd (omega (arith, some))
entries-more (first ∷ entries) entry some = ap (λ (t : List ℕ). compact_text (entry_value first) ++ t) (behind entries) ∙ sym (append_assoc (compact_text (entry_value first)) (entries_text true entries) (44 ∷ compact_text (entry_value entry)))
  where
    behind : (entries : Entries) → entries_text true (entries ++ entry ∷ []) ≡ entries_text true entries ++ 44 ∷ compact_text (entry_value entry)
    behind [] = ap (λ (t : List ℕ). 44 ∷ t) (append-nil (compact_text (entry_value entry)))
    behind (next ∷ entries) = ap (λ (t : List ℕ). 44 ∷ (compact_text (entry_value next) ++ t)) (behind entries) ∙ ap (λ (t : List ℕ). 44 ∷ t) (sym (append_assoc (compact_text (entry_value next)) (entries_text true entries) (44 ∷ compact_text (entry_value entry))))

-- entries after others, all of them after commas
pub entries-append : (entries more : Entries) → entries_text true (entries ++ more) ≡ entries_text true entries ++ entries_text true more
entries-append [] more = refl
entries-append (entry ∷ entries) more =
    ap (λ (t : List ℕ). 44 ∷ (compact_text (entry_value entry) ++ t)) (entries-append entries more)
    ∙ ap (λ (t : List ℕ). 44 ∷ t) (sym (append_assoc (compact_text (entry_value entry)) (entries_text true entries) (entries_text true more)))

-- the same in front of what follows
pub entries-onto : (entries : Entries) (entry : Entry) (rest : List ℕ) → 0 < length entries → entries_text false entries ++ 44 ∷ (compact_text (entry_value entry) ++ rest) ≡ entries_text false (entries ++ entry ∷ []) ++ rest
entries-onto entries entry rest some =
    sym (append_assoc (entries_text false entries) (44 ∷ compact_text (entry_value entry)) rest) ∙ ap (λ (t : List ℕ). t ++ rest) (sym (entries-more entries entry some))

-- ---- manifests

in_brackets : (layer : Entries) → compact_text (layer_value layer)
    ≡ codes "{\"entries\":[" ++ (items_text false (entry_items layer) ++ (codes ",\"overlay-layer\":" ++ (decimal (version_number written) ++ codes "}")))
unfolding escape_byte
in_brackets layer = refl

-- the list of its entries, between what begins and what ends it
pub layer_text : (layer : Entries) (rest : List ℕ)
    → codes "{\"entries\":[" ++ (items_text false (entry_items layer) ++ (codes ",\"overlay-layer\":" ++ (decimal (version_number written) ++ (codes "}" ++ rest)))) ≡ compact_text (layer_value layer) ++ rest
layer_text layer rest =
    let begin : List ℕ = codes "{\"entries\":[" in
    let items : List ℕ = items_text false (entry_items layer) in
    let named : List ℕ = codes ",\"overlay-layer\":" in
    let own : List ℕ = decimal (version_number written) in
    sym (ap (λ (t : List ℕ). t ++ rest) (in_brackets layer)
    ∙ ap (λ (t : List ℕ). begin ++ t) (append_assoc items (named ++ (own ++ codes "}")) rest ∙ ap (λ (t : List ℕ). items ++ (named ++ t)) (append_assoc own (codes "}") rest)))

-- the text of a layer states it, with a newline and without
module _ (layer : Entries) (is : IsLayer layer) where
  abbrev value : Data
  value = layer_value layer

  abbrev text : List ℕ
  text = compact_text value

  printed : text ≡ print (json_tokens (outline value))
  printed = sym (print-outline value)

  own : tokens text ≡ json_tokens (outline value)
  own = ap tokens printed ∙ tokens-print (json_tokens (outline value)) (ArePrintable-json_tokens (outline value) (layer_numbers layer is))

  told : (bytes : List ℕ) → IsUtf8 bytes → tokens bytes ≡ json_tokens (outline value) → read_layer bytes ≡ Ok layer
  told bytes utf8 spelled =
      let shallow : tree_depth (outline value) ≤ 4 = omega (arith, outline-depth value, layer-shallow layer) in
      let parsed : json.value max_depth (tokens bytes) ≡ Some (outline value, []) =
      ap (json.value max_depth) (spelled ∙ sym (append-nil (json_tokens (outline value)))) ∙ value-json_tokens (outline value) max_depth [] (omega (arith, shallow)) in
      let reads : read bytes ≡ Some value = ap (λ o. option_and_then of_json (option_and_then (λ p. json.if_last p.0 p.1) o)) parsed ∙ layer_states layer is in
      text_read bytes value utf8 reads ∙ layer-back layer is

  pub text-alone : IsUtf8 text → read_layer text ≡ Ok layer
  text-alone utf8 = told text utf8 own

  pub text-back : IsUtf8 (text ++ codes "\n") → read_layer (text ++ codes "\n") ≡ Ok layer
  text-back utf8 = told (text ++ codes "\n") utf8 (tokens-ended text value own (printed ∙ ap print (sym own)) ∙ own)
