-- The values that are written state what they were written of.
use Rattle.std.proofs.Common.{◌≡◌, ℕ, zero, suc, ◌-◌, ◌/◌, ◌%◌, ◌^◌, ◌<◌, ◌∙◌, ℤ, pos, negsuc, List, [], ◌∷◌, ◌++◌, Bool, true, false, Option, Some, None, refl, sym, ap, subst, append_assoc, append-nil, length, length-append, arith, ltb-true, le-leb, eqb-true, eq-eqb, cond}
use Rattle.std.specs.Prelude.{◌||◌, ◌==◌, not, nat_eq, nat_lt, nat_le, is_some, is_none, if◌then◌else◌, slice_index, option_and_then}
use Rattle.std.specs.List.{list_all, list_any, starts_with, onto_first}
use Rattle.std.specs.Result.{result_ok}
use Rattle.std.proofs.lemmas.Bool.Decides.{nat_tests}
use Rattle.hex.specs.Hex.{lower_digits, encode_with, encode_lower, decode_of, IsBytes}
use Rattle.hex.proofs.HexLemmas.{decode_of-encode_lower, length-encode_with}
use Rattle.serde_json.specs.Find.{as_i64, of_integer}
use Rattle.ovl_names.specs.Names.{name_fault, is_name, slash, dot, dot_dot, name_eq, name_limit}
use Rattle.ovl_names.specs.declared.names.NameFault.{NameFault}
use Rattle.ovl_names.specs.declared.names.NameFault.TheVariants.{Empty, TooLong, Dot, Slash, Nul}
use Rattle.ovl_names.specs.Order.{ascends}
use Rattle.ovl_names.specs.Paths.{PathNames, path_fault, path_text, text_parts, parts_between, has_names, depth_limit, text_limit}
use Rattle.ovl_names.specs.declared.paths.PathFault.{PathFault}
use Rattle.ovl_names.specs.declared.paths.PathFault.TheVariants.{NotAbsolute, EmptyPart, BadPart, TooDeep, TooLong as TooLongPath}
use Rattle.ovl_names.proofs.Ascending.{both, ascends-across}
use Rattle.ovl_names.proofs.NameLemmas.{text_parts-rest}
use Rattle.ovl_inode.specs.Bytes.{are_bytes, is_digest}
use Rattle.ovl_inode.proofs.AttributeLemmas.{put-last}
use Rattle.ovl_inode.specs.Attributes.{Attributes, attribute_cmp, is_attribute, is_attribute_name, are_attributes, with_attribute}
use Rattle.ovl_inode.specs.Hexadecimal.{is_lower_digit, bytes_of_digits, digest_of_text}
use Rattle.ovl_inode.specs.Sound.{is_word, is_seconds}
use Rattle.ovl_layer.specs.Layers.{is_within_limits}
use Rattle.ovl_manifest.specs.Versions.{written}
use Rattle.ovl_manifest.specs.Fields.{up_to, path_of_text, attribute_after, attributes_after}
use Rattle.ovl_manifest.specs.Text.{hexadecimal, attribute_members}
use Rattle.ovl_layer.specs.TextPaths.{slashed}
use Rattle.ovl_manifest.proofs.FieldLemmas.{attributes_after-put}
use Rattle.ovl_manifest.proofs.TextLemmas.{attributes_in_turn, attribute_members-in_turn, no_or, all-at}

-- ---- numbers

pub up_to-within : (limit n : ℕ) → nat_le n limit ≡ true → up_to limit n ≡ Some n
up_to-within limit n within = rw within refl

pub word-within : (n : ℕ) → is_word n ≡ true → nat_le n (2 ^ 32 - 1) ≡ true
word-within n is = le-leb n (2 ^ 32 - 1) (omega (arith, ltb-true n (2 ^ 32) is))

pub seconds-back : (z : ℤ) → is_seconds z ≡ true → as_i64 (of_integer z) ≡ Some z
seconds-back (pos n) is = rw is refl
seconds-back (negsuc n) is = refl

-- ---- hexadecimal digits

digit-lower : (d : ℕ) → d < 16 → is_lower_digit (slice_index lower_digits d) ≡ true
digit-lower d inside = all-at is_lower_digit lower_digits d 0 refl inside

digits-lower : (bytes : List ℕ) → are_bytes bytes ≡ true → list_all is_lower_digit (encode_lower bytes) ≡ true
unfolding encode_with
digits-lower [] are = refl
digits-lower (byte ∷ bytes) are =
    let parts = both {a = nat_lt byte 256} {b = are_bytes bytes} are in
    let fits : byte < 256 = ltb-true byte 256 parts.0 in
    let high : byte / 16 < 16 = omega (arith, fits) in
    let low : byte % 16 < 16 = omega arith in
    rw (digit-lower (byte / 16) high, digit-lower (byte % 16) low) (digits-lower bytes parts.1)

IsBytes-from : (bytes : List ℕ) → are_bytes bytes ≡ true → IsBytes bytes
IsBytes-from [] are = λ i. omega arith
IsBytes-from (byte ∷ bytes) are = at (IsBytes-from bytes parts.1)
  where
    parts : (nat_lt byte 256 ≡ true) × (are_bytes bytes ≡ true)
    parts = both {a = nat_lt byte 256} {b = are_bytes bytes} are

    at : IsBytes bytes → IsBytes (byte ∷ bytes)
    at rest zero = ltb-true byte 256 parts.0
    at rest (suc i) = rest i

pub bytes-back : (bytes : List ℕ) → are_bytes bytes ≡ true → bytes_of_digits (encode_lower bytes) ≡ Some bytes
bytes-back bytes are =
    ap (λ b. if b then result_ok (decode_of (encode_lower bytes)) else None) (digits-lower bytes are)
    ∙ ap result_ok (decode_of-encode_lower bytes (IsBytes-from bytes are))

pub digest-back : (blob : List ℕ) → is_digest blob ≡ true → digest_of_text (encode_lower blob) ≡ Some blob
digest-back blob is =
    let parts = both {a = length blob == 32} {b = are_bytes blob} is in
    let count : length (encode_lower blob) ≡ 64 = omega (arith, length-encode_with lower_digits blob, eqb-true (length blob) 32 parts.0) in
    ap (λ b. if b then bytes_of_digits (encode_lower blob) else None) (eq-eqb (length (encode_lower blob)) 64 count)
    ∙ bytes-back blob parts.1

-- ---- paths

pub record NameFacts (name : List ℕ) : Type 0 where
  pub some : (length name == 0) ≡ false
  pub sound : is_some (name_fault name) ≡ false
  pub whole : list_any (λ byte. byte == slash) name ≡ false

pub name_facts : (name : List ℕ) → is_name name ≡ true → NameFacts name
name_facts name is =
    let tests = none_of (length name == 0) (nat_lt name_limit (length name)) (name_eq name dot || name_eq name dot_dot) (list_any (λ byte. byte == slash) name) (list_any (λ byte. byte == 0) name) (both is).0 in
    record { some = tests.0; whole = tests.1; sound = unsome (name_fault name) (both is).0 }
  where
    none_of : (a b c d e : Bool) → is_none (if a then Some Empty else if b then Some TooLong else if c then Some Dot else if d then Some Slash else if e then Some Nul else None) ≡ true → (a ≡ false) × (d ≡ false)
    none_of true b c d e none = let bad : false ≡ true = none in cc
    none_of false true c d e none = let bad : false ≡ true = none in cc
    none_of false false true d e none = let bad : false ≡ true = none in cc
    none_of false false false true e none = let bad : false ≡ true = none in cc
    none_of false false false false e none = (refl, refl)

    unsome : (o : Option NameFault) → is_none o ≡ true → is_some o ≡ false
    unsome None none = refl
    unsome (Some fault) none = let bad : false ≡ true = none in cc

-- a name, and names with their separators, are split where they were joined
split-name : (name : List ℕ) (names : PathNames) → list_any (λ byte. byte == slash) name ≡ false → parts_between (slashed names) ≡ [] ∷ names → parts_between (name ++ slashed names) ≡ name ∷ names
split-name [] names whole rest = rest
split-name (byte ∷ name) names whole rest =
    let parts = no_or (byte == slash) (list_any (λ b. b == slash) name) whole in
    ap (λ b. cond b ([] ∷ parts_between (name ++ slashed names)) (onto_first byte (parts_between (name ++ slashed names)))) parts.0
    ∙ ap (onto_first byte) (split-name name names parts.1 rest)

split-names : (names : PathNames) → has_names names ≡ true → parts_between (slashed names) ≡ [] ∷ names
split-names [] named = refl
split-names (name ∷ names) named =
    let parts = both {a = is_name name} {b = has_names names} named in
    ap (λ (ps : PathNames). [] ∷ ps) (split-name name names (name_facts name parts.0).whole (split-names names parts.1))

parts-back : (path : PathNames) → has_names path ≡ true → text_parts (path_text path) ≡ path
parts-back [] named = refl
parts-back (name ∷ names) named =
    let parts = both {a = is_name name} {b = has_names names} named in
    let facts = name_facts name parts.0 in
    let some : 0 < length name = grind (arith, nat_tests, facts.some) in
    text_parts-rest (name ++ slashed names) (omega (arith, some, length-append name (slashed names)))
    ∙ split-name name names facts.whole (split-names names parts.1)

no_empty : (path : PathNames) → has_names path ≡ true → list_any (λ part. length part == 0) path ≡ false
no_empty [] named = refl
no_empty (name ∷ names) named =
    let parts = both {a = is_name name} {b = has_names names} named in
    rw (name_facts name parts.0).some (no_empty names parts.1)

no_bad : (path : PathNames) → has_names path ≡ true → list_any (λ part. is_some (name_fault part)) path ≡ false
no_bad [] named = refl
no_bad (name ∷ names) named =
    let parts = both {a = is_name name} {b = has_names names} named in
    ap (λ b. b || list_any (λ part. is_some (name_fault part)) names) (name_facts name parts.0).sound ∙ no_bad names parts.1

starts : (path : PathNames) → starts_with nat_eq (path_text path) (slash ∷ []) ≡ true
starts [] = refl
starts (name ∷ names) = refl

no_fault : (a b c d e : Bool) → a ≡ true → b ≡ false → c ≡ false → d ≡ false → e ≡ false → (if not a then Some NotAbsolute else if b then Some EmptyPart else if c then Some BadPart else if d then Some TooDeep else if e then Some TooLongPath else None) ≡ None
no_fault a b c d e ea eb ec ed ee = rw (ea, eb, ec, ed, ee) refl

within-not_past : (limit n : ℕ) → nat_le n limit ≡ true → nat_lt limit n ≡ false
within-not_past limit n within = grind (arith, nat_tests)

pub path-back : (path : PathNames) → has_names path ≡ true → is_within_limits path ≡ true → path_of_text written (path_text path) ≡ Some path
path-back path named limited =
    let text : List ℕ = path_text path in
    let parts = parts-back path named in
    let limits = both {a = nat_le (length path) depth_limit} {b = nat_le (length text) text_limit} limited in
    let none : path_fault depth_limit text ≡ None =
    no_fault (starts_with nat_eq text (slash ∷ [])) (list_any (λ part. length part == 0) (text_parts text)) (list_any (λ part. is_some (name_fault part)) (text_parts text)) (nat_lt depth_limit (length (text_parts text))) (nat_lt text_limit (length text))
    (starts path)
    (ap (list_any (λ part. length part == 0)) parts ∙ no_empty path named)
    (ap (list_any (λ part. is_some (name_fault part))) parts ∙ no_bad path named)
    (ap (λ (ps : PathNames). nat_lt depth_limit (length ps)) parts ∙ within-not_past depth_limit (length path) limits.0)
    (within-not_past text_limit (length text) limits.1) in
    ap (λ (o : Option PathFault). if is_none o then Some (text_parts text) else None) none ∙ ap (λ (p : PathNames). Some p) parts

-- ---- attributes

attributes-on : (done attrs : Attributes) → ascends attribute_cmp (done ++ attrs) ≡ true → list_all is_attribute attrs ≡ true → attributes_after done (attributes_in_turn attrs) ≡ Some (done ++ attrs)
attributes-on done [] up all = ap (λ (own : Attributes). Some own) (sym (append-nil done))
attributes-on done (attr ∷ attrs) up all =
    let parts = both {a = is_attribute attr} {b = list_all is_attribute attrs} all in
    let own = both {a = is_attribute_name attr.0} {b = are_bytes attr.1} parts.0 in
    let next : attribute_after done attr.0 (hexadecimal attr.1) ≡ Some (done ++ attr ∷ []) =
    ap (option_and_then (λ bytes. if is_attribute_name attr.0 then Some (with_attribute done attr.0 bytes) else None)) (bytes-back attr.1 own.1)
    ∙ (ap (λ b. if b then Some (with_attribute done attr.0 attr.1) else None) own.0
    ∙ ap (λ (own : Attributes). Some own) (put-last done attr.0 attr.1 (ascends-across attribute_cmp done attr attrs up))) in
    attributes_after-put done (done ++ attr ∷ []) attr.0 (hexadecimal attr.1) (attributes_in_turn attrs) next
    ∙ (attributes-on (done ++ attr ∷ []) attrs (subst (λ (own : Attributes). ascends attribute_cmp own ≡ true) (sym (append_assoc done (attr ∷ []) attrs)) up) parts.1
    ∙ ap (λ (own : Attributes). Some own) (append_assoc done (attr ∷ []) attrs))

pub attributes-back : (attrs : Attributes) → are_attributes attrs ≡ true → attributes_after [] (attribute_members attrs) ≡ Some attrs
attributes-back attrs are =
    let parts = both {a = list_all is_attribute attrs} {b = ascends attribute_cmp attrs} are in
    ap (attributes_after []) (attribute_members-in_turn attrs parts.1) ∙ attributes-on [] attrs parts.1 parts.0
