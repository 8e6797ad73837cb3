-- Values and members whose texts are UTF-8: numbers, strings and attributes, and objects of members that are put.
use Rattle.std.proofs.Common.{◌≡◌, ◌≤◌, ◌<◌, ◌^◌, ℕ, zero, suc, ℤ, pos, negsuc, List, [], ◌∷◌, ◌++◌, Bool, true, false, refl, arith, decimal, ltb-true}
use Rattle.std.specs.Prelude.{⊤, nat_lt, codes, slice_index}
use Rattle.std.specs.Ordering.{match_ordering, nat_cmp}
use Rattle.std.specs.Cmp.Lexicographic.{slice_cmp}
use Rattle.std.specs.declared.cmp.Ordering.{Ordering}
use Rattle.std.specs.declared.cmp.Ordering.TheVariants.{Less, Equal, Greater}
use Rattle.std.specs.Str.{IsUtf8}
use Rattle.std.proofs.lemmas.Fmt.{IsAscii-decimal}
use Rattle.std.proofs.lemmas.Str.{IsUtf8-append, IsUtf8-from_ascii, IsUtf8-nil}
use Rattle.hex.specs.Hex.{encode_lower, lower_digits}
use Rattle.hex.proofs.HexLemmas.{IsAscii-encode_with}
use Rattle.json.specs.Print.{quoted}
use Rattle.json.proofs.Printed.Utf8.{IsUtf8-are_ascii, IsUtf8-quoted, are_ascii}
use Rattle.serde_json.specs.Data.{Data, number, object, Members, no_members, member, put}
use Rattle.serde_json.specs.Find.{of_integer}
use Rattle.serde_json.specs.Written.{comma_if, compact_text, members_text}
use Rattle.ovl_names.proofs.Ascending.{both}
use Rattle.ovl_inode.specs.Sound.{is_seconds, is_word}
use Rattle.ovl_manifest.specs.Text.{hexadecimal, whole}

-- ---- values

abbrev pub IsText : Data → Type 0
IsText d = IsUtf8 (compact_text d)

pub whole-text : (n limit : ℕ) → n ≤ limit → limit < 2 ^ 64 → IsText (whole n)
whole-text n limit within small = IsUtf8-from_ascii (decimal n) (IsAscii-decimal n (omega (arith, within, small)))

pub word-text : (n : ℕ) → is_word n ≡ true → IsText (whole n)
word-text n is = whole-text n (2 ^ 32) (omega (arith, ltb-true n (2 ^ 32) is)) (omega arith)

pub seconds-text : (z : ℤ) → is_seconds z ≡ true → IsText (number (of_integer z))
seconds-text (pos n) is = whole-text n (2 ^ 63) (omega (arith, ltb-true n (2 ^ 63) is)) (omega arith)
seconds-text (negsuc n) is =
    IsUtf8-append (codes "-") (decimal (suc n)) (IsUtf8-are_ascii (codes "-") refl) (whole-text (suc n) (2 ^ 63) (omega (arith, ltb-true n (2 ^ 63) is)) (omega arith))

digits-below : (digits : List ℕ) → are_ascii digits ≡ true → (i : ℕ) → slice_index digits i < 128
digits-below [] are i = omega arith
digits-below (digit ∷ digits) are zero = ltb-true digit 128 (both {a = nat_lt digit 128} {b = are_ascii digits} are).0
digits-below (digit ∷ digits) are (suc i) = digits-below digits (both {a = nat_lt digit 128} {b = are_ascii digits} are).1 i

pub hexadecimal-text : (bytes : List ℕ) → IsText (hexadecimal bytes)
hexadecimal-text bytes = IsUtf8-quoted (encode_lower bytes) (IsUtf8-from_ascii (encode_lower bytes) (IsAscii-encode_with lower_digits bytes (digits-below lower_digits refl)))

-- ---- members

abbrev pub AreTexts : Members → Type 0
AreTexts no_members = ⊤
AreTexts (member k d ms) = (IsUtf8 k × IsText d) × AreTexts ms

pub put-texts : (k : List ℕ) (d : Data) (ms : Members) → IsUtf8 k → IsText d → AreTexts ms → AreTexts (put k d ms)
put-texts k d no_members key own others = ((key, own), others)
put-texts k d (member l e ms) key own others = by (slice_cmp nat_cmp k l) (put-texts k d ms key own others.1)
  where
    by : (o : Ordering) → AreTexts (put k d ms) → AreTexts (match_ordering o (member k d (member l e ms)) (member l d ms) (member l e (put k d ms)))
    by Less later = ((key, own), others)
    by Equal later = ((others.0.0, own), others.1)
    by Greater later = (others.0, later)

pub comma-text : (later : Bool) → IsUtf8 (comma_if later)
comma-text true = IsUtf8-are_ascii (44 ∷ []) refl
comma-text false = IsUtf8-nil

members-text : (later : Bool) (ms : Members) → AreTexts ms → IsUtf8 (members_text later ms)
members-text later no_members all = IsUtf8-are_ascii (125 ∷ []) refl
members-text later (member k d ms) all =
    let rest : List ℕ = members_text true ms in
    IsUtf8-append (comma_if later) (quoted k ++ 58 ∷ (compact_text d ++ rest)) (comma-text later)
    (IsUtf8-append (quoted k) (58 ∷ (compact_text d ++ rest)) (IsUtf8-quoted k all.0.0)
    (IsUtf8-append (58 ∷ []) (compact_text d ++ rest) (IsUtf8-are_ascii (58 ∷ []) refl)
    (IsUtf8-append (compact_text d) rest all.0.1 (members-text true ms all.1))))

pub object-text : (ms : Members) → AreTexts ms → IsText (object ms)
object-text ms all = IsUtf8-append (123 ∷ []) (members_text false ms) (IsUtf8-are_ascii (123 ∷ []) refl) (members-text false ms all)

-- members put one after another, of which each has a name that is ASCII
pub record Texts (members : Members) : Type 0 where
  pub are : AreTexts members

pub no-texts : Texts no_members
no-texts = record { are = tt }

pub with-text : {members : Members} (name : List ℕ) (value : Data) → are_ascii name ≡ true → IsText value → Texts members → Texts (put name value members)
with-text {members} name value ascii own others = record { are = put-texts name value members (IsUtf8-are_ascii name ascii) own others.are }
