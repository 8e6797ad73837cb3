-- Texts that are names, and texts that are paths.
use Rattle.std.proofs.Common.{◌≡◌, ℕ, ◌<◌, List, [], ◌∷◌, ◌++◌, Bool, true, false, Option, Some, None, refl, sym, ap, ◌∙◌, lit<, length, take, drop, arith}
use Rattle.std.proofs.lemmas.Bool.{eqb-true}
use Rattle.std.proofs.lemmas.Bool.Decides.{nat_tests}
use Rattle.std.specs.Prelude.{◌==◌, nat_eq, nat_lt, ◌||◌, is_some, if◌then◌else◌}
use Rattle.std.specs.List.{list_any}
use Rattle.std.specs.Str.{IsUtf8}
use Rattle.std.proofs.lemmas.Str.{is_utf8-from_IsUtf8, encode_ascii}
use Rattle.std.proofs.lemmas.List.Folds.{list_all-append}
use lib.Utf8.{encode}
use Rattle.ovl_names.specs.Names.{name_fault, is_name, slash}
use Rattle.ovl_names.specs.Paths.{PathNames, path_fault, text_parts, parts_between, has_names, depth_limit, text_limit}
use Rattle.ovl_names.specs.declared.paths.PathFault.{PathFault}
use Rattle.ovl_names.specs.declared.paths.PathFault.TheVariants.{NotAbsolute, EmptyPart, BadPart, TooDeep, TooLong}
use Rattle.std.proofs.lemmas.List.{take-append-drop}
use Rattle.ovl_names.proofs.Ascending.{list_all-front}

-- a text without a fault is a name
pub is_name-from_fault : (bytes : List ℕ) → name_fault bytes ≡ None → IsUtf8 bytes → is_name bytes ≡ true
is_name-from_fault bytes none utf8 = rw none (is_utf8-from_IsUtf8 bytes utf8)

-- names and one more
pub has_names-child : (path : PathNames) (name : List ℕ) → has_names path ≡ true → is_name name ≡ true → has_names (path ++ name ∷ []) ≡ true
has_names-child path name named is = list_all-append is_name path (name ∷ []) ∙ rw named (rw is refl)

-- the first of names
pub has_names-take : (n : ℕ) (path : PathNames) → has_names path ≡ true → has_names (take n path) ≡ true
has_names-take n path named = (list_all-front is_name (take n path) (drop n path) (ap has_names (take-append-drop n path) ∙ named)).0

-- a text from which no separator can be stripped isn't absolute
pub path_fault-relative : (depth : ℕ) (text : List ℕ) → ((rest : List ℕ) → text ≡ encode 47 ++ rest → ⊥) → path_fault depth text ≡ Some NotAbsolute
path_fault-relative depth [] bare = refl
path_fault-relative depth (byte ∷ bytes) bare = by (nat_eq 47 byte) refl
  where
    by : (b : Bool) → nat_eq 47 byte ≡ b → path_fault depth (byte ∷ bytes) ≡ Some NotAbsolute
    by true e = absurd (bare bytes (ap (λ first. first ∷ bytes) (sym (eqb-true 47 byte e)) ∙ ap (λ front. front ++ bytes) (sym (encode_ascii 47 (lit< tt)))))
    by false e = rw e refl

-- the parts of `/` and a text after it
pub text_parts-rest : (rest : List ℕ) → 0 < length rest → text_parts (slash ∷ rest) ≡ parts_between rest
text_parts-rest [] some = absurd (omega arith)
text_parts-rest (byte ∷ bytes) some = refl

neither : (a b : Bool) → (a || b) ≡ false → b ≡ false
neither true b none = cc
neither false b none = none

-- a text whose parts are not bad: none of them is empty
no_empty-clean : (parts : PathNames) → list_any (λ part. is_some (name_fault part)) parts ≡ false → list_any (λ part. length part == 0) parts ≡ false
no_empty-clean [] clean = refl
no_empty-clean (part ∷ parts) clean = by (no_empty-clean parts) part clean
  where
    by : (list_any (λ part. is_some (name_fault part)) parts ≡ false → list_any (λ part. length part == 0) parts ≡ false) → (part : List ℕ) → (is_some (name_fault part) || list_any (λ part. is_some (name_fault part)) parts) ≡ false → list_any (λ part. length part == 0) (part ∷ parts) ≡ false
    by later [] clean = let bad : true ≡ false = clean in cc
    by later (byte ∷ bytes) clean = let some : (length (byte ∷ bytes) == 0) ≡ false = grind (arith, nat_tests) in rw some (later (neither (is_some (name_fault (byte ∷ bytes))) _ clean))

-- the fault of a text whose parts are not bad
pub path_fault-clean : (rest : List ℕ) → 0 < length rest → list_any (λ part. is_some (name_fault part)) (parts_between rest) ≡ false → path_fault depth_limit (slash ∷ rest) ≡ (if nat_lt depth_limit (length (parts_between rest)) then Some TooDeep else if nat_lt text_limit (length (slash ∷ rest)) then Some TooLong else None)
path_fault-clean rest some clean = rw (text_parts-rest rest some, no_empty-clean (parts_between rest) clean, clean) refl

-- parts of a text without a fault are not bad
pub clean-path_fault : (rest : List ℕ) → 0 < length rest → path_fault depth_limit (slash ∷ rest) ≡ None → list_any (λ part. is_some (name_fault part)) (parts_between rest) ≡ false
clean-path_fault rest some none = by (list_any (λ part. length part == 0) (parts_between rest)) (list_any (λ part. is_some (name_fault part)) (parts_between rest)) _ (rw (text_parts-rest rest some) at none)
  where
    by : (empty bad : Bool) (other : Option PathFault) → (if empty then Some EmptyPart else if bad then Some BadPart else other) ≡ None → bad ≡ false
    by true bad other none = cc
    by false true other none = cc
    by false false other none = refl
