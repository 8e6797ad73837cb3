-- The faults of a redirect's value, by its parts.
use Rattle.std.proofs.Common.{◌≡◌, ℕ, List, [], ◌∷◌, ◌++◌, Bool, true, false, Some, None, refl, sym, ap, ◌∙◌, lit<, length, arith}
use Rattle.std.specs.Prelude.{◌==◌, ◌||◌, cond, nat_lt, is_some, if◌then◌else◌}
use Rattle.std.proofs.lemmas.Bool.{eqb-true}
use Rattle.std.proofs.lemmas.Bool.Decides.{nat_tests}
use Rattle.std.proofs.lemmas.Str.{encode_ascii, IsUtf8-from_is_utf8}
use Rattle.std.specs.Str.{is_utf8, IsUtf8}
use Rattle.std.specs.List.{list_any, onto_first}
use lib.Utf8.{encode}
use Rattle.ovl_names.specs.Names.{slash, dot, dot_dot, name_limit, name_eq, name_fault}
use Rattle.ovl_names.specs.Paths.{parts_between, text_names, has_names}
use Rattle.ovl_names.proofs.PathTexts.{has_names-clean, utf8-rest, one_part}
use Rattle.ovl_inode.specs.declared.marks.RedirectFault.TheVariants.{Text, Slash, Part}
use Rattle.ovl_inode.specs.Redirects.{redirect_fault, is_absolute, is_bad_part}

not_empty : {X : Type 0} (x : X) (xs : List X) → (length (x ∷ xs) == 0) ≡ false
not_empty x xs = grind (arith, nat_tests)

pub encoding_fault : (value : List ℕ) → (length value == 0) ≡ false → (IsUtf8 value → ⊥) → redirect_fault value ≡ Some Text
encoding_fault value some bad = by (is_utf8 value) refl
  where
    by : (b : Bool) → is_utf8 value ≡ b → redirect_fault value ≡ Some Text
    by true e = absurd (bad (IsUtf8-from_is_utf8 value e))
    by false e = rw some (rw e refl)

-- the fault of an absolute value, by what its parts are
pub absolute_fault : (rest : List ℕ) (empty bad : Bool) → is_utf8 (slash ∷ rest) ≡ true → list_any (λ byte. byte == 0) (slash ∷ rest) ≡ false → list_any (λ part. length part == 0) (parts_between rest) ≡ empty → list_any is_bad_part (parts_between rest) ≡ bad → redirect_fault (slash ∷ rest) ≡ (if empty then Some Slash else if bad then Some Part else None)
absolute_fault rest empty bad utf8 nul e b = rw (not_empty slash rest) (rw utf8 (rw nul (rw e (rw b refl))))

pub relative_fault : (value : List ℕ) (slashed bad : Bool) → (length value == 0) ≡ false → is_absolute value ≡ false → is_utf8 value ≡ true → list_any (λ byte. byte == 0) value ≡ false → list_any (λ byte. byte == slash) value ≡ slashed → is_bad_part value ≡ bad → redirect_fault value ≡ (if slashed then Some Slash else if bad then Some Part else None)
relative_fault value true bad some relative utf8 nul s b = rw some (rw utf8 (rw nul (rw relative (rw s refl))))
relative_fault value false true some relative utf8 nul s b = rw some (rw utf8 (rw nul (rw relative (rw s (rw (one_part value s) (rw b refl))))))
relative_fault value false false some relative utf8 nul s b = rw some (rw utf8 (rw nul (rw relative (rw s (rw (one_part value s) (rw b refl))))))

-- a text from which no separator can be stripped isn't absolute
pub relative_text : (text : List ℕ) → ((rest : List ℕ) → text ≡ encode 47 ++ rest → ⊥) → is_absolute text ≡ false
relative_text [] bare = refl
relative_text (byte ∷ bytes) bare = by (byte == slash) refl
  where
    by : (b : Bool) → (byte == slash) ≡ b → (byte == slash) ≡ false
    by true e = absurd (bare bytes (ap (λ first. first ∷ bytes) (eqb-true byte 47 e) ∙ ap (λ front. front ++ bytes) (sym (encode_ascii 47 (lit< tt)))))
    by false e = e

-- ---- the parts of an absolute value are names

neither : (a b : Bool) → (a || b) ≡ false → (a ≡ false) × (b ≡ false)
neither true b none = cc
neither false b none = (refl, none)

-- a byte that a text lacks, its parts lack
parts_lack : (c : ℕ) (text : List ℕ) → list_any (λ byte. byte == c) text ≡ false → list_any (λ part. list_any (λ byte. byte == c) part) (parts_between text) ≡ false
parts_lack c [] free = refl
parts_lack c (x ∷ xs) free = by (parts_between xs) (x == slash) (neither (x == c) (list_any (λ byte. byte == c) xs) free).0 (parts_lack c xs (neither (x == c) (list_any (λ byte. byte == c) xs) free).1)
  where
    by : (parts : List (List ℕ)) (b : Bool) → (x == c) ≡ false → list_any (λ part. list_any (λ byte. byte == c) part) parts ≡ false → list_any (λ part. list_any (λ byte. byte == c) part) (cond b ([] ∷ parts) (onto_first x parts)) ≡ false
    by parts true own later = later
    by [] false own later = rw own refl
    by (part ∷ parts) false own later = rw own later

-- no part holds a separator
parts_lack_slash : (text : List ℕ) → list_any (λ part. list_any (λ byte. byte == slash) part) (parts_between text) ≡ false
parts_lack_slash [] = refl
parts_lack_slash (x ∷ xs) = by (parts_between xs) (x == slash) refl (parts_lack_slash xs)
  where
    by : (parts : List (List ℕ)) (b : Bool) → (x == slash) ≡ b → list_any (λ part. list_any (λ byte. byte == slash) part) parts ≡ false → list_any (λ part. list_any (λ byte. byte == slash) part) (cond b ([] ∷ parts) (onto_first x parts)) ≡ false
    by parts true own later = later
    by [] false own later = rw own refl
    by (part ∷ parts) false own later = rw own later

clean_part : (part : List ℕ) → (length part == 0) ≡ false → is_bad_part part ≡ false → list_any (λ byte. byte == slash) part ≡ false → list_any (λ byte. byte == 0) part ≡ false → is_some (name_fault part) ≡ false
clean_part part some fine slashed null = by (name_eq part dot) (name_eq part dot_dot) (nat_lt name_limit (length part)) refl refl refl fine
  where
    by : (a b c : Bool) → name_eq part dot ≡ a → name_eq part dot_dot ≡ b → nat_lt name_limit (length part) ≡ c → (a || b || c) ≡ false → is_some (name_fault part) ≡ false
    by true b c ea eb ec none = cc
    by false true c ea eb ec none = cc
    by false false true ea eb ec none = cc
    by false false false ea eb ec none = rw (some, ec, ea, eb, slashed, null) refl

clean_parts : (parts : List (List ℕ)) → list_any (λ part. length part == 0) parts ≡ false → list_any is_bad_part parts ≡ false → list_any (λ part. list_any (λ byte. byte == slash) part) parts ≡ false → list_any (λ part. list_any (λ byte. byte == 0) part) parts ≡ false → list_any (λ part. is_some (name_fault part)) parts ≡ false
clean_parts [] some fine slashed null = refl
clean_parts (part ∷ parts) some fine slashed null =
    let a = neither (length part == 0) (list_any (λ p. length p == 0) parts) some in
    let b = neither (is_bad_part part) (list_any is_bad_part parts) fine in
    let c = neither (list_any (λ byte. byte == slash) part) (list_any (λ p. list_any (λ byte. byte == slash) p) parts) slashed in
    let d = neither (list_any (λ byte. byte == 0) part) (list_any (λ p. list_any (λ byte. byte == 0) p) parts) null in
    rw (clean_part part a.0 b.0 c.0 d.0) (clean_parts parts a.1 b.1 c.1 d.1)

pub redirect_names : (rest : List ℕ) → is_utf8 (slash ∷ rest) ≡ true → list_any (λ byte. byte == 0) (slash ∷ rest) ≡ false → list_any (λ part. length part == 0) (parts_between rest) ≡ false → list_any is_bad_part (parts_between rest) ≡ false → has_names (text_names rest) ≡ true
redirect_names rest utf8 nul some fine = has_names-clean rest (clean_parts (parts_between rest) some fine (parts_lack_slash rest) (parts_lack 0 rest nul)) (utf8-rest (slash ∷ rest) rest refl (IsUtf8-from_is_utf8 (slash ∷ rest) utf8))

-- the names of a text without an empty part are its parts
pub parts_are_names : (rest : List ℕ) → list_any (λ part. length part == 0) (parts_between rest) ≡ false → text_names rest ≡ parts_between rest
parts_are_names [] some = cc
parts_are_names (byte ∷ bytes) some = refl
