-- Texts that have `/` between names: what they are to their names.
use Rattle.std.proofs.Common.{◌≡◌, ◌≢◌, ℕ, suc, ◌<◌, ◌≤◌, ◌+◌, List, [], ◌∷◌, ◌++◌, Bool, true, false, Option, Some, None, refl, sym, ap, ◌∙◌, lit<, length, take, drop, get_or, append_assoc, add-one, drop-cons, length-append, length-drop, take_all, min, ◌-◌, zero, arith}
use Rattle.std.specs.Prelude.{cond, codes, ◌==◌, nat_lt, ◌&&◌, ◌||◌, is_some, is_none, if◌then◌else◌}
use Rattle.std.specs.declared.cmp.Ordering.{Ordering}
use Rattle.std.specs.declared.cmp.Ordering.TheVariants.{Less, Equal, Greater}
use Rattle.std.specs.Ordering.{nat_cmp, ordering_then}
use Rattle.std.specs.Cmp.{nat_cmp_is}
use Rattle.std.specs.List.{list_any, list_all, starts_with, flat_map, onto_first, join_with_byte, position_or_len}
use Rattle.std.specs.Str.{bytes_eq, is_utf8, IsUtf8}
use Rattle.std.proofs.lemmas.Bool.{eqb-true, eq-eqb}
use Rattle.std.proofs.lemmas.List.Splits.{length-slice_split, slice_split_first, join_with_byte-slice_split}
use Rattle.std.specs.String.Boundary.{IsSplitPoint}
use Rattle.std.proofs.Math.Seq.{get_or-append_seam}
use Rattle.std.proofs.lemmas.List.{take-append-drop, take-append-le, append-nil}
use Rattle.std.proofs.lemmas.List.Folds.{list_all-append}
use Rattle.std.proofs.lemmas.List.Sums.{fails_before_first, passes_at_first}
use Rattle.std.proofs.lemmas.Str.{IsUtf8-take, IsUtf8-drop, IsCharBoundary-before_ascii, IsCharBoundary-after_ascii, IsUtf8-past_char, encode_ascii, is_utf8-from_IsUtf8}
use Rattle.std.proofs.lemmas.Bool.Decides.{nat_tests}
use Rattle.std.proofs.lemmas.Str.Pattern.{drop_at_char, NoCharPasses-char}
use Rattle.std.specs.Str.Pattern.{RFindsChar}
use Rattle.std.specs.Option.{MatchOption}
use denote.Ref.{Bor}
use Rattle.std.proofs.lemmas.Slice.Eq.{bytes_eq-Decides, slice_eq-Decides}
use Rattle.ovl_names.specs.declared.names.NameFault.{NameFault}
use Rattle.ovl_names.specs.declared.names.NameFault.TheVariants.{Empty, TooLong, Dot, Slash, Nul}
use Rattle.ovl_names.specs.Names.{name_limit, name_fault, is_name, name_eq, name_cmp, slash, dot, dot_dot}
use Rattle.ovl_names.specs.Paths.{PathNames, path_text, text_names, joined_text, parts_between, has_names, path_cmp, path_eq, parent_path}
use Rattle.ovl_names.specs.Escapes.{escaped, escaped_byte, shown_path}
use Rattle.ovl_names.proofs.Ascending.{both}

-- ---- parts

-- a text has at least one part
pub some_part : (text : List ℕ) → 0 < length (parts_between text)
some_part text = omega (arith, length-slice_split (λ byte. byte == slash) text)

pub few_parts : (text : List ℕ) → length (parts_between text) ≤ length text + 1
few_parts [] = omega arith
few_parts (x ∷ xs) = by (x == slash) (parts_between xs) (few_parts xs)
  where
    by : (b : Bool) (parts : PathNames) → length parts ≤ length xs + 1 → length (cond b ([] ∷ parts) (onto_first x parts)) ≤ length (x ∷ xs) + 1
    by true parts few = omega (arith, few)
    by false [] few = omega arith
    by false (part ∷ parts) few = omega (arith, few)

-- the parts of two texts with a separator between
pub parts-across : (xs ys : List ℕ) → parts_between (xs ++ slash ∷ ys) ≡ parts_between xs ++ parts_between ys
parts-across [] ys = refl
parts-across (x ∷ xs) ys = rw (parts-across xs ys) (by (x == slash) (parts_between xs) (some_part xs))
  where
    by : (b : Bool) (front : PathNames) → 0 < length front → cond b ([] ∷ (front ++ parts_between ys)) (onto_first x (front ++ parts_between ys)) ≡ cond b ([] ∷ front) (onto_first x front) ++ parts_between ys
    by true front some = refl
    by false [] some = absurd (omega arith)
    by false (part ∷ front) some = refl

-- a text without a separator is its one part
pub one_part : (text : List ℕ) → list_any (λ byte. byte == slash) text ≡ false → parts_between text ≡ text ∷ []
one_part [] free = refl
one_part (x ∷ xs) free = by (one_part xs) (x == slash) refl
  where
    by : (list_any (λ byte. byte == slash) xs ≡ false → parts_between xs ≡ xs ∷ []) → (b : Bool) → (x == slash) ≡ b → parts_between (x ∷ xs) ≡ (x ∷ xs) ∷ []
    by later true e = let bad : true ≡ false = rw e at free in cc
    by later false e = rw (e, later (rw e at free)) refl

-- no byte of a text is the one that is not found in it
pub lacks : (c : ℕ) (xs : List ℕ) → ((i : ℕ) → i < length xs → get_or xs i 0 ≢ c) → list_any (λ byte. byte == c) xs ≡ false
lacks c [] none = refl
lacks c (x ∷ xs) none = by (lacks c xs (λ i l. none (suc i) (omega arith))) (x == c) refl
  where
    by : list_any (λ byte. byte == c) xs ≡ false → (b : Bool) → (x == c) ≡ b → list_any (λ byte. byte == c) (x ∷ xs) ≡ false
    by later true e = absurd (none 0 (omega arith) (eqb-true x c e))
    by later false e = rw (e, later) refl

-- ---- names

pub empty_from_length : (text : List ℕ) → length text ≡ 0 → text ≡ []
empty_from_length [] none = refl
empty_from_length (byte ∷ bytes) none = absurd (omega arith)

pub text_names-some : (text : List ℕ) → 0 < length text → text_names text ≡ parts_between text
text_names-some [] some = absurd (omega arith)
text_names-some (byte ∷ bytes) some = refl

-- a text without names is empty
pub text_names-none : (text : List ℕ) → text_names text ≡ [] → text ≡ []
text_names-none [] none = refl
text_names-none (byte ∷ bytes) none = absurd (omega (arith, some_part (byte ∷ bytes), ap length none))

-- the names of two texts with a separator between
pub text_names-across : (xs ys : List ℕ) → 0 < length xs → 0 < length ys → text_names (xs ++ slash ∷ ys) ≡ text_names xs ++ text_names ys
text_names-across [] ys some more = absurd (omega arith)
text_names-across (x ∷ xs) ys some more = rw (text_names-some ys more) (parts-across (x ∷ xs) ys)

pub empty_is_none : is_name [] ≡ false
empty_is_none = refl

-- a text has no more names than bytes
pub few_names : (text : List ℕ) → has_names (text_names text) ≡ true → length (text_names text) ≤ length text
few_names [] named = omega arith
few_names (x ∷ xs) named = by (x == slash) (parts_between xs) (few_parts xs) named
  where
    by : (b : Bool) (parts : PathNames) → length parts ≤ length xs + 1 → has_names (cond b ([] ∷ parts) (onto_first x parts)) ≡ true → length (cond b ([] ∷ parts) (onto_first x parts)) ≤ length (x ∷ xs)
    by true parts few all = let bad = (both {a = is_name []} {b = has_names parts} all).0 in cc (empty_is_none)
    by false [] few all = omega arith
    by false (part ∷ parts) few all = omega (arith, few)

-- what names that follow others in a text are together
pub joined-named : (text : List ℕ) (path names : PathNames) → text_names text ≡ path ++ names → has_names path ≡ true → has_names names ≡ true → has_names (text_names text) ≡ true
joined-named text path names all upper lower = ap has_names all ∙ (list_all-append is_name path names ∙ rw (upper, lower) refl)

pub joined-few : (text : List ℕ) (path names : PathNames) → text_names text ≡ path ++ names → has_names path ≡ true → has_names names ≡ true → length path + length names ≤ length text
joined-few text path names all upper lower = omega (arith, few_names text (joined-named text path names all upper lower), ap length all, length-append path names)

-- a name is no empty text, and holds no separator
no_slash : (empty long dots slashed null : Bool) → is_none (if empty then Some Empty else if long then Some TooLong else if dots then Some Dot else if slashed then Some Slash else if null then Some Nul else None) ≡ true → slashed ≡ false
no_slash true long dots slashed null none = cc
no_slash false true dots slashed null none = cc
no_slash false false true slashed null none = cc
no_slash false false false true null none = cc
no_slash false false false false null none = refl

pub slash_free : (name : List ℕ) → is_name name ≡ true → list_any (λ byte. byte == slash) name ≡ false
slash_free name is = no_slash (length name == 0) (nat_lt name_limit (length name)) (name_eq name dot || name_eq name dot_dot) (list_any (λ byte. byte == slash) name) (list_any (λ byte. byte == 0) name) (both {a = is_none (name_fault name)} {b = is_utf8 name} is).0

-- a text that is a name has only that name
pub text_names-name : (name : List ℕ) → is_name name ≡ true → text_names name ≡ name ∷ []
text_names-name [] is = let bad : is_name [] ≡ true = is in cc (empty_is_none)
text_names-name (byte ∷ bytes) is = one_part (byte ∷ bytes) (slash_free (byte ∷ bytes) is)

-- ---- order

equal : (x y : ℕ) → x ≡ y → nat_cmp x y ≡ Equal
equal x y e = sym (nat_cmp_is x y Equal e)

-- how two texts are to each other, where a separator comes before every other byte
abbrev pub text_cmp : List ℕ → List ℕ → Ordering
text_cmp [] [] = Equal
text_cmp [] (y ∷ ys) = Less
text_cmp (x ∷ xs) [] = Greater
text_cmp (x ∷ xs) (y ∷ ys) = if x == y then text_cmp xs ys else if x == slash then Less else if y == slash then Greater else nat_cmp x y

-- the parts of two texts are to each other as the texts are
pub text_cmp-parts : (xs ys : List ℕ) → path_cmp (parts_between xs) (parts_between ys) ≡ text_cmp xs ys
text_cmp-parts [] [] = refl
text_cmp-parts [] (y ∷ ys) = by (y == slash) (parts_between ys) (some_part ys)
  where
    by : (b : Bool) (others : PathNames) → 0 < length others → path_cmp ([] ∷ []) (cond b ([] ∷ others) (onto_first y others)) ≡ Less
    by true [] some = absurd (omega arith)
    by true (part ∷ others) some = refl
    by false [] some = absurd (omega arith)
    by false (part ∷ others) some = refl
text_cmp-parts (x ∷ xs) [] = by (x == slash) (parts_between xs) (some_part xs)
  where
    by : (b : Bool) (others : PathNames) → 0 < length others → path_cmp (cond b ([] ∷ others) (onto_first x others)) ([] ∷ []) ≡ Greater
    by true [] some = absurd (omega arith)
    by true (part ∷ others) some = refl
    by false [] some = absurd (omega arith)
    by false (part ∷ others) some = refl
text_cmp-parts (x ∷ xs) (y ∷ ys) = by (parts_between xs) (parts_between ys) (some_part xs) (some_part ys) (text_cmp-parts xs ys) (x == slash) (y == slash) (x == y) refl refl refl
  where
    unequal : (p q : List ℕ) (r : Ordering) (b : Bool) → nat_lt x y ≡ b → (x == y) ≡ false → ordering_then (ordering_then (nat_cmp x y) (name_cmp p q)) r ≡ nat_cmp x y
    unequal p q r true e ne = rw e refl
    unequal p q r false e ne = rw (e, ne) refl

    by : (own others : PathNames) → 0 < length own → 0 < length others → path_cmp own others ≡ text_cmp xs ys → (a b c : Bool) → (x == slash) ≡ a → (y == slash) ≡ b → (x == y) ≡ c
        → path_cmp (cond a ([] ∷ own) (onto_first x own)) (cond b ([] ∷ others) (onto_first y others)) ≡ (if c then text_cmp xs ys else if a then Less else if b then Greater else nat_cmp x y)
    by [] others some more later a b c ea eb ec = absurd (omega arith)
    by (p ∷ own) [] some more later a b c ea eb ec = absurd (omega arith)
    by (p ∷ own) (q ∷ others) some more later true true true ea eb ec = later
    by (p ∷ own) (q ∷ others) some more later true true false ea eb ec = let bad = eq-eqb x y (eqb-true x slash ea ∙ sym (eqb-true y slash eb)) in cc
    by (p ∷ own) (q ∷ others) some more later true false true ea eb ec = let bad = eq-eqb y slash (sym (eqb-true x y ec) ∙ eqb-true x slash ea) in cc
    by (p ∷ own) (q ∷ others) some more later true false false ea eb ec = refl
    by (p ∷ own) (q ∷ others) some more later false true true ea eb ec = let bad = eq-eqb x slash (eqb-true x y ec ∙ eqb-true y slash eb) in cc
    by (p ∷ own) (q ∷ others) some more later false true false ea eb ec = refl
    by (p ∷ own) (q ∷ others) some more later false false true ea eb ec = rw (equal x y (eqb-true x y ec)) later
    by (p ∷ own) (q ∷ others) some more later false false false ea eb ec = unequal p q (path_cmp own others) (nat_lt x y) refl ec

-- ---- what reports show

-- the parts of a text with `/` before each, as reports write them
pub shown-parts : (text : List ℕ) → flat_map (λ own. codes "/" ++ escaped own) (parts_between text) ≡ slash ∷ escaped text
shown-parts [] = refl
shown-parts (x ∷ xs) = by (parts_between xs) (some_part xs) (shown-parts xs) (x == slash) refl
  where
    by : (parts : PathNames) → 0 < length parts → flat_map (λ own. codes "/" ++ escaped own) parts ≡ slash ∷ escaped xs → (b : Bool) → (x == slash) ≡ b
        → flat_map (λ own. codes "/" ++ escaped own) (cond b ([] ∷ parts) (onto_first x parts)) ≡ slash ∷ (escaped_byte x ++ escaped xs)
    by [] some later b e = absurd (omega arith)
    by (part ∷ parts) some later true e = rw (eqb-true x slash e, later) refl
    by (part ∷ parts) some later false e = let tail : escaped part ++ flat_map (λ own. codes "/" ++ escaped own) parts ≡ escaped xs = cc in ap (λ rest. slash ∷ rest) (append_assoc (escaped_byte x) (escaped part) (flat_map (λ own. codes "/" ++ escaped own) parts) ∙ ap (λ rest. escaped_byte x ++ rest) tail)

pub shown-names : (text : List ℕ) → shown_path (text_names text) ≡ slash ∷ escaped text
shown-names [] = refl
shown-names (x ∷ xs) = by (parts_between (x ∷ xs)) (some_part (x ∷ xs)) (shown-parts (x ∷ xs))
  where
    by : (parts : PathNames) → 0 < length parts → flat_map (λ own. codes "/" ++ escaped own) parts ≡ slash ∷ escaped (x ∷ xs) → shown_path parts ≡ slash ∷ escaped (x ∷ xs)
    by [] some all = absurd (omega arith)
    by (part ∷ parts) some all = all

-- ---- what a text begins with

-- whether the names of a text begin with those of another
abbrev pub text_starts : List ℕ → List ℕ → Bool
text_starts [] [] = true
text_starts (x ∷ xs) [] = x == slash
text_starts [] (y ∷ ys) = false
text_starts (x ∷ xs) (y ∷ ys) = (y == x) && text_starts xs ys

pub text_starts-parts : (xs ys : List ℕ) → starts_with name_eq (parts_between xs) (parts_between ys) ≡ text_starts xs ys
text_starts-parts [] [] = refl
text_starts-parts (x ∷ xs) [] = by (x == slash) (parts_between xs) (some_part xs)
  where
    by : (b : Bool) (own : PathNames) → 0 < length own → starts_with name_eq (cond b ([] ∷ own) (onto_first x own)) ([] ∷ []) ≡ b
    by true own some = refl
    by false [] some = absurd (omega arith)
    by false (part ∷ own) some = refl
text_starts-parts [] (y ∷ ys) = by (y == slash) (parts_between ys) (some_part ys)
  where
    by : (b : Bool) (others : PathNames) → 0 < length others → starts_with name_eq ([] ∷ []) (cond b ([] ∷ others) (onto_first y others)) ≡ false
    by b [] some = absurd (omega arith)
    by true (part ∷ others) some = refl
    by false (part ∷ others) some = refl
text_starts-parts (x ∷ xs) (y ∷ ys) = by (parts_between xs) (parts_between ys) (some_part xs) (some_part ys) (text_starts-parts xs ys) (x == slash) (y == slash) (y == x) refl refl refl
  where
    by : (own others : PathNames) → 0 < length own → 0 < length others → starts_with name_eq own others ≡ text_starts xs ys → (a b c : Bool) → (x == slash) ≡ a → (y == slash) ≡ b → (y == x) ≡ c
        → starts_with name_eq (cond a ([] ∷ own) (onto_first x own)) (cond b ([] ∷ others) (onto_first y others)) ≡ (c && text_starts xs ys)
    by [] others some more later a b c ea eb ec = absurd (omega arith)
    by (p ∷ own) [] some more later a b c ea eb ec = absurd (omega arith)
    by (p ∷ own) (q ∷ others) some more later true true true ea eb ec = later
    by (p ∷ own) (q ∷ others) some more later true true false ea eb ec = let bad = eq-eqb y x (eqb-true y slash eb ∙ sym (eqb-true x slash ea)) in cc
    by (p ∷ own) (q ∷ others) some more later true false true ea eb ec = let bad = eq-eqb y slash (eqb-true y x ec ∙ eqb-true x slash ea) in cc
    by (p ∷ own) (q ∷ others) some more later true false false ea eb ec = refl
    by (p ∷ own) (q ∷ others) some more later false true true ea eb ec = let bad = eq-eqb x slash (sym (eqb-true y x ec) ∙ eqb-true y slash eb) in cc
    by (p ∷ own) (q ∷ others) some more later false true false ea eb ec = refl
    by (p ∷ own) (q ∷ others) some more later false false true ea eb ec = rw ec later
    by (p ∷ own) (q ∷ others) some more later false false false ea eb ec = rw ec refl

-- ---- equality

-- two texts are one where their names are
pub text_names-same : (xs ys : List ℕ) → text_names xs ≡ text_names ys → xs ≡ ys
text_names-same [] ys same = sym (text_names-none ys (sym same))
text_names-same (x ∷ xs) [] same = text_names-none (x ∷ xs) same
text_names-same (x ∷ xs) (y ∷ ys) same = sym (join_with_byte-slice_split slash (x ∷ xs)) ∙ (ap (join_with_byte slash) same ∙ join_with_byte-slice_split slash (y ∷ ys))

pub text_eq-names : (xs ys : List ℕ) → path_eq (text_names xs) (text_names ys) ≡ bytes_eq xs ys
text_eq-names xs ys = by (path_eq (text_names xs) (text_names ys)) (bytes_eq xs ys) refl refl
  where
    by : (a b : Bool) → path_eq (text_names xs) (text_names ys) ≡ a → bytes_eq xs ys ≡ b → a ≡ b
    by true true ea eb = refl
    by false false ea eb = refl
    by true false ea eb = let bad = (bytes_eq-Decides xs ys).1 (text_names-same xs ys ((slice_eq-Decides {E = name_eq} bytes_eq-Decides (text_names xs) (text_names ys) true (sym ea)).0 refl)) in cc
    by false true ea eb = let bad = (slice_eq-Decides {E = name_eq} bytes_eq-Decides (text_names xs) (text_names ys) (path_eq (text_names xs) (text_names ys)) refl).1 (ap text_names ((bytes_eq-Decides xs ys).0 eb)) in cc

-- ---- where a text is cut

pub parent_path-child : (path : PathNames) (name : List ℕ) → parent_path (path ++ name ∷ []) ≡ path
parent_path-child path name = rw (length-append path (name ∷ [])) (take-append-le (length path + 1 - 1) path (name ∷ []) (omega arith) ∙ (ap (λ n. take n path) (omega arith) ∙ take_all (length path) path (omega arith)))

-- the first name and the others
pub text_names-first : (text first rest : List ℕ) → text ≡ first ++ slash ∷ rest → list_any (λ byte. byte == slash) first ≡ false → has_names (text_names text) ≡ true → text_names text ≡ first ∷ text_names rest
text_names-first text first rest apart free named = by rest split (rw split at named)
  where
    split : text_names text ≡ first ∷ parts_between rest
    split = ap text_names apart ∙ (text_names-some (first ++ slash ∷ rest) (omega (arith, length-append first (slash ∷ rest))) ∙ (parts-across first rest ∙ ap (λ front. front ++ parts_between rest) (one_part first free)))

    by : (rest : List ℕ) → text_names text ≡ first ∷ parts_between rest → has_names (first ∷ parts_between rest) ≡ true → text_names text ≡ first ∷ text_names rest
    by [] e all = let last = (both {a = is_name first} {b = has_names ([] ∷ [])} all).1 in let bad = empty_is_none in cc
    by (byte ∷ bytes) e all = e

-- the last name and those above it
pub text_names-last : (text above last : List ℕ) → text ≡ above ++ slash ∷ last → list_any (λ byte. byte == slash) last ≡ false → has_names (text_names text) ≡ true → text_names text ≡ text_names above ++ last ∷ []
text_names-last text above last apart free named = by above split (rw split at named)
  where
    split : text_names text ≡ parts_between above ++ last ∷ []
    split = ap text_names apart ∙ (text_names-some (above ++ slash ∷ last) (omega (arith, length-append above (slash ∷ last))) ∙ (parts-across above last ∙ ap (λ back. parts_between above ++ back) (one_part last free)))

    by : (above : List ℕ) → text_names text ≡ parts_between above ++ last ∷ [] → has_names (parts_between above ++ last ∷ []) ≡ true → text_names text ≡ text_names above ++ last ∷ []
    by [] e all = let bad = empty_is_none in cc
    by (byte ∷ bytes) e all = e

-- a text without a separator is its one name
pub text_names-alone : (text : List ℕ) → 0 < length text → list_any (λ byte. byte == slash) text ≡ false → text_names text ≡ text ∷ []
text_names-alone text some free = text_names-some text some ∙ one_part text free

-- where a separator is looked for from the end
pub rsplit_parts : (bs : List ℕ) (r : Option (Bor (List ℕ) × Bor (List ℕ))) → MatchOption r (RFindsChar 47 bs None) (λ x. (i : ℕ) × (j : ℕ) × RFindsChar 47 bs (Some (i, j)) × (x.0.now ≡ take i bs) × (x.1.now ≡ drop j bs) × (i ≤ j) × (length x.0.now ≡ i) × (length x.1.now + j ≡ length bs))
    → MatchOption r (list_any (λ byte. byte == slash) bs ≡ false) (λ x. (bs ≡ x.0.now ++ slash ∷ x.1.now) × (list_any (λ byte. byte == slash) x.1.now ≡ false))
rsplit_parts bs None found = lacks slash bs (λ i l. NoCharPasses-char 47 bs i found (lit< tt) l)
rsplit_parts bs (Some x) found = (
  sym (take-append-drop found.0 bs) ∙ (λ j. sym found.3 j ++ (drop_at_char 47 bs found.0 found.1 found.2.1 (lit< tt) ∙ ap (λ (own : List ℕ). slash ∷ own) (sym found.4)) j),
  rw found.4 (lacks slash (drop found.1 bs) (λ i l. NoCharPasses-char 47 (drop found.1 bs) i found.2.0 (lit< tt) l)),
)

-- what a text begins with
pub text_starts-prefix : (ys rest : List ℕ) → text_starts (ys ++ rest) ys ≡ text_starts rest []
text_starts-prefix [] rest = refl
text_starts-prefix (y ∷ ys) rest = rw (eq-eqb y y refl) (text_starts-prefix ys rest)

pub text_starts-not : (xs ys : List ℕ) → ((rest : List ℕ) → xs ≢ ys ++ rest) → text_starts xs ys ≡ false
text_starts-not [] [] none = absurd (none [] refl)
text_starts-not (x ∷ xs) [] none = absurd (none (x ∷ xs) refl)
text_starts-not [] (y ∷ ys) none = refl
text_starts-not (x ∷ xs) (y ∷ ys) none = by (λ e. text_starts-not xs ys (λ rest same. none rest (λ i. sym (eqb-true y x e) i ∷ same i))) (y == x) refl
  where
    by : ((y == x) ≡ true → text_starts xs ys ≡ false) → (b : Bool) → (y == x) ≡ b → ((y == x) && text_starts xs ys) ≡ false
    by later true e = rw (e, later e) refl
    by later false e = rw e refl

pub text_starts-names : (xs ys : List ℕ) → 0 < length ys → starts_with name_eq (text_names xs) (text_names ys) ≡ text_starts xs ys
text_starts-names xs [] some = absurd (omega arith)
text_starts-names [] (y ∷ ys) some = by (parts_between (y ∷ ys)) (some_part (y ∷ ys))
  where
    by : (others : PathNames) → 0 < length others → starts_with name_eq [] others ≡ false
    by [] more = absurd (omega arith)
    by (part ∷ others) more = refl
text_starts-names (x ∷ xs) (y ∷ ys) some = text_starts-parts (x ∷ xs) (y ∷ ys)

-- what a text begins with and what follows
pub starts_with-rest : (text front rest : List ℕ) → text ≡ front ++ rest → 0 < length front → starts_with name_eq (text_names text) (text_names front) ≡ text_starts rest []
starts_with-rest text front rest e some = text_starts-names text front some ∙ (ap (λ own. text_starts own front) e ∙ text_starts-prefix front rest)

pub text_starts-end : (rest : List ℕ) → length rest ≡ 0 → text_starts rest [] ≡ true
text_starts-end [] none = refl
text_starts-end (byte ∷ bytes) none = absurd (omega arith)

pub text_starts-at : (rest : List ℕ) → 0 < length rest → text_starts rest [] ≡ (get_or rest 0 0 == slash)
text_starts-at [] some = absurd (omega arith)
text_starts-at (byte ∷ bytes) some = refl

-- the order of two texts is that of their names
pub text_cmp-names : (xs ys : List ℕ) → path_cmp (text_names xs) (text_names ys) ≡ text_cmp xs ys
text_cmp-names [] [] = refl
text_cmp-names [] (y ∷ ys) = by (parts_between (y ∷ ys)) (some_part (y ∷ ys))
  where
    by : (others : PathNames) → 0 < length others → path_cmp [] others ≡ Less
    by [] more = absurd (omega arith)
    by (part ∷ others) more = refl
text_cmp-names (x ∷ xs) [] = by (parts_between (x ∷ xs)) (some_part (x ∷ xs))
  where
    by : (own : PathNames) → 0 < length own → path_cmp own [] ≡ Greater
    by [] more = absurd (omega arith)
    by (part ∷ own) more = refl
text_cmp-names (x ∷ xs) (y ∷ ys) = text_cmp-parts (x ∷ xs) (y ∷ ys)

-- two texts are to each other as what follows their first bytes, where these are the same
pub text_cmp-past : (n : ℕ) (xs ys : List ℕ) → n < length xs → n < length ys → text_cmp (drop n xs) (drop n ys) ≡ (if get_or xs n 0 == get_or ys n 0 then text_cmp (drop (n + 1) xs) (drop (n + 1) ys) else if get_or xs n 0 == slash then Less else if get_or ys n 0 == slash then Greater else nat_cmp (get_or xs n 0) (get_or ys n 0))
text_cmp-past n xs ys own other = rw (add-one, drop-cons xs n 0 own, drop-cons ys n 0 other) refl

pub text_cmp-end : (n : ℕ) (xs ys : List ℕ) → n ≡ min (length xs) (length ys) → text_cmp (drop n xs) (drop n ys) ≡ nat_cmp (length xs) (length ys)
text_cmp-end n xs ys end = by (drop n xs) (drop n ys) (length-drop n xs) (length-drop n ys)
  where
    by : (own others : List ℕ) → length own ≡ length xs - n → length others ≡ length ys - n → text_cmp own others ≡ nat_cmp (length xs) (length ys)
    by [] [] a b = nat_cmp_is (length xs) (length ys) Equal (omega arith)
    by [] (y ∷ others) a b = nat_cmp_is (length xs) (length ys) Less (omega arith)
    by (x ∷ own) [] a b = nat_cmp_is (length xs) (length ys) Greater (omega arith)
    by (x ∷ own) (y ∷ others) a b = absurd (omega arith)

-- ---- texts one after the other

-- the text of a path, as that of its names
pub path_text-names : (text : List ℕ) → path_text (text_names text) ≡ slash ∷ text
path_text-names [] = refl
path_text-names (x ∷ xs) = by (parts_between (x ∷ xs)) (some_part (x ∷ xs)) (parts-text (x ∷ xs))
  where
    parts-text : (text : List ℕ) → flat_map (λ own. slash ∷ own) (parts_between text) ≡ slash ∷ text
    parts-text [] = refl
    parts-text (y ∷ ys) = each (parts_between ys) (some_part ys) (parts-text ys) (y == slash) refl
      where
        each : (parts : PathNames) → 0 < length parts → flat_map (λ own. slash ∷ own) parts ≡ slash ∷ ys → (b : Bool) → (y == slash) ≡ b → flat_map (λ own. slash ∷ own) (cond b ([] ∷ parts) (onto_first y parts)) ≡ slash ∷ (y ∷ ys)
        each [] some later b e = absurd (omega arith)
        each (part ∷ parts) some later true e = rw (eqb-true y slash e, later) refl
        each (part ∷ parts) some later false e = let tail : part ++ flat_map (λ own. slash ∷ own) parts ≡ ys = cc in ap (λ (rest : List ℕ). slash ∷ y ∷ rest) tail

    by : (parts : PathNames) → 0 < length parts → flat_map (λ own. slash ∷ own) parts ≡ slash ∷ (x ∷ xs) → path_text parts ≡ slash ∷ (x ∷ xs)
    by [] some all = absurd (omega arith)
    by (part ∷ parts) some all = all

pub text_names-joined : (above below : List ℕ) → 0 < length below → text_names (joined_text above below) ≡ text_names above ++ text_names below
text_names-joined [] below some = refl
text_names-joined (x ∷ xs) below some = text_names-across (x ∷ xs) below (omega arith) some

-- a text that has one name more than another
pub path_text-child : (above name : List ℕ) (path : PathNames) → text_names above ≡ path → is_name name ≡ true → path_text (path ++ name ∷ []) ≡ slash ∷ joined_text above name
path_text-child above name path same is = by name is (text_names-name name is)
  where
    by : (name : List ℕ) → is_name name ≡ true → text_names name ≡ name ∷ [] → path_text (path ++ name ∷ []) ≡ slash ∷ joined_text above name
    by [] is alone = let bad : is_name [] ≡ true = is in cc
    by (x ∷ xs) is alone =
        let names : text_names (joined_text above (x ∷ xs)) ≡ path ++ (x ∷ xs) ∷ [] = text_names-joined above (x ∷ xs) (omega arith) ∙ (λ j. same j ++ alone j) in
        ap path_text (sym names) ∙ path_text-names (joined_text above (x ∷ xs))

-- the text of these names
pub text_names-written : (names : PathNames) → has_names names ≡ true → text_names (join_with_byte slash names) ≡ names
text_names-written [] named = refl
text_names-written (name ∷ []) named = text_names-name name (both {a = is_name name} {b = true} named).0
text_names-written (name ∷ next ∷ names) named = by name (join_with_byte slash (next ∷ names)) (both {a = is_name name} {b = has_names (next ∷ names)} named).0 (text_names-written (next ∷ names) (both {a = is_name name} {b = has_names (next ∷ names)} named).1)
  where
    by : (name text : List ℕ) → is_name name ≡ true → text_names text ≡ next ∷ names → text_names (name ++ slash ∷ text) ≡ name ∷ next ∷ names
    by [] text is later = let bad : is_name [] ≡ true = is in cc (empty_is_none)
    by (x ∷ xs) [] is later = cc
    by (x ∷ xs) (y ∷ ys) is later = text_names-across (x ∷ xs) (y ∷ ys) (omega arith) (omega arith) ∙ (λ j. text_names-name (x ∷ xs) is j ++ later j)

-- a text whose names are the first of another's is what that begins with, and it may be cut there
pub front-text : (text front : List ℕ) (count : ℕ) → has_names (text_names text) ≡ true → text_names front ≡ take count (text_names text) → (take (length front) text ≡ front) × IsSplitPoint text (length front)
front-text text front count named first = by front (drop count (text_names text)) first (take-append-drop count (text_names text)) below
  where
    below : has_names (drop count (text_names text)) ≡ true
    below = (both {a = has_names (take count (text_names text))} {b = has_names (drop count (text_names text))} (sym (list_all-append is_name (take count (text_names text)) (drop count (text_names text))) ∙ (ap has_names (take-append-drop count (text_names text)) ∙ named))).1

    whole : (front : List ℕ) → front ≡ text → (take (length front) text ≡ front) × IsSplitPoint text (length front)
    whole front same = rw same (take_all (length text) text (omega arith), (omega arith, λ some less. absurd (omega arith)))

    cut : (front rest : List ℕ) → text ≡ front ++ slash ∷ rest → (take (length front) text ≡ front) × IsSplitPoint text (length front)
    cut front rest apart = rw apart (
      take-append-le (length front) front (slash ∷ rest) (omega arith) ∙ take_all (length front) front (omega arith),
      (omega (arith, length-append front (slash ∷ rest)), λ some less high. absurd (omega (arith, high, get_or-append_seam front slash rest 0))),
    )

    by : (front : List ℕ) (rest : PathNames) → text_names front ≡ take count (text_names text) → take count (text_names text) ++ rest ≡ text_names text → has_names rest ≡ true → (take (length front) text ≡ front) × IsSplitPoint text (length front)
    by [] rest first split below = (refl, (omega arith, λ some less. absurd (omega arith)))
    by (x ∷ xs) [] first split below = whole (x ∷ xs) (text_names-same (x ∷ xs) text (first ∙ (sym (append-nil (take count (text_names text))) ∙ split)))
    by (x ∷ xs) (name ∷ names) first split below = cut (x ∷ xs) (join_with_byte slash (name ∷ names)) (text_names-same text ((x ∷ xs) ++ slash ∷ join_with_byte slash (name ∷ names)) (sym split ∙ ((λ j. sym first j ++ sym (text_names-written (name ∷ names) below) j) ∙ sym (across (join_with_byte slash (name ∷ names)) (text_names-written (name ∷ names) below)))))
      where
        across : (text : List ℕ) → text_names text ≡ name ∷ names → text_names ((x ∷ xs) ++ slash ∷ text) ≡ text_names (x ∷ xs) ++ text_names text
        across [] later = cc
        across (y ∷ ys) later = text_names-across (x ∷ xs) (y ∷ ys) (omega arith) (omega arith)

-- ---- what a text may be

-- what follows a separator in a text is a text
pub utf8-rest : (text rest : List ℕ) → text ≡ slash ∷ rest → IsUtf8 text → IsUtf8 rest
utf8-rest text rest e utf8 = IsUtf8-past_char text rest slash utf8 (e ∙ ap (λ front. front ++ rest) (sym (encode_ascii slash (lit< tt))))

-- parts without a fault are names
pub named-parts : (parts : PathNames) → list_any (λ part. is_some (name_fault part)) parts ≡ false → list_all is_utf8 parts ≡ true → has_names parts ≡ true
named-parts [] clean utf8 = refl
named-parts (part ∷ parts) clean utf8 = by (named-parts parts) (name_fault part) refl
  where
    utf8s : (is_utf8 part ≡ true) × (list_all is_utf8 parts ≡ true)
    utf8s = both {a = is_utf8 part} {b = list_all is_utf8 parts} utf8

    by : (list_any (λ part. is_some (name_fault part)) parts ≡ false → list_all is_utf8 parts ≡ true → has_names parts ≡ true) → (o : Option NameFault) → name_fault part ≡ o → has_names (part ∷ parts) ≡ true
    by later None e = rw (e, utf8s.0, later (rw e at clean) utf8s.1) refl
    by later (Some fault) e = let bad : true ≡ false = rw e at clean in cc

pub absurd_of : {b : Bool} → b ≡ false → b ≡ true → ⊥
absurd_of fails passes = let bad : false ≡ true = sym fails ∙ passes in cc

-- the parts of a text are texts
parts_utf8 : (n : ℕ) (text : List ℕ) → length text < n → IsUtf8 text → list_all is_utf8 (parts_between text) ≡ true
parts_utf8 zero text short utf8 = absurd (omega arith)
parts_utf8 (suc n) text short utf8 = by (λ rest l u. parts_utf8 n rest l u) (nat_lt place (length text)) refl
  where
    place : ℕ
    place = position_or_len (λ byte. byte == slash) text

    by : ((rest : List ℕ) → length rest < n → IsUtf8 rest → list_all is_utf8 (parts_between rest) ≡ true) → (b : Bool) → nat_lt place (length text) ≡ b → list_all is_utf8 (parts_between text) ≡ true
    by later true e =
        let inside : place < length text = grind (arith, nat_tests) in
        let at : get_or text place 0 ≡ slash = eqb-true (get_or text place 0) slash (passes_at_first (λ byte. byte == slash) text 0 inside) in
        let front = is_utf8-from_IsUtf8 (take place text) (IsUtf8-take text place utf8 (IsCharBoundary-before_ascii text place inside (rw at (lit< tt)))) in
        let rest = IsUtf8-drop text (place + 1) utf8 (IsCharBoundary-after_ascii text place utf8 inside (rw at (lit< tt))) in
        rw (slice_split_first (λ byte. byte == slash) text 0 inside, front) (later (drop (place + 1) text) (omega (arith, length-drop (place + 1) text)) rest)
    by later false e =
        let past : length text ≤ place = grind (arith, nat_tests) in
        let none = lacks slash text (λ i l same. absurd_of (fails_before_first (λ byte. byte == slash) text i 0 (omega arith)) (eq-eqb (get_or text i 0) slash same)) in
        rw (one_part text none, is_utf8-from_IsUtf8 text utf8) refl

pub has_names-clean : (text : List ℕ) → list_any (λ part. is_some (name_fault part)) (parts_between text) ≡ false → IsUtf8 text → has_names (text_names text) ≡ true
has_names-clean [] clean utf8 = refl
has_names-clean (byte ∷ bytes) clean utf8 = named-parts (parts_between (byte ∷ bytes)) clean (parts_utf8 (length (byte ∷ bytes) + 1) (byte ∷ bytes) (omega arith) utf8)
