-- Where the kids of each row lie in the flat list, and what the passes keep that put them there.
use Rattle.std.proofs.Common.{◌≡◌, ◌≢◌, ℕ, zero, suc, ◌+◌, ◌-◌, ◌<◌, ◌≤◌, length, get_or, set, take, drop, cond, Bool, true, false, Some, List, [], ◌∷◌, ◌++◌, refl, sym, ap, ◌∙◌, subst, arith, length-append, length-drop, length-take-le, drop-cons, inl, inr}
use Rattle.std.specs.Prelude.{◌&&◌, ◌==◌, nat_lt, slice_get, slice_index}
use Rattle.std.proofs.lemmas.Bool.{ltb-true, ltb-false, cases_lt}
use Rattle.std.proofs.lemmas.Bool.Decides.{nat_tests}
use Rattle.std.proofs.lemmas.List.{take-append-drop, take_more, ext_get_or, get_or-take, get_or-drop, get_or-set_same, get_or-set_other, length-set}
use Rattle.ovl_names.proofs.Ascending.{both}
use Rattle.ovl_layer.specs.Sheets.{kid_numbers, are_earlier}
use Rattle.ovl_layer.specs.KidLists.{parts_of, AreKidStarts, count_below, AreCounts, AreKidEnds}

-- ---- a part of a list by its number

pub part-within : (starts numbers : List ℕ) (number : ℕ) → number < length (parts_of starts numbers) → suc number < length starts
part-within [] numbers number inside = absurd (omega (arith, inside))
part-within (start ∷ []) numbers number inside = absurd (omega (arith, inside))
part-within (start ∷ end ∷ starts) numbers zero inside = omega arith
part-within (start ∷ end ∷ starts) numbers (suc number) inside = omega (arith, part-within (end ∷ starts) numbers number (omega (arith, inside)))

pub part-get : (starts numbers : List ℕ) (number : ℕ) → suc number < length starts
    → slice_get (parts_of starts numbers) number ≡ Some (take (slice_index starts (suc number) - slice_index starts number) (drop (slice_index starts number) numbers))
part-get [] numbers number inside = absurd (omega (arith, inside))
part-get (start ∷ []) numbers number inside = absurd (omega (arith, inside))
part-get (start ∷ end ∷ starts) numbers zero inside = refl
part-get (start ∷ end ∷ starts) numbers (suc number) inside = part-get (end ∷ starts) numbers number (omega (arith, inside))

-- ---- how many parents have a number below another

count-none : (parents : List ℕ) → count_below parents 0 ≡ 0
count-none [] = refl
count-none (parent ∷ parents) =
    let none : nat_lt parent 0 ≡ false = grind (arith, nat_tests) in
    rw none (count-none parents)

count-few : (parents : List ℕ) (number : ℕ) → count_below parents number ≤ length parents
count-few [] number = omega arith
count-few (parent ∷ parents) number = by (count-few parents number) (nat_lt parent number)
  where
    by : count_below parents number ≤ length parents → (b : Bool) → cond b (suc (count_below parents number)) (count_below parents number) ≤ suc (length parents)
    by later true = omega (arith, later)
    by later false = omega (arith, later)

count-rises : (parents : List ℕ) (low high : ℕ) → low ≤ high → count_below parents low ≤ count_below parents high
count-rises [] low high less = omega arith
count-rises (parent ∷ parents) low high less = by (count-rises parents low high less) (nat_lt parent low) refl (nat_lt parent high) refl
  where
    by : count_below parents low ≤ count_below parents high
        → (b : Bool) → nat_lt parent low ≡ b → (c : Bool) → nat_lt parent high ≡ c
        → cond b (suc (count_below parents low)) (count_below parents low) ≤ cond c (suc (count_below parents high)) (count_below parents high)
    by later true e true f = omega (arith, later)
    by later true e false f = absurd (omega (arith, less, ltb-true parent low e, ltb-false parent high f))
    by later false e true f = omega (arith, later)
    by later false e false f = later

-- those below the next number are those below a number, and its own kids
count-next : (first : ℕ) (parents : List ℕ) (number : ℕ) → count_below parents (suc number) ≡ count_below parents number + length (kid_numbers first parents number)
count-next first [] number = omega arith
count-next first (parent ∷ parents) number = by (count-next (suc first) parents number) (nat_lt parent (suc number)) refl (nat_lt parent number) refl (parent == number) refl
  where
    kids : List ℕ
    kids = kid_numbers (suc first) parents number

    by : count_below parents (suc number) ≡ count_below parents number + length kids
        → (a : Bool) → nat_lt parent (suc number) ≡ a → (b : Bool) → nat_lt parent number ≡ b → (c : Bool) → (parent == number) ≡ c
        → cond a (suc (count_below parents (suc number))) (count_below parents (suc number)) ≡ cond b (suc (count_below parents number)) (count_below parents number) + length (cond c (first ∷ kids) kids)
    by later true d true e true f = let same : parent ≡ number = grind (arith, nat_tests) in absurd (omega (arith, same, ltb-true parent number e))
    by later true d true e false f = omega (arith, later)
    by later true d false e true f = omega (arith, later)
    by later true d false e false f = let other : parent ≢ number = grind (arith, nat_tests) in absurd (omega (arith, other, ltb-true parent (suc number) d, ltb-false parent number e))
    by later false d true e c f = absurd (omega (arith, ltb-false parent (suc number) d, ltb-true parent number e))
    by later false d false e true f = let same : parent ≡ number = grind (arith, nat_tests) in absurd (omega (arith, same, ltb-false parent (suc number) d))
    by later false d false e false f = omega (arith, later)

-- ---- how many kids a row has

kids-few : (first : ℕ) (parents : List ℕ) (directory : ℕ) → length (kid_numbers first parents directory) ≤ length parents
kids-few first [] directory = omega arith
kids-few first (parent ∷ parents) directory = by (kids-few (suc first) parents directory) (parent == directory)
  where
    by : length (kid_numbers (suc first) parents directory) ≤ length parents
        → (b : Bool) → length (cond b (first ∷ kid_numbers (suc first) parents directory) (kid_numbers (suc first) parents directory)) ≤ suc (length parents)
    by later true = omega (arith, later)
    by later false = omega (arith, later)

kids-later : (first number k : ℕ) (parents : List ℕ) (directory : ℕ) → number ≡ first + k → length (kid_numbers number (drop k parents) directory) ≤ length (kid_numbers first parents directory)
kids-later first number zero parents directory is =
    let same : number ≡ first = omega (arith, is) in
    omega (arith, ap (λ n. length (kid_numbers n parents directory)) same)
kids-later first number (suc k) [] directory is = omega arith
kids-later first number (suc k) (parent ∷ parents) directory is = by (kids-later (suc first) number k parents directory (omega (arith, is))) (parent == directory)
  where
    by : length (kid_numbers number (drop k parents) directory) ≤ length (kid_numbers (suc first) parents directory)
        → (b : Bool) → length (kid_numbers number (drop k parents) directory) ≤ length (cond b (first ∷ kid_numbers (suc first) parents directory) (kid_numbers (suc first) parents directory))
    by later true = omega (arith, later)
    by later false = later

-- from a number on there are no more than in all
kids-from : (parents : List ℕ) (number directory : ℕ) → 1 ≤ number → length (kid_numbers number (drop number parents) directory) ≤ length (kid_numbers 1 (drop 1 parents) directory)
kids-from parents zero directory some = absurd (omega (arith, some))
kids-from [] (suc number) directory some = omega arith
kids-from (root ∷ parents) (suc number) directory some = kids-later 1 (suc number) number parents directory (omega arith)

-- ---- the parents of the first rows

drop-one : {X : Type 0} (xs ys : List X) → 1 ≤ length xs → drop 1 (xs ++ ys) ≡ drop 1 xs ++ ys
drop-one [] ys some = absurd (omega (arith, some))
drop-one (x ∷ xs) ys some = refl

drop-one-length : {X : Type 0} (xs : List X) → 1 ≤ length xs → suc (length (drop 1 xs)) ≡ length xs
drop-one-length [] some = absurd (omega (arith, some))
drop-one-length (x ∷ xs) some = refl

earlier-front : (number : ℕ) (xs ys : List ℕ) → are_earlier number (xs ++ ys) ≡ true → are_earlier number xs ≡ true
earlier-front number [] ys all = refl
earlier-front number (x ∷ xs) ys all =
    let parts = both {a = nat_lt x number} {b = are_earlier (suc number) (xs ++ ys)} all in
    λ j. parts.0 j && earlier-front (suc number) xs ys parts.1 j

earlier-last : (number : ℕ) (xs : List ℕ) (y : ℕ) → are_earlier number (xs ++ y ∷ []) ≡ true → y < number + length xs
earlier-last number [] y all =
    let less : y < number = ltb-true y number (both {a = nat_lt y number} {b = true} all).0 in
    omega (arith, less)
earlier-last number (x ∷ xs) y all =
    let later : y < suc number + length xs = earlier-last (suc number) xs y (both {a = nat_lt x number} {b = are_earlier (suc number) (xs ++ y ∷ [])} all).1 in
    omega (arith, later)

kid_numbers-push : (number : ℕ) (parents : List ℕ) (parent directory : ℕ) → kid_numbers number (parents ++ parent ∷ []) directory ≡ kid_numbers number parents directory ++ cond (parent == directory) ((number + length parents) ∷ []) []
kid_numbers-push number [] parent directory = ap (λ n. cond (parent == directory) (n ∷ []) []) (omega arith)
kid_numbers-push number (first ∷ parents) parent directory =
    by (kid_numbers-push (suc number) parents parent directory ∙ ap (λ n. kid_numbers (suc number) parents directory ++ cond (parent == directory) (n ∷ []) []) (omega arith)) (first == directory)
  where
    by : kid_numbers (suc number) (parents ++ parent ∷ []) directory ≡ kid_numbers (suc number) parents directory ++ cond (parent == directory) ((number + suc (length parents)) ∷ []) []
        → (b : Bool) → cond b (number ∷ kid_numbers (suc number) (parents ++ parent ∷ []) directory) (kid_numbers (suc number) (parents ++ parent ∷ []) directory) ≡ cond b (number ∷ kid_numbers (suc number) parents directory) (kid_numbers (suc number) parents directory) ++ cond (parent == directory) ((number + suc (length parents)) ∷ []) []
    by later true = ap (λ ns. number ∷ ns) later
    by later false = later

take-earlier : (parents : List ℕ) (m : ℕ) → 1 ≤ m → m ≤ length parents → are_earlier 1 (drop 1 parents) ≡ true → are_earlier 1 (drop 1 (take m parents)) ≡ true
take-earlier parents m some few all =
    let front : 1 ≤ length (take m parents) = omega (arith, some, length-take-le m parents few) in
    earlier-front 1 (drop 1 (take m parents)) (drop m parents)
    (ap (are_earlier 1) (sym (drop-one (take m parents) (drop m parents) front) ∙ ap (drop 1) (take-append-drop m parents)) ∙ all)

take-next : (parents : List ℕ) (m : ℕ) → 1 ≤ m → m < length parents → drop 1 (take (m + 1) parents) ≡ drop 1 (take m parents) ++ get_or parents m 0 ∷ []
take-next parents m some inside =
    ap (drop 1) (take_more parents m 0 inside) ∙ drop-one (take m parents) (get_or parents m 0 ∷ []) (omega (arith, some, length-take-le m parents (omega (arith, inside))))

pub parent-inside : (parents : List ℕ) (m : ℕ) → 1 ≤ m → m < length parents → are_earlier 1 (drop 1 parents) ≡ true → get_or parents m 0 < m
parent-inside parents m some inside all =
    let last = earlier-last 1 (drop 1 (take m parents)) (get_or parents m 0) (ap (are_earlier 1) (sym (take-next parents m some inside)) ∙ take-earlier parents (m + 1) (omega (arith, some)) (omega (arith, inside)) all) in
    let few = length-take-le m parents (omega (arith, inside)) in
    omega (arith, last, few, drop-one-length (take m parents) (omega (arith, some, few)))

-- ---- counting the kids of each row

-- one more row counts for its parent
pub counts-more : (parents counts : List ℕ) (m value : ℕ) → 1 ≤ m → m < length parents → get_or parents m 0 < length counts → value ≡ slice_index counts (get_or parents m 0) + 1
    → ((number : ℕ) → number ≤ length parents → slice_index counts number ≡ length (kid_numbers 1 (drop 1 (take m parents)) number))
    → (number : ℕ) → number ≤ length parents → slice_index (set counts (get_or parents m 0) value) number ≡ length (kid_numbers 1 (drop 1 (take (m + 1) parents)) number)
counts-more parents counts m value some inside within is each number few =
    by (parent == number) refl
    ∙ sym (ap length grown ∙ length-append kids (cond (parent == number) ((1 + length (drop 1 (take m parents))) ∷ []) []))
  where
    parent : ℕ
    parent = get_or parents m 0

    kids : List ℕ
    kids = kid_numbers 1 (drop 1 (take m parents)) number

    grown : kid_numbers 1 (drop 1 (take (m + 1) parents)) number ≡ kids ++ cond (parent == number) ((1 + length (drop 1 (take m parents))) ∷ []) []
    grown = ap (λ (ps : List ℕ). kid_numbers 1 ps number) (take-next parents m some inside) ∙ kid_numbers-push 1 (drop 1 (take m parents)) parent number

    by : (b : Bool) → (parent == number) ≡ b → slice_index (set counts parent value) number ≡ length kids + length (cond b ((1 + length (drop 1 (take m parents))) ∷ []) [])
    by true e =
        let same : parent ≡ number = grind (arith, nat_tests) in
        omega (arith, ap (slice_index (set counts parent value)) same, get_or-set_same counts parent value 0 within, is, ap (slice_index counts) same, each number few)
    by false e =
        let other : number ≢ parent = grind (arith, nat_tests) in
        omega (arith, get_or-set_other counts parent number value 0 other, each number few)

-- a count that is to grow is one of an unsigned integer
pub counts-fit : (parents : List ℕ) (m directory : ℕ) → m ≤ length parents → length (kid_numbers 1 (drop 1 (take m parents)) directory) ≤ m
counts-fit parents m directory inside =
    omega (arith, kids-few 1 (drop 1 (take m parents)) directory, length-drop 1 (take m parents), length-take-le m parents inside)

-- ---- where the kids of each row end

-- the ends of the first rows are there, and the counts of the others
pub record AreKidEndsTo (parents : List ℕ) (row : ℕ) (numbers : List ℕ) : Type 0 where
  pub count : length numbers ≡ suc (length parents)
  pub ends : (number : ℕ) → number < row → number ≤ length parents → slice_index numbers number ≡ count_below (drop 1 parents) (suc number)
  pub counts : (number : ℕ) → row ≤ number → number ≤ length parents → slice_index numbers number ≡ length (kid_numbers 1 (drop 1 parents) number)

pub ends-begin : (parents counts : List ℕ) → AreCounts parents counts → AreKidEndsTo parents 1 counts
ends-begin parents counts are = record {
  count = are.count;
  ends = λ number first inside.
      let here : number ≡ 0 = omega (arith, first) in
      omega (arith, are.each number inside, count-next 1 (drop 1 parents) number, ap (count_below (drop 1 parents)) here, count-none (drop 1 parents));
  counts = λ number later inside. are.each number inside;
}

pub ends-more : (parents old : List ℕ) (row value : ℕ) → 1 ≤ row → row < length old → AreKidEndsTo parents row old → value ≡ slice_index old row + slice_index old (row - 1)
    → (value ≡ count_below (drop 1 parents) (suc row)) × AreKidEndsTo parents (row + 1) (set old row value)
ends-more parents old row value some inside are is = (
  own,
  record {
    count = length-set old row value ∙ are.count;
    ends = λ number first within. elim (cases_lt number row) [
      | inl before ↦ get_or-set_other old row number value 0 (omega (arith, before)) ∙ are.ends number before within
      | inr after ↦
          let here : number ≡ row = omega (arith, after, first) in
          ap (slice_index (set old row value)) here ∙ (get_or-set_same old row value 0 inside ∙ (own ∙ ap (λ n. count_below (drop 1 parents) (suc n)) (sym here)))
    ];
    counts = λ number later within. get_or-set_other old row number value 0 (omega (arith, later)) ∙ are.counts number (omega (arith, later)) within;
  },
)
  where
    before : suc (row - 1) ≡ row
    before = omega (arith, some)

    own : value ≡ count_below (drop 1 parents) (suc row)
    own = omega (
      arith,
      is,
      are.ends (row - 1) (omega (arith, some)) (omega (arith, inside, are.count)),
      ap (count_below (drop 1 parents)) before,
      are.counts row (omega arith) (omega (arith, inside, are.count)),
      count-next 1 (drop 1 parents) row,
    )

pub ends-fit : (parents : List ℕ) (number : ℕ) → count_below (drop 1 parents) number ≤ length parents
ends-fit parents number = omega (arith, count-few (drop 1 parents) number, length-drop 1 parents)

pub ends-all : (parents ends : List ℕ) (row : ℕ) → length ends ≤ row → AreKidEndsTo parents row ends → AreKidEnds parents ends
ends-all parents ends row all are = record {
  count = are.count;
  each = λ number inside. are.ends number (omega (arith, inside, all, are.count)) inside;
}

-- ---- placing the kids from the last row on

-- the kids from this number on are in their places, and each row's begin where those that are placed begin
pub record ArePlaced (parents : List ℕ) (number : ℕ) (starts kids : List ℕ) : Type 0 where
  pub count : length starts ≡ suc (length parents)
  pub room : length kids ≡ count_below (drop 1 parents) (suc (length parents))
  pub left : (directory : ℕ) → directory ≤ length parents → slice_index starts directory + length (kid_numbers number (drop number parents) directory) ≡ count_below (drop 1 parents) (suc directory)
  pub placed : (directory i : ℕ) → directory ≤ length parents → i < length (kid_numbers number (drop number parents) directory)
      → slice_index kids (slice_index starts directory + i) ≡ slice_index (kid_numbers number (drop number parents) directory) i

module _ (parents : List ℕ) (m : ℕ) (starts kids : List ℕ) (some : 1 ≤ m) (inside : m < length parents) (early : get_or parents m 0 < m) (are : ArePlaced parents (suc m) starts kids) where
  abbrev parent : ℕ
  parent = get_or parents m 0

  abbrev later : ℕ → List ℕ
  later directory = kid_numbers (suc m) (drop (suc m) parents) directory

  grown : (directory : ℕ) → kid_numbers m (drop m parents) directory ≡ cond (get_or parents m 0 == directory) (m ∷ kid_numbers (suc m) (drop (suc m) parents) directory) (kid_numbers (suc m) (drop (suc m) parents) directory)
  grown directory = ap (λ (ps : List ℕ). kid_numbers m ps directory) (drop-cons parents m 0 inside)

  own-grown : (directory : ℕ) → get_or parents m 0 ≡ directory → kid_numbers m (drop m parents) directory ≡ m ∷ kid_numbers (suc m) (drop (suc m) parents) directory
  own-grown directory same =
      let yes : (parent == directory) ≡ true = grind (arith, nat_tests) in
      grown directory ∙ ap (λ b. cond b (m ∷ later directory) (later directory)) yes

  other-grown : (directory : ℕ) → (get_or parents m 0 == directory) ≡ false → kid_numbers m (drop m parents) directory ≡ kid_numbers (suc m) (drop (suc m) parents) directory
  other-grown directory differs = grown directory ∙ ap (λ b. cond b (m ∷ later directory) (later directory)) differs

  -- a row's places lie after those of the rows before it
  begins : (directory : ℕ) → directory ≤ length parents → count_below (drop 1 parents) directory ≤ slice_index starts directory
  begins directory few = omega (arith, are.left directory few, count-next 1 (drop 1 parents) directory, kids-from parents (suc m) directory (omega arith))

  -- a place is left among the parent's kids
  is-left : suc (count_below (drop 1 parents) (get_or parents m 0)) ≤ slice_index starts (get_or parents m 0)
  is-left = omega (arith, are.left parent (omega (arith, early, inside)), count-next 1 (drop 1 parents) parent, kids-from parents m parent some, ap length (own-grown parent refl))

  is-inside : slice_index starts (get_or parents m 0) ≤ length kids
  is-inside = omega (arith, are.left parent (omega (arith, early, inside)), are.room, count-rises (drop 1 parents) (suc parent) (suc (length parents)) (omega (arith, early, inside)))

  has-start : get_or parents m 0 < length starts
  has-start = omega (arith, early, inside, are.count)

  -- the place of another directory's kid is another
  apart : (directory i : ℕ) → directory ≤ length parents → (get_or parents m 0 == directory) ≡ false → i < length (kid_numbers (suc m) (drop (suc m) parents) directory)
      → slice_index starts directory + i ≢ slice_index starts (get_or parents m 0) - 1
  apart directory i few differs within =
      let other : parent ≢ directory = grind (arith, nat_tests) in
      elim (cases_lt directory parent) [
        | inl before ↦
            omega (arith, are.left directory few, within, count-rises (drop 1 parents) (suc directory) parent (omega (arith, before)), is-left)
        | inr after ↦
            omega (arith, are.left parent (omega (arith, early, inside)), is-left, begins directory few, count-rises (drop 1 parents) (suc parent) directory (omega (arith, after, other)))
      ]

  module _ (place : ℕ) (is : place ≡ slice_index starts (get_or parents m 0) - 1) where
    left-more : (directory : ℕ) → directory ≤ length parents → slice_index (set starts (get_or parents m 0) place) directory + length (kid_numbers m (drop m parents) directory) ≡ count_below (drop 1 parents) (suc directory)
    left-more directory few = by (parent == directory) refl
      where
        by : (b : Bool) → (parent == directory) ≡ b → slice_index (set starts parent place) directory + length (kid_numbers m (drop m parents) directory) ≡ count_below (drop 1 parents) (suc directory)
        by true e =
            let same : parent ≡ directory = grind (arith, nat_tests) in
            omega (arith, ap (slice_index (set starts parent place)) same, get_or-set_same starts parent place 0 has-start, is, is-left, ap (slice_index starts) same, are.left directory few, ap length (own-grown directory same))
        by false e =
            let other : directory ≢ parent = grind (arith, nat_tests) in
            omega (arith, get_or-set_other starts parent directory place 0 other, are.left directory few, ap length (other-grown directory e))

    own-placed : (i : ℕ) → i < length (m ∷ kid_numbers (suc m) (drop (suc m) parents) (get_or parents m 0)) → slice_index (set kids place m) (place + i) ≡ slice_index (m ∷ kid_numbers (suc m) (drop (suc m) parents) (get_or parents m 0)) i
    own-placed zero within =
        let here : place + 0 ≡ place = omega arith in
        ap (slice_index (set kids place m)) here ∙ get_or-set_same kids place m 0 (omega (arith, is, is-left, is-inside))
    own-placed (suc i) within =
        let next : place + suc i ≡ slice_index starts parent + i = omega (arith, is, is-left) in
        get_or-set_other kids place (place + suc i) m 0 (omega arith)
        ∙ (ap (slice_index kids) next ∙ are.placed parent i (omega (arith, early, inside)) (omega (arith, within)))

    placed-more : (directory i : ℕ) → directory ≤ length parents → i < length (kid_numbers m (drop m parents) directory)
        → slice_index (set kids place m) (slice_index (set starts (get_or parents m 0) place) directory + i) ≡ slice_index (kid_numbers m (drop m parents) directory) i
    placed-more directory i few within = by (parent == directory) refl
      where
        by : (b : Bool) → (parent == directory) ≡ b → slice_index (set kids place m) (slice_index (set starts parent place) directory + i) ≡ slice_index (kid_numbers m (drop m parents) directory) i
        by true e =
            let same : parent ≡ directory = grind (arith, nat_tests) in
            let at : slice_index (set starts parent place) directory ≡ place = ap (slice_index (set starts parent place)) (sym same) ∙ get_or-set_same starts parent place 0 has-start in
            let all : kid_numbers m (drop m parents) directory ≡ m ∷ later parent = own-grown directory same ∙ ap (λ d. m ∷ later d) (sym same) in
            ap (λ n. slice_index (set kids place m) (n + i)) at
            ∙ (own-placed i (omega (arith, within, ap length all)) ∙ ap (λ (ns : List ℕ). slice_index ns i) (sym all))
        by false e =
            let other : directory ≢ parent = grind (arith, nat_tests) in
            let same : kid_numbers m (drop m parents) directory ≡ later directory = other-grown directory e in
            let there : i < length (later directory) = omega (arith, within, ap length same) in
            ap (λ n. slice_index (set kids place m) (n + i)) (get_or-set_other starts parent directory place 0 other)
            ∙ (get_or-set_other kids place (slice_index starts directory + i) m 0 (omega (arith, is, apart directory i few e there))
            ∙ (are.placed directory i few there ∙ ap (λ (ns : List ℕ). slice_index ns i) (sym same)))

    places-more : ArePlaced parents m (set starts (get_or parents m 0) place) (set kids place m)
    places-more = record {
      count = length-set starts parent place ∙ are.count;
      room = length-set kids place m ∙ are.room;
      left = left-more;
      placed = placed-more;
    }

-- one more row takes its place
pub place-step : (parents : List ℕ) (number : ℕ) (starts kids : List ℕ) → 1 < number → number ≤ length parents → are_earlier 1 (drop 1 parents) ≡ true → ArePlaced parents number starts kids
    → (get_or parents (number - 1) 0 < length starts)
    × (1 ≤ slice_index starts (get_or parents (number - 1) 0))
    × (slice_index starts (get_or parents (number - 1) 0) ≤ length kids)
    × ((place : ℕ) → place ≡ slice_index starts (get_or parents (number - 1) 0) - 1 → ArePlaced parents (number - 1) (set starts (get_or parents (number - 1) 0) place) (set kids place (number - 1)))
place-step parents number starts kids more few all are = (
  has-start parents m starts kids some inside early before,
  omega (arith, is-left parents m starts kids some inside early before),
  is-inside parents m starts kids some inside early before,
  places-more parents m starts kids some inside early before,
)
  where
    m : ℕ
    m = number - 1

    some : 1 ≤ m
    some = omega (arith, more)

    inside : m < length parents
    inside = omega (arith, more, few)

    early : get_or parents m 0 < m
    early = parent-inside parents m some inside all

    before : ArePlaced parents (suc m) starts kids
    before = let next : number ≡ suc m = omega (arith, more) in subst (λ n. ArePlaced parents n starts kids) next are

-- ---- the lists when all are placed

module _ (parents starts kids : List ℕ) (are : ArePlaced parents 1 starts kids) where
  start-of : (directory : ℕ) → directory ≤ length parents → slice_index starts directory ≡ count_below (drop 1 parents) directory
  start-of directory few = omega (arith, are.left directory few, count-next 1 (drop 1 parents) directory)

  pub all-starts : AreKidStarts starts (length kids)
  all-starts = record {
    rise = λ number inside.
        omega (arith, start-of number (omega (arith, inside, are.count)), start-of (suc number) (omega (arith, inside, are.count)), count-rises (drop 1 parents) number (suc number) (omega arith));
    within = λ number inside.
        omega (arith, start-of number (omega (arith, inside, are.count)), are.room, count-rises (drop 1 parents) number (suc (length parents)) (omega (arith, inside, are.count)));
  }

  pub all-kids : (number : ℕ) → number < length parents → slice_get (parts_of starts kids) number ≡ Some (kid_numbers 1 (drop 1 parents) number)
  all-kids number inside =
      part-get starts kids number (omega (arith, inside, are.count))
      ∙ ap Some (ext_get_or 0 (take (end - start) (drop start kids)) own long (λ i within.
      get_or-take (end - start) (drop start kids) i 0 (omega (arith, within, long, count))
      ∙ (get_or-drop start kids i 0 ∙ are.placed number i (omega (arith, inside)) (omega (arith, within, long)))))
    where
      own : List ℕ
      own = kid_numbers 1 (drop 1 parents) number

      start : ℕ
      start = slice_index starts number

      end : ℕ
      end = slice_index starts (suc number)

      count : end - start ≡ length own
      count = omega (arith, start-of number (omega (arith, inside)), start-of (suc number) (omega (arith, inside)), count-next 1 (drop 1 parents) number)

      long : length (take (end - start) (drop start kids)) ≡ length own
      long =
          length-take-le (end - start) (drop start kids) (omega (arith, length-drop start kids, all-starts.within (suc number) (omega (arith, inside, are.count))))
          ∙ count
