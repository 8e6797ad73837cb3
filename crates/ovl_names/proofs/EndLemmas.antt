-- What two texts have in common at their ends, by bytes and by names, and how lists of names are to each other from there.
use Rattle.std.proofs.Common.{◌≡◌, ◌≢◌, ℕ, zero, suc, ◌<◌, ◌≤◌, ◌+◌, ◌-◌, List, [], ◌∷◌, ◌++◌, true, false, Bool, Option, Some, None, MatchBool, MatchOption, refl, sym, ap, subst, ◌∙◌, length, take, drop, get_or, reverse, append_assoc, length-append, length-drop, length-take, take-append-drop, take_all, drop-drop, drop-cons, get_or-drop, arith}
use Rattle.std.specs.Prelude.{position, slice_range, nat_eq, nat_lt, ◌==◌, cond}
use Rattle.std.specs.List.{ends_with, position_or_len}
use Rattle.std.specs.Ordering.{ordering_then, is_ne}
use Rattle.std.specs.declared.cmp.Ordering.{Ordering}
use Rattle.std.specs.declared.cmp.Ordering.TheVariants.{Less, Equal, Greater}
use Rattle.std.specs.Cmp.Lexicographic.{nat_list_cmp_total}
use Rattle.std.specs.FinMap.{slice_cmp-IsAntisymmetric, nat_cmp-IsAntisymmetric}
use Rattle.std.proofs.lemmas.Cmp.{tied_itself}
use Rattle.std.proofs.lemmas.Bool.{eqb-true, eq-eqb}
use Rattle.std.proofs.lemmas.Bool.Decides.{nat_tests, Decides-eqb}
use Rattle.std.proofs.lemmas.List.{append-nil, append_cancel_right, reverse-append, drop-append-le, drop_all, take_rest}
use Rattle.std.proofs.lemmas.List.Prefix.{end_rest}
use Rattle.std.proofs.lemmas.List.Sums.{fails_before_first, passes_at_first}
use Rattle.std.proofs.lemmas.Slice.Eq.{ends_is}
use Rattle.ovl_names.specs.Names.{PathName, slash, is_name, name_cmp}
use Rattle.ovl_names.specs.Paths.{PathNames, text_names, parts_between, has_names, path_cmp}
use Rattle.ovl_names.specs.Ends.{OrdersEnds, LosesEnd, HasCommonEnd, IsCommonNames}
use Rattle.ovl_names.proofs.Ascending.{both, list_all-front}
use Rattle.ovl_names.proofs.PathTexts.{text_names-some, parts-across, empty_is_none, absurd_of}

-- ---- bytes

-- the last bytes of a text are some of them, and those after
end-more : (xs : List ℕ) (k n : ℕ) → k + n ≤ length xs → drop (length xs - (k + n)) xs ≡ drop (length xs - k - n) (take (length xs - k) xs) ++ drop (length xs - k) xs
end-more xs k n fits =
    let at : length xs - (k + n) ≡ length xs - k - n = omega (arith, fits) in
    let front : length (take (length xs - k) xs) ≡ length xs - k = omega (arith, length-take (length xs - k) xs) in
    ap (drop (length xs - (k + n))) (sym (take-append-drop (length xs - k) xs))
    ∙ (drop-append-le (length xs - (k + n)) (take (length xs - k) xs) (drop (length xs - k) xs) (omega (arith, front))
    ∙ ap (λ i. drop i (take (length xs - k) xs) ++ drop (length xs - k) xs) at)

-- where the bytes before those in common end with the same, these are in common too
common-more : (xs ys : List ℕ) (k n : ℕ) (front : List ℕ) → HasCommonEnd k xs ys → n ≤ length ys - k → take (length xs - k) xs ≡ front ++ drop (length ys - k - n) (take (length ys - k) ys) → HasCommonEnd (k + n) xs ys
common-more xs ys k n front h fits e =
    let own : List ℕ = take (length xs - k) xs in
    let run : List ℕ = drop (length ys - k - n) (take (length ys - k) ys) in
    let ks : k ≤ length xs = h.own_fits in
    let kt : k ≤ length ys = h.other_fits in
    let own-length : length own ≡ length xs - k = omega (arith, length-take (length xs - k) xs) in
    let run-length : length run ≡ n = omega (arith, length-drop (length ys - k - n) (take (length ys - k) ys), length-take (length ys - k) ys) in
    let enough : n ≤ length xs - k = omega (arith, ap length e, length-append front run, own-length, run-length) in
    let at : length xs - k - n ≡ length own - length run = omega (arith, own-length, run-length) in
    let rest : drop (length xs - k - n) own ≡ run = ap (λ i. drop i own) at ∙ end_rest own run front e in
    record {
      own_fits = omega (arith, enough, ks);
      other_fits = omega (arith, fits, kt);
      same = end-more xs k n (omega (arith, enough, ks)) ∙ ((λ j. rest j ++ h.same j) ∙ sym (end-more ys k n (omega (arith, fits, kt))));
    }

-- and where these are in common, the bytes before end so
common-ends : (xs ys : List ℕ) (k n : ℕ) → HasCommonEnd k xs ys → HasCommonEnd (k + n) xs ys → take (length xs - k) xs ≡ take (length xs - k - n) (take (length xs - k) xs) ++ drop (length ys - k - n) (take (length ys - k) ys)
common-ends xs ys k n h more =
    let own : List ℕ = take (length xs - k) xs in
    let run : List ℕ = drop (length ys - k - n) (take (length ys - k) ys) in
    let whole : drop (length xs - k - n) own ++ drop (length ys - k) ys ≡ run ++ drop (length ys - k) ys =
    ap (λ back. drop (length xs - k - n) own ++ back) (sym h.same) ∙ (sym (end-more xs k n more.own_fits) ∙ (more.same ∙ end-more ys k n more.other_fits)) in
    sym (take-append-drop (length xs - k - n) own) ∙ ap (λ back. take (length xs - k - n) own ++ back) (append_cancel_right (drop (length xs - k - n) own) run (drop (length ys - k) ys) whole)

-- whether more bytes are in common, by whether the bytes before end so
common-tested : (xs ys : List ℕ) (k n : ℕ) (r : Bool) → HasCommonEnd k xs ys → n ≤ length ys - k → r ≡ ends_with nat_eq (take (length xs - k) xs) (drop (length ys - k - n) (take (length ys - k) ys)) → MatchBool r (HasCommonEnd (k + n) xs ys) (HasCommonEnd (k + n) xs ys → ⊥)
common-tested xs ys k n r h fits is = by r (ends_is Decides-eqb (take (length xs - k) xs) (drop (length ys - k - n) (take (length ys - k) ys)) r is)
  where
    by : (r : Bool) → (r ≡ true → take (length xs - k) xs ≡ take (length (take (length xs - k) xs) - length (drop (length ys - k - n) (take (length ys - k) ys))) (take (length xs - k) xs) ++ drop (length ys - k - n) (take (length ys - k) ys)) × ((front : List ℕ) → take (length xs - k) xs ≡ front ++ drop (length ys - k - n) (take (length ys - k) ys) → r ≡ true) → MatchBool r (HasCommonEnd (k + n) xs ys) (HasCommonEnd (k + n) xs ys → ⊥)
    by true ends = common-more xs ys k n _ h fits (ends.0 refl)
    by false ends = λ more. let bad : false ≡ true = ends.1 (take (length xs - k - n) (take (length xs - k) xs)) (common-ends xs ys k n h more) in cc

-- the same, of the bytes as ranges of a text
pub common-in_ranges : (xs ys : List ℕ) (k n : ℕ) (r : Bool) → HasCommonEnd k xs ys → n ≤ length (take (length ys - k) ys) → r ≡ ends_with nat_eq (take (length xs - k) xs) (take (length (take (length ys - k) ys) - (length (take (length ys - k) ys) - n)) (drop (length (take (length ys - k) ys) - n) (take (length ys - k) ys))) → MatchBool r (HasCommonEnd (k + n) xs ys) (HasCommonEnd (k + n) xs ys → ⊥)
common-in_ranges xs ys k n r h fits is =
    let other : List ℕ = take (length ys - k) ys in
    let other-length : length other ≡ length ys - k = omega (arith, length-take (length ys - k) ys) in
    let at : length other - n ≡ length ys - k - n = omega (arith, other-length) in
    common-tested xs ys k n r h (omega (arith, fits, other-length))
    (is ∙ ap (ends_with nat_eq (take (length xs - k) xs)) (take_rest other (length other - n) ∙ ap (λ i. drop i other) at))

-- fewer bytes are in common, too
pub common-fewer : (xs ys : List ℕ) (k n : ℕ) → k ≤ n → HasCommonEnd n xs ys → HasCommonEnd k xs ys
common-fewer xs ys k n less h =
    let ns : n ≤ length xs = h.own_fits in
    let nt : n ≤ length ys = h.other_fits in
    let one : length xs - k ≡ length xs - n + (n - k) = omega arith in
    let other : length ys - k ≡ length ys - n + (n - k) = omega arith in
    record {
      own_fits = omega arith;
      other_fits = omega arith;
      same =
          ap (λ i. drop i xs) one
          ∙ (sym (drop-drop (n - k) (length xs - n) xs)
          ∙ (ap (drop (n - k)) h.same
          ∙ (drop-drop (n - k) (length ys - n) ys ∙ sym (ap (λ i. drop i ys) other))));
    }

pub common-none : (xs ys : List ℕ) → HasCommonEnd 0 xs ys
common-none xs ys = record {
  own_fits = omega arith;
  other_fits = omega arith;
  same = drop_all (length xs - 0) xs (omega arith) ∙ sym (drop_all (length ys - 0) ys (omega arith));
}

-- the front of a text, as a range of it
pub front-range : (text : List ℕ) (n : ℕ) → slice_range text 0 n ≡ take n text
front-range text n = let all : n - 0 ≡ n = omega arith in ap (λ k. take k text) all

-- ---- the first separator

pub position-reads : (text : List ℕ) (r : Option ℕ) → r ≡ position (λ byte. byte == slash) text → MatchOption r ((i : ℕ) → i < length text → get_or text i 0 ≢ slash) (λ place. (place < length text) × (get_or text place 0 ≡ slash) × ((i : ℕ) → i < place → get_or text i 0 ≢ slash))
position-reads text r is = by (nat_lt place (length text)) refl r is
  where
    place : ℕ
    place = position_or_len (λ byte. byte == slash) text

    before : (i : ℕ) → i < place → get_or text i 0 ≢ slash
    before i inside same = absurd_of (fails_before_first (λ byte. byte == slash) text i 0 inside) (eq-eqb (get_or text i 0) slash same)

    by : (b : Bool) → nat_lt place (length text) ≡ b → (r : Option ℕ) → r ≡ cond b (Some place) None → MatchOption r ((i : ℕ) → i < length text → get_or text i 0 ≢ slash) (λ at. (at < length text) × (get_or text at 0 ≡ slash) × ((i : ℕ) → i < at → get_or text i 0 ≢ slash))
    by true e (Some at) is =
        let same : place ≡ at = cc in
        let inside : place < length text = grind (arith, nat_tests) in
        let found = eqb-true (get_or text place 0) slash (passes_at_first (λ byte. byte == slash) text 0 inside) in
        subst (λ at. (at < length text) × (get_or text at 0 ≡ slash) × ((i : ℕ) → i < at → get_or text i 0 ≢ slash)) same (inside, found, before)
    by true e None is = cc
    by false e (Some at) is = cc
    by false e None is = λ i inside. let past : length text ≤ place = grind (arith, nat_tests) in before i (omega arith)

-- the most bytes in common that begin with a separator: those from the first one on
pub names-from : (own other : List ℕ) (common place : ℕ) → HasCommonEnd common own other → (HasCommonEnd (common + 1) own other → ⊥) → place ≤ common → ((i : ℕ) → i < place → get_or (drop (length own - common) own) i 0 ≢ slash) → (place < common → get_or (drop (length own - common) own) place 0 ≡ slash) → IsCommonNames own other (common - place)
names-from own other common place h apart within before at = record {
  common = common-fewer own other (common - place) common (omega arith) h;
  begins = λ some. ap (λ i. get_or own i 0) there ∙ (sym (get_or-drop (length own - common) own place 0) ∙ at (omega arith));
  longest = λ more past has. by (nat_lt common more) more refl past has;
}
  where
    fits : common ≤ length own
    fits = h.own_fits

    there : length own - (common - place) ≡ length own - common + place
    there = omega (arith, fits)

    by : (b : Bool) (more : ℕ) → nat_lt common more ≡ b → common - place < more → HasCommonEnd more own other → get_or own (length own - more) 0 ≢ slash
    by true more e past has same = let beyond : common < more = grind (arith, nat_tests) in apart (common-fewer own other (common + 1) more (omega arith) has)
    by false more e past has same =
        let inside : more ≤ common = grind (arith, nat_tests) in
        let here : length own - common + (common - more) ≡ length own - more = omega (arith, fits) in
        before (common - more) (omega arith) (get_or-drop (length own - common) own (common - more) 0 ∙ (ap (λ i. get_or own i 0) here ∙ same))

-- ---- names

-- the names of a text on both sides of a separator
pub text_names-cut : (text front rest : List ℕ) → text ≡ front ++ slash ∷ rest → has_names (text_names text) ≡ true → text_names text ≡ text_names front ++ text_names rest
text_names-cut text front rest apart named = by front rest split (rw split at named)
  where
    split : text_names text ≡ parts_between front ++ parts_between rest
    split = ap text_names apart ∙ (text_names-some (front ++ slash ∷ rest) (omega (arith, length-append front (slash ∷ rest))) ∙ parts-across front rest)

    by : (front rest : List ℕ) → text_names text ≡ parts_between front ++ parts_between rest → has_names (parts_between front ++ parts_between rest) ≡ true → text_names text ≡ text_names front ++ text_names rest
    by [] rest e all = let bad = (both {a = is_name []} {b = has_names (parts_between rest)} all).0 in cc (empty_is_none)
    by (x ∷ front) [] e all = let last = (list_all-front is_name (parts_between (x ∷ front)) ([] ∷ []) all).1 in let bad = (both {a = is_name []} {b = true} last).0 in cc (empty_is_none)
    by (x ∷ front) (y ∷ rest) e all = e

-- a text that a separator and others end
cut : (xs : List ℕ) (count : ℕ) → 0 < count → count ≤ length xs → get_or xs (length xs - count) 0 ≡ slash → drop (length xs - count) xs ≡ slash ∷ drop (suc (length xs - count)) xs
cut xs count some fits at = drop-cons xs (length xs - count) 0 (omega arith) ∙ ap (λ byte. byte ∷ drop (suc (length xs - count)) xs) at

-- where the last bytes in common begin with a separator, the names after it are taken from both texts
pub names-cut : (xs ys : List ℕ) (count : ℕ) → has_names (text_names xs) ≡ true → has_names (text_names ys) ≡ true → IsCommonNames xs ys count → LosesEnd (text_names xs) (text_names ys) (text_names (take (length xs - count) xs)) (text_names (take (length ys - count) ys))
names-cut xs ys zero named other-named is = ([], whole xs, whole ys)
  where
    whole : (zs : List ℕ) → text_names zs ≡ text_names (take (length zs - 0) zs) ++ []
    whole zs = sym (append-nil (text_names (take (length zs - 0) zs)) ∙ ap text_names (take_all (length zs - 0) zs (omega arith)))
names-cut xs ys (suc n) named other-named is =
    let count : ℕ = suc n in
    let rest : List ℕ = drop (suc (length xs - count)) xs in
    let back : drop (length xs - count) xs ≡ slash ∷ rest = cut xs count (omega arith) is.common.own_fits (is.begins (omega arith)) in
    let one : xs ≡ take (length xs - count) xs ++ slash ∷ rest = sym (take-append-drop (length xs - count) xs) ∙ ap (λ own. take (length xs - count) xs ++ own) back in
    let other : ys ≡ take (length ys - count) ys ++ slash ∷ rest = sym (take-append-drop (length ys - count) ys) ∙ ap (λ own. take (length ys - count) ys ++ own) (sym is.common.same ∙ back) in
    (text_names rest, text_names-cut xs (take (length xs - count) xs) rest one named, text_names-cut ys (take (length ys - count) ys) rest other other-named)

pub named-left : (own left : PathNames) (names : PathNames) → own ≡ left ++ names → has_names own ≡ true → has_names left ≡ true
named-left own left names e named = (list_all-front is_name left names (ap has_names (sym e) ∙ named)).0

-- one step: the same last name, and then more names, are taken from what is left of two lists
pub loses-more : (all others own their above their_above left their_left : PathNames) (name their_name : PathName) → LosesEnd all others own their → own ≡ above ++ name ∷ [] → their ≡ their_above ++ their_name ∷ [] → name_cmp name their_name ≡ Equal → LosesEnd above their_above left their_left → LosesEnd all others left their_left
loses-more all others own their above their_above left their_left name their_name lost is their_is tie more = (
  more.0 ++ (name ∷ lost.0),
  lost.1 ∙ step own above left name is more.1,
  lost.2 ∙ (step their their_above their_left their_name their_is more.2 ∙ ap (λ own. their_left ++ (more.0 ++ (own ∷ lost.0))) (sym same)),
)
  where
    same : name ≡ their_name
    same = slice_cmp-IsAntisymmetric nat_cmp-IsAntisymmetric name their_name tie

    step : (own above left : PathNames) (name : PathName) → own ≡ above ++ name ∷ [] → above ≡ left ++ more.0 → own ++ lost.0 ≡ left ++ (more.0 ++ (name ∷ lost.0))
    step own above left name is cut =
        ap (λ front. front ++ lost.0) (is ∙ ap (λ front. front ++ name ∷ []) cut)
        ∙ (append_assoc (left ++ more.0) (name ∷ []) lost.0 ∙ append_assoc left more.0 (name ∷ lost.0))

-- ---- order

-- two lists are to each other as what follows the names that both begin with
path_cmp-common : (names own other : PathNames) → path_cmp (names ++ own) (names ++ other) ≡ path_cmp own other
path_cmp-common [] own other = refl
path_cmp-common (name ∷ names) own other = rw (tied_itself nat_list_cmp_total name) (path_cmp-common names own other)

reversed-end : (above left names : PathNames) → reverse (above ++ (left ++ names)) ≡ reverse names ++ reverse (above ++ left)
reversed-end above left names = ap reverse (sym (append_assoc above left names)) ∙ reverse-append (above ++ left) names

-- the names that both lists lose do not order them
pub loses-orders : (own other own_left other_left : PathNames) → LosesEnd own other own_left other_left → OrdersEnds own other own_left other_left Equal
loses-orders own other own_left other_left lost above other_above =
    (λ j. path_cmp (reverse (above ++ lost.1 j)) (reverse (other_above ++ lost.2 j)))
    ∙ ((λ j. path_cmp (reversed-end above own_left lost.0 j) (reversed-end other_above other_left lost.0 j))
    ∙ path_cmp-common (reverse lost.0) (reverse (above ++ own_left)) (reverse (other_above ++ other_left)))

pub tied : (o : Ordering) → is_ne o ≡ false → o ≡ Equal
tied Less e = let bad : true ≡ false = e in cc
tied Equal e = refl
tied Greater e = let bad : true ≡ false = e in cc

then-apart : (o p q : Ordering) → is_ne o ≡ true → ordering_then o p ≡ ordering_then o q
then-apart Less p q ne = refl
then-apart Equal p q ne = let bad : false ≡ true = ne in cc
then-apart Greater p q ne = refl

reversed-last : (above left : PathNames) (name : PathName) → reverse (above ++ (left ++ name ∷ [])) ≡ name ∷ reverse (above ++ left)
reversed-last above left name = reversed-end above left (name ∷ [])

-- the first names that differ do
pub apart-orders : (all others own their above their_above : PathNames) (name their_name : PathName) → LosesEnd all others own their → own ≡ above ++ name ∷ [] → their ≡ their_above ++ their_name ∷ [] → is_ne (name_cmp name their_name) ≡ true → OrdersEnds all others all others (name_cmp name their_name)
apart-orders all others own their above their_above name their_name lost is their_is ne front other_front =
    loses-orders all others own their lost front other_front
    ∙ ((λ j. path_cmp (reverse (front ++ is j)) (reverse (other_front ++ their_is j)))
    ∙ ((λ j. path_cmp (reversed-last front above name j) (reversed-last other_front their_above their_name j))
    ∙ then-apart (name_cmp name their_name) (path_cmp (reverse (front ++ above)) (reverse (other_front ++ their_above))) (path_cmp (reverse (front ++ all)) (reverse (other_front ++ others))) ne))
