-- Lists that are cut into shares of one size, and the texts of these shares.
use Rattle.std.proofs.Common.{◌≡◌, ℕ, zero, suc, ◌+◌, ◌*◌, ◌<◌, ◌≤◌, List, [], ◌∷◌, ◌++◌, Result, Ok, Err, length, take, drop, get_or, sym, ap, ◌∙◌, subst, arith, append-nil}
use native.Mathlib.Nat.{suc-mul, zero-mul}
use Rattle.std.specs.Prelude.{IfOk}
use Rattle.std.specs.Fork.{slice_chunk}
use Rattle.std.specs.List.{flat_map}
use Rattle.std.proofs.lemmas.List.{take-take, drop-take, take-append-drop, take_more, take_all, get_or-map, length-map}
use Rattle.std.proofs.lemmas.List.Concat.{flat_map-append}
use Rattle.ovl_reports.specs.Shares.{AreJoined}

-- one share more
pub share_here : {X : Type 0} (xs : List X) (size n : ℕ) → take (suc n * size) xs ≡ take (n * size) xs ++ slice_chunk xs size n
share_here {X} xs size n =
    let ys = take (n * size + size) xs in
    ap (λ (k : ℕ). take k xs) (suc-mul n size)
    ∙ (sym (take-append-drop (n * size) ys)
    ∙ (ap (λ (front : List X). front ++ drop (n * size) ys) (take-take (n * size) (n * size + size) xs (omega arith))
    ∙ ap (λ (back : List X). take (n * size) xs ++ back) (drop-take (n * size) size xs)))

-- what is known of a text under a premise that holds
pub if_given : {T E Y : Type 0} (Z : Y → Type 0) (P : Y → T → Type 0) (r : Result T E) → IfOk r (λ text. (y : Y) → Z y → P y text) → (y : Y) → Z y → IfOk r (P y)
if_given Z P (Ok text) told y holds = told y holds
if_given Z P (Err fault) told y holds = tt

first_of : {T : Type 0} (texts : List T) → 0 < length texts → T
first_of [] some = absurd (omega (arith, some))
first_of (text ∷ texts) some = text

-- the lines of some entries, of which each share's are in a text of its own
module _ {X T : Type 0} (line : X → List ℕ) (xs : List X) (size : ℕ) (bytes_of : T → List ℕ) where
  abbrev has_share : ℕ → T → Type 0
  has_share n text = bytes_of text ≡ flat_map line (slice_chunk xs size n)

  share_told : (n : ℕ) → flat_map line (take (suc n * size) xs) ≡ flat_map line (take (n * size) xs) ++ flat_map line (slice_chunk xs size n)
  share_told n = ap (flat_map line) (share_here xs size n) ∙ flat_map-append line (take (n * size) xs) (slice_chunk xs size n)

  told_by : (texts : List T) → ((n : ℕ) (d : T) → n < length texts → has_share n (get_or texts n d)) → (k : ℕ) → k ≤ length texts → flat_map bytes_of (take k texts) ≡ flat_map line (take (k * size) xs)
  told_by texts each zero short = ap (λ n. flat_map line (take n xs)) (sym (zero-mul size))
  told_by texts each (suc k) short =
      let inside : k < length texts = omega (arith, short) in
      let d = first_of texts (omega (arith, short)) in
      let next : suc k ≡ k + 1 = omega arith in
      ap (λ n. flat_map bytes_of (take n texts)) next
      ∙ (ap (flat_map bytes_of) (take_more texts k d inside)
      ∙ (flat_map-append bytes_of (take k texts) (get_or texts k d ∷ [])
      ∙ ((λ j. told_by texts each k (omega (arith, short)) j ++ (append-nil (bytes_of (get_or texts k d)) ∙ each k d inside) j)
      ∙ sym (share_told k))))

  pub shares_told : {E : Type 0} (parts : List (Result T E)) (whole : List ℕ) → AreJoined bytes_of parts whole → ((n : ℕ) (d : Result T E) → n < length parts → IfOk (get_or parts n d) (has_share n))
      → whole ≡ flat_map line (take (length parts * size) xs)
  shares_told {E} parts whole joined each =
      let texts = joined.texts in
      let count : length parts ≡ length texts = ap length joined.all ∙ length-map {B = Result T E} texts Ok in
      let each_text : (n : ℕ) (d : T) → n < length texts → has_share n (get_or texts n d) = λ n d inside.
      let same : get_or parts n (Ok d) ≡ Ok (get_or texts n d) = ap (λ ps. get_or ps n (Ok d)) joined.all ∙ get_or-map {Y = Result T E} Ok texts n d (Ok d) inside in
      subst (λ (r : Result T E). IfOk r (has_share n)) same (each n (Ok d) (omega (arith, inside, count))) in
      joined.bytes
      ∙ (ap (flat_map bytes_of) (sym (take_all (length texts) texts (omega arith)))
      ∙ (told_by texts each_text (length texts) (omega arith) ∙ ap (λ n. flat_map line (take (n * size) xs)) (sym count)))
