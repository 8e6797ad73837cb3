-- Each step of a lane keeps its account.
use Rattle.std.proofs.Common.{◌≡◌, ℕ, zero, suc, ◌+◌, ◌≤◌, true, false, cond, List, [], ◌∷◌, ◌++◌, length, set, refl, sym, ap, ◌∙◌, arith}
use Rattle.std.specs.List.{sum_by}
use Rattle.std.proofs.lemmas.List.Sums.{sum_by-cons, sum_by-append, sum_by_push}
use mathlib.Core.Option.{some, some-ne-none}
use lib.ListN.{get_elem?}
use Rattle.crossbeam_deque.specs.Tasks.{Pushes, Takes, Finds, Forks, Merges, Learns}
use Rattle.ovl_board.specs.declared.pieces.Piece.{Piece}
use Rattle.ovl_board.specs.Balance.{is_same, times}
use Rattle.ovl_lanes.specs.declared.accounts.Account.{Account}
use Rattle.ovl_lanes.specs.Accounts.{owned, lent, IsLent, AreLent, Kept}

-- a sum over accounts where one of them changes
sum_set : (f : Account → ℕ) (ps : List Account) (j : ℕ) (v w : Account) → get_elem? ps j ≡ some v → sum_by f (set ps j w) + f v ≡ sum_by f ps + f w
sum_set f [] zero v w e = absurd (some-ne-none v (sym e))
sum_set f [] (suc j) v w e = absurd (some-ne-none v (sym e))
sum_set f (p ∷ ps) zero v w e = let same : p ≡ v = cc in omega (arith, ap f same, sum_by-cons f p ps, sum_by-cons f w ps)
sum_set f (p ∷ ps) (suc j) v w e = omega (arith, sum_set f ps j v w e, sum_by-cons f p ps, sum_by-cons f p (set ps j w))

lent_at : (ps : List Account) (j : ℕ) (v : Account) → AreLent ps → get_elem? ps j ≡ some v → v.owner ≡ false
lent_at [] zero v a e = absurd (some-ne-none v (sym e))
lent_at [] (suc j) v a e = absurd (some-ne-none v (sym e))
lent_at (p ∷ ps) zero v a e = let same : p ≡ v = cc in sym (ap (λ (x : Account). x.owner) same) ∙ a.0.0
lent_at (p ∷ ps) (suc j) v a e = lent_at ps j v a.1 e

lent_set : (ps : List Account) (j : ℕ) (w : Account) → AreLent ps → IsLent w → AreLent (set ps j w)
lent_set [] zero w a b = a
lent_set [] (suc j) w a b = a
lent_set (p ∷ ps) zero w a b = (b, a.1)
lent_set (p ∷ ps) (suc j) w a b = (a.0, lent_set ps j w a.1 b)

lent_snoc : (ps : List Account) (w : Account) → AreLent ps → IsLent w → AreLent (ps ++ w ∷ [])
lent_snoc [] w a b = (b, tt)
lent_snoc (p ∷ ps) w a b = (a.0, lent_snoc ps w a.1 b)

-- where no pass is out, the passes have taken nothing
none_out : (ps : List Account) → AreLent ps → sum_by (λ v. v.split) ps ≡ 0 → (h : Piece → ℕ) → sum_by (λ v. sum_by h v.taken) ps ≡ 0
none_out [] a e h = refl
none_out (p ∷ ps) a e h =
    let split = sum_by-cons (λ (v : Account). v.split) p ps in
    let empty = a.0.1 (omega arith) in
    omega (arith, ap (sum_by h) empty, none_out ps a.1 (omega arith) h, sum_by-cons (λ (v : Account). sum_by h v.taken) p ps)

not_both : (v : Account) → v.owner ≡ true → v.owner ≡ false → ⊥
not_both v a b = let e : true ≡ false = sym a ∙ b in cc

pub puts : (port : ℕ) (v : Account) (xs : List Piece) → v.owner ≡ true → Pushes Kept port v xs (λ w. w ≡ owned v.split v.joined (v.pushed ++ xs) v.taken)
puts zero v xs mine items [] kept at = absurd kept
puts (suc j) v xs mine items [] kept at = absurd kept
puts zero v xs mine items (o ∷ ps) kept at =
    let e : o ≡ v = cc in (
      owned v.split v.joined (v.pushed ++ xs) v.taken,
      (
        refl,
        omega (arith, kept.1, ap (λ (a : Account). a.split) e, ap (λ (a : Account). a.joined) e),
        (λ h. omega (arith, kept.2 h, sum_by-append h v.pushed xs, sum_by-append h items xs, ap (λ (a : Account). sum_by h a.pushed) e, ap (λ (a : Account). sum_by h a.taken) e)),
        kept.3,
      ),
      refl,
    )
puts (suc j) v xs mine items (o ∷ ps) kept at = absurd (not_both v mine (lent_at ps j v kept.3 at))

pub pops : (port : ℕ) (v : Account) → v.owner ≡ true → Takes Kept port v 1 (λ xs w. (w ≡ owned v.split v.joined v.pushed (v.taken ++ xs)) × ((h : Piece → ℕ) → sum_by h (v.taken ++ xs) ≤ sum_by h v.pushed))
pops zero v mine xs items [] some_ few kept at = absurd kept
pops (suc j) v mine xs items [] some_ few kept at = absurd kept
pops zero v mine xs items (o ∷ ps) some_ few kept at =
    let e : o ≡ v = cc in (
      owned v.split v.joined v.pushed (v.taken ++ xs),
      (
        refl,
        omega (arith, kept.1, ap (λ (a : Account). a.split) e, ap (λ (a : Account). a.joined) e),
        (λ h. omega (arith, kept.2 h, sum_by-append h v.taken xs, sum_by-append h xs items, ap (λ (a : Account). sum_by h a.pushed) e, ap (λ (a : Account). sum_by h a.taken) e)),
        kept.3,
      ),
      (refl, λ h. omega (arith, kept.2 h, sum_by-append h v.taken xs, sum_by-append h xs items, ap (λ (a : Account). sum_by h a.pushed) e, ap (λ (a : Account). sum_by h a.taken) e)),
    )
pops (suc j) v mine xs items (o ∷ ps) some_ few kept at = absurd (not_both v mine (lent_at ps j v kept.3 at))

pub steals : (port : ℕ) (v : Account) → v.owner ≡ false → v.split ≡ 1 → Takes Kept port v 1 (λ xs w. w ≡ lent 1 (v.taken ++ xs))
steals zero v mine out xs items [] some_ few kept at = absurd kept
steals (suc j) v mine out xs items [] some_ few kept at = absurd kept
steals zero v mine out xs items (o ∷ ps) some_ few kept at = let e : o ≡ v = cc in absurd (not_both v (sym (ap (λ (a : Account). a.owner) e) ∙ kept.0) mine)
steals (suc j) v mine out xs items (o ∷ ps) some_ few kept at =
    let w = lent 1 (v.taken ++ xs) in (
      w,
      (
        kept.0,
        omega (arith, kept.1, out, sum_set (λ a. a.split) ps j v w at),
        (λ h. omega (arith, kept.2 h, sum_by-append h v.taken xs, sum_by-append h xs items, sum_set (λ a. sum_by h a.taken) ps j v w at)),
        lent_set ps j w kept.3 (refl, λ none. absurd (omega arith)),
      ),
      refl,
    )

pub learns : (port : ℕ) (v : Account) → v.owner ≡ true → v.split ≡ v.joined → Learns Kept port v (λ items. (h : Piece → ℕ) → sum_by h v.pushed ≡ sum_by h v.taken + sum_by h items)
learns zero v mine whole items [] kept at = absurd kept
learns (suc j) v mine whole items [] kept at = absurd kept
learns zero v mine whole items (o ∷ ps) kept at =
    let e : o ≡ v = cc in
    let a = ap (λ (a : Account). a.split) e in
    let b = ap (λ (a : Account). a.joined) e in
    let none = none_out ps kept.3 (omega (arith, kept.1)) in
    λ h. omega (arith, kept.2 h, none h, ap (λ (a : Account). sum_by h a.pushed) e, ap (λ (a : Account). sum_by h a.taken) e)
learns (suc j) v mine whole items (o ∷ ps) kept at = absurd (not_both v mine (lent_at ps j v kept.3 at))

pub finds : (port : ℕ) (v : Account) → v.owner ≡ true → Finds Kept port v (v.split ≡ v.joined → (h : Piece → ℕ) → sum_by h v.pushed ≡ sum_by h v.taken)
finds port v mine views kept at whole h = let l = learns port v mine whole [] views kept at h in omega arith

pub forks : (port : ℕ) (v : Account) → v.owner ≡ true → Forks Kept port v (owned (v.split + 1) v.joined v.pushed v.taken) (lent 1 [])
forks zero v mine items [] kept at = absurd kept
forks (suc j) v mine items [] kept at = absurd kept
forks zero v mine items (o ∷ ps) kept at =
    let e : o ≡ v = cc in
    let p = lent 1 [] in (
      refl,
      omega (arith, kept.1, ap (λ (a : Account). a.split) e, ap (λ (a : Account). a.joined) e, sum_by_push (λ a. a.split) ps p),
      (λ h. omega (arith, kept.2 h, ap (λ (a : Account). sum_by h a.pushed) e, ap (λ (a : Account). sum_by h a.taken) e, sum_by_push (λ a. sum_by h a.taken) ps p)),
      lent_snoc ps p kept.3 (refl, λ none. refl),
    )
forks (suc j) v mine items (o ∷ ps) kept at = absurd (not_both v mine (lent_at ps j v kept.3 at))

pub merges : (port : ℕ) (v : Account) (other : ℕ) (u : Account) → v.owner ≡ true → u.split ≡ 1 → Merges Kept port v other u (owned v.split (v.joined + 1) v.pushed (v.taken ++ u.taken)) (lent 0 [])
merges zero v other u mine out items [] kept at apart two = absurd kept
merges (suc j) v other u mine out items [] kept at apart two = absurd kept
merges zero v zero u mine out items (o ∷ ps) kept at apart two = absurd (apart refl)
merges zero v (suc k) u mine out items (o ∷ ps) kept at apart two =
    let e : o ≡ v = cc in
    let p = lent 0 [] in (
      refl,
      omega (arith, kept.1, out, ap (λ (a : Account). a.split) e, ap (λ (a : Account). a.joined) e, sum_set (λ a. a.split) ps k u p two),
      (λ h. omega (arith, kept.2 h, sum_by-append h v.taken u.taken, ap (λ (a : Account). sum_by h a.pushed) e, ap (λ (a : Account). sum_by h a.taken) e, sum_set (λ a. sum_by h a.taken) ps k u p two)),
      lent_set ps k p kept.3 (refl, λ none. refl),
    )
merges (suc j) v other u mine out items (o ∷ ps) kept at apart two = absurd (not_both v mine (lent_at ps j v kept.3 at))

-- pieces of equal weight in all weighings are equally many
pub length_sum : (xs : List Piece) → sum_by (λ x. 1) xs ≡ length xs
length_sum [] = refl
length_sum (x ∷ xs) = omega (arith, sum_by-cons (λ (x : Piece). 1) x xs, length_sum xs)

pub lengths : (all some_ rest : List Piece) → ((h : Piece → ℕ) → sum_by h all ≡ sum_by h some_ + sum_by h rest) → length all ≡ length some_ + length rest
lengths all some_ rest w = omega (arith, w (λ x. 1), length_sum all, length_sum some_, length_sum rest)

pub settled : (all some_ rest : List Piece) → ((h : Piece → ℕ) → sum_by h all ≡ sum_by h some_ + sum_by h rest) → (p : Piece) → times p all ≡ times p (some_ ++ rest)
settled all some_ rest w p = w (λ q. cond (is_same p q) 1 0) ∙ sym (sum_by-append (λ q. cond (is_same p q) 1 0) some_ rest)
