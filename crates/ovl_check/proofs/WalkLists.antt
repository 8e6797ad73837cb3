-- Lists of plain walks, one layer after another.
use Rattle.std.proofs.Common.{◌≡◌, ℕ, suc, ◌+◌, List, [], ◌∷◌, ◌++◌, map, length, refl, sym, ap, subst, arith}
use Rattle.std.proofs.lemmas.List.{map-append}
use Rattle.ovl_board.specs.Pieces.{space_root}
use Rattle.ovl_board.specs.Parcels.{IsPlain}
use Rattle.ovl_check.specs.Checks.{CheckView, check_kids, check_out}
use Rattle.ovl_check.specs.Walks.{View, AreLayerWalks}

more : (work : CheckView) (i n : ℕ) (lists : List (List View)) (views : List View) → AreLayerWalks work i lists → i + length lists ≡ n → IsPlain (check_kids work) (check_out work) (space_root n) views → AreLayerWalks work i (lists ++ views ∷ [])
more work i n [] views walks is plain = (subst (λ (k : ℕ). IsPlain (check_kids work) (check_out work) (space_root k) views) (omega (arith, is)) plain, tt)
more work i n (first ∷ lists) views walks is plain = (walks.0, more work (i + 1) n lists views walks.1 (omega (arith, is)) plain)

-- the walk of the next layer after those of the layers before it
pub layer_walks-more : {X : Type 0} (seen : X → List View) (work : CheckView) (xs : List X) (x : X) (n : ℕ) → AreLayerWalks work 0 (map seen xs) → length xs ≡ n → IsPlain (check_kids work) (check_out work) (space_root n) (seen x) → AreLayerWalks work 0 (map seen (xs ++ x ∷ []))
layer_walks-more {X} seen work xs x n walks count plain =
    subst (AreLayerWalks work 0) (sym (map-append seen xs (x ∷ [])))
    (more work 0 n (map seen xs) (seen x) walks (omega (arith, lengths xs, count)) plain)
  where
    lengths : (ys : List X) → length (map seen ys) ≡ length ys
    lengths [] = refl
    lengths (y ∷ ys) = ap (λ k. suc k) (lengths ys)
