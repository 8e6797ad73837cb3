-- The names that the front of a list states, and one more.
use Rattle.std.proofs.Common.{◌≡◌, ℕ, suc, zero, ◌+◌, Option, Some, None, List, [], ◌∷◌, ◌++◌, take, refl, sym, ap, ◌∙◌, append-nil, append_assoc, arith}
use Rattle.std.specs.Prelude.{slice_get, IsSomeAnd}
use Rattle.std.specs.List.{flat_map}
use Rattle.std.proofs.lemmas.Grind.{flat_map-append}
use Rattle.ovl_inode.specs.declared.inodes.Inode.{Inode}
use Rattle.ovl_layer.specs.Layers.{Entries, Entry}
use Rattle.ovl_check.specs.Stated.{name_in, names_in}

-- the front with one more
take-get : {X : Type 0} (xs : List X) (i : ℕ) (x : X) → slice_get xs i ≡ Some x → take (suc i) xs ≡ take i xs ++ x ∷ []
take-get [] zero x is = cc
take-get [] (suc i) x is = cc
take-get {X} (y ∷ ys) zero x is = let same : y ≡ x = ap (λ (o : Option X). elim o as (λ _. X) [ Some v ↦ v | None ↦ y ]) is in ap (λ (v : X). v ∷ []) same
take-get (y ∷ ys) (suc i) x is = ap (λ l. y ∷ l) (take-get ys i x is)

pub flat_map-take : {X Y : Type 0} (f : X → List Y) (xs : List X) (i : ℕ) (x : X) → slice_get xs i ≡ Some x → flat_map f (take (i + 1) xs) ≡ flat_map f (take i xs) ++ f x
flat_map-take f xs i x is =
    let more : i + 1 ≡ suc i = omega arith in
    ap (λ n. flat_map f (take n xs)) more
    ∙ (ap (flat_map f) (take-get xs i x is)
    ∙ (flat_map-append f (take i xs) (x ∷ [])
    ∙ ap (λ ys. flat_map f (take i xs) ++ ys) (append-nil (f x))))

-- the names of a layer's front, and that of its next entry
pub names-more : (layer : Entries) (number : ℕ) (inode : Inode) (before old new : List (List ℕ)) → IsSomeAnd (slice_get layer number) (λ entry. inode ≡ entry.1)
    → old ≡ before ++ names_in (take number layer) → new ≡ old ++ name_in inode → new ≡ before ++ names_in (take (number + 1) layer)
names-more layer number inode before old new stands so_far grown = by (slice_get layer number) refl stands
  where
    by : (o : Option Entry) → slice_get layer number ≡ o → IsSomeAnd o (λ entry. inode ≡ entry.1) → new ≡ before ++ names_in (take (number + 1) layer)
    by None e is = absurd is
    by (Some entry) e same =
        grown
        ∙ ((λ j. so_far j ++ name_in (same j))
        ∙ (append_assoc before (names_in (take number layer)) (name_in entry.1)
        ∙ ap (λ ys. before ++ ys) (sym (flat_map-take (λ (entry : Entry). name_in entry.1) layer number entry e))))
