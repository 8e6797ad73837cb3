-- Outputs in one: two lists merged into a third, in order, and workers of two halves.
use Rattle.std.proofs.Common.{◌≡◌, ◌⊎◌, inl, inr, Bool, true, false, cond, ◌||◌, Option, Some, None, List, [], ◌∷◌, ◌++◌, map, refl, sym, ap, ◌∙◌, subst, arith, append-nil, IsPermutation, IsSorted, IfSome}
use Rattle.std.specs.Option.{option_or}
use Rattle.std.proofs.lemmas.List.{map-append}
use Rattle.std.proofs.lemmas.List.Sorted.{Contains-permutation, IsPermutation-cons, IsPermutation-middle, IsPermutation-refl, IsPermutation-sym, IsPermutation-trans}
use Rattle.std.specs.Ordering.{nat_cmp, ordering_reverse, ordering_then, partial_ordering_then, is_some_and, is_le}
use Rattle.std.specs.declared.cmp.Ordering.{Ordering}
use Rattle.std.specs.declared.cmp.Ordering.TheVariants.{Less, Equal, Greater}
use Rattle.itertools.specs.List.{merge_at, merge_by}
use Rattle.ovl_names.specs.Paths.{path_cmp}
use Rattle.ovl_board.specs.declared.pieces.Piece.{Piece}
use Rattle.ovl_board.specs.Parcels.{ParcelView, parcel_view, parcel_views, pieces_of, own_view, AreOwn}
use Rattle.ovl_board.specs.declared.works.Parcel.{Parcel}
use Rattle.ovl_board.specs.Pieces.{IsBefore, piece_cmp}
use Rattle.ovl_board.specs.Assembly.{bare}
use Rattle.ovl_board.proofs.LawsOfMembers.{In, Every, Rises, Contains-In, In-cases, In-Contains, In-map, Rises-AllPairs, AllPairs-Rises}
use Rattle.ovl_board.proofs.LawsOfPieces.{piece_cmp_total, before_trans, less_differs, IsAtMost, Rises-sorted, before_unless_same}
use Rattle.ovl_board.proofs.LawsOfCounts.{mark_cases, mark_itself}
use Rattle.ovl_board.proofs.LawsOfWalks.{own_permuted}
use Rattle.ovl_pool.specs.declared.worker_outputs.WorkerOutput.{WorkerOutput}
use Rattle.ovl_pool.specs.declared.workers.Worker.{Worker}
use Rattle.ovl_pool.specs.WorkerOutputs.{IsOwnWorkerOutput, IsClean, AreInPieceOrder}
use Rattle.ovl_pool.specs.Passes.{post_of}

either : (o p : Option Piece) (P : Piece → Type 0) → IfSome o P → IfSome p P → IfSome (option_or o p) P
either None p P a b = b
either (Some x) p P a b = a

none_of_both : (o p : Option Piece) → option_or o p ≡ None → (o ≡ None) × (p ≡ None)
none_of_both None p e = (refl, e)
none_of_both (Some x) p e = absurd (cc)

neither : (a b : Bool) → (a || b) ≡ false → (a ≡ false) × (b ≡ false)
neither true b e = absurd (cc)
neither false b e = (refl, e)

-- where both outputs in one are clean each of them is
pub clean_both : {O : Type 0} (first second both : WorkerOutput O) → both.out_of_memory ≡ (first.out_of_memory || second.out_of_memory) → both.refused ≡ option_or first.refused second.refused → IsClean both → IsClean first × IsClean second
clean_both first second both out_of_memory refused clean =
    let s = neither first.out_of_memory second.out_of_memory (sym out_of_memory ∙ clean.0) in
    let r = none_of_both first.refused second.refused (sym refused ∙ clean.1) in ((s.0, r.0), (s.1, r.1))

module _ {O S : Type 0} (seen : O → S) (kids : Piece → List Piece) (out : Piece → S) where
  own_views : (xs ys : List (ParcelView S)) → AreOwn kids out xs → AreOwn kids out ys → AreOwn kids out (xs ++ ys)
  own_views xs ys a b =
      let own = own_view kids out in
      ap (λ l. l ++ ys) a ∙ ap (λ l. map own (pieces_of xs) ++ l) b ∙ sym (map-append own (pieces_of xs) (pieces_of ys)) ∙ ap (map own) (sym (map-append (λ (v : ParcelView S). v.piece) xs ys))

  -- the work's own outputs in one are its own
  pub worker_outputs_merged : (may_refuse : Piece → Type 0) (first second both : WorkerOutput O) → IsOwnWorkerOutput seen kids out may_refuse first → IsOwnWorkerOutput seen kids out may_refuse second
      → IsPermutation (first.parcels.items ++ second.parcels.items) both.parcels.items → both.refused ≡ option_or first.refused second.refused → IsOwnWorkerOutput seen kids out may_refuse both
  worker_outputs_merged may_refuse first second both a b same refused = (
    own_permuted seen kids out (first.parcels.items ++ second.parcels.items) both.parcels.items same
        (subst (AreOwn kids out) (sym (map-append (parcel_view seen) first.parcels.items second.parcels.items)) (own_views (parcel_views seen first.parcels.items) (parcel_views seen second.parcels.items) a.0 b.0)),
    subst (λ r. IfSome r may_refuse) (sym refused) (either first.refused second.refused may_refuse a.1 b.1),
  )

-- p doesn't come after q, nor q after r: p doesn't come after r
at_most_trans : (p q r : Piece) → IsAtMost p q → IsAtMost q r → IsAtMost p r
at_most_trans p q r a b = λ lt. elim (mark_cases p q) [
  | inl m ↦ b (subst (IsBefore r) m.1 lt)
  | inr m ↦ b (before_trans r p q lt (before_unless_same p q a (λ e. absurd (omega (arith, m, mark_itself p q e)))))
]

-- what a test of two pieces says
partial_le-then : (r s : Ordering) → is_some_and is_le (partial_ordering_then (Some r) (Some s)) ≡ is_le (ordering_then r s)
partial_le-then Less s = refl
partial_le-then Equal s = refl
partial_le-then Greater s = refl

abbrev pub is_at_most : Piece → Piece → Bool
is_at_most p q = is_some_and is_le (partial_ordering_then (Some (nat_cmp p.space q.space)) (Some (path_cmp p.dir q.dir)))

at_most_by : (p q : Piece) (o : Ordering) → piece_cmp q p ≡ o → (is_le (ordering_reverse o) ≡ true → IsAtMost p q) × (is_le (ordering_reverse o) ≡ false → IsAtMost q p)
at_most_by p q Less e = ((λ h. let no : false ≡ true = h in cc), (λ h before. less_differs q q (before_trans q p q e before) refl))
at_most_by p q Equal e = ((λ h before. let no : Equal ≡ Less = sym e ∙ before in cc), (λ h. let no : true ≡ false = h in cc))
at_most_by p q Greater e = ((λ h before. let no : Greater ≡ Less = sym e ∙ before in cc), (λ h. let no : true ≡ false = h in cc))

at_most-tested : (p q : Piece) → (is_at_most p q ≡ true → IsAtMost p q) × (is_at_most p q ≡ false → IsAtMost q p)
at_most-tested p q =
    let is : is_at_most p q ≡ is_le (ordering_reverse (piece_cmp q p)) = partial_le-then (nat_cmp p.space q.space) (path_cmp p.dir q.dir) ∙ ap is_le (piece_cmp_total.antisymm p q) in
    let by = at_most_by p q (piece_cmp q p) refl in
    ((λ h. by.0 (sym is ∙ h)), (λ h. by.1 (sym is ∙ h)))

module _ {O : Type 0} where
  abbrev Follows : Parcel O → Parcel O → Type 0
  Follows a b = IsAtMost a.piece b.piece

  rises_parcels : (parcels : List (Parcel O)) → Rises IsAtMost (pieces_of (bare parcels)) → Rises Follows parcels
  rises_parcels [] r = tt
  rises_parcels (c ∷ cs) r =
      let none = parcel_view (λ (o : O). tt {0}) in (
        (λ d h. r.0 d.piece (In-map (λ (v : ParcelView (Unit {0})). v.piece) (none d) (bare cs) (In-map none d cs h))),
        rises_parcels cs r.1,
      )

  -- parcels whose pieces are sorted come in order
  pub in_order : (parcels : List (Parcel O)) → IsSorted piece_cmp (pieces_of (bare parcels)) → AreInPieceOrder parcels
  in_order parcels up = AllPairs-Rises Follows parcels (rises_parcels parcels (Rises-sorted (pieces_of (bare parcels)) up))

-- ---- a merge of two lists

module _ {X : Type 0} (first : X → X → Bool) where
  permuted-at : (x : X) (xs : List X) → ((ys : List X) → IsPermutation (xs ++ ys) (merge_by first xs ys)) → (ys : List X) → IsPermutation (x ∷ (xs ++ ys)) (merge_at first x xs (merge_by first xs) ys)
  permuted-at x xs after [] = subst (λ l. IsPermutation (x ∷ l) (x ∷ xs)) (sym (append-nil xs)) (IsPermutation-refl (x ∷ xs))
  permuted-at x xs after (y ∷ ys) = by (first x y) (permuted-at x xs after ys)
    where
      by : (b : Bool) → IsPermutation (x ∷ (xs ++ ys)) (merge_at first x xs (merge_by first xs) ys) → IsPermutation (x ∷ (xs ++ y ∷ ys)) (cond b (x ∷ merge_by first xs (y ∷ ys)) (y ∷ merge_at first x xs (merge_by first xs) ys))
      by true inner = IsPermutation-cons x _ _ (after (y ∷ ys))
      by false inner = IsPermutation-trans _ _ _ (IsPermutation-middle (x ∷ xs) y ys) (IsPermutation-cons y _ _ inner)

  -- it has the elements of both
  pub merge-permuted : (xs ys : List X) → IsPermutation (xs ++ ys) (merge_by first xs ys)
  merge-permuted [] ys = IsPermutation-refl ys
  merge-permuted (x ∷ xs) ys = permuted-at x xs (merge-permuted xs) ys

  from_both : (xs ys : List X) (z : X) → In z (merge_by first xs ys) → In z xs ⊎ In z ys
  from_both xs ys z h = In-cases z xs ys (In-Contains z (xs ++ ys) (Contains-permutation (merge_by first xs ys) (xs ++ ys) z (IsPermutation-sym (xs ++ ys) (merge_by first xs ys) (merge-permuted xs ys)) (Contains-In z (merge_by first xs ys) h)))

  module _ (R : X → X → Type 0) (trans : (x y z : X) → R x y → R y z → R x z) (left : (x y : X) → first x y ≡ true → R x y) (right : (x y : X) → first x y ≡ false → R y x) where
    rises-at : (x : X) (xs : List X) → Every (R x) xs → ((ys : List X) → Rises R ys → Rises R (merge_by first xs ys)) → Rises R xs → (ys : List X) → Rises R ys → Rises R (merge_at first x xs (merge_by first xs) ys)
    rises-at x xs beside after up [] also = (beside, up)
    rises-at x xs beside after up (y ∷ ys) also = by (first x y) refl (rises-at x xs beside after up ys also.1)
      where
        by : (b : Bool) → first x y ≡ b → Rises R (merge_at first x xs (merge_by first xs) ys) → Rises R (cond b (x ∷ merge_by first xs (y ∷ ys)) (y ∷ merge_at first x xs (merge_by first xs) ys))
        by true e inner = (
          (λ z h. elim (from_both xs (y ∷ ys) z h) [
            | inl i ↦ beside z i
            | inr i ↦ elim i [ inl same ↦ subst (R x) (sym same) (left x y e) | inr k ↦ trans x y z (left x y e) (also.0 z k) ]
          ]),
          after (y ∷ ys) also,
        )
        by false e inner = (
          (λ z h. elim (from_both (x ∷ xs) ys z h) [
            | inl i ↦ elim i [ inl same ↦ subst (R y) (sym same) (right x y e) | inr k ↦ trans y x z (right x y e) (beside z k) ]
            | inr i ↦ also.0 z i
          ]),
          inner,
        )

    -- and is in order where both are
    pub merge-rises : (xs ys : List X) → Rises R xs → Rises R ys → Rises R (merge_by first xs ys)
    merge-rises [] ys up also = also
    merge-rises (x ∷ xs) ys up also = rises-at x xs up.0 (λ zs. merge-rises xs zs up.1) up.1 ys also

module _ {O : Type 0} where
  abbrev pub is_first : Parcel O → Parcel O → Bool
  is_first a b = is_at_most a.piece b.piece

  pub merge-in_order : (xs ys : List (Parcel O)) → AreInPieceOrder xs → AreInPieceOrder ys → AreInPieceOrder (merge_by is_first xs ys)
  merge-in_order xs ys up also =
      AllPairs-Rises Follows (merge_by is_first xs ys)
      (merge-rises is_first Follows (λ a b c. at_most_trans a.piece b.piece c.piece) (λ a b. (at_most-tested a.piece b.piece).0) (λ a b. (at_most-tested a.piece b.piece).1) xs ys
      (Rises-AllPairs Follows xs up) (Rises-AllPairs Follows ys also))

-- both halves of workers, each at its posts
pub posts_joined : (all first second ended more : List Worker) → all ≡ first ++ second → map post_of ended ≡ map post_of first → map post_of more ≡ map post_of second → map post_of (ended ++ more) ≡ map post_of all
posts_joined all first second ended more e a b =
    map-append post_of ended more ∙ ap (λ l. l ++ map post_of more) a ∙ ap (λ l. map post_of first ++ l) b ∙ sym (map-append post_of first second) ∙ ap (map post_of) (sym e)
