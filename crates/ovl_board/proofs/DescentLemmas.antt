-- Parcels that go down the tree of kids are the walk: their pieces ascend, and they balance with nothing open.
use Rattle.std.proofs.Common.{◌≡◌, ℕ, ◌+◌, ◌<◌, inl, inr, List, [], ◌∷◌, ◌++◌, length, get_or, take, reverse, refl, sym, ap, ◌∙◌, subst, arith, AllPairs, IsPermutation, append-nil}
use Rattle.std.proofs.lemmas.List.{map-append, take_more, reverse-append, reverse-reverse}
use Rattle.std.proofs.lemmas.List.Concat.{flat_map-append}
use Rattle.std.proofs.lemmas.List.Sorted.{IsPermutation-map, IsPermutation-reverse, sum_by-IsPermutation, All-permutation}
use Rattle.ovl_board.specs.declared.pieces.Piece.{Piece}
use Rattle.ovl_board.specs.declared.works.Parcel.{Parcel}
use Rattle.ovl_board.specs.Pieces.{IsBefore, IsOneBelow, AreLawfulKids}
use Rattle.ovl_board.specs.Walks.{IsWalk, Reached}
use Rattle.ovl_board.specs.Parcels.{ParcelView, parcel_view, pieces_of}
use Rattle.ovl_board.specs.Balance.{times, kids_in, IsBalanced, AllLawful, HasKid}
use Rattle.ovl_board.specs.Assembly.{IsInOrder, bare}
use Rattle.ovl_board.proofs.LawsOfMembers.{In, Every, Rises, In-cases, In-map, get_or-In, Rises-append, Rises-AllPairs, All-Every, Every-All, Contains-In}
use Rattle.ovl_board.proofs.LawsOfPieces.{IsUnder, under_one, before_under, before_siblings}
use Rattle.ovl_board.proofs.LawsOfCounts.{mark, times-cons}
use Rattle.ovl_board.proofs.CountLemmas.{times-append, all_reached, all_there}
use Rattle.ovl_board.proofs.AssemblyLemmas.{IsWalk-moved}

-- the piece that was open last has its parcel now, and the kids of that parcel are open
opened : {S : Type 0} (root : Piece) (views : List (ParcelView S)) (view : ParcelView S) (rest : List Piece)
    → IsBalanced root views (rest ++ view.piece ∷ []) → IsBalanced root (views ++ view ∷ []) (rest ++ reverse view.kids)
opened {S} root views view rest h p =
    let more : kids_in (views ++ view ∷ []) ≡ kids_in views ++ (view.kids ++ []) = flat_map-append (λ (v : ParcelView S). v.kids) views (view ∷ []) in
    let pieces : pieces_of (views ++ view ∷ []) ≡ pieces_of views ++ view.piece ∷ [] = map-append (λ (v : ParcelView S). v.piece) views (view ∷ []) in
    omega (
      arith,
      h p,
      times-cons p root (kids_in views),
      times-append p (pieces_of views) (rest ++ view.piece ∷ []),
      times-append p rest (view.piece ∷ []),
      times-cons p root (kids_in (views ++ view ∷ [])),
      ap (times p) more,
      times-append p (kids_in views) (view.kids ++ []),
      times-append p view.kids [],
      times-append p (pieces_of (views ++ view ∷ [])) (rest ++ reverse view.kids),
      ap (times p) pieces,
      times-append p (pieces_of views) (view.piece ∷ []),
      times-append p rest (reverse view.kids),
      sum_by-IsPermutation (mark p) view.kids (reverse view.kids) (IsPermutation-reverse view.kids),
    )

pub opened-at : {O : Type 0} (root : Piece) (parcels : List (Parcel O)) (i : ℕ) (parcel : Parcel O) → i < length parcels → parcel ≡ get_or parcels i parcel
    → (kept now : List Piece) → IsBalanced root (bare (take i parcels)) (kept ++ parcel.piece ∷ []) → now ≡ kept ++ reverse parcel.kids.items → IsBalanced root (bare (take (i + 1) parcels)) now
opened-at {O} root parcels i parcel lt here kept now h e =
    let view : Parcel O → ParcelView (Unit {0}) = parcel_view (λ (o : O). tt {0}) in
    let more : bare (take (i + 1) parcels) ≡ bare (take i parcels) ++ view parcel ∷ [] = ap bare (take_more parcels i parcel lt) ∙ map-append view (take i parcels) (get_or parcels i parcel ∷ []) ∙ ap (λ x. bare (take i parcels) ++ view x ∷ []) (sym here) in
    rw (more, e) (opened root (bare (take i parcels)) (view parcel) kept h)

-- all that lies under p comes before all that lies under q
abbrev Apart : Piece → Piece → Type 0
Apart p q = (x y : Piece) → IsUnder p x → IsUnder q y → IsBefore x y

-- pieces that have parcels ascend, before all that lies under the open ones, and these lie apart, in their order
abbrev pub Descends : List Piece → List Piece → Type 0
Descends done open_ones = Rises IsBefore done × Every (λ p. Every (λ q. (y : Piece) → IsUnder q y → IsBefore p y) open_ones) done × Rises Apart open_ones

under_itself : (p : Piece) → IsUnder p p
under_itself p = (refl, ([], sym (append-nil p.dir)))

-- the first open piece has its parcel now, and the kids of that parcel are open in its place
descended : (done : List Piece) (p : Piece) (kids rest : List Piece) → AreLawfulKids p kids → Descends done (p ∷ rest) → Descends (done ++ p ∷ []) (kids ++ rest)
descended done p kids rest law d = (
  Rises-append IsBefore done (p ∷ []) d.0 ((λ y h. absurd h), tt) (λ x y i j. elim j [ inl e ↦ subst (IsBefore x) (sym e) (d.1 x i p (inl refl) p (under_itself p)) | inr h ↦ absurd h ]),
  (λ x i. elim (In-cases x done (p ∷ []) i) [
    | inl a ↦ (λ q j y u. elim (In-cases q kids rest j) [
      | inl k ↦ d.1 x a p (inl refl) y (under_one p q y (below q k) u)
      | inr r ↦ d.1 x a q (inr r) y u
    ])
    | inr b ↦ (λ q j y u. subst (λ z. IsBefore z y) (sym (only x b)) (elim (In-cases q kids rest j) [
      | inl k ↦ before_under p q y (below q k) u
      | inr r ↦ d.2.0 q r p y (under_itself p) u
    ]))
  ]),
  Rises-append Apart kids rest
      (Rises-AllPairs Apart kids (λ i j e lt h x y u v. before_siblings p (get_or kids i e) (get_or kids j e) x y (law.below i e (omega arith)) (law.below j e h) (law.ascend i j e lt h) u v))
      d.2.1
      (λ k q i j x y u v. d.2.0 q j x y (under_one p k x (below k i) u) v),
)
  where
    below : (q : Piece) → In q kids → IsOneBelow p q
    below q k = Every-All (IsOneBelow p) kids law.below q k

    only : (x : Piece) → In x (p ∷ []) → x ≡ p
    only x (inl e) = e
    only x (inr h) = absurd h

pub descended-at : {O : Type 0} (parcels : List (Parcel O)) (i : ℕ) (parcel : Parcel O) → AllLawful (bare parcels) → i < length parcels → parcel ≡ get_or parcels i parcel
    → (kept now : List Piece) → Descends (pieces_of (bare (take i parcels))) (reverse (kept ++ parcel.piece ∷ [])) → now ≡ kept ++ reverse parcel.kids.items → Descends (pieces_of (bare (take (i + 1) parcels))) (reverse now)
descended-at {O} parcels i parcel lawful lt here kept now d e =
    let piece : Parcel O → Piece = λ (x : Parcel O). x.piece in
    let more : pieces_of (bare (take (i + 1) parcels)) ≡ pieces_of (bare (take i parcels)) ++ parcel.piece ∷ [] =
    ap (λ ps. pieces_of (bare ps)) (take_more parcels i parcel lt ∙ ap (λ x. take i parcels ++ x ∷ []) (sym here)) ∙ ap pieces_of (map-append (parcel_view (λ (o : O). tt {0})) (take i parcels) (parcel ∷ [])) ∙ map-append (λ (v : ParcelView (Unit {0})). v.piece) (bare (take i parcels)) (bare (parcel ∷ [])) in
    let turned : reverse now ≡ parcel.kids.items ++ reverse kept = ap reverse e ∙ reverse-append kept (reverse parcel.kids.items) ∙ ap (λ ks. ks ++ reverse kept) (reverse-reverse parcel.kids.items) in
    let law : AreLawfulKids parcel.piece parcel.kids.items = Every-All (λ (v : ParcelView (Unit {0})). AreLawfulKids v.piece v.kids) (bare parcels) lawful (parcel_view (λ (o : O). tt {0}) parcel) (In-map (parcel_view (λ (o : O). tt {0})) parcel parcels (subst (λ x. In x parcels) (sym here) (get_or-In parcels i parcel lt))) in
    rw (more, turned) (descended (pieces_of (bare (take i parcels))) parcel.piece parcel.kids.items (reverse kept) law (subst (Descends (pieces_of (bare (take i parcels)))) (reverse-append kept (parcel.piece ∷ [])) d))

pub lawful-moved : {O : Type 0} (parcels sorted : List (Parcel O)) → AllLawful (bare parcels) → IsPermutation parcels sorted → AllLawful (bare sorted)
lawful-moved {O} parcels sorted lawful same =
    All-permutation (λ (v : ParcelView (Unit {0})). AreLawfulKids v.piece v.kids) (bare parcels) (bare sorted) (IsPermutation-map (parcel_view (λ (o : O). tt {0})) parcels sorted same) lawful

-- ascending parcels that balance with nothing open are in order
pub order-balanced : {O : Type 0} (root : Piece) (parcels sorted : List (Parcel O)) → AllLawful (bare parcels) → IsPermutation parcels sorted
    → AllPairs IsBefore (pieces_of (bare sorted)) → IsBalanced root (bare sorted) [] → IsInOrder root parcels sorted
order-balanced {O} root parcels sorted lawful same up balanced = (same, IsWalk-moved root (bare parcels) (bare sorted) moved (pieces_of (bare sorted)) walk)
  where
    moved : IsPermutation (bare parcels) (bare sorted)
    moved = IsPermutation-map (parcel_view (λ (o : O). tt {0})) parcels sorted same

    law : AllLawful (bare sorted)
    law = lawful-moved parcels sorted lawful same

    walk : IsWalk (HasKid (bare sorted)) root (pieces_of (bare sorted))
    walk = record {
      ascend = up;
      reached = All-Every (Reached (HasKid (bare sorted)) root) (pieces_of (bare sorted)) (all_reached root (bare sorted) law balanced);
      whole = λ q r. Contains-In q (pieces_of (bare sorted)) (all_there root (bare sorted) law balanced q r);
    }
