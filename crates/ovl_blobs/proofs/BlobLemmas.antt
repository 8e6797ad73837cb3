-- The work of digesting blobs.
use Rattle.std.proofs.Common.{◌≡◌, ℕ, ◌≤◌, ◌+◌, ◌<◌, inl, inr, Bool, true, false, cond, List, [], ◌∷◌, ◌++◌, map, length, get_or, take, refl, sym, ap, ◌∙◌, subst, arith}
use Rattle.std.specs.Prelude.{◌==◌, ◌&&◌, ◌||◌, filter, All}
use Rattle.std.specs.List.{flat_map}
use Rattle.std.specs.declared.cmp.Ordering.TheVariants.{Less}
use Rattle.std.specs.Cmp.Lexicographic.{nat_list_cmp_total, bytes_decides}
use Rattle.std.specs.List.{list_any}
use Rattle.std.specs.BTreeSet.{insert_key}
use Rattle.std.proofs.lemmas.List.{take_more, map-append}
use Rattle.std.proofs.lemmas.Bool.{eqb-true}
use Rattle.std.proofs.Math.Bool.{or-true}
use Rattle.ovl_names.specs.Names.{PathName, name_eq, name_cmp}
use Rattle.ovl_names.specs.Paths.{PathNames, is_root}
use Rattle.ovl_names.specs.Order.{ascends}
use Rattle.ovl_names.specs.NameSets.{put_names}
use Rattle.ovl_names.proofs.LawsOfNameSets.{ascends-put, put_names-append, any-put}
use Rattle.ovl_board.specs.declared.pieces.Piece.{Piece}
use Rattle.ovl_board.specs.Pieces.{IsBefore, IsOneBelow, AreLawfulKids, HasLawfulKids}
use Rattle.ovl_names.proofs.Ascending.{both, ascends-filter}
use Rattle.ovl_board.proofs.LawsOfPieces.{piece_eq, entries-lawful}
use Rattle.ovl_board.proofs.LawsOfMembers.{In, Rises, All-Every, AllPairs-Rises, In-map, In-map-cases, In-flat_map, In-flat_map-cases, Contains-In, In-filter-cases}
use Rattle.ovl_board.specs.Walks.{Reached, start, next, ToKid}
use Rattle.ovl_board.specs.Parcels.{ParcelView, IsPlain, own_view}
use Rattle.ovl_blobs.specs.declared.blobs.Blob.{Blob}
use Rattle.ovl_blobs.proofs.Plain.{own-view, has-view}
use Rattle.ovl_blobs.specs.Blobs.{BlobView, blob_space, blob_root, digits_piece, digits_of_names, digest_cmp, blob_cmp, are_in_order, blob_view, blob_views, is_wrong, wrong_names, wrong_names_under, blob_kids, blob_out, out_at, first_digits}
use Rattle.ovl_blobs.specs.ByDigest.{names_ascend}
use Rattle.ovl_blobs.proofs.Ascent.{Rises-ascends, ascends-map, In-filter, ordered_same}

digits-ascend : (blobs : List BlobView) → ascends name_cmp (digits_of_names blobs) ≡ true
digits-ascend blobs = ascends-put [] (map (λ blob. first_digits blob.name) blobs) refl

root-lawful : (blobs : List BlobView) (p : Piece) → p ≡ blob_root → AreLawfulKids p (map digits_piece (digits_of_names blobs))
root-lawful blobs p is =
    subst (λ (root : Piece). AreLawfulKids root (map digits_piece (digits_of_names blobs))) (sym is)
    (entries-lawful (λ digits. digits) blob_root (digits_of_names blobs) (Rises-ascends name_cmp (digits_of_names blobs) (digits-ascend blobs)))

is_root-nil : (dir : PathNames) → is_root dir ≡ true → dir ≡ []
is_root-nil [] is = refl
is_root-nil (name ∷ dir) is = let bad : false ≡ true = is in cc

-- kids are lawful, and one name deep
module _ (blobs : List BlobView) where
  kids-root : (p : Piece) → (p.space == blob_space) && is_root p.dir ≡ true → p ≡ blob_root
  kids-root p is =
      let parts = both {a = p.space == blob_space} {b = is_root p.dir} is in
      piece_eq p blob_root (eqb-true p.space blob_space parts.0) (is_root-nil p.dir parts.1)

  kids-lawful : (p : Piece) → AreLawfulKids p (blob_kids blobs p)
  kids-lawful p = by ((p.space == blob_space) && is_root p.dir) refl
    where
      by : (b : Bool) → (p.space == blob_space) && is_root p.dir ≡ b → AreLawfulKids p (cond b (map digits_piece (digits_of_names blobs)) [])
      by true e = root-lawful blobs p (kids-root p e)
      by false e = record { below = All-Every (IsOneBelow p) [] (λ q h. absurd h); ascend = AllPairs-Rises IsBefore [] tt }

  kids-shallow : (p : Piece) → All (λ kid. length kid.dir ≤ 1) (blob_kids blobs p)
  kids-shallow p = by ((p.space == blob_space) && is_root p.dir)
    where
      by : (b : Bool) → All (λ kid. length kid.dir ≤ 1) (cond b (map digits_piece (digits_of_names blobs)) [])
      by true = All-Every (λ kid. length kid.dir ≤ 1) (map digits_piece (digits_of_names blobs)) (λ q h.
          let kid = In-map-cases digits_piece q (digits_of_names blobs) h in
          subst (λ (x : Piece). length x.dir ≤ 1) (sym kid.1.1) (omega arith))
      by false = All-Every (λ kid. length kid.dir ≤ 1) [] (λ q h. absurd h)

  pub blob_kids-lawful : HasLawfulKids (blob_kids blobs) 1
  blob_kids-lawful = record { lawful = kids-lawful; shallow = kids-shallow }

-- ---- the code's passes

pub digits-more : (blobs : List Blob) (i : ℕ) (blob : Blob) → i < length blobs → blob ≡ get_or blobs i blob → digits_of_names (blob_views (take (i + 1) blobs)) ≡ insert_key name_cmp (digits_of_names (blob_views (take i blobs))) (first_digits blob.name)
digits-more blobs i blob inside is =
    let digits : Blob → PathName = λ b. first_digits b.name in
    let split : take (i + 1) blobs ≡ take i blobs ++ blob ∷ [] = take_more blobs i blob inside ∙ ap (λ (b : Blob). take i blobs ++ b ∷ []) (sym is) in
    ap (λ (bs : List Blob). digits_of_names (blob_views bs)) split
    ∙ (ap (λ (views : List BlobView). digits_of_names views) (map-append blob_view (take i blobs) (blob ∷ []))
    ∙ (ap (put_names []) (map-append (λ (view : BlobView). first_digits view.name) (blob_views (take i blobs)) (blob_view blob ∷ []))
    ∙ put_names-append [] (map (λ (view : BlobView). first_digits view.name) (blob_views (take i blobs))) (first_digits blob.name ∷ [])))

-- blobs ascend as their views do
pub views-ascend : (blobs : List Blob) → are_in_order (blob_views blobs) ≡ names_ascend (λ (blob : Blob). blob.name) blobs
views-ascend blobs = ascends-map blob_cmp blob_view blobs

-- ---- the names with wrong bytes, over the plain walk

pub any-In : (name : PathName) (names : List PathName) → list_any (name_eq name) names ≡ true → In name names
any-In name [] is = let bad : false ≡ true = is in cc
any-In name (own ∷ names) is = by (any-In name names) (name_eq name own) refl is
  where
    by : (list_any (name_eq name) names ≡ true → In name names) → (b : Bool) → name_eq name own ≡ b → (b || list_any (name_eq name) names) ≡ true → In name (own ∷ names)
    by later true e is = inl ((bytes_decides name own).0 e)
    by later false e is = inr (later is)

In-any : (name : PathName) (names : List PathName) → In name names → list_any (name_eq name) names ≡ true
In-any name [] h = absurd h
In-any name (own ∷ names) (inl e) = ap (λ b. b || list_any (name_eq name) names) ((bytes_decides name own).1 e)
In-any name (own ∷ names) (inr h) = ap (λ b. name_eq name own || b) (In-any name names h) ∙ or-true (name_eq name own)

module _ (blobs : List BlobView) where
  digits-In : (blob : BlobView) → In blob blobs → In (first_digits blob.name) (digits_of_names blobs)
  digits-In blob h =
      let digits = map (λ (b : BlobView). first_digits b.name) blobs in
      any-In (first_digits blob.name) (digits_of_names blobs)
      (any-put (first_digits blob.name) [] digits ∙ In-any (first_digits blob.name) digits (In-map (λ (b : BlobView). first_digits b.name) blob blobs h))

  wrong-from_out : (name : List ℕ) (p : Piece) → In name (blob_out blobs p) → In name (wrong_names blobs)
  wrong-from_out name p h = by (p.space == blob_space) p.dir h
    where
      by : (b : Bool) (dir : PathNames) → In name (cond b (out_at blobs dir) []) → In name (wrong_names blobs)
      by false dir h = absurd h
      by true [] h = absurd h
      by true (digits ∷ other ∷ dir) h = absurd h
      by true (digits ∷ []) h =
          let under = filter (λ (b : BlobView). name_eq digits (first_digits b.name)) blobs in
          let one = In-map-cases (λ (b : BlobView). b.name) name (filter is_wrong under) h in
          let wrong = In-filter-cases is_wrong one.0 under one.1.0 in
          let there = In-filter-cases (λ (b : BlobView). name_eq digits (first_digits b.name)) one.0 blobs wrong.0 in
          subst (λ n. In n (wrong_names blobs)) (sym one.1.1) (In-map (λ (b : BlobView). b.name) one.0 (filter is_wrong blobs) (In-filter is_wrong one.0 blobs there.0 wrong.1))

  out-from_wrong : (name : List ℕ) → In name (wrong_names blobs) → (p : Piece) × (Reached (ToKid (blob_kids blobs)) blob_root p × In name (blob_out blobs p))
  out-from_wrong name h =
      let one = In-map-cases (λ (b : BlobView). b.name) name (filter is_wrong blobs) h in
      let wrong = In-filter-cases is_wrong one.0 blobs one.1.0 in
      let digits = first_digits one.0.name in
      let under = filter (λ (b : BlobView). name_eq digits (first_digits b.name)) blobs in
      let kid = In-map digits_piece digits (digits_of_names blobs) (digits-In one.0 wrong.0) in (
        digits_piece digits,
        (
          next start (Contains-In (digits_piece digits) (map digits_piece (digits_of_names blobs)) kid),
          subst (λ n. In n (wrong_names_under digits blobs)) (sym one.1.1)
              (In-map (λ (b : BlobView). b.name) one.0 (filter is_wrong under)
              (In-filter is_wrong one.0 under (In-filter (λ (b : BlobView). name_eq digits (first_digits b.name)) one.0 blobs wrong.0 ((bytes_decides digits digits).1 refl)) wrong.1)),
        ),
      )

  pub wrong-names-ascend : are_in_order blobs ≡ true → ascends digest_cmp (wrong_names blobs) ≡ true
  wrong-names-ascend up = ascends-map digest_cmp (λ (b : BlobView). b.name) (filter is_wrong blobs) ∙ ascends-filter blob_cmp is_wrong blobs up

  module _ (views : List (ParcelView (List (List ℕ)))) (plain : IsPlain (blob_kids blobs) (blob_out blobs) blob_root views) where
    wrong-from_seen : (name : List ℕ) → In name (flat_map (λ (v : ParcelView (List (List ℕ))). v.seen) views) → In name (wrong_names blobs)
    wrong-from_seen name h =
        let v = In-flat_map-cases (λ (v : ParcelView (List (List ℕ))). v.seen) name views h in
        wrong-from_out name v.0.piece (subst (λ (w : ParcelView (List (List ℕ))). In name w.seen) (own-view (blob_kids blobs) (blob_out blobs) views plain.own v.0 v.1) v.2)

    seen-from_wrong : (name : List ℕ) → In name (wrong_names blobs) → In name (flat_map (λ (v : ParcelView (List (List ℕ))). v.seen) views)
    seen-from_wrong name h =
        let found = out-from_wrong name h in
        In-flat_map (λ (v : ParcelView (List (List ℕ))). v.seen) name (own_view (blob_kids blobs) (blob_out blobs) found.0) views
        (has-view (blob_kids blobs) (blob_out blobs) blob_root views plain found.0 found.1.0) found.1.1

    -- names in strictly ascending order with these members
    pub names-are : (names : List (List ℕ)) → are_in_order blobs ≡ true → Rises (λ a b. digest_cmp a b ≡ Less) names
        → ((name : List ℕ) → In name names → In name (flat_map (λ (v : ParcelView (List (List ℕ))). v.seen) views))
        → ((name : List ℕ) → In name (flat_map (λ (v : ParcelView (List (List ℕ))). v.seen) views) → In name names)
        → names ≡ wrong_names blobs
    names-are names up rises f g =
        ordered_same nat_list_cmp_total names (wrong_names blobs) rises (Rises-ascends digest_cmp (wrong_names blobs) (wrong-names-ascend up))
        (λ n h. wrong-from_seen n (f n h)) (λ n h. g n (seen-from_wrong n h))
