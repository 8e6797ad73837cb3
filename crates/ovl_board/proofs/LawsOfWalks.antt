-- Laws of plain walks, and of parcels that are a work's own.
use Rattle.std.proofs.Common.{◌≡◌, ℕ, zero, suc, ◌+◌, ◌-◌, ◌≤◌, inl, inr, List, [], ◌∷◌, length, map, refl, sym, ap, ◌∙◌, subst, arith, append-nil, Contains, IsPermutation}
use Rattle.std.specs.List.{flat_map}
use Rattle.std.proofs.lemmas.List.Sorted.{All-permutation, Contains-permutation, IsPermutation-sym, IsPermutation-map}
use Rattle.std.proofs.lemmas.Bool.{cases_lt}
use Rattle.ovl_board.specs.declared.pieces.Piece.{Piece}
use Rattle.ovl_board.specs.Pieces.{IsBefore, IsOneBelow, HasLawfulKids, AreLawfulKids}
use Rattle.ovl_board.specs.Walks.{Reached, start, next, IsWalk, ToKid, preorder}
use Rattle.ovl_board.specs.declared.works.Parcel.{Parcel}
use Rattle.ovl_board.specs.Parcels.{ParcelView, IsPlain, parcel_view, parcel_views, own_view, pieces_of, AreOwn, IsPlainUnordered}
use Rattle.ovl_board.specs.Balance.{AllLawful, HasKid, times, IsBalanced}
use Rattle.ovl_board.specs.Assembly.{IsInOrder, bare}
use Rattle.ovl_board.specs.Machine.{start_state}
use Rattle.ovl_board.specs.Laws.{HasReachedPieces, KeepsBalance, OwnAssemble}
use Rattle.ovl_board.proofs.CountLemmas.{times_rising, once, all_reached, all_there, IsPermutation-from_times}
use Rattle.ovl_board.proofs.MachineLemmas.{start_kept, all_kept}
use Rattle.ovl_board.proofs.LawsOfMembers.{All-Every, AllPairs-Rises, Contains-In, Every, Every-All, In, In-Contains, In-flat_map, In-flat_map-cases, In-map, In-map-cases, Rises, Rises-AllPairs, Rises-flat_map, rising_same}
use Rattle.ovl_board.proofs.LawsOfPieces.{IsUnder, before_siblings, before_trans, before_under, length_below, less_differs, under_one}
use Rattle.ovl_board.proofs.LawsOfCounts.{In-times, times-In}

module _ (kids : Piece → List Piece) (deepest : ℕ) (law : HasLawfulKids kids deepest) where
  below : (p q : Piece) → In q (kids p) → IsOneBelow p q
  below p q h = Every-All (IsOneBelow p) (kids p) (law.lawful p).below q h

  shallow : (p q : Piece) → In q (kids p) → length q.dir ≤ deepest
  shallow p q h = Every-All (λ (r : Piece). length r.dir ≤ deepest) (kids p) (law.shallow p) q h

  preorder_under : (n : ℕ) (p : Piece) → Every (IsUnder p) (preorder kids n p)
  preorder_under zero p q (inl e) = (ap (λ (r : Piece). r.space) e, ([], ap (λ (r : Piece). r.dir) e ∙ sym (append-nil p.dir)))
  preorder_under zero p q (inr h) = absurd h
  preorder_under (suc n) p q (inl e) = (ap (λ (r : Piece). r.space) e, ([], ap (λ (r : Piece). r.dir) e ∙ sym (append-nil p.dir)))
  preorder_under (suc n) p q (inr h) =
      let c = In-flat_map-cases (λ r. preorder kids n r) q (kids p) h in
      under_one p c.0 q (below p c.0 c.1) (preorder_under n c.0 q c.2)

  -- a relation on members of a list, with each pair known to be members
  rises_within : (R S : Piece → Piece → Type 0) (all xs : List Piece) → ((x : Piece) → In x xs → In x all) → ((x y : Piece) → In x all → In y all → R x y → S x y) → Rises R xs → Rises S xs
  rises_within R S all [] sub f r = tt
  rises_within R S all (x ∷ xs) sub f r = ((λ y h. f x y (sub x (inl refl)) (sub y (inr h)) (r.0 y h)), rises_within R S all xs (λ y h. sub y (inr h)) f r.1)

  preorder_rises : (n : ℕ) (p : Piece) → Rises IsBefore (preorder kids n p)
  preorder_rises zero p = ((λ q h. absurd h), tt)
  preorder_rises (suc n) p = (
    (λ q h. let c = In-flat_map-cases (λ r. preorder kids n r) q (kids p) h in before_under p c.0 q (below p c.0 c.1) (preorder_under n c.0 q c.2)),
    Rises-flat_map (λ r. preorder kids n r) IsBefore (kids p) (λ q h. preorder_rises n q)
        (rises_within IsBefore (λ q r. (x y : Piece) → In x (preorder kids n q) → In y (preorder kids n r) → IsBefore x y) (kids p) (kids p) (λ x h. h)
        (λ q r i j lt x y u v. before_siblings p q r x y (below p q i) (below p r j) lt (preorder_under n q x u) (preorder_under n r y v))
        (Rises-AllPairs IsBefore (kids p) (law.lawful p).ascend)),
  )

  preorder_reached : (root : Piece) (n : ℕ) (p : Piece) → Reached (ToKid kids) root p → Every (Reached (ToKid kids) root) (preorder kids n p)
  preorder_reached root zero p r q (inl e) = subst (Reached (ToKid kids) root) (sym e) r
  preorder_reached root zero p r q (inr h) = absurd h
  preorder_reached root (suc n) p r q (inl e) = subst (Reached (ToKid kids) root) (sym e) r
  preorder_reached root (suc n) p r q (inr h) =
      let c = In-flat_map-cases (λ r. preorder kids n r) q (kids p) h in
      preorder_reached root n c.0 (next r (Contains-In c.0 (kids p) c.1)) q c.2

  preorder_head : (n : ℕ) (p : Piece) → In p (preorder kids n p)
  preorder_head zero p = inl refl
  preorder_head (suc n) p = inl refl

  -- with enough fuel, the kids of each piece of the walk are in it
  preorder_closed : (n : ℕ) (p r q : Piece) → deepest ≤ n + length p.dir → In r (preorder kids n p) → In q (kids r) → In q (preorder kids n p)
  preorder_closed zero p r q enough (inl e) k =
      let k' : In q (kids p) = subst (λ (x : Piece). In q (kids x)) e k in
      absurd (omega (arith, shallow p q k', length_below p q (below p q k')))
  preorder_closed zero p r q enough (inr h) k = absurd h
  preorder_closed (suc n) p r q enough (inl e) k =
      let k' : In q (kids p) = subst (λ (x : Piece). In q (kids x)) e k in
      inr (In-flat_map (λ r. preorder kids n r) q q (kids p) k' (preorder_head n q))
  preorder_closed (suc n) p r q enough (inr h) k =
      let c = In-flat_map-cases (λ r. preorder kids n r) r (kids p) h in
      inr (In-flat_map (λ r. preorder kids n r) q c.0 (kids p) c.1
      (preorder_closed n c.0 r q (omega (arith, length_below p c.0 (below p c.0 c.1))) c.2 k))

  preorder_whole : (n : ℕ) (p q : Piece) → deepest ≤ n + length p.dir → Reached (ToKid kids) p q → In q (preorder kids n p)
  preorder_whole n p _ enough start = preorder_head n p
  preorder_whole n p _ enough (next {p = r} {q = q} reached step) = preorder_closed n p r q enough (preorder_whole n p r enough reached) (In-Contains q (kids r) step)

  pub IsWalk-preorder : (n : ℕ) (p : Piece) → deepest ≤ n + length p.dir → IsWalk (ToKid kids) p (preorder kids n p)
  IsWalk-preorder n p enough = record {
    ascend = AllPairs-Rises IsBefore (preorder kids n p) (preorder_rises n p);
    reached = All-Every (Reached (ToKid kids) p) (preorder kids n p) (preorder_reached p n p start);
    whole = λ q r. Contains-In q (preorder kids n p) (preorder_whole n p q enough r);
  }

  no_kids : (p : Piece) (ks : List Piece) → deepest ≤ length p.dir → Every (λ (q : Piece). (length q.dir ≤ deepest) × IsOneBelow p q) ks → ks ≡ []
  no_kids p [] deep e = refl
  no_kids p (k ∷ ks) deep e = let h = e k (inl refl) in absurd (omega (arith, h.0, length_below p k h.1))

  kids_here : (p q : Piece) → In q (kids p) → (length q.dir ≤ deepest) × IsOneBelow p q
  kids_here p q h = (shallow p q h, below p q h)

  step_at : (p : Piece) (n : ℕ) → n ≡ deepest - length p.dir → preorder kids n p ≡ p ∷ flat_map (λ q. preorder kids (n - 1) q) (kids p)
  step_at p zero e = let none : kids p ≡ [] = no_kids p (kids p) (omega arith) (kids_here p) in ap (λ ks. p ∷ flat_map (λ q. preorder kids (0 - 1) q) ks) (sym none)
  step_at p (suc n) e = let same : suc n - 1 ≡ n = omega arith in ap (λ m. p ∷ flat_map (λ q. preorder kids m q) (kids p)) (sym same)

  pub preorder_step : (p : Piece) → preorder kids (deepest - length p.dir) p ≡ p ∷ flat_map (λ q. preorder kids (deepest - length p.dir - 1) q) (kids p)
  preorder_step p = step_at p (deepest - length p.dir) refl

  -- the depth of a kid
  pub kid_depth : (p q : Piece) → In q (kids p) → (length q.dir ≡ length p.dir + 1) × (length q.dir ≤ deepest)
  kid_depth p q h = (length_below p q (below p q h), shallow p q h)

  pub kid_fuel : (p q : Piece) → In q (kids p) → preorder kids (deepest - length q.dir) q ≡ preorder kids (deepest - length p.dir - 1) q
  kid_fuel p q h = let d = kid_depth p q h in ap (λ n. preorder kids n q) (omega (arith, d.0))

-- the work's own nodes, walked from the root, are the plain walk
pub IsPlain-from_preorder : {S : Type 0} (kids : Piece → List Piece) (out : Piece → S) (deepest : ℕ) → HasLawfulKids kids deepest → (root : Piece) (nodes : List (ParcelView S))
    → nodes ≡ map (own_view kids out) (preorder kids (deepest - length root.dir) root) → IsPlain kids out root nodes
IsPlain-from_preorder kids out deepest law root nodes e =
    let all = preorder kids (deepest - length root.dir) root in
    let same : pieces_of nodes ≡ all = ap pieces_of e ∙ pieces_own kids out all in
    record {
      walk = subst (IsWalk (ToKid kids) root) (sym same) (IsWalk-preorder kids deepest law (deepest - length root.dir) root (omega arith));
      own = e ∙ ap (map (own_view kids out)) (sym same);
    }
  where
    pieces_own : {S : Type 0} (kids : Piece → List Piece) (out : Piece → S) (ps : List Piece) → pieces_of (map (own_view kids out) ps) ≡ ps
    pieces_own kids out [] = refl
    pieces_own kids out (p ∷ ps) = ap (λ z. p ∷ z) (pieces_own kids out ps)

pub reached_by : (S T : Piece → Piece → Type 0) → ((p q : Piece) → S p q → T p q) → (root p : Piece) → Reached S root p → Reached T root p
reached_by S T f root _ start = start
reached_by S T f root _ (next {p = p} {q = q} r s) = next (reached_by S T f root p r) (f p q s)

module _ {S : Type 0} (kids : Piece → List Piece) (out : Piece → S) where
  -- a parcel that is the work's own
  abbrev pub IsOwn : ParcelView S → Type 0
  IsOwn view = view ≡ own_view kids out view.piece

  own_each : (views : List (ParcelView S)) → AreOwn kids out views → Every IsOwn views
  own_each [] own v h = absurd h
  own_each (w ∷ views) own v (inl e) = let head : IsOwn w = cc in subst IsOwn (sym e) head
  own_each (w ∷ views) own v (inr h) = let tail : AreOwn kids out views = cc in own_each views tail v h

  each_own : (views : List (ParcelView S)) → Every IsOwn views → AreOwn kids out views
  each_own [] own = refl
  each_own (v ∷ views) own = ap (λ w. w ∷ views) (own v (inl refl)) ∙ ap (λ ws. own_view kids out v.piece ∷ ws) (each_own views (λ w h. own w (inr h)))

  own_kids : (v : ParcelView S) → IsOwn v → v.kids ≡ kids v.piece
  own_kids v own = ap (λ (w : ParcelView S). w.kids) own

  module _ (views : List (ParcelView S)) (own : AreOwn kids out views) where
    to_work : (p q : Piece) → HasKid views p q → ToKid kids p q
    to_work p q h =
        let ks = own_kids h.0 (own_each views own h.0 (In-Contains h.0 views h.1.0)) ∙ ap kids h.1.1.0 in
        subst (λ l. Contains l q) ks h.1.1.1

    to_parcel : (p q : Piece) → In p (pieces_of views) → ToKid kids p q → HasKid views p q
    to_parcel p q i h =
        let m = In-map-cases (λ (v : ParcelView S). v.piece) p views i in
        let ks = ap kids m.1.1 ∙ sym (own_kids m.0 (own_each views own m.0 m.1.0)) in
        (m.0, (Contains-In m.0 views m.1.0, (sym m.1.1, subst (λ l. Contains l q) ks h)))

    -- where each piece that the parcels' kids lead to has a parcel, the work's kids lead to no other one
    to_parcels : (root : Piece) → ((p : Piece) → Reached (HasKid views) root p → In p (pieces_of views)) → (q : Piece) → Reached (ToKid kids) root q → Reached (HasKid views) root q
    to_parcels root closed _ start = start
    to_parcels root closed _ (next {p = p} {q = q} r s) = let done = to_parcels root closed p r in next done (to_parcel p q (closed p done) s)

    pub own_lawful : (deepest : ℕ) → HasLawfulKids kids deepest → AllLawful views
    own_lawful deepest law = All-Every (λ (v : ParcelView S). AreLawfulKids v.piece v.kids) views (λ v h.
        subst (AreLawfulKids v.piece) (sym (own_kids v (own_each views own v h))) (law.lawful v.piece))

  same_once : (a b : ℕ) → a ≤ 1 → b ≤ 1 → (1 ≤ a → 1 ≤ b) → (1 ≤ b → 1 ≤ a) → a ≡ b
  same_once a b x y f g = elim (cases_lt 0 a) [
    | inl some ↦ (let there : 1 ≤ b = f (omega arith) in omega arith)
    | inr none ↦ elim (cases_lt 0 b) [ inl some ↦ (let there : 1 ≤ a = g (omega arith) in absurd (omega arith)) | inr empty ↦ omega arith ]
  ]

  -- a work's own parcels that balance with nothing open are its plain walk, in some order
  pub balanced_plain : (deepest : ℕ) → HasLawfulKids kids deepest → (root : Piece) (views : List (ParcelView S)) → AreOwn kids out views → IsBalanced root views [] → IsPlainUnordered kids out root views
  balanced_plain deepest law root views own balance =
      let own_one = own_view kids out in
      let walk = map own_one (preorder kids (deepest - length root.dir) root) in
      let plain : IsPlain kids out root walk = IsPlain-from_preorder kids out deepest law root walk refl in
      let lawful = own_lawful views own deepest law in
      let here : (p : Piece) → Reached (ToKid kids) root p → In p (pieces_of views) = λ p r.
      all_there root views lawful balance p (to_parcels views own root (all_there root views lawful balance) p r) in
      let there : (p : Piece) → In p (pieces_of views) → In p (pieces_of walk) = λ p h.
      In-Contains p (pieces_of walk) (plain.walk.whole p (reached_by (HasKid views) (ToKid kids) (to_work views own) root p (all_reached root views lawful balance p h))) in
      let back : (p : Piece) → In p (pieces_of walk) → In p (pieces_of views) = λ p h.
      here p (Every-All (Reached (ToKid kids) root) (pieces_of walk) plain.walk.reached p h) in
      let same : IsPermutation (pieces_of walk) (pieces_of views) = IsPermutation-from_times (pieces_of walk) (pieces_of views) (λ p.
      same_once (times p (pieces_of walk)) (times p (pieces_of views)) (times_rising p (pieces_of walk) (Rises-AllPairs IsBefore (pieces_of walk) plain.walk.ascend)) (once root views lawful balance p)
      (λ h. In-times p (pieces_of views) (back p (times-In p (pieces_of walk) h))) (λ h. In-times p (pieces_of walk) (there p (times-In p (pieces_of views) h)))) in
      let moved : IsPermutation (map own_one (pieces_of walk)) (map own_one (pieces_of views)) = IsPermutation-map own_one (pieces_of walk) (pieces_of views) same in
      (walk, (plain, subst (IsPermutation walk) (sym own) (subst (λ l. IsPermutation l (map own_one (pieces_of views))) (sym plain.own) moved)))

  -- the parcels of a plain walk in another order are the work's own
  pub plain_own : (root : Piece) (views : List (ParcelView S)) → IsPlainUnordered kids out root views → AreOwn kids out views
  plain_own root views h =
      let walk = h.0 in
      each_own views (Every-All IsOwn views (All-permutation IsOwn walk views h.1.1 (All-Every IsOwn walk (own_each walk h.1.0.own))))

-- parcels as they are seen in two ways
module _ {O S T : Type 0} (f : O → S) (g : O → T) where
  seen_pieces : (parcels : List (Parcel O)) → pieces_of (parcel_views f parcels) ≡ pieces_of (parcel_views g parcels)
  seen_pieces [] = refl
  seen_pieces (c ∷ cs) = ap (λ ps. c.piece ∷ ps) (seen_pieces cs)

  seen_kid : (parcels : List (Parcel O)) (p q : Piece) → HasKid (parcel_views f parcels) p q → HasKid (parcel_views g parcels) p q
  seen_kid parcels p q h =
      let m = In-map-cases (parcel_view f) h.0 parcels (In-Contains h.0 (parcel_views f parcels) h.1.0) in
      let c = m.0 in (
        parcel_view g c,
        (
          Contains-In (parcel_view g c) (parcel_views g parcels) (In-map (parcel_view g) c parcels m.1.0),
          (sym (ap (λ (v : ParcelView S). v.piece) m.1.1) ∙ h.1.1.0, subst (λ l. Contains l q) (ap (λ (v : ParcelView S). v.kids) m.1.1) h.1.1.1),
        ),
      )

  seen_lawful : (parcels : List (Parcel O)) → AllLawful (parcel_views f parcels) → AllLawful (parcel_views g parcels)
  seen_lawful parcels law = All-Every (λ (v : ParcelView T). AreLawfulKids v.piece v.kids) (parcel_views g parcels) (λ v h.
      let m = In-map-cases (parcel_view g) v parcels h in
      let c = m.0 in
      subst (λ (w : ParcelView T). AreLawfulKids w.piece w.kids) (sym m.1.1)
      (Every-All (λ (w : ParcelView S). AreLawfulKids w.piece w.kids) (parcel_views f parcels) law (parcel_view f c) (In-map (parcel_view f) c parcels m.1.0)))

module _ {O S : Type 0} (seen : O → S) (kids : Piece → List Piece) (out : Piece → S) where
  pub own_lawful-bare : (deepest : ℕ) → HasLawfulKids kids deepest → (parcels : List (Parcel O)) → AreOwn kids out (parcel_views seen parcels) → AllLawful (bare parcels)
  own_lawful-bare deepest law parcels own = seen_lawful seen (λ _. tt {0}) parcels (own_lawful kids out (parcel_views seen parcels) own deepest law)

  -- a work's own parcels are its own in any order
  pub own_permuted : (parcels others : List (Parcel O)) → IsPermutation parcels others → AreOwn kids out (parcel_views seen parcels) → AreOwn kids out (parcel_views seen others)
  own_permuted parcels others same own =
      let views = parcel_views seen parcels in
      each_own kids out (parcel_views seen others) (Every-All (IsOwn kids out) (parcel_views seen others)
      (All-permutation (IsOwn kids out) views (parcel_views seen others) (IsPermutation-map (parcel_view seen) parcels others same) (All-Every (IsOwn kids out) views (own_each kids out views own))))

  -- a work's own parcels in order are its plain walk
  pub order_plain : (root : Piece) (parcels assembled : List (Parcel O)) → AreOwn kids out (parcel_views seen parcels) → IsInOrder root parcels assembled → IsPlain kids out root (parcel_views seen assembled)
  order_plain root parcels assembled own order =
      let none : O → Unit {0} = λ _. tt {0} in
      let views = parcel_views seen parcels in
      let pieces = pieces_of (bare assembled) in
      let walk = order.1 in
      let same : IsPermutation (pieces_of (bare assembled)) (pieces_of (bare parcels)) =
      IsPermutation-map (λ (v : ParcelView (Unit {0})). v.piece) (bare assembled) (bare parcels) (IsPermutation-map (parcel_view none) assembled parcels (IsPermutation-sym parcels assembled order.0)) in
      let closed : (p : Piece) → Reached (HasKid views) root p → In p (pieces_of views) = λ p r.
      subst (In p) (seen_pieces none seen parcels) (In-Contains p (pieces_of (bare parcels)) (Contains-permutation pieces (pieces_of (bare parcels)) p same
      (walk.whole p (reached_by (HasKid views) (HasKid (bare parcels)) (seen_kid seen none parcels) root p r)))) in
      record {
        walk = subst (IsWalk (ToKid kids) root) (seen_pieces none seen assembled) (record {
          ascend = walk.ascend;
          reached = All-Every (Reached (ToKid kids) root) pieces (λ p h.
              reached_by (HasKid (bare parcels)) (ToKid kids) (λ q r k. to_work kids out views own q r (seen_kid none seen parcels q r k)) root p (Every-All (Reached (HasKid (bare parcels)) root) pieces walk.reached p h));
          whole = λ p r. walk.whole p (reached_by (HasKid views) (HasKid (bare parcels)) (seen_kid seen none parcels) root p (to_parcels kids out views own root closed p r));
        });
        own = own_permuted parcels assembled order.0 own;
      }

-- two ascending lists of pieces with the same members are one
same_pieces : (ps qs : List Piece) → Rises IsBefore ps → Rises IsBefore qs → ((x : Piece) → In x ps → In x qs) → ((x : Piece) → In x qs → In x ps) → ps ≡ qs
same_pieces = rising_same IsBefore (λ x lt. less_differs x x lt refl) before_trans

module _ {S : Type 0} (kids : Piece → List Piece) (out : Piece → S) where
  pub HasReachedPieces-holds : HasReachedPieces kids out
  HasReachedPieces-holds root views plain = (
    (λ p. ((λ h. Every-All (Reached (ToKid kids) root) (pieces_of views) plain.walk.reached p (In-Contains p (pieces_of views) h)), plain.walk.whole p)),
    plain.walk.ascend,
    (λ p. times_rising p (pieces_of views) (Rises-AllPairs IsBefore (pieces_of views) plain.walk.ascend)),
    (λ others other.
        let same : pieces_of others ≡ pieces_of views = same_pieces (pieces_of others) (pieces_of views)
        (Rises-AllPairs IsBefore (pieces_of others) other.walk.ascend) (Rises-AllPairs IsBefore (pieces_of views) plain.walk.ascend)
        (λ p h. In-Contains p (pieces_of views) (plain.walk.whole p (Every-All (Reached (ToKid kids) root) (pieces_of others) other.walk.reached p h)))
        (λ p h. In-Contains p (pieces_of others) (other.walk.whole p (Every-All (Reached (ToKid kids) root) (pieces_of views) plain.walk.reached p h))) in
        other.own ∙ (ap (map (own_view kids out)) same ∙ sym plain.own)),
  )

  pub KeepsBalance-holds : KeepsBalance kids out
  KeepsBalance-holds root workers events = (all_kept kids out root (start_state root workers) events (start_kept root workers)).balance

  pub OwnAssemble-holds : {O : Type 0} (seen : O → S) → OwnAssemble kids out seen
  OwnAssemble-holds seen deepest law parcels own = (
    own_lawful-bare seen kids out deepest law parcels own,
    (λ root assembled order. order_plain seen kids out root parcels assembled own order),
  )
