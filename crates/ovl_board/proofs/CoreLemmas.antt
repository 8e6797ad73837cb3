-- A core's fields after the steps that change them.
use Rattle.std.proofs.Common.{◌≡◌, ℕ, ◌+◌, ◌-◌, ◌≤◌, List, [], ◌∷◌, ◌++◌, set, map, replicate, Some, None, sym, ap, ◌∙◌, subst, arith}
use Rattle.std.proofs.lemmas.List.{map-append, replicate-append-replicate}
use Rattle.ovl_board.specs.declared.pieces.Piece.{Piece}
use Rattle.ovl_board.specs.declared.works.Parcel.{Parcel}
use Rattle.ovl_board.specs.WorkerStates.{WorkerStateView, empty_worker_state}
use Rattle.ovl_board.specs.Parcels.{ParcelView, parcel_view, parcel_views, own_view, pieces_of, AreOwn}
use Rattle.ovl_board.specs.Machine.{start_worker_states, worker_state_of, IsCoreState}
use Rattle.ovl_board.specs.CoreViews.{core_state}
use Rattle.ovl_board.proofs.MachineLemmas.{IsKept, start_kept, work_kept}

pub start_worker_states-more : (root : Piece) (n : ℕ) → 1 ≤ n → start_worker_states root n ++ empty_worker_state ∷ [] ≡ start_worker_states root (n + 1)
start_worker_states-more root n some =
    let more : n - 1 + 1 ≡ n + 1 - 1 = omega arith in
    ap (λ t. record empty_worker_state { lane = root ∷ [] } ∷ t) (replicate-append-replicate (n - 1) 1 empty_worker_state ∙ ap (λ k. replicate k empty_worker_state) more)

pub started_kept : {S : Type 0} (root copy : Piece) (workers : ℕ) (worker_states : List WorkerStateView) (views : List (ParcelView S)) → worker_states ≡ start_worker_states copy workers → copy ≡ root → views ≡ [] → IsKept root views worker_states
started_kept {S} root copy workers worker_states views d c v =
    let P : List WorkerStateView → Type 0 = λ ds. IsKept root views ds in
    subst P (sym (d ∙ ap (λ p. start_worker_states p workers) c)) (subst (λ vs. IsKept root vs (start_worker_states root workers)) (sym v) (start_kept {S = S} root workers))

module _ {O S : Type 0} (seen : O → S) (kids : Piece → List Piece) (out : Piece → S) where
  own_more : (views : List (ParcelView S)) (p : Piece) → AreOwn kids out views → AreOwn kids out (views ++ own_view kids out p ∷ [])
  own_more views p own =
      ap (λ vs. vs ++ own_view kids out p ∷ []) own
      ∙ (sym (map-append (own_view kids out) (pieces_of views) (p ∷ []))
      ∙ ap (map (own_view kids out)) (sym (map-append (λ (v : ParcelView S). v.piece) views (own_view kids out p ∷ []))))

  same_view : (parcel : Parcel O) (p : Piece) → parcel.piece ≡ p → parcel.kids.items ≡ kids p → seen parcel.out ≡ out p → parcel_view seen parcel ≡ own_view kids out p
  same_view parcel p a b c =
      let made : Piece → List Piece → S → ParcelView S = λ q ks s. record { piece = q; kids = ks; seen = s } in
      ap (λ q. made q parcel.kids.items (seen parcel.out)) a ∙ (ap (λ ks. made p ks (seen parcel.out)) b ∙ ap (made p (kids p)) c)

  -- a piece was worked on: its parcel is there, and its kids are in the outbox
  module _ (root : Piece) (worker_states : List WorkerStateView) (parcels : List (Parcel O)) (w : ℕ) (held : Piece) (parcel : Parcel O) (worker_state put : WorkerStateView) (box : List Piece) (done : List (Parcel O))
      (hand : (worker_state_of worker_states w).hand ≡ Some held) (piece : parcel.piece ≡ held) (ks : parcel.kids.items ≡ kids held) (o : seen parcel.out ≡ out held) (boxed : box ≡ kids held)
      (here : worker_state ≡ worker_state_of worker_states w) (change : put ≡ record worker_state { hand = None; outbox = box }) (push : done ≡ parcels ++ parcel ∷ []) where
    views_done : parcel_views seen done ≡ parcel_views seen parcels ++ own_view kids out held ∷ []
    views_done = ap (parcel_views seen) push ∙ (map-append (parcel_view seen) parcels (parcel ∷ []) ∙ ap (λ v. parcel_views seen parcels ++ v ∷ []) (same_view parcel held piece ks o))

    pub worked_own : AreOwn kids out (parcel_views seen parcels) → AreOwn kids out (parcel_views seen done)
    worked_own own = subst (AreOwn kids out) (sym views_done) (own_more (parcel_views seen parcels) held own)

    put_is : put ≡ record (worker_state_of worker_states w) { hand = None; outbox = kids held }
    put_is = change ∙ (ap (λ (d : WorkerStateView). record d { hand = None; outbox = box }) here ∙ ap (λ b. record (worker_state_of worker_states w) { hand = None; outbox = b }) boxed)

    pub worked_kept : IsCoreState root (core_state seen worker_states parcels) → IsKept root (parcel_views seen done) (set worker_states w put)
    worked_kept kept =
        let P : List WorkerStateView → Type 0 = λ ds. IsKept root (parcel_views seen done) ds in
        subst P (ap (set worker_states w) (sym put_is))
        (subst (λ vs. IsKept root vs (set worker_states w (record (worker_state_of worker_states w) { hand = None; outbox = kids held }))) (sym views_done) (work_kept kids out root (core_state seen worker_states parcels) w kept (Some held) hand))
