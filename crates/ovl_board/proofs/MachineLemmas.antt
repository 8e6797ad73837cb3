-- Each event of the machine keeps the balance.
use Rattle.std.proofs.Common.{◌≡◌, ℕ, zero, suc, ◌+◌, ◌-◌, ◌<◌, ◌≤◌, Bool, true, false, cond, ltb, eqb, ◌&&◌, ◌⊎◌, inl, inr, List, [], ◌∷◌, ◌++◌, length, get_or, set, replicate, Option, Some, None, IfSome, Result, Ok, Err, MatchResult, refl, sym, ap, ◌∙◌, subst, arith, All}
use Rattle.std.proofs.lemmas.Bool.{cases_lt, eqb-true}
use Rattle.std.proofs.lemmas.List.{map-append}
use Rattle.std.proofs.lemmas.List.Concat.{flat_map-append}
use borrow.Author.Tests.{ltb-true}
use Rattle.std.specs.Option.{option_to_list, is_none, unwrap_or}
use Rattle.ovl_board.specs.declared.pieces.Piece.{Piece}
use Rattle.ovl_board.specs.declared.events.CoreFault.{CoreFault}
use Rattle.ovl_board.specs.declared.events.CoreFault.TheVariants.{NotPossible}
use Rattle.ovl_board.specs.declared.events.Event.{Event}
use Rattle.ovl_board.specs.declared.events.Event.TheVariants.{Pop, Steal, Work, Push}
use Rattle.ovl_board.specs.WorkerStates.{WorkerStateView, empty_worker_state, is_free, push_first}
use Rattle.ovl_board.specs.Parcels.{ParcelView, own_view, pieces_of}
use Rattle.ovl_board.specs.Balance.{times, kids_in, IsBalanced}
use Rattle.ovl_board.specs.Machine.{CoreState, start_worker_states, start_state, worker_state_of, with_worker_state, take_first, after_take, after_steal, after_push, work_piece, with_worker_states, after, after_all, worker_state_pieces, open_pieces, IsIdle, IsCoreState}
use Rattle.ovl_board.proofs.LawsOfMembers.{In, Every, All-Every, Every-All, get_or-In}
use Rattle.ovl_board.proofs.LawsOfCounts.{mark, times-cons}
use Rattle.ovl_board.proofs.CountLemmas.{times-append}

-- a full hand is beside an empty outbox
abbrev pub IsFree : WorkerStateView → Type 0
IsFree worker_state = (p : Piece) → worker_state.hand ≡ Some p → worker_state.outbox ≡ []

In-set : {X : Type 0} (x : X) (xs : List X) (i : ℕ) (y : X) → In x (set xs i y) → (x ≡ y) ⊎ In x xs
In-set x [] i y h = inr h
In-set x (z ∷ xs) zero y (inl e) = inl e
In-set x (z ∷ xs) zero y (inr h) = inr (inr h)
In-set x (z ∷ xs) (suc i) y (inl e) = inr (inl e)
In-set x (z ∷ xs) (suc i) y (inr h) = elim (In-set x xs i y h) [ inl e ↦ inl e | inr k ↦ inr (inr k) ]

free-set : (worker_states : List WorkerStateView) (w : ℕ) (worker_state : WorkerStateView) → All IsFree worker_states → IsFree worker_state → All IsFree (set worker_states w worker_state)
free-set worker_states w worker_state all free = All-Every IsFree (set worker_states w worker_state) (λ x h. elim (In-set x worker_states w worker_state h) [
  | inl e ↦ subst IsFree (sym e) free
  | inr i ↦ Every-All IsFree worker_states all x i
])

free-at : (worker_states : List WorkerStateView) (w : ℕ) → All IsFree worker_states → IsFree (worker_state_of worker_states w)
free-at worker_states w all = elim (cases_lt w (length worker_states)) [
  | inl lt ↦ Every-All IsFree worker_states all (worker_state_of worker_states w) (get_or-In worker_states w empty_worker_state lt)
  | inr ge ↦ subst IsFree (sym (past worker_states w ge)) (λ p e. refl)
]
  where
    past : (worker_states : List WorkerStateView) (w : ℕ) → length worker_states ≤ w → get_or worker_states w empty_worker_state ≡ empty_worker_state
    past [] w h = refl
    past (d ∷ worker_states) zero h = absurd (omega arith)
    past (d ∷ worker_states) (suc w) h = past worker_states w (omega arith)

-- a state with something on it is a worker's
in_range : (worker_states : List WorkerStateView) (w : ℕ) → (worker_state_of worker_states w ≡ empty_worker_state → ⊥) → w < length worker_states
in_range [] w some = absurd (some refl)
in_range (d ∷ worker_states) zero some = omega arith
in_range (d ∷ worker_states) (suc w) some = let more = in_range worker_states w some in omega arith

-- the pieces on a state
worker_state_count : (q : Piece) (worker_state : WorkerStateView) → times q (worker_state_pieces worker_state) ≡ times q worker_state.lane + times q (option_to_list worker_state.hand) + times q worker_state.outbox
worker_state_count q worker_state = omega (arith, times-append q (worker_state.lane ++ option_to_list worker_state.hand) worker_state.outbox, times-append q worker_state.lane (option_to_list worker_state.hand))

-- the open pieces after a change of one state
open_set : (q : Piece) (worker_states : List WorkerStateView) (w : ℕ) (worker_state : WorkerStateView) → w < length worker_states
    → times q (open_pieces (set worker_states w worker_state)) + times q (worker_state_pieces (worker_state_of worker_states w)) ≡ times q (open_pieces worker_states) + times q (worker_state_pieces worker_state)
open_set q [] w worker_state h = absurd (omega arith)
open_set q (d ∷ worker_states) zero worker_state h = omega (arith, times-append q (worker_state_pieces worker_state) (open_pieces worker_states), times-append q (worker_state_pieces d) (open_pieces worker_states))
open_set q (d ∷ worker_states) (suc w) worker_state h =
    omega (arith, open_set q worker_states w worker_state (omega arith), times-append q (worker_state_pieces d) (open_pieces (set worker_states w worker_state)), times-append q (worker_state_pieces d) (open_pieces worker_states))

-- a change of a lane changes no hand and no outbox
lane_keeps : (worker_states : List WorkerStateView) (l w : ℕ) (lane : List Piece) → ((worker_state_of (set worker_states l (record (worker_state_of worker_states l) { lane = lane })) w).hand ≡ (worker_state_of worker_states w).hand) × ((worker_state_of (set worker_states l (record (worker_state_of worker_states l) { lane = lane })) w).outbox ≡ (worker_state_of worker_states w).outbox)
lane_keeps [] l w lane = (refl, refl)
lane_keeps (d ∷ worker_states) zero zero lane = (refl, refl)
lane_keeps (d ∷ worker_states) zero (suc w) lane = (refl, refl)
lane_keeps (d ∷ worker_states) (suc l) zero lane = (refl, refl)
lane_keeps (d ∷ worker_states) (suc l) (suc w) lane = lane_keeps worker_states l w lane

length-set : {X : Type 0} (xs : List X) (i : ℕ) (x : X) → length (set xs i x) ≡ length xs
length-set [] i x = refl
length-set (y ∷ xs) zero x = refl
length-set (y ∷ xs) (suc i) x = ap suc (length-set xs i x)

both_true : (a b : Bool) → (a && b) ≡ true → (a ≡ true) × (b ≡ true)
both_true true b e = (refl, e)
both_true false b e = absurd (cc)

free_hand : (o : Option Piece) → is_none o ≡ true → o ≡ None
free_hand None e = refl
free_hand (Some p) e = absurd (cc)

free_outbox : (ps : List Piece) → eqb (length ps) 0 ≡ true → ps ≡ []
free_outbox [] e = refl
free_outbox (p ∷ ps) e = absurd (omega (arith, eqb-true (length (p ∷ ps)) 0 e))

-- the balance, piece by piece
counts : {S : Type 0} (root : Piece) (views : List (ParcelView S)) (open_ones : List Piece) → IsBalanced root views open_ones → (q : Piece) → mark q root + times q (kids_in views) ≡ times q (pieces_of views) + times q open_ones
counts root views open_ones b q = omega (arith, b q, times-cons q root (kids_in views), times-append q (pieces_of views) open_ones)

balanced : {S : Type 0} (root : Piece) (views : List (ParcelView S)) (open_ones : List Piece) → ((q : Piece) → mark q root + times q (kids_in views) ≡ times q (pieces_of views) + times q open_ones) → IsBalanced root views open_ones
balanced root views open_ones h q = omega (arith, h q, times-cons q root (kids_in views), times-append q (pieces_of views) open_ones)

open_replicate : (n : ℕ) → open_pieces (replicate n empty_worker_state) ≡ []
open_replicate zero = refl
open_replicate (suc n) = open_replicate n

In-replicate : (n : ℕ) (d : WorkerStateView) → In d (replicate n empty_worker_state) → d ≡ empty_worker_state
In-replicate zero d h = absurd h
In-replicate (suc n) d (inl e) = e
In-replicate (suc n) d (inr h) = In-replicate n d h

none_held : (d : WorkerStateView) → d.hand ≡ None → IsFree d
none_held d e p h = let no : None ≡ Some p = sym e ∙ h in absurd (cc)

-- states that are a state of the machine beside these parcels
abbrev pub IsKept : {S : Type 0} → Piece → List (ParcelView S) → List WorkerStateView → Type 0
IsKept {S} root views worker_states = IsCoreState {S = S} root (record { worker_states = worker_states; parcels = views })

pub start_kept : {S : Type 0} (root : Piece) (workers : ℕ) → IsCoreState {S = S} root (start_state root workers)
start_kept root workers = record {
  free = All-Every IsFree (start_worker_states root workers) (λ d h. elim h [
    | inl e ↦ none_held d (ap (λ (x : WorkerStateView). x.hand) e)
    | inr i ↦ none_held d (ap (λ (x : WorkerStateView). x.hand) (In-replicate (workers - 1) d i))
  ]);
  balance = λ q. ap (λ ps. times q (root ∷ ps)) (sym (open_replicate (workers - 1)));
}

module _ {S : Type 0} (root : Piece) (views : List (ParcelView S)) (worker_states : List WorkerStateView) (kept : IsKept root views worker_states) where
  take_first_kept : (w l : ℕ) (lane : List Piece) → w < length worker_states → (worker_state_of worker_states w).hand ≡ None → (worker_state_of worker_states w).outbox ≡ [] → (worker_state_of worker_states l).lane ≡ lane
      → IfSome (take_first worker_states w l lane) (IsKept root views)
  take_first_kept w l [] wn hand box at = tt
  take_first_kept w l (p ∷ rest) wn hand box at =
      let first : WorkerStateView = record (worker_state_of worker_states l) { lane = rest } in
      let mid = set worker_states l first in
      let keeps = lane_keeps worker_states l w rest in
      let ln : l < length worker_states = in_range worker_states l (λ e. let no : [] ≡ p ∷ rest = sym (ap (λ (d : WorkerStateView). d.lane) e) ∙ at in absurd (cc)) in
      let second : WorkerStateView = record (worker_state_of mid w) { hand = Some p } in
      record {
        free = free-set mid w second (free-set worker_states l first kept.free (free-at worker_states l kept.free)) (λ q e. keeps.1 ∙ box);
        balance = balanced root views (open_pieces (set mid w second)) (λ q.
            omega (
              arith,
              counts root views (open_pieces worker_states) kept.balance q,
              open_set q worker_states l first ln,
              open_set q mid w second (omega (arith, length-set worker_states l first)),
              worker_state_count q first,
              worker_state_count q (worker_state_of worker_states l),
              ap (times q) at,
              times-cons q p rest,
              worker_state_count q second,
              worker_state_count q (worker_state_of mid w),
              ap (λ o. times q (option_to_list o)) (keeps.0 ∙ hand),
              times-cons q p [],
            ));
      }

  pub take_kept : (w l : ℕ) → IfSome (after_take worker_states w l) (IsKept root views)
  take_kept w l = by (ltb w (length worker_states) && is_free (worker_state_of worker_states w)) refl
    where
      by : (b : Bool) → (ltb w (length worker_states) && is_free (worker_state_of worker_states w)) ≡ b → IfSome (cond b (take_first worker_states w l (worker_state_of worker_states l).lane) None) (IsKept root views)
      by false e = tt
      by true e =
          let both = both_true (ltb w (length worker_states)) (is_free (worker_state_of worker_states w)) e in
          let free = both_true (is_none (worker_state_of worker_states w).hand) (eqb (length (worker_state_of worker_states w).outbox) 0) both.1 in
          take_first_kept w l (worker_state_of worker_states l).lane (ltb-true w (length worker_states) both.0) (free_hand (worker_state_of worker_states w).hand free.0) (free_outbox (worker_state_of worker_states w).outbox free.1) refl

  pub steal_kept : (w l : ℕ) → IfSome (after_steal worker_states w l) (IsKept root views)
  steal_kept w l = by (eqb w l)
    where
      by : (b : Bool) → IfSome (cond b None (after_take worker_states w l)) (IsKept root views)
      by true = tt
      by false = take_kept w l

  pub push_kept : (w : ℕ) → IfSome (after_push worker_states w) (IsKept root views)
  push_kept w = by (worker_state_of worker_states w).outbox refl
    where
      by : (box : List Piece) → (worker_state_of worker_states w).outbox ≡ box → IfSome (with_worker_state worker_states w (push_first (worker_state_of worker_states w) box)) (IsKept root views)
      by [] e = tt
      by (p ∷ rest) e =
          let old = worker_state_of worker_states w in
          let new : WorkerStateView = record old { lane = old.lane ++ p ∷ []; outbox = rest } in
          let wn : w < length worker_states = in_range worker_states w (λ h. let no : [] ≡ p ∷ rest = sym (ap (λ (d : WorkerStateView). d.outbox) h) ∙ e in absurd (cc)) in
          record {
            free = free-set worker_states w new kept.free (λ q h. let no : p ∷ rest ≡ [] = sym e ∙ free-at worker_states w kept.free q h in absurd (cc));
            balance = balanced root views (open_pieces (set worker_states w new)) (λ q.
                omega (
                  arith,
                  counts root views (open_pieces worker_states) kept.balance q,
                  open_set q worker_states w new wn,
                  worker_state_count q new,
                  worker_state_count q old,
                  ap (times q) e,
                  times-cons q p rest,
                  times-append q old.lane (p ∷ []),
                  times-cons q p [],
                ));
          }

  -- a refused change leaves the states
  moved_kept : {T E : Type 0} (r : Result T E) (o : Option (List WorkerStateView)) (new : List WorkerStateView) (Q : E → Type 0) → IfSome o (IsKept root views) → ((e : E) → Q e → new ≡ worker_states)
      → MatchResult r (λ _. o ≡ Some new) Q → IsKept root views new
  moved_kept (Ok x) o new Q h same m = let P : Option (List WorkerStateView) → Type 0 = λ o. IfSome o (IsKept root views) in subst P m h
  moved_kept (Err e) o new Q h same m = subst (IsKept root views) (sym (same e m)) kept

  -- states after a step that was done, or refused as not possible
  abbrev Refused : Option (List WorkerStateView) → List WorkerStateView → CoreFault → Type 0
  Refused o new fault = (fault ≡ NotPossible) × (o ≡ None) × (new ≡ worker_states)

  pub moved_by_take : {T : Type 0} (w l : ℕ) (r : Result T CoreFault) (new : List WorkerStateView) → MatchResult r (λ _. after_take worker_states w l ≡ Some new) (Refused (after_take worker_states w l) new) → IsKept root views new
  moved_by_take w l r new = moved_kept r (after_take worker_states w l) new (Refused (after_take worker_states w l) new) (take_kept w l) (λ fault refused. refused.2)

  pub moved_by_steal : {T : Type 0} (w l : ℕ) (r : Result T CoreFault) (new : List WorkerStateView) → MatchResult r (λ _. after_steal worker_states w l ≡ Some new) (Refused (after_steal worker_states w l) new) → IsKept root views new
  moved_by_steal w l r new = moved_kept r (after_steal worker_states w l) new (Refused (after_steal worker_states w l) new) (steal_kept w l) (λ fault refused. refused.2)

  pub moved_by_push : {T : Type 0} (w : ℕ) (r : Result T CoreFault) (new : List WorkerStateView) → MatchResult r (λ _. after_push worker_states w ≡ Some new) (λ _. new ≡ worker_states) → IsKept root views new
  moved_by_push w r new = moved_kept r (after_push worker_states w) new (λ _. new ≡ worker_states) (push_kept w) (λ fault same. same)

module _ {S : Type 0} (kids : Piece → List Piece) (out : Piece → S) (root : Piece) where
  pub work_kept : (s : CoreState S) (w : ℕ) → IsCoreState root s → (hand : Option Piece) → (worker_state_of s.worker_states w).hand ≡ hand → IfSome (work_piece kids out s w hand) (IsCoreState root)
  work_kept s w kept None e = tt
  work_kept s w kept (Some p) e =
      let old = worker_state_of s.worker_states w in
      let new : WorkerStateView = record old { hand = None; outbox = kids p } in
      let view = own_view kids out p in
      let wn : w < length s.worker_states = in_range s.worker_states w (λ h. let no : None ≡ Some p = sym (ap (λ (d : WorkerStateView). d.hand) h) ∙ e in absurd (cc)) in
      record {
        free = free-set s.worker_states w new kept.free (λ q h. let no : None ≡ Some q = h in absurd (cc));
        balance = balanced root (s.parcels ++ view ∷ []) (open_pieces (set s.worker_states w new)) (λ q.
            omega (
              arith,
              counts root s.parcels (open_pieces s.worker_states) kept.balance q,
              open_set q s.worker_states w new wn,
              worker_state_count q new,
              worker_state_count q old,
              ap (λ o. times q (option_to_list o)) e,
              times-cons q p [],
              ap (times q) (free-at s.worker_states w kept.free p e),
              ap (times q) (flat_map-append (λ (v : ParcelView S). v.kids) s.parcels (view ∷ [])),
              times-append q (kids_in s.parcels) (kids_in (view ∷ [])),
              times-append q (kids p) [],
              ap (times q) (map-append (λ (v : ParcelView S). v.piece) s.parcels (view ∷ [])),
              times-append q (pieces_of s.parcels) (p ∷ []),
            ));
      }

  with_worker_states_kept : (s : CoreState S) (o : Option (List WorkerStateView)) → IfSome o (IsKept root s.parcels) → IfSome (with_worker_states kids out s o) (IsCoreState root)
  with_worker_states_kept s None h = tt
  with_worker_states_kept s (Some worker_states) h = h

  pub after_kept : (s : CoreState S) (e : Event) → IsCoreState root s → IfSome (after kids out s e) (IsCoreState root)
  after_kept s (Pop w) kept = with_worker_states_kept s (after_take s.worker_states w w) (take_kept root s.parcels s.worker_states kept w w)
  after_kept s (Steal w l) kept = with_worker_states_kept s (after_steal s.worker_states w l) (steal_kept root s.parcels s.worker_states kept w l)
  after_kept s (Work w) kept = work_kept s w kept (worker_state_of s.worker_states w).hand refl
  after_kept s (Push w) kept = with_worker_states_kept s (after_push s.worker_states w) (push_kept root s.parcels s.worker_states kept w)

  or_kept : (s : CoreState S) (o : Option (CoreState S)) → IsCoreState root s → IfSome o (IsCoreState root) → IsCoreState root (unwrap_or o s)
  or_kept s None kept h = kept
  or_kept s (Some t) kept h = h

  -- after every list of events
  pub all_kept : (s : CoreState S) (es : List Event) → IsCoreState root s → IsCoreState root (after_all kids out s es)
  all_kept s [] kept = kept
  all_kept s (e ∷ es) kept = all_kept (unwrap_or (after kids out s e) s) es (or_kept s (after kids out s e) kept (after_kept s e kept))

-- where nothing is open, the balance has no open pieces
pub idle_balance : {S : Type 0} (root : Piece) (s : CoreState S) → IsCoreState root s → IsIdle s.worker_states → IsBalanced root s.parcels []
idle_balance root s kept idle = subst (IsBalanced root s.parcels) (none s.worker_states (Every-All (λ (d : WorkerStateView). d ≡ empty_worker_state) s.worker_states idle)) kept.balance
  where
    none : (worker_states : List WorkerStateView) → Every (λ (d : WorkerStateView). d ≡ empty_worker_state) worker_states → open_pieces worker_states ≡ []
    none [] h = refl
    none (d ∷ worker_states) h = ap (λ x. worker_state_pieces x ++ open_pieces worker_states) (h d (inl refl)) ∙ none worker_states (λ e i. h e (inr i))
