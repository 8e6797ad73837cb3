-- What the numbers of a run say once all lanes are closed: nothing is left, and the parcels are in balance; and to a refused piece
-- kids lead from the root.
use Rattle.std.proofs.Common.{◌≡◌, ℕ, zero, suc, ◌+◌, ◌<◌, ◌≤◌, inl, inr, List, [], ◌∷◌, length, Option, Some, None, is_some, IfSome, Bool, true, false, Result, Ok, Err, IfErr, refl, sym, ap, ◌∙◌, subst, arith, Contains}
use Rattle.ovl_board.specs.declared.pieces.Piece.{Piece}
use Rattle.ovl_board.specs.declared.works.Parcel.{Parcel}
use Rattle.ovl_board.specs.declared.assembly.BoardFault.{BoardFault}
use Rattle.ovl_board.specs.declared.assembly.BoardFault.TheVariants.{Double, Stranger, Missing, Memory}
use Rattle.ovl_board.specs.Pieces.{IsOneBelow, AreLawfulKids}
use Rattle.ovl_board.specs.Walks.{Reached, start, next, ToKid}
use Rattle.ovl_board.specs.Parcels.{ParcelView, parcel_view, parcel_views, own_view, AreOwn, pieces_of}
use Rattle.ovl_board.specs.Balance.{IsBalanced, AllLawful, HasKid, kids_in}
use Rattle.ovl_board.specs.Assembly.{IsBoardFault, bare}
use Rattle.ovl_board.specs.Laws.{BalancedHaveNoFault}
use Rattle.ovl_board.proofs.LawsOfMembers.{In, In-map, In-map-cases, Contains-In, In-Contains, Every-All}
use Rattle.ovl_board.proofs.LawsOfPieces.{length_below}
use Rattle.ovl_board.proofs.LawsOfCounts.{mark_cases, mark_itself, In-times, times-In, parcel_of_kid}
use Rattle.ovl_board.proofs.LawsOfWalks.{reached_by}
use Rattle.ovl_pool.specs.declared.worker_outputs.WorkerOutput.{WorkerOutput}
use Rattle.ovl_pool.specs.declared.workers.Worker.{Worker}
use Rattle.ovl_pool.specs.declared.runs.RunCount.{RunCount}
use Rattle.ovl_pool.specs.declared.runs.RunFault.{RunFault}
use Rattle.ovl_pool.specs.declared.runs.RunFault.TheVariants.{Gate}
use Rattle.ovl_pool.specs.Flows.{all_pushed, all_taken, each_one, indicator, refused_weight, accounted, below, AreCounted, AreSettled, AreTied, AreWithin, HaveRoot, HaveGone, CountsParcels}
use Rattle.ovl_pool.specs.WorkerOutputs.{IsOwnWorkerOutput}
use Rattle.ovl_pool.specs.Runs.{MayBeRefused, IsBoardMemory, IsRunFault}
use Rattle.ovl_pool.proofs.FlowLemmas.{length_delivered, delivered_pieces, below_kids}

-- what the workers did from the start on
pub gone_from : {O : Type 0} (root : Piece) (first ended : List Worker) (parcels : List (Parcel O)) → HaveRoot root first → AreTied first ended parcels → HaveGone root ended parcels
gone_from root first ended parcels begun tied h =
    let b = begun h in
    let t = tied h in (omega (arith, b.0, t.0), omega (arith, b.1, t.1))

-- the numbers of a run are those of its parcels
pub numbers : {O : Type 0} (root : Piece) (ended : List Worker) (parcels : List (Parcel O)) (known noted : ℕ) (count : RunCount) → HaveGone root ended parcels → AreCounted known noted parcels
    → count.known ≡ known + 1 → count.delivered ≡ noted → count.taken ≡ all_taken each_one ended → all_pushed each_one ended ≡ count.taken + count.left → CountsParcels parcels count
numbers root ended parcels known noted count gone counted knew delivered_so took whole =
    let g = gone each_one in (
      omega (arith, counted.0, knew),
      omega (arith, counted.1, delivered_so),
      omega (arith, g.0, took, length_delivered parcels),
      omega (arith, g.1, counted.0, knew, whole),
    )

-- a run whose fault is the gate's was refused a piece
pub was_refused : {T : Type 0} (r : Result T RunFault) (refused : Option Piece) (out_of_memory : Bool) (count : RunCount) → IfErr r (IsRunFault refused out_of_memory count) → r ≡ Err Gate → is_some refused ≡ true
was_refused (Ok x) refused out_of_memory count want e = absurd (cc)
was_refused (Err f) refused out_of_memory count want e = let is : f ≡ Gate = cc in want.gate.0 is

-- a fault of the board is out of memory
pub board_memory : {T : Type 0} (r : Result T RunFault) (refused : Option Piece) (out_of_memory : Bool) (count : RunCount) → IfErr r (IsRunFault refused out_of_memory count) → IfErr r IsBoardMemory
board_memory (Ok x) refused out_of_memory count want = tt
board_memory (Err f) refused out_of_memory count want = by (is_some refused) refl out_of_memory refl
  where
    by : (some : Bool) → is_some refused ≡ some → (hungry : Bool) → out_of_memory ≡ hungry → IsBoardMemory f
    by true e hungry h = subst IsBoardMemory (sym (want.gate.1 e)) tt
    by false e true h = subst IsBoardMemory (sym (want.memory e h)) tt
    by false e false h = elim (want.end e h) [
      | inl early ↦ subst IsBoardMemory (sym early.0) tt
      | inr board ↦ subst IsBoardMemory (sym board.0) refl
    ]

none_of : (left : List Piece) → length left ≡ 0 → left ≡ []
none_of [] e = refl
none_of (p ∷ ps) e = absurd (omega arith)

-- where all that is known was delivered the parcels are in balance with nothing
pub balanced : {O : Type 0} (root : Piece) (parcels : List (Parcel O)) (count : RunCount) (left : List Piece) → CountsParcels parcels count → count.known ≡ count.delivered → length left ≡ count.left → IsBalanced root (bare parcels) left
    → IsBalanced root (bare parcels) []
balanced root parcels count left counted same as_many balance = subst (IsBalanced root (bare parcels)) (none_of left (omega (arith, counted.1, counted.2, counted.3, as_many))) balance

-- so of all faults of the board only out of memory is left
pub only_memory : (root : Piece) (views : List (ParcelView (Unit {0}))) → BalancedHaveNoFault → AllLawful views → IsBalanced root views [] → (fault : BoardFault) → IsBoardFault root views fault → fault ≡ Memory
only_memory root views law lawful balance (Double p) is = absurd ((law root views lawful balance).0 p is.0)
only_memory root views law lawful balance (Stranger p) is = absurd ((law root views lawful balance).1 p is.1.0)
only_memory root views law lawful balance (Missing p) is = absurd ((law root views lawful balance).2 p is.2.0)
only_memory root views law lawful balance Memory is = refl

-- each piece that an output accounts for is the root or a kid of a parcel, since it was taken from a lane
module _ {O : Type 0} (root : Piece) (worker_output : WorkerOutput O) (lawful : AllLawful (bare worker_output.parcels.items))
    (comes : (p : Piece) → accounted (indicator p) worker_output ≤ indicator p root + below (indicator p) worker_output.parcels.items) where
  abbrev pub views : List (ParcelView (Unit {0}))
  views = bare worker_output.parcels.items

  led : (n : ℕ) (p : Piece) → length p.dir < n → 1 ≤ accounted (indicator p) worker_output → Reached (HasKid views) root p
  led zero p short some = absurd (omega arith)
  led (suc n) p short some = elim (mark_cases p root) [
    | inl m ↦ subst (Reached (HasKid views) root) (sym m.1) start
    | inr m ↦
        let c = parcel_of_kid views p (times-In p (kids_in views) (omega (arith, comes p, m, below_kids (indicator p) worker_output.parcels.items))) in
        let law = Every-All (λ (v : ParcelView (Unit {0})). AreLawfulKids v.piece v.kids) views lawful c.0 c.1.0 in
        let longer = length_below c.0.piece p (Every-All (IsOneBelow c.0.piece) c.0.kids law.below p c.1.1) in
        let there = In-times c.0.piece (pieces_of views) (In-map (λ (v : ParcelView (Unit {0})). v.piece) c.0 views c.1.0) in
        next (led n c.0.piece (omega arith) (omega (arith, there, delivered_pieces (indicator c.0.piece) worker_output.parcels.items)))
        (c.0, (Contains-In c.0 views c.1.0, (refl, Contains-In p c.0.kids c.1.1)))
  ]

  pub refused_led : (p : Piece) → worker_output.refused ≡ Some p → Reached (HasKid views) root p
  refused_led p refused = led (suc (length p.dir)) p (omega arith) (omega (arith, ap (refused_weight (indicator p)) refused, mark_itself p p refl))

-- what was taken from the lanes was pushed to them
pub comes_from : {O : Type 0} (root : Piece) (first ended : List Worker) (worker_output : WorkerOutput O) (left : List Piece) → HaveRoot root first → AreWithin first ended worker_output → AreSettled ended left
    → (p : Piece) → accounted (indicator p) worker_output ≤ indicator p root + below (indicator p) worker_output.parcels.items
comes_from root first ended worker_output left begun within settled p =
    let b = begun (indicator p) in
    let w = within (indicator p) in omega (arith, b.0, b.1, w.0, w.1, settled p)

-- what the parcels' kids lead to, the work's kids lead to, where the parcels are the work's own
module _ {O S : Type 0} (seen : O → S) (kids : Piece → List Piece) (out : Piece → S) where
  own_kids : (parcels : List (Parcel O)) → AreOwn kids out (parcel_views seen parcels) → (c : Parcel O) → In c parcels → c.kids.items ≡ kids c.piece
  own_kids [] own c h = absurd h
  own_kids (d ∷ parcels) own c (inl e) =
      let head : parcel_view seen d ≡ own_view kids out d.piece = cc in
      subst (λ (x : Parcel O). x.kids.items ≡ kids x.piece) (sym e) (ap (λ (v : ParcelView S). v.kids) head)
  own_kids (d ∷ parcels) own c (inr h) = let tail : AreOwn kids out (parcel_views seen parcels) = cc in own_kids parcels tail c h

  own_step : (parcels : List (Parcel O)) → AreOwn kids out (parcel_views seen parcels) → (p q : Piece) → HasKid (bare parcels) p q → ToKid kids p q
  own_step parcels own p q h =
      let none = parcel_view (λ (o : O). tt {0}) in
      let m = In-map-cases none h.0 parcels (In-Contains h.0 (bare parcels) h.1.0) in
      let c = m.0 in
      let at : c.piece ≡ p = sym (ap (λ (v : ParcelView (Unit {0})). v.piece) m.1.1) ∙ h.1.1.0 in
      let ks : h.0.kids ≡ kids p = ap (λ (v : ParcelView (Unit {0})). v.kids) m.1.1 ∙ (own_kids parcels own c m.1.0 ∙ ap kids at) in
      subst (λ l. Contains l q) ks h.1.1.1

  pub own_reached : (parcels : List (Parcel O)) → AreOwn kids out (parcel_views seen parcels) → (root p : Piece) → Reached (HasKid (bare parcels)) root p → Reached (ToKid kids) root p
  own_reached parcels own root p r = reached_by (HasKid (bare parcels)) (ToKid kids) (own_step parcels own) root p r

  -- so a refused piece is one that the work's kids lead to
  pub refused_reached : (may_refuse : Piece → Type 0) (root : Piece) (first ended : List Worker) (worker_output : WorkerOutput O) (left : List Piece) → IsOwnWorkerOutput seen kids out may_refuse worker_output → AllLawful (bare worker_output.parcels.items)
      → HaveRoot root first → AreWithin first ended worker_output → AreSettled ended left → is_some worker_output.refused ≡ true → MayBeRefused kids may_refuse root
  refused_reached may_refuse root first ended worker_output left own lawful begun within settled refused = by worker_output.refused refl refused
    where
      by : (o : Option Piece) → worker_output.refused ≡ o → is_some o ≡ true → MayBeRefused kids may_refuse root
      by None e some_one = absurd (cc)
      by (Some p) e some_one = (
        p,
        (
          own_reached worker_output.parcels.items own.0 root p (refused_led root worker_output lawful (comes_from root first ended worker_output left begun within settled) p e),
          subst (λ r. IfSome r may_refuse) e own.1,
        ),
      )
