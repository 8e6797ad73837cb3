-- What a worker's turn does, and its turns one after another.
use Rattle.std.proofs.Common.{◌≡◌, ℕ, ◌+◌, ◌≤◌, List, [], ◌∷◌, ◌++◌, length, length-append, IfSome, sym, ap, ◌∙◌, subst, arith}
use Rattle.std.specs.List.{sum_by}
use Rattle.ovl_board.specs.declared.pieces.Piece.{Piece}
use Rattle.ovl_board.specs.declared.works.Parcel.{Parcel}
use Rattle.ovl_board.specs.Parcels.{AreOwn, own_view, parcel_view, parcel_views}
use Rattle.ovl_lanes.specs.declared.ends.Lane.{Lane}
use Rattle.ovl_pool.specs.declared.worker_outputs.WorkerOutput.{WorkerOutput}
use Rattle.ovl_pool.specs.declared.tally_handle.TallyHandle.{TallyHandle}
use Rattle.ovl_pool.specs.declared.tally_handle.NextAction.{NextAction}
use Rattle.ovl_pool.specs.declared.tally_handle.NextAction.TheVariants.{End}
use Rattle.ovl_pool.specs.declared.shares.Shares.{Shares}
use Rattle.ovl_pool.specs.declared.tallies.Finished.{Finished}
use Rattle.ovl_pool.specs.declared.workers.Worker.{Worker}
use Rattle.ovl_pool.specs.declared.workers.RunContext.{RunContext}
use Rattle.ovl_pool.specs.WorkerThreads.{IsWorkerEnd}
use Rattle.ovl_pool.specs.Flows.{IsPushed, IsPushedOf, IsTied, IsWithin, pushed, delivered, below, refused_weight, each_one}
use Rattle.ovl_pool.specs.WorkerOutputs.{IsClean}
use Rattle.ovl_pool.specs.Passes.{HasPasses, ends_of, post_of}
use Rattle.ovl_pool.specs.WorkerSteps.{IsWorkerOutputOf, KeepParts, IsServed, IsCleanServed, IsWorkerStep, IsCleanWorkerStep}
use Rattle.ovl_pool.proofs.FlowLemmas.{added_one, below_push, noted_before}

-- a piece is served: its parcel is added, and its kids are noted and pushed
own_more : {O S : Type 0} (seen : O → S) (kids : Piece → List Piece) (out : Piece → S) (xs : List (Parcel O)) (c : Parcel O) → AreOwn kids out (parcel_views seen xs) → parcel_view seen c ≡ own_view kids out c.piece → AreOwn kids out (parcel_views seen (xs ++ c ∷ []))
own_more seen kids out [] c own one = ap (λ v. v ∷ []) one
own_more seen kids out (x ∷ xs) c own one =
    let head : parcel_view seen x ≡ own_view kids out x.piece = cc in
    let tail : AreOwn kids out (parcel_views seen xs) = cc in
    ap (λ v. v ∷ parcel_views seen (xs ++ c ∷ [])) head ∙ ap (λ vs. own_view kids out x.piece ∷ vs) (own_more seen kids out xs c tail one)

pub served_one : {W G R O S K D : Type 0} (seen : O → S) (kids_of : W → Piece → List Piece) (out_of : W → Piece → S) (may_refuse : G → Piece → Type 0) (context : RunContext W G R K D) (lane behind : Lane) (old new : TallyHandle R K D) (before after : WorkerOutput O) (c : Parcel O)
    (pieces : List Piece) (count : ℕ) → after.parcels.items ≡ before.parcels.items ++ c ∷ [] → after.refused ≡ before.refused → IsWorkerOutputOf seen kids_of out_of may_refuse context before → c.kids.items ≡ kids_of context.work.now c.piece → seen c.out ≡ out_of context.work.now c.piece
    → pieces ≡ c.kids.items → count ≡ length c.kids.items → ends_of behind ≡ ends_of lane → IsPushedOf lane behind pieces → new.shares.known.amount ≡ old.shares.known.amount + count → KeepParts old new
    → IsServed seen kids_of out_of may_refuse context c.piece lane behind old new before after
served_one seen kids_of out_of may_refuse context lane behind old new before after c pieces count items refused own kids out copied many same push noted parts =
    let one : parcel_view seen c ≡ own_view (kids_of context.work.now) (out_of context.work.now) c.piece = λ j. record { piece = c.piece; kids = kids j; seen = out j } in record {
      own = (
        subst (λ ps. AreOwn (kids_of context.work.now) (out_of context.work.now) (parcel_views seen ps)) (sym items) (own_more seen (kids_of context.work.now) (out_of context.work.now) before.parcels.items c own.0 one),
        subst (λ o. IfSome o (may_refuse context.gate.now)) (sym refused) own.1,
      );
      same = same;
      within = λ h. let p = push h in (omega (arith, p.0, ap (below h) items, (added_one before.parcels.items c h).1, ap (sum_by h) copied), p.1);
      foreknown = noted_before lane behind pieces c.kids.items count _ _ push copied many noted;
      accounts = λ h. omega (arith, ap (delivered h) items, (added_one before.parcels.items c h).0, ap (refused_weight h) refused);
      parts = parts;
    }

pub served_clean : {R O K D : Type 0} (lane behind : Lane) (old new : TallyHandle R K D) (before after : WorkerOutput O) (c : Parcel O) (pieces kids : List Piece) (count : ℕ) (next : NextAction) → after.parcels.items ≡ before.parcels.items ++ c ∷ [] → IsClean before → c.kids.items ≡ kids
    → pieces ≡ c.kids.items → count ≡ length c.kids.items → IsPushed lane behind pieces → new.shares.known.amount ≡ old.shares.known.amount + count
    → new.shares.delivered.amount + new.unnoted ≡ old.shares.delivered.amount + old.unnoted + 1 → ((finished : Finished) → next ≡ End finished → new.unnoted ≡ 0) → IsCleanServed kids c.piece lane behind old new before after next
served_clean lane behind old new before after c pieces kids count next items clean own copied many push noted delivered_one settled = record {
  clean = clean;
  pushed = subst (IsPushed lane behind) (copied ∙ own) push;
  added = λ h. let one = added_one before.parcels.items c h in (omega (arith, ap (delivered h) items, one.0), omega (arith, ap (below h) items, one.1, ap (sum_by h) own));
  noted = record {
    known = omega (arith, noted, many, below_push before.parcels.items after.parcels.items c items);
    delivered = omega (arith, delivered_one, ap length items, length-append before.parcels.items (c ∷ []));
    settled = settled;
  };
}

-- what holds of a worker before each of its turns, of all that it did so far
pub record IsAtWork {W G R O S K D : Type 0} (seen : O → S) (kids_of : W → Piece → List Piece) (out_of : W → Piece → S) (may_refuse : G → Piece → Type 0) (context : RunContext W G R K D) (worker : Worker) (shares : Shares K D) (now : Worker) (tally_handle : TallyHandle R K D)
    (worker_output : WorkerOutput O) : Type 0 where
  pub own : IsWorkerOutputOf seen kids_of out_of may_refuse context worker_output
  pub passes : HasPasses context.thieves.now now
  pub same : post_of now ≡ post_of worker
  pub parts : (tally_handle.shares.known.parts ≡ shares.known.parts) × (tally_handle.shares.delivered.parts ≡ shares.delivered.parts)
  pub within : IsWithin worker now worker_output
  pub foreknown : pushed each_one now ≤ pushed each_one worker + tally_handle.shares.known.amount
  pub tied : IsClean worker_output → IsTied worker now worker_output.parcels.items
  pub known : IsClean worker_output → tally_handle.shares.known.amount ≡ below each_one worker_output.parcels.items
  pub noted : IsClean worker_output → tally_handle.shares.delivered.amount + tally_handle.unnoted ≡ length worker_output.parcels.items

module _ {W G R O S K D : Type 0} (seen : O → S) (kids_of : W → Piece → List Piece) (out_of : W → Piece → S) (may_refuse : G → Piece → Type 0) (context : RunContext W G R K D) (worker : Worker) (shares : Shares K D) where
  pub after_turn : (w v : Worker) (n m : TallyHandle R K D) (a b : WorkerOutput O) (next : NextAction) → IsAtWork seen kids_of out_of may_refuse context worker shares w n a → IsWorkerStep seen kids_of out_of may_refuse context w v n m a b → (IsClean b → IsCleanWorkerStep w v n m a b next)
      → IsAtWork seen kids_of out_of may_refuse context worker shares v m b
  after_turn w v n m a b next held turned clean = record {
    own = turned.own;
    passes = turned.passes;
    same = turned.same ∙ held.same;
    parts = (turned.parts.0 ∙ held.parts.0, turned.parts.1 ∙ held.parts.1);
    within = λ h. let before = held.within h in let step = turned.within h in (omega (arith, before.0, step.0), omega (arith, before.1, step.1));
    foreknown = omega (arith, held.foreknown, turned.foreknown);
    tied = λ c h. let step = (clean c).tied h in let before = held.tied (clean c).clean h in (omega (arith, before.0, step.0), omega (arith, before.1, step.1));
    known = λ c. let step = clean c in omega (arith, step.noted.known, held.known step.clean);
    noted = λ c. let step = clean c in omega (arith, step.noted.delivered, held.noted step.clean);
  }

  -- a worker whose notes are settled where its output is clean
  pub at_end : (w : Worker) (n : TallyHandle R K D) (a : WorkerOutput O) (noted : Shares K D) → IsAtWork seen kids_of out_of may_refuse context worker shares w n a → (IsClean a → n.unnoted ≡ 0) → noted ≡ n.shares → IsWorkerEnd seen kids_of out_of may_refuse context worker shares w a noted
  at_end w n a noted held settled is =
      let end : IsWorkerEnd seen kids_of out_of may_refuse context worker shares w a n.shares = record {
        worker_output = held.own;
        passes = held.passes;
        same = held.same;
        parts = held.parts;
        within = held.within;
        foreknown = held.foreknown;
        tied = held.tied;
        counted = λ c. (held.known c, omega (arith, held.noted c, settled c));
      } in subst (λ s. IsWorkerEnd seen kids_of out_of may_refuse context worker shares w a s) (sym is) end
