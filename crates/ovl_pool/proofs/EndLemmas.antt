-- How workers' ends make teams' ends.
use Rattle.std.proofs.Common.{◌≡◌, ℕ, List, [], ◌∷◌, ◌++◌, length, length-append, map, take, drop, Some, Result, Ok, Err, IfOk, IsOkAnd, refl, sym, ap, ◌∙◌, arith}
use Rattle.std.proofs.lemmas.List.{map-append, take-append-drop}
use Rattle.std.proofs.lemmas.List.Elements.{All-append, All-push, All-pop}
use Rattle.ovl_board.specs.declared.pieces.Piece.{Piece}
use Rattle.ovl_pool.specs.declared.worker_outputs.WorkerOutput.{WorkerOutput}
use Rattle.ovl_pool.specs.declared.shares.Shares.{Shares}
use Rattle.ovl_pool.specs.declared.workers.Worker.{Worker}
use Rattle.ovl_pool.specs.declared.workers.RunContext.{RunContext}
use Rattle.ovl_pool.specs.WorkerThreads.{IsWorkerEnd, AreStarting, HaveEnded, AreSharesOfBoth}
use Rattle.ovl_pool.specs.WorkerOutputs.{IsWorkerOutputOfBoth, IsClean, AreInPieceOrder}
use Rattle.ovl_pool.specs.Passes.{HasPasses, post_of}
use Rattle.ovl_pool.proofs.FlowLemmas.{last_tied, last_within, last_foreknown, halves_tied, halves_within, halves_foreknown, counted_both}
use Rattle.ovl_pool.proofs.MergeLemmas.{clean_both, worker_outputs_merged, posts_joined}

module _ {W G R O S K D : Type 0} (seen : O → S) (kids_of : W → Piece → List Piece) (out_of : W → Piece → S) (may_refuse : G → Piece → Type 0) (context : RunContext W G R K D) where
  -- one worker ended, the last of several, of whom the others did nothing
  pub last_ended : (rest : List Worker) (w v : Worker) (shares : Shares K D) (brought : WorkerOutput O) (noted : Shares K D) → AreStarting context.thieves.now (rest ++ w ∷ []) shares → IsWorkerEnd seen kids_of out_of may_refuse context w shares v brought noted
      → (IsClean brought → AreInPieceOrder brought.parcels.items) → HaveEnded seen kids_of out_of may_refuse context (rest ++ w ∷ []) (rest ++ v ∷ []) brought noted
  last_ended rest w v shares brought noted begun ended order = record {
    worker_output = ended.worker_output;
    passes = All-push (HasPasses context.thieves.now) rest v (All-pop (HasPasses context.thieves.now) (rest ++ w ∷ []) rest (Some w) refl begun.passes).0 ended.passes;
    same = map-append post_of rest (v ∷ []) ∙ (ap (λ post. map post_of rest ++ post ∷ []) ended.same ∙ sym (map-append post_of rest (w ∷ [])));
    parts = (ended.parts.0 ∙ begun.parts.0, ended.parts.1 ∙ begun.parts.1);
    within = last_within rest w v brought ended.within;
    foreknown = last_foreknown rest w v noted.known.amount ended.foreknown;
    order = order;
    tied = λ clean. last_tied rest w v brought.parcels.items (ended.tied clean);
    counted = ended.counted;
  }

  -- both halves of a team ended
  pub both_ended : (all first later ended more : List Worker) (a b both : WorkerOutput O) (noted beside every : Shares K D) → all ≡ first ++ later → HaveEnded seen kids_of out_of may_refuse context first ended a noted → HaveEnded seen kids_of out_of may_refuse context later more b beside
      → IsWorkerOutputOfBoth a b both → AreSharesOfBoth noted beside every → HaveEnded seen kids_of out_of may_refuse context all (ended ++ more) both every
  both_ended all first later ended more a b both noted beside every halved left right worker_output shares =
      let clean_each : IsClean both → IsClean a × IsClean b = clean_both a b both worker_output.out_of_memory worker_output.refused in record {
        worker_output = worker_outputs_merged seen (kids_of context.work.now) (out_of context.work.now) (may_refuse context.gate.now) a b both left.worker_output right.worker_output worker_output.parcels worker_output.refused;
        passes = All-append (HasPasses context.thieves.now) ended more left.passes right.passes;
        same = posts_joined all first later ended more halved left.same right.same;
        parts = (
          omega (arith, shares.parts.0, left.parts.0, right.parts.0, ap length halved, length-append first later),
          omega (arith, shares.parts.1, left.parts.1, right.parts.1, ap length halved, length-append first later),
        );
        within = halves_within all first later ended more a b both halved left.within right.within worker_output.parcels worker_output.refused;
        foreknown = halves_foreknown all first later ended more noted.known.amount beside.known.amount every.known.amount halved left.foreknown right.foreknown shares.amounts.0;
        order = λ clean. let each = clean_each clean in worker_output.order (left.order each.0) (right.order each.1);
        tied = λ clean. let each = clean_each clean in halves_tied all first later ended more a.parcels.items b.parcels.items both.parcels.items halved (left.tied each.0) (right.tied each.1) worker_output.parcels;
        counted = λ clean.
            let each = clean_each clean in
            counted_both a.parcels.items b.parcels.items both.parcels.items _ _ _ _ _ _ worker_output.parcels (left.counted each.0) (right.counted each.1) shares.amounts.0 shares.amounts.1;
      }

-- a team's first half and the rest of it
pub parted : (all first later : List Worker) (n : ℕ) → first ≡ take n all → later ≡ drop n all → all ≡ first ++ later
parted all first later n a b = sym (ap (λ l. l ++ later) a ∙ ap (λ l. take n all ++ l) b ∙ take-append-drop n all)

-- what holds at Ok of both of two and of what came of them
pub from_both : {T E : Type 0} (r before after : Result T E) (P Q R : T → Type 0) (S : T → T → T → Type 0) → ((x y z : T) → P x → Q y → S x y z → R z) → IfOk before P → IfOk after Q → IfOk r (λ z. IsOkAnd before (λ x. IsOkAnd after (λ y. S x y z))) → IfOk r R
from_both (Ok z) (Ok x) (Ok y) P Q R S f p q s = f x y z p q s
from_both (Ok z) (Ok x) (Err e) P Q R S f p q s = absurd s
from_both (Ok z) (Err e) after P Q R S f p q s = absurd s
from_both (Err e) before after P Q R S f p q s = tt
