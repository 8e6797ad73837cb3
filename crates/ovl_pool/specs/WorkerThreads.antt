-- How the work of workers begins, and what its end is.
use Rattle.std.specs.Prelude.{◌≡◌, ◌<◌, ◌≤◌, ◌+◌, List, All, length, map}
use Rattle.ovl_board.specs.declared.pieces.Piece.{Piece}
use Rattle.ovl_lanes.specs.declared.ends.Thief.{Thief}
use Rattle.ovl_pool.specs.declared.worker_outputs.WorkerOutput.{WorkerOutput}
use Rattle.ovl_pool.specs.declared.shares.Shares.{Shares}
use Rattle.ovl_pool.specs.declared.workers.Worker.{Worker}
use Rattle.ovl_pool.specs.declared.workers.RunContext.{RunContext}
use Rattle.ovl_pool.specs.Flows.{IsTied, IsWithin, AreTied, AreWithin, AreCounted, pushed, all_pushed, each_one}
use Rattle.ovl_pool.specs.WorkerOutputs.{IsClean, AreInPieceOrder}
use Rattle.ovl_pool.specs.Passes.{HasPasses, post_of}
use Rattle.ovl_pool.specs.WorkerSteps.{IsWorkerOutputOf}

-- a worker may begin: each of its passes is one of the lane that it names, and its shares have
-- parts and count nothing yet
pub record IsWorkerStart {K D : Type 0} (thieves : List Thief) (worker : Worker)
    (shares : Shares K D) : Type 0 where
  pub passes : HasPasses thieves worker
  pub parts : (0 < shares.known.parts) × (0 < shares.delivered.parts)
  pub fresh : (shares.known.amount ≡ 0) × (shares.delivered.amount ≡ 0)

-- a worker's end: its output is the work's own, it took at least what that accounts for, and pushed
-- only kids in it that were noted; where the output is clean it took, pushed and noted just that
pub record IsWorkerEnd {W G R O S K D : Type 0} (seen : O → S) (kids_of : W → Piece → List Piece)
    (out_of : W → Piece → S) (may_refuse : G → Piece → Type 0) (context : RunContext W G R K D)
    (worker : Worker) (shares : Shares K D) (ended : Worker) (brought : WorkerOutput O)
    (noted : Shares K D) : Type 0 where
  pub worker_output : IsWorkerOutputOf seen kids_of out_of may_refuse context brought
  pub passes : HasPasses context.thieves.now ended
  pub same : post_of ended ≡ post_of worker
  pub parts : (noted.known.parts ≡ shares.known.parts)
      × (noted.delivered.parts ≡ shares.delivered.parts)
  pub within : IsWithin worker ended brought
  pub foreknown : pushed each_one ended ≤ pushed each_one worker + noted.known.amount
  pub tied : IsClean brought → IsTied worker ended brought.parcels.items
  pub counted : IsClean brought
      → AreCounted noted.known.amount noted.delivered.amount brought.parcels.items

-- a team may begin: so are the passes of its workers, and its shares have a part for each of them
-- and count nothing yet
pub record AreStarting {K D : Type 0} (thieves : List Thief) (workers : List Worker)
    (shares : Shares K D) : Type 0 where
  pub passes : All (HasPasses thieves) workers
  pub parts : (shares.known.parts ≡ length workers) × (shares.delivered.parts ≡ length workers)
  pub fresh : (shares.known.amount ≡ 0) × (shares.delivered.amount ≡ 0)

-- the same of a team whose workers all ended, and whose output is in order where it is clean
pub record HaveEnded {W G R O S K D : Type 0} (seen : O → S) (kids_of : W → Piece → List Piece)
    (out_of : W → Piece → S) (may_refuse : G → Piece → Type 0) (context : RunContext W G R K D)
    (workers ended : List Worker) (brought : WorkerOutput O) (noted : Shares K D) : Type 0 where
  pub worker_output : IsWorkerOutputOf seen kids_of out_of may_refuse context brought
  pub passes : All (HasPasses context.thieves.now) ended
  pub same : map post_of ended ≡ map post_of workers
  pub parts : (noted.known.parts ≡ length workers) × (noted.delivered.parts ≡ length workers)
  pub within : AreWithin workers ended brought
  pub foreknown : all_pushed each_one ended ≤ all_pushed each_one workers + noted.known.amount
  pub order : IsClean brought → AreInPieceOrder brought.parcels.items
  pub tied : IsClean brought → AreTied workers ended brought.parcels.items
  pub counted : IsClean brought
      → AreCounted noted.known.amount noted.delivered.amount brought.parcels.items

-- both shares in one
pub record AreSharesOfBoth {K D : Type 0} (first second both : Shares K D) : Type 0 where
  pub parts : (both.known.parts ≡ first.known.parts + second.known.parts)
      × (both.delivered.parts ≡ first.delivered.parts + second.delivered.parts)
  pub amounts : (both.known.amount ≡ first.known.amount + second.known.amount)
      × (both.delivered.amount ≡ first.delivered.amount + second.delivered.amount)
