-- What a worker's turn does, to its lane, its notes and its output.
use Rattle.std.specs.Prelude.{◌≡◌, ℕ, ◌+◌, ◌≤◌, List, length}
use Rattle.ovl_board.specs.declared.pieces.Piece.{Piece}
use Rattle.ovl_lanes.specs.declared.ends.Lane.{Lane}
use Rattle.ovl_pool.specs.declared.worker_outputs.WorkerOutput.{WorkerOutput}
use Rattle.ovl_pool.specs.declared.tally_handle.TallyHandle.{TallyHandle}
use Rattle.ovl_pool.specs.declared.tally_handle.NextAction.{NextAction}
use Rattle.ovl_pool.specs.declared.tally_handle.NextAction.TheVariants.{End}
use Rattle.ovl_pool.specs.declared.tallies.Finished.{Finished}
use Rattle.ovl_pool.specs.declared.workers.Worker.{Worker}
use Rattle.ovl_pool.specs.declared.workers.RunContext.{RunContext}
use Rattle.ovl_pool.specs.Flows.{IsPushed, PushesKids, IsAdded, KeepsPace, StaysWithin, lane_pushed, pushed, accounted, below, each_one}
use Rattle.ovl_pool.specs.WorkerOutputs.{IsOwnWorkerOutput, IsClean}
use Rattle.ovl_pool.specs.Passes.{HasPasses, ends_of, post_of}

-- the output is the own one of the work, by the gate that is asked there
abbrev pub IsWorkerOutputOf : {W G R O S K D : Type 0} → (O → S) → (W → Piece → List Piece)
    → (W → Piece → S) → (G → Piece → Type 0) → RunContext W G R K D → WorkerOutput O → Type 0
IsWorkerOutputOf seen kids_of out_of may_refuse context worker_output =
    IsOwnWorkerOutput seen (kids_of context.work.now) (out_of context.work.now) (may_refuse context.gate.now) worker_output

-- the notes have the parts of the shares that they had
abbrev pub KeepParts : {R K D : Type 0} → TallyHandle R K D → TallyHandle R K D → Type 0
KeepParts old new =
    (new.shares.known.parts ≡ old.shares.known.parts)
    × (new.shares.delivered.parts ≡ old.shares.delivered.parts)

-- while this output became that one, the kids of new parcels were noted, the new parcels were noted
-- or are to be, and all is noted where the worker ends
pub record AreNoted {R K D O : Type 0} (old new : TallyHandle R K D) (before after : WorkerOutput O)
    (next : NextAction) : Type 0 where
  pub known : new.shares.known.amount + below each_one before.parcels.items
      ≡ old.shares.known.amount + below each_one after.parcels.items
  pub delivered : new.shares.delivered.amount + new.unnoted + length before.parcels.items
      ≡ old.shares.delivered.amount + old.unnoted + length after.parcels.items
  pub settled : (finished : Finished) → next ≡ End finished → new.unnoted ≡ 0

-- a piece was served, or a fault was met: the output is the work's own, it accounts for no other
-- piece, and no kids were pushed but those that were noted and kept in a parcel
pub record IsServed {W G R O S K D : Type 0} (seen : O → S) (kids_of : W → Piece → List Piece)
    (out_of : W → Piece → S) (may_refuse : G → Piece → Type 0) (context : RunContext W G R K D)
    (piece : Piece) (lane behind : Lane) (old new : TallyHandle R K D) (before after : WorkerOutput O)
    : Type 0 where
  pub own : IsWorkerOutputOf seen kids_of out_of may_refuse context after
  pub same : ends_of behind ≡ ends_of lane
  pub within : PushesKids lane behind before.parcels.items after.parcels.items
  pub foreknown : lane_pushed each_one behind + old.shares.known.amount
      ≤ lane_pushed each_one lane + new.shares.known.amount
  pub accounts : (h : Piece → ℕ) → accounted h after ≤ accounted h before + h piece
  pub parts : KeepParts old new

-- a piece with these kids was served and no fault was met: they were pushed, and its parcel was
-- added and noted
pub record IsCleanServed {R O K D : Type 0} (kids : List Piece) (piece : Piece)
    (lane behind : Lane) (old new : TallyHandle R K D) (before after : WorkerOutput O) (next : NextAction)
    : Type 0 where
  pub clean : IsClean before
  pub pushed : IsPushed lane behind kids
  pub added : IsAdded before.parcels.items after.parcels.items piece kids
  pub noted : AreNoted old new before after next

-- a worker's turn: the output is the work's own, the worker took at least what is new in it, and
-- pushed no kids but those that were noted and kept in a parcel
pub record IsWorkerStep {W G R O S K D : Type 0} (seen : O → S) (kids_of : W → Piece → List Piece)
    (out_of : W → Piece → S) (may_refuse : G → Piece → Type 0) (context : RunContext W G R K D)
    (worker behind : Worker) (old new : TallyHandle R K D) (before after : WorkerOutput O) : Type 0 where
  pub own : IsWorkerOutputOf seen kids_of out_of may_refuse context after
  pub passes : HasPasses context.thieves.now behind
  pub same : post_of behind ≡ post_of worker
  pub within : StaysWithin worker behind before after
  pub foreknown : pushed each_one behind + old.shares.known.amount
      ≤ pushed each_one worker + new.shares.known.amount
  pub parts : KeepParts old new

-- a turn that met no fault: the worker took and pushed just what is new in the output, and it was
-- noted
pub record IsCleanWorkerStep {R O K D : Type 0} (worker behind : Worker) (old new : TallyHandle R K D)
    (before after : WorkerOutput O) (next : NextAction) : Type 0 where
  pub clean : IsClean before
  pub tied : KeepsPace worker behind before.parcels.items after.parcels.items
  pub noted : AreNoted old new before after next
