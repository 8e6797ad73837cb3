use Rattle.std.proofs.Common.{Err, ap}
use Rattle.std.proofs.lemmas.Result.{err_from_is_err_and}
use Rattle.ovl_board.specs.Pieces.{space_root}
use Rattle.ovl_board.specs.Machine.{worker_limit}
use Rattle.ovl_pool.specs.Runs.{MayBeRefused}
use Rattle.ovl_engine.proofs.OutcomeLemmas.{failed, not_beyond}
use Rattle.ovl_engine.proofs.teams.WorkerTeam.walk.Goals as goal

pub returns-in_err-parcels : goal.returns-in_err-parcels
returns-in_err-parcels g c =
    let out = err_from_is_err_and c.from_residual.result c.from_residual.ensures.1 in
    let fault = c.in_err-parcels.field-0.0 in
    rw (out.1, out.2) (failed (MayBeRefused (g.W.Work.kids_of c.args.work.now) (g.G.Gate.may_refuse c.args.self.now.gate.now) (space_root c.args.space)) fault
    (λ e. not_beyond worker_limit c.args.self.now.workers c.requires.0 c.requires.1 (c.in_err-parcels.ensures.workers.0 (ap Err e)))
    (λ e. rw (c.root-root.ensures) at (c.in_err-parcels.ensures.gate (ap Err e)))
    c.in_err-parcels.ensures.board)
