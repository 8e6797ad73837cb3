use Rattle.std.proofs.lemmas.Result.{err_from_is_err_and}
use Rattle.ovl_engine.proofs.vacuums.vacuumed.Goals as goal

pub returns-in_err-parcels : goal.returns-in_err-parcels
returns-in_err-parcels g c =
    let out = err_from_is_err_and c.from_residual.result c.from_residual.ensures.1 in
    rw (out.1, out.2) (rw (c.new-work.ensures.value) at c.in_err-parcels.ensures)
