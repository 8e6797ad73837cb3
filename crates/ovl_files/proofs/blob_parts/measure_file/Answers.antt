use Rattle.std.proofs.Common.{Some, ap}
use Rattle.ovl_files.proofs.blob_parts.measure_file.Goals as goal

pub returns : goal.returns
returns g c = (Some c.in_ok-measure.ensures.taken.0, ap Some c.in_ok-measure.ensures.taken.1.1)
