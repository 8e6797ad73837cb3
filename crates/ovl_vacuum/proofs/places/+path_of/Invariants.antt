use Rattle.std.proofs.Common.{length}
use Rattle.ovl_layer.specs.Sheets.{path_at}
use Rattle.ovl_vacuum.proofs.places.+path_of.Given as goal

abbrev pub decreases-path_of : goal.decreases-path_of
decreases-path_of l = length (path_at l.sheet.now l.number)
