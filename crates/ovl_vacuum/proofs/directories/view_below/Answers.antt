use Rattle.std.proofs.Common.{◌||◌, not, unwrap_or, ap}
use Rattle.ovl_lookup.specs.Merged.{shows_directory}
use Rattle.ovl_lookup.specs.Words.{lower_layers}
use Rattle.ovl_vacuum.proofs.directories.view_below.Goals as goal

pub returns-then-closed : goal.returns-then-closed
returns-then-closed c =
    ap (λ b. b || not (shows_directory (lower_layers c.args.stack.now) (unwrap_or c.args.turned c.args.path.now))) c.if-closed.true
