use Rattle.std.proofs.Common.{sym, ◌∙◌}
use Rattle.std.specs.Cmp.Lexicographic.{bytes_decides, pointwise_decides}
use Rattle.ovl_engine.proofs.fsck_reports.Above.go_to.Goals as goal

pub returns-then-eq : goal.returns-then-eq
returns-then-eq c = sym c.self.view_is ∙ (pointwise_decides bytes_decides c.self.inside.directory c.args.directory).0 (sym c.if-eq.ensures)
