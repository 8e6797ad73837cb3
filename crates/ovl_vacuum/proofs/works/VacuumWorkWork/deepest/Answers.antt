use Rattle.std.proofs.Common.{ℕ, ◌<◌, subst}
use Rattle.ovl_layer.specs.Layers.{is_directory_at}
use Rattle.ovl_lookup.specs.Words.{top_layer}
use Rattle.ovl_vacuum.proofs.DirectoryLemmas.{kids-lawful}
use Rattle.ovl_lookup.proofs.LawsOfLooks.{top-layer}
use Rattle.ovl_vacuum.proofs.works.VacuumWorkWork.deepest.Goals as goal

pub returns-clause-lawful : goal.returns-clause-lawful
returns-clause-lawful c =
    rw (← c.self.view_is) (kids-lawful (top_layer c.self.inside.stack.now) (is_directory_at (top_layer c.self.inside.stack.now)) (top-layer c.self.inside.stack.now (subst (λ (n : ℕ). 0 < n) c.ordinary-layers.ensures.value c.ordinary-layers.ensures.some) c.ordinary-layers.ensures.each))
