use Rattle.std.proofs.Common.{ℕ, ◌<◌, subst, arith}
use Rattle.ovl_rewrite.proofs.DirectoryLemmas.{kids-lawful}
use Rattle.ovl_rewrite.proofs.KeptLemmas.{visited-lawful}
use Rattle.ovl_deref.specs.Directories.{new_at, names_in, deref_kids, deref_depth}
use Rattle.ovl_deref.proofs.DirectoryLemmas.{told}
use Rattle.ovl_deref.proofs.works.DerefWorkWork.deepest.Goals as goal

pub returns-clause-lawful : goal.returns-clause-lawful
returns-clause-lawful c =
    let stack = c.self.inside.stack.now in
    rw (← c.self.view_is) (visited-lawful (deref_kids stack) (deref_depth stack) (kids-lawful (new_at stack) (names_in stack) (deref_depth stack)
    (told stack c.ordinary.ensures.each (subst (λ (n : ℕ). 0 < n) c.ordinary.ensures.value c.ordinary.ensures.some)) (deref_depth stack) (omega arith)))
