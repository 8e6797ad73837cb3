use Rattle.std.proofs.Common.{arith}
use Rattle.ovl_lookup.specs.Passes.{kids_along}
use Rattle.ovl_rewrite.proofs.DirectoryLemmas.{kids-lawful}
use Rattle.ovl_rewrite.proofs.KeptLemmas.{visited-lawful}
use Rattle.ovl_flatten.specs.Flatten.{flattened_at}
use Rattle.ovl_flatten.specs.Directories.{flatten_kids, flatten_depth}
use Rattle.ovl_flatten.proofs.DirectoryLemmas.{told}
use Rattle.ovl_flatten.proofs.works.FlattenWorkWork.deepest.Goals as goal

pub returns-clause-lawful : goal.returns-clause-lawful
returns-clause-lawful c =
    let stack = c.self.inside.stack.now in
    rw (← c.self.view_is) (visited-lawful (flatten_kids stack) (flatten_depth stack) (kids-lawful (flattened_at stack) (kids_along stack) (flatten_depth stack)
    (told stack c.ordinary.ensures.each) (flatten_depth stack) (omega arith)))
