use Rattle.std.proofs.Common.{◌∙◌, sym}
use Rattle.ovl_names.specs.Paths.{text_names}
use Rattle.ovl_names.proofs.EndLemmas.{loses-orders}
use Rattle.ovl_names.proofs.path_names.Names.compare_ends.Goals as goal

pub returns-in-Left-clause-order : goal.returns-in-Left-clause-order
returns-in-Left-clause-order c =
    let lost = c.in-Left.ensures.0 in
    loses-orders c.args.self.now c.args.other.now (text_names c.in-Left.text.now) (text_names c.in-Left.other_text.now)
    (lost.0, sym c.self.view_is ∙ lost.1, sym c.other.view_is ∙ lost.2)
