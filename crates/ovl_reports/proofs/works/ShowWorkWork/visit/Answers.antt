use Rattle.std.proofs.Common.{◌∙◌, ap}
use Rattle.ovl_lookup.specs.Stacks.{StackView}
use Rattle.ovl_reports.specs.Directories.{looks_in, directories_in}
use Rattle.ovl_reports.proofs.works.ShowWorkWork.visit.Goals as goal

pub returns-clause-out : goal.returns-clause-out
returns-clause-out c = c.in_ok-looks.ensures ∙ ap (λ (s : StackView). looks_in s c.args.piece.now.dir) c.self.view_is

pub returns-clause-kids : goal.returns-clause-kids
returns-clause-kids c =
    c.in_ok-kids.ensures
    ∙ ap (directories_in c.args.piece.now)
    (c.deref.ensures.value ∙ (c.in_ok-looks.ensures ∙ ap (λ (s : StackView). looks_in s c.args.piece.now.dir) c.self.view_is))
