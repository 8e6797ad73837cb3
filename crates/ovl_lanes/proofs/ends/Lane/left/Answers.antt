use Rattle.std.proofs.Common.{◌∙◌, ap, ◌+◌, length}
use Rattle.ovl_lanes.specs.Lanes.{account_of}
use Rattle.ovl_lanes.proofs.StepLemmas.{learns, lengths, settled}
use Rattle.ovl_lanes.proofs.ends.Lane.left.Goals as goal

pub len_as-requires : goal.len_as-requires
len_as-requires c = learns _ _ c.args.self.now.owns c.requires

pub returns-clause-left : goal.returns-clause-left
returns-clause-left c =
    let r = c.len_as.ensures.rule in
    let a = account_of c.args.self.now in
    (r.0, (r.1, settled a.pushed a.taken r.0 r.2, lengths a.pushed a.taken r.0 r.2 ∙ ap (λ n. length a.taken + n) r.1))
