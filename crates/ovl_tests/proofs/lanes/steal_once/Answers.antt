use Rattle.std.proofs.Common.{rules, sym, ◌∙◌, subst}
use Rattle.ovl_lanes.specs.Lanes.{IsPass}
use Rattle.ovl_tests.proofs.lanes.steal_once.Goals as goal

pub steal-piece-requires : goal.steal-piece-requires
steal-piece-requires c =
    let split = c.split_pass-pass.ensures in
    subst (λ id. IsPass id c.split_pass-pass.result) (split.same ∙ sym c.requires) split.pass.0

pub join_pass-requires : goal.join_pass-requires
join_pass-requires c =
    let split = c.split_pass-pass.ensures in
    subst (λ id. IsPass id c.steal-piece.new.pass) (c.requires ∙ sym split.same) c.steal-piece.ensures.same
