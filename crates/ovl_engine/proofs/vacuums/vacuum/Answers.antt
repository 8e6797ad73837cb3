use Rattle.std.proofs.Common.{◌∙◌, ◌<◌, ℕ, [], ◌∷◌, Ok, refl, ap, subst}
use Rattle.std.proofs.lemmas.Result.{err_from_is_err_and}
use Rattle.ovl_layer.specs.Layers.{Entries}
use Rattle.ovl_commands.specs.declared.requests.Command.TheVariants.{Vacuum}
use Rattle.ovl_engine.specs.Outcomes.{MayRefuseOwn, left_by_vacuum}
use Rattle.ovl_engine.proofs.OutcomeLemmas.{unclean, unwalked}
use Rattle.ovl_engine.proofs.KeptLemmas.{keeps_tree, keeps_soundness, vacuum_same, vacuum_sound}
use Rattle.ovl_engine.proofs.vacuums.vacuum.Goals as goal

pub returns-in_err-expect_clean-clause-outcome : goal.returns-in_err-expect_clean-clause-outcome
returns-in_err-expect_clean-clause-outcome g c =
    let out = err_from_is_err_and c.from_residual.result c.from_residual.ensures.1 in
    let refused = MayRefuseOwn Vacuum c.args.stack (g.G.Gate.may_refuse c.args.team.now.gate.now) in
    rw (out.1, out.2) (unclean refused Vacuum refl c.args.stack c.args.found.items c.in_err-expect_clean.field-0.0 c.in_err-expect_clean.ensures.refused)

pub returns-in_err-done-clause-outcome : goal.returns-in_err-done-clause-outcome
returns-in_err-done-clause-outcome g c =
    let out = err_from_is_err_and c.from_residual-in_err-done.result c.from_residual-in_err-done.ensures.1 in
    let refused = MayRefuseOwn Vacuum c.args.stack (g.G.Gate.may_refuse c.args.team.now.gate.now) in
    rw (out.1, out.2) (unwalked refused Vacuum c.args.stack c.args.found.items c.in_err-done.field-0.0 c.in_err-done.ensures)

pub returns-clause-tree : goal.returns-clause-tree
returns-clause-tree g c =
    let stack = c.args.stack in
    let some = subst (λ (n : ℕ). 0 < n) c.ordinary-layers.ensures.value c.ordinary-layers.ensures.some in
    keeps_tree c.in_ok-rewritten.field-0 (left_by_vacuum stack ∷ []) stack
    (c.in_ok-rewritten.ensures.back ∙ ap (λ (left : Entries). Ok left ∷ []) c.in_ok-done.ensures.0) some
    (vacuum_same stack c.ordinary-layers.ensures.each c.vacuum_keeps_the_tree.ensures some) Vacuum refl

pub returns-clause-sound : goal.returns-clause-sound
returns-clause-sound g c =
    let stack = c.args.stack in
    let some = subst (λ (n : ℕ). 0 < n) c.ordinary-layers.ensures.value c.ordinary-layers.ensures.some in
    keeps_soundness c.in_ok-rewritten.field-0 (left_by_vacuum stack ∷ []) stack
    (c.in_ok-rewritten.ensures.back ∙ ap (λ (left : Entries). Ok left ∷ []) c.in_ok-done.ensures.0) some
    (vacuum_sound stack c.ordinary-layers.ensures.each c.vacuum_keeps_soundness.ensures some (c.requires.sound c.in_ok-expect_clean.ensures.clean)) Vacuum refl
