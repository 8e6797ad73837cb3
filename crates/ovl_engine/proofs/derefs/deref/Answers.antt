use Rattle.std.proofs.Common.{◌<◌, ℕ, Err, [], ◌∷◌, refl, ap, subst}
use Rattle.std.proofs.lemmas.Result.{err_from_is_err_and}
use Rattle.ovl_lookup.specs.Stacks.{StackView}
use Rattle.ovl_lookup.specs.Sound.{IsSoundStack}
use Rattle.ovl_rewrite.specs.Ends.{IsEndOf}
use Rattle.ovl_rewrite.specs.Limits.{IsLayerWithinLimits}
use Rattle.ovl_deref.specs.Directories.{deref_kids, new_at}
use Rattle.ovl_commands.specs.declared.requests.Command.TheVariants.{Deref}
use Rattle.ovl_engine.specs.Outcomes.{MayRefuseOwn}
use Rattle.ovl_engine.proofs.OutcomeLemmas.{new-unwalked, unclean, unfinished}
use Rattle.ovl_engine.proofs.KeptLemmas.{keeps_tree, keeps_soundness, deref_same, deref_sound}
use Rattle.ovl_engine.proofs.derefs.deref.Goals as goal

pub returns-in_err-expect_clean-clause-outcome : goal.returns-in_err-expect_clean-clause-outcome
returns-in_err-expect_clean-clause-outcome g c =
    let out = err_from_is_err_and c.from_residual.result c.from_residual.ensures.1 in
    let refused = MayRefuseOwn Deref c.args.stack (g.G.Gate.may_refuse c.args.team.now.gate.now) in
    rw (out.1, out.2) (unclean refused Deref refl c.args.stack c.args.found.items c.in_err-expect_clean.field-0.0 c.in_err-expect_clean.ensures.refused)

pub returns-in_err-end-clause-outcome : goal.returns-in_err-end-clause-outcome
returns-in_err-end-clause-outcome g c =
    let out = err_from_is_err_and c.from_residual-in_err-end.result c.from_residual-in_err-end.ensures.1 in
    rw (out.1, out.2) (new-unwalked (deref_kids c.args.stack) (g.G.Gate.may_refuse c.args.team.now.gate.now) Deref c.args.stack c.args.found.items c.in_err-end.field-0.0
    (rw (c.new-work.ensures.value) at c.in_err-end.ensures.fault))

pub returns-in_err-layer-clause-outcome : goal.returns-in_err-layer-clause-outcome
returns-in_err-layer-clause-outcome g c =
    let out = err_from_is_err_and c.from_residual-in_err-layer.result c.from_residual-in_err-layer.ensures.1 in
    let stack = c.args.stack in
    let clean = c.in_ok-expect_clean.ensures.clean in
    let told = subst (λ (s : StackView). IsEndOf (new_at s) c.in_ok-end.end) c.new-work.ensures.value c.in_ok-end.ensures.told in
    let made = subst (λ (s : StackView). IsSoundStack s → IsLayerWithinLimits (new_at s)) c.new-work.ensures.value c.in_ok-end.ensures.made in
    rw (out.1, out.2) (unfinished (MayRefuseOwn Deref stack (g.G.Gate.may_refuse c.args.team.now.gate.now)) Deref stack c.args.found.items c.in_err-layer.field-0.0 c.in_err-layer.ensures.fault (λ limit. (
      clean,
      c.in_err-layer.ensures.limit (ap Err limit) (new_at stack) told (made (c.requires.sound clean)),
    )))

pub returns-clause-outcome : goal.returns-clause-outcome
returns-clause-outcome g c =
    let told = subst (λ (s : StackView). IsEndOf (new_at s) c.in_ok-end.end) c.new-work.ensures.value c.in_ok-end.ensures.told in
    let written = c.in_ok-answer_telling.ensures.answer in (
      c.in_ok-expect_clean.ensures.clean,
      record {
        new = c.in_ok-layer.layer;
        is_layer = c.in_ok-answer_telling.ensures.layer;
        dereferenced = c.in_ok-layer.ensures.layer (new_at c.args.stack) told;
        within = c.in_ok-layer.ensures.kept (new_at c.args.stack) told;
        rewritten = record { told = c.in_ok-answer_telling.ensures.report; written = written.written; clean = written.clean };
      },
    )

pub returns-clause-tree : goal.returns-clause-tree
returns-clause-tree g c =
    let stack = c.args.stack in
    let some = subst (λ (n : ℕ). 0 < n) c.ordinary-layers.ensures.value c.ordinary-layers.ensures.some in
    let told = subst (λ (s : StackView). IsEndOf (new_at s) c.in_ok-end.end) c.new-work.ensures.value c.in_ok-end.ensures.told in
    keeps_tree c.in_ok-answer_telling.field-0 (c.in_ok-layer.layer ∷ []) stack c.in_ok-answer_telling.ensures.back some
    (deref_same stack c.ordinary-layers.ensures.each c.in_ok-layer.layer c.in_ok-answer_telling.ensures.layer (c.in_ok-layer.ensures.layer (new_at stack) told)
    c.deref_keeps_the_tree.ensures some (c.requires.sound c.in_ok-expect_clean.ensures.clean)) Deref refl

pub returns-clause-sound : goal.returns-clause-sound
returns-clause-sound g c =
    let stack = c.args.stack in
    let some = subst (λ (n : ℕ). 0 < n) c.ordinary-layers.ensures.value c.ordinary-layers.ensures.some in
    let told = subst (λ (s : StackView). IsEndOf (new_at s) c.in_ok-end.end) c.new-work.ensures.value c.in_ok-end.ensures.told in
    keeps_soundness c.in_ok-answer_telling.field-0 (c.in_ok-layer.layer ∷ []) stack c.in_ok-answer_telling.ensures.back some
    (deref_sound stack c.ordinary-layers.ensures.each c.in_ok-layer.layer c.in_ok-answer_telling.ensures.layer (c.in_ok-layer.ensures.layer (new_at stack) told)
    c.deref_keeps_soundness.ensures some (c.requires.sound c.in_ok-expect_clean.ensures.clean)) Deref refl
