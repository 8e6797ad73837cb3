use Rattle.std.proofs.Common.{◌≡◌, true, Ok, Err, List, [], ◌∷◌, map, refl, ap, subst}
use Rattle.std.specs.List.{All}
use Rattle.std.proofs.lemmas.Result.{err_from_is_err_and}
use Rattle.ovl_layer.specs.Layers.{Entries, IsLayer}
use Rattle.ovl_manifest.specs.Manifest.{read_layer}
use Rattle.ovl_lookup.specs.Stacks.{StackView}
use Rattle.ovl_lookup.specs.Sound.{IsSoundStack}
use Rattle.ovl_check.specs.Findings.{findings}
use Rattle.ovl_check.specs.Laws.{UnmarkedLayersAreQuiet, ShownLayersAreClean}
use Rattle.ovl_rewrite.specs.Ends.{IsEndOf}
use Rattle.ovl_rewrite.specs.Limits.{IsLayerWithinLimits}
use Rattle.ovl_flatten.specs.Directories.{flatten_kids}
use Rattle.ovl_flatten.specs.Flatten.{flattened_at, IsFlattened}
use Rattle.ovl_flatten.specs.Laws.{FlattenKeepsTree, FlattenIsSound, FlattenHasNoMarks}
use Rattle.ovl_commands.specs.declared.requests.Answer.{Answer}
use Rattle.ovl_commands.specs.declared.requests.Command.TheVariants.{Flatten}
use Rattle.ovl_engine.specs.Kept.{KeepsTreeOf, KeepsSoundness, IsQuietOf}
use Rattle.ovl_engine.specs.Outcomes.{MayRefuseOwn, new_manifests}
use Rattle.ovl_engine.proofs.OutcomeLemmas.{new-unwalked, unclean, unfinished}
use Rattle.ovl_engine.proofs.KeptLemmas.{clean-faultless, keeps_whole_tree, whole_soundness, whole_quiet}
use Rattle.ovl_engine.proofs.flattens.flatten.Goals as goal

-- an answer with the flattened layer of a sound stack
module _ (answer : Answer) (stack : StackView) (layer : Entries) (each : All IsLayer stack.layers) (sound : IsSoundStack stack) (is : IsLayer layer) (flattened : IsFlattened layer stack) (back : map read_layer (new_manifests answer) ≡ Ok layer ∷ []) where
  tree : FlattenKeepsTree → KeepsTreeOf Flatten stack answer
  tree law = keeps_whole_tree answer (layer ∷ []) stack back (law stack each sound layer is flattened) Flatten refl

  soundness : FlattenIsSound → KeepsSoundness Flatten stack answer
  soundness law = whole_soundness answer (layer ∷ []) stack back (law stack each sound layer is flattened) Flatten refl

  quiet : FlattenHasNoMarks → UnmarkedLayersAreQuiet → ShownLayersAreClean → IsQuietOf Flatten stack answer
  quiet unmarked silent clean =
      whole_quiet answer (layer ∷ []) stack back (silent layer is (unmarked stack each sound layer flattened))
      (λ blobs none. clean blobs stack each (clean-faultless (findings blobs stack) none) layer is flattened)
      Flatten refl

pub returns-in_err-expect_clean-clause-outcome : goal.returns-in_err-expect_clean-clause-outcome
returns-in_err-expect_clean-clause-outcome g c =
    let out = err_from_is_err_and c.from_residual.result c.from_residual.ensures.1 in
    let refused = MayRefuseOwn Flatten c.args.stack (g.G.Gate.may_refuse c.args.team.now.gate.now) in
    rw (out.1, out.2) (unclean refused Flatten refl c.args.stack c.args.found.items c.in_err-expect_clean.field-0.0 c.in_err-expect_clean.ensures.refused)

pub returns-in_err-end-clause-outcome : goal.returns-in_err-end-clause-outcome
returns-in_err-end-clause-outcome g c =
    let out = err_from_is_err_and c.from_residual-in_err-end.result c.from_residual-in_err-end.ensures.1 in
    rw (out.1, out.2) (new-unwalked (flatten_kids c.args.stack) (g.G.Gate.may_refuse c.args.team.now.gate.now) Flatten c.args.stack c.args.found.items c.in_err-end.field-0.0
    (rw (c.new-work.ensures.value) at c.in_err-end.ensures.fault))

pub returns-in_err-layer-clause-outcome : goal.returns-in_err-layer-clause-outcome
returns-in_err-layer-clause-outcome g c =
    let out = err_from_is_err_and c.from_residual-in_err-layer.result c.from_residual-in_err-layer.ensures.1 in
    let stack = c.args.stack in
    let clean = c.in_ok-expect_clean.ensures.clean in
    let told = subst (λ (s : StackView). IsEndOf (flattened_at s) c.in_ok-end.end) c.new-work.ensures.value c.in_ok-end.ensures.told in
    let made = subst (λ (s : StackView). IsSoundStack s → IsLayerWithinLimits (flattened_at s)) c.new-work.ensures.value c.in_ok-end.ensures.made in
    rw (out.1, out.2) (unfinished (MayRefuseOwn Flatten stack (g.G.Gate.may_refuse c.args.team.now.gate.now)) Flatten stack c.args.found.items c.in_err-layer.field-0.0 c.in_err-layer.ensures.fault (λ limit. (
      clean,
      c.in_err-layer.ensures.limit (ap Err limit) (flattened_at stack) told (made (c.requires.sound clean)),
    )))

pub returns-clause-outcome : goal.returns-clause-outcome
returns-clause-outcome g c =
    let told = subst (λ (s : StackView). IsEndOf (flattened_at s) c.in_ok-end.end) c.new-work.ensures.value c.in_ok-end.ensures.told in
    let written = c.in_ok-answer_telling.ensures.answer in (
      c.in_ok-expect_clean.ensures.clean,
      record {
        new = c.in_ok-layer.layer;
        is_layer = c.in_ok-answer_telling.ensures.layer;
        flattened = c.in_ok-layer.ensures.layer (flattened_at c.args.stack) told;
        within = c.in_ok-layer.ensures.kept (flattened_at c.args.stack) told;
        rewritten = record { told = c.in_ok-answer_telling.ensures.report; written = written.written; clean = written.clean };
      },
    )

pub returns-clause-tree : goal.returns-clause-tree
returns-clause-tree g c =
    let told = subst (λ (s : StackView). IsEndOf (flattened_at s) c.in_ok-end.end) c.new-work.ensures.value c.in_ok-end.ensures.told in
    tree c.in_ok-answer_telling.field-0 c.args.stack c.in_ok-layer.layer c.ordinary-layers.ensures.each (c.requires.sound c.in_ok-expect_clean.ensures.clean) c.in_ok-answer_telling.ensures.layer (c.in_ok-layer.ensures.layer (flattened_at c.args.stack) told) c.in_ok-answer_telling.ensures.back c.flatten_keeps_the_tree.ensures

pub returns-clause-sound : goal.returns-clause-sound
returns-clause-sound g c =
    let told = subst (λ (s : StackView). IsEndOf (flattened_at s) c.in_ok-end.end) c.new-work.ensures.value c.in_ok-end.ensures.told in
    soundness c.in_ok-answer_telling.field-0 c.args.stack c.in_ok-layer.layer c.ordinary-layers.ensures.each (c.requires.sound c.in_ok-expect_clean.ensures.clean) c.in_ok-answer_telling.ensures.layer (c.in_ok-layer.ensures.layer (flattened_at c.args.stack) told) c.in_ok-answer_telling.ensures.back c.flatten_is_sound.ensures

pub returns-clause-quiet : goal.returns-clause-quiet
returns-clause-quiet g c =
    let told = subst (λ (s : StackView). IsEndOf (flattened_at s) c.in_ok-end.end) c.new-work.ensures.value c.in_ok-end.ensures.told in
    quiet c.in_ok-answer_telling.field-0 c.args.stack c.in_ok-layer.layer c.ordinary-layers.ensures.each (c.requires.sound c.in_ok-expect_clean.ensures.clean) c.in_ok-answer_telling.ensures.layer (c.in_ok-layer.ensures.layer (flattened_at c.args.stack) told) c.in_ok-answer_telling.ensures.back c.flatten_has_no_marks.ensures c.unmarked_layers_are_quiet.ensures c.shown_layers_are_clean.ensures
