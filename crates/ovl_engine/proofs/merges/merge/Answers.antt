use Rattle.std.proofs.Common.{◌≡◌, ◌∙◌, [], ◌∷◌, Ok, Err, refl, sym, ap, subst}
use Rattle.std.proofs.lemmas.Result.{err_from_is_err_and}
use Rattle.ovl_layer.specs.Layers.{Entries}
use Rattle.ovl_manifest.specs.Text.{manifest_text}
use Rattle.ovl_merge.specs.Places.{merge_of}
use Rattle.ovl_merge.specs.MergeDown.{IsMergedDown, merged_entry, merged_top}
use Rattle.ovl_commands.specs.declared.requests.Command.TheVariants.{Merge}
use Rattle.ovl_engine.specs.Outcomes.{MayRefuseOwn}
use Rattle.ovl_engine.proofs.OutcomeLemmas.{unclean, unfinished, unwalked}
use Rattle.ovl_engine.proofs.KeptLemmas.{keeps_tree, merge_same}
use Rattle.ovl_engine.proofs.merges.merge.Goals as goal

pub returns-in_err-expect_clean-clause-outcome : goal.returns-in_err-expect_clean-clause-outcome
returns-in_err-expect_clean-clause-outcome g c =
    let out = err_from_is_err_and c.from_residual.result c.from_residual.ensures.1 in
    let refused = MayRefuseOwn Merge c.args.stack (g.G.Gate.may_refuse c.args.team.now.gate.now) in
    rw (out.1, out.2) (unclean refused Merge refl c.args.stack c.args.found.items c.in_err-expect_clean.field-0.0 c.in_err-expect_clean.ensures.refused)

pub returns-in_err-end-clause-outcome : goal.returns-in_err-end-clause-outcome
returns-in_err-end-clause-outcome g c =
    let out = err_from_is_err_and c.from_residual-in_err-end.result c.from_residual-in_err-end.ensures.1 in
    let refused = MayRefuseOwn Merge c.args.stack (g.G.Gate.may_refuse c.args.team.now.gate.now) in
    rw (out.1, out.2) (unwalked refused Merge c.args.stack c.args.found.items c.in_err-end.field-0.0 c.in_err-end.ensures.fault)

pub returns-in_err-lower-clause-outcome : goal.returns-in_err-lower-clause-outcome
returns-in_err-lower-clause-outcome g c =
    let out = err_from_is_err_and c.from_residual-in_err-lower.result c.from_residual-in_err-lower.ensures.1 in
    let stack = c.args.stack in
    let clean = c.in_ok-expect_clean.ensures.clean in
    rw (out.1, out.2) (unfinished (MayRefuseOwn Merge stack (g.G.Gate.may_refuse c.args.team.now.gate.now)) Merge stack c.args.found.items c.in_err-lower.field-0.0 c.in_err-lower.ensures.fault (λ limit. (
      clean,
      c.in_err-lower.ensures.limit (ap Err limit) (merged_entry (merge_of stack)) c.in_ok-end.ensures.told (c.in_ok-end.ensures.made (c.requires.sound clean)),
    )))

pub returns-clause-outcome : goal.returns-clause-outcome
returns-clause-outcome g c =
    let stack = c.args.stack in
    let lower = c.in_ok-top.field-0.lower in
    let made : IsMergedDown (merge_of stack) c.in_ok-lower.lower = c.in_ok-lower.ensures.layer (merged_entry (merge_of stack)) c.in_ok-end.ensures.told in
    let top : c.in_ok-top.field-0.top ≡ merged_top (merge_of stack) = c.in_ok-top.ensures.top stack c.requires.several c.ordinary-layers.ensures.each made in
    let written = c.in_ok-answer_telling.ensures.answer in (
      c.in_ok-expect_clean.ensures.clean,
      record {
        lower = lower;
        is_layer = c.in_ok-answer_telling.ensures.layer;
        merged = subst (IsMergedDown (merge_of stack)) (sym c.in_ok-top.ensures.lower) made;
        within = c.in_ok-lower.ensures.kept (merged_entry (merge_of stack)) c.in_ok-end.ensures.told;
        rewritten = record {
          told = c.in_ok-answer_telling.ensures.report;
          written = written.written ∙ ap (λ (entries : Entries). manifest_text entries ∷ manifest_text lower ∷ []) top;
          clean = written.clean;
        };
      },
    )

pub returns-clause-tree : goal.returns-clause-tree
returns-clause-tree g c =
    let stack = c.args.stack in
    let lower = c.in_ok-top.field-0.lower in
    let made : IsMergedDown (merge_of stack) c.in_ok-lower.lower = c.in_ok-lower.ensures.layer (merged_entry (merge_of stack)) c.in_ok-end.ensures.told in
    let top : c.in_ok-top.field-0.top ≡ merged_top (merge_of stack) = c.in_ok-top.ensures.top stack c.requires.several c.ordinary-layers.ensures.each made in
    keeps_tree c.in_ok-answer_telling.field-0 (merged_top (merge_of stack) ∷ lower ∷ []) stack
    (c.in_ok-answer_telling.ensures.back ∙ ap (λ (entries : Entries). Ok entries ∷ Ok lower ∷ []) top) c.requires.several
    (merge_same stack c.ordinary-layers.ensures.each c.merge_keeps_the_tree.ensures c.requires.several (c.requires.sound c.in_ok-expect_clean.ensures.clean)
    lower c.in_ok-answer_telling.ensures.layer (subst (IsMergedDown (merge_of stack)) (sym c.in_ok-top.ensures.lower) made)) Merge refl

pub returns-clause-two : goal.returns-clause-two
returns-clause-two g c =
    let stack = c.args.stack in
    let lower = c.in_ok-top.field-0.lower in
    let made : IsMergedDown (merge_of stack) c.in_ok-lower.lower = c.in_ok-lower.ensures.layer (merged_entry (merge_of stack)) c.in_ok-end.ensures.told in
    let top : c.in_ok-top.field-0.top ≡ merged_top (merge_of stack) = c.in_ok-top.ensures.top stack c.requires.several c.ordinary-layers.ensures.each made in
    record {
      top = merged_top (merge_of stack);
      lower = lower;
      read = c.in_ok-answer_telling.ensures.back ∙ ap (λ (entries : Entries). Ok entries ∷ Ok lower ∷ []) top;
      same = merge_same stack c.ordinary-layers.ensures.each c.merge_keeps_the_tree.ensures c.requires.several (c.requires.sound c.in_ok-expect_clean.ensures.clean)
          lower c.in_ok-answer_telling.ensures.layer (subst (IsMergedDown (merge_of stack)) (sym c.in_ok-top.ensures.lower) made);
    }
