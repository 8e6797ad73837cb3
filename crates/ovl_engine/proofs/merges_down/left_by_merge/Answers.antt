use Rattle.std.proofs.Common.{◌≡◌, ◌∙◌, ◌∷◌, Err, List, ap, arith, drop, length, length-append, length-drop}
use Rattle.std.proofs.lemmas.Result.{err_from_is_err_and}
use Rattle.ovl_layer.specs.Layers.{Entries}
use Rattle.ovl_lookup.specs.Merged.{look}
use Rattle.ovl_merge.specs.Places.{merge_of}
use Rattle.ovl_merge.specs.MergeDown.{merged_entry}
use Rattle.ovl_commands.specs.declared.requests.Command.TheVariants.{Merge}
use Rattle.ovl_engine.specs.Outcomes.{MayRefuseOwn}
use Rattle.ovl_engine.proofs.KeptLemmas.{merged_same}
use Rattle.ovl_engine.proofs.OutcomeLemmas.{unmade, unwalked}
use Rattle.ovl_engine.proofs.merges_down.left_by_merge.Goals as goal

pub returns-in_err-end-clause-fault : goal.returns-in_err-end-clause-fault
returns-in_err-end-clause-fault g c =
    let out = err_from_is_err_and c.from_residual.result c.from_residual.ensures.1 in
    let refused = MayRefuseOwn Merge c.args.stack (g.G.Gate.may_refuse c.args.team.now.gate.now) in
    rw (out.1, out.2) (λ found clean. unwalked refused Merge c.args.stack found c.in_err-end.field-0.0 c.in_err-end.ensures.fault)

pub returns-in_err-lower-clause-fault : goal.returns-in_err-lower-clause-fault
returns-in_err-lower-clause-fault g c =
    let out = err_from_is_err_and c.from_residual-in_err-lower.result c.from_residual-in_err-lower.ensures.1 in
    let stack = c.args.stack in
    let refused = MayRefuseOwn Merge stack (g.G.Gate.may_refuse c.args.team.now.gate.now) in
    rw (out.1, out.2) (λ found clean. unmade refused Merge stack found c.in_err-lower.field-0.0 (λ limit. (
      clean,
      c.in_err-lower.ensures.limit (ap Err limit) (merged_entry (merge_of stack)) c.in_ok-end.ensures.told (c.in_ok-end.ensures.made c.requires.sound),
    )))

pub laid_over-requires : goal.laid_over-requires
laid_over-requires g c =
    let stack = c.args.stack in
    omega (
      arith,
      c.requires.several,
      c.layers-all.ensures.value,
      c.layers-all.ensures.limit,
      length-append stack.layers stack.data_only,
      ap length c.into_sheets-both.ensures.0,
      ap length c.into_sheets-both.ensures.1,
      ap length c.in_ok-rest.ensures.tail,
      length-drop 2 c.into_sheets-both.result.0.items,
    )

pub returns-clause-next : goal.returns-clause-next
returns-clause-next g c =
    let stack = c.args.stack in
    let lower : Entries = c.in_ok-lower.lower in
    let next = c.in_ok-laid_over.field-0 in
    let rest : c.in_ok-rest.rest.items ≡ drop 2 stack.layers = c.in_ok-rest.ensures.tail ∙ ap (drop 2) c.into_sheets-both.ensures.0 in
    let layers : next.layers ≡ lower ∷ drop 2 stack.layers = c.in_ok-laid_over.ensures.layers ∙ ap (λ (ls : List Entries). lower ∷ ls) rest in
    let data_only : next.data_only ≡ stack.data_only = c.in_ok-laid_over.ensures.data_only ∙ c.into_sheets-both.ensures.1 in
    record {
      lower = lower;
      is_layer = c.in_ok-laid_over.ensures.is_layer;
      merged = c.in_ok-lower.ensures.layer (merged_entry (merge_of stack)) c.in_ok-end.ensures.told;
      within = c.in_ok-lower.ensures.kept (merged_entry (merge_of stack)) c.in_ok-end.ensures.told;
      same = λ j. record { layers = layers j; data_only = data_only j };
    }

pub returns-clause-tree : goal.returns-clause-tree
returns-clause-tree g c path =
    let stack = c.args.stack in
    let lower : Entries = c.in_ok-lower.lower in
    let next = c.in_ok-laid_over.field-0 in
    let rest : c.in_ok-rest.rest.items ≡ drop 2 stack.layers = c.in_ok-rest.ensures.tail ∙ ap (drop 2) c.into_sheets-both.ensures.0 in
    let layers : next.layers ≡ lower ∷ drop 2 stack.layers = c.in_ok-laid_over.ensures.layers ∙ ap (λ (ls : List Entries). lower ∷ ls) rest in
    let data_only : next.data_only ≡ stack.data_only = c.in_ok-laid_over.ensures.data_only ∙ c.into_sheets-both.ensures.1 in
    (λ j. look (record { layers = layers j; data_only = data_only j }) path)
    ∙ merged_same stack c.ordinary-each.ensures.each c.merged_layer_keeps_the_tree.ensures c.requires.several c.requires.sound
    lower c.in_ok-laid_over.ensures.is_layer (c.in_ok-lower.ensures.layer (merged_entry (merge_of stack)) c.in_ok-end.ensures.told) path
