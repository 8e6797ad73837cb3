use Rattle.std.proofs.Common.{◌≡◌, sym, ◌∙◌, subst, arith, IfOk}
use Rattle.ovl_names.specs.Paths.{PathNames, child_path}
use Rattle.ovl_layer.specs.Layers.{Entries}
use Rattle.ovl_lookup.proofs.RowLemmas.{row-root, row-child, row-inside, row-deeper}
use Rattle.ovl_lookup.proofs.steps.+rope_of_row.Goals as goal

pub returns : goal.returns
returns t c =
    let layer : Entries = c.args.sheet.now in
    let whole = row-child layer c.args.row c.in-Some.field-0.now c.in-Some.ensures c.in-Some-name.name c.in-Some-name.is in
    subst (λ (path : PathNames). IfOk c.child.result (λ rope. rope ≡ path)) ((λ j. child_path (c.in_ok-rope_of_row.ensures j) (c.as_str.ensures.value j)) ∙ whole) c.child.ensures

pub returns-in_default : goal.returns-in_default
returns-in_default t c = absurd (omega (arith, c.in_default.ensures, c.requires.inside))

pub returns-in_default-name : goal.returns-in_default-name
returns-in_default-name t c =
    c.root-in_default-name.ensures ∙ sym (row-root c.args.sheet.now c.args.row c.in-Some.field-0.now c.in-Some.ensures c.in_default-name.is)

pub rope_of_row-requires : goal.rope_of_row-requires
rope_of_row-requires t c =
    let layer : Entries = c.args.sheet.now in
    let deeper = row-deeper layer c.args.row c.in-Some.field-0.now c.in-Some.ensures c.in-Some-name.name c.in-Some-name.is in
    (omega (arith, deeper, c.decreases, c.requires.depth), (row-inside layer c.args.row c.in-Some.field-0.now c.in-Some.ensures, omega (arith, deeper, c.requires.depth)))
