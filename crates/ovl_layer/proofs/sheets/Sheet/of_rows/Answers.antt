use Rattle.std.proofs.Common.{◌≡◌, ◌<◌, take, length-take-le, ◌∙◌, ℕ, Some, List, length, map, drop, sym, ap, subst, arith}
use Rattle.std.proofs.lemmas.List.{length-map, take_all, drop-map}
use Rattle.ovl_inode.specs.Marks.{mark_of}
use Rattle.ovl_layer.specs.declared.sheets.SheetRow.{SheetRow}
use Rattle.ovl_layer.specs.Sheets.{IsSheet, entries_of_rows, afters_from, kid_numbers, parents_of}
use Rattle.ovl_layer.proofs.AfterLemmas.{few-rows, set-entries, set-sheet}
use Rattle.ovl_layer.proofs.sheets.Sheet.of_rows.Goals as goal

pub push_of-requires : goal.push_of-requires
push_of-requires c =
    let rows : List SheetRow = c.args.rows.items in
    let inside : c.loop-row.row-index < length rows = omega (arith, c.loop-row-test.true, ap length c.deref-row-items.ensures.value) in
    omega (arith, inside, few-rows rows c.requires, ap length c.loop-row.invariant.marks, length-map (take c.loop-row.row-index rows) (λ (row : SheetRow). mark_of row.inode), length-take-le c.loop-row.row-index rows (omega (arith, inside)))

pub of-requires-clause-limit : goal.of-requires-clause-limit
of-requires-clause-limit c =
    let rows : List SheetRow = c.args.rows.items in
    let all = take_all c.loop-row.row-index rows (omega (arith, c.loop-row-test.false, ap length c.deref-row-items.ensures.value)) in
    omega (arith, few-rows rows c.requires, ap length (c.deref.ensures.value ∙ (c.loop-row.invariant.parents ∙ ap (map (λ (row : SheetRow). row.parent)) all)), length-map rows (λ (row : SheetRow). row.parent))

pub depths_of-requires-clause-limit : goal.depths_of-requires-clause-limit
depths_of-requires-clause-limit c = omega (arith, few-rows c.args.rows.items c.requires, ap length c.deref-2.ensures.value)

pub set_afters-requires-clause-limit : goal.set_afters-requires-clause-limit
set_afters-requires-clause-limit c = omega (arith, few-rows c.args.rows.items c.requires, c.args.rows.ok.0)

pub invariant_of-result : goal.invariant_of-result
invariant_of-result c =
    let rows : List SheetRow = c.args.rows.items in
    let all = take_all c.loop-row.row-index rows (omega (arith, c.loop-row-test.false, ap length c.deref-row-items.ensures.value)) in
    let parents : c.deref.result.now ≡ map (λ (row : SheetRow). row.parent) rows = c.deref.ensures.value ∙ (c.loop-row.invariant.parents ∙ ap (map (λ (row : SheetRow). row.parent)) all) in
    let below : drop 1 c.deref.result.now ≡ parents_of rows = ap (drop 1) parents ∙ drop-map (λ (row : SheetRow). row.parent) 1 rows in
    let count : length c.deref.result.now ≡ length rows = ap length parents ∙ length-map rows (λ (row : SheetRow). row.parent) in
    subst (λ (set : List SheetRow). IsSheet set c.in_ok-kids.kids c.loop-row.marks) (sym c.set_afters.ensures)
    (set-sheet rows c.requires c.in_ok-kids.kids c.loop-row.marks
    (λ number inside. c.in_ok-kids.ensures number (omega (arith, inside, count)) ∙ ap (λ (ns : List ℕ). Some (kid_numbers 1 ns number)) below)
    (c.loop-row.invariant.marks ∙ ap (map (λ (row : SheetRow). mark_of row.inode)) all))

pub returns : goal.returns
returns c = ap entries_of_rows c.set_afters.ensures ∙ set-entries (afters_from 0 (entries_of_rows c.args.rows.items)) c.args.rows.items
