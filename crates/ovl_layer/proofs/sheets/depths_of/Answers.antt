use Rattle.std.proofs.Common.{◌≡◌, ◌∙◌, ◌<◌, ◌≤◌, ℕ, length, get_or, subst, arith}
use Rattle.std.proofs.lemmas.Grind.{get_or_default_zero}
use Rattle.ovl_layer.specs.declared.sheets.SheetRow.{SheetRow}
use Rattle.ovl_layer.specs.Layers.{Entries}
use Rattle.ovl_layer.specs.Sheets.{path_at, entries_of_rows}
use Rattle.ovl_layer.proofs.AfterLemmas.{AreDepthsTo, entries-count, depth-named, depth-root, one-depth, all-depths}
use Rattle.ovl_layer.proofs.sheets.depths_of.Goals as goal
use Rattle.ovl_layer.proofs.sheets.depths_of.Goals.{in-Some, in-None}

pub index-requires : goal.index-requires
index-requires c =
    let named = depth-named c.args.rows.now c.requires.rows c.loop-row.row-index c.row-item.result c.loop-row-test.true c.row-item.is c.in-Some.field-0 c.in-Some.is in
    omega (arith, named.0, c.loop-row.invariant.so_far, c.loop-row.depths.ok.0)

pub overflow_add-depth : goal.overflow_add-depth
overflow_add-depth c =
    let named = depth-named c.args.rows.now c.requires.rows c.loop-row.row-index c.row-item.result c.loop-row-test.true c.row-item.is c.in-Some.field-0 c.in-Some.is in
    let inside : c.row-item.result.parent < length c.loop-row.depths.items = omega (arith, named.0, c.loop-row.invariant.so_far) in
    omega (arith, named.0, c.loop-row.invariant.small c.row-item.result.parent named.0, c.index.ensures, get_or_default_zero c.loop-row.depths.items c.row-item.result.parent c.index.result.now inside, c.requires.limit, c.loop-row-test.true)

pub loop-row-preserved : goal.loop-row-preserved
loop-row-preserved c =
    let entries : Entries = entries_of_rows c.args.rows.now in
    let number : ℕ = c.loop-row.row-index in
    let row : SheetRow = c.row-item.result in
    let found : (c.match-row.depth ≡ length (path_at entries number)) × (c.match-row.depth ≤ number) =
    elim c.match-row.branch [
      | in-Some w ↦
          let named = depth-named c.args.rows.now c.requires.rows number row c.loop-row-test.true c.row-item.is w.in-Some.field-0 w.in-Some.is in
          let inside : row.parent < length c.loop-row.depths.items = omega (arith, named.0, c.loop-row.invariant.so_far) in
          let above : w.index.result.now ≡ get_or c.loop-row.depths.items row.parent 0 = w.index.ensures ∙ get_or_default_zero c.loop-row.depths.items row.parent w.index.result.now inside in
          (omega (arith, w.depth-is, above, c.loop-row.invariant.each row.parent named.0, named.1), omega (arith, w.depth-is, above, c.loop-row.invariant.small row.parent named.0, named.0))
      | in-None w ↦
          let none = depth-root c.args.rows.now c.requires.rows number row c.loop-row-test.true c.row-item.is w.in-None.is in
          (omega (arith, w.depth-is, none), omega (arith, w.depth-is))
    ] in
    one-depth entries number c.match-row.depth c.loop-row.depths.items c.push.new.self.items c.loop-row.invariant found.0 found.1 c.in_ok-push.ensures.items

pub returns : goal.returns
returns c =
    let entries : Entries = entries_of_rows c.args.rows.now in
    all-depths entries c.loop-row.depths.items
    (subst (λ count. AreDepthsTo entries count c.loop-row.depths.items) (omega (arith, c.loop-row-test.false, c.loop-row.auto.row-index-end, entries-count c.args.rows.now)) c.loop-row.invariant)
