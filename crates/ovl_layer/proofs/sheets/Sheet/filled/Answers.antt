use Rattle.std.proofs.Common.{◌≡◌, ◌<◌, ◌∙◌, ◌++◌, ◌∷◌, ℕ, suc, [], None, List, length, refl, sym, ap, subst, length-append, arith}
use Rattle.std.specs.Prelude.{slice_index}
use Rattle.std.proofs.lemmas.Option.{get_or_from_slice_get, slice_get_read}
use Rattle.ovl_inode.specs.declared.inodes.Inode.{Inode}
use Rattle.ovl_layer.specs.declared.sheets.SheetRow.{SheetRow}
use Rattle.ovl_layer.specs.Layers.{Entries}
use Rattle.ovl_layer.specs.LayerTrees.{NodeView, entries_from, entries_of_nodes}
use Rattle.ovl_layer.specs.Sheets.{IsSheet, entries_of_rows, afters_from}
use Rattle.ovl_layer.specs.SheetPasses.{placed_by, rows_from}
use Rattle.ovl_layer.proofs.SheetPassLemmas.{marks_of, afters-length, filled-entries, filled-sheet}
use Rattle.ovl_layer.proofs.sheets.Sheet.filled.Goals as goal

pub move_nodes-requires-clause-afters : goal.move_nodes-requires-clause-afters
move_nodes-requires-clause-afters c =
    let own : SheetRow = record { name = None; inode = c.layer.inside.inode; parent = 0; after = c.index.result.now } in
    omega (arith, ap length c.deref-2.ensures.value, ap length c.requires.afters, afters-length 0 c.args.layer, ap length c.layer.view_is, ap length c.put_row.ensures.rows, length-append c.args.room.rows.items (own ∷ []), ap length c.requires.rows, c.put_row.new.rows.ok.0)

-- the rows that were moved are those of the layer
moved : (c : goal.After-drop-parents) → c.move_nodes.new.rows.items ≡ rows_from c.args.room.parents.items c.args.room.afters.items 0 (entries_from c.layer.inside.inode (entries_of_nodes c.layer.inside.children.items))
moved c =
    let parents : List ℕ = c.args.room.parents.items in
    let afters : List ℕ = c.args.room.afters.items in
    let below : Entries = entries_of_nodes c.layer.inside.children.items in
    let inode : Inode = c.layer.inside.inode in
    let none : slice_index parents 0 ≡ 0 = get_or_from_slice_get parents 0 0 0 c.requires.root in
    let some : 0 < length afters = omega (arith, ap length c.requires.afters, afters-length 0 c.args.layer, ap length c.layer.view_is) in
    let after : slice_index afters 0 ≡ c.index.result.now =
    get_or_from_slice_get afters 0 c.index.result.now 0 (slice_get_read afters (length afters) 0 c.index.result.now refl some c.index.ensures) in
    let first : c.put_row.new.rows.items ≡ (record { name = None; inode = inode; parent = slice_index parents 0; after = slice_index afters 0 }) ∷ [] =
    c.put_row.ensures.rows ∙ (λ j. c.requires.rows j ++ (record { name = None; inode = inode; parent = sym none j; after = sym after j }) ∷ []) in
    let one : c.put_row.new.rows.len ≡ 1 = c.put_row.new.rows.ok.0 ∙ ap length first in
    c.move_nodes.ensures.rows ∙ (λ j. first j ++ rows_from (c.deref.ensures.value j) (c.deref-2.ensures.value j) (one j) below)

pub invariant_of-result : goal.invariant_of-result
invariant_of-result c =
    let parents : List ℕ = c.args.room.parents.items in
    let inode : Inode = c.layer.inside.inode in
    let nodes : List NodeView = c.layer.inside.children.items in
    let view : c.args.layer ≡ entries_from inode (entries_of_nodes nodes) = sym c.layer.view_is in
    let count : length parents ≡ suc (length (entries_of_nodes nodes)) = c.requires.count ∙ ap length view in
    let place : placed_by [] parents (entries_from inode (entries_of_nodes nodes)) ≡ entries_from inode (entries_of_nodes nodes) =
    subst (λ (layer : Entries). placed_by [] parents layer ≡ layer) view c.requires.place in
    subst (λ (rows : List SheetRow). IsSheet rows c.args.room.kids c.args.room.marks) (sym (moved c))
    (filled-sheet inode nodes parents c.args.room.afters.items count place c.layer.invariant.1 c.requires.root c.requires.earlier (c.requires.afters ∙ ap (afters_from 0) view)
    c.args.room.kids (λ number inside. c.requires.kids number (omega (arith, inside, ap length view)))
    c.args.room.marks (c.requires.marks ∙ ap marks_of view))

pub returns : goal.returns
returns c =
    let parents : List ℕ = c.args.room.parents.items in
    let inode : Inode = c.layer.inside.inode in
    let nodes : List NodeView = c.layer.inside.children.items in
    let view : c.args.layer ≡ entries_from inode (entries_of_nodes nodes) = sym c.layer.view_is in
    ap entries_of_rows (moved c)
    ∙ (filled-entries inode nodes parents c.args.room.afters.items (c.requires.count ∙ ap length view) (subst (λ (layer : Entries). placed_by [] parents layer ≡ layer) view c.requires.place)
    ∙ c.layer.view_is)
