use Rattle.std.proofs.Common.{◌∙◌, ◌++◌, ◌∷◌, [], Some, List, length, sym, ap, append_assoc, length-append, arith}
use Rattle.std.specs.Prelude.{slice_index}
use Rattle.ovl_layer.specs.LayerTrees.{NodeView, entries_of_nodes}
use Rattle.ovl_layer.specs.SheetPasses.{rows_from}
use Rattle.ovl_layer.proofs.SheetPassLemmas.{node-room, rows-more}
use Rattle.ovl_layer.proofs.sheets.+move_nodes.Goals as goal

pub offset_bounds-parents-number : goal.offset_bounds-parents-number
offset_bounds-parents-number t c =
    let room = node-room c.args.nodes.items c.loop-node.yielded _ c.next.new.self.rest.items c.node.inside.children.items c.in-Some.node c.args.rows.now.items c.loop-node.rows.items c.args.parents.now c.args.afters.now c.in-Some.ensures.steps.0 c.loop-node.invariant.rest (ap (λ (node : NodeView). node.below) c.node.view_is) c.loop-node.invariant.rows in
    omega (arith, c.len-number.ensures, c.requires.limit, room.0, room.1, c.loop-node.rows.ok.0, c.args.rows.now.ok.0)

pub bounds-parents-number : goal.bounds-parents-number
bounds-parents-number t c =
    let room = node-room c.args.nodes.items c.loop-node.yielded _ c.next.new.self.rest.items c.node.inside.children.items c.in-Some.node c.args.rows.now.items c.loop-node.rows.items c.args.parents.now c.args.afters.now c.in-Some.ensures.steps.0 c.loop-node.invariant.rest (ap (λ (node : NodeView). node.below) c.node.view_is) c.loop-node.invariant.rows in
    omega (arith, c.len-number.ensures, c.requires.parents, room.0, room.1, c.loop-node.rows.ok.0, c.args.rows.now.ok.0)

pub offset_bounds-afters-number : goal.offset_bounds-afters-number
offset_bounds-afters-number t c =
    let room = node-room c.args.nodes.items c.loop-node.yielded _ c.next.new.self.rest.items c.node.inside.children.items c.in-Some.node c.args.rows.now.items c.loop-node.rows.items c.args.parents.now c.args.afters.now c.in-Some.ensures.steps.0 c.loop-node.invariant.rest (ap (λ (node : NodeView). node.below) c.node.view_is) c.loop-node.invariant.rows in
    omega (arith, c.len-number.ensures, c.requires.limit, room.0, room.1, c.loop-node.rows.ok.0, c.args.rows.now.ok.0)

pub bounds-afters-number : goal.bounds-afters-number
bounds-afters-number t c =
    let room = node-room c.args.nodes.items c.loop-node.yielded _ c.next.new.self.rest.items c.node.inside.children.items c.in-Some.node c.args.rows.now.items c.loop-node.rows.items c.args.parents.now c.args.afters.now c.in-Some.ensures.steps.0 c.loop-node.invariant.rest (ap (λ (node : NodeView). node.below) c.node.view_is) c.loop-node.invariant.rows in
    omega (arith, c.len-number.ensures, c.requires.afters, room.0, room.1, c.loop-node.rows.ok.0, c.args.rows.now.ok.0)

pub put_row-requires : goal.put_row-requires
put_row-requires t c =
    let room = node-room c.args.nodes.items c.loop-node.yielded _ c.next.new.self.rest.items c.node.inside.children.items c.in-Some.node c.args.rows.now.items c.loop-node.rows.items c.args.parents.now c.args.afters.now c.in-Some.ensures.steps.0 c.loop-node.invariant.rest (ap (λ (node : NodeView). node.below) c.node.view_is) c.loop-node.invariant.rows in
    omega (arith, c.requires.room, c.loop-node.invariant.room, room.0, room.1, c.loop-node.rows.ok.0, c.args.rows.now.ok.0)

pub move_nodes-requires : goal.move_nodes-requires
move_nodes-requires t c =
    let room = node-room c.args.nodes.items c.loop-node.yielded _ c.next.new.self.rest.items c.node.inside.children.items c.in-Some.node c.args.rows.now.items c.loop-node.rows.items c.args.parents.now c.args.afters.now c.in-Some.ensures.steps.0 c.loop-node.invariant.rest (ap (λ (node : NodeView). node.below) c.node.view_is) c.loop-node.invariant.rows in
    let more = ap length c.put_row.ensures.rows ∙ length-append c.loop-node.rows.items _ in (
      omega (arith, c.decreases, room.0, room.1),
      (
        omega (arith, c.requires.limit, room.0, room.1, more, c.put_row.new.rows.ok.0, c.args.rows.now.ok.0),
        (
          omega (arith, c.requires.room, c.loop-node.invariant.room, c.put_row.ensures.room, room.0, room.1, more, c.put_row.new.rows.ok.0, c.args.rows.now.ok.0),
          (
            omega (arith, c.requires.parents, room.0, room.1, more, c.put_row.new.rows.ok.0, c.args.rows.now.ok.0),
            omega (arith, c.requires.afters, room.0, room.1, more, c.put_row.new.rows.ok.0, c.args.rows.now.ok.0),
          ),
        ),
      ),
    )

pub loop-node-preserved : goal.loop-node-preserved
loop-node-preserved t c =
    let number = c.len-number.ensures ∙ c.loop-node.rows.ok.0 in
    record {
      rows = rows-more c.args.rows.now.items c.loop-node.rows.items c.put_row.new.rows.items c.move_nodes.new.rows.items c.args.parents.now c.args.afters.now c.loop-node.yielded c.node.inside.children.items c.in-Some.node
          (ap (λ (node : NodeView). node.below) c.node.view_is) c.loop-node.invariant.rows
          (c.put_row.ensures.rows ∙ (λ j. c.loop-node.rows.items ++ (record { name = Some (c.node.view_is j).name; inode = (c.node.view_is j).inode; parent = slice_index c.args.parents.now (number j); after = slice_index c.args.afters.now (number j) }) ∷ []))
          (c.move_nodes.ensures.rows ∙ ap (λ n. c.put_row.new.rows.items ++ rows_from c.args.parents.now c.args.afters.now n (entries_of_nodes c.node.inside.children.items)) c.put_row.new.rows.ok.0);
      rest = append_assoc c.loop-node.yielded (c.in-Some.node ∷ []) c.next.new.self.rest.items
          ∙ (ap (λ (rest : List NodeView). c.loop-node.yielded ++ rest) (sym c.in-Some.ensures.steps.0) ∙ c.loop-node.invariant.rest);
      room = omega (arith, c.loop-node.invariant.room, c.put_row.ensures.room, c.move_nodes.ensures.room);
    }
