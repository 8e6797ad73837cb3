use Rattle.std.proofs.Common.{◌≡◌, ◌∙◌, ◌∷◌, [], refl, List, All, map, sym, ap, subst}
use Rattle.std.specs.List.{AllByRecursion, flat_map}
use Rattle.std.proofs.lemmas.List.{map-append}
use Rattle.std.proofs.lemmas.List.Elements.{All-nil, All-push}
use Rattle.ovl_names.specs.Paths.{PathNames, child_path}
use Rattle.ovl_layer.specs.Layers.{Entries, entry_at}
use Rattle.ovl_layer.specs.Sheets.{path_at}
use Rattle.ovl_layer.specs.RowsBelow.{NamedRow, LiesBelow}
use Rattle.ovl_layer.proofs.RowBelowLemmas.{rows-start, rows-next, rows-done}
use Rattle.ovl_check.specs.declared.directories.Child.{Child}
use Rattle.ovl_check.specs.Facts.{child_seen, held, held_in, IsChildMarked}
use Rattle.ovl_check.proofs.HeldLemmas.{held_rows, held-row, marked-row}
use Rattle.ovl_check.proofs.directories.children_in.Goals as goal

pub loop-number-init : goal.loop-number-init
loop-number-init c =
    let layer : Entries = c.args.sheet.now in
    let directory : PathNames = path_at layer c.args.row in
    let none : c.in_ok-children.children.items ≡ [] = c.in_ok-children.ensures.items in
    record {
      seen = rows-start (held_rows layer directory) c.into_iter-number-iterator.result c.below-rows.result (map child_seen c.in_ok-children.children.items) (held_in layer directory) c.into_iter-number-iterator.ensures.into_iter_gives (ap (map child_seen) none)
          (ap (flat_map (λ name. held name (entry_at layer (child_path directory name)))) c.below-rows.ensures.names);
      marks = subst (All IsChildMarked) (sym none) (All-nil IsChildMarked);
      rest = subst (AllByRecursion (LiesBelow layer directory)) (sym c.into_iter-number-iterator.ensures.into_iter_gives) c.below-rows.ensures.each;
    }

pub loop-number-preserved : goal.loop-number-preserved
loop-number-preserved c =
    let layer : Entries = c.args.sheet.now in
    let directory : PathNames = path_at layer c.args.row in
    let row : NamedRow = (c.in-Some.number, c.in-Some.name.now) in
    let child : Child = record { name = c.in-Some.name; inode = c.inode.result; mark = c.mark.result } in
    let children : List Child = c.loop-number.children.items in
    let rest : AllByRecursion (LiesBelow layer directory) (row ∷ c.next.new.self) = subst (AllByRecursion (LiesBelow layer directory)) c.in-Some.ensures.steps c.loop-number.invariant.rest in
    record {
      seen = rows-next (held_rows layer directory) c.loop-number.number-iterator row c.next.new.self (map child_seen children) (map child_seen c.push.new.self.items) (child_seen child ∷ []) (held_in layer directory) c.in-Some.ensures.steps
          (held-row layer directory row c.next.new.self c.inode.result.now rest.0 c.inode.ensures)
          (ap (map child_seen) c.in_ok-push.ensures.items ∙ map-append child_seen children (child ∷ [])) c.loop-number.invariant.seen;
      marks = subst (All IsChildMarked) (sym c.in_ok-push.ensures.items)
          (All-push IsChildMarked children child c.loop-number.invariant.marks (marked-row layer (path_at layer row.0) c.inode.result.now c.mark.result.now c.inode.ensures c.mark.ensures));
      rest = rest.1;
    }

pub returns-clause-seen : goal.returns-clause-seen
returns-clause-seen c =
    let directory : PathNames = path_at c.args.sheet.now c.args.row in
    rows-done (held_rows c.args.sheet.now directory) c.loop-number.number-iterator (map child_seen c.loop-number.children.items) (held_in c.args.sheet.now directory) c.in-None.ensures.steps.0 refl c.loop-number.invariant.seen
