use Rattle.std.proofs.Common.{◌∙◌, ◌++◌, ◌∷◌, [], List, map, refl, sym, ap, subst, arith, length}
use Rattle.std.specs.List.{AllByRecursion, filter_map}
use Rattle.ovl_names.specs.Names.{PathName}
use Rattle.ovl_names.specs.Paths.{PathNames}
use Rattle.ovl_layer.specs.Layers.{Entries}
use Rattle.ovl_layer.specs.RowsBelow.{NamedRow, LiesBelow, AreRowsBelow}
use Rattle.ovl_layer.proofs.RowBelowLemmas.{rows-at, rows-start, rows-next, rows-done}
use Rattle.ovl_lookup.specs.Words.{top_layer}
use Rattle.ovl_rewrite.specs.Directories.{NamedInode}
use Rattle.ovl_deref.specs.Directories.{inodes_in, named_inode}
use Rattle.ovl_deref.proofs.VisitLemmas.{all-listed, row-listed, row-entry}
use Rattle.ovl_deref.proofs.directories.own_inodes.Goals as goal

pub below-rows-requires : goal.below-rows-requires
below-rows-requires c = omega (arith, ap length c.top-sheet.ensures.value, c.requires.1)

pub loop-number-init : goal.loop-number-init
loop-number-init c =
    let stack = c.args.stack.now in
    let top : Entries = top_layer stack in
    let dir : PathNames = c.args.dir.now in
    let are : AreRowsBelow top dir c.below-rows.result = rows-at c.top-sheet.result.now top c.args.row dir c.below-rows.result c.top-sheet.ensures.value c.requires.2 c.below-rows.ensures in
    record {
      listed = rows-start (λ rows. filter_map (named_inode stack dir) (map (λ own. own.1) rows)) c.into_iter-number-iterator.result c.below-rows.result c.in_ok-inodes.inodes.items (inodes_in stack dir) c.into_iter-number-iterator.ensures.into_iter_gives c.in_ok-inodes.ensures.items (all-listed stack dir c.requires.0 c.below-rows.result are);
      view = tt;
      rest = subst (AllByRecursion (LiesBelow top dir)) (sym c.into_iter-number-iterator.ensures.into_iter_gives) are.each;
    }

pub in_row-entry-requires : goal.in_row-entry-requires
in_row-entry-requires c =
    omega (arith, ap length c.top-sheet.ensures.value, (subst (AllByRecursion (LiesBelow (top_layer c.args.stack.now) c.args.dir.now)) c.in-Some.ensures.steps c.loop-number.invariant.rest).0.0)

pub dereferenced-requires-clause-entry : goal.dereferenced-requires-clause-entry
dereferenced-requires-clause-entry c =
    row-entry c.top-sheet.result.now (top_layer c.args.stack.now) c.args.dir.now (c.in-Some.number, c.in-Some.name.now) c.in_row-entry.result.inode.now c.top-sheet.ensures.value
    (subst (AllByRecursion (LiesBelow (top_layer c.args.stack.now) c.args.dir.now)) c.in-Some.ensures.steps c.loop-number.invariant.rest).0 c.in_row-entry.ensures.value

pub loop-number-preserved : goal.loop-number-preserved
loop-number-preserved c =
    let stack = c.args.stack.now in
    let top : Entries = top_layer stack in
    let dir : PathNames = c.args.dir.now in
    let row : NamedRow = (c.in-Some.number, c.in-Some.name.now) in
    let old : List NamedInode = c.loop-number.inodes.items in
    let rest : AllByRecursion (LiesBelow top dir) (row ∷ c.next.new.self) = subst (AllByRecursion (LiesBelow top dir)) c.in-Some.ensures.steps c.loop-number.invariant.rest in
    let there = row-entry c.top-sheet.result.now top dir row c.in_row-entry.result.inode.now c.top-sheet.ensures.value rest.0 c.in_row-entry.ensures.value in
    record {
      listed = rows-next (λ rows. filter_map (named_inode stack dir) (map (λ own. own.1) rows)) c.loop-number.number-iterator row c.next.new.self old c.push.new.self.items ((row.1, c.in_ok-inode.inode) ∷ []) (inodes_in stack dir) c.in-Some.ensures.steps
          (row-listed stack dir c.requires.0 c.top-sheet.ensures.each c.top-sheet.ensures.some row c.next.new.self c.in_row-entry.result.inode.now c.in_ok-inode.inode there c.in_ok-inode.ensures.inode)
          (c.in_ok-push.ensures.items ∙ ap (λ (name : PathName). old ++ (name, c.in_ok-inode.inode) ∷ []) c.in_ok-copy.ensures) c.loop-number.invariant.listed;
      view = c.in_ok-inode.ensures.view;
      rest = rest.1;
    }

pub returns : goal.returns
returns c =
    rows-done (λ rows. filter_map (named_inode c.args.stack.now c.args.dir.now) (map (λ own. own.1) rows)) c.loop-number.number-iterator c.loop-number.inodes.items (inodes_in c.args.stack.now c.args.dir.now) c.in-None.ensures.steps.0 refl c.loop-number.invariant.listed
