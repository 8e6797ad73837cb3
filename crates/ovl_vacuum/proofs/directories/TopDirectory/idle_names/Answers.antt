use Rattle.std.proofs.Common.{◌∙◌, ◌++◌, ◌∷◌, [], List, map, refl, sym, ap, subst}
use Rattle.std.specs.List.{AllByRecursion}
use Rattle.ovl_names.specs.Names.{PathName}
use Rattle.ovl_names.specs.Paths.{PathNames}
use Rattle.ovl_layer.specs.RowsBelow.{LiesBelow, AreRowsBelow}
use Rattle.ovl_layer.proofs.RowBelowLemmas.{rows-at, rows-start, rows-next, rows-done}
use Rattle.ovl_lookup.specs.Stacks.{StackView}
use Rattle.ovl_lookup.specs.Words.{top_layer}
use Rattle.ovl_vacuum.specs.Directories.{IdleName, idle_name, vacuum_out}
use Rattle.ovl_vacuum.proofs.directories.TopDirectory.idle_names.Goals as goal

pub loop-row-init : goal.loop-row-init
loop-row-init c =
    let stack : StackView = c.args.self.now.stack.now in
    let dir : PathNames = c.args.self.now.piece.now.dir in
    let are : AreRowsBelow (top_layer stack) dir c.below-rows.result = rows-at c.top-sheet.result.now (top_layer stack) c.args.self.now.row dir c.below-rows.result c.top-sheet.ensures.value c.requires.here c.below-rows.ensures in
    record {
      whole = tt;
      names = rows-start (λ rows. map (idle_name stack dir) (map (λ own. own.1) rows)) c.into_iter-row-iterator.result c.below-rows.result c.in_ok-names.names.items (vacuum_out stack c.args.self.now.piece.now) c.into_iter-row-iterator.ensures.into_iter_gives c.in_ok-names.ensures.items (ap (map (idle_name stack dir)) are.names);
      rest = subst (AllByRecursion (LiesBelow (top_layer stack) dir)) (sym c.into_iter-row-iterator.ensures.into_iter_gives) are.each;
    }

pub idle_name-requires-clause-inside : goal.idle_name-requires-clause-inside
idle_name-requires-clause-inside c = (subst (AllByRecursion (LiesBelow (top_layer c.args.self.now.stack.now) c.args.self.now.piece.now.dir)) c.in-Some.ensures.steps c.loop-row.invariant.rest).0.0

pub idle_name-requires-clause-stands : goal.idle_name-requires-clause-stands
idle_name-requires-clause-stands c = (subst (AllByRecursion (LiesBelow (top_layer c.args.self.now.stack.now) c.args.self.now.piece.now.dir)) c.in-Some.ensures.steps c.loop-row.invariant.rest).0.1

pub loop-row-preserved : goal.loop-row-preserved
loop-row-preserved c =
    let stack : StackView = c.args.self.now.stack.now in
    let dir : PathNames = c.args.self.now.piece.now.dir in
    let name : PathName = c.in-Some.name.now in
    let old : List IdleName = c.loop-row.names.items in
    let rest : AllByRecursion (LiesBelow (top_layer stack) dir) ((c.in-Some.row, name) ∷ c.next.new.self) = subst (AllByRecursion (LiesBelow (top_layer stack) dir)) c.in-Some.ensures.steps c.loop-row.invariant.rest in
    record {
      whole = c.in_ok-idle_name.ensures.whole;
      names = rows-next (λ rows. map (idle_name stack dir) (map (λ own. own.1) rows)) c.loop-row.row-iterator (c.in-Some.row, name) c.next.new.self old c.push.new.self.items (idle_name stack dir name ∷ []) (vacuum_out stack c.args.self.now.piece.now) c.in-Some.ensures.steps refl
          (c.in_ok-push.ensures.items ∙ ap (λ (told : IdleName). old ++ told ∷ []) c.in_ok-idle_name.ensures.name) c.loop-row.invariant.names;
      rest = rest.1;
    }

pub returns : goal.returns
returns c =
    rows-done (λ rows. map (idle_name c.args.self.now.stack.now c.args.self.now.piece.now.dir) (map (λ own. own.1) rows)) c.loop-row.row-iterator c.loop-row.names.items (vacuum_out c.args.self.now.stack.now c.args.self.now.piece.now) c.in-None.ensures.steps.0 refl c.loop-row.invariant.names
