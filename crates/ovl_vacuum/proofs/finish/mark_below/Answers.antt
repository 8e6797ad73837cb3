use Rattle.std.proofs.Common.{◌≡◌, ◌∙◌, ◌∷◌, List, get_or, map, refl, sym, ap, subst}
use Rattle.std.specs.List.{AllByRecursion}
use Rattle.ovl_names.specs.Paths.{PathNames}
use Rattle.ovl_layer.specs.Sheets.{path_at}
use Rattle.ovl_layer.specs.RowsBelow.{NamedRow, LiesBelow, AreRowsBelow}
use Rattle.ovl_layer.proofs.RowBelowLemmas.{rows-at}
use Rattle.ovl_lookup.specs.Stacks.{StackView}
use Rattle.ovl_lookup.specs.Words.{top_layer}
use Rattle.ovl_lookup.proofs.LawsOfLooks.{top-layer}
use Rattle.ovl_vacuum.specs.Directories.{IdleName, idle_name}
use Rattle.ovl_vacuum.proofs.RowLemmas.{ToldExcept, except-all, except-next, except-none, drop-first}
use Rattle.ovl_vacuum.proofs.finish.mark_below.Goals as goal

pub loop-row-init : goal.loop-row-init
loop-row-init c =
    let stack : StackView = c.args.stack.now in
    let directory : PathNames = path_at (top_layer stack) c.args.directory in
    let are : AreRowsBelow (top_layer stack) directory c.below-row-items.result = rows-at c.top.result.now (top_layer stack) c.args.directory directory c.below-row-items.result c.top.ensures.value refl c.below-row-items.ensures in
    let given : c.into_iter-row-iterator.result ≡ c.below-row-items.result = c.into_iter-row-iterator.ensures.into_iter_gives in
    record {
      among = subst (λ (rows : List NamedRow). ToldExcept stack c.args.directory rows c.args.idle.now.items c.args.idle.now.items) (sym given) (except-all stack c.args.directory (top-layer stack c.top.ensures.some c.top.ensures.each) c.below-row-items.result c.args.idle.now.items are);
      names = c.requires.names ∙ (sym (ap (map (idle_name stack directory)) are.names) ∙ ap (λ (rows : List NamedRow). map (idle_name stack directory) (map (λ own. own.1) rows)) (sym given));
      rest = subst (AllByRecursion (LiesBelow (top_layer stack) directory)) (sym given) are.each;
    }

-- the name of the next row, with whether its entry is idle
pub bounds-names-place : goal.bounds-names-place
bounds-names-place c =
    let stack : StackView = c.args.stack.now in
    let directory : PathNames = path_at (top_layer stack) c.args.directory in
    let told : List NamedRow → List IdleName = λ rows. map (idle_name stack directory) (map (λ own. own.1) rows) in
    let own : IdleName = idle_name stack directory c.in-Some.field-0-1.now in
    (drop-first c.loop-row.place c.args.names.now (told c.next.new.self) own own (c.loop-row.invariant.names ∙ ap told c.in-Some.ensures.steps)).0

pub loop-row-preserved : goal.loop-row-preserved
loop-row-preserved c =
    let stack : StackView = c.args.stack.now in
    let directory : PathNames = path_at (top_layer stack) c.args.directory in
    let told : List NamedRow → List IdleName = λ rows. map (idle_name stack directory) (map (λ own. own.1) rows) in
    let row : NamedRow = (c.in-Some.row, c.in-Some.field-0-1.now) in
    let own : IdleName = idle_name stack directory row.1 in
    let entry : IdleName = c.index-names-place.result in
    let rest : AllByRecursion (LiesBelow (top_layer stack) directory) (row ∷ c.next.new.self) = subst (AllByRecursion (LiesBelow (top_layer stack) directory)) c.in-Some.ensures.steps c.loop-row.invariant.rest in
    let next = drop-first c.loop-row.place c.args.names.now (told c.next.new.self) own entry (c.loop-row.invariant.names ∙ ap told c.in-Some.ensures.steps) in
    record {
      among = except-next stack c.args.directory (top-layer stack c.top.ensures.some c.top.ensures.each) c.loop-row.row-iterator row c.next.new.self c.args.idle.now.items c.loop-row.idle.items (get_or c.args.names.now c.loop-row.place entry).1 c.requires.count c.in-Some.ensures.steps rest.0
          (ap (λ (e : IdleName). e.1) next.1) c.loop-row.invariant.among;
      names = next.2;
      rest = rest.1;
    }

pub returns : goal.returns
returns c =
    except-none c.args.stack.now c.args.directory c.args.idle.now.items c.loop-row.idle.items
    (subst (λ (rows : List NamedRow). ToldExcept c.args.stack.now c.args.directory rows c.args.idle.now.items c.loop-row.idle.items) c.in-None.ensures.steps.0 c.loop-row.invariant.among)
