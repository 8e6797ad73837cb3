use Rattle.std.proofs.Common.{◌≡◌, ◌∙◌, ◌∷◌, [], List, map, refl, sym, ap, subst}
use Rattle.std.specs.List.{AllByRecursion}
use Rattle.ovl_names.specs.Paths.{PathNames}
use Rattle.ovl_layer.specs.Layers.{Entries, names_below}
use Rattle.ovl_layer.specs.Sheets.{path_at}
use Rattle.ovl_layer.specs.RowsBelow.{NamedRow, LiesBelow}
use Rattle.ovl_layer.proofs.RowBelowLemmas.{rows-start, rows-next, rows-done}
use Rattle.ovl_lookup.specs.NamedLists.{names_of}
use Rattle.ovl_merge.specs.declared.candidates.Candidate.{Candidate}
use Rattle.ovl_merge.specs.Candidates.{candidates_told}
use Rattle.ovl_merge.proofs.RowLemmas.{IsOwnRow, named-more, own-more, rows-all}
use Rattle.ovl_merge.proofs.candidates.rows_in.Goals as goal

pub loop-row-init : goal.loop-row-init
loop-row-init c =
    let layer : Entries = c.args.sheet.now in
    let path : PathNames = path_at layer c.args.directory in
    let none : c.in_ok-rows.rows.items ≡ [] = c.in_ok-rows.ensures.items in
    record {
      names = rows-start (map (λ own. own.1)) c.into_iter-row-iterator.result c.below-below.result (names_of (candidates_told c.in_ok-rows.rows.items)) (names_below layer path) c.into_iter-row-iterator.ensures.into_iter_gives (ap (λ (cs : List Candidate). names_of (candidates_told cs)) none) c.below-below.ensures.names;
      own = subst (λ (cs : List Candidate). AllByRecursion (IsOwnRow c.args.side layer path) (candidates_told cs)) (sym none) tt;
      rest = subst (AllByRecursion (LiesBelow layer path)) (sym c.into_iter-row-iterator.ensures.into_iter_gives) c.below-below.ensures.each;
    }

pub loop-row-preserved : goal.loop-row-preserved
loop-row-preserved c =
    let layer : Entries = c.args.sheet.now in
    let path : PathNames = path_at layer c.args.directory in
    let row : NamedRow = (c.in-Some.row, c.in-Some.name.now) in
    let rows : List Candidate = c.loop-row.rows.items in
    let candidate : Candidate = c.in_row.result in
    let rest : AllByRecursion (LiesBelow layer path) (row ∷ c.next.new.self) = subst (AllByRecursion (LiesBelow layer path)) c.in-Some.ensures.steps c.loop-row.invariant.rest in
    record {
      names = rows-next (map (λ own. own.1)) c.loop-row.row-iterator row c.next.new.self (names_of (candidates_told rows)) (names_of (candidates_told c.push.new.self.items)) (row.1 ∷ []) (names_below layer path) c.in-Some.ensures.steps refl
          (ap (λ (cs : List Candidate). names_of (candidates_told cs)) c.in_ok-push.ensures.items ∙ named-more c.args.side layer path rows candidate row c.in_row.ensures) c.loop-row.invariant.names;
      own = subst (λ (cs : List Candidate). AllByRecursion (IsOwnRow c.args.side layer path) (candidates_told cs)) (sym c.in_ok-push.ensures.items) (own-more c.args.side layer path rows candidate row c.in_row.ensures c.loop-row.invariant.own rest.0);
      rest = rest.1;
    }

pub returns : goal.returns
returns c =
    let layer : Entries = c.args.sheet.now in
    let path : PathNames = path_at layer c.args.directory in
    rows-all c.args.side layer path (candidates_told c.loop-row.rows.items)
    (rows-done (map (λ own. own.1)) c.loop-row.row-iterator (names_of (candidates_told c.loop-row.rows.items)) (names_below layer path) c.in-None.ensures.steps.0 refl c.loop-row.invariant.names)
    c.loop-row.invariant.own
