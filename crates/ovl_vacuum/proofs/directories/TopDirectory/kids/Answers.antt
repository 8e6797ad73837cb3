use Rattle.std.proofs.Common.{◌∙◌, length, map, filter, rules, tests, of_calls, refl, sym, ap, subst, arith}
use Rattle.std.proofs.lemmas.Iterator.{YieldsList-from_map_by}
use Rattle.std.proofs.lemmas.Iterator.Adapters.{serves_from_places}
use Rattle.std.proofs.lemmas.Iterator.Consumers.{YieldsList-at, YieldsList-from_filter, YieldsList-from_first}
use Rattle.std.proofs.lemmas.List.Elements.{All-from_recursion}
use Rattle.std.proofs.lemmas.Result.{IfOk-weaker}
use Rattle.std.specs.Iterator.Adapters.{filter_source, filter_callee}
use Rattle.ovl_names.specs.Paths.{PathNames, child_path}
use Rattle.ovl_layer.specs.Layers.{Entries, is_directory_at}
use Rattle.ovl_layer.specs.Sheets.{path_at}
use Rattle.ovl_layer.specs.RowsBelow.{NamedRow, LiesBelow, AreRowsBelow}
use Rattle.ovl_layer.proofs.RowBelowLemmas.{rows-at}
use Rattle.ovl_lookup.specs.Words.{top_layer}
use Rattle.ovl_board.specs.Pieces.{piece_in}
use Rattle.ovl_board.proofs.LawsOfChildren.{children-of}
use Rattle.ovl_vacuum.proofs.VisitLemmas.{directories-below}
use Rattle.ovl_vacuum.proofs.directories.TopDirectory.kids.Goals as goal

-- each row that is tested is in the sheet
pub children-requires : goal.children-requires
children-requires c = λ k. (
  (refl, tt),
  (
    (
      (
        tt,
        tt,
        serves_from_places (YieldsList-from_first (λ row. (row.0, row.1.now)) (λ rows. rows) c.below-rows.result (ap filter_source c.map.ensures.source ∙ c.filter-directories.ensures.source)) (λ x q r. search rules) (λ x i inside is y same a b d e f g.
            let layer : Entries = c.top-sheet.result.now in
            let within : LiesBelow layer (path_at layer c.args.self.now.row) (x.0, x.1.now) = subst (LiesBelow layer (path_at layer c.args.self.now.row)) (sym is) (All-from_recursion _ _ c.below-rows.ensures.each i (x.0, x.1.now) inside) in
            omega (arith, within.0, ap (λ row. row.0) same, ap (λ p. length p.0.now) (ap filter_callee c.map.ensures.source ∙ c.filter-directories.ensures.closure))),
      ),
      search of_calls,
    ),
    tt,
  ),
)

pub returns : goal.returns
returns c =
    let layer : Entries = c.top-sheet.result.now in
    let top : Entries = top_layer c.args.self.now.stack.now in
    let dir : PathNames = c.args.self.now.piece.now.dir in
    let test = λ (row : NamedRow). is_directory_at layer (path_at layer row.0) in
    let are : AreRowsBelow top dir c.below-rows.result = rows-at layer top c.args.self.now.row dir c.below-rows.result c.top-sheet.ensures.value c.requires.here c.below-rows.ensures in
    IfOk-weaker c.children.result _ _ (λ kids is. is ∙ ap (map (piece_in c.args.self.now.piece.now))
    (ap (λ (l : Entries). map (λ (row : NamedRow). row.1) (filter (λ (row : NamedRow). is_directory_at l (path_at l row.0)) c.below-rows.result)) c.top-sheet.ensures.value
    ∙ (directories-below top dir c.below-rows.result are.each
    ∙ ap (filter (λ name. is_directory_at top (child_path dir name))) are.names)))
    (children-of _ _ c.args.self.now.piece.now c.children.result (map (λ (row : NamedRow). row.1) (filter test c.below-rows.result))
    (YieldsList-from_map_by _ (λ name. name.now) (λ (row : NamedRow). row.1)
    (YieldsList-at c.map.ensures.source (YieldsList-from_filter _ test (YieldsList-at c.filter-directories.ensures.source (YieldsList-from_first (λ row. (row.0, row.1.now)) (λ rows. rows) c.below-rows.result refl)) c.filter-directories.ensures.closure (λ x r q k. search (rules, tests))))
    c.map.ensures.closure (λ x r q k. search (rules, tests))) c.children.ensures)
