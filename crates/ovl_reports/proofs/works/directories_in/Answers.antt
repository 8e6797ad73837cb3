use Rattle.std.proofs.Common.{◌∙◌, map, filter, rules, tests}
use Rattle.std.proofs.lemmas.Iterator.{YieldsList-from_slice, YieldsList-from_map_by}
use Rattle.std.proofs.lemmas.Iterator.Consumers.{YieldsList-at, YieldsList-from_filter}
use Rattle.std.proofs.lemmas.Result.{IfOk-weaker}
use Rattle.std.proofs.lemmas.Simd.{map-map}
use Rattle.ovl_lookup.specs.Merged.{is_shown_directory}
use Rattle.ovl_board.specs.Pieces.{piece_in}
use Rattle.ovl_board.proofs.LawsOfChildren.{children-of}
use Rattle.ovl_reports.specs.Directories.{NamedLook}
use Rattle.ovl_reports.proofs.works.directories_in.Goals as goal

pub returns : goal.returns
returns c =
    let own = filter (λ (entry : NamedLook). is_shown_directory entry.1) c.args.looks.now in
    IfOk-weaker c.children.result _ _ (λ kids is. is ∙ map-map (piece_in c.args.piece.now) (λ (entry : NamedLook). entry.0) own)
    (children-of _ _ c.args.piece.now c.children.result (map (λ (entry : NamedLook). entry.0) own)
    (YieldsList-from_map_by _ (λ name. name.now) (λ (entry : NamedLook). entry.0)
    (YieldsList-at c.map.ensures.source (YieldsList-from_filter _ (λ (entry : NamedLook). is_shown_directory entry.1) (YieldsList-at c.filter-directories.ensures.source (YieldsList-from_slice c.args.looks.now (cc))) c.filter-directories.ensures.closure (λ x r q k. search (rules, tests))))
    c.map.ensures.closure (λ x r q k. search (rules, tests))) c.children.ensures)
