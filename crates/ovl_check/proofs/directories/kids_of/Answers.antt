use Rattle.std.proofs.Common.{◌∙◌, map, filter, rules, tests}
use Rattle.std.proofs.lemmas.Iterator.{YieldsList-from_slice, YieldsList-from_map_by}
use Rattle.std.proofs.lemmas.Iterator.Consumers.{YieldsList-at, YieldsList-from_filter}
use Rattle.std.proofs.lemmas.Result.{IfOk-weaker}
use Rattle.std.proofs.lemmas.Simd.{map-map}
use Rattle.ovl_inode.specs.Marks.{is_directory}
use Rattle.ovl_board.specs.Pieces.{piece_in}
use Rattle.ovl_board.proofs.LawsOfChildren.{children-of}
use Rattle.ovl_check.specs.declared.directories.Child.{Child}
use Rattle.ovl_check.proofs.directories.kids_of.Goals as goal

pub returns : goal.returns
returns c =
    let own = filter (λ (child : Child). is_directory child.inode.now) c.args.children.now in
    IfOk-weaker c.children.result _ _ (λ kids is. is ∙ map-map (piece_in c.args.piece.now) (λ (child : Child). child.name.now) own)
    (children-of _ _ c.args.piece.now c.children.result (map (λ (child : Child). child.name.now) own)
    (YieldsList-from_map_by _ (λ name. name.now) (λ (child : Child). child.name.now)
    (YieldsList-at c.map.ensures.source (YieldsList-from_filter _ (λ (child : Child). is_directory child.inode.now) (YieldsList-at c.filter-directories.ensures.source (YieldsList-from_slice c.args.children.now (cc))) c.filter-directories.ensures.closure (λ x r q k. search (rules, tests))))
    c.map.ensures.closure (λ x r q k. search (rules, tests))) c.children.ensures)
