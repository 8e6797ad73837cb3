use Rattle.std.proofs.Common.{◌∙◌, map, filter, rules, tests, sym}
use Rattle.std.specs.Prelude.{◌&&◌}
use Rattle.std.proofs.lemmas.Iterator.{YieldsList-from_slice, YieldsList-from_map_by}
use Rattle.std.proofs.lemmas.Iterator.Consumers.{YieldsList-at, YieldsList-from_filter}
use Rattle.std.proofs.lemmas.Result.{IfOk-weaker}
use Rattle.ovl_inode.specs.Marks.{is_directory}
use Rattle.ovl_board.specs.Pieces.{piece_in}
use Rattle.ovl_board.proofs.LawsOfChildren.{children-of}
use Rattle.ovl_rewrite.specs.Directories.{NamedInode, is_kept}
use Rattle.ovl_rewrite.proofs.RoomLemmas.{kept-among}
use Rattle.ovl_rewrite.proofs.kids.directories.Goals as goal

pub returns : goal.returns
returns c =
    let test = λ (entry : NamedInode). is_directory entry.1 && is_kept (piece_in c.args.piece.now entry.0) in
    IfOk-weaker c.children.result _ _ (λ kids is. is ∙ sym (kept-among c.args.piece.now c.args.inodes.now))
    (children-of _ _ c.args.piece.now c.children.result (map (λ (entry : NamedInode). entry.0) (filter test c.args.inodes.now))
    (YieldsList-from_map_by _ (λ name. name.now) (λ (entry : NamedInode). entry.0)
    (YieldsList-at c.map.ensures.source (YieldsList-from_filter _ test (YieldsList-at c.filter-kept.ensures.source (YieldsList-from_slice c.args.inodes.now (cc))) c.filter-kept.ensures.closure (λ x r q k. search (rules, c.under-room.ensures))))
    c.map.ensures.closure (λ x r q k. search (rules, tests))) c.children.ensures)
