use Rattle.std.proofs.Common.{◌∙◌, sym, ap, cond, Bool, false, Option, Some, None}
use Rattle.std.specs.Prelude.{not, ◌||◌, ◌&&◌}
use Rattle.ovl_inode.specs.declared.inodes.Inode.{Inode}
use Rattle.ovl_inode.specs.Marks.{is_directory}
use Rattle.ovl_lookup.specs.Sound.{is_moved}
use Rattle.ovl_board.specs.Pieces.{piece_at}
use Rattle.ovl_check.specs.CheckViews.{check_view}
use Rattle.ovl_check.specs.Facts.{next_of}
use Rattle.ovl_check.proofs.OutLemmas.{seen-same, found-all}
use Rattle.ovl_check.proofs.checks.directory_out.Goals as goal

pub returns : goal.returns
returns c =
    let work = check_view c.args.work.now in
    let directory = c.args.directory in
    let gathered = c.requires.gathered in
    seen-same work (piece_at c.args.layer directory.path.now) _ (next_of directory) directory.closed _ _
    (ap (λ (o : Option Inode). elim o as (λ _. Bool) [ Some i ↦ is_directory i | None ↦ false ]) gathered.inode ∙ gathered.kind)
    (found-all work c.args.layer directory gathered c.new-findings.result.items c.push_directory.new.findings.items _ c.new-findings.ensures.items c.in_ok-push_directory.ensures
    c.in_ok-push_files.ensures)
    gathered.next
    gathered.closed
    (c.in_ok-place.ensures ∙ ap (λ (b : Bool). cond b None (Some (next_of directory))) (c.is_hidden.ensures ∙ ap (λ (o : Bool). not o || directory.closed) c.is_ordinary-ordinary.ensures))
    (c.is_moved_in-moved.ensures ∙ (λ j. c.is_ordinary-ordinary.ensures j && is_moved (sym gathered.mark j)))
