use Rattle.std.proofs.Common.{◌∙◌, Some, None, sym}
use Rattle.std.proofs.lemmas.List.{append-nil}
use Rattle.ovl_lookup.proofs.ShownInodeLemmas.{shown-more, not-some}
use Rattle.ovl_lookup.proofs.inodes.inodes_of.Goals as goal

pub loop-name-preserved-in-Continue-branch-2 : goal.loop-name-preserved-in-Continue-branch-2
loop-name-preserved-in-Continue-branch-2 c =
    c.in_ok-push.ensures.items
    ∙ shown-more c.loop-name.yielded c.in-Some.name c.in-Some.look c.loop-name.inodes.items (Some c.in-Some-into_inode.inode) c.loop-name.invariant (sym c.in-Some-into_inode.is ∙ c.into_inode.ensures)

pub loop-name-preserved : goal.loop-name-preserved
loop-name-preserved c =
    sym (append-nil c.loop-name.inodes.items)
    ∙ shown-more c.loop-name.yielded c.in-Some.name c.in-Some.look c.loop-name.inodes.items None c.loop-name.invariant (sym (not-some c.into_inode.result c.in_default.not-Some) ∙ c.into_inode.ensures)

pub loop-name-preserved-in_default : goal.loop-name-preserved-in_default
loop-name-preserved-in_default c =
    sym (append-nil c.loop-name.inodes.items)
    ∙ shown-more c.loop-name.yielded c.in-Some.name c.in-Some.look c.loop-name.inodes.items None c.loop-name.invariant (sym (not-some c.into_inode.result c.in_default.not-Some) ∙ c.into_inode.ensures)
