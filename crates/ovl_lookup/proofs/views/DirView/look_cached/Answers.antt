use Rattle.std.proofs.Common.{◌≡◌, [], false, sym, subst}
use Rattle.ovl_names.specs.Paths.{PathNames}
use Rattle.ovl_lookup.specs.Merged.{shows_directory}
use Rattle.ovl_lookup.specs.DirViews.{IsSought}
use Rattle.ovl_lookup.proofs.LawsOfLooks.{nothing-under}
use Rattle.ovl_lookup.proofs.views.DirView.look_cached.Goals as goal

pub returns-in_default-2-clause-look : goal.returns-in_default-2-clause-look
returns-in_default-2-clause-look c =
    let stack = c.args.stack.now in
    let dir : PathNames = c.args.dir.now in
    let none : shows_directory stack dir ≡ false = subst (IsSought stack 0 dir) c.in_default-2.is c.in_ok-made.ensures in
    sym (nothing-under stack c.ordinary-layers.ensures.each dir c.args.name.now [] none)
