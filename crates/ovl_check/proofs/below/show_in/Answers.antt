use Rattle.std.proofs.Common.{◌∙◌, subst}
use Rattle.ovl_check.specs.Facts.{IsViewBelow, next_of}
use Rattle.ovl_check.proofs.BelowLemmas.{shows-nothing, shows-below}
use Rattle.ovl_check.proofs.below.show_in.Goals as goal

pub returns-in-Some : goal.returns-in-Some
returns-in-Some c i is =
    let stack = c.args.stack.now in
    let next = next_of c.args.directory.now in
    c.shows.ensures ∙ shows-below stack i next c.in-Some.view (subst (IsViewBelow stack i next) c.in-Some.is is) c.args.name.now

pub returns-in-None : goal.returns-in-None
returns-in-None c i is = shows-nothing c.args.stack.now c.ordinary-layers.ensures.each i (next_of c.args.directory.now) (rw c.in-None.is at is) c.args.name.now
