use Rattle.std.proofs.Common.{◌∙◌, ap, subst}
use Rattle.std.specs.Option.{option_map}
use Rattle.ovl_inode.specs.Kinds.{size_of}
use Rattle.ovl_check.specs.Facts.{IsViewBelow, next_of}
use Rattle.ovl_check.proofs.BelowLemmas.{data-nothing, data-below}
use Rattle.ovl_check.proofs.below.data_size_in.Goals as goal

pub returns-in_default : goal.returns-in_default
returns-in_default c i is = data-nothing c.args.stack.now c.ordinary-layers.ensures.each i (next_of c.args.directory.now) (rw c.in_default.is at is) c.args.name.now

pub returns : goal.returns
returns c i is =
    let stack = c.args.stack.now in
    let next = next_of c.args.directory.now in
    c.size_in.ensures ∙ (ap (option_map size_of) c.in_ok-data.ensures ∙ data-below stack i next c.in-Some.view (subst (IsViewBelow stack i next) c.in-Some.is is) c.args.name.now)
