use Rattle.std.proofs.Common.{◌≡◌, ◌∙◌, zero, List, IfOk, sym, ap, subst, refl}
use Rattle.ovl_inode.specs.declared.inodes.Inode.{Inode}
use Rattle.ovl_inode.specs.Marks.{mark_of}
use Rattle.ovl_lookup.specs.declared.looks.Look.TheVariants.{Shown}
use Rattle.ovl_lookup.specs.Stacks.{StackView}
use Rattle.ovl_lookup.specs.Merged.{shown_of}
use Rattle.ovl_lookup.specs.Views.{ReachedDirectory}
use Rattle.ovl_lookup.specs.DirViews.{places_in}
use Rattle.ovl_lookup.proofs.ViewLookLemmas.{first-entry, whiteout-shows, full-shows}
use Rattle.ovl_lookup.proofs.views.look_at.Goals as goal

pub returns-then-is_whiteout : goal.returns-then-is_whiteout
returns-then-is_whiteout c =
    let stack : StackView = c.args.stack.now in
    let places : List ReachedDirectory = places_in stack c.args.places.now in
    let inode : Inode = c.args.inode.now in
    let first = first-entry stack.layers c.args.name.now places inode c.requires.first in
    sym (whiteout-shows stack.data_only stack.layers c.args.name.now places zero first.0 first.1 inode (mark_of inode) first.2 refl (sym c.is_whiteout.ensures ∙ c.if-is_whiteout.true))

pub returns-then-not-lacks_contents : goal.returns-then-not-lacks_contents
returns-then-not-lacks_contents c =
    let stack : StackView = c.args.stack.now in
    let places : List ReachedDirectory = places_in stack c.args.places.now in
    let inode : Inode = c.args.inode.now in
    let first = first-entry stack.layers c.args.name.now places inode c.requires.first in
    ap Shown c.in_ok-visible.ensures
    ∙ sym (full-shows stack.data_only stack.layers c.args.name.now places zero first.0 first.1 inode (mark_of inode) first.2 refl (sym c.is_whiteout.ensures ∙ c.if-is_whiteout.false) (sym c.lacks_contents.ensures ∙ c.if-not-lacks_contents.true))

pub returns : goal.returns
returns c =
    let stack : StackView = c.args.stack.now in
    subst (λ (found : List Inode). IfOk c.look_of.result (λ look. look ≡ shown_of stack.data_only found)) c.first_in.ensures.found c.look_of.ensures
