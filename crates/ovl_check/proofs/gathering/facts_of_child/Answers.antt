use Rattle.std.proofs.Common.{refl, ap, ◌∙◌}
use Rattle.ovl_check.specs.declared.facts.KindFacts.TheVariants.{Metacopy}
use Rattle.ovl_check.specs.Checks.{layer_at, layers_below}
use Rattle.ovl_check.specs.CheckViews.{check_view}
use Rattle.ovl_check.specs.Facts.{asks}
use Rattle.ovl_check.proofs.GatherLemmas.{child-facts, child-whiteout, child-metacopy, child-other}
use Rattle.ovl_check.proofs.gathering.facts_of_child.Goals as goal
use Rattle.ovl_check.proofs.gathering.facts_of_child.Goals.{in-Whiteout, in-Meta+in_ok-data_size-in-Meta, in_default}

pub returns : goal.returns
returns c =
    let work = check_view c.args.work.now in
    let layer = layer_at work.stack c.args.i in
    let below = layers_below work.stack c.args.i in
    let directory = c.args.directory.now in
    let gathered = c.requires.gathered in
    let child = c.args.child.now in
    let name = child.name.now in
    let inode = child.inode.now in (
      refl,
      child-facts work c.args.i directory gathered name _ c.requires.entry c.requires.none c.requires.marked refl refl
          (elim c.match-child.branch [
            | in-Whiteout w ↦ w.kind-is ∙ (w.whiteout_in-kind.ensures c.args.i (λ shut. c.requires.below shut (ap asks w.in-Whiteout.is)) ∙ child-whiteout layer below directory gathered name inode c.requires.entry c.requires.none child.mark.now w.in-Whiteout.is)
            | in-Meta+in_ok-data_size-in-Meta w ↦ w.kind-is ∙ (ap (λ size. Metacopy size) (w.in_ok-data_size-in-Meta.ensures inode) ∙ child-metacopy layer below directory gathered name inode c.requires.entry c.requires.none child.mark.now w.in-Meta.redirect c.requires.marked w.in-Meta.is)
            | in_default w ↦ w.kind-is ∙ child-other layer below directory gathered name inode c.requires.entry c.requires.none child.mark.now c.requires.marked w.in_default.not-Whiteout w.in_default.not-Meta
          ])
          c.requires.blob,
    )
