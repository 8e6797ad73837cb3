use Rattle.std.proofs.Common.{refl, ap, ◌∙◌}
use Rattle.ovl_check.specs.declared.facts.KindFacts.TheVariants.{Moved}
use Rattle.ovl_check.specs.Checks.{layer_at, layers_below}
use Rattle.ovl_check.specs.CheckViews.{check_view}
use Rattle.ovl_check.proofs.GatherLemmas.{root-told, directory-facts, directory-moved, directory-other}
use Rattle.ovl_check.proofs.gathering.facts_of_directory.Goals as goal
use Rattle.ovl_check.proofs.gathering.facts_of_directory.Goals.{in-DirMoved+in_ok-old_place-in-DirMoved, in_default}

pub returns : goal.returns
returns c =
    let work = check_view c.args.work.now in
    let layer = layer_at work.stack c.args.i in
    let below = layers_below work.stack c.args.i in
    let directory = c.args.directory.now in
    let gathered = c.requires.gathered in (
      refl,
      directory-facts work c.args.i directory gathered c.is_empty.result _ c.args.holds_origin (root-told c.is_empty.result directory.path.now c.is_empty.ensures)
          (elim c.match-directory.branch [
            | in-DirMoved+in_ok-old_place-in-DirMoved w ↦ w.kind-is ∙ (ap (λ place. Moved place) w.in_ok-old_place-in-DirMoved.ensures ∙ directory-moved layer directory gathered below w.in-DirMoved.field-0 w.in-DirMoved.is)
            | in_default w ↦ w.kind-is ∙ directory-other layer directory gathered below w.in_default.not-DirMoved
          ])
          c.requires.origin,
    )
