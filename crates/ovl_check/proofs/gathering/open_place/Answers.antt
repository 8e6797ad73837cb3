use Rattle.std.proofs.Common.{◌∙◌, ap}
use Rattle.ovl_names.specs.Paths.{PathNames}
use Rattle.ovl_lookup.specs.Merged.{look}
use Rattle.ovl_lookup.specs.ShownKinds.{shown_kind_of}
use Rattle.ovl_check.specs.declared.facts.OldPlace.TheVariants.{Open}
use Rattle.ovl_check.specs.Checks.{layers_below}
use Rattle.ovl_check.proofs.gathering.open_place.Goals as goal

pub returns : goal.returns
returns c =
    let below = layers_below c.args.stack.now c.args.i in
    let thing = c.thing_shown-thing.ensures (look below c.args.place) (c.in_ok-shown_kind_below.ensures ∙ ap (λ (path : PathNames). shown_kind_of (look below path)) c.in_ok-copy.ensures) in
    λ j. Open (thing j) (c.in_ok-is_seen.ensures j)
