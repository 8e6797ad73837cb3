use Rattle.std.proofs.Common.{◌≡◌, ◌∙◌, Option, true, sym, subst}
use Rattle.ovl_names.specs.Paths.{PathNames}
use Rattle.ovl_merge.specs.Places.{merge_of, shows_own_directory}
use Rattle.ovl_merge.specs.Stands.{StandsAt}
use Rattle.ovl_merge.specs.Reckoned.{IsBelow, upper_next_lookup}
use Rattle.ovl_merge.proofs.ShownLemmas.{shown-by, lower-by, reach-below}
use Rattle.ovl_merge.proofs.directories.Directory.at.Goals as goal

pub returns-then-not-is_shown : goal.returns-then-not-is_shown
returns-then-not-is_shown c =
    let m = merge_of c.args.stack.now in
    let stands = c.in_ok-upper.field-0 in
    let are = c.in_ok-upper.ensures in
    shown-by m c.args.dir.now stands.upper are.next are.upper stands.lower are.lower ∙ sym c.if-not-is_shown.ensures

pub returns : goal.returns
returns c =
    let m = merge_of c.args.stack.now in
    let dir : PathNames = c.args.dir.now in
    let stands = c.in_ok-upper.field-0 in
    let are = c.in_ok-upper.ensures in
    let shown : shows_own_directory m dir ≡ true = shown-by m dir stands.upper are.next are.upper stands.lower are.lower ∙ sym c.if-not-is_shown.ensures in
    let goes : are.next ≡ upper_next_lookup m dir = lower-by m dir stands.upper are.next are.upper stands.lower are.lower (sym c.if-not-is_shown.ensures) in
    record {
      path = c.in_ok-path.ensures;
      shown = shown;
      upper = subst (StandsAt m.upper dir stands.upper) goes are.upper;
      lower = subst (λ (o : Option PathNames). IsBelow m.lower o stands.lower) goes are.lower;
      base = c.in_ok-base.ensures dir shown (reach-below m dir stands.upper are.next are.upper stands.lower are.lower shown);
    }
