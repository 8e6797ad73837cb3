use Rattle.std.proofs.Common.{◌≡◌, [], Bool, Option, refl, subst}
use Rattle.std.specs.Prelude.{MatchOption, unwrap_or}
use Rattle.ovl_names.specs.Paths.{PathNames}
use Rattle.ovl_layer.specs.Layers.{Entries, names_below}
use Rattle.ovl_lookup.specs.declared.steps.OwnDirectory.{OwnDirectory}
use Rattle.ovl_lookup.specs.Passes.{IsOwnDirectory}
use Rattle.ovl_lookup.specs.Stacks.{StackView}
use Rattle.ovl_lookup.specs.Walk.{walk}
use Rattle.ovl_lookup.specs.Words.{top_layer}
use Rattle.ovl_vacuum.specs.Visits.{IsBelowTop}
use Rattle.ovl_vacuum.proofs.directories.TopDirectory.of.Goals as goal

pub returns : goal.returns
returns c =
    let stack : StackView = c.args.stack.now in
    let top : Entries = top_layer stack in
    let path : PathNames = c.args.piece.now.dir in
    let own = subst (λ (found : Option OwnDirectory). MatchOption found (names_below top path ≡ []) (IsOwnDirectory top path)) c.in-Some.is c.in_ok-own.ensures in
    record {
      over = refl;
      stands = refl;
      inside = own.inside;
      here = own.here;
      holds = own.directory;
      below = subst (λ (next : PathNames). IsBelowTop stack next (walk top path).closed c.in_ok-below.below) own.next
          (subst (λ (closed : Bool). IsBelowTop stack (unwrap_or c.in-Some.own.turned path) closed c.in_ok-below.below) own.closed c.in_ok-below.ensures);
    }
