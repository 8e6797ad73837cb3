use Rattle.std.proofs.Common.{◌∙◌, not, unwrap_or, reverse, sym, ap}
use Rattle.std.specs.Cmp.Lexicographic.{nat_list_eq_equiv, lists_equiv}
use Rattle.ovl_names.specs.Paths.{PathNames}
use Rattle.ovl_lookup.specs.PathRopes.{rope_eq}
use Rattle.ovl_check.proofs.gathering.is_elsewhere.Goals as goal

pub returns-in-None : goal.returns-in-None
returns-in-None c =
    let place : PathNames = c.args.place.now in
    sym (ap (λ turned. not (rope_eq (unwrap_or turned place) place)) c.in-None.is
    ∙ ap not ((lists_equiv nat_list_eq_equiv).refl (reverse place)))
