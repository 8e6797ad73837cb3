use Rattle.std.proofs.Common.{◌≡◌, map, take}
use Rattle.ovl_lookup.specs.ViewPasses.{tops_told, looks_from_tops}
use Rattle.ovl_lookup.specs.DirViews.{places_in}
use Rattle.ovl_lookup.proofs.views.DirView.names.Given as goal

-- the names so far at which something is shown
abbrev pub invariant-loop-top : goal.invariant-loop-top
invariant-loop-top l = l.names.items ≡ map (λ e. e.0) (looks_from_tops l.stack (places_in l.stack l.self.places.items) (tops_told (take l.top-index l.top-items)))
