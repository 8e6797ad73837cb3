use Rattle.std.proofs.Common.{◌≡◌, take}
use Rattle.ovl_lookup.specs.ViewPasses.{tops_told, looks_from_tops}
use Rattle.ovl_lookup.specs.DirViews.{places_in}
use Rattle.ovl_lookup.proofs.views.DirView.looks.Given as goal

-- the looks at the names so far
abbrev pub invariant-loop-top : goal.invariant-loop-top
invariant-loop-top l = l.looks.items ≡ looks_from_tops l.stack (places_in l.stack l.self.places.items) (tops_told (take l.top-index l.top-items))
