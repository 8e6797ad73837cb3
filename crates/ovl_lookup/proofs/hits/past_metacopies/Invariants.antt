use Rattle.std.proofs.Common.{◌≡◌, length}
use Rattle.std.specs.Option.{option_map}
use Rattle.ovl_lookup.specs.Hits.{IsHitOver, found_of, past_metacopies}
use Rattle.ovl_lookup.proofs.hits.past_metacopies.Given as goal

-- what is past metacopy files among what is left is what is past them among all things
abbrev pub invariant-loop-next : goal.invariant-loop-next
invariant-loop-next l = record {
  found : past_metacopies (option_map (λ told. told.now) l.told) (found_of l.stack l.next) ≡ past_metacopies (option_map (λ told. told.now) l.fn.place_told) (found_of l.stack l.fn.first);
  over : IsHitOver l.stack l.next;
}

abbrev pub decreases-loop-next : goal.decreases-loop-next
decreases-loop-next l = length (found_of l.stack l.next)
