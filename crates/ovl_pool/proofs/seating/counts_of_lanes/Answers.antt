use Rattle.std.proofs.Common.{rules, ◌≡◌, ◌+◌, List, [], ◌∷◌, ◌++◌, IfSome, refl, ap, subst, arith, length-append}
use Rattle.std.proofs.lemmas.List.Elements.{All-pop}
use Rattle.ovl_board.specs.declared.pieces.Piece.{Piece}
use Rattle.ovl_board.specs.Balance.{times}
use Rattle.ovl_lanes.specs.Lanes.{IsWhole}
use Rattle.ovl_pool.specs.declared.workers.Worker.{Worker}
use Rattle.ovl_pool.specs.Flows.{all_pushed, all_taken, indicator}
use Rattle.ovl_pool.specs.Passes.{HasNone}
use Rattle.ovl_pool.proofs.FlowLemmas.{settled_more, closed_numbers}
use Rattle.ovl_pool.proofs.seating.counts_of_lanes.Goals as goal

pub loop-lane-init : goal.loop-lane-init
loop-lane-init c = record {
  whole = c.requires.whole;
  none = c.requires.none;
  one_each = c.requires.one_each;
  counted = omega arith;
  numbers = omega arith;
  settled = ([], (refl, λ p. omega arith));
}

pub loop-lane-preserved : goal.loop-lane-preserved
loop-lane-preserved c =
    let held = c.loop-lane.invariant in
    let ws : List Worker = c.loop-lane.workers.items in
    let rest : List Worker = c.pop.new.self.items in
    let w : Worker = c.in-Some.field-0 in
    let items : ws ≡ rest ++ w ∷ [] = search rules in
    let gathered = c.close-gathered.result in
    let whole = All-pop (λ (worker : Worker). IsWhole worker.lane) ws rest c.pop.result c.pop.ensures.items held.whole in
    let none = All-pop HasNone ws rest c.pop.result c.pop.ensures.items held.none in
    let empty : w.others.items ≡ [] = subst (λ o. IfSome o HasNone) c.in-Some.is none.1 in
    let pushed = c.close-gathered.ensures.pushed in
    let taken = c.close-gathered.ensures.taken in
    let numbers = closed_numbers ws rest c.args.workers.items w gathered.pushed gathered.taken c.loop-lane.taken c.loop-lane.left gathered.left items held.none pushed taken gathered.whole held.counted held.numbers in
    let more = c.close-gathered.ensures.left in
    let left = held.settled in
    record {
      whole = whole.0;
      none = none.0;
      one_each = search rules;
      counted = numbers.0;
      numbers = numbers.1;
      settled = (
        left.0 ++ more.0,
        (
          omega (arith, length-append left.0 more.0, left.1.0, more.1.0),
          settled_more c.args.workers.items rest w left.0 more.0 empty
              (subst (λ (l : List Worker). (p : Piece) → all_pushed (indicator p) c.args.workers.items + all_taken (indicator p) l ≡ all_taken (indicator p) c.args.workers.items + all_pushed (indicator p) l + times p left.0) items left.1.1)
              more.1.1,
        ),
      );
    }

pub overflow_add-taken : goal.overflow_add-taken
overflow_add-taken c =
    let held = c.loop-lane.invariant in
    let gathered = c.close-gathered.result in
    let items : c.loop-lane.workers.items ≡ c.pop.new.self.items ++ c.in-Some.field-0 ∷ [] = search rules in
    let numbers = closed_numbers c.loop-lane.workers.items c.pop.new.self.items c.args.workers.items c.in-Some.field-0 gathered.pushed gathered.taken c.loop-lane.taken c.loop-lane.left gathered.left items held.none c.close-gathered.ensures.pushed c.close-gathered.ensures.taken gathered.whole held.counted held.numbers in
    omega (arith, numbers.1, c.requires.fits)

pub overflow_add-left : goal.overflow_add-left
overflow_add-left c =
    let held = c.loop-lane.invariant in
    let gathered = c.close-gathered.result in
    let items : c.loop-lane.workers.items ≡ c.pop.new.self.items ++ c.in-Some.field-0 ∷ [] = search rules in
    let numbers = closed_numbers c.loop-lane.workers.items c.pop.new.self.items c.args.workers.items c.in-Some.field-0 gathered.pushed gathered.taken c.loop-lane.taken c.loop-lane.left gathered.left items held.none c.close-gathered.ensures.pushed c.close-gathered.ensures.taken gathered.whole held.counted held.numbers in
    omega (arith, numbers.1, c.requires.fits)

pub returns-clause-left : goal.returns-clause-left
returns-clause-left c =
    let left = c.loop-lane.invariant.settled in
    let none : c.loop-lane.workers.items ≡ [] = search rules in
    (left.0, (left.1.0, λ p. omega (arith, left.1.1 p, ap (all_taken (indicator p)) none, ap (all_pushed (indicator p)) none)))
