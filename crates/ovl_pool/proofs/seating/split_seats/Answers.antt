use Rattle.std.proofs.Common.{rules, ◌≡◌, ◌∷◌, ◌++◌, [], List, All, IfSome, map, sym, ap, ◌∙◌, subst}
use Rattle.std.proofs.lemmas.List.{map_push}
use Rattle.std.proofs.lemmas.List.Elements.{All-pop, All-push}
use Rattle.ovl_lanes.specs.declared.seats.Seat.{Seat}
use Rattle.ovl_lanes.specs.Lanes.{LaneId, lane_id, thief_id}
use Rattle.ovl_lanes.specs.Seats.{IsNew}
use Rattle.ovl_pool.specs.declared.workers.Worker.{Worker}
use Rattle.ovl_pool.proofs.WorkerThreadLemmas.{IsApart, apart_seated}
use Rattle.ovl_pool.specs.Flows.{HaveNothing}
use Rattle.ovl_pool.proofs.FlowLemmas.{nothing_more}
use Rattle.ovl_pool.proofs.seating.split_seats.Goals as goal

pub loop-lane-preserved : goal.loop-lane-preserved
loop-lane-preserved c =
    let held = c.loop-lane.invariant in
    let ws : List Worker = c.loop-lane.workers.items in
    let ts = c.loop-lane.thieves.items in
    let all = All-pop IsNew c.loop-lane.seats.items c.pop.new.self.items c.pop.result c.pop.ensures.items held.new in
    let seat : Seat = c.in-Some.field-0 in
    let fresh : IsNew seat = subst (λ o. IfSome o IsNew) c.in-Some.is all.1 in
    let w : Worker = record { lane = seat.lane; others = c.new-others.result } in
    let id : Worker → LaneId = λ worker. lane_id worker.lane in
    let more : c.push.new.self.items ≡ ws ++ w ∷ [] = search rules in
    let mores : c.push-in-Some.new.self.items ≡ ts ++ seat.thief ∷ [] = search rules in
    record {
      new = all.0;
      split_seats = subst (All IsApart) (sym more) (All-push IsApart ws w held.split_seats (fresh.0, c.new-others.ensures.items));
      same = ap (map id) more ∙ map_push id ws w ∙ ap (λ ids. ids ++ id w ∷ []) held.same ∙ ap (λ one. map thief_id ts ++ one ∷ []) (sym fresh.1) ∙ sym (map_push thief_id ts seat.thief) ∙ sym (ap (map thief_id) mores);
      all = search rules;
      nothing = subst HaveNothing (sym more) (nothing_more ws w held.nothing (fresh.0, c.new-others.ensures.items));
    }

pub returns-clause-seated : goal.returns-clause-seated
returns-clause-seated c = apart_seated c.loop-lane.thieves.items c.loop-lane.workers.items c.loop-lane.invariant.split_seats c.loop-lane.invariant.same
