use Rattle.std.proofs.Common.{rules, ◌<◌, ap, ◌∙◌, List, ℕ, length, arith}
use Rattle.std.proofs.lemmas.List.Elements.{All-set}
use Rattle.std.proofs.Math.Seq.{map-set_same}
use Rattle.ovl_pool.specs.declared.workers.Other.{Other}
use Rattle.ovl_pool.specs.Passes.{IsOther, ends_of}
use Rattle.ovl_pool.proofs.FlowLemmas.{stolen_none}
use Rattle.ovl_pool.proofs.workers.Worker.find.Goals as goal

pub returns-in-Some-steal-clause-same : goal.returns-in-Some-steal-clause-same
returns-in-Some-steal-clause-same c =
    let e = c.steal.ensures.same.1 ∙ ap (λ (o : Other). o.lane) c.index_mut.ensures.value in
    ap (λ (names : List ℕ). record { ends = ends_of c.loop-i.self.lane; named = names }) (map-set_same (λ (o : Other). o.lane) c.loop-i.self.others.items c.loop-i.i c.steal.new.self c.index_mut.result.now e)
    ∙ c.loop-i.invariant.same

pub loop-i-preserved : goal.loop-i-preserved
loop-i-preserved c =
    let e = c.steal.ensures.same.1 ∙ ap (λ (o : Other). o.lane) c.index_mut.ensures.value in record {
      passes = All-set (IsOther c.args.thieves.now) c.loop-i.self.others.items c.loop-i.i c.steal.new.self c.steal.ensures.same.0 c.loop-i.invariant.passes;
      same = ap (λ (names : List ℕ). record { ends = ends_of c.loop-i.self.lane; named = names }) (map-set_same (λ (o : Other). o.lane) c.loop-i.self.others.items c.loop-i.i c.steal.new.self c.index_mut.result.now e)
          ∙ c.loop-i.invariant.same;
      untouched = λ h.
          let within : c.loop-i.i < length c.loop-i.self.others.items = search rules in
          let none = stolen_none h c.loop-i.self.others.items c.loop-i.i c.index_mut.result.now c.steal.new.self within c.index_mut.ensures.value c.in_default-steal.ensures.counted in
          let held = c.loop-i.invariant.untouched h in (omega (arith, none, held.0), omega (arith, held.1));
    }
