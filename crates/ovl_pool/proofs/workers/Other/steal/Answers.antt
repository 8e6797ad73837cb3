use Rattle.std.proofs.Common.{rules, refl, sym, subst}
use Rattle.std.proofs.lemmas.List.{get_or_read}
use Rattle.ovl_lanes.specs.Lanes.{IsOfThief}
use Rattle.ovl_pool.specs.Passes.{IsOther}
use Rattle.ovl_pool.proofs.workers.Other.steal.Goals as goal

pub bounds-thieves-self : goal.bounds-thieves-self
unfolding IsOther
bounds-thieves-self c = c.requires.0

pub offset_bounds-thieves-self : goal.offset_bounds-thieves-self
unfolding IsOther
offset_bounds-thieves-self c = let within = c.requires.0 in search rules

pub steal-requires : goal.steal-requires
unfolding IsOther
steal-requires c =
    let thief = c.index-thieves-self in
    subst (λ t. IsOfThief t c.args.self.now.pass) (sym thief.is) (c.requires.1 thief.result)

pub returns-clause-same : goal.returns-clause-same
unfolding IsOther
returns-clause-same c =
    let thief = c.index-thieves-self in (
      (c.requires.0, λ d. subst (λ t. IsOfThief t c.steal.new.pass) (get_or_read c.args.thieves.now c.args.self.now.lane thief.result c.requires.0 thief.is d) c.steal.ensures.same),
      refl,
    )
