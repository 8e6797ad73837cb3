use Rattle.std.proofs.lemmas.List.Elements.{All-rest}
use Rattle.ovl_inode.specs.Tables.{IsAttributePlace}
use Rattle.ovl_inode.proofs.tables.PairsIterator.next.Goals as goal

pub invariant_of-self : goal.invariant_of-self
invariant_of-self c =
    All-rest (IsAttributePlace c.self.inside.names.now c.self.inside.values.now) c.in_ok-first.first.now c.in_ok-first.others.now c.self.inside.places.now c.in_ok-first.ensures.cases.0 c.self.invariant
