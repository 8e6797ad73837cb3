use Rattle.std.proofs.Common.{◌≡◌, ◌∙◌, ◌++◌, List, [], length, sym, ap, arith}
use Rattle.std.specs.Slice.Iter.{iter_rest}
use Rattle.ovl_names.specs.Paths.{PathNames}
use Rattle.ovl_lookup.specs.PathRopes.{names_of_parts}
use Rattle.ovl_lookup.proofs.RopeNameLemmas.{no_parts, at_front}
use Rattle.ovl_lookup.proofs.rope_names.RopeNamesIterator.next.Goals as goal

pub returns-in_default-clause-steps : goal.returns-in_default-clause-steps
returns-in_default-clause-steps c =
    let parts : List PathNames = iter_rest c.loop-self.self-inside.parts in
    let first : c.loop-self.self-inside.first ≡ [] = c.is_empty.ensures.0 c.loop-self-test.true in
    let none : names_of_parts parts ≡ [] = no_parts parts c.in_default.ensures.steps.0 in
    let left : names_of_parts (iter_rest c.next.new.self) ≡ [] = ap (λ it. names_of_parts (iter_rest it)) c.in_default.ensures.steps.1 ∙ none in
    (sym c.loop-self.invariant ∙ (λ j. first j ++ none j), λ j. first j ++ left j)

pub returns-clause-steps : goal.returns-clause-steps
returns-clause-steps c =
    at_front c.next-2.result c.loop-self.self-inside.first c.next-2.new.self (names_of_parts (iter_rest c.loop-self.self-inside.parts)) c.args.self.now c.loop-self.invariant
    (λ none. let bad = sym c.loop-self-test.false ∙ c.is_empty.ensures.1 none in cc)
    c.next-2.ensures.steps

pub loop-self-preserved : goal.loop-self-preserved
loop-self-preserved c =
    let rest : PathNames = names_of_parts (iter_rest c.next.new.self) in
    let first : c.loop-self.self-inside.first ≡ [] = c.is_empty.ensures.0 c.loop-self-test.true in
    ap (λ (own : PathNames). own ++ rest) c.rest-self-inside.ensures.value
    ∙ (ap names_of_parts (sym c.in-Some.ensures.steps)
    ∙ (sym (ap (λ (own : PathNames). own ++ names_of_parts (iter_rest c.loop-self.self-inside.parts)) first) ∙ c.loop-self.invariant))

pub loop-self-smaller : goal.loop-self-smaller
loop-self-smaller c = omega (arith, ap length c.in-Some.ensures.steps)
