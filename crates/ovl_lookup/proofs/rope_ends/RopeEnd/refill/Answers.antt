use Rattle.std.proofs.Common.{◌≡◌, ◌∙◌, ◌++◌, ◌∷◌, List, [], length, length-append, append-nil, sym, ap, arith}
use Rattle.std.specs.Slice.Iter.{iter_rest}
use Rattle.ovl_names.specs.Paths.{PathNames}
use Rattle.ovl_lookup.specs.PathRopes.{names_of_parts}
use Rattle.ovl_lookup.proofs.RopeNameLemmas.{no_parts, parts-push}
use Rattle.ovl_lookup.proofs.rope_ends.RopeEnd.refill.Goals as goal

pub returns-in_default-clause-names : goal.returns-in_default-clause-names
returns-in_default-clause-names c =
    ap (λ it. names_of_parts (iter_rest it) ++ c.loop-self.self.last) c.in_default.ensures.steps.1 ∙ c.loop-self.invariant

pub returns-in_default-clause-all : goal.returns-in_default-clause-all
returns-in_default-clause-all c none =
    ap (λ it. names_of_parts (iter_rest it)) c.in_default.ensures.steps.1 ∙ no_parts (iter_rest c.loop-self.self.parts) c.in_default.ensures.steps.0

pub returns-clause-all : goal.returns-clause-all
returns-clause-all c none = let bad = sym c.loop-self-test.false ∙ c.is_empty.ensures.1 none in cc

pub loop-self-preserved : goal.loop-self-preserved
loop-self-preserved c =
    let rest : List PathNames = iter_rest c.next_back.new.self in
    let parts : PathNames = names_of_parts (iter_rest c.loop-self.self.parts) in
    let none : c.loop-self.self.last ≡ [] = c.is_empty.ensures.0 c.loop-self-test.true in
    ap (λ (own : PathNames). names_of_parts rest ++ own) c.rest-self.ensures.value
    ∙ (sym (parts-push rest c.in-Some.part.now)
    ∙ (ap names_of_parts (sym c.in-Some.ensures.steps)
    ∙ (sym (append-nil parts) ∙ (ap (λ (own : PathNames). parts ++ own) (sym none) ∙ c.loop-self.invariant))))

pub loop-self-smaller : goal.loop-self-smaller
loop-self-smaller c = omega (arith, ap length c.in-Some.ensures.steps, length-append (iter_rest c.next_back.new.self) (c.in-Some.part.now ∷ []))
