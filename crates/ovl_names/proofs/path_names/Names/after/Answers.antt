use Rattle.std.proofs.Common.{◌≡◌, ◌∙◌, ◌∷◌, [], List, ℕ, Option, Some, None, Bor, MatchOption, false, length, length-drop, drop, sym, ap, arith}
use Rattle.std.specs.Prelude.{is_some, not}
use Rattle.std.proofs.lemmas.List.{drop_all, drop-drop}
use Rattle.ovl_names.specs.Paths.{PathNames}
use Rattle.ovl_names.proofs.path_names.Names.after.Goals as goal

-- what a call leaves
one_past : (r : Option (Bor (List ℕ))) (old new : PathNames) → MatchOption r ((old ≡ []) × (new ≡ [])) (λ x. old ≡ x.now ∷ new) → new ≡ drop 1 old
one_past None old new none = none.1 ∙ sym (ap (drop 1) none.0)
one_past (Some x) old new some = sym (ap (drop 1) some)

at_end : (r : Option (Bor (List ℕ))) (old new : PathNames) → MatchOption r ((old ≡ []) × (new ≡ [])) (λ x. old ≡ x.now ∷ new) → is_some r ≡ false → (old ≡ []) × (new ≡ [])
at_end None old new none is = none
at_end (Some x) old new some is = cc

pub loop-preserved : goal.loop-preserved
loop-preserved c =
    one_past c.next.result c.loop.names c.next.new.self c.next.ensures.steps
    ∙ (ap (drop 1) c.loop.invariant ∙ drop-drop 1 c.loop.counter c.args.self.now)

pub returns-then-is_none : goal.returns-then-is_none
returns-then-is_none c =
    let end = at_end c.next.result c.loop.names c.next.new.self c.next.ensures.steps (c.is_none.ensures ∙ ap not c.if-is_none.true) in
    let short : length (drop c.loop.counter c.args.self.now) ≡ 0 = ap length (sym c.loop.invariant ∙ end.0) in
    end.1 ∙ sym (drop_all c.args.count c.args.self.now (omega (arith, short, length-drop c.loop.counter c.args.self.now, c.loop-test.true)))
