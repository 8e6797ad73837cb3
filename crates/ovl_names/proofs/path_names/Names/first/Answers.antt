use Rattle.std.proofs.Common.{◌≡◌, ◌≤◌, ◌<◌, ◌-◌, ◌+◌, ◌++◌, ◌∷◌, [], Bool, true, false, ◌∙◌, ℕ, List, length, take, take_all, drop, append_assoc, length-append, length-take, refl, sym, ap, arith}
use Rattle.std.proofs.lemmas.List.{take-append-drop, take-append-le}
use Rattle.std.specs.Prelude.{nat_lt}
use Rattle.std.proofs.lemmas.Bool.Decides.{nat_tests}
use Rattle.ovl_names.specs.Paths.{PathNames}
use Rattle.ovl_names.proofs.path_names.Names.first.Goals.{in-Some, in_default}
use Rattle.ovl_names.proofs.path_names.Names.first.Goals as goal

-- the first `count` names, where one is dropped for each number from `count` on
first_names : (path : PathNames) (count at : ℕ) → length path ≤ at → (count ≤ length path → at ≤ length path) → (length path ≤ count → at ≡ count) → take (length path - (at - count)) path ≡ take count path
first_names path count at past up still = by (nat_lt count (length path)) refl
  where
    by : (b : Bool) → nat_lt count (length path) ≡ b → take (length path - (at - count)) path ≡ take count path
    by true e =
        let below : count < length path = grind (arith, nat_tests) in
        let end : at ≤ length path = up (omega arith) in
        ap (λ n. take n path) (omega arith)
    by false e =
        let above : length path ≤ count = grind (arith, nat_tests) in
        let end : at ≡ count = still above in
        take_all (length path - (at - count)) path (omega arith) ∙ sym (take_all count path above)

-- one name fewer
one_fewer : (path names above : PathNames) (last : List ℕ) (count : ℕ) → count ≤ length path → names ≡ take count path → names ≡ above ++ last ∷ [] → above ≡ take (count - 1) path
one_fewer path names above last count within first parts =
    let whole : take count path ≡ above ++ last ∷ [] = sym first ∙ parts in
    let len : length above + 1 ≡ count = omega (arith, ap length whole, length-take count path, length-append above (last ∷ [])) in
    let apart : path ≡ above ++ (last ∷ [] ++ drop count path) = sym (take-append-drop count path) ∙ (ap (λ front. front ++ drop count path) whole ∙ append_assoc above (last ∷ []) (drop count path)) in
    sym (ap (take (count - 1)) apart ∙ (ap (λ n. take n (above ++ (last ∷ [] ++ drop count path))) (omega (arith, len)) ∙ (take-append-le (length above) above (last ∷ [] ++ drop count path) (omega arith) ∙ take_all (length above) above (omega arith))))

-- and where there is none
no_fewer : (path names : PathNames) (count : ℕ) → count ≤ length path → names ≡ take count path → names ≡ [] → names ≡ take (count - 1) path
no_fewer path names count within first none =
    let end : count ≡ 0 = omega (arith, ap length (sym first ∙ none), length-take count path) in
    let less : count - 1 ≡ 0 = omega (arith, end) in
    none ∙ sym (ap (λ n. take n path) less)

pub returns : goal.returns
returns c =
    let len : c.self.inside.len ≡ length c.args.self.now = c.self.invariant.0 ∙ ap length c.self.view_is in
    c.loop.invariant.names
    ∙ first_names c.args.self.now c.args.count c.loop.counter (omega (arith, c.loop-test.false, len)) (λ low. omega (arith, low, len, c.loop.auto.counter-end)) (λ high. c.loop.invariant.still (omega (arith, high, len)))

pub loop-preserved : goal.loop-preserved
loop-preserved c =
    let path : PathNames = c.args.self.now in
    let left : ℕ = length path - (c.loop.counter - c.args.count) in
    let next : left - 1 ≡ length path - (c.loop.counter + 1 - c.args.count) = omega (arith, c.loop.auto.counter) in
    let fewer : c.match-split_last.names ≡ take (left - 1) path = elim c.match-split_last.branch [
      | in-Some w ↦ w.names-is ∙ one_fewer path c.loop.names w.in-Some.above w.in-Some.field-0-0.now left (omega arith) c.loop.invariant.names w.in-Some.ensures.value
      | in_default w ↦ w.names-is ∙ no_fewer path c.loop.names left (omega arith) c.loop.invariant.names w.in_default.ensures.value
    ] in record {
      names = fewer ∙ ap (λ n. take n path) next;
      still = λ high. absurd (omega (arith, high, c.loop.auto.counter, c.loop-test.true));
    }
