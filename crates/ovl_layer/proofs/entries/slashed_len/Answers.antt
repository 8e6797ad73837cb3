use Rattle.std.proofs.Common.{◌≡◌, ◌+◌, ◌∙◌, ◌∷◌, List, ℕ, true, sym, ap, arith, length, length-append}
use Rattle.ovl_names.specs.Names.{is_name, slash}
use Rattle.ovl_names.specs.Paths.{PathNames, has_names}
use Rattle.ovl_names.proofs.Ascending.{both}
use Rattle.ovl_layer.specs.TextPaths.{slashed}
use Rattle.ovl_layer.proofs.EntryLemmas.{name_length}
use Rattle.ovl_layer.proofs.entries.slashed_len.Goals as goal

pub loop-name-init : goal.loop-name-init
loop-name-init c =
    let all : c.into_iter-name-iterator.result ≡ c.args.path.now = c.into_iter-name-iterator.ensures.into_iter_gives ∙ c.names-name-items.ensures.value in
    record {
      counted = ap (λ (names : PathNames). 0 + length (slashed names)) all ∙ omega arith;
      small = omega (arith, ap length all);
      named = ap has_names all ∙ c.names-name-items.ensures.names;
    }

-- the name that comes and those that are left are names
named : (c : goal.In-Some) → (is_name c.in-Some.name.now ≡ true) × (has_names c.next.new.self ≡ true)
named c = both {a = is_name c.in-Some.name.now} {b = has_names c.next.new.self} (sym (ap has_names c.in-Some.ensures.steps) ∙ c.loop-name.invariant.named)

pub overflow_add-bytes-in-loop-name : goal.overflow_add-bytes-in-loop-name
overflow_add-bytes-in-loop-name c =
    omega (arith, name_length c.in-Some.name.now (named c).0, ap length c.in-Some.ensures.steps, c.loop-name.invariant.small, c.requires)

pub loop-name-preserved : goal.loop-name-preserved
loop-name-preserved c =
    let name : List ℕ = c.in-Some.name.now in
    let bytes = ap (λ (names : PathNames). length (slashed names)) c.in-Some.ensures.steps in
    record {
      counted = omega (arith, bytes, length-append (slash ∷ name) (slashed c.next.new.self), c.loop-name.invariant.counted);
      small = omega (arith, name_length name (named c).0, ap length c.in-Some.ensures.steps, c.loop-name.invariant.small);
      named = (named c).1;
    }

pub returns-clause-value : goal.returns-clause-value
returns-clause-value c =
    let none = ap (λ (names : PathNames). length (slashed names)) c.in-None.ensures.steps.0 in
    omega (arith, none, c.loop-name.invariant.counted)

pub returns-clause-limit : goal.returns-clause-limit
returns-clause-limit c = omega (arith, ap length c.in-None.ensures.steps.0, c.loop-name.invariant.small)
