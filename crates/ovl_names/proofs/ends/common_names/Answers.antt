use Rattle.std.proofs.Common.{◌≡◌, ◌<◌, ◌≤◌, ◌-◌, ◌∙◌, Some, None, List, ℕ, length, length-drop, drop, ap, subst, arith}
use Rattle.std.specs.Prelude.{◌==◌, position}
use Rattle.std.proofs.lemmas.List.{take_rest}
use Rattle.ovl_names.specs.Names.{slash}
use Rattle.ovl_names.specs.Ends.{IsCommonNames}
use Rattle.ovl_names.proofs.EndLemmas.{position-reads, names-from}
use Rattle.ovl_names.proofs.ends.common_names.Goals as goal

pub returns-in-Some : goal.returns-in-Some
returns-in-Some c =
    let own : List ℕ = c.args.own.now in
    let common : ℕ = c.common_end-common.result in
    let fits : common ≤ length own = c.common_end-common.ensures.common.own_fits in
    let reads = position-reads (drop (length own - common) own) (Some c.in-Some.place) (c.in-Some.ensures ∙ ap (position (λ byte. byte == slash)) (take_rest own (length own - common))) in
    let inside : c.in-Some.place < common = omega (arith, reads.0, length-drop (length own - common) own) in
    names-from own c.args.other.now common c.in-Some.place c.common_end-common.ensures.common c.common_end-common.ensures.longest (omega arith) reads.2 (λ _. reads.1)

pub returns-in-None : goal.returns-in-None
returns-in-None c =
    let own : List ℕ = c.args.own.now in
    let common : ℕ = c.common_end-common.result in
    let fits : common ≤ length own = c.common_end-common.ensures.common.own_fits in
    let reads = position-reads (drop (length own - common) own) None (c.in-None.ensures ∙ ap (position (λ byte. byte == slash)) (take_rest own (length own - common))) in
    let none : common - common ≡ 0 = omega arith in
    subst (IsCommonNames own c.args.other.now) none
    (names-from own c.args.other.now common common c.common_end-common.ensures.common c.common_end-common.ensures.longest (omega arith) (λ i inside. reads i (omega (arith, inside, length-drop (length own - common) own))) (λ inside. absurd (omega arith)))
