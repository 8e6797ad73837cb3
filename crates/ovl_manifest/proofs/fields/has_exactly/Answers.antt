use Rattle.std.proofs.Common.{◌≡◌, ◌∙◌, ◌+◌, ℕ, Some, false, sym, ap, length, nat_eq, Bor, List, arith}
use Rattle.std.specs.Prelude.{◌&&◌, is_some}
use Rattle.std.specs.List.{list_all}
use Rattle.std.proofs.lemmas.Bool.Decides.{nat_tests}
use Rattle.serde_json.specs.Data.{Members}
use Rattle.serde_json.specs.Events.{members_len}
use Rattle.serde_json.specs.Find.{as_object, get}
use Rattle.serde_json.specs.View.{members_view, view}
use Rattle.serde_json.proofs.Views.{members_len-members_view}
use Rattle.ovl_manifest.proofs.FieldLemmas.{has_exactly-counted, has_exactly-miscounted}
use Rattle.ovl_manifest.proofs.fields.has_exactly.Goals as goal

pub returns-then-len-own : goal.returns-then-len-own
returns-then-len-own c =
    let members : Members = members_view c.in-Some.members.now.entries in
    let is : as_object (view c.args.value.now) ≡ Some members = sym c.in-Some.ensures in
    let same : c.len.result ≡ members_len members = c.len.ensures.len ∙ sym (members_len-members_view c.in-Some.members.now.entries) in
    let count : ℕ = length c.args.own.now + length c.args.common.now in
    let other : nat_eq c.len.result count ≡ false = grind (arith, nat_tests) in
    sym (has_exactly-miscounted c.args.own.now c.args.common.now (view c.args.value.now) members is (ap (λ n. nat_eq n count) (sym same) ∙ other))

pub returns-then-has_all : goal.returns-then-has_all
returns-then-has_all c =
    let members : Members = members_view c.in-Some.members.now.entries in
    let is : as_object (view c.args.value.now) ≡ Some members = sym c.in-Some.ensures in
    let same : c.len.result ≡ members_len members = c.len.ensures.len ∙ sym (members_len-members_view c.in-Some.members.now.entries) in
    let counted = has_exactly-counted c.args.own.now c.args.common.now (view c.args.value.now) members is (omega (arith, same, c.if-len-own.false)) in
    c.has_all-then-has_all.ensures
    ∙ sym (counted ∙ ap (λ b. b && list_all (λ (name : Bor (List ℕ)). is_some (get name.now (view c.args.value.now))) c.args.common.now) (sym c.has_all.ensures ∙ c.if-has_all.true))

pub returns-else-has_all : goal.returns-else-has_all
returns-else-has_all c =
    let members : Members = members_view c.in-Some.members.now.entries in
    let is : as_object (view c.args.value.now) ≡ Some members = sym c.in-Some.ensures in
    let same : c.len.result ≡ members_len members = c.len.ensures.len ∙ sym (members_len-members_view c.in-Some.members.now.entries) in
    let counted = has_exactly-counted c.args.own.now c.args.common.now (view c.args.value.now) members is (omega (arith, same, c.if-len-own.false)) in
    c.if-has_all.false
    ∙ sym (counted ∙ ap (λ b. b && list_all (λ (name : Bor (List ℕ)). is_some (get name.now (view c.args.value.now))) c.args.common.now) (sym c.has_all.ensures ∙ c.if-has_all.false))
