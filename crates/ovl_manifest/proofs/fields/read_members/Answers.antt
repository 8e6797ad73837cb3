use Rattle.std.proofs.Common.{◌∙◌, sym, ap, List, ℕ, string_bytes}
use Rattle.std.specs.Map.Iter.{deref_pair}
use Rattle.std.proofs.lemmas.Map.Iter.{rest_more, rest_all}
use Rattle.serde_json.specs.View.{view, members_view}
use Rattle.ovl_manifest.specs.Fields.{attribute_after}
use Rattle.ovl_manifest.proofs.FieldLemmas.{attributes_after-put, attributes_after-refused}
use Rattle.ovl_manifest.proofs.fields.read_members.Goals as goal

pub loop-name-preserved : goal.loop-name-preserved
loop-name-preserved c =
    let whole = rw (rest_more deref_pair _ _ _ _ c.in-Some.is c.next.ensures.steps) at c.loop-name.invariant in
    let put = rw c.if-not-branch.false at c.in_ok-put_attribute.ensures in
    let named = ap (λ (own : List ℕ). attribute_after c.loop-name.attrs own (view c.in-Some.value.now)) (sym c.as_str.ensures.value) ∙ put in
    sym (attributes_after-put c.loop-name.attrs c.put_attribute.new.attrs (string_bytes c.in-Some.name.now) (view c.in-Some.value.now) (members_view c.next.new.self) named) ∙ whole

pub returns-then-not-branch : goal.returns-then-not-branch
returns-then-not-branch c =
    let whole = rw (rest_more deref_pair _ _ _ _ c.in-Some.is c.next.ensures.steps) at c.loop-name.invariant in
    let put = rw c.if-not-branch.true at c.in_ok-put_attribute.ensures in
    let named = ap (λ (own : List ℕ). attribute_after c.loop-name.attrs own (view c.in-Some.value.now)) (sym c.as_str.ensures.value) ∙ put in
    sym (attributes_after-refused c.loop-name.attrs (string_bytes c.in-Some.name.now) (view c.in-Some.value.now) (members_view c.next.new.self) named) ∙ whole

pub returns : goal.returns
returns c = rw (rest_all deref_pair _ _ _ c.in-None.is c.next.ensures.steps) at c.loop-name.invariant
