use Rattle.std.proofs.Common.{rules, ◌≡◌, ◌∙◌, ◌++◌, ℕ, List, true, false, refl, append-nil, append_assoc, sym, ap}
use Rattle.std.specs.Prelude.{codes, OnOk}
use Rattle.std.proofs.lemmas.Result.{on_ok_weaker}
use Rattle.serde_json.specs.Written.{comma_if}
use Rattle.ovl_names.proofs.Ascending.{both}
use Rattle.ovl_inode.specs.Attributes.{Attributes}
use Rattle.ovl_manifest.specs.Compact.{attribute_text, attributes_text}
use Rattle.ovl_manifest.proofs.CompactLemmas.{attributes_object}
use Rattle.ovl_manifest.proofs.written_entries.push_attributes.Goals as goal

pub loop-name-preserved : goal.loop-name-preserved
loop-name-preserved c =
    let before = c.loop-name.invariant.0 in
    let text : List ℕ = c.loop-name.text.items in
    let attr : List ℕ × List ℕ = (c.in-Some.name.now, c.in-Some.value.now) in
    let rest : List ℕ = attributes_text true c.next.new.self in (
      true,
      refl,
      ap (λ (t : List ℕ). t ++ rest) (c.in_ok-push_attribute.ensures ∙ ap (λ (comma : List ℕ). text ++ (comma ++ attribute_text attr)) c.loop-name.invariant.1)
          ∙ (append_assoc text (comma_if before ++ attribute_text attr) rest
          ∙ (ap (λ (t : List ℕ). text ++ t) (append_assoc (comma_if before) (attribute_text attr) rest)
          ∙ (ap (λ (own : Attributes). text ++ attributes_text before own) (sym c.in-Some.ensures.steps) ∙ c.loop-name.invariant.2))),
    )

pub returns : goal.returns
returns c =
    let attrs : Attributes = c.args.attrs.now in
    let before : List ℕ = c.args.text.now.items in
    let text : List ℕ = c.loop-name.text.items in
    let all : List ℕ = attributes_text false attrs in
    let left : text ++ attributes_text c.loop-name.invariant.0 c.loop-name.name-iterator ≡ text =
    ap (λ (own : Attributes). text ++ attributes_text c.loop-name.invariant.0 own) c.in-None.ensures.steps.0 ∙ append-nil text in
    let whole : text ≡ (before ++ codes "{") ++ all = sym left ∙ c.loop-name.invariant.2 in
    let pushed : OnOk c.extend_from_slice-2.result (c.extend_from_slice-2.new.self.items ≡ text ++ codes "}}") = search rules in
    let up = (both c.pairs-name-items.ensures.attributes).1 in
    on_ok_weaker c.extend_from_slice-2.result (λ e.
    e
    ∙ (ap (λ (t : List ℕ). t ++ codes "}}") whole
    ∙ (append_assoc (before ++ codes "{") all (codes "}}")
    ∙ (append_assoc before (codes "{") (all ++ codes "}}")
    ∙ ap (λ (t : List ℕ). before ++ t) (ap (λ (t : List ℕ). codes "{" ++ t) (sym (append_assoc all (codes "}") (codes "}"))) ∙ ap (λ (t : List ℕ). t ++ codes "}") (sym (attributes_object attrs up))))))) pushed
