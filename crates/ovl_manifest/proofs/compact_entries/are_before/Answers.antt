use Rattle.std.proofs.Common.{◌≡◌, ◌∙◌, ◌∷◌, ◌++◌, [], List, ℕ, true, ap, ap₂, sym, subst}
use Rattle.std.specs.Ordering.{is_lt}
use Rattle.std.specs.List.{list_all}
use Rattle.ovl_names.specs.Names.{name_cmp}
use Rattle.ovl_names.specs.Order.{ascends}
use Rattle.ovl_names.proofs.Ascending.{both}
use Rattle.ovl_inode.specs.Attributes.{Attributes, attribute_cmp, is_attribute, all_before}
use Rattle.ovl_manifest.proofs.CompactLemmas.{all_before-last}
use Rattle.ovl_manifest.proofs.compact_entries.are_before.Goals as goal

pub returns-in-Some : goal.returns-in-Some
returns-in-Some c = λ less.
    let attrs : Attributes = c.args.attrs.now in
    let front : Attributes = c.next_back.new.self in
    let last : List ℕ × List ℕ = (c.in-Some.last.now, c.in-Some.field-0-1.now) in
    let whole : front ++ last ∷ [] ≡ attrs = sym c.in-Some.ensures.steps ∙ c.pairs.ensures.value in
    let up : ascends attribute_cmp attrs ≡ true = (both {a = list_all is_attribute attrs} {b = ascends attribute_cmp attrs} c.pairs.ensures.attributes).1 in
    let before = ap₂ (λ (one other : List ℕ). is_lt (name_cmp one other)) (sym c.as_bytes.ensures.value) (sym c.as_bytes-in-Some.ensures.value) ∙ (ap is_lt (sym c.cmp.ensures) ∙ (sym c.is_lt.ensures ∙ less)) in
    subst (λ (all : Attributes). all_before all c.args.name.now ≡ true) whole (all_before-last front last c.args.name.now (ap (ascends attribute_cmp) whole ∙ up) before)
