use Rattle.std.proofs.Common.{◌≡◌, ◌∙◌, ◌++◌, ◌∷◌, [], ℕ, List, true, false, sym, ap, subst, append_assoc, length, length-append, arith}
use Rattle.std.specs.List.{list_all}
use Rattle.ovl_names.specs.Order.{ascends}
use Rattle.ovl_names.proofs.Ascending.{both}
use Rattle.ovl_inode.specs.Attributes.{Attributes, attribute_cmp, is_attribute, are_attributes}
use Rattle.ovl_manifest.specs.Compact.{attributes_text}
use Rattle.ovl_manifest.proofs.CompactLemmas.{some-taken, none-taken, attributes-onto, attributes_object}
use Rattle.ovl_manifest.proofs.compact_entries.read_attributes.Goals as goal

pub attributes-preserved : goal.attributes-preserved
attributes-preserved c =
    let attrs : Attributes = c.attributes.attrs in
    let rest : List ℕ = c.read_attribute-in-attributes.new.rest in
    let added = c.in_ok-read_attribute-2.ensures in
    let comma = some-taken _ c.take-in-attributes.result c.take-in-attributes.ensures (sym c.is_some-in-attributes.ensures ∙ c.attributes-test.true) in
    record {
      some = omega (arith, ap length added.behind, length-append attrs (added.attr ∷ []));
      taken = c.attributes.invariant.taken
          ∙ ap (λ (t : List ℕ). 123 ∷ t)
          (ap (λ (t : List ℕ). attributes_text false attrs ++ t) (comma ∙ ap (λ (t : List ℕ). 44 ∷ t) added.first)
          ∙ (attributes-onto attrs added.attr rest c.attributes.invariant.some ∙ ap (λ (all : Attributes). attributes_text false all ++ rest) (sym added.behind)));
    }

pub returns : goal.returns
returns c =
    let attrs : Attributes = c.attributes.attrs in
    let rest : List ℕ = c.take-3.new.self in
    let sorted : are_attributes attrs ≡ true = subst (λ (all : Attributes). are_attributes all ≡ true) c.attrs-3.view_is c.attrs-3.invariant in
    let up : ascends attribute_cmp attrs ≡ true = (both {a = list_all is_attribute attrs} {b = ascends attribute_cmp attrs} sorted).1 in
    let ended = sym (none-taken _ c.take-in-attributes.result c.take-in-attributes.ensures (sym c.is_some-in-attributes.ensures ∙ c.attributes-test.false)) ∙ c.in_ok-take-2.ensures in
    c.attributes.invariant.taken
    ∙ (ap (λ (t : List ℕ). 123 ∷ (attributes_text false attrs ++ t)) ended
    ∙ (ap (λ (t : List ℕ). 123 ∷ t) (sym (append_assoc (attributes_text false attrs) (125 ∷ []) rest))
    ∙ ap (λ (t : List ℕ). t ++ rest) (sym (attributes_object attrs up))))
