use Rattle.std.proofs.Common.{◌∙◌, ℕ, List, length, string_bytes, refl, sym, ap, subst, rules, tests}
use Rattle.std.specs.List.Sorted.{IsBinarySearchResult}
use Rattle.std.proofs.lemmas.Fn.{always_returns_same}
use Rattle.ovl_inode.specs.Tables.{place_order}
use Rattle.ovl_inode.proofs.SearchLemmas.{belongs_nowhere, behind_last, at_last, among}
use Rattle.ovl_inode.proofs.tables.Table.search.Goals as goal

pub returns-in_default : goal.returns-in_default
returns-in_default c =
    belongs_nowhere (string_bytes c.self.inside.names) c.self.inside.values.items c.args.name.now c.self.inside.places.items c.args.self.now c.self.view_is
    (ap length (sym c.deref.ensures.value) ∙ c.in_default.ensures.cases)

pub returns-in-Less : goal.returns-in-Less
returns-in-Less c =
    behind_last (string_bytes c.self.inside.names) c.self.inside.values.items c.args.name.now c.self.inside.places.items c.in-Some.others.now c.in-Some.last.now c.args.self.now
    (sym c.deref.ensures.value ∙ c.in-Some.ensures.cases.0) c.self.view_is c.self.invariant.are c.requires c.len.result (c.len.ensures ∙ c.self.inside.places.ok.0)
    (ap (λ (names : List ℕ). place_order names c.args.name.now c.in-Some.last.now) (sym c.as_str-names.ensures.value) ∙ sym c.in-Less.ensures)

pub returns-in-Equal : goal.returns-in-Equal
returns-in-Equal c =
    at_last (string_bytes c.self.inside.names) c.self.inside.values.items c.args.name.now c.self.inside.places.items c.in-Some.others.now c.in-Some.last.now c.args.self.now
    (sym c.deref.ensures.value ∙ c.in-Some.ensures.cases.0) c.self.view_is c.self.invariant.are c.requires (length c.in-Some.others.now) refl
    (ap (λ (names : List ℕ). place_order names c.args.name.now c.in-Some.last.now) (sym c.as_str-names.ensures.value) ∙ sym c.in-Equal.ensures)

pub returns-in-Greater : goal.returns-in-Greater
returns-in-Greater c =
    let position = c.binary_search_by.ensures.position (place_order c.as_str-names.result.now c.args.name.now) (always_returns_same _ _ _ (λ a r q k. (search (rules, tests), search (rules, tests)))) in
    among (string_bytes c.self.inside.names) c.self.inside.values.items c.args.name.now c.self.inside.places.items c.in-Some.others.now c.in-Some.last.now c.args.self.now
    (sym c.deref.ensures.value ∙ c.in-Some.ensures.cases.0) c.self.view_is c.self.invariant.are c.requires c.binary_search_by.result
    (ap (λ (names : List ℕ). place_order names c.args.name.now c.in-Some.last.now) (sym c.as_str-names.ensures.value) ∙ sym c.in-Greater.ensures)
    c.binary_search_by.ensures.bound
    (subst (λ (names : List ℕ). IsBinarySearchResult (place_order names c.args.name.now) c.in-Some.others.now c.binary_search_by.result) c.as_str-names.ensures.value position)
