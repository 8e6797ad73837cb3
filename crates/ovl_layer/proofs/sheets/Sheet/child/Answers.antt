use Rattle.std.proofs.Common.{◌≡◌, ◌<◌, ℕ, [], List, Result, length, get_or, Ok, Err, sym, ap, subst, rules, tests, arith}
use Rattle.std.specs.List.Sorted.{IsBinarySearchResult}
use Rattle.std.proofs.lemmas.Fn.{always_returns_same}
use Rattle.ovl_names.specs.Names.{PathName}
use Rattle.ovl_names.specs.Paths.{child_path}
use Rattle.ovl_layer.specs.declared.sheets.SheetRow.{SheetRow}
use Rattle.ovl_layer.specs.Layers.{Entries}
use Rattle.ovl_layer.specs.LayerTrees.{entries_under}
use Rattle.ovl_layer.specs.Sheets.{path_at, kid_numbers, parents_of}
use Rattle.ovl_layer.specs.SheetPasses.{kid_order}
use Rattle.ovl_layer.proofs.SheetLemmas.{has-numbers, own-numbers, child-found, child-missing}
use Rattle.ovl_layer.proofs.sheets.Sheet.child.Goals as goal

pub below-kids-requires : goal.below-kids-requires
below-kids-requires c = has-numbers _ _ _ c.self.invariant c.args.directory (omega (arith, c.requires, ap length c.self.view_is))

-- an answer of the search, said of the rows and the numbers that were searched
answered : (rows seen : List SheetRow) (kids numbers : List ℕ) (result answer : Result ℕ ℕ) (name : PathName) → seen ≡ rows → numbers ≡ kids → result ≡ answer
    → IsBinarySearchResult (kid_order seen name) numbers result → IsBinarySearchResult (kid_order rows name) kids answer
answered rows seen kids numbers result answer name a b e found =
    subst (λ (r : Result ℕ ℕ). IsBinarySearchResult (kid_order rows name) kids r) e
    (subst (λ (ks : List ℕ). IsBinarySearchResult (kid_order rows name) ks result) b
    (subst (λ (rs : List SheetRow). IsBinarySearchResult (kid_order rs name) numbers result) a found))

pub returns-in-Ok : goal.returns-in-Ok
returns-in-Ok c =
    let rows : List SheetRow = c.self.inside.rows.items in
    let kids : List ℕ = kid_numbers 1 (parents_of rows) c.args.directory in
    let same : c.below-kids.result.now ≡ kids =
    own-numbers rows c.self.inside.kids c.self.inside.marks c.self.invariant c.args.directory c.below-kids.result.now (omega (arith, c.requires, ap length c.self.view_is)) c.below-kids.ensures in
    let position = c.binary_search_by.ensures.position (kid_order c.as_slice-rows.result.now c.args.name.now) (always_returns_same _ _ _ (λ a r q k. (search (rules, tests), search (rules, tests)))) in
    let found = child-found rows c.self.inside.kids c.self.inside.marks c.self.invariant c.args.directory c.in-Ok.place c.args.name.now (omega (arith, c.in-Ok.ensures.bound, ap length same))
    (answered rows c.as_slice-rows.result.now kids c.below-kids.result.now c.binary_search_by.result (Ok c.in-Ok.place) c.args.name.now c.as_slice-rows.ensures.value same c.in-Ok.is position) in
    subst (λ (numbers : List ℕ). (get_or numbers c.in-Ok.place 0 < length c.args.self.now) × (path_at c.args.self.now (get_or numbers c.in-Ok.place 0) ≡ child_path (path_at c.args.self.now c.args.directory) c.args.name.now)) (sym same)
    (subst (λ (layer : Entries). (get_or kids c.in-Ok.place 0 < length layer) × (path_at layer (get_or kids c.in-Ok.place 0) ≡ child_path (path_at layer c.args.directory) c.args.name.now)) c.self.view_is found)

pub returns-in-Err : goal.returns-in-Err
returns-in-Err c =
    let rows : List SheetRow = c.self.inside.rows.items in
    let kids : List ℕ = kid_numbers 1 (parents_of rows) c.args.directory in
    let same : c.below-kids.result.now ≡ kids =
    own-numbers rows c.self.inside.kids c.self.inside.marks c.self.invariant c.args.directory c.below-kids.result.now (omega (arith, c.requires, ap length c.self.view_is)) c.below-kids.ensures in
    let position = c.binary_search_by.ensures.position (kid_order c.as_slice-rows.result.now c.args.name.now) (always_returns_same _ _ _ (λ a r q k. (search (rules, tests), search (rules, tests)))) in
    let none = child-missing rows c.self.inside.kids c.self.inside.marks c.self.invariant c.args.directory c.in-Err.field-0 c.args.name.now (omega (arith, c.requires, ap length c.self.view_is))
    (answered rows c.as_slice-rows.result.now kids c.below-kids.result.now c.binary_search_by.result (Err c.in-Err.field-0) c.args.name.now c.as_slice-rows.ensures.value same c.in-Err.is position) in
    subst (λ (layer : Entries). entries_under (child_path (path_at layer c.args.directory) c.args.name.now) layer ≡ []) c.self.view_is none
