use Rattle.std.proofs.Common.{◌≡◌, ◌<◌, ◌∙◌, ◌+◌, ◌-◌, ℕ, suc, Some, List, length, take, drop, sym, ap, arith, add-one}
use Rattle.std.specs.Prelude.{slice_get, slice_index}
use Rattle.std.proofs.lemmas.List.{get_or_read}
use Rattle.ovl_layer.proofs.KidListLemmas.{part-within, part-get}
use Rattle.ovl_layer.proofs.kid_lists.KidLists.below.Goals as goal

pub index-requires : goal.index-requires
index-requires c =
    omega (arith, part-within c.self.inside.starts.items c.self.inside.kids.items c.args.number (omega (arith, c.requires, ap length c.self.view_is)), c.self.inside.starts.ok.0)

pub index-requires-2 : goal.index-requires-2
index-requires-2 c =
    omega (arith, part-within c.self.inside.starts.items c.self.inside.kids.items c.args.number (omega (arith, c.requires, ap length c.self.view_is)), c.self.inside.starts.ok.0)

-- where the kids begin and end
bounds : (c : goal.After-deref) → (c.index.result.now ≡ slice_index c.self.inside.starts.items c.args.number) × (c.index-2.result.now ≡ slice_index c.self.inside.starts.items (suc c.args.number)) × (suc c.args.number < length c.self.inside.starts.items)
bounds c =
    let starts : List ℕ = c.self.inside.starts.items in
    let inside : suc c.args.number < length starts = part-within starts c.self.inside.kids.items c.args.number (omega (arith, c.requires, ap length c.self.view_is)) in (
      get_or_read starts c.args.number c.index.result.now (omega (arith, inside)) c.index.ensures 0,
      get_or_read starts (c.args.number + 1) c.index-2.result.now (omega (arith, inside)) c.index-2.ensures 0 ∙ ap (slice_index starts) (add-one c.args.number),
      inside,
    )

pub slice_bounds-result-count : goal.slice_bounds-result-count
slice_bounds-result-count c = let are = bounds c in omega (arith, are.0, are.1, c.self.invariant.rise c.args.number are.2)

pub slice_bounds-result-start : goal.slice_bounds-result-start
slice_bounds-result-start c =
    let are = bounds c in
    omega (arith, are.0, c.self.invariant.within c.args.number (omega (arith, are.2)), ap length c.deref.ensures.value)

pub slice_bounds-result-end : goal.slice_bounds-result-end
slice_bounds-result-end c =
    let are = bounds c in
    omega (arith, are.1, c.self.invariant.within (suc c.args.number) are.2, ap length c.deref.ensures.value)

pub returns : goal.returns
returns c =
    let starts : List ℕ = c.self.inside.starts.items in
    let inside : suc c.args.number < length starts = part-within starts c.self.inside.kids.items c.args.number (omega (arith, c.requires, ap length c.self.view_is)) in
    let from : c.index.result.now ≡ slice_index starts c.args.number = get_or_read starts c.args.number c.index.result.now (omega (arith, inside)) c.index.ensures 0 in
    let to : c.index-2.result.now ≡ slice_index starts (suc c.args.number) =
    get_or_read starts (c.args.number + 1) c.index-2.result.now (omega (arith, inside)) c.index-2.ensures 0 ∙ ap (slice_index starts) (add-one c.args.number) in
    ap (λ (lists : List (List ℕ)). slice_get lists c.args.number) (sym c.self.view_is)
    ∙ (part-get c.self.inside.starts.items c.self.inside.kids.items c.args.number inside
    ∙ (λ j. Some (take (sym to j - sym from j) (drop (sym from j) (sym c.deref.ensures.value j)))))
