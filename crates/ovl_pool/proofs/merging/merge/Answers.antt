use Rattle.std.proofs.Common.{rules, ◌∙◌, subst, sym}
use Rattle.std.specs.Prelude.{◌++◌, IsPermutation}
use Rattle.std.proofs.lemmas.Iterator.{items_from_collect}
use Rattle.std.proofs.lemmas.Iterator.Adapters.{YieldsList-from_vec}
use Rattle.std.proofs.lemmas.Result.{IfOk-weaker}
use Rattle.itertools.specs.List.{merge_by}
use Rattle.itertools.proofs.TwoLemmas.{YieldsList-from_gives_of_both}
use Rattle.ovl_pool.specs.WorkerOutputs.{AreInPieceOrder}
use Rattle.ovl_pool.proofs.MergeLemmas.{is_first, merge-in_order, merge-permuted}
use Rattle.ovl_pool.proofs.merging.merge.Goals as goal

pub returns : goal.returns
returns g c =
    let first = c.args.first.items in
    let second = c.args.second.items in
    let merged =
    items_from_collect c.collect.result c.collect.ensures.ran
    (YieldsList-from_gives_of_both (merge_by is_first) (λ p on at. (let r = c.merge_by.ensures.runs p on at in (r.0, r.1, (r.2.0, r.2.1, r.2.2.1 is_first (λ x y r f k. search rules)))))
    (YieldsList-from_vec first c.into_iter.ensures.rest (c.into_iter.ensures.len ∙ c.args.first.ok.0))
    (YieldsList-from_vec second c.merge_by.ensures.second.0.0 (c.merge_by.ensures.second.0.1 ∙ c.args.second.ok.0))) in
    record {
      same = IfOk-weaker c.collect.result _ _ (λ both is. subst (IsPermutation (first ++ second)) (sym is) (merge-permuted is_first first second)) merged;
      order = IfOk-weaker c.collect.result _ _ (λ both is up also. subst AreInPieceOrder (sym is) (merge-in_order first second up also)) merged;
    }
