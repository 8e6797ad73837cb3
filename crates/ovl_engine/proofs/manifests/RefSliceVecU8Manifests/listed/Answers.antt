use Rattle.std.proofs.Common.{◌∙◌, ℕ, Vec, Bor, map, ap, sym}
use Rattle.std.proofs.lemmas.Iterator.{YieldsList-from_slice}
use Rattle.std.proofs.lemmas.Iterator.Consumers.{map_from_collect}
use Rattle.std.proofs.lemmas.Result.{IfOk-weaker}
use Rattle.std.proofs.lemmas.Simd.{map-map}
use Rattle.std.specs.Global.{Global}
use Rattle.ovl_engine.proofs.manifests.RefSliceVecU8Manifests.listed.Goals as goal

pub returns-clause-texts : goal.returns-clause-texts
returns-clause-texts c =
    let bytes = λ (manifest : Vec ℕ Global). manifest.items in
    IfOk-weaker c.collect.result _ _ (λ list same. sym (map-map bytes (λ (lent : Bor (Vec ℕ Global)). lent.now) list.items) ∙ ap (map bytes) same)
    (map_from_collect c.collect.result c.collect.ensures.ran (YieldsList-from_slice c.args.self.now c.iter.ensures.rest))
