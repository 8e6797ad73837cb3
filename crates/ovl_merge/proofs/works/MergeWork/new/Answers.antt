use Rattle.std.proofs.Common.{◌≡◌, ℕ, ◌<◌, subst, arith}
use Rattle.ovl_merge.proofs.FinishLemmas.{merge-each}
use Rattle.ovl_merge.proofs.DirectoryLemmas.{tells}
use Rattle.ovl_merge.proofs.works.MergeWork.new.Goals as goal

pub returns-clause-tells : goal.returns-clause-tells
returns-clause-tells c =
    let stack = c.args.stack.now in
    let some : 0 < c.ordinary.result = c.ordinary.ensures.some in
    let more : c.ordinary.result ≡ 1 → ⊥ = c.if-ordinary-eq1.false in
    let several : 1 < c.ordinary.result = omega (arith, some, more) in
    tells stack (merge-each stack (subst (λ (n : ℕ). 1 < n) c.ordinary.ensures.value several) c.ordinary.ensures.each)
