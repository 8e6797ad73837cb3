use Rattle.std.proofs.Common.{ℕ, arith, sym, subst, below_more, get_or-set_same, get_or-set_other}
use Rattle.std.proofs.lemmas.Grind.{common_steps}
use Rattle.ovl_blobs.specs.ByDigest.{IsStart}
use Rattle.ovl_blobs.proofs.by_digest.starts_of.Goals as goal

pub loop-byte-preserved : goal.loop-byte-preserved
loop-byte-preserved g c =
    let is : ℕ → ℕ → Type 0 = IsStart g.T.Named.name_of c.args.elements.now in (
      below_more _ _
          (λ k h. subst (is k) (sym (get_or-set_other c.loop-byte.starts c.loop-byte.byte k _ 0 (omega arith))) (c.loop-byte.invariant.0 k h))
          (subst (is c.loop-byte.byte) (sym (get_or-set_same c.loop-byte.starts c.loop-byte.byte _ 0 (omega arith))) c.start_in.ensures),
      grind (arith, common_steps),
    )
