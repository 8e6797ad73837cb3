use Rattle.std.proofs.Common.{rules, ◌≡◌, inr, length, vec_len, ap, arith}
use Rattle.std.proofs.lemmas.Result.{err_from_is_err_and}
use Rattle.ovl_board.specs.declared.assembly.BoardFault.{BoardFault}
use Rattle.ovl_pool.specs.declared.runs.RunFault.TheVariants.{Board}
use Rattle.ovl_pool.proofs.FlowLemmas.{same_length, same_balance}
use Rattle.ovl_pool.proofs.ToldLemmas.{balanced, only_memory}
use Rattle.ovl_pool.proofs.runs.walk_of.Goals as goal

pub returns-in_err-walk-clause-fault : goal.returns-in_err-walk-clause-fault
returns-in_err-walk-clause-fault g c =
    let root = c.args.root.now in
    let left = c.requires.left in
    let same : c.args.count.known ≡ c.args.count.delivered = omega (arith, c.if-count.false) in
    let balance = balanced root c.args.parcels.items c.args.count left.0 c.requires.counted same left.1.0 left.1.1 in
    let out = err_from_is_err_and c.from_residual.result c.from_residual.ensures.1 in
    rw (out.1, out.2) (inr (ap (λ (fault : BoardFault). Board fault) (only_memory root _ c.balanced_parcels_have_no_fault.ensures c.requires.lawful balance c.in_err-walk.field-0.0 c.in_err-walk.ensures), same))

pub returns-clause-balance : goal.returns-clause-balance
returns-clause-balance g c =
    let root = c.args.root.now in
    let left = c.requires.left in
    let same : c.args.count.known ≡ c.args.count.delivered = omega (arith, c.if-count.false) in
    same_balance root c.args.parcels.items c.in_ok-walk.walk.items _ c.in_ok-walk.ensures.0 (balanced root c.args.parcels.items c.args.count left.0 c.requires.counted same left.1.0 left.1.1)

pub returns-clause-counted : goal.returns-clause-counted
returns-clause-counted g c =
    let counted = c.requires.counted in
    let same : c.args.count.known ≡ c.args.count.delivered = omega (arith, c.if-count.false) in
    let walk : vec_len c.in_ok-walk.walk ≡ length c.in_ok-walk.walk.items = search rules in
    let as_long = same_length c.args.parcels.items c.in_ok-walk.walk.items c.in_ok-walk.ensures.0 in (
      omega (arith, counted.1, same, walk, as_long),
      omega (arith, counted.1, walk, as_long),
      omega (arith, counted.2, walk, as_long),
      omega (arith, counted.1, counted.2, counted.3, same),
    )
