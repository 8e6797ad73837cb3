use Rattle.std.proofs.Common.{ℕ, true, ◌≡◌, ◌+◌, ◌<◌, ◌≤◌, map, length, sym, subst, arith}
use Rattle.std.specs.Prelude.{slice_index}
use lib.Count.{count_trailing_zeros}
use lib.Lanes.{chunk, mask_l}
use Rattle.json.specs.Run.{is_stop}
use Rattle.ovl_manifest.proofs.RunLemmas.{IsPlain, plain-block, plain-stops, stops-there, stops-within, escape-plain}
use Rattle.ovl_manifest.proofs.plain_runs.plain_length.Goals as goal

pub returns-then-found-ne0 : goal.returns-then-found-ne0
returns-then-found-ne0 c =
    let ds = c.args.bytes.now in
    let i = c.loop-place.place in
    let is = c.stops-found.ensures in
    let some : 0 < mask_l (map is_stop (chunk i 16 ds)) = omega (arith, is) in
    let within : i + count_trailing_zeros 64 c.stops-found.result ≤ length ds =
    subst (λ (mask : ℕ). i + count_trailing_zeros 64 mask ≤ length ds) (sym is) (stops-within ds i 16 (omega arith) (omega arith) some) in
    let run : IsPlain ds (i + count_trailing_zeros 64 c.stops-found.result) =
    subst (λ (mask : ℕ). IsPlain ds (i + count_trailing_zeros 64 mask)) (sym is) (plain-stops ds i 16 (omega arith) (omega arith) some c.loop-place.invariant.0) in
    let stopped : is_stop (slice_index ds (i + count_trailing_zeros 64 c.stops-found.result)) ≡ true =
    subst (λ (mask : ℕ). is_stop (slice_index ds (i + count_trailing_zeros 64 mask)) ≡ true) (sym is) (stops-there ds i 16 (omega arith) (omega arith) some) in
    record { within = within; run = run; stopped = λ _. stopped; plain = escape-plain ds _ within run }

pub loop-place-preserved : goal.loop-place-preserved
loop-place-preserved c = (
  plain-block c.args.bytes.now c.loop-place.place 16 (omega arith) c.loop-place.invariant.0 (omega (arith, c.stops-found.ensures)),
  omega arith,
)

pub returns-clause-plain : goal.returns-clause-plain
returns-clause-plain c = escape-plain c.args.bytes.now _ c.plain_tail.ensures.within c.plain_tail.ensures.run
