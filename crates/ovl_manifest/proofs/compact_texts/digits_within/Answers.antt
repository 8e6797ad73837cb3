use Rattle.std.proofs.Common.{◌≡◌, ◌<◌, length, take, length-take, get_or, arith}
use Rattle.std.proofs.lemmas.Bool.Decides.{nat_tests}
use Rattle.std.proofs.lemmas.Int.Digits.{digits_more, digits_value_more}
use Rattle.std.specs.Char.{digit_value}
use Rattle.ovl_manifest.proofs.CompactLemmas.{digits-below}
use Rattle.ovl_manifest.proofs.compact_texts.digits_within.Goals as goal

pub overflow_mul-number : goal.overflow_mul-number
overflow_mul-number c =
    let ds = c.args.bytes.now in
    let i = c.loop-count.count in
    omega (arith, c.loop-count.invariant.1, c.loop-count-test.true, c.requires.short, digits-below (take i ds) 18 c.loop-count.invariant.0 (omega (arith, length-take i ds, c.loop-count-test.true, c.requires.inside, c.requires.short)))

pub overflow_add-number : goal.overflow_add-number
overflow_add-number c =
    let ds = c.args.bytes.now in
    let i = c.loop-count.count in
    let digit : c.from.result < 10 = grind (arith, nat_tests) in
    omega (arith, digit, c.loop-count.invariant.1, digits-below (take i ds) 18 c.loop-count.invariant.0 (omega (arith, length-take i ds, c.loop-count-test.true, c.requires.inside, c.requires.short)))

pub loop-count-preserved : goal.loop-count-preserved
loop-count-preserved c =
    let ds = c.args.bytes.now in
    let i = c.loop-count.count in
    let digit : digit_value (get_or ds i 0) ≡ c.from.result = grind (arith, nat_tests) in
    let small : c.from.result < 10 = grind (arith, nat_tests) in
    let within : i < length ds = omega (arith, c.loop-count-test.true, c.requires.inside) in (
      digits_more 10 ds i within c.loop-count.invariant.0 (omega (arith, digit, small)),
      omega (arith, digits_value_more 10 ds i within, c.loop-count.invariant.1, digit),
      omega (arith, c.loop-count-test.true),
    )
