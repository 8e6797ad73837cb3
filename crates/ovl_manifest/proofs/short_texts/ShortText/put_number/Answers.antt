use Rattle.std.proofs.Common.{◌∙◌, ◌≤◌, ◌<◌, ◌^◌, ℕ, length, drop, ap, arith, decimal}
use Rattle.std.proofs.lemmas.Fmt.{length-decimal-le}
use Rattle.std.proofs.lemmas.List.{length-append, length-drop}
use Rattle.ovl_manifest.proofs.short_texts.ShortText.put_number.Goals as goal

few : (n : ℕ) → n < 2 ^ 64 → length (decimal n) ≤ 20
few n fits = length-decimal-le 20 n (omega arith) (omega (arith, fits)) fits

pub write_digits-self-inside-requires : goal.write_digits-self-inside-requires
write_digits-self-inside-requires c =
    let left = length-drop c.self.inside.from c.self.inside.room in
    (omega (arith, few c.args.number c.ranges.number.fits, left, ap length c.self.view_is, c.requires, c.self.told), omega (arith, c.self.invariant, c.self.told))

pub returns-clause-length : goal.returns-clause-length
returns-clause-length c =
    let digits = few c.args.number c.ranges.number.fits in
    let told = ap length c.write_digits-self-inside.ensures.written ∙ length-append (decimal c.args.number) (drop c.self.inside.from c.self.inside.room) in
    omega (arith, digits, told, ap length c.self.view_is)
