use Rattle.std.proofs.Common.{◌≡◌, ◌∙◌, ◌∷◌, [], ◌≤◌, ◌<◌, ℕ, List, length, take, ap, sym, subst, arith, decimal}
use Rattle.std.specs.Fmt.{digits}
use Rattle.std.specs.Str.Parse.{AllDigits, digits_value}
use Rattle.std.proofs.lemmas.Bool.Decides.{nat_tests}
use Rattle.std.proofs.lemmas.List.{take_more}
use Rattle.ovl_manifest.proofs.CompactLemmas.{digits-written}
use Rattle.ovl_manifest.proofs.compact_texts.leading_number.Goals as goal
use Rattle.ovl_manifest.proofs.compact_texts.leading_number.Goals.{then-bytes-ge-DIGIT_LIMIT, else-bytes-ge-DIGIT_LIMIT}

-- what the digits at the front say
record AreDigits (ds : List ℕ) (read : ℕ × ℕ) : Type 0 where
  pub digits : AllDigits 10 (take read.1 ds)
  pub number : read.0 ≡ digits_value 10 (take read.1 ds)
  pub short : read.1 ≤ 19
  pub inside : read.1 ≤ length ds

pub returns-then-bytes-eq48 : goal.returns-then-bytes-eq48
unfolding digits
returns-then-bytes-eq48 c =
    let some : 0 < length c.args.bytes.now = grind (arith, nat_tests) in
    sym (take_more c.args.bytes.now 0 0 some ∙ ap (λ (digit : ℕ). digit ∷ []) c.if-bytes-eq48.true)

pub returns : goal.returns
returns c =
    let ds = c.args.bytes.now in
    let read : ℕ × ℕ = c.if-bytes-ge-DIGIT_LIMIT.number in
    let told : AreDigits ds read =
    elim c.if-bytes-ge-DIGIT_LIMIT.branch [
      | then-bytes-ge-DIGIT_LIMIT w ↦ subst (AreDigits ds) (sym w.number-is) (record {
        digits = w.digits_within.ensures.digits;
        number = w.digits_within.ensures.number;
        short = w.digits_within.ensures.count;
        inside = omega (arith, w.digits_within.ensures.count, w.if-bytes-ge-DIGIT_LIMIT.true);
      })
      | else-bytes-ge-DIGIT_LIMIT w ↦ subst (AreDigits ds) (sym w.number-is) (record {
        digits = w.digits_within-else-bytes-ge-DIGIT_LIMIT.ensures.digits;
        number = w.digits_within-else-bytes-ge-DIGIT_LIMIT.ensures.number;
        short = omega (arith, w.digits_within-else-bytes-ge-DIGIT_LIMIT.ensures.count, w.if-bytes-ge-DIGIT_LIMIT.false);
        inside = w.digits_within-else-bytes-ge-DIGIT_LIMIT.ensures.count;
      })
    ] in
    ap decimal told.number ∙ digits-written ds read.1 told.inside told.digits (omega (arith, c.if-count-eq0.false)) told.short (λ zero. absurd (c.if-bytes-eq48.false zero))
