use Rattle.std.proofs.Common.{◌≡◌, ◌<◌, ◌==◌, ◌∙◌, List, ℕ, true, false, length, get_or, min, sym, arith}
use Rattle.std.proofs.lemmas.Bool.Decides.{nat_tests}
use Rattle.ovl_names.proofs.PathTexts.{text_cmp-names, text_cmp-past, text_cmp-end}
use Rattle.ovl_names.proofs.paths.order.Goals as goal

pub returns-then-text-i : goal.returns-then-text-i
returns-then-text-i c =
    let text : List ℕ = c.args.text.now in
    let other : List ℕ = c.args.other.now in
    let own : c.loop-i.i < length text = omega arith in
    let there : c.loop-i.i < length other = omega arith in
    let apart : (get_or text c.loop-i.i 0 == get_or other c.loop-i.i 0) ≡ false = grind (arith, nat_tests) in
    c.order_apart.ensures
    ∙ sym (text_cmp-names text other ∙ (c.loop-i.invariant ∙ (text_cmp-past c.loop-i.i text other own there ∙ rw apart)))

pub returns : goal.returns
returns c =
    let end : c.loop-i.i ≡ min (length c.args.text.now) (length c.args.other.now) = omega arith in
    c.cmp.ensures ∙ sym (text_cmp-names c.args.text.now c.args.other.now ∙ (c.loop-i.invariant ∙ text_cmp-end c.loop-i.i c.args.text.now c.args.other.now end))

pub loop-i-preserved : goal.loop-i-preserved
loop-i-preserved c =
    let text : List ℕ = c.args.text.now in
    let other : List ℕ = c.args.other.now in
    let own : c.loop-i.i < length text = omega arith in
    let there : c.loop-i.i < length other = omega arith in
    let same : (get_or text c.loop-i.i 0 == get_or other c.loop-i.i 0) ≡ true = grind (arith, nat_tests) in
    c.loop-i.invariant ∙ (text_cmp-past c.loop-i.i text other own there ∙ rw same)
