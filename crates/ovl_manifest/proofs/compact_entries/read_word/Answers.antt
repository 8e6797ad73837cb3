use Rattle.std.proofs.Common.{◌∙◌, ◌++◌, List, ℕ, sym, ap}
use Rattle.std.specs.Prelude.{codes}
use Rattle.json.specs.Print.{escape_byte, quoted}
use Rattle.ovl_manifest.specs.Compact.{device_text, device_of_word, word_name}
use Rattle.ovl_manifest.proofs.CompactLemmas.{some-taken, none-taken, piece-then}
use Rattle.ovl_manifest.proofs.compact_entries.read_word.Goals as goal

pub returns-then-is_some : goal.returns-then-is_some
unfolding escape_byte
returns-then-is_some c = some-taken _ c.take.result c.take.ensures (sym c.is_some.ensures ∙ c.if-is_some.true)

pub returns-then-is_some-2 : goal.returns-then-is_some-2
unfolding escape_byte
returns-then-is_some-2 c =
    sym (none-taken _ c.take.result c.take.ensures (sym c.is_some.ensures ∙ c.if-is_some.false))
    ∙ some-taken _ c.take-2.result c.take-2.ensures (sym c.is_some-2.ensures ∙ c.if-is_some-2.true)

pub returns : goal.returns
returns c =
    let word = c.in_ok-word.word in
    let first = sym (none-taken _ c.take.result c.take.ensures (sym c.is_some.ensures ∙ c.if-is_some.false)) in
    let second = sym (none-taken _ c.take-2.result c.take-2.ensures (sym c.is_some-2.ensures ∙ c.if-is_some-2.false)) in
    first ∙ (second
    ∙ piece-then (codes ",\"kind\":") c.in_ok-take.ensures
    (c.in_ok-word.ensures
    ∙ ap (λ (t : List ℕ). quoted (word_name word) ++ (device_text (device_of_word word) ++ t)) c.in_ok-take-2.ensures))
