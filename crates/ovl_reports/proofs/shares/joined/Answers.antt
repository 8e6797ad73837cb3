use Rattle.std.proofs.Common.{rules, ◌≡◌, ◌∙◌, ◌<◌, ◌∷◌, length, sym, ap, drop-cons, string_bytes}
use Rattle.std.specs.List.{flat_map}
use Rattle.std.proofs.lemmas.Result.{IfOk-weaker}
use Rattle.ovl_reports.proofs.shares.joined.Goals as goal

pub returns : goal.returns
returns c =
    let texts = c.in_ok-texts.texts.items in
    let first = c.remove-first.result in
    let rest = c.remove-first.new.self.items in
    let some : 0 < length texts = search rules in
    let split : texts ≡ first ∷ rest = drop-cons texts 0 first some ∙ (λ j. sym c.remove-first.ensures.value j ∷ sym c.remove-first.ensures.by_index.2 j) in
    IfOk-weaker c.with_others.result _ _ (λ whole h. record { texts = texts; all = c.in_ok-texts.ensures; bytes = h ∙ ap (flat_map string_bytes) (sym split) }) c.with_others.ensures
