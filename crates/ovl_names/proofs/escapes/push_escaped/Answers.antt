use Rattle.std.proofs.Common.{rules, tests, ◌∙◌, sym, ap}
use Rattle.std.proofs.lemmas.Iterator.{YieldsList-from_slice}
use Rattle.std.proofs.lemmas.Iterator.Search.{all_from_yields_List}
use Rattle.std.specs.List.{list_all}
use Rattle.ovl_names.specs.Escapes.{is_plain}
use Rattle.ovl_names.proofs.EscapeLemmas.{escaped-plain}
use Rattle.ovl_names.proofs.escapes.push_escaped.Goals as goal

pub returns-then-all : goal.returns-then-all
returns-then-all c =
    let plain = all_from_yields_List is_plain _ _ _ c.all.ensures.ran (YieldsList-from_slice c.as_bytes-bytes.result.now cc) (λ x b q k. search (rules, tests)) in
    rw (escaped-plain c.args.text.now (ap (list_all is_plain) (sym c.as_bytes-bytes.ensures.value) ∙ (sym plain ∙ c.if-all.true))) (search rules)
