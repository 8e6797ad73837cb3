use Rattle.std.proofs.Common.{◌≡◌, true, false, refl, sym, ◌∙◌, ap, length, arith}
use Rattle.std.specs.Prelude.{◌==◌}
use Rattle.std.specs.List.{list_any}
use Rattle.std.proofs.lemmas.Str.{is_utf8-from_IsUtf8}
use Rattle.std.proofs.lemmas.Bool.Decides.{nat_tests}
use Rattle.ovl_names.specs.Names.{slash}
use Rattle.ovl_inode.specs.Redirects.{is_bad_part}
use Rattle.ovl_inode.proofs.RedirectLemmas.{relative_fault}
use Rattle.ovl_inode.proofs.marks.name_beside.Goals as goal

pub returns-then-contains : goal.returns-then-contains
returns-then-contains c =
    let some : (length c.args.text.now == 0) ≡ false = grind (arith, nat_tests) in
    let slashed : list_any (λ byte. byte == slash) c.args.text.now ≡ true = ap (list_any (λ byte. byte == slash)) (sym c.as_bytes.ensures.value) ∙ (sym c.contains.ensures.value ∙ c.if-contains.true) in
    relative_fault c.args.text.now true (is_bad_part c.args.text.now) some c.requires.relative (is_utf8-from_IsUtf8 c.args.text.now c.utf8.text) c.requires.no_nul slashed refl

pub returns-then-is_bad_part : goal.returns-then-is_bad_part
returns-then-is_bad_part c =
    let some : (length c.args.text.now == 0) ≡ false = grind (arith, nat_tests) in
    let whole : list_any (λ byte. byte == slash) c.args.text.now ≡ false = ap (list_any (λ byte. byte == slash)) (sym c.as_bytes.ensures.value) ∙ (sym c.contains.ensures.value ∙ c.if-contains.false) in
    relative_fault c.args.text.now false true some c.requires.relative (is_utf8-from_IsUtf8 c.args.text.now c.utf8.text) c.requires.no_nul whole (sym c.is_bad_part.ensures ∙ c.if-is_bad_part.true)

pub returns-in_default : goal.returns-in_default
returns-in_default c =
    let some : (length c.args.text.now == 0) ≡ false = grind (arith, nat_tests) in
    let whole : list_any (λ byte. byte == slash) c.args.text.now ≡ false = ap (list_any (λ byte. byte == slash)) (sym c.as_bytes.ensures.value) ∙ (sym c.contains.ensures.value ∙ c.if-contains.false) in
    relative_fault c.args.text.now false false some c.requires.relative (is_utf8-from_IsUtf8 c.args.text.now c.utf8.text) c.requires.no_nul whole (sym c.is_bad_part.ensures ∙ c.if-is_bad_part.false)

pub returns : goal.returns
returns c =
    let some : (length c.args.text.now == 0) ≡ false = grind (arith, nat_tests) in
    let whole : list_any (λ byte. byte == slash) c.args.text.now ≡ false = ap (list_any (λ byte. byte == slash)) (sym c.as_bytes.ensures.value) ∙ (sym c.contains.ensures.value ∙ c.if-contains.false) in (
      c.in-Ok.ensures.0,
      relative_fault c.args.text.now false false some c.requires.relative (is_utf8-from_IsUtf8 c.args.text.now c.utf8.text) c.requires.no_nul whole (sym c.is_bad_part.ensures ∙ c.if-is_bad_part.false),
    )
