use Rattle.std.proofs.Common.{◌≡◌, ◌<◌, false, sym, ◌∙◌, arith, ap, length}
use Rattle.std.specs.Prelude.{◌==◌}
use Rattle.std.specs.List.{list_any}
use Rattle.std.proofs.lemmas.Bool.Decides.{nat_tests}
use Rattle.ovl_inode.proofs.AttributeLemmas.{is_attribute_name-from_fault, attribute_fault-none}
use Rattle.ovl_inode.proofs.attributes.check_name.Goals as goal

pub returns : goal.returns
returns c =
    let some : 0 < length c.args.name.now = grind (arith, nat_tests) in
    let plain : list_any (λ byte. byte == 0) c.args.name.now ≡ false = ap (list_any (λ byte. byte == 0)) (sym c.as_bytes-bytes.ensures.value) ∙ (sym c.contains.ensures.value ∙ c.if-contains.false) in
    let none = attribute_fault-none c.args.name.now some (grind (arith, nat_tests)) plain in
    (none, is_attribute_name-from_fault c.args.name.now none c.utf8.name)
