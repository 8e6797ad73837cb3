use Rattle.std.proofs.Common.{◌<◌, ◌∙◌, ap, sym, length, arith}
use Rattle.std.specs.Prelude.{not, ◌==◌}
use Rattle.std.specs.List.{list_any}
use Rattle.std.proofs.lemmas.Bool.Decides.{nat_tests}
use Rattle.std.proofs.lemmas.Str.{is_utf8-from_IsUtf8}
use Rattle.ovl_inode.proofs.DigestLemmas.{is_target-plain}
use Rattle.ovl_inode.proofs.inodes.is_target_sound.Goals as goal

pub returns-then-text-le-TARGET_LIMIT : goal.returns-then-text-le-TARGET_LIMIT
returns-then-text-le-TARGET_LIMIT c =
    let empty = c.is_empty.ensures in
    let some : 0 < length c.args.text.now = grind (arith, nat_tests) in
    ap not (c.contains.ensures.value ∙ ap (list_any (λ byte. byte == 0)) c.as_bytes.ensures.value)
    ∙ sym (is_target-plain c.args.text.now some c.if-text-le-TARGET_LIMIT.true.1 (is_utf8-from_IsUtf8 c.args.text.now c.utf8.text))
