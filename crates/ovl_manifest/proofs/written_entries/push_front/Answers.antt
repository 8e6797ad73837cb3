use Rattle.std.proofs.Common.{length, ap, arith}
use Rattle.ovl_manifest.proofs.written_entries.push_front.Goals as goal

pub put-requires-in-File-default-Some : goal.put-requires-in-File-default-Some
put-requires-in-File-default-Some c =
    omega (arith, c.put_number-3.ensures.length, c.put_kind.ensures.length, ap length c.put-4.ensures, c.put_number-2.ensures.length, ap length c.put-3.ensures, c.put_integer.ensures.length, ap length c.put-2.ensures, c.put_number.ensures.length, ap length c.put.ensures, ap length c.new-short.ensures)

pub put-requires-in_default : goal.put-requires-in_default
put-requires-in_default c =
    omega (arith, c.put_number-3.ensures.length, c.put_kind.ensures.length, ap length c.put-4.ensures, c.put_number-2.ensures.length, ap length c.put-3.ensures, c.put_integer.ensures.length, ap length c.put-2.ensures, c.put_number.ensures.length, ap length c.put.ensures, ap length c.new-short.ensures)
