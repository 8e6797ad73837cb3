use Rattle.std.proofs.Common.{arith}
use Rattle.ovl_check.proofs.StatedLemmas.{names-more}
use Rattle.ovl_check.proofs.stated_blobs.push_names.Goals.{in-Some+in_ok-push_name, in_default}
use Rattle.ovl_check.proofs.stated_blobs.push_names.Goals as goal

pub loop-number-preserved : goal.loop-number-preserved
loop-number-preserved c = elim c.match-row.branch [
  | in-Some+in_ok-push_name w ↦
      let longer = names-more c.args.sheet.now c.loop-number.number w.in-Some.row.now.inode c.args.names.now.items c.loop-number.names.items w.push_name.new.names.items
      w.in-Some.ensures.inode c.loop-number.invariant w.in_ok-push_name.ensures in
      rw (w.names-is) longer
  | in_default w ↦ absurd (omega (arith, w.in_default.ensures, c.loop-number-test.true, c.len-number-end.ensures.value))
]
