-- What clauses see of a check work: its stack and the contents of its blobs.
use Rattle.ovl_check.specs.declared.work.CheckWork.{CheckWork}
use Rattle.ovl_check.specs.Checks.{CheckView}

abbrev pub check_view : CheckWork → CheckView
check_view work = record { stack = work.stack.now; contents = work.blobs }
