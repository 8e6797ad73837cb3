use Rattle.std.proofs.Common.{◌≡◌, ◌++◌, length}
use Rattle.ovl_inode.proofs.TableLemmas.{set_from}
use Rattle.ovl_inode.proofs.tables.Table.set_value.Given as goal

abbrev pub invariant-loop-name : goal.invariant-loop-name
invariant-loop-name l = l.table ++ set_from (length l.table) l.fn.place l.fn.value l.name-iterator ≡ set_from 0 l.fn.place l.fn.value l.fn.self
