use Rattle.std.proofs.Common.{◌≡◌, length, arith, subst}
use Rattle.std.specs.Prelude.{IfOk}
use Rattle.std.proofs.lemmas.Bool.Decides.{nat_tests}
use Rattle.ovl_inode.specs.declared.inodes.Inode.{Inode}
use Rattle.ovl_merge.proofs.EntryLemmas.{visible-bare}
use Rattle.ovl_merge.proofs.entries.shown_inode.Goals as goal

pub returns-then-is_empty : goal.returns-then-is_empty
returns-then-is_empty c =
    let none : length c.pairs.result ≡ 0 = grind (arith, nat_tests, c.if-is_empty.ensures) in
    subst (λ (inode : Inode). IfOk c.copy.result (λ shown. shown ≡ inode)) (visible-bare c.args.inode.now c.pairs.result c.pairs.ensures.value none) c.copy.ensures
