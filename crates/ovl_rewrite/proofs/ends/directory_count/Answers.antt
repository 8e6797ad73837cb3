use Rattle.std.proofs.Common.{◌∙◌, rules, tests}
use Rattle.std.proofs.lemmas.Iterator.{YieldsList-from_slice}
use Rattle.std.proofs.lemmas.Iterator.Consumers.{YieldsList-from_filter, count_from_yields_List}
use Rattle.std.proofs.lemmas.List.Sums.{length-filter}
use Rattle.ovl_inode.specs.Marks.{is_directory}
use Rattle.ovl_rewrite.specs.Directories.{NamedInode}
use Rattle.ovl_rewrite.proofs.ends.directory_count.Goals as goal

pub returns : goal.returns
returns c =
    count_from_yields_List c.filter.result _ c.count.ensures.ran
    (YieldsList-from_filter _ (λ (entry : NamedInode). is_directory entry.1) (YieldsList-from_slice c.args.inodes.now cc) c.filter.ensures.closure (λ x r q k. search (rules, tests)))
    ∙ length-filter (λ (entry : NamedInode). is_directory entry.1) c.args.inodes.now
