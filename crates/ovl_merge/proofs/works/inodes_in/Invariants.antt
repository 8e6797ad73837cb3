use Rattle.std.proofs.Common.{◌≡◌, take}
use Rattle.std.specs.Prelude.{IfSome}
use Rattle.std.specs.List.{filter_map}
use Rattle.ovl_lookup.specs.DirViews.{IsViewOf}
use Rattle.ovl_lookup.specs.NamedLists.{names_of}
use Rattle.ovl_merge.specs.Places.{merge_of}
use Rattle.ovl_merge.specs.Directories.{named_inode}
use Rattle.ovl_merge.specs.Candidates.{candidates_told}
use Rattle.ovl_merge.proofs.works.inodes_in.Given as goal

-- the entries by the names so far
abbrev pub invariant-loop-candidate : goal.invariant-loop-candidate
invariant-loop-candidate l =
    (l.inodes.items ≡ filter_map (named_inode (merge_of l.stack) l.directory.path) (names_of (candidates_told (take l.candidate-index l.candidate-items))))
    × IfSome l.whole (IsViewOf l.stack 0 l.directory.path)
