use Rattle.std.proofs.Common.{◌≡◌, List}
use Rattle.ovl_names.specs.Paths.{PathNames}
use Rattle.ovl_lookup.specs.Merged.{look}
use Rattle.ovl_blobs.specs.Blobs.{BlobView}
use Rattle.ovl_blobs.specs.Contents.{contents_of}
use Rattle.ovl_engine.specs.MergesDown.{MergesLead}
use Rattle.ovl_engine.proofs.merges_down.merged_down.Given as goal

-- the merges so far lead here, and have kept the tree
abbrev pub invariant-loop-done : goal.invariant-loop-done
invariant-loop-done g l =
    ((blobs : List BlobView) → contents_of blobs ≡ l.contents → MergesLead l.done blobs l.fn.stack l.last)
    × ((path : PathNames) → look l.last path ≡ look l.fn.stack path)
