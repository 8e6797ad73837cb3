use Rattle.std.proofs.Common.{◌≡◌, map}
use Rattle.ovl_blobs.specs.Blobs.{blob_views}
use Rattle.ovl_engine.specs.NamedBlobs.{name_and_bytes}
use Rattle.ovl_engine.proofs.blobs.blobs_of.Given as goal

-- the entries so far are blobs
abbrev pub invariant-loop-name : goal.invariant-loop-name
invariant-loop-name l = map name_and_bytes (blob_views l.blobs.items) ≡ map (λ entry. (entry.0, entry.1.items)) l.yielded
