use Rattle.std.proofs.Common.{◌≡◌, ◌*◌, length, map, take}
use Rattle.ovl_files.proofs.blob_folder.blobs_of.Given as goal

-- the blobs of the shares so far
abbrev pub invariant-loop-read : goal.invariant-loop-read
invariant-loop-read g l = map (λ blob. blob.name) l.held.blobs.items ≡ map (λ file. file.name) (take (length l.yielded * l.size) l.fn.files)
