use Rattle.std.proofs.Common.{◌≡◌, map, take}
use Rattle.ovl_files.proofs.blob_folder.read_share.Given as goal

-- the blobs so far have the names of the files so far
abbrev pub invariant-loop-file : goal.invariant-loop-file
invariant-loop-file g l = map (λ blob. blob.name) l.held.blobs.items ≡ map (λ file. file.name) (take l.file-index l.fn.files)
