use Rattle.std.proofs.Common.{◌≡◌, map}
use Rattle.ovl_files.proofs.blob_folder.in_order.Given as goal

-- the files so far are the entries so far
abbrev pub invariant-loop-name : goal.invariant-loop-name
invariant-loop-name l = map (λ file. (file.name, file.length)) l.files.items ≡ l.yielded
