use Rattle.std.proofs.Common.{All}
use Rattle.ovl_files.specs.BlobFolders.{IsNamedBy}
use Rattle.ovl_files.proofs.blob_folder.blob_files.Given as goal

-- each name so far is one that a file's name spells
abbrev pub invariant-loop-entry : goal.invariant-loop-entry
invariant-loop-entry g l = All (λ file. IsNamedBy file.name) l.files.items
