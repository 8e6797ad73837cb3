use Rattle.std.proofs.Common.{◌≡◌, vec_len, All, string_bytes}
use Rattle.ovl_program.specs.LayerFiles.{IsLayerFile}
use Rattle.ovl_program.proofs.output.layer_files.layer_paths.Given as goal

-- the paths so far
abbrev pub invariant-loop-index : goal.invariant-loop-index
invariant-loop-index l = (vec_len l.paths ≡ l.index) × All (λ path. IsLayerFile l.folder l.count (string_bytes path)) l.paths.items
