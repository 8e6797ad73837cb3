use Rattle.std.proofs.Common.{◌≡◌, ◌≤◌, vec_len, All}
use Rattle.ovl_files.proofs.whole_files.read_share.Given as goal

-- the files so far, each within the limit
abbrev pub invariant-loop-path : goal.invariant-loop-path
invariant-loop-path g l = (vec_len l.files ≡ l.path-index) × All (λ bytes. vec_len bytes ≤ 268435456) l.files.items
