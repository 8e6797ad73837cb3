use Rattle.std.proofs.Common.{◌≡◌, ◌≤◌, ◌*◌, vec_len, length, take, All}
use Rattle.ovl_files.proofs.whole_files.read_by.Given as goal

-- the files of the shares so far, each within the limit
abbrev pub invariant-loop-read : goal.invariant-loop-read
invariant-loop-read g l = (vec_len l.files ≡ length (take (length l.yielded * l.size) l.fn.paths)) × All (λ bytes. vec_len bytes ≤ 268435456) l.files.items
