use Rattle.std.proofs.Common.{◌≡◌, ◌+◌, ◌≤◌, ◌++◌, length, map, vec_len}
use Rattle.std.specs.Prelude.{vec_capacity}
use Rattle.ovl_files.proofs.held_blobs.HeldBlobs.append.Given as goal

-- the names of the blobs so far, after those of before; there is room for all the others
abbrev pub invariant-loop-name : goal.invariant-loop-name
invariant-loop-name l =
    (map (λ blob. blob.name) l.self.blobs.items ≡ map (λ blob. blob.name) l.initial.self.blobs.items ++ map (λ blob. blob.name) l.yielded)
    × (vec_len l.self.blobs ≡ vec_len l.initial.self.blobs + length l.yielded)
    × (vec_len l.initial.self.blobs + vec_len l.fn.others.blobs ≤ vec_capacity l.self.blobs)
