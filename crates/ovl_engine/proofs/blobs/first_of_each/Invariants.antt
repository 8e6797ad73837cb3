use Rattle.std.proofs.Common.{map, take}
use Rattle.ovl_engine.specs.NamedBlobs.{HasFirsts}
use Rattle.ovl_engine.proofs.blobs.first_of_each.Given as goal

-- the digests of the contents so far have their first contents
abbrev pub invariant-loop-bytes : goal.invariant-loop-bytes
invariant-loop-bytes l = HasFirsts (map (λ bytes. bytes.items) (take l.bytes-index l.contents)) (map (λ entry. (entry.0, entry.1.items)) l.named.entries)
