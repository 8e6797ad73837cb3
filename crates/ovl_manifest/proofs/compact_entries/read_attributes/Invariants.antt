use Rattle.std.proofs.Common.{◌≡◌, ◌<◌, ◌∷◌, ◌++◌, false, length}
use Rattle.ovl_manifest.specs.Compact.{attributes_text}
use Rattle.ovl_manifest.proofs.compact_entries.read_attributes.Given as goal

-- the attributes so far were taken
abbrev pub invariant-attributes : goal.invariant-attributes
invariant-attributes l = record {
  some : 0 < length l.attrs;
  taken : l.fn.rest ≡ 123 ∷ (attributes_text false l.attrs ++ l.rest);
}

abbrev pub decreases-attributes : goal.decreases-attributes
decreases-attributes l = length l.rest
