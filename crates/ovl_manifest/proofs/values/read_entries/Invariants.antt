use Rattle.std.proofs.Common.{◌≡◌, ◌+◌, ◌≤◌, drop, length}
use Rattle.ovl_layer.specs.LayerBuilders.{builder_entries, IsLayerBuilder}
use Rattle.ovl_layer.specs.Entries.{entries_after, layer_of_entries}
use Rattle.ovl_layer.specs.Layers.{entry_limit}
use Rattle.ovl_manifest.proofs.ListLemmas.{stated}
use Rattle.ovl_manifest.proofs.values.read_entries.Given as goal

-- what is left, after the entries so far, makes the whole layer
abbrev pub invariant-loop-value : goal.invariant-loop-value
invariant-loop-value l = record {
  builder : IsLayerBuilder l.builder;
  left : entries_after (builder_entries l.builder) (stated l.version (drop l.value-index l.others)) ≡ layer_of_entries (stated l.version l.values);
  count : length (builder_entries l.builder) ≡ l.number + 1;
  place : l.number ≡ l.value-index;
  room : length l.others + 1 ≤ entry_limit;
}
