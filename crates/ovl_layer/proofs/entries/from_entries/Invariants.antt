use Rattle.std.proofs.Common.{◌≡◌, ◌≤◌, ◌+◌, None, length, map}
use Rattle.std.specs.Vec.Iter.{into_iter_items, into_iter_len}
use Rattle.ovl_layer.specs.Layers.{entry_limit}
use Rattle.ovl_layer.specs.Entries.{stated_pair, entries_after, layer_of_pairs, first_fault}
use Rattle.ovl_layer.specs.LayerBuilders.{builder_entries, IsLayerBuilder}
use Rattle.ovl_layer.proofs.entries.from_entries.Given as goal

-- what is left, after the entries so far, makes the whole layer, and the first entry had no fault
abbrev pub invariant-loop-entry : goal.invariant-loop-entry
invariant-loop-entry l = record {
  builder : IsLayerBuilder l.builder;
  left : entries_after (builder_entries l.builder) (map stated_pair (into_iter_items l.entry-iterator)) ≡ layer_of_pairs l.fn.entries.items;
  count : length (builder_entries l.builder) ≡ l.number + 1;
  room : l.number + 1 + length (into_iter_items l.entry-iterator) ≤ entry_limit;
  first : first_fault l.fn.entries.items ≡ None;
  exact : into_iter_len l.entry-iterator ≡ length (into_iter_items l.entry-iterator);
}
