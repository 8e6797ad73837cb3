use Rattle.std.proofs.Common.{◌≡◌, ◌<◌, ◌-◌, ◌≤◌, ◌++◌, false, length}
use Rattle.std.specs.Cow.{cow_str_bytes}
use Rattle.ovl_layer.specs.Layers.{entry_limit}
use Rattle.ovl_layer.specs.TextPaths.{slashed, AreEnds}
use Rattle.ovl_layer.specs.SheetBuilders.{built_entries, last_path, IsSheetBuilder}
use Rattle.ovl_manifest.specs.Compact.{entries_text}
use Rattle.ovl_manifest.proofs.compact_layers.read_entries.Given as goal

-- the builder has the entries so far
abbrev pub invariant-entries : goal.invariant-entries
invariant-entries l = record {
  builder : IsSheetBuilder l.builder;
  taken : l.fn.rest ≡ entries_text false (built_entries l.builder) ++ l.rest;
  ends : AreEnds (last_path l.builder) l.ends.items;
  last : slashed (last_path l.builder) ≡ cow_str_bytes l.last;
  count : length (built_entries l.builder) ≡ l.number;
  some : 0 < l.number;
  limit : l.number ≤ entry_limit;
}

abbrev pub decreases-entries : goal.decreases-entries
decreases-entries l = entry_limit - l.number
