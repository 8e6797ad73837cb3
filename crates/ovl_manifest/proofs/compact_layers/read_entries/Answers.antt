use Rattle.std.proofs.Common.{◌∙◌, ◌+◌, ◌++◌, ◌∷◌, [], ℕ, List, false, sym, ap, append_assoc, arith, length, length-append}
use Rattle.serde_json.specs.Written.{items_text}
use Rattle.ovl_layer.specs.Layers.{Entry, Entries}
use Rattle.ovl_manifest.specs.Text.{entry_items}
use Rattle.ovl_layer.specs.SheetBuilders.{built_entries, last_path}
use Rattle.ovl_manifest.specs.Compact.{entries_text}
use Rattle.ovl_manifest.proofs.CompactLemmas.{some-taken, none-taken, entries-onto, items-entries}
use Rattle.ovl_manifest.proofs.compact_layers.read_entries.Goals as goal

pub entries-preserved : goal.entries-preserved
entries-preserved c =
    let before : Entries = built_entries c.entries.builder in
    let rest : List ℕ = c.read_entry-in-entries.new.rest in
    let added = c.in_ok-add_beside.ensures in
    let entry : Entry = (last_path c.add_beside.new.builder, c.in-Some.inode) in
    let comma = some-taken _ c.take.result c.take.ensures (sym c.is_some.ensures ∙ c.entries-test.true) in
    let own = c.in-Some.ensures.text entry.0 (added.path ∙ c.as_str-in-entries-2.ensures.value) in
    record {
      builder = added.builder;
      taken = c.entries.invariant.taken
          ∙ (ap (λ (t : List ℕ). entries_text false before ++ t) (comma ∙ ap (λ (t : List ℕ). 44 ∷ t) own)
          ∙ (entries-onto before entry rest (omega (arith, c.entries.invariant.count, c.entries.invariant.some)) ∙ ap (λ (all : Entries). entries_text false all ++ rest) (sym added.entries)));
      ends = added.ends;
      last = added.last ∙ c.as_str-in-entries-2.ensures.value;
      count = ap length added.entries ∙ (length-append before (entry ∷ []) ∙ ap (λ n. n + 1) c.entries.invariant.count);
      some = omega arith;
      limit = omega (arith, c.entries.invariant.limit, c.if-number-eq-ENTRY_LIMIT.false);
    }

pub returns-in-Ok-finish-clause-text : goal.returns-in-Ok-finish-clause-text
returns-in-Ok-finish-clause-text c =
    let entries : Entries = built_entries c.entries.builder in
    let rest : List ℕ = c.take-2.new.self in
    let ended = sym (none-taken _ c.take.result c.take.ensures (sym c.is_some.ensures ∙ c.entries-test.false)) ∙ c.in_ok-take.ensures in
    c.entries.invariant.taken
    ∙ (ap (λ (t : List ℕ). entries_text false entries ++ t) ended
    ∙ (sym (append_assoc (entries_text false entries) (93 ∷ []) rest)
    ∙ (ap (λ (t : List ℕ). t ++ rest) (sym (items-entries false entries))
    ∙ ap (λ (all : Entries). items_text false (entry_items all) ++ rest) (sym c.in-Ok-finish.ensures))))
