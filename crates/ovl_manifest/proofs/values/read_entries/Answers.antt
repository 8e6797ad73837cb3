use Rattle.std.proofs.Common.{◌≡◌, ◌∙◌, ◌+◌, ◌∷◌, ◌≤◌, List, [], Ok, Err, sym, ap, subst, length, rules, arith}
use Rattle.std.proofs.lemmas.List.{at_drop_all}
use Rattle.std.proofs.lemmas.Result.{err_from_is_err_and}
use Rattle.serde_json.specs.declared.value.Value.{Value}
use Rattle.ovl_layer.specs.LayerBuilders.{builder_entries}
use Rattle.ovl_layer.specs.Entries.{entries_after, IsFaultOf}
use Rattle.ovl_layer.specs.Layers.{entry_limit}
use Rattle.ovl_layer.proofs.EntryLemmas.{is_told, one_more}
use Rattle.ovl_manifest.proofs.ListLemmas.{stated, many-values, first-taken, first-refused, next-taken, next-refused}
use Rattle.ovl_manifest.proofs.ReadLemmas.{stated_statable}
use Rattle.serde_json.specs.View.{view}
use Rattle.ovl_manifest.proofs.values.read_entries.Goals as goal

pub returns-then-values-gt-ENTRY_LIMIT : goal.returns-then-values-gt-ENTRY_LIMIT
returns-then-values-gt-ENTRY_LIMIT c = many-values c.args.version c.args.values.now c.if-values-gt-ENTRY_LIMIT.true

pub start_builder-requires : goal.start_builder-requires
start_builder-requires c = stated_statable c.args.version (view c.in-Some.root.now) c.in_ok-read_entry.field-0 c.in_ok-read_entry.ensures

pub returns-in_err-builder : goal.returns-in_err-builder
returns-in_err-builder c =
    let split : c.args.values.now ≡ c.in-Some.root.now ∷ c.in-Some.others.now = search rules in
    let few : length c.args.values.now ≤ entry_limit = omega (arith, c.if-values-gt-ENTRY_LIMIT.false) in
    let out = err_from_is_err_and c.from_residual-in_err-builder.result c.from_residual-in_err-builder.ensures.1 in
    rw (out.1 ∙ ap Err out.2) (first-refused c.args.version c.args.values.now c.in-Some.others.now c.in-Some.root.now split few c.in_ok-read_entry.field-0 c.in_err-builder.field-0.0 c.in_ok-read_entry.ensures (is_told _ c.in_err-builder.field-0.0 c.in_err-builder.ensures))

pub loop-value-init : goal.loop-value-init
loop-value-init c =
    let split : c.args.values.now ≡ c.in-Some.root.now ∷ c.in-Some.others.now = search rules in
    let few : length c.args.values.now ≤ entry_limit = omega (arith, c.if-values-gt-ENTRY_LIMIT.false) in
    record {
      builder = c.in_ok-builder.ensures.1;
      left = first-taken c.args.version c.args.values.now c.in-Some.others.now c.in-Some.root.now split few c.in_ok-read_entry.field-0 (builder_entries c.in_ok-builder.builder) c.in_ok-read_entry.ensures c.in_ok-builder.ensures.0;
      count = one_more [] c.in_ok-read_entry.field-0 (builder_entries c.in_ok-builder.builder) c.in_ok-builder.ensures.0;
      place = search rules;
      room = omega (arith, few, ap length split);
    }

pub overflow_add-number : goal.overflow_add-number
overflow_add-number c = omega (arith, c.loop-value.invariant.place, c.loop-value.invariant.room, c.loop-value-test.true)

pub with_entry-requires-clause-builder : goal.with_entry-requires-clause-builder
with_entry-requires-clause-builder c = c.loop-value.invariant.builder

pub with_entry-requires-clause-number : goal.with_entry-requires-clause-number
with_entry-requires-clause-number c = sym c.loop-value.invariant.count

pub with_entry-requires-clause-room : goal.with_entry-requires-clause-room
with_entry-requires-clause-room c = omega (arith, c.loop-value.invariant.place, c.loop-value.invariant.room, c.loop-value-test.true)

pub with_entry-requires-clause-stated : goal.with_entry-requires-clause-stated
with_entry-requires-clause-stated c = stated_statable c.args.version (view c.value-item.result) c.in_ok-entry.entry c.in_ok-entry.ensures

pub returns-in_err-builder-2 : goal.returns-in_err-builder-2
returns-in_err-builder-2 c =
    let out = err_from_is_err_and c.from_residual-in_err-builder-2.result c.from_residual-in_err-builder-2.ensures.1 in
    rw (out.1 ∙ ap Err out.2)
    (subst (λ r. IsFaultOf r c.in_err-builder-2.field-0.0) c.loop-value.invariant.left
    (next-refused c.args.version c.in-Some.others.now c.loop-value.value-index c.value-item.result c.loop-value-test.true c.value-item.is (builder_entries c.loop-value.builder) c.in_ok-entry.entry c.in_ok-entry.ensures c.in_err-builder-2.field-0.0 c.in_err-builder-2.ensures))

pub loop-value-preserved : goal.loop-value-preserved
loop-value-preserved c =
    let taken = c.in_ok-builder-2.ensures.0 in
    record {
      builder = c.in_ok-builder-2.ensures.1;
      left = sym (next-taken c.args.version c.in-Some.others.now c.loop-value.value-index c.value-item.result c.loop-value-test.true c.value-item.is (builder_entries c.loop-value.builder) c.in_ok-entry.entry c.in_ok-entry.ensures (builder_entries c.in_ok-builder-2.builder) taken)
          ∙ c.loop-value.invariant.left;
      count = one_more (builder_entries c.loop-value.builder) c.in_ok-entry.entry (builder_entries c.in_ok-builder-2.builder) taken ∙ ap (λ n. n + 1) c.loop-value.invariant.count;
      place = ap (λ n. n + 1) c.loop-value.invariant.place;
      room = c.loop-value.invariant.room;
    }

pub finish-requires : goal.finish-requires
finish-requires c = c.loop-value.invariant.builder

pub returns : goal.returns
returns c =
    sym c.loop-value.invariant.left
    ∙ (at_drop_all (λ (all : List Value). entries_after (builder_entries c.loop-value.builder) (stated c.args.version all)) c.in-Some.others.now c.loop-value.value-index (omega (arith, c.loop-value-test.false))
    ∙ sym (ap Ok c.in_ok-finish.ensures))
