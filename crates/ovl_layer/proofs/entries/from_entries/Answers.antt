use Rattle.std.proofs.Common.{◌≡◌, ◌≤◌, [], ◌∷◌, ◌∙◌, ◌+◌, Ok, Err, true, sym, ap, rules, arith, length, map}
use Rattle.std.proofs.lemmas.Grind.{common_steps}
use Rattle.std.proofs.lemmas.Result.{err_from_is_err_and}
use Rattle.std.specs.Vec.Iter.{into_iter_items}
use Rattle.ovl_layer.specs.Layers.{entry_limit}
use Rattle.ovl_layer.specs.Entries.{stated_pair, entry_after, entries_after}
use Rattle.ovl_layer.specs.declared.faults.LayerFault.{LayerFault}
use Rattle.ovl_layer.specs.LayerBuilders.{builder_entries}
use Rattle.ovl_layer.proofs.EntryLemmas.{one_more}
use Rattle.ovl_layer.proofs.EntryLemmas.{stated_pair_statable, one_taken, none_first, layer_refused, first_refused, well_counted, is_later, told_later, count_later, first_later}
use Rattle.ovl_layer.proofs.entries.from_entries.Goals as goal

pub start_builder-requires : goal.start_builder-requires
start_builder-requires c = stated_pair_statable c.in-Some.root c.stated.result c.stated.ensures

pub with_entry-requires-clause-stated : goal.with_entry-requires-clause-stated
with_entry-requires-clause-stated c = stated_pair_statable c.in-Some-entry.entry c.stated-in-loop-entry.result c.stated-in-loop-entry.ensures

pub loop-entry-preserved : goal.loop-entry-preserved
loop-entry-preserved c =
    let at = c.loop-entry in
    let steps : into_iter_items at.entry-iterator ≡ c.in-Some-entry.entry ∷ into_iter_items c.next-in-loop-entry.new.self = c.in-Some-entry.ensures.steps.0 in
    let short = ap length steps in
    let next = ap (entry_after (builder_entries at.builder)) (sym c.stated-in-loop-entry.ensures) ∙ c.in_ok-builder-2.ensures.0 in
    record {
      builder = c.in_ok-builder-2.ensures.1;
      left =
          sym (ap (λ (pairs : _). entries_after (builder_entries at.builder) (map stated_pair pairs)) steps
          ∙ one_taken (builder_entries at.builder) (stated_pair c.in-Some-entry.entry) (map stated_pair (into_iter_items c.next-in-loop-entry.new.self)) (builder_entries c.in_ok-builder-2.builder) next)
          ∙ at.invariant.left;
      count = one_more (builder_entries at.builder) (stated_pair c.in-Some-entry.entry) (builder_entries c.in_ok-builder-2.builder) next ∙ ap (λ n. n + 1) at.invariant.count;
      room = omega (arith, short, at.invariant.room);
      first = at.invariant.first;
      exact = omega (arith, short, at.invariant.exact, c.in-Some-entry.ensures.steps.1);
    }

pub loop-entry-init : goal.loop-entry-init
loop-entry-init c =
    let split : c.args.entries.items ≡ c.in-Some.root ∷ into_iter_items c.next.new.self = search rules in
    record {
      builder = search rules;
      left = grind (arith, common_steps);
      count = search rules;
      room = search rules;
      first = none_first c.args.entries.items (into_iter_items c.next.new.self) c.in-Some.root (builder_entries c.in_ok-builder.builder) split (ap (entry_after []) (sym c.stated.ensures) ∙ c.in_ok-builder.ensures.0);
      exact = search rules;
    }

pub returns-in_err-builder : goal.returns-in_err-builder
returns-in_err-builder c =
    let split : c.args.entries.items ≡ c.in-Some.root ∷ into_iter_items c.next.new.self = search rules in
    let limit : length c.args.entries.items ≤ entry_limit = omega (arith, c.len.ensures, c.args.entries.ok.0, c.if-len-gt-ENTRY_LIMIT.false) in
    let fails = ap (entry_after []) (sym c.stated.ensures) ∙ c.in_err-builder.ensures in
    let out = err_from_is_err_and c.from_residual.result c.from_residual.ensures.1 in
    let told = out.1 ∙ ap Err out.2 in
    record {
      value = rw told (layer_refused c.args.entries.items (into_iter_items c.next.new.self) c.in-Some.root c.in_err-builder.field-0.0 split limit fails);
      count = grind (arith, common_steps);
      first = first_refused c.from_residual.result c.args.entries.items (into_iter_items c.next.new.self) c.in-Some.root c.in_err-builder.field-0.0 split limit fails told;
    }

-- what `with_entry` gives is no fault of the count or of the first entry
added : (c : goal.After-drop-entry-iterator) (fault : LayerFault) → c.from_residual-in_err-builder-2.result ≡ Err fault → is_later fault ≡ true
added c fault is =
    let out = err_from_is_err_and c.from_residual-in_err-builder-2.result c.from_residual-in_err-builder-2.ensures.1 in
    let same : c.in_err-builder-2.field-0.0 ≡ fault = cc in
    ap is_later (sym same) ∙ told_later ([], c.loop-entry.builder.inode) _ c.stated-in-loop-entry.result c.in_err-builder-2.field-0.0 c.in_err-builder-2.ensures

pub returns-in_err-builder-2-clause-count : goal.returns-in_err-builder-2-clause-count
returns-in_err-builder-2-clause-count c =
    let split : c.args.entries.items ≡ c.in-Some.root ∷ into_iter_items c.next.new.self = search rules in
    count_later c.from_residual-in_err-builder-2.result c.args.entries.items (added c) (well_counted c.args.entries.items (into_iter_items c.next.new.self) c.in-Some.root split (omega (arith, c.len.ensures, c.args.entries.ok.0, c.if-len-gt-ENTRY_LIMIT.false)))

pub returns-in_err-builder-2-clause-first : goal.returns-in_err-builder-2-clause-first
returns-in_err-builder-2-clause-first c = first_later c.from_residual-in_err-builder-2.result c.args.entries.items (added c) c.loop-entry.invariant.first

pub returns-in_err-finish-clause-first : goal.returns-in_err-finish-clause-first
returns-in_err-finish-clause-first c =
    let out = err_from_is_err_and c.from_residual-in_err-finish.result c.from_residual-in_err-finish.ensures.1 in
    first_later c.from_residual-in_err-finish.result c.args.entries.items (λ fault is. let same : out.0 ≡ fault = cc in ap is_later (sym same ∙ out.2)) c.loop-entry.invariant.first

pub returns-clause-first : goal.returns-clause-first
returns-clause-first c = first_later (Ok c.in_ok-finish.field-0) c.args.entries.items (λ fault is. let bad : Ok c.in_ok-finish.field-0 ≡ Err fault = is in cc) c.loop-entry.invariant.first
