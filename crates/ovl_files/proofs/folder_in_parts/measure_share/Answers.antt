use Rattle.std.proofs.Common.{length, refl}
use Rattle.std.proofs.lemmas.List.Elements.{All-push}
use Rattle.std.proofs.lemmas.Option.{slice_get_read}
use Rattle.ovl_files.specs.Slots.{IsToldAmong}
use Rattle.ovl_files.proofs.SlotLemmas.{on_ok}
use Rattle.ovl_files.proofs.folder_in_parts.measure_share.Goals as goal

pub loop-preserved : goal.loop-preserved
loop-preserved g c =
    let names = c.args.names.now in
    let number = c.fetch_add-number.result in
    let name = c.in-Some.name.now in
    let told = on_ok _ c.measure_next.result c.in_default-measure_next.not-Err c.measure_next.ensures.told in
    rw told.1.0 (All-push (IsToldAmong names) c.loop.told.items (record { number = number; content = told.0 }) c.loop.invariant
    (name, (slice_get_read names (length names) number name refl c.in-Some.ensures.lookup.3.0 c.in-Some.ensures.lookup.1, told.1.1)))
