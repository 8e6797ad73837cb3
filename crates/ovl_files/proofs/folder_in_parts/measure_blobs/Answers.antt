use Rattle.std.proofs.lemmas.Result.{err_from_is_err_and}
use Rattle.ovl_files.specs.Slots.{IsAsSaid}
use Rattle.ovl_files.proofs.SlotLemmas.{first_unread}
use Rattle.ovl_files.proofs.Telling.{told_anyhow}
use Rattle.ovl_files.proofs.folder_in_parts.measure_blobs.Goals as goal

pub returns-in_err-slots-clause-fault : goal.returns-in_err-slots-clause-fault
returns-in_err-slots-clause-fault g c =
    let out = err_from_is_err_and c.from_residual-in_err-slots.result c.from_residual-in_err-slots.ensures.1 in
    rw (out.1, out.2) (first_unread c.args.folder.now c.args.names.now c.in_ok-shares.shares.items c.in_err-slots.field-0.0 c.in_ok-shares.ensures.each c.in_err-slots.ensures.slots)

pub returns-clause-told : goal.returns-clause-told
returns-clause-told g c = told_anyhow (IsAsSaid c.args.names.now c.in_ok-slots.slots) c.args.names.now c.contents_of.result c.contents_of.ensures.told
