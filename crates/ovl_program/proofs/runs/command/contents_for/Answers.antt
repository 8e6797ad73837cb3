use Rattle.std.proofs.Common.{sym}
use Rattle.std.proofs.lemmas.Result.{err_from_is_err_and}
use Rattle.ovl_program.specs.Programs.{IsOfBlobs}
use Rattle.ovl_program.proofs.Performed.{asked_folder, unread_as, unread_of_blobs}
use Rattle.ovl_program.proofs.runs.command.contents_for.Goals as goal

pub returns-in_err-measure_blobs-in-Some-clause-fault : goal.returns-in_err-measure_blobs-in-Some-clause-fault
returns-in_err-measure_blobs-in-Some-clause-fault g c =
    let line = c.args.line.now in
    let folder = c.in-Some.folder.now in
    let fault = c.in_err-measure_blobs-in-Some.field-0.0 in
    let out = err_from_is_err_and c.from_residual-in_err-measure_blobs-in-Some.result c.from_residual-in_err-measure_blobs-in-Some.ensures.1 in
    rw (out.1, out.2) (unread_as (IsOfBlobs line) fault (unread_of_blobs line folder (asked_folder line folder (sym (rw c.in-Some.is at c.folder_in_parts.ensures)))
    c.as_str.result.now c.as_str.ensures.value fault c.in_err-measure_blobs-in-Some.ensures.fault))
