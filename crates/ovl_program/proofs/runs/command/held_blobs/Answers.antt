use Rattle.std.proofs.lemmas.Result.{IfErr-weaker}
use Rattle.ovl_program.proofs.Performed.{unread_of_blobs}
use Rattle.ovl_program.proofs.runs.command.held_blobs.Goals as goal

pub returns-in-Some-clause-fault : goal.returns-in-Some-clause-fault
returns-in-Some-clause-fault g c =
    IfErr-weaker c.read_blobs.result _ _ (unread_of_blobs c.args.line.now c.in-Some.folder c.in-Some.is c.as_str.result.now c.as_str.ensures.value) c.read_blobs.ensures.fault
