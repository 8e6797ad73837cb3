use Rattle.std.proofs.Common.{◌∙◌, ◌≡◌, ap, sym, subst, List}
use Rattle.ovl_blobs.specs.declared.blobs.Blob.{Blob}
use Rattle.ovl_blobs.specs.Blobs.{blob_views}
use Rattle.ovl_engine.specs.declared.tasks.Task.{Task}
use Rattle.ovl_engine.specs.Tasks.{command_of, left_of}
use Rattle.ovl_engine.specs.Outcomes.{IsAccepted}
use Rattle.ovl_engine.specs.Requests.{Request, request_for}
use Rattle.ovl_program.specs.Programs.{AreContentsFor, IsKnownIn, folder_in_parts, task_of}
use Rattle.ovl_program.proofs.Performed.{answered_for}
use Rattle.ovl_program.proofs.runs.command.answer_of.Goals as goal

pub returns-clause-coming : goal.returns-clause-coming
returns-clause-coming g c =
    let line = c.args.line.now in
    let request : Request = request_for (task_of line.what line.down_to) c.args.manifests.items line.data_layers c.args.blobs.items line.workers in
    let prepared = c.in-Ok.prepared in
    let is = c.in-Ok.ensures.task ∙ c.task_of.ensures in
    answered_for line request prepared.task prepared.stack c.in_ok-contents.contents.items c.answer.result
    (ap command_of (sym is)) (ap left_of (sym is))
    (subst (λ (task : Task). IsAccepted (request_for task c.args.manifests.items line.data_layers c.args.blobs.items line.workers)) c.task_of.ensures
    (subst (λ (blobs : List Blob). IsAccepted (request_for c.task_of.result c.args.manifests.items line.data_layers blobs line.workers)) c.deref.ensures.value c.in-Ok.ensures.accepted))
    c.in-Ok.ensures.stack.same
    (subst (λ (blobs : List Blob). AreContentsFor (command_of prepared.task) (IsKnownIn (folder_in_parts line) prepared.stack (blob_views blobs)) c.in_ok-contents.contents.items)
    c.deref-2.ensures.value c.in_ok-contents.ensures.known)
    c.answer.ensures.outcome
