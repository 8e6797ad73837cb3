use Rattle.std.proofs.Common.{◌≡◌, true, refl, subst}
use Rattle.std.proofs.lemmas.Result.{IfOk-weaker}
use Rattle.ovl_commands.specs.Commands.{stays_sound, stands_alone}
use Rattle.ovl_engine.specs.declared.tasks.Task.{Task}
use Rattle.ovl_engine.specs.Tasks.{command_of}
use Rattle.ovl_engine.specs.Requests.{request_of}
use Rattle.ovl_engine.specs.Kept.{KeepsSoundness, IsQuietOf}
use Rattle.ovl_engine.specs.Prepared.{KeepsTreeBy}
use Rattle.ovl_engine.proofs.commands.command.Goals as goal

pub returns-clause-keeps : goal.returns-clause-keeps
returns-clause-keeps g c =
    let request = request_of c.args.what (g.M.Manifests.held c.args.manifests) c.args.bottom c.args.blobs.now c.args.workers in
    let stack = c.in_ok-prepared.prepared.stack in
    IfOk-weaker c.answer.result _ _
    (λ answer keeps makes. subst (λ (task : Task). KeepsTreeBy task stack answer) c.in_ok-prepared.ensures.task keeps makes request refl c.in_ok-prepared.ensures.stack)
    c.answer.ensures.keeps

pub returns-clause-sound : goal.returns-clause-sound
returns-clause-sound g c =
    let request = request_of c.args.what (g.M.Manifests.held c.args.manifests) c.args.bottom c.args.blobs.now c.args.workers in
    let stack = c.in_ok-prepared.prepared.stack in
    IfOk-weaker c.answer.result _ _
    (λ answer sound stays. subst (λ (task : Task). stays_sound (command_of task) ≡ true → KeepsSoundness (command_of task) stack answer) c.in_ok-prepared.ensures.task sound stays request refl c.in_ok-prepared.ensures.stack)
    c.answer.ensures.sound

pub returns-clause-quiet : goal.returns-clause-quiet
returns-clause-quiet g c =
    let request = request_of c.args.what (g.M.Manifests.held c.args.manifests) c.args.bottom c.args.blobs.now c.args.workers in
    let stack = c.in_ok-prepared.prepared.stack in
    IfOk-weaker c.answer.result _ _
    (λ answer quiet alone. subst (λ (task : Task). stands_alone (command_of task) ≡ true → IsQuietOf (command_of task) stack answer) c.in_ok-prepared.ensures.task quiet alone request refl c.in_ok-prepared.ensures.stack)
    c.answer.ensures.quiet
