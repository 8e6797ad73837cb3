use Rattle.std.proofs.Common.{◌∙◌, ◌≡◌, ℕ, Contains, inl, inr, refl, sym, subst, ap, length, map, string_bytes, Vec, Global, Result}
use Rattle.std.proofs.lemmas.List.{length-map}
use Rattle.std.proofs.lemmas.Result.{err_from_is_err_and}
use Rattle.ovl_commands.specs.declared.requests.Answer.{Answer}
use Rattle.ovl_engine.specs.declared.faults.EngineFault.{EngineFault}
use Rattle.ovl_engine.specs.Requests.{Request, request_for}
use Rattle.ovl_program.specs.Programs.{IsComingFor, IsOfBlobs, IsRequestFor, task_of}
use Rattle.ovl_program.proofs.Performed.{few_coming_for, performed, reported_more, task_what, unread}
use Rattle.ovl_program.proofs.runs.command.perform.Goals as goal

pub returns-in_err-manifests : goal.returns-in_err-manifests
returns-in_err-manifests g c =
    let out = err_from_is_err_and c.from_residual.result c.from_residual.ensures.1 in
    rw (out.1, out.2) (unread c.args.line.now (g.W.Write.contents c.args.writer.now) (Contains (map string_bytes c.deref.result.now)) (λ path inside. inl (rw c.deref.ensures.value at inside)) c.in_err-manifests.field-0.0 c.in_err-manifests.ensures.fault)

pub returns-in_err-blobs : goal.returns-in_err-blobs
returns-in_err-blobs g c =
    let out = err_from_is_err_and c.from_residual-in_err-blobs.result c.from_residual-in_err-blobs.ensures.1 in
    rw (out.1, out.2) (unread c.args.line.now (g.W.Write.contents c.args.writer.now) (IsOfBlobs c.args.line.now) (λ path inside. inr inside) c.in_err-blobs.field-0.0 c.in_err-blobs.ensures.fault)

pub write_report-requires : goal.write_report-requires
write_report-requires g c =
    let line = c.args.line.now in
    few_coming_for line (request_for (task_of line.what line.down_to) c.in_ok-manifests.manifests.items line.data_layers c.in_ok-blobs.blobs.items line.workers) c.in_ok-answered.answered c.in_ok-answered.ensures.coming

pub returns : goal.returns
returns g c =
    let line = c.args.line.now in
    let request : Request = request_for (task_of line.what line.down_to) c.in_ok-manifests.manifests.items line.data_layers c.in_ok-blobs.blobs.items line.workers in
    let made : IsRequestFor line request = record {
      what = task_what line.what line.down_to;
      left = refl;
      workers = refl;
      each = length-map c.in_ok-manifests.manifests.items (λ (manifest : Vec ℕ Global). manifest.items) ∙ (sym c.in_ok-manifests.manifests.ok.0 ∙ (c.in_ok-manifests.ensures.each ∙ ap length c.deref.ensures.value));
      bottom = refl;
      in_order = c.in_ok-blobs.ensures.in_order;
      none = c.in_ok-blobs.ensures.none;
    } in
    performed line _ _ c.write_report.result request made
    (reported_more (λ (outcome : Result Answer EngineFault). outcome ≡ c.in_ok-answered.answered) (IsComingFor line request)
    (λ outcome is. subst (IsComingFor line request) (sym is) c.in_ok-answered.ensures.coming)
    line.out _ _ c.write_report.result c.write_report.ensures)
