use Rattle.std.proofs.Common.{◌≡◌, ◌∙◌, inl, inr, refl, sym, ap, Result, Err}
use Rattle.ovl_commands.specs.declared.requests.Answer.{Answer}
use Rattle.ovl_engine.specs.declared.faults.EngineFault.{EngineFault}
use Rattle.ovl_program.proofs.Performed.{answered, told}
use Rattle.ovl_program.proofs.output.report.write_report.Goals as goal

pub returns-in-Some : goal.returns-in-Some
returns-in-Some g c =
    answered (λ (outcome : Result Answer EngineFault). outcome ≡ c.args.answered) c.args.out.now
    (g.W.Write.contents c.args.writer.now) (g.W.Write.contents c.write_answer.new.writer)
    c.in-Some.folder c.in-Some.is c.as_str.result.now c.as_str.ensures.value c.in-Ok.answer (sym c.in-Ok.is)
    c.write_answer.result c.write_answer.ensures

pub returns-in-Ok : goal.returns-in-Ok
returns-in-Ok g c =
    told (λ (outcome : Result Answer EngineFault). outcome ≡ c.args.answered) c.args.out.now
    (g.W.Write.contents c.args.writer.now) (g.W.Write.contents c.write.new.writer)
    c.deref.result.now c.of.result c.write.result
    (inl (c.in-Ok.answer, (sym c.in-Ok.is, (c.deref.ensures.value, c.of.ensures)))) c.write.ensures

pub returns-in-Err-Faulty : goal.returns-in-Err-Faulty
returns-in-Err-Faulty g c =
    told (λ (outcome : Result Answer EngineFault). outcome ≡ c.args.answered) c.args.out.now
    (g.W.Write.contents c.args.writer.now) (g.W.Write.contents c.write-in-Err-Faulty.new.writer)
    c.deref-in-Err-Faulty.result.now _ c.write-in-Err-Faulty.result
    (inr (c.in-Err-Faulty.report, (ap Err (sym c.in-Err-Faulty.field-0-is) ∙ sym c.in-Err-Faulty.is, (c.deref-in-Err-Faulty.ensures.value, refl)))) c.write-in-Err-Faulty.ensures
