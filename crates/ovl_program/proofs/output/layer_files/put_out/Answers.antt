use Rattle.std.proofs.Common.{arith}
use Rattle.ovl_program.proofs.LeftOut.{handed_out}
use Rattle.ovl_program.proofs.output.layer_files.put_out.Goals as goal

pub returns : goal.returns
returns g c =
    handed_out _ c.args.answer.now c.as_mut_slice.result.now c.hand_out.new.files _ _ c.hand_out.result
    (omega (arith, c.as_mut_slice.ensures.len, c.in_ok-open_all.ensures, c.requires.each)) c.hand_out.auto.files c.hand_out.ensures
