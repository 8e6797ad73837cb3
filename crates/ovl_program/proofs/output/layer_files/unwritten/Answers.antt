use Rattle.std.proofs.Common.{◌<◌, arith, length, refl, sym}
use Rattle.ovl_program.proofs.output.layer_files.unwritten.Goals as goal

pub returns-then-part-len-clause-layer : goal.returns-then-part-len-clause-layer
returns-then-part-len-clause-layer c =
    let within : c.from-part.result < length c.args.paths.items = omega (arith, c.args.paths.ok.0) in
    λ _. (c.swap_remove.result, (refl, (c.from-part.result, within, sym c.swap_remove.ensures.value)))
