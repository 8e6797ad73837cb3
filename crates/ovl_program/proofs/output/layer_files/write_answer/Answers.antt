use Rattle.std.proofs.Common.{◌≡◌, ℕ, All, String, arith, length, string_bytes, subst, vec_len}
use Rattle.std.specs.Global.{Global}
use Rattle.ovl_program.specs.LayerFiles.{IsLayerFile}
use Rattle.ovl_program.proofs.LeftOut.{unfinished}
use Rattle.ovl_program.proofs.output.layer_files.write_answer.Goals as goal

pub returns-in-Err : goal.returns-in-Err
returns-in-Err g c =
    let answer = c.args.answer.now in
    let paths = c.in_ok-paths.paths in
    let many : c.len.result ≡ length answer.layers.items = omega (arith, c.len.ensures, answer.layers.ok.0) in
    let same : vec_len paths ≡ length paths.items = omega (arith, paths.ok.0) in
    let each : length paths.items ≡ length answer.layers.items = omega (arith, same, many, c.in_ok-paths.ensures.each) in
    let named = subst (λ (n : ℕ). All (λ (path : String Global). IsLayerFile c.args.folder.now n (string_bytes path)) paths.items) many c.in_ok-paths.ensures.named in
    unfinished c.args.folder.now answer _ _ paths.items c.in-Err.fault c.unwritten.result each named
    (λ within. c.unwritten.ensures.layer (omega (arith, same, within))) (λ past. c.unwritten.ensures.report (omega (arith, same, past))) c.in-Err.ensures
