use Rattle.std.proofs.Common.{Some, None, ◌<◌, length, arith}
use Rattle.std.proofs.lemmas.Bool.Decides.{nat_tests}
use Rattle.ovl_names.proofs.PathTexts.{rsplit_parts, text_names-last, text_names-alone}
use Rattle.ovl_names.proofs.path_names.cut_last.Goals as goal

pub returns-in-Some : goal.returns-in-Some
returns-in-Some c =
    let cut = rsplit_parts c.args.text.now (Some c.in-Some.parts) c.in-Some.ensures.cases in
    text_names-last c.args.text.now c.in-Some.parts.0.now c.in-Some.parts.1.now cut.0 cut.1 c.requires

pub returns-in-None : goal.returns-in-None
returns-in-None c =
    let some : 0 < length c.args.text.now = grind (arith, nat_tests) in
    text_names-alone c.args.text.now some (rsplit_parts c.args.text.now None c.in-None.ensures.cases)
