use Rattle.std.proofs.Common.{Some, None, lit<, ◌<◌, length, arith}
use Rattle.std.proofs.lemmas.Bool.Decides.{nat_tests}
use Rattle.std.proofs.lemmas.Str.Pattern.{split_parts}
use Rattle.ovl_names.specs.Names.{slash}
use Rattle.ovl_names.proofs.PathTexts.{lacks, text_names-first, text_names-alone}
use Rattle.ovl_names.proofs.path_names.cut_first.Goals as goal

pub returns-in-Some : goal.returns-in-Some
returns-in-Some c =
    let cut = split_parts 47 c.args.text.now (Some c.in-Some.parts) c.in-Some.ensures.cases (lit< tt) in
    text_names-first c.args.text.now c.in-Some.parts.0.now c.in-Some.parts.1.now cut.0 (lacks slash c.in-Some.parts.0.now cut.1) c.requires

pub returns-in-None : goal.returns-in-None
returns-in-None c =
    let none = split_parts 47 c.args.text.now None c.in-None.ensures.cases (lit< tt) in
    let some : 0 < length c.args.text.now = grind (arith, nat_tests) in
    text_names-alone c.args.text.now some (lacks slash c.args.text.now none)
