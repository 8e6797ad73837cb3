use Rattle.std.proofs.Common.{◌≡◌, ◌∷◌, ◌<◌, ◌∙◌, lit<, length, sym, Some, arith}
use Rattle.std.proofs.lemmas.Bool.Decides.{nat_tests}
use Rattle.std.proofs.lemmas.Str.Pattern.{strip_prefix_char}
use Rattle.ovl_names.specs.Names.{slash}
use Rattle.ovl_names.specs.Paths.{depth_limit}
use Rattle.ovl_names.proofs.NameLemmas.{path_fault-relative, clean-path_fault}
use Rattle.ovl_names.proofs.PathTexts.{has_names-clean, utf8-rest}
use Rattle.ovl_names.proofs.paths.Path.parse.Goals as goal

pub returns-in_default : goal.returns-in_default
returns-in_default c = path_fault-relative depth_limit c.args.text.now c.in_default.ensures.cases

pub of_names-requires : goal.of_names-requires
of_names-requires c =
    let text : c.args.text.now ≡ slash ∷ c.in-Some.rest.now = strip_prefix_char 47 c.args.text.now (Some c.in-Some.rest) c.in-Some.ensures.cases (lit< tt) in
    let some : 0 < length c.in-Some.rest.now = grind (arith, nat_tests) in
    has_names-clean c.in-Some.rest.now (clean-path_fault c.in-Some.rest.now some (sym c.parts_fault.ensures ∙ c.in-None.is)) (utf8-rest c.args.text.now c.in-Some.rest.now text c.utf8.text)
