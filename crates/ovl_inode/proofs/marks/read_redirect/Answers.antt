use Rattle.std.proofs.Common.{◌≡◌, false, sym, ◌∙◌, ap, length, lit<, ◌∷◌, Some}
use Rattle.std.specs.Prelude.{◌==◌}
use Rattle.std.specs.Str.{is_utf8}
use Rattle.std.proofs.lemmas.Str.{is_utf8-from_IsUtf8}
use Rattle.std.proofs.lemmas.Str.Pattern.{strip_prefix_char}
use Rattle.ovl_names.specs.Names.{slash}
use Rattle.ovl_inode.proofs.RedirectLemmas.{encoding_fault, relative_text}
use Rattle.ovl_inode.proofs.marks.read_redirect.Goals as goal

pub returns-in_default : goal.returns-in_default
returns-in_default c =
    let some : (length c.args.value.now == 0) ≡ false = sym c.is_empty.ensures ∙ c.if-is_empty.false in
    encoding_fault c.args.value.now some c.in_default.ensures.cases.0

pub path_to-requires-clause-utf8 : goal.path_to-requires-clause-utf8
path_to-requires-clause-utf8 c =
    let text : c.in-Ok.text.now ≡ slash ∷ c.in-Some.rest.now = strip_prefix_char 47 c.in-Ok.text.now (Some c.in-Some.rest) c.in-Some.ensures.cases (lit< tt) in
    ap is_utf8 (sym text ∙ c.in-Ok.ensures.cases.0) ∙ is_utf8-from_IsUtf8 c.args.value.now c.in-Ok.ensures.cases.1

pub name_beside-requires-clause-relative : goal.name_beside-requires-clause-relative
name_beside-requires-clause-relative c = relative_text c.in-Ok.text.now c.in-None.ensures.cases
