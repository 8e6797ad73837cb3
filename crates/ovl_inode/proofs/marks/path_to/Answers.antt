use Rattle.std.proofs.Common.{◌≡◌, false, sym, ◌∙◌}
use Rattle.std.specs.Prelude.{◌==◌, length}
use Rattle.std.specs.List.{list_any}
use Rattle.ovl_names.specs.Paths.{parts_between}
use Rattle.ovl_inode.specs.Redirects.{is_bad_part}
use Rattle.ovl_inode.proofs.RedirectLemmas.{absolute_fault, redirect_names, parts_are_names}
use Rattle.ovl_inode.proofs.marks.path_to.Goals as goal

pub of_names-requires : goal.of_names-requires
of_names-requires c = redirect_names c.args.rest.now c.requires.utf8 c.requires.no_nul (sym c.has_empty_part.ensures ∙ c.if-has_empty_part.false) (sym c.has_bad_part.ensures ∙ c.if-has_bad_part.false)

pub returns : goal.returns
returns c =
    let some : list_any (λ part. length part == 0) (parts_between c.args.rest.now) ≡ false = sym c.has_empty_part.ensures ∙ c.if-has_empty_part.false in
    let fine : list_any is_bad_part (parts_between c.args.rest.now) ≡ false = sym c.has_bad_part.ensures ∙ c.if-has_bad_part.false in (
      c.in_ok-of_names.ensures ∙ parts_are_names c.args.rest.now some,
      absolute_fault c.args.rest.now false false c.requires.utf8 c.requires.no_nul some fine,
    )
