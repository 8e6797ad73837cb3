use Rattle.std.proofs.Common.{◌∙◌, sym}
use Rattle.ovl_names.specs.Paths.{PathNames, child_path}
use Rattle.ovl_layer.specs.Sheets.{path_at}
use Rattle.ovl_vacuum.proofs.RowLemmas.{named-path, unnamed-path}
use Rattle.ovl_vacuum.proofs.places.+path_of.Goals as goal

pub returns-in_default : goal.returns-in_default
returns-in_default t c = c.root.ensures ∙ sym (unnamed-path (path_at c.args.sheet.now c.args.number) (sym c.in_default.ensures))

pub returns : goal.returns
returns t c =
    let path : PathNames = path_at c.args.sheet.now c.args.number in
    c.in_ok-push.ensures
    ∙ ((λ j. child_path ((c.in_ok-path.ensures ∙ c.directory_of.ensures.path) j) c.in-Some.name.now)
    ∙ named-path path c.in-Some.name.now (sym c.in-Some.ensures))
