use Rattle.std.proofs.Common.{◌≡◌, ◌∙◌, IfOk, sym, ap, subst}
use Rattle.ovl_names.specs.Paths.{PathNames, child_path}
use Rattle.ovl_layer.specs.Sheets.{path_at}
use Rattle.ovl_vacuum.proofs.RowLemmas.{named-path, unnamed-path}
use Rattle.ovl_vacuum.proofs.places.path_in.Goals as goal

pub returns-in-Some : goal.returns-in-Some
returns-in-Some c =
    let path : PathNames = path_at c.args.sheet.now c.args.number in
    let same : child_path c.args.directory.now c.in-Some.name.now ≡ path =
    ap (λ (d : PathNames). child_path d c.in-Some.name.now) c.requires.directory ∙ named-path path c.in-Some.name.now (sym c.in-Some.ensures) in
    subst (λ (p : PathNames). IfOk c.child.result (λ found. found ≡ p)) same c.child.ensures

pub returns-in-None : goal.returns-in-None
returns-in-None c = c.root.ensures ∙ sym (unnamed-path (path_at c.args.sheet.now c.args.number) (sym c.in-None.ensures))
