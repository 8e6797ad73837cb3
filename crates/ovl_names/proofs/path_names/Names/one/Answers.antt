use Rattle.std.proofs.Common.{◌∙◌, length, refl, sym, ap}
use Rattle.ovl_names.specs.Paths.{has_names}
use Rattle.ovl_names.proofs.PathTexts.{text_names-name}
use Rattle.ovl_names.proofs.path_names.Names.one.Goals as goal

pub invariant_of-result : goal.invariant_of-result
invariant_of-result c =
    let alone = text_names-name c.args.name.now c.requires in
    (sym (ap length alone), ap has_names alone ∙ rw c.requires refl)

pub returns : goal.returns
returns c = text_names-name c.args.name.now c.requires
