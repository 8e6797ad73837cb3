use Rattle.std.proofs.Common.{◌∙◌, sym, ap, subst, length, take}
use Rattle.ovl_names.specs.Paths.{PathNames, path_text}
use Rattle.ovl_layer.specs.TextPaths.{slashed, AreEnds}
use Rattle.ovl_layer.specs.SheetBuilders.{last_path}
use Rattle.ovl_layer.proofs.WayLemmas.{path_text-child}
use Rattle.ovl_manifest.proofs.compact_layers.add_beside.Goals as goal

pub returns-in-Ok-go_on-clause-path : goal.returns-in-Ok-go_on-clause-path
returns-in-Ok-go_on-clause-path c =
    let place = c.in_ok-depth in
    ap path_text (c.in-Ok.ensures).last
    ∙ (path_text-child (take place.depth (last_path c.args.builder.now)) place.name ∙ sym place.ensures.text)

pub returns-in-Ok-go_on-clause-last : goal.returns-in-Ok-go_on-clause-last
returns-in-Ok-go_on-clause-last c = ap slashed (c.in-Ok.ensures).last ∙ sym c.in_ok-depth.ensures.text

pub returns-in-Ok-go_on-clause-ends : goal.returns-in-Ok-go_on-clause-ends
returns-in-Ok-go_on-clause-ends c =
    let place = c.in_ok-depth in
    subst (λ (path : PathNames). AreEnds path c.go_on.new.ends.items) (sym (c.in-Ok.ensures).last)
    (c.in-Ok-go_on.ensures (last_path c.args.builder.now) place.name c.requires.ends place.ensures.entry.within (ap length place.ensures.text))
