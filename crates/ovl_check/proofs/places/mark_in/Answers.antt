use Rattle.std.proofs.Common.{◌≡◌, ◌∙◌, Some, false, sym, ap}
use Rattle.std.specs.Option.{option_map}
use Rattle.ovl_names.specs.Paths.{PathNames, is_root}
use Rattle.ovl_inode.specs.declared.marks.Mark.{Mark}
use Rattle.ovl_inode.specs.Marks.{mark_of}
use Rattle.ovl_layer.specs.Layers.{entry_at}
use Rattle.ovl_check.proofs.GatherLemmas.{root-told, mark-root, mark-below}
use Rattle.ovl_check.proofs.places.mark_in.Goals as goal

pub returns-then-is_empty : goal.returns-then-is_empty
returns-then-is_empty c =
    mark-root c.args.sheet.now c.args.path.now (sym (root-told c.is_empty.result c.args.path.now c.is_empty.ensures) ∙ c.if-is_empty.true)
    ∙ ap (λ (mark : Mark). Some mark) (sym c.requires.plain)

pub returns : goal.returns
returns c =
    let below : is_root c.args.path.now ≡ false = sym (root-told c.is_empty.result c.args.path.now c.is_empty.ensures) ∙ c.if-is_empty.false in
    mark-below c.args.sheet.now c.args.path.now below
    ∙ (ap (λ (path : PathNames). option_map mark_of (entry_at c.args.sheet.now path)) (sym c.requires.path) ∙ c.mark.ensures)
