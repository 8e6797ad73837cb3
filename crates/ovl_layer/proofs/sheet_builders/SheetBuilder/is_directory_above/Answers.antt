use Rattle.std.proofs.Common.{◌≡◌, ◌∙◌, ℕ, List, Some, refl, arith, length}
use Rattle.std.specs.Prelude.{slice_get}
use Rattle.std.proofs.lemmas.Option.{slice_get_read}
use Rattle.ovl_layer.specs.declared.sheets.SheetRow.{SheetRow}
use Rattle.ovl_layer.proofs.SheetBuilderLemmas.{on_way, directory-on_way}
use Rattle.ovl_layer.proofs.sheet_builders.SheetBuilder.is_directory_above.Goals as goal

pub returns : goal.returns
returns c =
    let way : List ℕ = c.args.self.now.way.items in
    let rows : List SheetRow = c.args.self.now.rows.items in
    let number : ℕ = c.index-number.result.now in
    let listed : slice_get way c.args.depth ≡ Some number =
    slice_get_read way (length way) c.args.depth number refl (omega (arith, c.requires.builder.count, c.requires.depth)) c.index-number.ensures in
    let row : slice_get rows number ≡ Some c.index.result.now =
    slice_get_read rows (length rows) number c.index.result.now refl (on_way _ _ _ c.requires.builder c.args.depth number c.requires.depth listed).0 c.index.ensures in
    c.is_directory.ensures ∙ directory-on_way _ _ _ c.requires.builder c.args.depth number c.requires.depth listed c.index.result.now row
