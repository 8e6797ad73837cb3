use Rattle.std.proofs.Common.{◌≡◌, ◌<◌, ◌∙◌, refl, ap, length, subst, arith}
use Rattle.std.proofs.lemmas.Option.{slice_get_read}
use Rattle.ovl_layer.specs.Layers.{Entries}
use Rattle.ovl_layer.specs.Sheets.{path_at, last_name}
use Rattle.ovl_layer.proofs.SheetLemmas.{count, name-at}
use Rattle.ovl_layer.proofs.sheets.Sheet.name.Goals as goal

pub index-requires : goal.index-requires
index-requires c = omega (arith, c.requires, ap length c.self.view_is, count _ _ _ c.self.invariant, c.self.inside.rows.ok.0)

pub returns : goal.returns
returns c =
    let inside : c.args.number < length c.self.inside.rows.items =
    omega (arith, c.requires, ap length c.self.view_is, count _ _ _ c.self.invariant) in
    let at = slice_get_read c.self.inside.rows.items (length c.self.inside.rows.items) c.args.number c.index.result.now refl inside c.index.ensures in
    c.as_ref.ensures.value
    ∙ subst (λ (layer : Entries). c.index.result.now.name ≡ last_name (path_at layer c.args.number)) c.self.view_is
    (name-at _ c.self.invariant.are c.args.number c.index.result.now at)
