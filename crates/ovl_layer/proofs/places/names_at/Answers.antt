use Rattle.std.proofs.Common.{[], sym, ◌∙◌, ap}
use Rattle.ovl_layer.specs.Layers.{Entries, names_below}
use Rattle.ovl_layer.proofs.NodeLemmas.{names_below-under}
use Rattle.ovl_layer.proofs.places.names_at.Goals as goal

pub returns-in-Some : goal.returns-in-Some
returns-in-Some g c =
    let same = names_below-under c.args.path.now (g.P.LayerPlace.entries c.args.root) ∙ ap (λ (entries : Entries). names_below entries []) (sym c.in-Some.ensures.0) in
    rw same c.names.ensures

pub returns-in-None : goal.returns-in-None
returns-in-None g c =
    c.new.ensures.items ∙ sym (names_below-under c.args.path.now (g.P.LayerPlace.entries c.args.root) ∙ ap (λ (entries : Entries). names_below entries []) c.in-None.ensures)
