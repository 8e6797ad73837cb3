use Rattle.std.proofs.Common.{◌∙◌, ◌<◌, ℕ, List, length, string_bytes, ap, sym, arith, Some}
use Rattle.std.proofs.lemmas.List.{length-map}
use Rattle.ovl_inode.specs.Tables.{attribute_of, bytes_of}
use Rattle.ovl_inode.proofs.SearchLemmas.{value-found, value-missing}
use Rattle.ovl_inode.proofs.tables.Table.get.Goals as goal

pub returns-in-Ok : goal.returns-in-Ok
returns-in-Ok c =
    let names : List ℕ = string_bytes c.self.inside.names in
    let values : List ℕ = c.self.inside.values.items in
    let places = c.self.inside.places.items in
    let inside : c.in-Ok.place < length places = omega (arith, c.in-Ok.ensures.1, ap length c.self.view_is, length-map places (attribute_of names values)) in
    ap Some (c.of_bytes.ensures ∙ ap (λ (bytes : List ℕ). bytes_of bytes c.index.result.now.value) c.deref.ensures.value)
    ∙ sym (value-found names values c.args.name.now places c.args.self.now c.in-Ok.place c.index.result.now c.self.view_is c.index.ensures inside c.in-Ok.ensures)

pub returns-in-Err : goal.returns-in-Err
returns-in-Err c = sym (value-missing c.args.name.now c.args.self.now c.in-Err.field-0 c.requires c.in-Err.ensures)
