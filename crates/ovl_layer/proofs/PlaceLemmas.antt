-- A path that is followed name by name from a place in a layer.
use Rattle.std.proofs.Common.{◌≡◌, [], ◌∷◌, sym, ap, ◌∙◌}
use Rattle.ovl_names.specs.Names.{PathName}
use Rattle.ovl_names.specs.Paths.{PathNames}
use Rattle.ovl_layer.specs.Layers.{Entries}
use Rattle.ovl_layer.specs.LayerTrees.{entries_in, entries_under}
use Rattle.ovl_layer.proofs.NodeLemmas.{entries_under-nothing}

-- nothing has the next name
pub goes_nowhere : (place all : Entries) (names rest : PathNames) (name : PathName) → names ≡ name ∷ rest → entries_under names place ≡ all → entries_in name place ≡ [] → all ≡ []
goes_nowhere place all names rest name next same none =
    sym same ∙ (ap (λ (ns : PathNames). entries_under ns place) next ∙ (ap (entries_under rest) none ∙ entries_under-nothing rest))

-- this has the next name
pub goes_on : (place child all : Entries) (names rest : PathNames) (name : PathName) → names ≡ name ∷ rest → entries_under names place ≡ all → child ≡ entries_in name place → entries_under rest child ≡ all
goes_on place child all names rest name next same is = ap (entries_under rest) is ∙ (sym (ap (λ (ns : PathNames). entries_under ns place) next) ∙ same)
