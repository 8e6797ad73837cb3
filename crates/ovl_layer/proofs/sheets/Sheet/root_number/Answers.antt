use Rattle.std.proofs.Common.{◌≡◌, ◌<◌, [], length, subst}
use Rattle.ovl_layer.specs.Layers.{Entries, IsLayer}
use Rattle.ovl_layer.specs.Sheets.{path_at}
use Rattle.ovl_layer.proofs.SheetLemmas.{root-inside, root-path}
use Rattle.ovl_layer.proofs.sheets.Sheet.root_number.Goals as goal

pub returns-clause-inside : goal.returns-clause-inside
returns-clause-inside c = subst (λ (layer : Entries). 0 < length layer) c.self.view_is (root-inside _ _ _ c.self.invariant)

pub returns-clause-path : goal.returns-clause-path
returns-clause-path c = subst (λ (layer : Entries). path_at layer 0 ≡ []) c.self.view_is (root-path _ _ _ c.self.invariant)

pub returns-clause-layer : goal.returns-clause-layer
returns-clause-layer c = subst IsLayer c.self.view_is c.self.invariant.are.layer
