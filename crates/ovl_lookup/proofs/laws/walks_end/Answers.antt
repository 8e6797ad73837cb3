use Rattle.std.proofs.Common.{refl}
use Rattle.ovl_names.specs.Paths.{child_path}
use Rattle.ovl_layer.specs.Layers.{entry_at}
use Rattle.ovl_lookup.proofs.LawsOfWalks.{walk-child_end}
use Rattle.ovl_lookup.proofs.laws.walks_end.Goals as goal

pub returns : goal.returns
returns c = λ layer path name is rest holds stops. walk-child_end layer path name is (entry_at layer (child_path path name)) holds refl stops rest
