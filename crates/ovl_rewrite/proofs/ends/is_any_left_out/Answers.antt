use Rattle.std.proofs.Common.{◌∙◌, sym, rules, tests}
use Rattle.std.specs.Prelude.{Vec}
use Rattle.std.specs.Global.{Global}
use Rattle.std.proofs.lemmas.Iterator.{YieldsList-from_slice}
use Rattle.std.proofs.lemmas.Iterator.Search.{any_from_yields_List}
use Rattle.ovl_board.specs.declared.works.Parcel.{Parcel}
use Rattle.ovl_board.specs.Parcels.{parcel_view}
use Rattle.ovl_rewrite.specs.Directories.{NamedInode, inodes_seen}
use Rattle.ovl_rewrite.specs.NewLayers.{leaves_out}
use Rattle.ovl_rewrite.proofs.KeptLemmas.{any-map}
use Rattle.ovl_rewrite.proofs.ends.is_any_left_out.Goals as goal

pub returns : goal.returns
returns c =
    any_from_yields_List (λ (parcel : Parcel (Vec NamedInode Global)). leaves_out (parcel_view inodes_seen parcel)) _ _ _ c.any.ensures.ran
    (YieldsList-from_slice c.args.parcels.now cc) (λ x b q k. search (rules, tests))
    ∙ sym (any-map (parcel_view inodes_seen) leaves_out c.args.parcels.now)
