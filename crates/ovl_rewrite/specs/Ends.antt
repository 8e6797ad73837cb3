-- What the end of a work that makes a new layer keeps.
use Rattle.ovl_board.specs.Parcels.{parcel_views}
use Rattle.ovl_rewrite.specs.declared.ends.RewriteEnd.{RewriteEnd}
use Rattle.ovl_rewrite.specs.Directories.{inodes_seen}
use Rattle.ovl_rewrite.specs.NewLayers.{NewLayer, IsToldWithin}

-- its root and the parcels of the walk give this new layer
abbrev pub IsEndOf : NewLayer → RewriteEnd → Type 0
IsEndOf new end = IsToldWithin new end.root (parcel_views inodes_seen end.parcels.items)
