-- What a visit of deref knows of its directory.
use Rattle.std.specs.Prelude.{◌≡◌, ◌<◌, true, false, [], length}
use Rattle.ovl_names.specs.Paths.{PathNames}
use Rattle.ovl_layer.specs.Layers.{Entries}
use Rattle.ovl_layer.specs.LayerTrees.{entries_under}
use Rattle.ovl_layer.specs.Sheets.{path_at}
use Rattle.ovl_deref.specs.declared.directories.OwnPlace.{OwnPlace}
use Rattle.ovl_deref.specs.declared.directories.OwnPlace.TheVariants.{Moved, Row, Absent}
use Rattle.ovl_deref.specs.Directories.{is_at_moved}

-- this is what the topmost layer has at the path of a directory
abbrev pub IsOwnPlace : Entries → PathNames → OwnPlace → Type 0
IsOwnPlace top path Moved = is_at_moved top path ≡ true
IsOwnPlace top path (Row row) =
    (is_at_moved top path ≡ false) × (row < length top) × (path_at top row ≡ path)
IsOwnPlace top path Absent = (is_at_moved top path ≡ false) × (entries_under path top ≡ [])
