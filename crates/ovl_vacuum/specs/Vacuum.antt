-- Entries of the top layer that change nothing in the merged tree, and the layer without them.
use Rattle.std.specs.Prelude.{Bool, true, false, ◌&&◌, ◌||◌, not, List, map, filter}
use Rattle.std.specs.List.{list_all}
use Rattle.ovl_names.specs.Paths.{PathNames, parent_path, is_root}
use Rattle.ovl_inode.specs.declared.marks.Mark.{Mark}
use Rattle.ovl_inode.specs.declared.marks.Mark.TheVariants.{Whiteout, DirOpaque, DirMoved, DirBad}
use Rattle.ovl_inode.specs.Marks.{mark_of}
use Rattle.ovl_layer.specs.Layers.{Entries, Entry}
use Rattle.ovl_lookup.specs.Walk.{walk, natural_path}
use Rattle.ovl_lookup.specs.Stacks.{StackView}
use Rattle.ovl_lookup.specs.Merged.{look}
use Rattle.ovl_lookup.specs.Equal.{look_eq}
use Rattle.ovl_lookup.specs.Words.{over, is_at_or_under}

-- neither a whiteout nor a directory with a mark; overlayfs.rst, "whiteouts and opaque directories"
-- and "renaming directories"
abbrev pub may_be_idle : Mark → Bool
may_be_idle Whiteout = false
may_be_idle DirOpaque = false
may_be_idle (DirMoved redirect) = false
may_be_idle DirBad = false
may_be_idle _ = true

-- an entry that changes nothing: its directory is open, and the layers below show at its natural
-- path what all layers show at the entry; the root isn't one. What changes nothing is this
-- profile's own
abbrev pub is_idle : Entries → StackView → Entry → Bool
is_idle top below entry =
    not (is_root entry.0)
    && may_be_idle (mark_of entry.1)
    && not (walk top (parent_path entry.0)).closed
    && look_eq (look below (natural_path top entry.0)) (look (over top below) entry.0)

-- each entry at and under the path is idle
abbrev pub is_idle_throughout : Entries → StackView → PathNames → Bool
is_idle_throughout top below path =
    list_all (λ entry. not (is_at_or_under path entry.0) || is_idle top below entry) top

-- the top layer without each entry at and under which all are idle, and the paths of those
abbrev pub vacuumed_layer : Entries → StackView → Entries
vacuumed_layer top below = filter (λ entry. not (is_idle_throughout top below entry.0)) top

abbrev pub removed_paths : Entries → StackView → List PathNames
removed_paths top below =
    map (λ entry. entry.0) (filter (λ entry. is_idle_throughout top below entry.0) top)
