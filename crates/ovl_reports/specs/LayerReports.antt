-- The report of a new layer: a line for each entry below its root, in path order, and the number of
-- its entries.
use Rattle.std.specs.Prelude.{ℕ, Some, List, [], ◌++◌, if◌then◌else◌, length, decimal, codes}
use Rattle.std.specs.List.{flat_map}
use Rattle.ovl_names.specs.Paths.{is_root}
use Rattle.ovl_names.specs.Escapes.{escaped, shown_path}
use Rattle.ovl_inode.specs.Marks.{mark_of}
use Rattle.ovl_inode.specs.declared.marks.Mark.{Mark}
use Rattle.ovl_inode.specs.declared.marks.Mark.TheVariants.{Whiteout, DirOpaque, DirMoved, DirBad, DirPlain, Meta, MetaBad, Leaf}
use Rattle.ovl_inode.specs.declared.marks.Redirect.{Redirect}
use Rattle.ovl_inode.specs.declared.marks.Redirect.TheVariants.{To, Beside}
use Rattle.ovl_layer.specs.Layers.{Entry, Entries}
use Rattle.ovl_reports.specs.Reports.{spaced}

-- the word of a mark; a malformed redirect, which no new layer has, counts as none that closes what
-- is below
abbrev pub mark_word : Mark → List ℕ
mark_word Whiteout = codes "whiteout"
mark_word DirOpaque = codes "opaque"
mark_word (DirMoved redirect) = codes "moved"
mark_word DirBad = codes "opaque"
mark_word DirPlain = codes "plain"
mark_word (Meta redirect) = codes "meta"
mark_word MetaBad = codes "leaf"
mark_word Leaf = codes "leaf"

-- a redirect: a path, or the name beside
abbrev pub redirect_word : Redirect → List ℕ
redirect_word (To path) = shown_path path
redirect_word (Beside name) = escaped name

-- the redirect at the end of a line, of a directory or metacopy file that has one
abbrev pub redirect_end : Mark → List ℕ
redirect_end (DirMoved redirect) = codes " " ++ redirect_word redirect
redirect_end (Meta (Some redirect)) = codes " " ++ redirect_word redirect
redirect_end _ = []

-- `MARK PATH`, and ` TO` where there is a redirect, by the text of the path
abbrev pub marked_line : Mark → List ℕ → List ℕ
marked_line mark path = spaced (mark_word mark) ++ path ++ redirect_end mark ++ codes "\n"

-- the line of an entry; none for the root
abbrev pub entry_line : Entry → List ℕ
entry_line entry =
    if is_root entry.0 then [] else marked_line (mark_of entry.1) (shown_path entry.0)

-- the lines, and then `entries N`, the root counted
abbrev pub layer_report : Entries → List ℕ
layer_report entries =
    flat_map entry_line entries ++ codes "entries " ++ decimal (length entries) ++ codes "\n"
