-- The walk of a path in one layer: what is found there, which path goes on in the layer below, and
-- whether it is closed.
use Rattle.std.specs.Prelude.{Bool, true, false, Option, Some, None, List, [], ◌∷◌, ◌++◌, if◌then◌else◌, length, map, drop, is_some, unwrap_or}
use Rattle.std.specs.List.{list_any}
use Rattle.ovl_names.specs.Names.{PathName}
use Rattle.ovl_names.specs.Paths.{PathNames, child_path, parent_path, longest}
use Rattle.ovl_inode.specs.declared.inodes.Inode.{Inode}
use Rattle.ovl_inode.specs.declared.marks.Mark.{Mark}
use Rattle.ovl_inode.specs.declared.marks.Mark.TheVariants.{Whiteout, DirOpaque, DirMoved, DirBad, DirPlain, Meta, MetaBad, Leaf}
use Rattle.ovl_inode.specs.declared.marks.Redirect.TheVariants.{To, Beside}
use Rattle.ovl_inode.specs.Marks.{mark_of, is_whiteout}
use Rattle.ovl_layer.specs.Layers.{Entries, entry_at, is_directory_at}
use Rattle.ovl_lookup.specs.declared.steps.Step.{Step}

-- the mark of the entry at a path; the root counts as a plain directory
abbrev pub mark_at : Entries → PathNames → Option Mark
mark_at layer [] = Some DirPlain
mark_at layer (name ∷ names) =
    elim (entry_at layer (name ∷ names)) [ Some inode ↦ Some (mark_of inode) | None ↦ None ]

-- where a directory with an absolute redirect was before; overlayfs.rst, "renaming directories"
abbrev pub origin_path : Option Mark → Option PathNames
origin_path (Some (DirMoved (To origin))) = Some origin
origin_path _ = None

-- the name by which the layers below know a directory; that a redirect can be one name, beside the
-- old one, is this profile's
abbrev pub name_in_lower : Option Mark → PathName → PathName
name_in_lower (Some (DirMoved (Beside name))) own = name
name_in_lower _ own = own

-- a directory that hides what the layers below have in it; overlayfs.rst, "whiteouts and opaque
-- directories"; that a malformed redirect does too is this profile's
abbrev pub is_closing : Option Mark → Bool
is_closing (Some DirOpaque) = true
is_closing (Some DirBad) = true
is_closing _ = false

-- the longest prefix of a path that has an absolute redirect, or the root
abbrev pub last_jump : Entries → PathNames → PathNames
last_jump layer path = longest (λ prefix. is_some (origin_path (mark_at layer prefix))) path

-- the path's prefixes longer than `from`, by the names after it, each with its last name
abbrev pub steps_from : PathNames → PathNames → List (PathNames × PathName)
steps_from from [] = []
steps_from from (name ∷ names) =
    (child_path from name, name) ∷ steps_from (child_path from name) names

abbrev pub steps_after_jump : Entries → PathNames → List (PathNames × PathName)
steps_after_jump layer path =
    let jump = last_jump layer path in steps_from jump (drop (length jump) path)

-- the path by which the layers below know a directory: from its last absolute redirect on,
-- each name as the layers below have it
abbrev pub turn : Entries → PathNames → PathNames
turn layer directory =
    unwrap_or (origin_path (mark_at layer (last_jump layer directory))) []
    ++ map (λ step. name_in_lower (mark_at layer step.0) step.1) (steps_after_jump layer directory)

-- some directory after the last absolute redirect hides the layers below
abbrev pub is_shut : Entries → PathNames → Bool
is_shut layer directory =
    list_any (λ step. is_closing (mark_at layer step.0)) (steps_after_jump layer directory)

-- a walk that found nothing, and one that found this inode
abbrev pub nothing_found : PathNames → Bool → Step
nothing_found next closed = record { found = None; next = next; closed = closed }

abbrev pub found_at_end : Inode → PathNames → Bool → Step
found_at_end inode next closed = record { found = Some inode; next = next; closed = closed }

-- the non-directory `name` in a directory with this turn, which may be shut; overlayfs.rst,
-- "Metadata only copy up", "Data-only lower layers" and "whiteouts and opaque directories"; that a
-- malformed redirect closes the walk, and that an absolute one opens it, are this profile's
abbrev pub walk_to_file : Inode → Mark → PathNames → Bool → PathName → Step
walk_to_file inode (Meta None) turned shut name = found_at_end inode (child_path turned name) shut
walk_to_file inode (Meta (Some (To origin))) turned shut name = found_at_end inode origin false
walk_to_file inode (Meta (Some (Beside origin))) turned shut name =
    found_at_end inode (child_path turned origin) shut
walk_to_file inode MetaBad turned shut name = found_at_end inode (child_path turned name) true
walk_to_file inode Leaf turned shut name = found_at_end inode (child_path turned name) true
walk_to_file inode Whiteout turned shut name = found_at_end inode (child_path turned name) true
walk_to_file inode DirOpaque turned shut name = found_at_end inode (child_path turned name) true
walk_to_file inode (DirMoved redirect) turned shut name =
    found_at_end inode (child_path turned name) true
walk_to_file inode DirBad turned shut name = found_at_end inode (child_path turned name) true
walk_to_file inode DirPlain turned shut name = found_at_end inode (child_path turned name) true

-- `name` and then `rest` below a directory with this turn, where `name` is no directory;
-- overlayfs.rst, "Upper and Lower" and "whiteouts and opaque directories"; that a whiteout or a
-- file on the way hides the layers below is this profile's
abbrev pub walk_beyond : Option Inode → PathNames → Bool → PathName → PathNames → Step
walk_beyond None turned shut name rest = nothing_found (turned ++ name ∷ rest) shut
walk_beyond (Some inode) turned shut name [] =
    if is_whiteout inode then nothing_found (child_path turned name) true
    else walk_to_file inode (mark_of inode) turned shut name
walk_beyond (Some inode) turned shut name (other ∷ rest) =
    nothing_found (turned ++ name ∷ other ∷ rest) true

-- the walk of a path, by its longest prefix that is a directory and the names after it
abbrev pub walk_from : Entries → PathNames → PathNames → Step
walk_from layer directory [] =
    record {
      found = entry_at layer directory;
      next = turn layer directory;
      closed = is_shut layer directory;
    }
walk_from layer directory (name ∷ rest) =
    walk_beyond (entry_at layer (child_path directory name)) (turn layer directory)
    (is_shut layer directory) name rest

-- the walk of a path in a layer; overlayfs.rst, "Directories" and "renaming directories"
abbrev pub walk : Entries → PathNames → Step
walk layer path =
    let directory = longest (is_directory_at layer) path in
    walk_from layer directory (drop (length directory) path)

-- where the layers below have an entry by its own name: the next path of its directory, and that
-- name
abbrev pub natural_path : Entries → PathNames → PathNames
natural_path layer path =
    (walk layer (parent_path path)).next ++ drop (length (parent_path path)) path
