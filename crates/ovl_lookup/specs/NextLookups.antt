-- Where walks go on in the layer below one that has an entry.
use Rattle.std.specs.Prelude.{◌≡◌, Bool, true, false, Option, Some, None, if◌then◌else◌, is_some, is_none, unwrap_or}
use Rattle.ovl_names.specs.Names.{PathName}
use Rattle.ovl_names.specs.Paths.{PathNames, child_path}
use Rattle.ovl_inode.specs.declared.marks.Mark.{Mark}
use Rattle.ovl_inode.specs.declared.marks.Mark.TheVariants.{DirMoved, DirPlain, Meta}
use Rattle.ovl_inode.specs.declared.marks.Redirect.TheVariants.{To, Beside as ByName}
use Rattle.ovl_lookup.specs.declared.next_lookup.NextLookup.{NextLookup}
use Rattle.ovl_lookup.specs.declared.next_lookup.NextLookup.TheVariants.{Beside, At}

-- below an entry of this mark: at a path from the root, or beside it by a name
abbrev pub path_on : Mark → Option PathNames
path_on (DirMoved (To origin)) = Some origin
path_on (Meta (Some (To origin))) = Some origin
path_on _ = None

abbrev pub name_on : Mark → PathName → Option PathName
name_on DirPlain name = Some name
name_on (DirMoved (ByName own)) name = Some own
name_on (Meta None) name = Some name
name_on (Meta (Some (ByName own))) name = Some own
name_on _ name = None

-- the path and the flag at an entry of this mark and name, by those of the directory that it stands
-- in
abbrev pub next_on : Mark → PathNames → PathName → PathNames
next_on mark next name =
    unwrap_or (path_on mark) (child_path next (unwrap_or (name_on mark name) name))

abbrev pub closed_on : Mark → PathName → Bool → Bool
closed_on mark name closed =
    if is_some (path_on mark) then false else if is_none (name_on mark name) then true else closed

-- the same as the program gives it
abbrev pub path_told : NextLookup → Option PathNames
path_told (At path) = Some path.now
path_told _ = None

abbrev pub name_told : NextLookup → Option PathName
name_told (Beside name) = Some name.now
name_told _ = None

pub record IsNextLookup (mark : Mark) (name : PathName) (next_lookup : NextLookup) : Type 0 where
  pub at : path_told next_lookup ≡ path_on mark
  pub by : name_told next_lookup ≡ name_on mark name
