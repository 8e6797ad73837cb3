-- What an inode means to the overlay: the first case that holds is its mark. overlayfs.rst,
-- "whiteouts and opaque directories", "renaming directories" and "Metadata only copy up".
use Rattle.std.specs.Prelude.{ℕ, Bool, true, false, ◌&&◌, ◌==◌, not, if◌then◌else◌, Some, None, List, is_some, codes}
use Rattle.ovl_names.specs.Names.{name_eq}
use Rattle.ovl_inode.specs.declared.inodes.Inode.{Inode}
use Rattle.ovl_inode.specs.declared.inodes.Kind.TheVariants.{Dir, File, Char}
use Rattle.ovl_inode.specs.declared.marks.Mark.{Mark}
use Rattle.ovl_inode.specs.declared.marks.Mark.TheVariants.{Whiteout, DirOpaque, DirMoved, DirBad, DirPlain, Meta, MetaBad, Leaf}
use Rattle.ovl_inode.specs.declared.marks.RedirectReading.{RedirectReading}
use Rattle.ovl_inode.specs.declared.marks.RedirectReading.TheVariants.{Absent, Malformed, Says}
use Rattle.ovl_inode.specs.Attributes.{attribute, opaque_name, redirect_name, metacopy_name, whiteout_name}
use Rattle.ovl_inode.specs.Redirects.{read_redirect}

-- the attribute is there, of any value
abbrev pub has_attribute : Inode → List ℕ → Bool
has_attribute inode name = is_some (attribute inode.attrs name)

-- the attribute is there, of this value
abbrev pub attribute_is : Inode → List ℕ → List ℕ → Bool
attribute_is inode name value =
    elim (attribute inode.attrs name) [ Some found ↦ name_eq found value | None ↦ false ]

abbrev pub is_directory : Inode → Bool
is_directory inode = elim inode.kind [ Dir ↦ true | _ ↦ false ]

abbrev pub is_regular : Inode → Bool
is_regular inode = elim inode.kind [ File size blob ↦ true | _ ↦ false ]

-- the attribute `metacopy` is there
abbrev pub has_metacopy : Inode → Bool
has_metacopy inode = has_attribute inode metacopy_name

-- a regular file that has its contents itself
abbrev pub is_data : Inode → Bool
is_data inode = is_regular inode && not (has_metacopy inode)

-- a char device 0:0, or an empty regular file with the attribute `whiteout`
abbrev pub is_whiteout : Inode → Bool
is_whiteout inode = elim inode.kind [
  | Char major minor ↦ major == 0 && minor == 0
  | File size blob ↦ size == 0 && has_attribute inode whiteout_name
  | _ ↦ false
]

-- the attribute `opaque` is `y`
abbrev pub has_opaque : Inode → Bool
has_opaque inode = attribute_is inode opaque_name (codes "y")

-- how `redirect` reads: absent, malformed, or what it says
abbrev pub redirect_reading : Inode → RedirectReading
redirect_reading inode =
    elim (attribute inode.attrs redirect_name) [
      | Some value ↦ elim (read_redirect value) [ Some redirect ↦ Says redirect | None ↦ Malformed ]
      | None ↦ Absent
    ]

-- the mark of a directory, and that of a metacopy file, with this reading of `redirect`
abbrev pub directory_mark : RedirectReading → Mark
directory_mark Absent = DirPlain
directory_mark Malformed = DirBad
directory_mark (Says redirect) = DirMoved redirect

abbrev pub metacopy_mark : RedirectReading → Mark
metacopy_mark Absent = Meta None
metacopy_mark Malformed = MetaBad
metacopy_mark (Says redirect) = Meta (Some redirect)

-- the mark of an inode: the first case that holds
abbrev pub mark_of : Inode → Mark
mark_of inode =
    if is_whiteout inode then Whiteout
    else if is_directory inode && has_opaque inode then DirOpaque
    else if is_directory inode then directory_mark (redirect_reading inode)
    else if is_regular inode && has_metacopy inode then metacopy_mark (redirect_reading inode)
    else Leaf

-- a metacopy file whose `redirect` is absent or well formed
abbrev pub is_metacopy_mark : Mark → Bool
is_metacopy_mark (Meta redirect) = true
is_metacopy_mark _ = false

abbrev pub is_metacopy : Inode → Bool
is_metacopy inode = is_metacopy_mark (mark_of inode)
