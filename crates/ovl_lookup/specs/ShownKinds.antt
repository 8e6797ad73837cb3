-- Of what kind it is that a stack shows.
use Rattle.ovl_inode.specs.declared.inodes.Kind.{Kind}
use Rattle.ovl_inode.specs.declared.inodes.Kind.TheVariants.{Dir, File}
use Rattle.ovl_lookup.specs.declared.looks.Look.{Look}
use Rattle.ovl_lookup.specs.declared.looks.Look.TheVariants.{Nothing, Shown, Broken}
use Rattle.ovl_lookup.specs.declared.shown_kinds.ShownKind.{ShownKind}
use Rattle.ovl_lookup.specs.declared.shown_kinds.ShownKind.TheVariants.{Nothing as Unseen, Directory, File as RegularFile, Other}

abbrev pub shown_kind_of_kind : Kind → ShownKind
shown_kind_of_kind Dir = Directory
shown_kind_of_kind (File size blob) = RegularFile
shown_kind_of_kind _ = Other

-- what is broken is no directory
abbrev pub shown_kind_of_broken : Kind → ShownKind
shown_kind_of_broken (File size blob) = RegularFile
shown_kind_of_broken _ = Other

-- by the kind of the inode that is shown
abbrev pub shown_kind_of : Look → ShownKind
shown_kind_of Nothing = Unseen
shown_kind_of (Shown inode) = shown_kind_of_kind inode.kind
shown_kind_of (Broken inode) = shown_kind_of_broken inode.kind
