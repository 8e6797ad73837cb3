-- The directories of a new layer as work: a piece is a directory, its kids are the directories in
-- it, and its output is each name in it with its inode.
use Rattle.std.specs.Prelude.{◌≡◌, Bool, true, length, nat_lt, List, map, filter, Vec}
use Rattle.std.specs.Global.{Global}
use Rattle.std.specs.Coded.{Coded-set, codes}
use Rattle.ovl_names.specs.Names.{PathName, is_name}
use Rattle.ovl_names.specs.Paths.{PathNames, child_path}
use Rattle.ovl_inode.specs.declared.inodes.Inode.{Inode}
use Rattle.ovl_inode.specs.Marks.{is_directory}
use Rattle.ovl_layer.specs.Layers.{is_within_limits}
use Rattle.ovl_board.specs.declared.pieces.Piece.{Piece}
use Rattle.ovl_board.specs.Pieces.{piece_in}
use Rattle.ovl_rewrite.specs.declared.rooms.NameRoom.{NameRoom}

-- an entry of a directory: its name and its inode
abbrev pub NamedInode : Type 0
NamedInode = PathName × Inode

-- the kids of a directory are the directories in it, and its output is each name in it, in order,
-- with its inode
abbrev pub directories_among : Piece → List NamedInode → List Piece
directories_among piece entries =
    map (λ entry. piece_in piece entry.0) (filter (λ entry. is_directory entry.1) entries)

-- a manifest can hold a piece's directory
abbrev pub is_kept : Piece → Bool
is_kept piece = is_within_limits piece.dir

-- the kids that are visited: what no manifest can hold is left out, since no new layer has it
abbrev pub visited_kids : (Piece → List Piece) → Piece → List Piece
visited_kids kids piece = filter is_kept (kids piece)

-- a manifest can hold the paths of those names in a directory that have fewer bytes than this room
abbrev pub IsNameRoom : PathNames → NameRoom → Type 0
IsNameRoom directory room =
    (name : PathName) → is_name name ≡ true
    → is_within_limits (child_path directory name) ≡ nat_lt (length name) room.bytes

-- what is seen of the entries that a directory puts out
abbrev pub inodes_seen : Vec NamedInode Global → List NamedInode
inodes_seen inodes = inodes.items

-- such lists are plain data
pub inodes_set : IsSet (List NamedInode)
inodes_set = Coded-set (hlevel codes)
