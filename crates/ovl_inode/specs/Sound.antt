-- Inodes whose values a manifest can state.
use Rattle.std.specs.Prelude.{ℕ, ℤ, pos, negsuc, ◌^◌, ◌-◌, Bool, true, ◌&&◌, ◌==◌, not, Option, Some, None, List, length, nat_lt, nat_le}
use Rattle.std.specs.List.{list_any}
use Rattle.std.specs.Str.{is_utf8}
use Rattle.ovl_inode.specs.declared.digests.Digest.{Digest}
use Rattle.ovl_inode.specs.declared.inodes.Inode.{Inode}
use Rattle.ovl_inode.specs.declared.inodes.Kind.{Kind}
use Rattle.ovl_inode.specs.declared.inodes.Kind.TheVariants.{File, Symlink, Char, Block}
use Rattle.ovl_inode.specs.Bytes.{is_digest}
use Rattle.ovl_inode.specs.Attributes.{are_attributes}
use Rattle.ovl_inode.specs.Marks.{has_metacopy}

-- the limits of a mode, of the nanoseconds of a time, of a file's size, and of a symlink's target
-- in bytes
abbrev pub mode_limit : ℕ
mode_limit = 4095

abbrev pub nsec_limit : ℕ
nsec_limit = 999999999

abbrev pub size_limit : ℕ
size_limit = 2 ^ 63 - 1

abbrev pub target_limit : ℕ
target_limit = 4095

-- the numbers of 32 bits, and the seconds of 64 with a sign
abbrev pub is_word : ℕ → Bool
is_word number = nat_lt number (2 ^ 32)

abbrev pub is_seconds : ℤ → Bool
is_seconds (pos seconds) = nat_lt seconds (2 ^ 63)
is_seconds (negsuc seconds) = nat_lt seconds (2 ^ 63)

-- a symlink's target is text of 1 to 4,095 bytes without NUL
abbrev pub is_target : List ℕ → Bool
is_target text =
    nat_lt 0 (length text) && nat_le (length text) target_limit
    && not (list_any (λ byte. byte == 0) text) && is_utf8 text

-- a file has a blob exactly if its size is over 0 and it has no `metacopy`
abbrev pub has_sound_blob : ℕ → Option Digest → Bool → Bool
has_sound_blob size (Some blob) metacopy = nat_lt 0 size && not metacopy && is_digest blob
has_sound_blob size None metacopy = not (nat_lt 0 size && not metacopy)

abbrev pub is_sound_kind : Kind → Bool → Bool
is_sound_kind (File size blob) metacopy =
    nat_le size size_limit && has_sound_blob size blob metacopy
is_sound_kind (Symlink target) metacopy = is_target target
is_sound_kind (Char major minor) metacopy = is_word major && is_word minor
is_sound_kind (Block major minor) metacopy = is_word major && is_word minor
is_sound_kind _ metacopy = true

-- each value of the inode is one that a manifest can state
abbrev pub is_sound_inode : Inode → Bool
is_sound_inode inode =
    is_sound_kind inode.kind (has_metacopy inode)
    && nat_le inode.mode mode_limit
    && is_word inode.uid
    && is_word inode.gid
    && is_seconds inode.mtime
    && nat_le inode.nsec nsec_limit
    && are_attributes inode.attrs
