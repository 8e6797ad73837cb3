-- Worked values of marks, redirects, soundness and digests, by computation.
use Rattle.std.specs.Prelude.{◌≡◌, ◌++◌, ◌-◌, ◌^◌, ℕ, pos, negsuc, List, [], ◌∷◌, codes, Option, Some, None, refl, true, false, replicate, take}
use Rattle.hex.specs.Hex.{encode_lower}
use Rattle.ovl_names.specs.Names.{slash}
use Rattle.ovl_names.specs.Paths.{path_text}
use Rattle.ovl_inode.specs.declared.attributes.AttrFault.TheVariants.{Name, Memory}
use Rattle.ovl_inode.specs.declared.digests.Digest.{Digest}
use Rattle.ovl_inode.specs.declared.digests.DigestFault.TheVariants.{Length, Digit}
use Rattle.ovl_inode.specs.declared.inodes.Inode.{Inode}
use Rattle.ovl_inode.specs.declared.inodes.Kind.TheVariants.{Dir, File, Symlink, Char, Block, Fifo, Socket}
use Rattle.ovl_inode.specs.declared.marks.Mark.TheVariants.{Whiteout, DirOpaque, DirMoved, DirBad, DirPlain, Meta, MetaBad, Leaf}
use Rattle.ovl_inode.specs.declared.marks.Redirect.TheVariants.{To, Beside}
use Rattle.ovl_inode.specs.declared.marks.RedirectFault.TheVariants.{Empty, Text, Slash, Part}
use Rattle.ovl_inode.specs.Attributes.{Attributes, attribute, with_attribute, attribute_fault, attribute_refusal, has_escaped_name, overlay_prefix, escape_prefix, opaque_name, redirect_name, metacopy_name, whiteout_name}
use Rattle.ovl_inode.specs.Hexadecimal.{digest_of_text, digest_fault, bytes_of_digits}
use Rattle.ovl_inode.specs.Inodes.{plain_inode, visible}
use Rattle.ovl_inode.specs.Marks.{mark_of, is_whiteout, is_metacopy}
use Rattle.ovl_inode.specs.Redirects.{redirect_fault, read_redirect}
use Rattle.ovl_inode.specs.Sound.{is_sound_inode}
use Rattle.ovl_inode.proofs.OnLiterals.{inode_on_literals}

-- ---- plain inodes

abbrev directory : Attributes → Inode
directory attrs = plain_inode Dir 0o755 attrs

abbrev opaque : Inode
opaque = directory ((opaque_name, codes "y") ∷ [])

abbrev moved : List ℕ → Inode
moved value = directory ((redirect_name, value) ∷ [])

abbrev file : ℕ → Option Digest → Attributes → Inode
file size blob attrs = plain_inode (File size blob) 0o644 attrs

abbrev metacopy : ℕ → Inode
metacopy size = file size None ((metacopy_name, []) ∷ [])

abbrev whiteout : Inode
whiteout = plain_inode (Char 0 0) 0 []

-- the SHA-256 digest of the one byte `a`, in digits and in bytes
abbrev digits_a : List ℕ
digits_a = codes "ca978112ca1bbdcafac231b39a23dc4da786eff8147c4e72b9807785afee48bb"

abbrev digest_a : Digest
digest_a = 0xca ∷ 0x97 ∷ 0x81 ∷ 0x12 ∷ 0xca ∷ 0x1b ∷ 0xbd ∷ 0xca ∷ 0xfa ∷ 0xc2 ∷ 0x31 ∷ 0xb3 ∷ 0x9a ∷ 0x23 ∷ 0xdc ∷ 0x4d ∷ 0xa7 ∷ 0x86 ∷ 0xef ∷ 0xf8 ∷ 0x14 ∷ 0x7c ∷ 0x4e ∷ 0x72 ∷ 0xb9 ∷ 0x80 ∷ 0x77 ∷ 0x85 ∷ 0xaf ∷ 0xee ∷ 0x48 ∷ 0xbb ∷ []

-- ---- whiteouts

char_0_0 : mark_of whiteout ≡ Whiteout
unfolding inode_on_literals
char_0_0 = refl

char_0_1 : mark_of (plain_inode (Char 0 1) 0o600 []) ≡ Leaf
unfolding inode_on_literals
char_0_1 = refl

char_1_0 : mark_of (plain_inode (Char 1 0) 0o600 []) ≡ Leaf
unfolding inode_on_literals
char_1_0 = refl

block_0_0 : mark_of (plain_inode (Block 0 0) 0 []) ≡ Leaf
unfolding inode_on_literals
block_0_0 = refl

empty_file_with_whiteout : mark_of (file 0 None ((whiteout_name, []) ∷ [])) ≡ Whiteout
unfolding inode_on_literals
empty_file_with_whiteout = refl

empty_file_with_whiteout_of_any_value : mark_of (file 0 None ((whiteout_name, codes "n") ∷ [])) ≡ Whiteout
unfolding inode_on_literals
empty_file_with_whiteout_of_any_value = refl

empty_file_with_metacopy_and_whiteout : mark_of (file 0 None ((metacopy_name, []) ∷ (whiteout_name, []) ∷ [])) ≡ Whiteout
unfolding inode_on_literals
empty_file_with_metacopy_and_whiteout = refl

contents_with_whiteout : mark_of (file 1 (Some digest_a) ((whiteout_name, []) ∷ [])) ≡ Leaf
unfolding inode_on_literals
contents_with_whiteout = refl

metacopy_of_contents_with_whiteout : mark_of (file 1 None ((metacopy_name, []) ∷ (whiteout_name, []) ∷ [])) ≡ Meta None
unfolding inode_on_literals
metacopy_of_contents_with_whiteout = refl

directory_with_whiteout : mark_of (directory ((whiteout_name, codes "y") ∷ [])) ≡ DirPlain
unfolding inode_on_literals
directory_with_whiteout = refl

symlink_with_whiteout : mark_of (plain_inode (Symlink (codes "a")) 0o777 ((whiteout_name, codes "y") ∷ [])) ≡ Leaf
unfolding inode_on_literals
symlink_with_whiteout = refl

empty_file : mark_of (file 0 None []) ≡ Leaf
unfolding inode_on_literals
empty_file = refl

-- ---- directories

bare_directory : mark_of (directory []) ≡ DirPlain
unfolding inode_on_literals
bare_directory = refl

opaque_y : mark_of opaque ≡ DirOpaque
unfolding inode_on_literals
opaque_y = refl

opaque_x : mark_of (directory ((opaque_name, codes "x") ∷ [])) ≡ DirPlain
unfolding inode_on_literals
opaque_x = refl

opaque_upper_case : mark_of (directory ((opaque_name, codes "Y") ∷ [])) ≡ DirPlain
unfolding inode_on_literals
opaque_upper_case = refl

opaque_yy : mark_of (directory ((opaque_name, codes "yy") ∷ [])) ≡ DirPlain
unfolding inode_on_literals
opaque_yy = refl

opaque_empty : mark_of (directory ((opaque_name, []) ∷ [])) ≡ DirPlain
unfolding inode_on_literals
opaque_empty = refl

opaque_of_a_user : mark_of (directory ((codes "user.overlay.opaque", codes "y") ∷ [])) ≡ DirPlain
unfolding inode_on_literals
opaque_of_a_user = refl

opaque_escaped : mark_of (directory ((escape_prefix ++ codes "opaque", codes "y") ∷ [])) ≡ DirPlain
unfolding inode_on_literals
opaque_escaped = refl

redirect_under_opaque : mark_of (directory ((opaque_name, codes "y") ∷ (redirect_name, codes "/x") ∷ [])) ≡ DirOpaque
unfolding inode_on_literals
redirect_under_opaque = refl

bad_redirect_under_opaque : mark_of (directory ((opaque_name, codes "y") ∷ (redirect_name, []) ∷ [])) ≡ DirOpaque
unfolding inode_on_literals
bad_redirect_under_opaque = refl

redirect_under_opaque_x : mark_of (directory ((opaque_name, codes "x") ∷ (redirect_name, codes "/x") ∷ [])) ≡ DirMoved (To (codes "x" ∷ []))
unfolding inode_on_literals
redirect_under_opaque_x = refl

moved_to_path : mark_of (moved (codes "/x")) ≡ DirMoved (To (codes "x" ∷ []))
unfolding inode_on_literals
moved_to_path = refl

moved_to_deeper_path : mark_of (moved (codes "/x/y")) ≡ DirMoved (To (codes "x" ∷ codes "y" ∷ []))
unfolding inode_on_literals
moved_to_deeper_path = refl

moved_beside : mark_of (moved (codes "r")) ≡ DirMoved (Beside (codes "r"))
unfolding inode_on_literals
moved_beside = refl

moved_to_root : mark_of (moved (codes "/")) ≡ DirBad
unfolding inode_on_literals
moved_to_root = refl

moved_with_separator_at_end : mark_of (moved (codes "/a/")) ≡ DirBad
unfolding inode_on_literals
moved_with_separator_at_end = refl

moved_beside_with_separator : mark_of (moved (codes "a/b")) ≡ DirBad
unfolding inode_on_literals
moved_beside_with_separator = refl

moved_nowhere : mark_of (moved []) ≡ DirBad
unfolding inode_on_literals
moved_nowhere = refl

directory_with_metacopy : mark_of (directory ((metacopy_name, []) ∷ [])) ≡ DirPlain
unfolding inode_on_literals
directory_with_metacopy = refl

-- ---- metacopy files and what is left

metacopy_alone : mark_of (metacopy 1) ≡ Meta None
unfolding inode_on_literals
metacopy_alone = refl

metacopy_of_any_value : mark_of (file 1 None ((metacopy_name, codes "v") ∷ [])) ≡ Meta None
unfolding inode_on_literals
metacopy_of_any_value = refl

metacopy_of_no_size : mark_of (metacopy 0) ≡ Meta None
unfolding inode_on_literals
metacopy_of_no_size = refl

metacopy_moved_to_path : mark_of (file 1 None ((metacopy_name, []) ∷ (redirect_name, codes "/x/y") ∷ [])) ≡ Meta (Some (To (codes "x" ∷ codes "y" ∷ [])))
unfolding inode_on_literals
metacopy_moved_to_path = refl

metacopy_moved_beside : mark_of (file 1 None ((metacopy_name, []) ∷ (redirect_name, codes "r") ∷ [])) ≡ Meta (Some (Beside (codes "r")))
unfolding inode_on_literals
metacopy_moved_beside = refl

metacopy_moved_nowhere : mark_of (file 1 None ((metacopy_name, []) ∷ (redirect_name, codes "a/b") ∷ [])) ≡ MetaBad
unfolding inode_on_literals
metacopy_moved_nowhere = refl

metacopy_with_opaque : mark_of (file 1 None ((metacopy_name, []) ∷ (opaque_name, codes "y") ∷ [])) ≡ Meta None
unfolding inode_on_literals
metacopy_with_opaque = refl

contents : mark_of (file 1 (Some digest_a) []) ≡ Leaf
unfolding inode_on_literals
contents = refl

contents_with_redirect : mark_of (file 1 (Some digest_a) ((redirect_name, codes "/x") ∷ [])) ≡ Leaf
unfolding inode_on_literals
contents_with_redirect = refl

contents_with_opaque : mark_of (file 1 (Some digest_a) ((opaque_name, codes "y") ∷ [])) ≡ Leaf
unfolding inode_on_literals
contents_with_opaque = refl

symlink : mark_of (plain_inode (Symlink (codes "a b")) 0o777 ((codes "user.k", 1 ∷ []) ∷ [])) ≡ Leaf
unfolding inode_on_literals
symlink = refl

symlink_with_metacopy : mark_of (plain_inode (Symlink (codes "a")) 0o777 ((metacopy_name, []) ∷ [])) ≡ Leaf
unfolding inode_on_literals
symlink_with_metacopy = refl

fifo_and_socket : (mark_of (plain_inode Fifo 0o644 []) ≡ Leaf) × (mark_of (plain_inode Socket 0o644 []) ≡ Leaf)
unfolding inode_on_literals
fifo_and_socket = (refl, refl)

which_are_whiteouts : (is_whiteout whiteout ≡ true) × (is_whiteout (file 0 None []) ≡ false) × (is_whiteout (directory ((whiteout_name, []) ∷ [])) ≡ false)
unfolding inode_on_literals
which_are_whiteouts = (refl, refl, refl)

which_are_metacopies : (is_metacopy (metacopy 1) ≡ true) × (is_metacopy (file 1 (Some digest_a) []) ≡ false) × (is_metacopy (file 1 None ((metacopy_name, []) ∷ (redirect_name, []) ∷ [])) ≡ false) × (is_metacopy (file 0 None ((metacopy_name, []) ∷ (whiteout_name, []) ∷ [])) ≡ false)
unfolding inode_on_literals
which_are_metacopies = (refl, refl, refl, refl)

-- ---- redirects

path_from_root : read_redirect (codes "/x/y") ≡ Some (To (codes "x" ∷ codes "y" ∷ []))
unfolding inode_on_literals
path_from_root = refl

name_beside : read_redirect (codes "r") ≡ Some (Beside (codes "r"))
unfolding inode_on_literals
name_beside = refl

empty_redirect : (redirect_fault [] ≡ Some Empty) × (read_redirect [] ≡ None)
unfolding inode_on_literals
empty_redirect = (refl, refl)

redirect_of_no_text : (redirect_fault (0xff ∷ []) ≡ Some Text) × (read_redirect (0xff ∷ []) ≡ None)
unfolding inode_on_literals
redirect_of_no_text = (refl, refl)

redirect_with_NUL : (redirect_fault (97 ∷ 0 ∷ []) ≡ Some Text) × (read_redirect (97 ∷ 0 ∷ []) ≡ None)
unfolding inode_on_literals
redirect_with_NUL = (refl, refl)

NUL_and_separators : redirect_fault (0 ∷ slash ∷ slash ∷ []) ≡ Some Text
unfolding inode_on_literals
NUL_and_separators = refl

redirect_to_root : (redirect_fault (codes "/") ≡ Some Slash) × (read_redirect (codes "/") ≡ None)
unfolding inode_on_literals
redirect_to_root = (refl, refl)

redirect_with_separator_at_end : (redirect_fault (codes "/a/") ≡ Some Slash) × (read_redirect (codes "/a/") ≡ None)
unfolding inode_on_literals
redirect_with_separator_at_end = (refl, refl)

redirect_with_two_separators : (redirect_fault (codes "//a") ≡ Some Slash) × (read_redirect (codes "//a") ≡ None)
unfolding inode_on_literals
redirect_with_two_separators = (refl, refl)

relative_redirect_with_separator : (redirect_fault (codes "a/b") ≡ Some Slash) × (read_redirect (codes "a/b") ≡ None)
unfolding inode_on_literals
relative_redirect_with_separator = (refl, refl)

relative_redirect_upwards : redirect_fault (codes "../a") ≡ Some Slash
unfolding inode_on_literals
relative_redirect_upwards = refl

empty_part_after_dots : redirect_fault (codes "/../") ≡ Some Slash
unfolding inode_on_literals
empty_part_after_dots = refl

redirect_with_dots : (redirect_fault (codes "/a/..") ≡ Some Part) × (read_redirect (codes "/a/..") ≡ None)
unfolding inode_on_literals
redirect_with_dots = (refl, refl)

redirect_with_one_dot : redirect_fault (codes "/./a") ≡ Some Part
unfolding inode_on_literals
redirect_with_one_dot = refl

dot_beside : redirect_fault (codes ".") ≡ Some Part
unfolding inode_on_literals
dot_beside = refl

dots_beside : redirect_fault (codes "..") ≡ Some Part
unfolding inode_on_literals
dots_beside = refl

name_of_256_bytes_beside : (redirect_fault (replicate 256 97) ≡ Some Part) × (read_redirect (replicate 256 97) ≡ None)
unfolding inode_on_literals
name_of_256_bytes_beside = (refl, refl)

name_of_255_bytes_beside : read_redirect (replicate 255 97) ≡ Some (Beside (replicate 255 97))
unfolding inode_on_literals
name_of_255_bytes_beside = refl

part_of_256_bytes : redirect_fault (codes "/a/" ++ replicate 256 97) ≡ Some Part
unfolding inode_on_literals
part_of_256_bytes = refl

redirect_of_65_names : read_redirect (path_text (replicate 65 (codes "d"))) ≡ Some (To (replicate 65 (codes "d")))
unfolding inode_on_literals
redirect_of_65_names = refl

redirect_of_two_bytes_a_letter : read_redirect (0xc3 ∷ 0xa9 ∷ []) ≡ Some (Beside (0xc3 ∷ 0xa9 ∷ []))
unfolding inode_on_literals
redirect_of_two_bytes_a_letter = refl

-- ---- what the merged tree shows

opaque_directory_shown : visible opaque ≡ directory []
unfolding inode_on_literals
opaque_directory_shown = refl

moved_directory_shown : visible (moved (codes "/x")) ≡ directory []
unfolding inode_on_literals
moved_directory_shown = refl

other_attributes_stay : visible (file 1 (Some digest_a) ((opaque_name, []) ∷ (codes "user.k", 1 ∷ []) ∷ [])) ≡ file 1 (Some digest_a) ((codes "user.k", 1 ∷ []) ∷ [])
unfolding inode_on_literals
other_attributes_stay = refl

escaped_attributes_go : visible (directory ((escape_prefix ++ codes "opaque", codes "y") ∷ [])) ≡ directory []
unfolding inode_on_literals
escaped_attributes_go = refl

unknown_attributes_of_the_overlay_go : visible (directory ((overlay_prefix, []) ∷ (overlay_prefix ++ codes "origin", []) ∷ [])) ≡ directory []
unfolding inode_on_literals
unknown_attributes_of_the_overlay_go = refl

shorter_prefix_stays : visible (directory ((codes "trusted.overlay", []) ∷ (codes "trusted.overlayfs", []) ∷ [])) ≡ directory ((codes "trusted.overlay", []) ∷ (codes "trusted.overlayfs", []) ∷ [])
unfolding inode_on_literals
shorter_prefix_stays = refl

attributes_of_a_user_stay : visible (directory ((codes "user.overlay.opaque", codes "y") ∷ [])) ≡ directory ((codes "user.overlay.opaque", codes "y") ∷ [])
unfolding inode_on_literals
attributes_of_a_user_stay = refl

numbers_of_owner_and_time_stay : visible (record opaque { mode = 0o1700; uid = 7; gid = 8; mtime = negsuc 8; nsec = 9 }) ≡ record (directory []) { mode = 0o1700; uid = 7; gid = 8; mtime = negsuc 8; nsec = 9 }
unfolding inode_on_literals
numbers_of_owner_and_time_stay = refl

-- ---- inodes that a manifest can state

sound_directory : is_sound_inode (directory []) ≡ true
unfolding inode_on_literals
sound_directory = refl

sound_opaque : is_sound_inode opaque ≡ true
unfolding inode_on_literals
sound_opaque = refl

sound_moved : is_sound_inode (moved (codes "/x")) ≡ true
unfolding inode_on_literals
sound_moved = refl

sound_whiteout : is_sound_inode whiteout ≡ true
unfolding inode_on_literals
sound_whiteout = refl

sound_metacopy : is_sound_inode (metacopy 1) ≡ true
unfolding inode_on_literals
sound_metacopy = refl

sound_empty_metacopy : is_sound_inode (metacopy 0) ≡ true
unfolding inode_on_literals
sound_empty_metacopy = refl

sound_empty_file : is_sound_inode (file 0 None []) ≡ true
unfolding inode_on_literals
sound_empty_file = refl

sound_file : is_sound_inode (file 1 (Some digest_a) []) ≡ true
unfolding inode_on_literals
sound_file = refl

sound_symlink : is_sound_inode (plain_inode (Symlink (codes "a b")) 0o777 ((codes "user.k", 1 ∷ []) ∷ [])) ≡ true
unfolding inode_on_literals
sound_symlink = refl

sound_char : is_sound_inode (plain_inode (Char (2 ^ 32 - 1) (2 ^ 32 - 1)) 0o600 []) ≡ true
unfolding inode_on_literals
sound_char = refl

sound_block : is_sound_inode (plain_inode (Block (2 ^ 32 - 1) (2 ^ 32 - 1)) 0o600 []) ≡ true
unfolding inode_on_literals
sound_block = refl

sound_fifo : is_sound_inode (plain_inode Fifo 0o644 []) ≡ true
unfolding inode_on_literals
sound_fifo = refl

sound_socket : is_sound_inode (plain_inode Socket 0o644 []) ≡ true
unfolding inode_on_literals
sound_socket = refl

largest_numbers : is_sound_inode (record (directory []) { mode = 4095; uid = 2 ^ 32 - 1; gid = 2 ^ 32 - 1; mtime = pos (2 ^ 63 - 1); nsec = 999999999 }) ≡ true
unfolding inode_on_literals
largest_numbers = refl

earliest_time : is_sound_inode (record (directory []) { mtime = negsuc (2 ^ 63 - 1) }) ≡ true
unfolding inode_on_literals
earliest_time = refl

largest_file : is_sound_inode (file (2 ^ 63 - 1) (Some digest_a) []) ≡ true
unfolding inode_on_literals
largest_file = refl

longest_target : is_sound_inode (plain_inode (Symlink (replicate 4095 97)) 0o777 []) ≡ true
unfolding inode_on_literals
longest_target = refl

-- ---- inodes that no manifest can state

mode_4096 : is_sound_inode (record (directory []) { mode = 4096 }) ≡ false
unfolding inode_on_literals
mode_4096 = refl

uid_past_32_bits : is_sound_inode (record (directory []) { uid = 2 ^ 32 }) ≡ false
unfolding inode_on_literals
uid_past_32_bits = refl

gid_past_32_bits : is_sound_inode (record (directory []) { gid = 2 ^ 32 }) ≡ false
unfolding inode_on_literals
gid_past_32_bits = refl

mtime_past_63_bits : is_sound_inode (record (directory []) { mtime = pos (2 ^ 63) }) ≡ false
unfolding inode_on_literals
mtime_past_63_bits = refl

mtime_before_63_bits : is_sound_inode (record (directory []) { mtime = negsuc (2 ^ 63) }) ≡ false
unfolding inode_on_literals
mtime_before_63_bits = refl

nsec_of_a_whole_second : is_sound_inode (record (directory []) { nsec = 1000000000 }) ≡ false
unfolding inode_on_literals
nsec_of_a_whole_second = refl

size_past_63_bits : is_sound_inode (file (2 ^ 63) (Some digest_a) []) ≡ false
unfolding inode_on_literals
size_past_63_bits = refl

size_without_blob : is_sound_inode (file 1 None []) ≡ false
unfolding inode_on_literals
size_without_blob = refl

blob_without_size : is_sound_inode (file 0 (Some digest_a) []) ≡ false
unfolding inode_on_literals
blob_without_size = refl

blob_and_metacopy : is_sound_inode (file 1 (Some digest_a) ((metacopy_name, []) ∷ [])) ≡ false
unfolding inode_on_literals
blob_and_metacopy = refl

digest_of_one_number : is_sound_inode (file 1 (Some (1 ∷ [])) []) ≡ false
unfolding inode_on_literals
digest_of_one_number = refl

digest_of_numbers_past_a_byte : is_sound_inode (file 1 (Some (replicate 32 256)) []) ≡ false
unfolding inode_on_literals
digest_of_numbers_past_a_byte = refl

target_of_no_bytes : is_sound_inode (plain_inode (Symlink []) 0o777 []) ≡ false
unfolding inode_on_literals
target_of_no_bytes = refl

target_with_NUL : is_sound_inode (plain_inode (Symlink (97 ∷ 0 ∷ [])) 0o777 []) ≡ false
unfolding inode_on_literals
target_with_NUL = refl

target_of_4096_bytes : is_sound_inode (plain_inode (Symlink (replicate 4096 97)) 0o777 []) ≡ false
unfolding inode_on_literals
target_of_4096_bytes = refl

target_of_no_text : is_sound_inode (plain_inode (Symlink (0xff ∷ [])) 0o777 []) ≡ false
unfolding inode_on_literals
target_of_no_text = refl

major_past_32_bits : is_sound_inode (plain_inode (Char (2 ^ 32) 0) 0o600 []) ≡ false
unfolding inode_on_literals
major_past_32_bits = refl

minor_past_32_bits : is_sound_inode (plain_inode (Block 0 (2 ^ 32)) 0o600 []) ≡ false
unfolding inode_on_literals
minor_past_32_bits = refl

attribute_byte_777 : is_sound_inode (directory ((codes "user.k", 777 ∷ []) ∷ [])) ≡ false
unfolding inode_on_literals
attribute_byte_777 = refl

attribute_without_name : is_sound_inode (directory (([], []) ∷ [])) ≡ false
unfolding inode_on_literals
attribute_without_name = refl

attribute_name_with_NUL : is_sound_inode (directory ((0 ∷ [], []) ∷ [])) ≡ false
unfolding inode_on_literals
attribute_name_with_NUL = refl

attribute_name_of_no_text : is_sound_inode (directory ((0xff ∷ [], []) ∷ [])) ≡ false
unfolding inode_on_literals
attribute_name_of_no_text = refl

attributes_out_of_order : is_sound_inode (directory ((codes "user.b", []) ∷ (codes "user.a", []) ∷ [])) ≡ false
unfolding inode_on_literals
attributes_out_of_order = refl

attribute_twice : is_sound_inode (directory ((codes "user.a", []) ∷ (codes "user.a", []) ∷ [])) ≡ false
unfolding inode_on_literals
attribute_twice = refl

-- ---- attributes

attribute_of_no_name : attribute_fault [] ≡ Some Name
unfolding inode_on_literals
attribute_of_no_name = refl

attribute_of_256_bytes : attribute_fault (replicate 256 97) ≡ Some Name
unfolding inode_on_literals
attribute_of_256_bytes = refl

attribute_of_255_bytes : attribute_fault (replicate 255 97) ≡ None
unfolding inode_on_literals
attribute_of_255_bytes = refl

attribute_with_NUL : attribute_fault (97 ∷ 0 ∷ []) ≡ Some Name
unfolding inode_on_literals
attribute_with_NUL = refl

attribute_with_separator : attribute_fault (codes "user.a/b") ≡ None
unfolding inode_on_literals
attribute_with_separator = refl

memory_says_no_fault : (attribute_refusal Memory ≡ None) × (attribute_refusal Name ≡ Some Name)
unfolding inode_on_literals
memory_says_no_fault = (refl, refl)

put_and_found : attribute (with_attribute [] (codes "user.k") (1 ∷ [])) (codes "user.k") ≡ Some (1 ∷ [])
unfolding inode_on_literals
put_and_found = refl

put_and_another_looked_for : attribute (with_attribute [] (codes "user.k") (1 ∷ [])) (codes "user.l") ≡ None
unfolding inode_on_literals
put_and_another_looked_for = refl

put_before : with_attribute ((codes "user.k", 1 ∷ []) ∷ []) (codes "user.a") [] ≡ (codes "user.a", []) ∷ (codes "user.k", 1 ∷ []) ∷ []
unfolding inode_on_literals
put_before = refl

put_behind : with_attribute ((codes "user.k", 1 ∷ []) ∷ []) (codes "user.kk") [] ≡ (codes "user.k", 1 ∷ []) ∷ (codes "user.kk", []) ∷ []
unfolding inode_on_literals
put_behind = refl

put_again : with_attribute ((codes "user.k", 1 ∷ []) ∷ []) (codes "user.k") (2 ∷ []) ≡ (codes "user.k", 2 ∷ []) ∷ []
unfolding inode_on_literals
put_again = refl

which_are_escaped : (has_escaped_name ((opaque_name, []) ∷ (codes "trusted.overlay.overlay.opaque", []) ∷ []) ≡ true) × (has_escaped_name ((codes "trusted.overlay.overlay", []) ∷ []) ≡ false)
unfolding inode_on_literals
which_are_escaped = (refl, refl)

whole_names : (opaque_name ≡ codes "trusted.overlay.opaque") × (redirect_name ≡ codes "trusted.overlay.redirect") × (metacopy_name ≡ codes "trusted.overlay.metacopy") × (whiteout_name ≡ codes "trusted.overlay.whiteout")
unfolding inode_on_literals
whole_names = (refl, refl, refl, refl)

-- ---- digests

digest_of_64_digits : digest_of_text digits_a ≡ Some digest_a
unfolding inode_on_literals
digest_of_64_digits = refl

fault_of_64_digits : digest_fault digits_a ≡ None
unfolding inode_on_literals
fault_of_64_digits = refl

digits_of_digest : encode_lower digest_a ≡ digits_a
unfolding inode_on_literals
digits_of_digest = refl

digest_of_63_digits : (digest_fault (take 63 digits_a) ≡ Some Length) × (digest_of_text (take 63 digits_a) ≡ None)
unfolding inode_on_literals
digest_of_63_digits = (refl, refl)

digest_of_65_digits : (digest_fault (48 ∷ digits_a) ≡ Some Length) × (digest_of_text (48 ∷ digits_a) ≡ None)
unfolding inode_on_literals
digest_of_65_digits = (refl, refl)

digest_in_upper_case : (digest_fault (codes "CA978112CA1BBDCAFAC231B39A23DC4DA786EFF8147C4E72B9807785AFEE48BB") ≡ Some Digit) × (digest_of_text (codes "CA978112CA1BBDCAFAC231B39A23DC4DA786EFF8147C4E72B9807785AFEE48BB") ≡ None)
unfolding inode_on_literals
digest_in_upper_case = (refl, refl)

digest_with_another_letter : digest_fault (103 ∷ take 63 digits_a) ≡ Some Digit
unfolding inode_on_literals
digest_with_another_letter = refl

upper_case_too_short : digest_fault (codes "CA") ≡ Some Length
unfolding inode_on_literals
upper_case_too_short = refl

bytes_of_two_digits : bytes_of_digits (codes "79") ≡ Some (0x79 ∷ [])
unfolding inode_on_literals
bytes_of_two_digits = refl

bytes_of_no_digits : bytes_of_digits [] ≡ Some []
unfolding inode_on_literals
bytes_of_no_digits = refl

bytes_of_one_digit : bytes_of_digits (codes "7") ≡ None
unfolding inode_on_literals
bytes_of_one_digit = refl

bytes_in_upper_case : bytes_of_digits (codes "7F") ≡ None
unfolding inode_on_literals
bytes_in_upper_case = refl
