-- Worked reports of `show`, computed.
use Rattle.std.specs.Prelude.{◌≡◌, ℕ, ℤ, pos, negsuc, true, false, Some, None, List, [], ◌∷◌, codes, refl}
use Rattle.std.specs.Fmt.{digits}
use Rattle.hex.specs.Hex.{encode_with}
use Rattle.ovl_names.specs.Paths.{PathNames}
use Rattle.ovl_inode.specs.declared.inodes.Inode.{Inode}
use Rattle.ovl_inode.specs.declared.inodes.Kind.TheVariants.{Dir, File, Symlink, Char, Block}
use Rattle.ovl_inode.specs.Inodes.{plain_inode}
use Rattle.ovl_lookup.specs.declared.looks.Look.{Look}
use Rattle.ovl_lookup.specs.declared.looks.Look.TheVariants.{Shown}
use Rattle.ovl_reports.specs.Reports.{octal, inode_line, show_report}

abbrev directory : Inode
directory = plain_inode Dir 0o755 []

abbrev entry : PathNames → Inode → PathNames × Look
entry path inode = (path, Shown inode)

-- the SHA-256 digest of `a`
abbrev digest_of_a : List ℕ
digest_of_a =
    0xca ∷ 0x97 ∷ 0x81 ∷ 0x12 ∷ 0xca ∷ 0x1b ∷ 0xbd ∷ 0xca ∷ 0xfa ∷ 0xc2 ∷ 0x31 ∷ 0xb3 ∷ 0x9a ∷ 0x23 ∷ 0xdc ∷ 0x4d
    ∷ 0xa7 ∷ 0x86 ∷ 0xef ∷ 0xf8 ∷ 0x14 ∷ 0x7c ∷ 0x4e ∷ 0x72 ∷ 0xb9 ∷ 0x80 ∷ 0x77 ∷ 0x85 ∷ 0xaf ∷ 0xee ∷ 0x48 ∷ 0xbb ∷ []

root_alone : show_report (entry [] directory ∷ []) ≡ codes "dir 0755 0 0 0 - - /\nentries 1\n"
unfolding digits encode_with
root_alone = refl

device_and_link : show_report (
    entry [] directory
    ∷ entry (codes "g" ∷ []) (plain_inode (Char 0 1) 0o600 [])
    ∷ entry (codes "l" ∷ []) (plain_inode (Symlink (codes "a b")) 0o777 ((codes "user.k", 1 ∷ []) ∷ []))
    ∷ [])
    ≡ codes "dir 0755 0 0 0 - - /\nchar 0600 0 0 0 - 0:1 /g\nsymlink 0777 0 0 0 - a\\x20b /l user.k=01\nentries 3\n"
unfolding digits encode_with
device_and_link = refl

directory_over_directory : show_report (
    entry [] directory
    ∷ entry (codes "d" ∷ []) directory
    ∷ entry (codes "d" ∷ codes "k" ∷ []) (plain_inode (File 1 (Some digest_of_a)) 0o644 [])
    ∷ [])
    ≡ codes "dir 0755 0 0 0 - - /\ndir 0755 0 0 0 - - /d\nfile 0644 0 0 0 1 ca978112ca1bbdcafac231b39a23dc4da786eff8147c4e72b9807785afee48bb /d/k\nentries 3\n"
unfolding digits encode_with
directory_over_directory = refl

opaque_directory : show_report (entry [] directory ∷ entry (codes "d" ∷ []) directory ∷ [])
    ≡ codes "dir 0755 0 0 0 - - /\ndir 0755 0 0 0 - - /d\nentries 2\n"
unfolding digits encode_with
opaque_directory = refl

metacopy_without_data : inode_line true (codes "f" ∷ []) (plain_inode (File 1 None) 0o644 []) ≡ codes "file 0644 0 0 0 1 missing /f\n"
unfolding digits encode_with
metacopy_without_data = refl

empty_file : inode_line false (codes "e" ∷ []) (plain_inode (File 0 None) 0o644 []) ≡ codes "file 0644 0 0 0 0 - /e\n"
unfolding digits encode_with
empty_file = refl

all_the_mode_bits : octal 0o7654 ≡ codes "7654"
all_the_mode_bits = refl

before_the_epoch : inode_line false (codes "b" ∷ []) (record (plain_inode (Block 8 17) 0o60 ((codes "user.a", []) ∷ (codes "user.b c", 0 ∷ 255 ∷ []) ∷ [])) { uid = 1000; gid = 6; mtime = negsuc 4 })
    ≡ codes "block 0060 1000 6 -5 - 8:17 /b user.a= user.b\\x20c=00ff\n"
unfolding digits encode_with
before_the_epoch = refl

abbrev timed : ℤ → ℕ → List ℕ
timed seconds nsec = inode_line false (codes "k" ∷ []) (record (plain_inode (File 0 None) 0o644 []) { mtime = seconds; nsec = nsec })

a_nanosecond_past_a_second : timed (pos 7) 1 ≡ codes "file 0644 0 0 7+000000001 0 - /k\n"
unfolding digits encode_with
a_nanosecond_past_a_second = refl

a_nanosecond_before_the_epoch : timed (negsuc 0) 999999999 ≡ codes "file 0644 0 0 -1+999999999 0 - /k\n"
unfolding digits encode_with
a_nanosecond_before_the_epoch = refl
