-- The report of `show`: a line for each path of the merged tree, in path order, and their number.
use Rattle.std.specs.Prelude.{ℕ, ℤ, ◌+◌, ◌-◌, ◌/◌, ◌%◌, ◌==◌, Bool, true, false, if◌then◌else◌, Option, Some, None, List, [], ◌∷◌, ◌++◌, length, replicate, decimal, codes}
use Rattle.std.specs.Fmt.{signed_decimal}
use Rattle.std.specs.List.{flat_map}
use Rattle.hex.specs.Hex.{encode_lower}
use Rattle.ovl_names.specs.Paths.{PathNames}
use Rattle.ovl_names.specs.Escapes.{escaped, shown_path}
use Rattle.ovl_inode.specs.Kinds.{kind_word}
use Rattle.ovl_inode.specs.declared.digests.Digest.{Digest}
use Rattle.ovl_inode.specs.declared.inodes.Inode.{Inode}
use Rattle.ovl_inode.specs.declared.inodes.Kind.{Kind}
use Rattle.ovl_inode.specs.declared.inodes.Kind.TheVariants.{File, Symlink, Char, Block}
use Rattle.ovl_lookup.specs.declared.looks.Look.{Look}
use Rattle.ovl_lookup.specs.declared.looks.Look.TheVariants.{Nothing, Shown, Broken}

-- the last octal digit of a number, and the last four
abbrev pub octal_digit : ℕ → ℕ
octal_digit number = 48 + number % 8

abbrev pub octal : ℕ → List ℕ
octal mode =
    octal_digit (mode / 512) ∷ octal_digit (mode / 64) ∷ octal_digit (mode / 8) ∷ octal_digit mode
    ∷ []

-- nine digits of a number, the first ones zeros where it has fewer
abbrev pub nine_digits : ℕ → List ℕ
nine_digits number = replicate (9 - length (decimal number)) 48 ++ decimal number

-- the seconds of a time, and where it has nanoseconds `+` and nine digits of them
abbrev pub time_word : ℤ → ℕ → List ℕ
time_word seconds nsec =
    signed_decimal seconds ++ (if nsec == 0 then [] else codes "+" ++ nine_digits nsec)

-- only files have a size
abbrev pub size_word : Kind → List ℕ
size_word (File size blob) = decimal size
size_word _ = codes "-"

-- the digest of a file's contents, `missing` where it is `broken`, a metacopy file without its
-- data, and `-` where it is empty
abbrev pub blob_word : Bool → Option Digest → List ℕ
blob_word true blob = codes "missing"
blob_word false (Some blob) = encode_lower blob
blob_word false None = codes "-"

-- `MAJOR:MINOR`
abbrev pub device_word : ℕ → ℕ → List ℕ
device_word major minor = decimal major ++ codes ":" ++ decimal minor

-- what a kind has of its own: contents, a target, or the numbers of a device
abbrev pub what_word : Bool → Kind → List ℕ
what_word broken (File size blob) = blob_word broken blob
what_word broken (Symlink target) = escaped target
what_word broken (Char major minor) = device_word major minor
what_word broken (Block major minor) = device_word major minor
what_word broken _ = codes "-"

-- an attribute at the end of a line
abbrev pub attribute_word : List ℕ × List ℕ → List ℕ
attribute_word attr = codes " " ++ escaped attr.0 ++ codes "=" ++ encode_lower attr.1

-- what is before the names in a directory
abbrev pub shown_names : PathNames → List ℕ
shown_names dir = flat_map (λ own. codes "/" ++ escaped own) dir

-- a word, and the space after it
abbrev pub spaced : List ℕ → List ℕ
spaced word = word ++ codes " "

-- `KIND MODE UID GID MTIME SIZE WHAT PATH`, and then ` NAME=HEX` for each attribute, by the text of
-- the path
abbrev pub line_of : Bool → List ℕ → Inode → List ℕ
line_of broken path inode =
    spaced (kind_word inode.kind) ++ spaced (octal inode.mode)
    ++ spaced (decimal inode.uid) ++ spaced (decimal inode.gid)
    ++ spaced (time_word inode.mtime inode.nsec)
    ++ spaced (size_word inode.kind) ++ spaced (what_word broken inode.kind)
    ++ path ++ flat_map attribute_word inode.attrs ++ codes "\n"

abbrev pub inode_line : Bool → PathNames → Inode → List ℕ
inode_line broken path inode = line_of broken (shown_path path) inode

-- the line of what is shown, by the text of its path
abbrev pub look_line : List ℕ → Look → List ℕ
look_line path Nothing = []
look_line path (Shown inode) = line_of false path inode
look_line path (Broken inode) = line_of true path inode

-- the line of what is shown at a path of the merged tree
abbrev pub show_line : PathNames × Look → List ℕ
show_line entry = look_line (shown_path entry.0) entry.1

-- the lines, and then `entries N`
abbrev pub show_report : List (PathNames × Look) → List ℕ
show_report looks =
    flat_map show_line looks ++ codes "entries " ++ decimal (length looks) ++ codes "\n"
