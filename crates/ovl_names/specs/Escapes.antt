-- How reports write texts, names and paths: in printable ASCII, with no space in them.
use Rattle.std.specs.Prelude.{ℕ, Bool, ◌&&◌, ◌==◌, not, List, [], ◌∷◌, ◌++◌, if◌then◌else◌, nat_lt, codes}
use Rattle.std.specs.List.{flat_map}
use Rattle.hex.specs.Hex.{encode_lower}
use Rattle.ovl_names.specs.Paths.{PathNames}

-- bytes that stand for themselves: 0x21 to 0x7E, but for the backslash
abbrev pub is_plain : ℕ → Bool
is_plain byte = nat_lt 0x20 byte && nat_lt byte 0x7f && not (byte == 0x5c)

-- every other byte stands as `\xHH`, in lower case
abbrev pub escaped_byte : ℕ → List ℕ
escaped_byte byte = if is_plain byte then byte ∷ [] else codes "\\x" ++ encode_lower (byte ∷ [])

abbrev pub escaped : List ℕ → List ℕ
escaped bytes = flat_map escaped_byte bytes

-- a path has `/` before each of its names, and the root is `/`
abbrev pub shown_path : PathNames → List ℕ
shown_path [] = codes "/"
shown_path (name ∷ names) = flat_map (λ own. codes "/" ++ escaped own) (name ∷ names)
