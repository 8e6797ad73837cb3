-- Names of directory entries: what a name is, and the least fault of a text that is none.
use Rattle.std.specs.Prelude.{ℕ, Bool, ◌&&◌, ◌||◌, ◌==◌, if◌then◌else◌, Option, Some, None, List, [], ◌∷◌, length, nat_lt, is_none}
use Rattle.std.specs.Ordering.{nat_cmp}
use Rattle.std.specs.declared.cmp.Ordering.{Ordering}
use Rattle.std.specs.Cmp.Lexicographic.{slice_cmp}
use Rattle.std.specs.List.{list_any}
use Rattle.std.specs.Str.{bytes_eq, is_utf8}
use Rattle.ovl_names.specs.declared.names.NameFault.{NameFault}
use Rattle.ovl_names.specs.declared.names.NameFault.TheVariants.{Empty, TooLong, Dot, Slash, Nul, Memory}

-- a name, as its bytes
abbrev pub PathName : Type 0
PathName = List ℕ

-- the bytes of `.` and of `..`, and the separator of a path
abbrev pub dot : List ℕ
dot = 46 ∷ []

abbrev pub dot_dot : List ℕ
dot_dot = 46 ∷ 46 ∷ []

abbrev pub slash : ℕ
slash = 47

-- the most bytes of a name
abbrev pub name_limit : ℕ
name_limit = 255

-- two names are one where their bytes are, and they are ordered as bytes
abbrev pub name_eq : PathName → PathName → Bool
name_eq = bytes_eq

abbrev pub name_cmp : PathName → PathName → Ordering
name_cmp = slice_cmp nat_cmp

-- the least fault of a text that is no name
abbrev pub name_fault : List ℕ → Option NameFault
name_fault bytes =
    if length bytes == 0 then Some Empty
    else if nat_lt name_limit (length bytes) then Some TooLong
    else if name_eq bytes dot || name_eq bytes dot_dot then Some Dot
    else if list_any (λ byte. byte == slash) bytes then Some Slash
    else if list_any (λ byte. byte == 0) bytes then Some Nul
    else None

-- a name is a text without such a fault
abbrev pub is_name : List ℕ → Bool
is_name bytes = is_none (name_fault bytes) && is_utf8 bytes

-- what a refusal says of the text: out of memory says that it has no fault
abbrev pub name_refusal : NameFault → Option NameFault
name_refusal Memory = None
name_refusal Empty = Some Empty
name_refusal TooLong = Some TooLong
name_refusal Dot = Some Dot
name_refusal Slash = Some Slash
name_refusal Nul = Some Nul
