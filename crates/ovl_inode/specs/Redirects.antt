-- What the value of a `redirect` says: a path from the overlay's root, or a name beside the
-- directory. overlayfs.rst, "renaming directories"; a name beside the directory, and which values
-- are malformed, is this profile's.
use Rattle.std.specs.Prelude.{ℕ, Bool, false, not, ◌||◌, ◌==◌, if◌then◌else◌, Option, Some, None, List, [], ◌∷◌, length, nat_lt, drop}
use Rattle.std.specs.List.{list_any}
use Rattle.std.specs.Str.{is_utf8}
use Rattle.ovl_names.specs.Names.{name_eq, dot, dot_dot, slash, name_limit}
use Rattle.ovl_names.specs.Paths.{parts_between}
use Rattle.ovl_inode.specs.declared.marks.Redirect.{Redirect}
use Rattle.ovl_inode.specs.declared.marks.Redirect.TheVariants.{To, Beside}
use Rattle.ovl_inode.specs.declared.marks.RedirectFault.{RedirectFault}
use Rattle.ovl_inode.specs.declared.marks.RedirectFault.TheVariants.{Empty, Text, Slash, Part, Memory}

-- an absolute value begins with `/`
abbrev pub is_absolute : List ℕ → Bool
is_absolute [] = false
is_absolute (byte ∷ bytes) = byte == slash

-- the names that a value spells: what is between its separators, after the first of an absolute
-- one
abbrev pub redirect_parts : List ℕ → List (List ℕ)
redirect_parts value = parts_between (if is_absolute value then drop 1 value else value)

-- `/`, `/a/`, `//a`, and any separator in a relative value
abbrev pub has_bad_slash : List ℕ → Bool
has_bad_slash value =
    if is_absolute value then list_any (λ part. length part == 0) (redirect_parts value)
    else list_any (λ byte. byte == slash) value

-- a part that no entry can have as its name
abbrev pub is_bad_part : List ℕ → Bool
is_bad_part part = name_eq part dot || name_eq part dot_dot || nat_lt name_limit (length part)

-- the least fault of a value that is no redirect
abbrev pub redirect_fault : List ℕ → Option RedirectFault
redirect_fault value =
    if length value == 0 then Some Empty
    else if not (is_utf8 value) || list_any (λ byte. byte == 0) value then Some Text
    else if has_bad_slash value then Some Slash
    else if list_any is_bad_part (redirect_parts value) then Some Part
    else None

-- what a refusal says of the value: out of memory says that it has no fault
abbrev pub redirect_refusal : RedirectFault → Option RedirectFault
redirect_refusal Memory = None
redirect_refusal Empty = Some Empty
redirect_refusal Text = Some Text
redirect_refusal Slash = Some Slash
redirect_refusal Part = Some Part

-- the redirect that a value without a fault says
abbrev pub redirect_of : List ℕ → Redirect
redirect_of value = if is_absolute value then To (redirect_parts value) else Beside value

-- what a value of `redirect` says, if it is well formed
abbrev pub read_redirect : List ℕ → Option Redirect
read_redirect value =
    elim (redirect_fault value) [ Some fault ↦ None | None ↦ Some (redirect_of value) ]
