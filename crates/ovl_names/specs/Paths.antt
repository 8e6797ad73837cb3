-- Paths of an overlay: lists of names from the root down, the root the empty list.
use Rattle.std.specs.Prelude.{ℕ, Bool, true, false, Option, Some, None, List, [], ◌∷◌, ◌++◌, if◌then◌else◌, length, take, drop, ◌-◌, ◌==◌, not, is_some, nat_eq, nat_lt}
use Rattle.std.specs.declared.cmp.Ordering.{Ordering}
use Rattle.std.specs.Cmp.Lexicographic.{slice_cmp, pointwise}
use Rattle.std.specs.List.{starts_with, flat_map, slice_split, list_any, list_all}
use Rattle.std.specs.Str.{bytes_eq}
use Rattle.ovl_names.specs.declared.paths.PathFault.{PathFault}
use Rattle.ovl_names.specs.declared.paths.PathFault.TheVariants.{NotAbsolute, EmptyPart, BadPart, TooDeep, TooLong, Memory}
use Rattle.ovl_names.specs.Names.{PathName, name_eq, name_cmp, name_fault, is_name, slash}

-- a path, as its names
abbrev pub PathNames : Type 0
PathNames = List PathName

abbrev pub path_eq : PathNames → PathNames → Bool
path_eq = pointwise name_eq

-- path order: name by name as bytes, a path before its continuations
abbrev pub path_cmp : PathNames → PathNames → Ordering
path_cmp = slice_cmp name_cmp

-- each name of the path is one
abbrev pub has_names : PathNames → Bool
has_names path = list_all is_name path

abbrev pub is_root : PathNames → Bool
is_root [] = true
is_root (name ∷ names) = false

-- the path of the entry `name` in the directory `path`
abbrev pub child_path : PathNames → PathName → PathNames
child_path path name = path ++ name ∷ []

-- the path of the directory that holds a path's entry; that of the root is the root
abbrev pub parent_path : PathNames → PathNames
parent_path path = take (length path - 1) path

-- the same, where the root has none
abbrev pub parent_of : PathNames → Option PathNames
parent_of [] = None
parent_of (name ∷ names) = Some (parent_path (name ∷ names))

-- the longest prefix of a path at which the test holds, and the root where it holds at none
abbrev pub longest : (PathNames → Bool) → PathNames → PathNames
longest test [] = []
longest test (name ∷ names) =
    let found = name ∷ longest (λ rest. test (name ∷ rest)) names in
    if test found then found else []

-- the text of a path: a separator before each name, and one for the root
abbrev pub path_text : PathNames → List ℕ
path_text [] = slash ∷ []
path_text (name ∷ names) = flat_map (λ own. slash ∷ own) (name ∷ names)

-- what is between the separators of a text
abbrev pub parts_between : List ℕ → List (List ℕ)
parts_between text = slice_split (λ byte. byte == slash) text

-- the names of a text that has a separator between them; the empty text has none
abbrev pub text_names : List ℕ → PathNames
text_names [] = []
text_names (byte ∷ bytes) = parts_between (byte ∷ bytes)

-- the text of the names of two texts, one after the other
abbrev pub joined_text : List ℕ → List ℕ → List ℕ
joined_text [] below = below
joined_text (byte ∷ bytes) below = byte ∷ bytes ++ slash ∷ below

-- the parts of a path's text: none at `/`, else what is between the separators after the first
abbrev pub text_parts : List ℕ → List (List ℕ)
text_parts text = if bytes_eq text (slash ∷ []) then [] else parts_between (drop 1 text)

-- the limits of a path that a manifest states: names, and bytes of its text
abbrev pub depth_limit : ℕ
depth_limit = 128

abbrev pub text_limit : ℕ
text_limit = 4095

-- the least fault of a text that is no path of at most `depth` names, each tested over the whole
-- text before the next
abbrev pub path_fault : ℕ → List ℕ → Option PathFault
path_fault depth text =
    if not (starts_with nat_eq text (slash ∷ [])) then Some NotAbsolute
    else if list_any (λ part. length part == 0) (text_parts text) then Some EmptyPart
    else if list_any (λ part. is_some (name_fault part)) (text_parts text) then Some BadPart
    else if nat_lt depth (length (text_parts text)) then Some TooDeep
    else if nat_lt text_limit (length text) then Some TooLong
    else None

-- what a refusal says of the text: out of memory says that it has no fault
abbrev pub path_refusal : PathFault → Option PathFault
path_refusal Memory = None
path_refusal NotAbsolute = Some NotAbsolute
path_refusal EmptyPart = Some EmptyPart
path_refusal BadPart = Some BadPart
path_refusal TooDeep = Some TooDeep
path_refusal TooLong = Some TooLong
