-- The layer of entries one after another, or the first fault.
use Rattle.std.specs.Prelude.{◌≡◌, ⊤, ℕ, Bool, true, false, ◌&&◌, ◌||◌, ◌==◌, not, Option, Some, None, Result, Ok, Err, List, [], ◌∷◌, ◌++◌, if◌then◌else◌, length, map, nat_lt}
use Rattle.std.specs.List.{list_all}
use Rattle.std.specs.Ordering.{is_lt}
use Rattle.std.specs.Result.{result_err}
use Rattle.ovl_names.specs.Paths.{PathNames, path_cmp, parent_path, is_root}
use Rattle.ovl_inode.specs.Attributes.{has_escaped_name}
use Rattle.ovl_inode.specs.Marks.{is_directory}
use Rattle.ovl_inode.specs.Sound.{is_sound_inode}
use Rattle.ovl_layer.specs.Layers.{Entry, Entries, is_directory_at, is_within_limits, entry_limit}
use Rattle.ovl_layer.specs.declared.faults.LayerFault.{LayerFault}
use Rattle.ovl_layer.specs.declared.faults.LayerFault.TheVariants.{Count, Entry as WrongEntry, Order, NoParent, Root, Escaped, Memory}

-- the path comes strictly after all paths before it
abbrev pub comes_after : Entries → PathNames → Bool
comes_after before path = list_all (λ entry. is_lt (path_cmp entry.0 path)) before

-- the fault of the first entry, and that of the entry `n` after others
abbrev pub root_fault : Entry → Option LayerFault
root_fault entry = if is_root entry.0 && is_directory entry.1 then None else Some Root

abbrev pub place_fault : Entries → Entry → Option LayerFault
place_fault before entry =
    if not (comes_after before entry.0) then Some (Order (length before))
    else if not (is_directory_at before (parent_path entry.0)) then Some (NoParent (length before))
    else None

abbrev pub fault_after : Entries → Entry → Option LayerFault
fault_after [] entry = root_fault entry
fault_after (first ∷ others) entry = place_fault (first ∷ others) entry

-- the fault of an entry after these: of an escaped attribute first
abbrev pub entry_fault : Entries → Entry → Option LayerFault
entry_fault before entry =
    if has_escaped_name entry.1.attrs then Some (Escaped (length before))
    else fault_after before entry

-- the entries with one more, or its fault
abbrev pub entry_after : Entries → Option Entry → Result Entries LayerFault
entry_after before None = Err (WrongEntry (length before))
entry_after before (Some entry) =
    elim (entry_fault before entry) [ Some fault ↦ Err fault | None ↦ Ok (before ++ entry ∷ []) ]

-- the entries with all of these, or the first fault
abbrev pub entries_after : Entries → List (Option Entry) → Result Entries LayerFault
entries_after before [] = Ok before
entries_after before (stated ∷ more) =
    elim (entry_after before stated)
    [ Ok entries ↦ entries_after entries more | Err fault ↦ Err fault ]

-- a layer has 1 to 1,048,576 entries
abbrev pub is_miscounted : ℕ → Bool
is_miscounted count = count == 0 || nat_lt entry_limit count

abbrev pub layer_of_entries : List (Option Entry) → Result Entries LayerFault
layer_of_entries stated =
    if is_miscounted (length stated) then Err Count else entries_after [] stated

-- a pair states an entry where its path keeps the limits and its inode is sound
abbrev pub is_statable : Entry → Bool
is_statable entry = is_within_limits entry.0 && is_sound_inode entry.1

abbrev pub stated_pair : Entry → Option Entry
stated_pair entry = if is_statable entry then Some entry else None

-- the layer of pairs
abbrev pub layer_of_pairs : Entries → Result Entries LayerFault
layer_of_pairs pairs = layer_of_entries (map stated_pair pairs)

-- the fault of the first pair, where there are as many pairs as a layer has
abbrev pub first_fault : Entries → Option LayerFault
first_fault [] = None
first_fault (pair ∷ pairs) =
    if is_miscounted (length (pair ∷ pairs)) then None
    else result_err (entry_after [] (stated_pair pair))

-- the faults that only a first entry has
abbrev pub is_of_first : LayerFault → Bool
is_of_first (WrongEntry n) = n == 0
is_of_first (Escaped n) = n == 0
is_of_first Root = true
is_of_first _ = false

-- the fault that was given is the one that is stated; out of memory may come at any time
abbrev pub IsFaultOf : Result Entries LayerFault → LayerFault → Type 0
IsFaultOf stated Memory = ⊤
IsFaultOf stated fault = stated ≡ Err fault
