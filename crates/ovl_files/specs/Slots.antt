-- What several workers report of the blobs of a folder, by the numbers of their names.
use Rattle.std.specs.Prelude.{◌≡◌, ◌≤◌, ◌==◌, ℕ, Option, Some, None, Result, Ok, Err, List, [], All, Contains, IfSome, Vec, find, reverse, slice_get, unwrap_or}
use Rattle.std.specs.Global.{Global}
use Rattle.std.specs.Option.{option_map}
use Rattle.ovl_blobs.specs.declared.contents.BlobInfo.{BlobInfo}
use Rattle.ovl_files.specs.declared.slots.Slots.{Slots}
use Rattle.ovl_files.specs.declared.slots.Stop.{Stop}
use Rattle.ovl_files.specs.declared.slots.Told.{Told}
use Rattle.ovl_files.specs.Faults.{IsUnread}
use Rattle.ovl_files.specs.BlobFolders.{IsInFolder, IsToldOf, told_of}

-- what a worker gives; nothing if it stopped
abbrev pub told_by : Result (Vec Told Global) Stop → List Told
told_by (Ok told) = told.items
told_by (Err stop) = []

-- what is reported of the name of this number; if several report of it, by the last
abbrev pub told_at : List Told → ℕ → Option (Option BlobInfo)
told_at told number =
    option_map (λ one. one.content) (find (λ one. one.number == number) (reverse told))

-- what is in the slot of this number
abbrev pub slot_at : Slots → ℕ → Option (Option BlobInfo)
slot_at slots number = unwrap_or (slice_get slots.told.items number) None

-- this is reported of one of the names, by its number
abbrev pub IsToldAmong : List (List ℕ) → Told → Type 0
IsToldAmong names told =
    (name : List ℕ) × ((slice_get names told.number ≡ Some name) × IsToldOf name told.content)

-- what a worker gives is reported of these names of a folder's blobs; or it stopped since it couldn't
-- read
abbrev pub IsShareOf : List ℕ → List (List ℕ) → Result (Vec Told Global) Stop → Type 0
IsShareOf folder names (Ok told) = All (IsToldAmong names) told.items
IsShareOf folder names (Err stop) = IsUnread (IsInFolder folder) stop.fault

-- what is in slots is reported of the names of their numbers
abbrev pub AreSlotsOf : List (List ℕ) → Slots → Type 0
AreSlotsOf names slots =
    (number : ℕ) (content : Option BlobInfo) → slot_at slots number ≡ Some content
    → IsToldAmong names (record { number = number; content = content })

-- a worker stopped there, and none at a lesser number
pub record IsFirstStop (shares : List (Result (Vec Told Global) Stop)) (stop : Stop) : Type 0 where
  pub one : Contains shares (Err stop)
  pub least : (other : Stop) → Contains shares (Err other) → stop.number ≤ other.number

-- what is under a name in a folder is what the slot of its number says, if it says anything
abbrev pub IsAsSaid : List (List ℕ) → Slots → List ℕ → Option (List ℕ) → Type 0
IsAsSaid names slots name bytes =
    (number : ℕ) → slice_get names number ≡ Some name
    → IfSome (slot_at slots number) (λ content. content ≡ told_of name bytes)
