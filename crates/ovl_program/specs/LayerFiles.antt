-- The files of new layers, and what becomes of an answer that isn't written whole.
use Rattle.std.specs.Prelude.{◌≡◌, ◌⊎◌, ◌<◌, ◌++◌, ℕ, Option, Some, List, codes, decimal, length, string_bytes, String, take}
use Rattle.std.specs.Global.{Global}
use Rattle.std.specs.Io.KnownBytes.{Appends, Keeps}
use Rattle.ovl_commands.specs.declared.requests.Answer.{Answer}
use Rattle.ovl_program.specs.declared.faults.ProgramFault.{ProgramFault}
use Rattle.ovl_program.specs.declared.faults.ProgramFault.TheVariants.{Usage, Words, Input, Unread, Unwritten, Output, Engine}
use Rattle.ovl_program.specs.declared.output.hand_out.OutFault.{OutFault}
use Rattle.ovl_program.specs.Faults.{IsMemory}

-- the path of the new layer of this index: the folder, and then `/layer-0.json` and so on
abbrev pub layer_path : List ℕ → ℕ → List ℕ
layer_path folder index = folder ++ codes "/layer-" ++ decimal index ++ codes ".json"

-- the path is that of one of this many new layers in the folder
abbrev pub IsLayerFile : List ℕ → ℕ → List ℕ → Type 0
IsLayerFile folder count path = (index : ℕ) × ((index < count) × (path ≡ layer_path folder index))

-- the same in the folder for new layers, where there is one
abbrev pub IsOutFile : Option (String Global) → ℕ → List ℕ → Type 0
IsOutFile out count path =
    (folder : String Global) × ((out ≡ Some folder) × IsLayerFile (string_bytes folder) count path)

-- a part of an answer isn't written whole: the report, of whose bytes fewer are; or a new layer,
-- and nothing of the report is
abbrev pub IsLeftOut : Answer → Option (List ℕ) → Option (List ℕ) → OutFault → Type 0
IsLeftOut answer before after fault =
    ((fault.part ≡ length answer.layers.items)
    × ((fault.written < length answer.report.items)
    × Appends before after (take fault.written answer.report.items)))
    ⊎ ((fault.part < length answer.layers.items) × Keeps before after)

-- the program's fault where an answer isn't written whole: fewer bytes of the report are; or
-- nothing of it, where a new layer isn't written whole, or memory runs out
abbrev pub IsUnfinished : List ℕ → Answer → Option (List ℕ) → Option (List ℕ) → ProgramFault
    → Type 0
IsUnfinished folder answer before after Output =
    (count : ℕ)
    × ((count < length answer.report.items) × Appends before after (take count answer.report.items))
IsUnfinished folder answer before after (Unwritten path) =
    IsLayerFile folder (length answer.layers.items) (string_bytes path) × Keeps before after
IsUnfinished folder answer before after (Engine fault) = IsMemory fault × Keeps before after
IsUnfinished folder answer before after (Usage text) = ⊥
IsUnfinished folder answer before after Words = ⊥
IsUnfinished folder answer before after Input = ⊥
IsUnfinished folder answer before after (Unread path) = ⊥
