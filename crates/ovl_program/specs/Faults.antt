-- The faults of the program, and the exit status of each.
use Rattle.std.specs.Prelude.{⊤, ℕ, List, string_bytes}
use Rattle.ovl_engine.specs.declared.faults.EngineFault.{EngineFault}
use Rattle.ovl_engine.specs.declared.faults.EngineFault.TheVariants.{Workers, Layers, Layer, BlobOrder, BlobSize, NoLower, Faulty, LimitOut, Run, Memory, DataLayers}
use Rattle.ovl_files.specs.declared.faults.FileFault.{FileFault}
use Rattle.ovl_files.specs.declared.faults.FileFault.TheVariants.{Unread as UnreadFile, Memory as FileMemory}
use Rattle.ovl_files.specs.declared.reads.ReadFault.{ReadFault}
use Rattle.ovl_files.specs.declared.reads.ReadFault.TheVariants.{Device, TooLong, Memory as ReadMemory}
use Rattle.ovl_program.specs.declared.faults.ProgramFault.{ProgramFault}
use Rattle.ovl_program.specs.declared.faults.ProgramFault.TheVariants.{Usage, Words, Input, Unread, Unwritten, Output, Engine}

-- the program's fault where its input isn't read
abbrev pub unread_input : ReadFault → ProgramFault
unread_input Device = Input
unread_input TooLong = Input
unread_input ReadMemory = Engine Memory

-- the program's fault if a file or folder isn't read
abbrev pub unread_file : FileFault → ProgramFault
unread_file (UnreadFile path) = Unread path
unread_file FileMemory = Engine Memory

-- a command's fault is out of memory
abbrev pub IsMemory : EngineFault → Type 0
IsMemory Memory = ⊤
IsMemory Workers = ⊥
IsMemory Layers = ⊥
IsMemory (Layer index fault) = ⊥
IsMemory BlobOrder = ⊥
IsMemory BlobSize = ⊥
IsMemory NoLower = ⊥
IsMemory (Faulty report) = ⊥
IsMemory LimitOut = ⊥
IsMemory (Run fault) = ⊥
IsMemory DataLayers = ⊥

-- a file or folder isn't read, of which this holds of the path; out of memory may come at any time
abbrev pub IsUnreadFile : (List ℕ → Type 0) → ProgramFault → Type 0
IsUnreadFile P (Unread path) = P (string_bytes path)
IsUnreadFile P (Engine fault) = IsMemory fault
IsUnreadFile P (Usage text) = ⊥
IsUnreadFile P Words = ⊥
IsUnreadFile P Input = ⊥
IsUnreadFile P (Unwritten path) = ⊥
IsUnreadFile P Output = ⊥

-- 1 where they have faults, 3 where they aren't taken, 5 for what isn't the input's fault
abbrev pub engine_status : EngineFault → ℕ
engine_status (Faulty report) = 1
engine_status Layers = 3
engine_status DataLayers = 3
engine_status (Layer index fault) = 3
engine_status BlobOrder = 3
engine_status BlobSize = 3
engine_status NoLower = 3
engine_status Workers = 5
engine_status LimitOut = 5
engine_status (Run fault) = 5
engine_status Memory = 5

-- 2 for words that can't be read, 3 for an input that can't, 4 where an output can't be written
abbrev pub program_status : ProgramFault → ℕ
program_status (Usage text) = 2
program_status Words = 2
program_status Input = 3
program_status (Unread path) = 3
program_status (Unwritten path) = 4
program_status Output = 4
program_status (Engine fault) = engine_status fault
