-- The fault of files and folders that aren't read.
use Rattle.std.specs.Prelude.{⊤, ℕ, List, string_bytes}
use Rattle.ovl_files.specs.declared.faults.FileFault.{FileFault}
use Rattle.ovl_files.specs.declared.faults.FileFault.TheVariants.{Unread, Memory}

-- a file or folder isn't read, of which this holds of the path; out of memory may come at any time
abbrev pub IsUnread : (List ℕ → Type 0) → FileFault → Type 0
IsUnread P (Unread path) = P (string_bytes path)
IsUnread P Memory = ⊤
