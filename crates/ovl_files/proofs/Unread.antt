-- Files that are read as some of more.
use Rattle.std.proofs.Common.{◌≡◌, ℕ, List, Result, Err}
use Rattle.std.specs.Prelude.{IfErr}
use Rattle.ovl_files.specs.declared.faults.FileFault.{FileFault}
use Rattle.ovl_files.specs.declared.faults.FileFault.TheVariants.{Unread, Memory}
use Rattle.ovl_files.specs.Faults.{IsUnread}

-- what isn't read of some paths is of more paths too
unread_of_more : (P Q : List ℕ → Type 0) → ((path : List ℕ) → P path → Q path) → (fault : FileFault) → IsUnread P fault → IsUnread Q fault
unread_of_more P Q more (Unread path) unread = more _ unread
unread_of_more P Q more Memory unread = tt

-- the fault of what reads some paths is one of more paths too
pub unread_in : {Y : Type 0} (P Q : List ℕ → Type 0) → ((path : List ℕ) → P path → Q path) → (read : Result Y FileFault) → IfErr read (IsUnread P) → (fault : FileFault) → read ≡ Err fault → IsUnread Q fault
unread_in P Q more read told fault is = unread_of_more P Q more fault (rw is at told)
