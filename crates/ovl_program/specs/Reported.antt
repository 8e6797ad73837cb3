-- What the program makes of manifests and blobs that are read.
use Rattle.std.specs.Prelude.{◌≡◌, ◌⊎◌, ◌<◌, ℕ, Bool, true, false, Option, Some, None, Result, Ok, Err, List, [], ◌∷◌, length, take, string_bytes, String, Vec}
use Rattle.std.specs.Global.{Global}
use Rattle.std.specs.Io.KnownBytes.{Appends, Keeps}
use Rattle.ovl_board.specs.declared.pieces.Piece.{Piece}
use Rattle.ovl_commands.specs.declared.requests.Command.TheVariants.{Show}
use Rattle.ovl_commands.specs.declared.requests.Answer.{Answer}
use Rattle.ovl_engine.specs.declared.faults.EngineFault.{EngineFault}
use Rattle.ovl_engine.specs.declared.faults.EngineFault.TheVariants.{Faulty as FaultyLayers}
use Rattle.ovl_engine.specs.Requests.{Request}
use Rattle.ovl_engine.specs.Outcomes.{IsOutcome}
use Rattle.ovl_program.specs.declared.output.status.Ending.{Ending}
use Rattle.ovl_program.specs.declared.output.status.Ending.TheVariants.{Faulty}
use Rattle.ovl_program.specs.declared.faults.ProgramFault.{ProgramFault}
use Rattle.ovl_program.specs.declared.faults.ProgramFault.TheVariants.{Usage, Words, Input, Unread, Unwritten, Output, Engine}
use Rattle.ovl_program.specs.Status.{ending_of}
use Rattle.ovl_program.specs.Faults.{IsMemory}
use Rattle.ovl_command_line.specs.Commands.{default_workers}
use Rattle.ovl_program.specs.LayerFiles.{IsOutFile}

-- the program's gate refuses nothing
abbrev pub refuses_nothing : Piece → Type 0
refuses_nothing piece = ⊥

-- this may come of a request
abbrev pub IsComing : Request → Result Answer EngineFault → Type 0
IsComing request result = IsOutcome request refuses_nothing result

-- a report states the fault
abbrev pub has_report : EngineFault → Bool
has_report (FaultyLayers report) = true
has_report _ = false

-- what is reported of a command of which this may come, and how the program ends: its answer's report;
-- or where it is refused for faults, theirs
abbrev pub IsTold : (Result Answer EngineFault → Type 0) → List ℕ → Ending → Type 0
IsTold may_come report ending =
    ((answer : Answer)
    × (may_come (Ok answer) × ((report ≡ answer.report.items) × (ending ≡ ending_of answer.clean))))
    ⊎ ((faults : Vec ℕ Global) × (may_come (Err (FaultyLayers faults))
    × ((report ≡ faults.items) × (ending ≡ Faulty))))

-- what comes of a command of which this may come, whose report goes to a writer, and whose new
-- layers go to a folder if there is one: the whole report is written; or where a write fails, fewer
-- of its bytes; or nothing, where a new layer isn't written, memory runs out or there is no answer
abbrev pub IsReported : (Result Answer EngineFault → Type 0) → Option (String Global)
    → Option (List ℕ) → Option (List ℕ) → Result Ending ProgramFault → Type 0
IsReported may_come out before after (Ok ending) =
    (report : List ℕ) × (IsTold may_come report ending × Appends before after report)
IsReported may_come out before after (Err Output) =
    (report : List ℕ) × (ending : Ending) × (count : ℕ) × (IsTold may_come report ending
    × ((count < length report) × Appends before after (take count report)))
IsReported may_come out before after (Err (Unwritten path)) =
    ((answer : Answer)
    × (may_come (Ok answer) × IsOutFile out (length answer.layers.items) (string_bytes path)))
    × Keeps before after
IsReported may_come out before after (Err (Engine fault)) =
    (IsMemory fault ⊎ (may_come (Err fault) × (has_report fault ≡ false))) × Keeps before after
IsReported may_come out before after (Err (Usage text)) = ⊥
IsReported may_come out before after (Err Words) = ⊥
IsReported may_come out before after (Err Input) = ⊥
IsReported may_come out before after (Err (Unread path)) = ⊥

-- what is asked of only one manifest: what its layer shows
abbrev pub input_request : List ℕ → Request
input_request manifest = record {
  what = Show;
  left = None;
  manifests = manifest
      ∷ [];
  bottom = 0;
  blobs = [];
  workers = default_workers;
}
