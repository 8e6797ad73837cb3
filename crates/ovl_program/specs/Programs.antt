-- What the program does for a line of words.
use Rattle.std.specs.Prelude.{◌≡◌, ◌⊎◌, if◌then◌else◌, ℕ, true, Option, Some, None, Result, Ok, Err, List, [], length, map, string_bytes, Contains, IfNone, String}
use Rattle.std.specs.Global.{Global}
use Rattle.std.specs.Io.KnownBytes.{Keeps}
use Rattle.ovl_lookup.specs.Stacks.{StackView}
use Rattle.ovl_blobs.specs.declared.contents.BlobInfo.{BlobInfo}
use Rattle.ovl_blobs.specs.Blobs.{BlobView, are_in_order}
use Rattle.ovl_blobs.specs.Contents.{contents_ascend, contents_of}
use Rattle.ovl_commands.specs.Commands.{checks}
use Rattle.ovl_engine.specs.declared.tasks.Task.{Task}
use Rattle.ovl_engine.specs.declared.tasks.Task.TheVariants.{Once, MergeDown}
use Rattle.ovl_engine.specs.Tasks.{left_of}
use Rattle.ovl_engine.specs.Requests.{Request}
use Rattle.ovl_engine.specs.Outcomes.{stack_of}
use Rattle.ovl_engine.specs.Prepared.{AreBlobsOf, IsOutcomeOver}
use Rattle.ovl_commands.specs.declared.requests.Command.{Command}
use Rattle.ovl_commands.specs.declared.requests.Command.TheVariants.{Show, Fsck, Vacuum, Deref, Merge, Flatten}
use Rattle.ovl_commands.specs.declared.requests.Answer.{Answer}
use Rattle.ovl_engine.specs.declared.faults.EngineFault.{EngineFault}
use Rattle.ovl_command_line.specs.declared.options.Line.{Line}
use Rattle.ovl_program.specs.declared.output.status.Ending.{Ending}
use Rattle.ovl_program.specs.declared.faults.ProgramFault.{ProgramFault}
use Rattle.ovl_program.specs.declared.faults.ProgramFault.TheVariants.{Usage, Words, Input, Unread, Unwritten, Output, Engine}
use Rattle.ovl_program.specs.Faults.{IsMemory}
use Rattle.ovl_files.specs.BlobFolders.{IsInFolder, anything}
use Rattle.ovl_program.specs.Reported.{IsReported, refuses_nothing}

-- the line's folder of blobs, or a blob in it
abbrev pub IsOfBlobs : Line → List ℕ → Type 0
IsOfBlobs line path =
    (folder : String Global) × ((line.blobs ≡ Some folder) × IsInFolder (string_bytes folder) path)

-- a path that is read for a line: a layer of it, or one of its blobs
abbrev pub IsOfLine : Line → List ℕ → Type 0
IsOfLine line path = Contains (map string_bytes line.layers.items) path ⊎ IsOfBlobs line path

-- the folder whose blobs are read in parts for a line, if it asks for that
abbrev pub folder_in_parts : Line → Option (String Global)
folder_in_parts line = if line.any_size then line.blobs else None

-- else the folder whose blobs are held, if it has one
abbrev pub held_folder : Line → Option (String Global)
held_folder line = if line.any_size then None else line.blobs

-- the task of a command, and of how many layers merges are to leave
abbrev pub task_of : Command → Option ℕ → Task
task_of Show down_to = Once Show
task_of Fsck down_to = Once Fsck
task_of Vacuum down_to = Once Vacuum
task_of Deref down_to = Once Deref
task_of Merge None = Once Merge
task_of Merge (Some left) = MergeDown left
task_of Flatten down_to = Once Flatten

-- a request that can be read for a line: its command by its workers, merges down to as many layers
-- as it says, a manifest for each layer, as many of them data-only as it says, and blobs in order,
-- none where it has no folder of which they are held
pub record IsRequestFor (line : Line) (request : Request) : Type 0 where
  pub what : request.what ≡ line.what
  pub left : request.left ≡ left_of (task_of line.what line.down_to)
  pub workers : request.workers ≡ line.workers
  pub each : length request.manifests ≡ length line.layers.items
  pub bottom : request.bottom ≡ line.data_layers
  pub in_order : are_in_order request.blobs ≡ true
  pub none : IfNone (held_folder line) (request.blobs ≡ [])

-- what is known of blobs: of those of a folder that is read in parts, what may be under the names
-- that a stack's layers state; else that they are those that are held
abbrev pub IsKnownIn : Option (String Global) → StackView → List BlobView → List BlobView → Type 0
IsKnownIn (Some folder) stack held blobs = AreBlobsOf anything stack blobs
IsKnownIn None stack held blobs = blobs ≡ held

-- these are the contents of blobs of which this is known, where a command checks the layers with
-- them; their names ascend
pub record AreContentsFor (command : Command) (known : List BlobView → Type 0)
    (contents : List BlobInfo) : Type 0 where
  pub blobs : List BlobView
  pub there : checks command ≡ true → known blobs
  pub same : checks command ≡ true → contents_of blobs ≡ contents
  pub held : (of : List BlobView) × (contents_of of ≡ contents)
  pub ascend : contents_ascend contents ≡ true

-- this may come of a request that is read for a line
abbrev pub IsComingFor : Line → Request → Result Answer EngineFault → Type 0
IsComingFor line request result =
    IsOutcomeOver request (IsKnownIn (folder_in_parts line) (stack_of request) request.blobs)
    refuses_nothing result

-- a request that can be read for a line is reported
abbrev pub IsDone : Line → Option (List ℕ) → Option (List ℕ) → Result Ending ProgramFault → Type 0
IsDone line before after result =
    (request : Request)
    × (IsRequestFor line request
    × IsReported (IsComingFor line request) line.out before after result)

-- what comes of a line: it is done; or a file or a folder of it isn't read, or memory runs out, and
-- nothing is written
abbrev pub IsPerformed : Line → Option (List ℕ) → Option (List ℕ) → Result Ending ProgramFault
    → Type 0
IsPerformed line before after (Ok ending) = IsDone line before after (Ok ending)
IsPerformed line before after (Err Output) = IsDone line before after (Err Output)
IsPerformed line before after (Err (Unwritten path)) =
    IsDone line before after (Err (Unwritten path))
IsPerformed line before after (Err (Engine fault)) =
    (IsMemory fault ⊎ IsDone line before after (Err (Engine fault))) × Keeps before after
IsPerformed line before after (Err (Unread path)) =
    IsOfLine line (string_bytes path) × Keeps before after
IsPerformed line before after (Err (Usage text)) = ⊥
IsPerformed line before after (Err Words) = ⊥
IsPerformed line before after (Err Input) = ⊥
