-- What comes of a line, by what comes of its parts.
use Rattle.std.proofs.Common.{◌≡◌, ◌<◌, ◌≤◌, ◌⊎◌, Bool, true, false, cond, ℕ, [], refl, Option, None, Some, Result, Ok, Err, List, IfNone, IfOk, MatchResult, inl, inr, length, take, sym, ap, subst, arith, String, Vec, Global, string_bytes}
use Rattle.std.specs.Io.KnownBytes.{Appends, Keeps}
use Rattle.std.proofs.lemmas.List.{length-map}
use Rattle.ovl_layer.specs.Layers.{Entries}
use Rattle.ovl_manifest.specs.Text.{manifest_text}
use Rattle.ovl_lookup.specs.Stacks.{StackView}
use Rattle.ovl_check.specs.Findings.{findings}
use Rattle.ovl_blobs.specs.declared.contents.BlobInfo.{BlobInfo}
use Rattle.ovl_blobs.specs.Contents.{AreTold, contents_ascend, contents_of}
use Rattle.ovl_commands.specs.Commands.{checks}
use Rattle.ovl_check.specs.declared.findings.Finding.{Finding}
use Rattle.ovl_blobs.specs.Blobs.{BlobView}
use Rattle.ovl_engine.specs.Outcomes.{IsAccepted, IsAnswerOf, IsFailedWalk, IsRewritten, MayRefuseBlobs, stack_of}
use Rattle.ovl_engine.specs.Prepared.{AreAsked, IsRunOf}
use Rattle.ovl_engine.proofs.LawsOfOutcomes.{outcome_over, told_blobs}
use Rattle.ovl_engine.specs.Tasks.{command_of, left_of}
use Rattle.ovl_engine.specs.declared.tasks.Task.{Task}
use Rattle.ovl_commands.specs.declared.requests.Command.{Command}
use Rattle.ovl_commands.specs.declared.requests.Command.TheVariants.{Show, Fsck, Vacuum, Deref, Merge, Flatten}
use Rattle.ovl_engine.specs.Requests.{Request}
use Rattle.ovl_commands.specs.declared.requests.Answer.{Answer}
use Rattle.ovl_engine.specs.declared.faults.EngineFault.{EngineFault}
use Rattle.ovl_engine.specs.declared.faults.EngineFault.TheVariants.{Workers, Layers, Layer, BlobOrder, BlobSize, NoLower, Faulty, LimitOut, Run, Memory, DataLayers}
use Rattle.ovl_pool.specs.declared.runs.RunFault.TheVariants.{Workers as NoWorkers, Gate, Board, Memory as RunMemory}
use Rattle.ovl_command_line.specs.declared.options.Line.{Line}
use Rattle.ovl_program.specs.declared.output.status.Ending.{Ending}
use Rattle.ovl_program.specs.declared.faults.ProgramFault.{ProgramFault}
use Rattle.ovl_program.specs.declared.faults.ProgramFault.TheVariants.{Usage, Words, Input, Unread, Unwritten, Output, Engine}
use Rattle.ovl_files.specs.declared.faults.FileFault.{FileFault}
use Rattle.ovl_files.specs.declared.faults.FileFault.TheVariants.{Unread as UnreadFile, Memory as FileMemory}
use Rattle.ovl_files.specs.BlobFolders.{IsInFolder, anything}
use Rattle.ovl_files.specs.Faults.{IsUnread}
use Rattle.ovl_program.specs.Faults.{IsMemory, IsUnreadFile, unread_file}
use Rattle.ovl_program.specs.LayerFiles.{IsUnfinished}
use Rattle.ovl_program.specs.Status.{ending_of}
use Rattle.ovl_program.specs.Programs.{AreContentsFor, IsComingFor, IsKnownIn, IsOfBlobs, IsOfLine, IsRequestFor, IsPerformed, folder_in_parts, task_of}
use Rattle.ovl_program.specs.Reported.{IsComing, IsReported, IsTold, has_report, refuses_nothing}

-- a report of what was read
module _ (line : Line) (before after : Option (List ℕ)) where
  pub performed : (result : Result Ending ProgramFault) (request : Request)
      → IsRequestFor line request → IsReported (IsComingFor line request) line.out before after result → IsPerformed line before after result
  performed (Ok ending) request of reported = (request, (of, reported))
  performed (Err Output) request of reported = (request, (of, reported))
  performed (Err (Unwritten path)) request of reported = (request, (of, reported))
  performed (Err (Engine fault)) request of reported = (inr (request, (of, reported)), reported.1)
  performed (Err (Unread path)) request of reported = elim reported [ ]
  performed (Err (Usage text)) request of reported = elim reported [ ]
  performed (Err Words) request of reported = elim reported [ ]
  performed (Err Input) request of reported = elim reported [ ]

-- nothing is written if a file or folder of a line isn't read
kept : (before : Option (List ℕ)) → Keeps before before
kept None = tt
kept (Some bytes) = refl

pub unread : (line : Line) (before : Option (List ℕ)) (P : List ℕ → Type 0) → ((path : List ℕ) → P path → IsOfLine line path) → (fault : FileFault) → IsUnread P fault
    → IsPerformed line before before (Err (unread_file fault))
unread line before P of (UnreadFile path) inside = (of _ inside, kept before)
unread line before P of FileMemory inside = (inl tt, kept before)

-- the same as a fault of the program
pub unread_as : (P : List ℕ → Type 0) (fault : FileFault) → IsUnread P fault → IsUnreadFile P (unread_file fault)
unread_as P (UnreadFile path) inside = inside
unread_as P FileMemory inside = tt

-- a line whose blobs are read in parts has a folder of them
pub asked_folder : (line : Line) (folder : String Global) → folder_in_parts line ≡ Some folder → line.blobs ≡ Some folder
asked_folder line folder asked = by line.any_size asked
  where
    by : (b : Bool) → cond b line.blobs None ≡ Some folder → line.blobs ≡ Some folder
    by true is = is
    by false is = cc

-- what may come may come with others
module _ (one other : Result Answer EngineFault → Type 0) (more : (result : Result Answer EngineFault) → one result → other result) where
  told_more : (report : List ℕ) (ending : Ending) → IsTold one report ending → IsTold other report ending
  told_more report ending (inl is) = inl (is.0, (more _ is.1.0, is.1.1))
  told_more report ending (inr is) = inr (is.0, (more _ is.1.0, is.1.1))

  pub reported_more : (out : Option (String Global)) (before after : Option (List ℕ)) (result : Result Ending ProgramFault) → IsReported one out before after result → IsReported other out before after result
  reported_more out before after (Ok ending) is = (is.0, (told_more is.0 ending is.1.0, is.1.1))
  reported_more out before after (Err Output) is = (is.0, is.1, is.2, (told_more is.0 is.1 is.3.0, is.3.1))
  reported_more out before after (Err (Unwritten path)) is = ((is.0.0, (more _ is.0.1.0, is.0.1.1)), is.1)
  reported_more out before after (Err (Engine fault)) is = (of_engine is.0, is.1)
    where
      of_engine : IsMemory fault ⊎ (one (Err fault) × (has_report fault ≡ false)) → IsMemory fault ⊎ (other (Err fault) × (has_report fault ≡ false))
      of_engine (inl memory) = inl memory
      of_engine (inr refused) = inr (more _ refused.0, refused.1)
  reported_more out before after (Err (Usage told)) is = elim is [ ]
  reported_more out before after (Err Words) is = elim is [ ]
  reported_more out before after (Err Input) is = elim is [ ]
  reported_more out before after (Err (Unread path)) is = elim is [ ]

module _ (line : Line) (folder : String Global) (asked : line.blobs ≡ Some folder) (text : List ℕ) (same : text ≡ string_bytes folder) where
  -- what isn't read of a line's folder is of its blobs
  pub unread_of_blobs : (fault : FileFault) → IsUnread (IsInFolder text) fault → IsUnread (IsOfBlobs line) fault
  unread_of_blobs (UnreadFile path) inside = (folder, (asked, rw same at inside))
  unread_of_blobs FileMemory unread = tt

-- ---- what is reported

module _ (may_come : Result Answer EngineFault → Type 0) (out : Option (String Global)) (before after : Option (List ℕ)) where
  -- a report that goes to a writer
  pub told : (report : List ℕ) (ending : Ending) (result : Result Ending ProgramFault) → IsTold may_come report ending
      → MatchResult result (λ ended. (ended ≡ ending) × Appends before after report) (λ fault. (fault ≡ Output) × ((count : ℕ) × ((count < length report) × Appends before after (take count report))))
      → IsReported may_come out before after result
  told report ending (Ok ended) is written = (report, (subst (λ (e : Ending). IsTold may_come report e) (sym written.0) is, written.1))
  told report ending (Err fault) is written =
      subst (λ (f : ProgramFault). IsReported may_come out before after (Err f)) (sym written.0)
      (report, ending, written.1.0, (is, written.1.1))

  -- an answer whose new layers go into a folder
  pub answered : (folder : String Global) → out ≡ Some folder → (text : List ℕ) → text ≡ string_bytes folder → (answer : Answer) → may_come (Ok answer)
      → (result : Result Ending ProgramFault)
      → MatchResult result (λ ending. (ending ≡ ending_of answer.clean) × Appends before after answer.report.items) (λ fault. IsUnfinished text answer before after fault)
      → IsReported may_come out before after result
  answered folder asked text same answer is (Ok ending) gone = (answer.report.items, (inl (answer, (is, (refl, gone.0))), gone.1))
  answered folder asked text same answer is (Err Output) cut =
      (answer.report.items, ending_of answer.clean, cut.0, (inl (answer, (is, (refl, refl))), cut.1))
  answered folder asked text same answer is (Err (Unwritten path)) left = ((answer, (is, (folder, (asked, rw same at left.0)))), left.1)
  answered folder asked text same answer is (Err (Engine fault)) left = (inl left.0, left.1)
  answered folder asked text same answer is (Err (Usage told)) left = elim left [ ]
  answered folder asked text same answer is (Err Words) left = elim left [ ]
  answered folder asked text same answer is (Err Input) left = elim left [ ]
  answered folder asked text same answer is (Err (Unread path)) left = elim left [ ]

few_written : (report : List ℕ) (layers : List Entries) (answer : Answer) → IsRewritten report layers answer → length layers ≤ 2 → length answer.layers.items ≤ 255
few_written report layers answer is few =
    omega (arith, few, ap length is.written, length-map layers manifest_text, length-map answer.layers.items (λ (manifest : Vec ℕ Global). manifest.items))

-- an answer has few new layers
few_layers : (what : Command) (stack : StackView) (found : List Finding) (answer : Answer) → IsAnswerOf what stack found answer → length answer.layers.items ≤ 255
few_layers Show stack found answer is = omega (arith, ap length is.1)
few_layers Fsck stack found answer is = omega (arith, ap length is.1)
few_layers Vacuum stack found answer is = few_written _ _ answer is.1 (omega arith)
few_layers Deref stack found answer is = few_written _ _ answer is.1.rewritten (omega arith)
few_layers Merge stack found answer is = few_written _ _ answer is.1.rewritten (omega arith)
few_layers Flatten stack found answer is = few_written _ _ answer is.1.rewritten (omega arith)

pub few_coming : (request : Request) (answered : Result Answer EngineFault) → IsComing request answered → IfOk answered (λ answer. length answer.layers.items ≤ 255)
few_coming request (Ok answer) is = few_layers _ _ _ answer is.1
few_coming request (Err fault) is = tt

-- nor has one of a line's task
few_run : (what : Command) (left : Option ℕ) (stack : StackView) (blobs : List BlobView) (answer : Answer) → IsRunOf what left stack blobs refuses_nothing (Ok answer) → length answer.layers.items ≤ 255
few_run what None stack blobs answer run = few_layers what stack (findings blobs stack) answer run
few_run what (Some left) stack blobs answer run = few_layers Merge run.last (findings blobs run.last) answer run.run

pub few_coming_for : (line : Line) (request : Request) (answered : Result Answer EngineFault) → IsComingFor line request answered → IfOk answered (λ answer. length answer.layers.items ≤ 255)
few_coming_for line request (Ok answer) is = few_run request.what request.left (stack_of request) is.1.blobs answer is.1.run
few_coming_for line request (Err fault) is = tt

-- the request of a line's task is one for the line
pub task_what : (what : Command) (down_to : Option ℕ) → command_of (task_of what down_to) ≡ what
task_what Show down_to = refl
task_what Fsck down_to = refl
task_what Vacuum down_to = refl
task_what Deref down_to = refl
task_what Merge None = refl
task_what Merge (Some left) = refl
task_what Flatten down_to = refl

-- a gate that refuses nothing lets blobs be digested unless out of memory
pub undigested_memory : (blobs : List BlobView) (fault : EngineFault) → IsFailedWalk (MayRefuseBlobs blobs refuses_nothing) fault → IsMemory fault
undigested_memory blobs Memory failed = tt
undigested_memory blobs (Run NoWorkers) failed = absurd failed
undigested_memory blobs (Run Gate) failed = absurd failed.1.1
undigested_memory blobs (Run (Board fault)) failed = absurd failed
undigested_memory blobs (Run RunMemory) failed = absurd failed
undigested_memory blobs Workers failed = absurd failed
undigested_memory blobs Layers failed = absurd failed
undigested_memory blobs (Layer index fault) failed = absurd failed
undigested_memory blobs BlobOrder failed = absurd failed
undigested_memory blobs BlobSize failed = absurd failed
undigested_memory blobs NoLower failed = absurd failed
undigested_memory blobs (Faulty report) failed = absurd failed
undigested_memory blobs LimitOut failed = absurd failed
undigested_memory blobs DataLayers failed = absurd failed

-- ---- what is known of blobs

-- contents that are reported of the files of a folder
pub told_contents : (command : Command) (from : Option (String Global)) (folder : String Global) → from ≡ Some folder → (stack : StackView) (held : List BlobView) (names : List (List ℕ)) (contents : List BlobInfo)
    → AreAsked command stack names → AreTold anything names contents → AreContentsFor command (IsKnownIn from stack held) contents
told_contents command from folder is stack held names contents asked told = record {
  blobs = told.blobs;
  there = λ checking. subst (λ (o : Option (String Global)). IsKnownIn o stack held told.blobs) (sym is) (told_blobs anything command stack names contents asked told checking);
  same = λ checking. sym told.contents;
  held = (told.blobs, sym told.contents);
  ascend = told.ascend;
}

-- contents of blobs that are held
pub held_contents : (command : Command) (from : Option (String Global)) → from ≡ None → (stack : StackView) (held : List BlobView) (contents : List BlobInfo)
    → (checks command ≡ true → contents_of held ≡ contents) → (of : List BlobView) × (contents_of of ≡ contents) → contents_ascend contents ≡ true
    → AreContentsFor command (IsKnownIn from stack held) contents
held_contents command from is stack held contents same some ascend = record {
  blobs = held;
  there = λ checking. subst (λ (o : Option (String Global)). IsKnownIn o stack held held) (sym is) refl;
  same = same;
  held = some;
  ascend = ascend;
}

-- ---- what comes of a line's task

pub answered_for : (line : Line) (request : Request) (task : Task) (stack : StackView) (contents : List BlobInfo) (result : Result Answer EngineFault)
    → request.what ≡ command_of task → request.left ≡ left_of task → IsAccepted request → stack ≡ stack_of request
    → (known : AreContentsFor (command_of task) (IsKnownIn (folder_in_parts line) stack request.blobs) contents)
    → ((blobs : List BlobView) → (checks (command_of task) ≡ true → contents_of blobs ≡ contents) → IsRunOf (command_of task) (left_of task) stack blobs refuses_nothing result)
    → IsComingFor line request result
answered_for line request task stack contents result what left accepted same known run =
    outcome_over request (IsKnownIn (folder_in_parts line) (stack_of request) request.blobs) refuses_nothing stack known.blobs result accepted same
    (λ checking. subst (λ (s : StackView). IsKnownIn (folder_in_parts line) s request.blobs known.blobs) same (known.there (subst (λ (one : Command). checks one ≡ true) what checking)))
    (subst (λ (one : Command). IsRunOf one request.left stack known.blobs refuses_nothing result) (sym what)
    (subst (λ (one : Option ℕ). IsRunOf (command_of task) one stack known.blobs refuses_nothing result) (sym left) (run known.blobs known.same)))
