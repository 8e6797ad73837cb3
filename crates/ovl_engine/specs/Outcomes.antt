-- What a command answers.
use Rattle.std.specs.Prelude.{◌≡◌, ◌⊎◌, ◌<◌, ⊤, ℕ, true, false, Some, None, Result, Ok, Err, List, [], ◌∷◌, length, map}
use Rattle.ovl_names.specs.Paths.{PathNames}
use Rattle.ovl_layer.specs.Layers.{Entries, IsLayer}
use Rattle.ovl_manifest.specs.Text.{manifest_text}
use Rattle.ovl_lookup.specs.Stacks.{StackView, all_layers, stack_with}
use Rattle.ovl_lookup.specs.Words.{top_layer, lower_layers}
use Rattle.ovl_board.specs.declared.pieces.Piece.{Piece}
use Rattle.ovl_board.specs.Pieces.{space_root}
use Rattle.ovl_pool.specs.declared.runs.RunFault.{RunFault}
use Rattle.ovl_pool.specs.declared.runs.RunFault.TheVariants.{Workers as RunWorkers, Gate, Board, Memory as RunMemory}
use Rattle.ovl_pool.specs.Runs.{MayBeRefused}
use Rattle.ovl_blobs.specs.Blobs.{BlobView, blob_kids, blob_root}
use Rattle.ovl_check.specs.Checks.{CheckView, check_kids}
use Rattle.ovl_check.specs.declared.findings.Finding.{Finding}
use Rattle.ovl_check.specs.Findings.{findings}
use Rattle.ovl_vacuum.specs.Vacuum.{vacuumed_layer, removed_paths}
use Rattle.ovl_vacuum.specs.Directories.{vacuum_kids, vacuum_root}
use Rattle.ovl_deref.specs.Deref.{IsDereferenced}
use Rattle.ovl_deref.specs.Directories.{deref_kids}
use Rattle.ovl_deref.specs.Limits.{PassesDerefLimit}
use Rattle.ovl_merge.specs.Places.{merge_of}
use Rattle.ovl_merge.specs.MergeDown.{IsMergedDown, merged_top}
use Rattle.ovl_merge.specs.Directories.{merge_kids}
use Rattle.ovl_merge.specs.Limits.{PassesMergeLimit}
use Rattle.ovl_flatten.specs.Flatten.{IsFlattened}
use Rattle.ovl_flatten.specs.Directories.{flatten_kids}
use Rattle.ovl_flatten.specs.Limits.{PassesFlattenLimit}
use Rattle.ovl_reports.specs.Listings.{IsShowReport}
use Rattle.ovl_engine.specs.FsckReports.{fsck_report, is_clean}
use Rattle.ovl_reports.specs.VacuumReports.{vacuum_report}
use Rattle.ovl_reports.specs.LayerReports.{layer_report}
use Rattle.ovl_reports.specs.Directories.{show_kids, show_root}
use Rattle.ovl_commands.specs.declared.requests.Command.{Command}
use Rattle.ovl_commands.specs.declared.requests.Command.TheVariants.{Show, Fsck, Vacuum, Deref, Merge, Flatten}
use Rattle.ovl_commands.specs.declared.requests.Answer.{Answer}
use Rattle.ovl_engine.specs.declared.faults.EngineFault.{EngineFault}
use Rattle.ovl_engine.specs.declared.faults.EngineFault.TheVariants.{Workers, Layers, Layer, BlobOrder, BlobSize, NoLower, Faulty, LimitOut, Run, Memory, DataLayers}
use Rattle.ovl_commands.specs.Commands.{checks, makes_layers}
use Rattle.ovl_engine.specs.Requests.{Request}
use Rattle.ovl_engine.specs.Refusals.{stated_layers, first_refusal}

-- the stack of the layers that a request's manifests state
abbrev pub stack_of : Request → StackView
stack_of request = stack_with (stated_layers request.manifests) request.bottom

-- the topmost layer without what changes nothing, and the paths of that
abbrev pub left_by_vacuum : StackView → Entries
left_by_vacuum stack = vacuumed_layer (top_layer stack) (lower_layers stack)

abbrev pub removed_by_vacuum : StackView → List PathNames
removed_by_vacuum stack = removed_paths (top_layer stack) (lower_layers stack)

-- the manifests of an answer's new layers
abbrev pub new_manifests : Answer → List (List ℕ)
new_manifests answer = map (λ manifest. manifest.items) answer.layers.items

-- the answer has this report and these new layers
pub record IsRewritten (report : List ℕ) (layers : List Entries) (answer : Answer) : Type 0 where
  pub told : answer.report.items ≡ report
  pub written : new_manifests answer ≡ map manifest_text layers
  pub clean : answer.clean ≡ true

-- the answer of vacuum states what goes of the topmost layer of this stack and how much is left,
-- which is the new layer
abbrev pub IsVacuumed : StackView → Answer → Type 0
IsVacuumed stack answer =
    IsRewritten (vacuum_report (removed_by_vacuum stack) (length (left_by_vacuum stack)))
    (left_by_vacuum stack ∷ []) answer

-- the answer of deref has and states what the topmost layer of this stack is without redirects and
-- metacopy files
pub record IsUnfolded (stack : StackView) (answer : Answer) : Type 0 where
  pub new : Entries
  pub is_layer : IsLayer new
  pub dereferenced : IsDereferenced new (top_layer stack) (lower_layers stack)
  pub within : PassesDerefLimit stack → ⊥
  pub rewritten : IsRewritten (layer_report new) (new ∷ []) answer

-- the answer of merge has and states what the two topmost layers of this stack are as one, under the
-- root of the first
pub record IsMergedInto (stack : StackView) (answer : Answer) : Type 0 where
  pub lower : Entries
  pub is_layer : IsLayer lower
  pub merged : IsMergedDown (merge_of stack) lower
  pub within : PassesMergeLimit (merge_of stack) → ⊥
  pub rewritten : IsRewritten (layer_report lower) (merged_top (merge_of stack) ∷ lower ∷ []) answer

-- the answer of flatten has and states what this stack shows, as one layer
pub record IsFlattenedInto (stack : StackView) (answer : Answer) : Type 0 where
  pub new : Entries
  pub is_layer : IsLayer new
  pub flattened : IsFlattened new stack
  pub within : PassesFlattenLimit stack → ⊥
  pub rewritten : IsRewritten (layer_report new) (new ∷ []) answer

-- the answer of a command over this stack, of which this is found
abbrev pub IsAnswerOf : Command → StackView → List Finding → Answer → Type 0
IsAnswerOf Show stack found answer =
    IsShowReport stack answer.report.items × (answer.layers.items ≡ []) × (answer.clean ≡ true)
IsAnswerOf Fsck stack found answer =
    (answer.report.items ≡ fsck_report found)
    × (answer.layers.items ≡ [])
    × (answer.clean ≡ is_clean found)
IsAnswerOf Vacuum stack found answer = (is_clean found ≡ true) × IsVacuumed stack answer
IsAnswerOf Deref stack found answer = (is_clean found ≡ true) × IsUnfolded stack answer
IsAnswerOf Merge stack found answer = (is_clean found ≡ true) × IsMergedInto stack answer
IsAnswerOf Flatten stack found answer = (is_clean found ≡ true) × IsFlattenedInto stack answer

-- the answer of a command over this stack and blobs
abbrev pub IsAnswer : Command → StackView → List BlobView → Answer → Type 0
IsAnswer command stack blobs answer = IsAnswerOf command stack (findings blobs stack) answer

-- what is checked: this stack; which directories that reaches has nothing to do with contents
abbrev pub check_of : StackView → CheckView
check_of stack = record { stack = stack; contents = [] }

-- the gate may refuse a piece of the blobs, or a directory of a layer
abbrev pub MayRefuseBlobs : List BlobView → (Piece → Type 0) → Type 0
MayRefuseBlobs blobs may_refuse = MayBeRefused (blob_kids blobs) may_refuse blob_root

abbrev pub MayRefuseLayer : StackView → (Piece → Type 0) → ℕ → Type 0
MayRefuseLayer stack may_refuse i =
    (i < length (all_layers stack))
    × MayBeRefused (check_kids (check_of stack)) may_refuse (space_root i)

abbrev pub MayRefuseLayers : StackView → (Piece → Type 0) → Type 0
MayRefuseLayers stack may_refuse = (i : ℕ) × MayRefuseLayer stack may_refuse i

-- the same of what is checked, and of the directories that a command's own work visits
abbrev pub MayRefuseCheck : StackView → List BlobView → (Piece → Type 0) → Type 0
MayRefuseCheck stack blobs may_refuse =
    MayRefuseBlobs blobs may_refuse ⊎ MayRefuseLayers stack may_refuse

abbrev pub MayRefuseOwn : Command → StackView → (Piece → Type 0) → Type 0
MayRefuseOwn Show stack may_refuse = MayBeRefused (show_kids stack) may_refuse show_root
MayRefuseOwn Fsck stack may_refuse = ⊥
MayRefuseOwn Vacuum stack may_refuse = MayBeRefused (vacuum_kids stack) may_refuse vacuum_root
MayRefuseOwn Deref stack may_refuse = MayBeRefused (deref_kids stack) may_refuse (space_root 0)
MayRefuseOwn Merge stack may_refuse = MayBeRefused (merge_kids stack) may_refuse (space_root 0)
MayRefuseOwn Flatten stack may_refuse = MayBeRefused (flatten_kids stack) may_refuse (space_root 0)

-- the gate may refuse a piece that is reached where the command is run over this stack and blobs
abbrev pub MayRefuse : Command → StackView → List BlobView → (Piece → Type 0) → Type 0
MayRefuse command stack blobs may_refuse =
    ((checks command ≡ true) × MayRefuseCheck stack blobs may_refuse)
    ⊎ MayRefuseOwn command stack may_refuse

-- a run fails only by its gate, if that may refuse a piece; that memory ran out is a fault of its own
abbrev pub IsFailedRun : Type 0 → RunFault → Type 0
IsFailedRun refused RunWorkers = ⊥
IsFailedRun refused Gate = refused
IsFailedRun refused (Board fault) = ⊥
IsFailedRun refused RunMemory = ⊥

-- a command that makes layers is refused for a fault that is found, and this is the report that
-- states it
abbrev pub IsFoundFaulty : Command → List Finding → List ℕ → Type 0
IsFoundFaulty command found report =
    (makes_layers command ≡ true) × (is_clean found ≡ false) × (report ≡ fsck_report found)

-- no fault is found, and a new layer passes a limit of manifests
abbrev pub PassesNewLimit : Command → StackView → Type 0
PassesNewLimit Show stack = ⊥
PassesNewLimit Fsck stack = ⊥
PassesNewLimit Vacuum stack = ⊥
PassesNewLimit Deref stack = PassesDerefLimit stack
PassesNewLimit Merge stack = PassesMergeLimit (merge_of stack)
PassesNewLimit Flatten stack = PassesFlattenLimit stack

abbrev pub IsLimitedOut : Command → StackView → List Finding → Type 0
IsLimitedOut command stack found = (is_clean found ≡ true) × PassesNewLimit command stack

-- why a walk isn't done, where the gate may refuse a piece of it; out of memory may come at any
-- time
abbrev pub IsFailedWalk : Type 0 → EngineFault → Type 0
IsFailedWalk refused (Run fault) = IsFailedRun refused fault
IsFailedWalk refused Memory = ⊤
IsFailedWalk refused (Faulty report) = ⊥
IsFailedWalk refused LimitOut = ⊥
IsFailedWalk refused Workers = ⊥
IsFailedWalk refused Layers = ⊥
IsFailedWalk refused (Layer index fault) = ⊥
IsFailedWalk refused BlobOrder = ⊥
IsFailedWalk refused BlobSize = ⊥
IsFailedWalk refused NoLower = ⊥
IsFailedWalk refused DataLayers = ⊥

-- why work over this stack isn't done, of which this is found, where the gate may refuse a piece of
-- it
abbrev pub IsFailure : Command → StackView → List Finding → Type 0 → EngineFault → Type 0
IsFailure command stack found refused (Faulty report) = IsFoundFaulty command found report.items
IsFailure command stack found refused LimitOut = IsLimitedOut command stack found
IsFailure command stack found refused (Run fault) = IsFailedRun refused fault
IsFailure command stack found refused Memory = ⊤
IsFailure command stack found refused Workers = ⊥
IsFailure command stack found refused Layers = ⊥
IsFailure command stack found refused (Layer index fault) = ⊥
IsFailure command stack found refused BlobOrder = ⊥
IsFailure command stack found refused BlobSize = ⊥
IsFailure command stack found refused NoLower = ⊥
IsFailure command stack found refused DataLayers = ⊥

-- why new layers aren't made of a stack of which this is found, before any is; out of memory may
-- come at any time
abbrev pub IsUnclean : List Finding → EngineFault → Type 0
IsUnclean found (Faulty report) = (is_clean found ≡ false) × (report.items ≡ fsck_report found)
IsUnclean found Memory = ⊤
IsUnclean found LimitOut = ⊥
IsUnclean found (Run fault) = ⊥
IsUnclean found Workers = ⊥
IsUnclean found Layers = ⊥
IsUnclean found (Layer index fault) = ⊥
IsUnclean found BlobOrder = ⊥
IsUnclean found BlobSize = ⊥
IsUnclean found NoLower = ⊥
IsUnclean found DataLayers = ⊥

-- what comes of a command over a stack, of which this is found
abbrev pub IsRun : Command → StackView → List Finding → Type 0 → Result Answer EngineFault → Type 0
IsRun command stack found refused (Ok answer) = IsAnswerOf command stack found answer
IsRun command stack found refused (Err fault) = IsFailure command stack found refused fault

-- nothing refuses the request
abbrev pub IsAccepted : Request → Type 0
IsAccepted request = first_refusal request ≡ None

-- the request is refused for this fault
abbrev pub IsRefused : Request → EngineFault → Type 0
IsRefused request fault = first_refusal request ≡ Some fault

-- why no work is done for a request; out of memory may come at any time
abbrev pub IsRefusal : Request → EngineFault → Type 0
IsRefusal request Memory = ⊤
IsRefusal request (Faulty report) = ⊥
IsRefusal request LimitOut = ⊥
IsRefusal request (Run fault) = ⊥
IsRefusal request Workers = IsRefused request Workers
IsRefusal request Layers = IsRefused request Layers
IsRefusal request (Layer index fault) = IsRefused request (Layer index fault)
IsRefusal request BlobOrder = IsRefused request BlobOrder
IsRefusal request BlobSize = IsRefused request BlobSize
IsRefusal request NoLower = IsRefused request NoLower
IsRefusal request DataLayers = IsRefused request DataLayers

-- what is found in a request's stack with its blobs
abbrev pub found_in : Request → List Finding
found_in request = findings request.blobs (stack_of request)

-- what comes of a request, by a gate that may refuse these pieces; out of memory may come at any
-- time
abbrev pub IsOutcome : Request → (Piece → Type 0) → Result Answer EngineFault → Type 0
IsOutcome request may_refuse (Ok answer) =
    IsAccepted request × IsAnswer request.what (stack_of request) request.blobs answer
IsOutcome request may_refuse (Err (Faulty report)) =
    IsAccepted request × IsFoundFaulty request.what (found_in request) report.items
IsOutcome request may_refuse (Err LimitOut) =
    IsAccepted request × IsLimitedOut request.what (stack_of request) (found_in request)
IsOutcome request may_refuse (Err (Run fault)) =
    IsAccepted request
    × IsFailedRun (MayRefuse request.what (stack_of request) request.blobs may_refuse) fault
IsOutcome request may_refuse (Err Memory) = ⊤
IsOutcome request may_refuse (Err Workers) = IsRefused request Workers
IsOutcome request may_refuse (Err Layers) = IsRefused request Layers
IsOutcome request may_refuse (Err (Layer index fault)) = IsRefused request (Layer index fault)
IsOutcome request may_refuse (Err BlobOrder) = IsRefused request BlobOrder
IsOutcome request may_refuse (Err BlobSize) = IsRefused request BlobSize
IsOutcome request may_refuse (Err NoLower) = IsRefused request NoLower
IsOutcome request may_refuse (Err DataLayers) = IsRefused request DataLayers
