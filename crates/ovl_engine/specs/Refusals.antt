-- Why a command is refused before any work is done.
use Rattle.std.specs.Prelude.{◌≡◌, ⊤, ℕ, suc, ◌-◌, Bool, ◌||◌, ◌&&◌, ◌==◌, not, Option, Some, None, Result, Ok, Err, List, [], ◌∷◌, if◌then◌else◌, length, nat_lt, nat_le}
use Rattle.ovl_layer.specs.Layers.{Entries}
use Rattle.ovl_manifest.specs.Manifest.{read_layer}
use Rattle.ovl_layer.specs.declared.faults.LayerFault.{LayerFault}
use Rattle.ovl_layer.specs.declared.faults.LayerFault.TheVariants.{Memory as UnreadMemory}
use Rattle.ovl_board.specs.Machine.{worker_limit}
use Rattle.ovl_board.specs.declared.assembly.BoardFault.TheVariants.{Memory as BoardMemory}
use Rattle.ovl_pool.specs.declared.runs.RunFault.{RunFault}
use Rattle.ovl_pool.specs.declared.runs.RunFault.TheVariants.{Board, Memory as RunMemory}
use Rattle.ovl_lookup.specs.Stacks.{layer_limit}
use Rattle.ovl_blobs.specs.Blobs.{BlobView, are_in_order, blob_limit, blob_bytes}
use Rattle.ovl_rewrite.specs.declared.faults.RewriteFault.{RewriteFault}
use Rattle.ovl_rewrite.specs.declared.faults.RewriteFault.TheVariants.{LimitOut as DerefLimit, Memory as DerefMemory}
use Rattle.ovl_merge.specs.declared.faults.MergeFault.{MergeFault}
use Rattle.ovl_merge.specs.declared.faults.MergeFault.TheVariants.{NoLower as MergeLower, LimitOut as MergeLimit, Memory as MergeMemory}
use Rattle.ovl_engine.specs.declared.faults.EngineFault.{EngineFault}
use Rattle.ovl_engine.specs.declared.faults.EngineFault.TheVariants.{Workers, Layers, Layer, BlobOrder, BlobSize, NoLower, Faulty, LimitOut, Run, Memory, DataLayers}
use Rattle.ovl_commands.specs.declared.requests.Command.{Command}
use Rattle.ovl_commands.specs.Commands.{wants_lower}
use Rattle.ovl_engine.specs.Requests.{Request}

-- a number is none, or over a limit
abbrev pub is_outside : ℕ → ℕ → Bool
is_outside limit number = number == 0 || nat_lt limit number

-- one more layer on top
abbrev pub under_layer : Entries → Result (List Entries) EngineFault
    → Result (List Entries) EngineFault
under_layer layer (Ok layers) = Ok (layer ∷ layers)
under_layer layer (Err fault) = Err fault

-- the layers that manifests state, or the fault of the first that states none, with its index
-- counted on from one
abbrev pub layers_from : ℕ → List (List ℕ) → Result (List Entries) EngineFault
layers_from index [] = Ok []
layers_from index (manifest ∷ manifests) = elim (read_layer manifest) [
  | Ok layer ↦ under_layer layer (layers_from (suc index) manifests)
  | Err fault ↦ Err (Layer index fault)
]

-- the layers of manifests that all state one
abbrev pub stated_layers : List (List ℕ) → List Entries
stated_layers manifests = elim (layers_from 0 manifests) [ Ok layers ↦ layers | Err fault ↦ [] ]

-- the fault of manifests of which one states no layer
abbrev pub first_unread : List (List ℕ) → Option EngineFault
first_unread manifests =
    elim (layers_from 0 manifests) [ Ok layers ↦ None | Err fault ↦ Some fault ]

-- the fault of blobs whose names don't ascend strictly, or that have too many bytes
abbrev pub blob_refusal : List BlobView → Option EngineFault
blob_refusal blobs =
    if not (are_in_order blobs) then Some BlobOrder
    else if nat_lt blob_limit (blob_bytes blobs) then Some BlobSize
    else None

-- what manifests and blobs are refused for
abbrev pub input_refusal : Request → Option EngineFault
input_refusal request =
    elim (first_unread request.manifests)
    [ Some fault ↦ Some fault | None ↦ blob_refusal request.blobs ]

-- how many layers aren't data-only
abbrev pub ordinary_layers : Request → ℕ
ordinary_layers request = length request.manifests - request.bottom

-- there are fewer such layers than a command wants: one under the topmost, where it wants that; or
-- where merges are to leave some, one more than these, and these aren't none
abbrev pub lacks_layers : Command → Option ℕ → ℕ → Bool
lacks_layers what None layers = wants_lower what && nat_lt layers 2
lacks_layers what (Some left) layers = left == 0 || nat_le layers left

-- the fault of these
abbrev pub lower_refusal : Request → Option EngineFault
lower_refusal request =
    if lacks_layers request.what request.left (ordinary_layers request) then Some NoLower else None

-- what a request is refused for: the first of seven that holds
abbrev pub first_refusal : Request → Option EngineFault
first_refusal request =
    if is_outside worker_limit request.workers then Some Workers
    else if is_outside layer_limit (length request.manifests) then Some Layers
    else if nat_le (length request.manifests) request.bottom then Some DataLayers
    else elim (input_refusal request) [ Some fault ↦ Some fault | None ↦ lower_refusal request ]

-- the fault where the manifest of this index isn't read: out of memory is reported as such
abbrev pub unread_layer : ℕ → LayerFault → EngineFault
unread_layer index UnreadMemory = Memory
unread_layer index fault = Layer index fault

-- the fault where a run gives no walk: out of memory is reported as such
abbrev pub failed_run : RunFault → EngineFault
failed_run RunMemory = Memory
failed_run (Board BoardMemory) = Memory
failed_run fault = Run fault

-- the fault where deref gives no layer
abbrev pub failed_deref : RewriteFault → EngineFault
failed_deref DerefLimit = LimitOut
failed_deref DerefMemory = Memory

-- the fault where merge gives no layers
abbrev pub failed_merge : MergeFault → EngineFault
failed_merge MergeLower = NoLower
failed_merge MergeLimit = LimitOut
failed_merge MergeMemory = Memory

-- why manifests aren't all read; out of memory may come at any time
abbrev pub IsUnreadLayer : Result (List Entries) EngineFault → EngineFault → Type 0
IsUnreadLayer read (Layer index fault) = read ≡ Err (Layer index fault)
IsUnreadLayer read Memory = ⊤
IsUnreadLayer read Workers = ⊥
IsUnreadLayer read Layers = ⊥
IsUnreadLayer read BlobOrder = ⊥
IsUnreadLayer read BlobSize = ⊥
IsUnreadLayer read NoLower = ⊥
IsUnreadLayer read (Faulty report) = ⊥
IsUnreadLayer read LimitOut = ⊥
IsUnreadLayer read (Run fault) = ⊥
IsUnreadLayer read DataLayers = ⊥
