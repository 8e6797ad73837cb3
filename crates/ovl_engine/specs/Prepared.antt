-- What a prepared task wants to know of blobs, and what comes of it by what is known of them.
use Rattle.std.specs.Prelude.{◌≡◌, ◌⊎◌, ℕ, true, false, Option, Some, None, Result, Ok, Err, List, []}
use Rattle.ovl_lookup.specs.Stacks.{StackView}
use Rattle.ovl_board.specs.declared.pieces.Piece.{Piece}
use Rattle.ovl_blobs.specs.Blobs.{BlobView}
use Rattle.ovl_blobs.specs.Contents.{bytes_named}
use Rattle.ovl_check.specs.Findings.{findings}
use Rattle.ovl_check.specs.Stated.{AreStated, IsStated}
use Rattle.ovl_commands.specs.declared.requests.Command.{Command}
use Rattle.ovl_commands.specs.declared.requests.Command.TheVariants.{Merge}
use Rattle.ovl_commands.specs.declared.requests.Answer.{Answer}
use Rattle.ovl_commands.specs.Commands.{checks, makes_layers}
use Rattle.ovl_engine.specs.declared.faults.EngineFault.{EngineFault}
use Rattle.ovl_engine.specs.declared.tasks.Task.{Task}
use Rattle.ovl_engine.specs.declared.tasks.Task.TheVariants.{Once, MergeDown}
use Rattle.ovl_engine.specs.Requests.{Request}
use Rattle.ovl_engine.specs.Outcomes.{IsAccepted, IsRefusal, IsRun, MayRefuseLayers, MayRefuseOwn, stack_of}
use Rattle.ovl_engine.specs.Kept.{KeepsTreeOf}
use Rattle.ovl_engine.specs.MergesDown.{IsRunDown, KeepsTreeDown}

-- these names of blobs are asked for where a command goes over a stack: those that its layers
-- state, where it checks them
pub record AreAsked (command : Command) (stack : StackView) (names : List (List ℕ)) : Type 0 where
  pub stated : checks command ≡ true → AreStated stack names
  pub none : checks command ≡ false → names ≡ []

-- what these blobs have under the names that a stack's layers state may be there; whatever they
-- have under others
abbrev pub AreBlobsOf : (List ℕ → Option (List ℕ) → Type 0) → StackView → List BlobView → Type 0
AreBlobsOf may_be stack blobs =
    (name : List ℕ) → IsStated stack name → may_be name (bytes_named blobs name)

-- the gate may refuse a directory of a layer that is checked, or one that the command's own work
-- visits
abbrev pub MayRefuseWork : Command → StackView → (Piece → Type 0) → Type 0
MayRefuseWork command stack may_refuse =
    ((checks command ≡ true) × MayRefuseLayers stack may_refuse)
    ⊎ MayRefuseOwn command stack may_refuse

-- what comes of a command over a stack with these blobs, once their contents are known; or of
-- merges, where some layers are to be left
abbrev pub IsRunOf : Command → Option ℕ → StackView → List BlobView → (Piece → Type 0)
    → Result Answer EngineFault → Type 0
IsRunOf command None stack blobs may_refuse result =
    IsRun command stack (findings blobs stack) (MayRefuseWork command stack may_refuse) result
IsRunOf command (Some left) stack blobs may_refuse result =
    IsRunDown left blobs stack (λ one. MayRefuseWork Merge one may_refuse) result

-- this comes with some blobs of which this is known, where they are checked
pub record IsRunOver (command : Command) (left : Option ℕ) (stack : StackView)
    (known : List BlobView → Type 0) (may_refuse : Piece → Type 0)
    (result : Result Answer EngineFault) : Type 0 where
  pub blobs : List BlobView
  pub there : checks command ≡ true → known blobs
  pub run : IsRunOf command left stack blobs may_refuse result

-- what comes of a request by what is known of blobs, by a gate that may refuse these pieces; out of
-- memory may come at any time
abbrev pub IsOutcomeOver : Request → (List BlobView → Type 0) → (Piece → Type 0)
    → Result Answer EngineFault → Type 0
IsOutcomeOver request known may_refuse (Ok answer) =
    IsAccepted request
    × IsRunOver request.what request.left (stack_of request) known may_refuse (Ok answer)
IsOutcomeOver request known may_refuse (Err fault) =
    IsRefusal request fault
    ⊎ (IsAccepted request
    × IsRunOver request.what request.left (stack_of request) known may_refuse (Err fault))

-- an answer's new layers keep the tree of a stack, where a task makes some: in place of those that
-- its command replaces, or of all that were merged
abbrev pub KeepsTreeBy : Task → StackView → Answer → Type 0
KeepsTreeBy (Once command) stack answer =
    makes_layers command ≡ true → KeepsTreeOf command stack answer
KeepsTreeBy (MergeDown left) stack answer = KeepsTreeDown left stack answer
