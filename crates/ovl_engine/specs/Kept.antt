-- What new layers keep.
use Rattle.std.specs.Prelude.{◌≡◌, ℕ, true, None, List, [], ◌++◌, drop, if◌then◌else◌, length}
use Rattle.std.specs.List.{list_all}
use Rattle.ovl_names.specs.Paths.{PathNames}
use Rattle.ovl_lookup.specs.Stacks.{StackView}
use Rattle.ovl_lookup.specs.Merged.{look}
use Rattle.ovl_lookup.specs.Sound.{IsSoundStack}
use Rattle.ovl_blobs.specs.Blobs.{BlobView}
use Rattle.ovl_check.specs.Codes.{is_blob_fault}
use Rattle.ovl_check.specs.Findings.{findings}
use Rattle.ovl_commands.specs.declared.requests.Answer.{Answer}
use Rattle.ovl_commands.specs.declared.requests.Command.{Command}
use Rattle.ovl_commands.specs.Commands.{stands_alone}
use Rattle.ovl_engine.specs.FsckReports.{is_clean}
use Rattle.ovl_engine.specs.Requests.{Request}
use Rattle.ovl_engine.specs.Refusals.{first_unread}
use Rattle.ovl_engine.specs.Outcomes.{stack_of, new_manifests}

-- the manifests with an answer's new ones in place of as many of the topmost, or of all where these
-- stand for the stack
abbrev pub manifests_after : Command → List (List ℕ) → Answer → List (List ℕ)
manifests_after what manifests answer =
    new_manifests answer
    ++ (if stands_alone what then [] else drop (length (new_manifests answer)) manifests)

-- how many layers are data-only then: as many as before, or none
abbrev pub bottom_after : Command → ℕ → ℕ
bottom_after what bottom = if stands_alone what then 0 else bottom

-- the request with these
abbrev pub after : Request → Answer → Request
after request answer = record request {
  manifests = manifests_after request.what request.manifests answer;
  bottom = bottom_after request.what request.bottom;
}

-- the manifests of the second request all state a layer, and their stack shows at each path what
-- that of the first shows
pub record KeepsTree (before after : Request) : Type 0 where
  pub read : first_unread after.manifests ≡ None
  pub same : (path : PathNames) → look (stack_of after) path ≡ look (stack_of before) path

-- the stack of a request is sound
abbrev pub HasSoundStack : Request → Type 0
HasSoundStack request = IsSoundStack (stack_of request)

-- the manifests of a request all state a layer, and their stack is this one
pub record IsRequestOf (stack : StackView) (request : Request) : Type 0 where
  pub read : first_unread request.manifests ≡ None
  pub same : stack ≡ stack_of request

-- an answer's new layers in place of those of this stack that the command replaces keep the tree,
-- whatever manifests state the stack
abbrev pub KeepsTreeOf : Command → StackView → Answer → Type 0
KeepsTreeOf what stack answer =
    (request : Request) → request.what ≡ what → IsRequestOf stack request
    → KeepsTree request (after request answer)

-- the same of soundness
abbrev pub KeepsSoundness : Command → StackView → Answer → Type 0
KeepsSoundness what stack answer =
    (request : Request) → request.what ≡ what → IsRequestOf stack request
    → HasSoundStack (after request answer)

-- with any blobs, all that is found in this stack is what is wrong with these: no fault of a layer,
-- and no note
abbrev pub FindsBlobsAlone : StackView → Type 0
FindsBlobsAlone stack =
    (blobs : List BlobView)
    → list_all (λ found. is_blob_fault found.code) (findings blobs stack) ≡ true

-- with any blobs with which no fault is found in the first stack, nothing at all is found in the
-- second
abbrev pub FindsNothing : StackView → StackView → Type 0
FindsNothing before after =
    (blobs : List BlobView) → is_clean (findings blobs before) ≡ true → findings blobs after ≡ []

-- the check is quiet on the stack of the second request: it finds there what is wrong with blobs
-- by itself, and nothing with blobs with which it finds no fault in that of the first
pub record IsQuiet (before after : Request) : Type 0 where
  pub blobs_alone : FindsBlobsAlone (stack_of after)
  pub nothing : FindsNothing (stack_of before) (stack_of after)

-- the same of the stack with an answer's new layers
abbrev pub IsQuietOf : Command → StackView → Answer → Type 0
IsQuietOf what stack answer =
    (request : Request) → request.what ≡ what → IsRequestOf stack request
    → IsQuiet request (after request answer)
