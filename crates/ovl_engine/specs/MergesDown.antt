-- Merges one after the other, until this many layers are left.
use Rattle.std.specs.Prelude.{◌≡◌, ◌+◌, ◌-◌, ◌<◌, ℕ, zero, suc, true, Result, Ok, List, [], ◌∷◌, ◌++◌, drop, length, map, IfOk}
use Rattle.ovl_names.specs.Paths.{PathNames}
use Rattle.ovl_layer.specs.Layers.{Entries, IsLayer}
use Rattle.ovl_manifest.specs.Manifest.{read_layer}
use Rattle.ovl_lookup.specs.Stacks.{StackView, from_layer}
use Rattle.ovl_lookup.specs.Merged.{look}
use Rattle.ovl_lookup.specs.Words.{over}
use Rattle.ovl_blobs.specs.Blobs.{BlobView}
use Rattle.ovl_check.specs.Findings.{findings}
use Rattle.ovl_merge.specs.Places.{merge_of}
use Rattle.ovl_merge.specs.MergeDown.{IsMergedDown}
use Rattle.ovl_merge.specs.Limits.{PassesMergeLimit}
use Rattle.ovl_commands.specs.declared.requests.Command.TheVariants.{Merge}
use Rattle.ovl_commands.specs.declared.requests.Answer.{Answer}
use Rattle.ovl_engine.specs.declared.faults.EngineFault.{EngineFault}
use Rattle.ovl_engine.specs.FsckReports.{is_clean}
use Rattle.ovl_engine.specs.Requests.{Request}
use Rattle.ovl_engine.specs.Outcomes.{IsRun, new_manifests, stack_of}
use Rattle.ovl_engine.specs.Kept.{IsRequestOf, KeepsTree}

-- a merge of this stack leaves that one: the new lower layer, which passes no limit, over all that
-- was under the two
pub record IsLeftByMerge (stack next : StackView) : Type 0 where
  pub lower : Entries
  pub is_layer : IsLayer lower
  pub merged : IsMergedDown (merge_of stack) lower
  pub within : PassesMergeLimit (merge_of stack) → ⊥
  pub same : next ≡ over lower (from_layer 2 stack)

-- a merge leads from a stack, in which no fault is found with these blobs, to the one that it
-- leaves
abbrev pub MergeLeads : List BlobView → StackView → StackView → Type 0
MergeLeads blobs stack next = (is_clean (findings blobs stack) ≡ true) × IsLeftByMerge stack next

-- this many merges lead from a stack to the last, one after the other
abbrev pub MergesLead : ℕ → List BlobView → StackView → StackView → Type 0
MergesLead zero blobs stack last = last ≡ stack
MergesLead (suc more) blobs stack last =
    (next : StackView) × (MergesLead more blobs stack next × MergeLeads blobs next last)

-- what comes of merges of a stack until this many layers are left, where a gate may refuse this of
-- each stack: merges lead to one that has more, and this comes of a merge of that; an answer comes
-- only if it has one more
pub record IsRunDown (left : ℕ) (blobs : List BlobView) (stack : StackView)
    (refused : StackView → Type 0) (result : Result Answer EngineFault) : Type 0 where
  pub before : ℕ
  pub last : StackView
  pub lead : MergesLead before blobs stack last
  pub more : left < length last.layers
  pub answered : IfOk result (λ answer. length last.layers ≡ left + 1)
  pub run : IsRun Merge last (findings blobs last) (refused last) result

-- how many layers of a request aren't data-only
abbrev pub count_in : Request → ℕ
count_in request = length (stack_of request).layers

-- an answer's manifests state two layers that in place of the two topmost of this stack keep the
-- tree
pub record KeepsTreeByTwo (stack : StackView) (answer : Answer) : Type 0 where
  pub top : Entries
  pub lower : Entries
  pub read : map read_layer (new_manifests answer) ≡ Ok top ∷ Ok lower ∷ []
  pub same : (path : PathNames)
      → look (over top (over lower (from_layer 2 stack))) path ≡ look stack path

-- the request with an answer's new manifests in place of all that were merged
abbrev pub after_down : ℕ → Request → Answer → Request
after_down left request answer = record request {
  manifests = new_manifests answer ++ drop (count_in request + 1 - left) request.manifests;
}

-- these keep the tree, whatever manifests state the stack
abbrev pub KeepsTreeDown : ℕ → StackView → Answer → Type 0
KeepsTreeDown left stack answer =
    (request : Request) → IsRequestOf stack request
    → KeepsTree request (after_down left request answer)
