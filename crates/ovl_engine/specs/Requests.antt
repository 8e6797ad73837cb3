-- What is asked of the engine.
use Rattle.std.specs.Prelude.{ℕ, Option, None, List, map, Vec}
use Rattle.std.specs.Global.{Global}
use Rattle.ovl_blobs.specs.declared.blobs.Blob.{Blob}
use Rattle.ovl_blobs.specs.Blobs.{BlobView, blob_views}
use Rattle.ovl_commands.specs.declared.requests.Command.{Command}
use Rattle.ovl_engine.specs.declared.tasks.Task.{Task}
use Rattle.ovl_engine.specs.Tasks.{command_of, left_of}

-- a request: a command, or merges one after the other until some layers are left, over manifests,
-- the topmost first, of which the last `bottom` state data-only layers, with these blobs, by this
-- number of workers
pub record Request : Type 0 where
  pub what : Command
  pub left : Option ℕ
  pub manifests : List (List ℕ)
  pub bottom : ℕ
  pub blobs : List BlobView
  pub workers : ℕ

-- manifests in memory
abbrev pub ManifestTexts : Type 0
ManifestTexts = List (Vec ℕ Global)

-- the request of one command and these arguments
abbrev pub request_of : Command → List (Vec ℕ Global) → ℕ → List Blob → ℕ → Request
request_of what manifests bottom blobs workers = record {
  what = what;
  left = None;
  manifests = map (λ manifest. manifest.items) manifests;
  bottom = bottom;
  blobs = blob_views blobs;
  workers = workers;
}

-- the same of a task
abbrev pub request_for : Task → List (Vec ℕ Global) → ℕ → List Blob → ℕ → Request
request_for task manifests bottom blobs workers = record {
  what = command_of task;
  left = left_of task;
  manifests = map (λ manifest. manifest.items) manifests;
  bottom = bottom;
  blobs = blob_views blobs;
  workers = workers;
}
