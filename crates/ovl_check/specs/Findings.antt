-- All findings of a stack and its blobs.
use Rattle.std.specs.Prelude.{ℕ, ◌+◌, Bool, true, ◌&&◌, List, [], ◌∷◌, ◌++◌, map, filter}
use Rattle.std.specs.List.{flat_map}
use Rattle.ovl_names.specs.Paths.{PathNames}
use Rattle.ovl_layer.specs.Layers.{Entries, Entry}
use Rattle.ovl_lookup.specs.Stacks.{StackView}
use Rattle.ovl_check.specs.declared.findings.Code.{Code}
use Rattle.ovl_check.specs.declared.findings.Finding.{Finding}
use Rattle.ovl_check.specs.Codes.{all_codes, is_blob_fault}
use Rattle.ovl_blobs.specs.Blobs.{BlobView}
use Rattle.ovl_check.specs.Conditions.{holds}

-- a finding of a code at a path of layer `i`
abbrev pub finding : ℕ → PathNames → Code → Finding
finding i path code = record { layer = i; path = path; code = code }

-- the findings of these codes at an entry of layer `i`, by code
abbrev pub findings_at : (Code → Bool) → List BlobView → ℕ → Entries → StackView → Entry
    → List Finding
findings_at sought blobs i layer below entry =
    map (finding i entry.0)
    (filter (λ code. sought code && holds blobs layer below entry code) all_codes)

-- the findings of these codes in layer `i`, by path
abbrev pub findings_in : (Code → Bool) → List BlobView → ℕ → Entries → StackView → List Finding
findings_in sought blobs i layer below = flat_map (findings_at sought blobs i layer below) layer

-- all codes are sought in a layer that isn't data-only
abbrev pub any_code : Code → Bool
any_code code = true

-- the findings of data-only layers, of which the first is layer `i`: those of blobs; overlayfs.rst,
-- "Data-only lower layers"
abbrev pub data_findings_from : List BlobView → StackView → ℕ → List Entries → List Finding
data_findings_from blobs stack i [] = []
data_findings_from blobs stack i (layer ∷ layers) =
    findings_in is_blob_fault blobs i layer (record stack { layers = [] })
    ++ data_findings_from blobs stack (i + 1) layers

-- the findings of these layers of a stack, of which the first is layer `i`, and of its data-only
-- ones under them
abbrev pub findings_from : List BlobView → StackView → ℕ → List Entries → List Finding
findings_from blobs stack i [] = data_findings_from blobs stack i stack.data_only
findings_from blobs stack i (layer ∷ layers) =
    findings_in any_code blobs i layer (record stack { layers = layers })
    ++ findings_from blobs stack (i + 1) layers

-- the findings of a stack and its blobs, by layer, then by path, then by code
abbrev pub findings : List BlobView → StackView → List Finding
findings blobs stack = findings_from blobs stack 0 stack.layers
