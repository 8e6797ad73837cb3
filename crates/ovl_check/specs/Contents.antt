-- The findings by what is reported of blobs whose bytes aren't held.
use Rattle.std.specs.Prelude.{◌≡◌, ⊤, All, MatchOption, ℕ, ◌+◌, Bool, false, ◌&&◌, ◌==◌, not, Option, Some, None, List, [], ◌∷◌, ◌++◌, map, filter, is_none}
use Rattle.std.specs.List.{flat_map}
use Rattle.ovl_inode.specs.declared.inodes.Inode.{Inode}
use Rattle.ovl_inode.specs.Kinds.{size_of, blob_of}
use Rattle.ovl_layer.specs.Layers.{Entries, Entry}
use Rattle.ovl_lookup.specs.Stacks.{StackView}
use Rattle.ovl_blobs.specs.declared.contents.BlobInfo.{BlobInfo}
use Rattle.ovl_check.specs.declared.findings.Code.{Code}
use Rattle.ovl_check.specs.declared.findings.Code.TheVariants.{BlobMissing, BlobSize, BlobDigest}
use Rattle.ovl_check.specs.declared.findings.Finding.{Finding}
use Rattle.ovl_check.specs.Codes.{all_codes, is_blob_fault}
use Rattle.ovl_blobs.specs.Contents.{find_content}
use Rattle.ovl_check.specs.Conditions.{holds}
use Rattle.ovl_check.specs.Findings.{finding, any_code}

-- ---- the conditions on blobs, by their contents; this profile's own

-- the inode names a blob of which no content is reported
abbrev pub content_is_missing : List BlobInfo → Inode → Bool
content_is_missing contents inode =
    elim (blob_of inode) [ Some name ↦ is_none (find_content contents name) | None ↦ false ]

-- the inode names a blob whose content passes a test
abbrev pub has_content : (BlobInfo → Bool) → Option BlobInfo → Bool
has_content test None = false
has_content test (Some content) = test content

abbrev pub names_content : (BlobInfo → Bool) → List BlobInfo → Inode → Bool
names_content test contents inode =
    elim (blob_of inode)
    [ Some name ↦ has_content test (find_content contents name) | None ↦ false ]

-- its length isn't the file's size
abbrev pub content_is_of_other_size : List BlobInfo → Inode → Bool
content_is_of_other_size contents inode =
    names_content (λ content. not (content.size == size_of inode)) contents inode

-- its bytes have another digest
abbrev pub content_is_wrong : List BlobInfo → Inode → Bool
content_is_wrong contents inode = names_content (λ content. not content.is_right) contents inode

-- ---- all of them

-- the condition of each code; those that aren't on blobs ask nothing of them
abbrev pub holds_of_contents : List BlobInfo → Entries → StackView → Entry → Code → Bool
holds_of_contents contents layer below entry BlobMissing = content_is_missing contents entry.1
holds_of_contents contents layer below entry BlobSize = content_is_of_other_size contents entry.1
holds_of_contents contents layer below entry BlobDigest = content_is_wrong contents entry.1
holds_of_contents contents layer below entry code = holds [] layer below entry code

-- the findings of these codes at an entry of layer `i`, by code
abbrev pub findings_of_contents_at : (Code → Bool) → List BlobInfo → ℕ → Entries → StackView → Entry
    → List Finding
findings_of_contents_at sought contents i layer below entry =
    map (finding i entry.0)
    (filter (λ code. sought code && holds_of_contents contents layer below entry code) all_codes)

-- the findings of these codes in layer `i`, by path
abbrev pub findings_of_contents_in : (Code → Bool) → List BlobInfo → ℕ → Entries → StackView
    → List Finding
findings_of_contents_in sought contents i layer below =
    flat_map (findings_of_contents_at sought contents i layer below) layer

-- the findings of data-only layers, of which the first is layer `i`: those of blobs; overlayfs.rst,
-- "Data-only lower layers"
abbrev pub data_findings_of_contents_from : List BlobInfo → StackView → ℕ → List Entries
    → List Finding
data_findings_of_contents_from contents stack i [] = []
data_findings_of_contents_from contents stack i (layer ∷ layers) =
    findings_of_contents_in is_blob_fault contents i layer (record stack { layers = [] })
    ++ data_findings_of_contents_from contents stack (i + 1) layers

-- the findings of these layers of a stack, of which the first is layer `i`, and of its data-only
-- ones under them
abbrev pub findings_of_contents_from : List BlobInfo → StackView → ℕ → List Entries → List Finding
findings_of_contents_from contents stack i [] =
    data_findings_of_contents_from contents stack i stack.data_only
findings_of_contents_from contents stack i (layer ∷ layers) =
    findings_of_contents_in any_code contents i layer (record stack { layers = layers })
    ++ findings_of_contents_from contents stack (i + 1) layers

-- the findings of a stack and of the contents that are reported of its blobs, by layer, then by path,
-- then by code
abbrev pub findings_of_contents : List BlobInfo → StackView → List Finding
findings_of_contents contents stack = findings_of_contents_from contents stack 0 stack.layers

-- ---- what the layers name

-- contents report of the blob that an inode names what other contents do
abbrev pub TellsOfNamed : List BlobInfo → List BlobInfo → Inode → Type 0
TellsOfNamed contents others inode =
    MatchOption (blob_of inode) ⊤ (λ name. find_content contents name ≡ find_content others name)

-- the same of each blob that these layers name
abbrev pub TellsOfLayers : List BlobInfo → List BlobInfo → List Entries → Type 0
TellsOfLayers contents others layers =
    All (λ layer. All (λ entry. TellsOfNamed contents others entry.1) layer) layers
