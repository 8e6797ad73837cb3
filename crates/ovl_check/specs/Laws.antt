-- Laws of findings.
use Rattle.std.specs.Prelude.{◌≡◌, true, false, not, List, []}
use Rattle.std.specs.List.{All, list_any, list_all}
use Rattle.ovl_names.specs.Paths.{PathNames}
use Rattle.ovl_layer.specs.Layers.{Entries, IsLayer, entry_at}
use Rattle.ovl_lookup.specs.Stacks.{StackView, all_layers}
use Rattle.ovl_lookup.specs.Merged.{look}
use Rattle.ovl_lookup.specs.ShownInodes.{inode_shown}
use Rattle.ovl_lookup.specs.Sound.{is_sound_stack}
use Rattle.ovl_lookup.specs.Unmarked.{alone, HasNoMarks}
use Rattle.ovl_check.specs.Codes.{is_fault, is_layer_fault, is_blob_fault}
use Rattle.ovl_blobs.specs.declared.contents.BlobInfo.{BlobInfo}
use Rattle.ovl_blobs.specs.Blobs.{BlobView}
use Rattle.ovl_check.specs.Findings.{findings}
use Rattle.ovl_check.specs.Contents.{findings_of_contents, TellsOfLayers}
use Rattle.ovl_blobs.specs.Contents.{contents_of}

-- a stack is sound where no finding has such a code, whatever the blobs
abbrev pub FindingsTellSoundness : Type 0
FindingsTellSoundness = (blobs : List BlobView) (stack : StackView) →
    is_sound_stack stack
    ≡ not (list_any (λ found. is_layer_fault found.code) (findings blobs stack))

-- what is found needs no more of blobs than their contents give, whatever the order of their names
abbrev pub FindingsNeedContents : Type 0
FindingsNeedContents = (blobs : List BlobView) (stack : StackView) →
    findings blobs stack ≡ findings_of_contents (contents_of blobs) stack

-- what is found needs no more contents than those of the blobs that the layers name
abbrev pub FindingsNeedNamed : Type 0
FindingsNeedNamed =
    (contents others : List BlobInfo) (stack : StackView)
    → TellsOfLayers contents others (all_layers stack) →
    findings_of_contents contents stack ≡ findings_of_contents others stack

-- in a layer without marks, by itself, nothing is found but what is wrong with blobs
abbrev pub UnmarkedLayersAreQuiet : Type 0
UnmarkedLayersAreQuiet =
    (layer : Entries) → IsLayer layer → HasNoMarks layer → (blobs : List BlobView) →
    list_all (λ found. is_blob_fault found.code) (findings blobs (alone layer)) ≡ true

-- where nothing is at fault in a stack and its blobs, nothing at all is found in the layer of what
-- it shows, by itself
abbrev pub ShownLayersAreClean : Type 0
ShownLayersAreClean = (blobs : List BlobView) (stack : StackView) → All IsLayer stack.layers →
    list_any (λ found. is_fault found.code) (findings blobs stack) ≡ false →
    (layer : Entries) → IsLayer layer
    → ((path : PathNames) → entry_at layer path ≡ inode_shown (look stack path)) →
    findings blobs (alone layer) ≡ []
