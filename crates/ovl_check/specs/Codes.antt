-- The codes of findings.
use Rattle.std.specs.Prelude.{ℕ, Bool, true, false, ◌||◌, List, [], ◌∷◌, codes}
use Rattle.ovl_check.specs.declared.findings.Code.{Code}
use Rattle.ovl_check.specs.declared.findings.Code.TheVariants.{RedirectForm, RedirectLost, RedirectKind, RedirectDouble, RedirectOpen, DataMissing, DataSize, BlobMissing, BlobSize, BlobDigest, OrphanWhiteout, WhiteoutInOpaque, WhiteoutUnmarked, ImpureMissing, MarkIgnored}

-- all codes in the order of a report: the faults of layers, the faults of blobs, and the notes
abbrev pub all_codes : List Code
all_codes =
    RedirectForm ∷ RedirectLost ∷ RedirectKind ∷ RedirectDouble ∷ RedirectOpen ∷ DataMissing
    ∷ DataSize
    ∷ BlobMissing ∷ BlobSize ∷ BlobDigest
    ∷ OrphanWhiteout ∷ WhiteoutInOpaque ∷ WhiteoutUnmarked ∷ ImpureMissing ∷ MarkIgnored ∷ []

-- the word of a code
abbrev pub code_word : Code → List ℕ
code_word RedirectForm = codes "redirect-form"
code_word RedirectLost = codes "redirect-lost"
code_word RedirectKind = codes "redirect-kind"
code_word RedirectDouble = codes "redirect-double"
code_word RedirectOpen = codes "redirect-open"
code_word DataMissing = codes "data-missing"
code_word DataSize = codes "data-size"
code_word BlobMissing = codes "blob-missing"
code_word BlobSize = codes "blob-size"
code_word BlobDigest = codes "blob-digest"
code_word OrphanWhiteout = codes "orphan-whiteout"
code_word WhiteoutInOpaque = codes "whiteout-in-opaque"
code_word WhiteoutUnmarked = codes "whiteout-unmarked"
code_word ImpureMissing = codes "impure-missing"
code_word MarkIgnored = codes "mark-ignored"

-- those on blobs
abbrev pub blob_codes : List Code
blob_codes = BlobMissing ∷ BlobSize ∷ BlobDigest ∷ []

-- a fault of a layer speaks of a redirect, or of a metacopy file's data
abbrev pub is_layer_fault : Code → Bool
is_layer_fault RedirectForm = true
is_layer_fault RedirectLost = true
is_layer_fault RedirectKind = true
is_layer_fault RedirectDouble = true
is_layer_fault RedirectOpen = true
is_layer_fault DataMissing = true
is_layer_fault DataSize = true
is_layer_fault _ = false

abbrev pub is_blob_fault : Code → Bool
is_blob_fault BlobMissing = true
is_blob_fault BlobSize = true
is_blob_fault BlobDigest = true
is_blob_fault _ = false

-- what is no fault is a note
abbrev pub is_fault : Code → Bool
is_fault code = is_layer_fault code || is_blob_fault code

-- the one code that a directory can't have by itself
abbrev pub is_double : Code → Bool
is_double RedirectDouble = true
is_double _ = false
