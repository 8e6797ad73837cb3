-- Among ascending blobs, those whose names begin with two digits are a range.
use Rattle.std.proofs.Common.{◌≡◌, ℕ, zero, suc, ◌+◌, ◌<◌, true, false, Bool, Result, Ok, Err, List, [], ◌∷◌, length, get_or, take, map, refl, sym, ap, ◌∙◌, arith}
use Rattle.std.specs.Prelude.{◌==◌, filter, slice_index, nat_lt, MatchResult}
use Rattle.std.specs.Result.{is_err}
use Rattle.std.specs.Cmp.Lexicographic.{bytes_decides}
use Rattle.std.proofs.lemmas.Bool.{ltb-true, false_from_ne_true}
use Rattle.hex.specs.Hex.{decode_sized}
use Rattle.hex.specs.declared.error.FromHexError.{FromHexError}
use Rattle.hex.proofs.HexLemmas.{decode_sized-encode_lower}
use Rattle.ovl_names.specs.Names.{PathName, name_eq}
use Rattle.ovl_names.proofs.Ascending.{both}
use Rattle.ovl_inode.specs.Bytes.{is_digest, are_bytes}
use Rattle.ovl_blobs.specs.declared.blobs.Blob.{Blob}
use Rattle.ovl_blobs.specs.Blobs.{BlobView, blob_view, blob_views, AreNamedByDigests, first_digits, wrong_names, wrong_names_under}
use Rattle.ovl_blobs.specs.ByDigest.{IsStart}
use Rattle.ovl_blobs.proofs.ListFacts.{filter-before, filter-map}
use Rattle.ovl_blobs.proofs.NamedLemmas.{part, part-filter}

-- ---- the first bytes of names

abbrev first_of : Blob → ℕ
first_of blob = slice_index blob.name 0

-- the digits with which a digest begins spell its first byte
spells-first : (name : List ℕ) → is_digest name ≡ true → decode_sized (first_digits name) 1 ≡ Ok (slice_index name 0 ∷ [])
spells-first [] is = let bad : false ≡ true = is in cc
spells-first (x ∷ name) is = decode_sized-encode_lower (x ∷ []) 1 refl fits
  where
    bytes : are_bytes (x ∷ name) ≡ true
    bytes = (both {a = length (x ∷ name) == 32} {b = are_bytes (x ∷ name)} is).1

    fits : (i : ℕ) → slice_index (x ∷ []) i < 256
    fits zero = ltb-true x 256 (both {a = nat_lt x 256} {b = are_bytes name} bytes).0
    fits (suc i) = omega arith

-- ---- the range

module _ (digits : PathName) (blobs : List Blob) (named : AreNamedByDigests blobs) where
  abbrev begins : Blob → Bool
  begins blob = name_eq digits (first_digits blob.name)

  spelled : (k : ℕ) (d : Blob) → k < length blobs → begins (get_or blobs k d) ≡ true → decode_sized digits 1 ≡ Ok (first_of (get_or blobs k d) ∷ [])
  spelled k d inside is =
      let blob = get_or blobs k d in
      ap (λ text. decode_sized text 1) ((bytes_decides digits (first_digits blob.name)).0 is)
      ∙ spells-first blob.name (named k d inside)

  same-under : (part : List Blob) → filter begins part ≡ filter begins blobs → wrong_names_under digits (blob_views part) ≡ wrong_names_under digits (blob_views blobs)
  same-under part same =
      let test : BlobView → Bool = λ view. name_eq digits (first_digits view.name) in
      ap wrong_names (filter-map blob_view test part ∙ (ap (map blob_view) same ∙ sym (filter-map blob_view test blobs)))

  -- where the digits spell no byte, no name begins with them
  pub none-under : (answer : Result (Unit {0}) FromHexError) (out : List ℕ) → MatchResult (decode_sized digits 1) (λ bytes. (answer ≡ Ok tt) × (out ≡ bytes)) (λ fault. answer ≡ Err fault) → is_err answer ≡ true → wrong_names_under digits (blob_views (take 0 blobs)) ≡ wrong_names_under digits (blob_views blobs)
  none-under answer out told err = same-under (take 0 blobs) (filter-before begins blobs 0 (λ k d late inside. false_from_ne_true (begins (get_or blobs k d)) (λ t. by (decode_sized digits 1) (spelled k d inside t) told)))
    where
      by : {bytes : List ℕ} (read : Result (List ℕ) FromHexError) → read ≡ Ok bytes → MatchResult read (λ bytes. (answer ≡ Ok tt) × (out ≡ bytes)) (λ fault. answer ≡ Err fault) → ⊥
      by (Ok bytes) e told = let bad : false ≡ true = sym (ap is_err told.0) ∙ err in absurd (cc)
      by (Err fault) e told = absurd (cc)

  module _ (answer : Result (Unit {0}) FromHexError) (out : List ℕ) (told : MatchResult (decode_sized digits 1) (λ bytes. (answer ≡ Ok tt) × (out ≡ bytes)) (λ fault. answer ≡ Err fault)) (ok : is_err answer ≡ false) (byte start end : ℕ) (is : byte ≡ slice_index out 0)
      (low : IsStart (λ (blob : Blob). blob.name) blobs byte start) (high : IsStart (λ (blob : Blob). blob.name) blobs (byte + 1) end) where
    other : (k : ℕ) (d : Blob) → k < length blobs → (first_of (get_or blobs k d) ≡ byte → ⊥) → begins (get_or blobs k d) ≡ false
    other k d inside differs = false_from_ne_true (begins (get_or blobs k d)) (λ t. differs (by (decode_sized digits 1) (spelled k d inside t) told ∙ sym is))
      where
        by : (read : Result (List ℕ) FromHexError) → read ≡ Ok (first_of (get_or blobs k d) ∷ []) → MatchResult read (λ bytes. (answer ≡ Ok tt) × (out ≡ bytes)) (λ fault. answer ≡ Err fault) → first_of (get_or blobs k d) ≡ slice_index out 0
        by (Ok bytes) e told =
            let same : bytes ≡ first_of (get_or blobs k d) ∷ [] = cc in
            sym (ap (λ (bs : List ℕ). slice_index bs 0) (told.1 ∙ same))
        by (Err fault) e told = absurd (cc)

    pub range-under : wrong_names_under digits (blob_views (part blobs start end)) ≡ wrong_names_under digits (blob_views blobs)
    range-under = same-under (part blobs start end) (part-filter (λ (blob : Blob). blob.name) blobs byte start end low high begins other)
