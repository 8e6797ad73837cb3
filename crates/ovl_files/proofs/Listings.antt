-- The listing of a folder's files.
use Rattle.std.proofs.Common.{◌≡◌, ◌∙◌, ◌+◌, ◌-◌, ◌<◌, ◌^◌, ℕ, Bool, cond, Option, Some, List, [], ◌∷◌, ◌++◌, All, arith, ap, get_or, length, min, subst, sum_by, sym, take}
use Rattle.std.specs.Prelude.{IsSome, bytes_eq, slice_index_or}
use Rattle.std.specs.BTreeMap.{BTreeMap, IsOrdered, get, is_at, keys}
use Rattle.std.specs.Cmp.Lexicographic.{nat_list_cmp_total, bytes_decides}
use Rattle.std.proofs.lemmas.List.{take_more}
use Rattle.std.proofs.lemmas.List.Sums.{sum_by-append}
use Rattle.std.proofs.lemmas.Map.Text.{is_eq-slice_cmp}
use Rattle.std.proofs.lemmas.Map.Views.{All-keys_found}
use Rattle.ovl_blobs.specs.Blobs.{digest_cmp}
use Rattle.ovl_files.specs.declared.blob_folder.BlobFile.{BlobFile}
use Rattle.ovl_files.specs.BlobFolders.{IsNamedBy}
use Rattle.ovl_files.specs.Listings.{length_of}
use Rattle.ovl_files.proofs.Lasts.{last-more, of_last}

abbrev Is : List ℕ → BlobFile → Bool
Is name file = bytes_eq file.name name

module _ (files : List BlobFile) (place : ℕ) (file : BlobFile) (inside : place < length files) (is : file ≡ get_or files place file) where
  more : take (place + 1) files ≡ take place files ++ file ∷ []
  more = take_more files place file inside ∙ ap (λ f. take place files ++ f ∷ []) (sym is)

  -- the length of a name, with the next file
  pub length_more : (name : List ℕ) (before : Option ℕ) → before ≡ length_of (take place files) name
      → cond (is_at (digest_cmp file.name) name) (Some file.length) before ≡ length_of (take (place + 1) files) name
  length_more name before same =
      ap (cond (is_at (digest_cmp file.name) name) (Some file.length)) same
      ∙ (ap (λ b. cond b (Some file.length) (length_of (take place files) name)) (is_eq-slice_cmp file.name name)
      ∙ (sym (last-more (Is name) (λ (file : BlobFile). file.length) (take place files) file) ∙ ap (λ fs. length_of fs name) (sym more)))

  -- what all come to, with the next file
  pub bytes_more : (bytes : ℕ) → bytes ≡ min (sum_by (λ (file : BlobFile). file.length) (take place files)) (2 ^ 64 - 1)
      → min (bytes + file.length) (2 ^ 64 - 1) ≡ min (sum_by (λ (file : BlobFile). file.length) (take (place + 1) files)) (2 ^ 64 - 1)
  bytes_more bytes same =
      let all = ap (sum_by (λ (file : BlobFile). file.length)) more ∙ sum_by-append (λ (file : BlobFile). file.length) (take place files) (file ∷ []) in
      omega (arith, same, all)

-- what the names of all files say
pub names_spelt : (files : List BlobFile) (lengths : BTreeMap (List ℕ) ℕ) → ((name : List ℕ) → get digest_cmp lengths name ≡ length_of files name) → IsOrdered digest_cmp lengths
    → All (λ file. IsNamedBy file.name) files → All IsNamedBy (keys lengths)
names_spelt files lengths each up named place any inside =
    let name = slice_index_or (keys lengths) place any in
    of_last (Is name) (λ (file : BlobFile). file.length) (IsNamedBy name) files (λ k d within passes. subst IsNamedBy ((bytes_decides _ name).0 passes) (named k d within))
    (subst IsSome (each name) (All-keys_found nat_list_cmp_total lengths up place any inside))
