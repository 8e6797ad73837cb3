-- Contents under their digests.
use Rattle.std.proofs.Common.{◌≡◌, ℕ, ◌<◌, Bool, true, false, cond, Option, Some, None, List, [], ◌∷◌, ◌++◌, refl, sym, ap, ◌∙◌, subst, map, length, take, get_or}
use Rattle.std.specs.Prelude.{◌&&◌, is_some}
use Rattle.std.specs.Option.{option_map}
use Rattle.std.specs.List.{list_all}
use Rattle.std.specs.Map.{lookup}
use Rattle.std.specs.Str.{bytes_eq}
use Rattle.std.specs.Ordering.{is_eq, is_lt, nat_cmp}
use Rattle.std.specs.Cmp.Lexicographic.{slice_cmp, nat_list_cmp_total, bytes_decides}
use Rattle.std.specs.FinMap.{slice_cmp-IsAntisymmetric, nat_cmp-IsAntisymmetric}
use Rattle.std.specs.declared.cmp.Ordering.{Ordering}
use Rattle.std.specs.declared.cmp.Ordering.TheVariants.{Less, Equal, Greater}
use Rattle.std.proofs.lemmas.Cmp.{tied_itself}
use Rattle.std.proofs.lemmas.List.{take_more, map-append}
use Rattle.sha2.specs.Sha256.{sha256}
use Rattle.std.specs.List.{AllByRecursion}
use Rattle.std.specs.List.Sorted.{IsStrictlySortedBy}
use Rattle.std.proofs.lemmas.List.{take_all}
use Rattle.std.proofs.Common.{◌+◌, ◌≤◌}
use Rattle.ovl_blobs.specs.Blobs.{BlobView, digest_cmp, are_in_order}
use Rattle.ovl_engine.specs.NamedBlobs.{first_with, bytes_under, HasFirsts, name_and_bytes}

-- ---- keys that are compared, and keys that are tested

key_test : (one other : List ℕ) → is_eq (slice_cmp nat_cmp one other) ≡ bytes_eq one other
key_test one other = by (slice_cmp nat_cmp one other) refl (bytes_eq one other) refl
  where
    by : (o : Ordering) → slice_cmp nat_cmp one other ≡ o → (b : Bool) → bytes_eq one other ≡ b → is_eq o ≡ b
    by Less e true f =
        let bad : Less ≡ Equal = sym e ∙ (ap (slice_cmp nat_cmp one) (sym ((bytes_decides one other).0 f)) ∙ tied_itself nat_list_cmp_total one) in cc
    by Less e false f = refl
    by Greater e true f =
        let bad : Greater ≡ Equal = sym e ∙ (ap (slice_cmp nat_cmp one) (sym ((bytes_decides one other).0 f)) ∙ tied_itself nat_list_cmp_total one) in cc
    by Greater e false f = refl
    by Equal e true f = refl
    by Equal e false f =
        let bad : true ≡ false = sym ((bytes_decides one other).1 (slice_cmp-IsAntisymmetric nat_cmp-IsAntisymmetric one other e)) ∙ f in cc

-- blobs whose names ascend strictly
before_all : (name : List ℕ) (blobs : List BlobView) → AllByRecursion (λ other. digest_cmp name other ≡ Less) (map (λ (blob : BlobView). blob.name) blobs) → list_all (λ (blob : BlobView). is_lt (digest_cmp name blob.name)) blobs ≡ true
before_all name [] all = refl
before_all name (blob ∷ blobs) all = λ j. is_lt (all.0 j) && before_all name blobs all.1 j

pub ascending_blobs : (blobs : List BlobView) → IsStrictlySortedBy digest_cmp (map (λ (blob : BlobView). blob.name) blobs) → are_in_order blobs ≡ true
unfolding IsStrictlySortedBy
ascending_blobs [] up = refl
ascending_blobs (blob ∷ blobs) up = λ j. before_all blob.name blobs up.0 j && ascending_blobs blobs up.1 j

module _ {V : Type 0} (bytes_of : V → List ℕ) where
  abbrev view_of : List ℕ × V → List ℕ × List ℕ
  view_of entry = (entry.0, bytes_of entry.1)

  under_is : (digest : List ℕ) (entries : List (List ℕ × V)) → bytes_under digest (map view_of entries) ≡ option_map bytes_of (lookup (λ key. is_eq (slice_cmp nat_cmp digest key)) entries)
  under_is digest [] = refl
  under_is digest (entry ∷ entries) = by (under_is digest entries) (bytes_eq digest entry.0) (is_eq (slice_cmp nat_cmp digest entry.0)) (key_test digest entry.0)
    where
      by : bytes_under digest (map view_of entries) ≡ option_map bytes_of (lookup (λ key. is_eq (slice_cmp nat_cmp digest key)) entries)
          → (b c : Bool) → c ≡ b → cond b (Some (bytes_of entry.1)) (bytes_under digest (map view_of entries)) ≡ option_map bytes_of (cond c (Some entry.1) (lookup (λ key. is_eq (slice_cmp nat_cmp digest key)) entries))
      by later true true e = refl
      by later true false e = let bad : false ≡ true = e in cc
      by later false true e = let bad : true ≡ false = e in cc
      by later false false e = later

  -- ---- one more content

  pub first_more : (digest : List ℕ) (contents : List (List ℕ)) (bytes : List ℕ) → first_with digest (contents ++ bytes ∷ []) ≡ elim (first_with digest contents) as (λ _. Option (List ℕ)) [ Some first ↦ Some first | None ↦ cond (bytes_eq digest (sha256 bytes)) (Some bytes) None ]
  first_more digest [] bytes = refl
  first_more digest (first ∷ contents) bytes = by (first_more digest contents bytes) (bytes_eq digest (sha256 first))
    where
      by : first_with digest (contents ++ bytes ∷ []) ≡ elim (first_with digest contents) as (λ _. Option (List ℕ)) [ Some first ↦ Some first | None ↦ cond (bytes_eq digest (sha256 bytes)) (Some bytes) None ]
          → (b : Bool) → cond b (Some first) (first_with digest (contents ++ bytes ∷ [])) ≡ elim (cond b (Some first) (first_with digest contents)) as (λ _. Option (List ℕ)) [ Some found ↦ Some found | None ↦ cond (bytes_eq digest (sha256 bytes)) (Some bytes) None ]
      by later true = refl
      by later false = later

  some_there : (o : Option (List ℕ)) (last : Option (List ℕ)) → is_some o ≡ true → elim o as (λ _. Option (List ℕ)) [ Some first ↦ Some first | None ↦ last ] ≡ o
  some_there None last some = let bad : false ≡ true = some in cc
  some_there (Some first) last some = refl

  none_added : (o : Option (List ℕ)) → o ≡ elim o as (λ _. Option (List ℕ)) [ Some first ↦ Some first | None ↦ None ]
  none_added None = refl
  none_added (Some first) = refl

  none_there : (o : Option (List ℕ)) (last : Option (List ℕ)) → is_some o ≡ false → last ≡ elim o as (λ _. Option (List ℕ)) [ Some first ↦ Some first | None ↦ last ]
  none_there None last none = refl
  none_there (Some first) last none = let bad : true ≡ false = none in cc

  mapped_some : {Y : Type 0} (f : Y → List ℕ) (o : Option Y) → is_some (option_map f o) ≡ is_some o
  mapped_some f None = refl
  mapped_some f (Some y) = refl

  module _ (contents : List (List ℕ)) (bytes name : List ℕ) (is : name ≡ sha256 bytes) (old : List (List ℕ × V)) (firsts : HasFirsts contents (map view_of old)) where
    is_there : is_some (lookup (λ key. is_eq (slice_cmp nat_cmp name key)) old) ≡ is_some (first_with name contents)
    is_there = sym (mapped_some bytes_of (lookup (λ key. is_eq (slice_cmp nat_cmp name key)) old)) ∙ ap is_some (sym (under_is name old) ∙ firsts name)

    -- contents whose digest is there already
    pub no_more : true ≡ is_some (lookup (λ key. is_eq (slice_cmp nat_cmp name key)) old) → HasFirsts (contents ++ bytes ∷ []) (map view_of old)
    no_more there digest = firsts digest ∙ sym (first_more digest contents bytes ∙ by (bytes_eq digest (sha256 bytes)) refl)
      where
        by : (b : Bool) → bytes_eq digest (sha256 bytes) ≡ b → elim (first_with digest contents) as (λ _. Option (List ℕ)) [ Some first ↦ Some first | None ↦ cond b (Some bytes) None ] ≡ first_with digest contents
        by true e =
            let same : name ≡ digest = is ∙ sym ((bytes_decides digest (sha256 bytes)).0 e) in
            some_there (first_with digest contents) (Some bytes) (ap (λ (d : List ℕ). is_some (first_with d contents)) (sym same) ∙ (sym is_there ∙ sym there))
        by false e = sym (none_added (first_with digest contents))

    -- contents with a new digest
    pub one_more : (new : List (List ℕ × V)) (value : V) → bytes_of value ≡ bytes → false ≡ is_some (lookup (λ key. is_eq (slice_cmp nat_cmp name key)) old)
        → ((q : List ℕ) → lookup (λ key. is_eq (slice_cmp nat_cmp q key)) new ≡ cond (is_eq (slice_cmp nat_cmp name q)) (Some value) (lookup (λ key. is_eq (slice_cmp nat_cmp q key)) old))
        → HasFirsts (contents ++ bytes ∷ []) (map view_of new)
    one_more new value same none put digest =
        under_is digest new
        ∙ (ap (option_map bytes_of) (put digest)
        ∙ (by (is_eq (slice_cmp nat_cmp name digest)) (key_test name digest) (bytes_eq digest (sha256 bytes)) refl
        ∙ sym (first_more digest contents bytes)))
      where
        kept : option_map bytes_of (lookup (λ key. is_eq (slice_cmp nat_cmp digest key)) old) ≡ first_with digest contents
        kept = sym (under_is digest old) ∙ firsts digest

        by : (b : Bool) → b ≡ bytes_eq name digest → (c : Bool) → bytes_eq digest (sha256 bytes) ≡ c
            → option_map bytes_of (cond b (Some value) (lookup (λ key. is_eq (slice_cmp nat_cmp digest key)) old)) ≡ elim (first_with digest contents) as (λ _. Option (List ℕ)) [ Some first ↦ Some first | None ↦ cond c (Some bytes) None ]
        by true e c f =
            let there : name ≡ digest = (bytes_decides name digest).0 (sym e) in
            let here : bytes_eq digest (sha256 bytes) ≡ true = (bytes_decides digest (sha256 bytes)).1 (sym there ∙ is) in
            let yes : true ≡ c = sym here ∙ f in
            let absent : is_some (first_with digest contents) ≡ false = ap (λ (d : List ℕ). is_some (first_with d contents)) (sym there) ∙ (sym is_there ∙ sym none) in
            ap (λ (v : List ℕ). Some v) same
            ∙ (none_there (first_with digest contents) (Some bytes) absent
            ∙ ap (λ (b : Bool). elim (first_with digest contents) as (λ _. Option (List ℕ)) [ Some first ↦ Some first | None ↦ cond b (Some bytes) None ]) yes)
        by false e true f =
            let same_name : name ≡ digest = is ∙ sym ((bytes_decides digest (sha256 bytes)).0 f) in
            let bad : false ≡ true = e ∙ (bytes_decides name digest).1 same_name in cc
        by false e false f = kept ∙ none_added (first_with digest contents)

  -- ---- the same along a list of contents

  module _ {W : Type 0} (items : W → List ℕ) (xs : List W) where
    pub all_firsts : (n : ℕ) (entries : List (List ℕ × List ℕ)) → length xs ≤ n → HasFirsts (map items (take n xs)) entries → HasFirsts (map items xs) entries
    all_firsts n entries all firsts = subst (λ (l : List W). HasFirsts (map items l) entries) (take_all n xs all) firsts

    module _ (i : ℕ) (x : W) (inside : i < length xs) (at : x ≡ get_or xs i x) (name : List ℕ) (is : name ≡ sha256 (items x)) (old : List (List ℕ × V)) (firsts : HasFirsts (map items (take i xs)) (map view_of old)) where
      next : map items (take i xs) ++ items x ∷ [] ≡ map items (take (i + 1) xs)
      next = sym (ap (map items) (take_more xs i x inside) ∙ (map-append items (take i xs) (get_or xs i x ∷ []) ∙ ap (λ y. map items (take i xs) ++ items y ∷ []) (sym at)))

      pub next_there : (new : List (List ℕ × V)) → new ≡ old → true ≡ is_some (lookup (λ key. is_eq (slice_cmp nat_cmp name key)) old) → HasFirsts (map items (take (i + 1) xs)) (map view_of new)
      next_there new same there =
          subst (λ (l : List (List ℕ × V)). HasFirsts (map items (take (i + 1) xs)) (map view_of l)) (sym same)
          (subst (λ (l : List (List ℕ)). HasFirsts l (map view_of old)) next (no_more (map items (take i xs)) (items x) name is old firsts there))

      pub next_new : (new put : List (List ℕ × V)) → new ≡ put → (value : V) → bytes_of value ≡ items x → false ≡ is_some (lookup (λ key. is_eq (slice_cmp nat_cmp name key)) old)
          → ((q : List ℕ) → lookup (λ key. is_eq (slice_cmp nat_cmp q key)) put ≡ cond (is_eq (slice_cmp nat_cmp name q)) (Some value) (lookup (λ key. is_eq (slice_cmp nat_cmp q key)) old))
          → HasFirsts (map items (take (i + 1) xs)) (map view_of new)
      next_new new put same value same_bytes none updates =
          subst (λ (l : List (List ℕ × V)). HasFirsts (map items (take (i + 1) xs)) (map view_of l)) (sym same)
          (subst (λ (l : List (List ℕ)). HasFirsts l (map view_of put)) next (one_more (map items (take i xs)) (items x) name is old firsts put value same_bytes none updates))

  -- ---- entries in order are blobs in order

  abbrev keys_in : List (List ℕ × V) → List (List ℕ)
  keys_in entries = map (λ (entry : List ℕ × V). entry.0) entries

  names_are : (blobs : List BlobView) (entries : List (List ℕ × V)) → map name_and_bytes blobs ≡ map view_of entries → map (λ (blob : BlobView). blob.name) blobs ≡ keys_in entries
  names_are [] [] same = refl
  names_are [] (entry ∷ entries) same = let bad : [] ≡ view_of entry ∷ map view_of entries = same in cc
  names_are (blob ∷ blobs) [] same = let bad : name_and_bytes blob ∷ map name_and_bytes blobs ≡ [] = same in cc
  names_are (blob ∷ blobs) (entry ∷ entries) same =
      let both : name_and_bytes blob ∷ map name_and_bytes blobs ≡ view_of entry ∷ map view_of entries = same in
      let first : name_and_bytes blob ≡ view_of entry = cc in
      let rest : map name_and_bytes blobs ≡ map view_of entries = cc in
      λ j. (first j).0 ∷ names_are blobs entries rest j

  pub blobs_in_order : (blobs : List BlobView) (entries : List (List ℕ × V)) → map name_and_bytes blobs ≡ map view_of entries → IsStrictlySortedBy digest_cmp (keys_in entries) → are_in_order blobs ≡ true
  blobs_in_order blobs entries same up = ascending_blobs blobs (subst (IsStrictlySortedBy digest_cmp) (sym (names_are blobs entries same)) up)
