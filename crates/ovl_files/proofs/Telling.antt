-- Contents that are given name by name.
use Rattle.std.proofs.Common.{◌≡◌, ◌∙◌, ◌<◌, ◌+◌, ℕ, Bool, true, false, cond, inl, inr, Option, Some, None, Result, Ok, Err, Vec, Global, List, [], ◌∷◌, ◌++◌, refl, sym, ap, subst, Contains, get_or, length, take, drop}
use Rattle.std.specs.Prelude.{IfOk}
use Rattle.std.specs.List.{list_all}
use Rattle.std.specs.Option.{option_map, option_or}
use Rattle.std.specs.Str.{bytes_eq}
use Rattle.std.specs.Ordering.{is_lt}
use Rattle.std.specs.Cmp.Lexicographic.{nat_list_cmp_total, bytes_decides}
use Rattle.std.specs.declared.cmp.Ordering.TheVariants.{Less, Equal}
use Rattle.std.proofs.lemmas.Cmp.{tied_itself}
use Rattle.std.proofs.lemmas.List.{map-append, take_more, take-append-drop}
use Rattle.std.proofs.lemmas.List.Folds.{find-append}
use Rattle.std.proofs.lemmas.List.Elements.{All-nil, All-push, Contains-append_left, Contains-append_right, Contains-push_cases}
use Rattle.ovl_names.specs.Order.{ascends}
use Rattle.ovl_names.proofs.Ascending.{ascends-across, ascends-more, both, is_lt-Less, list_all-front}
use Rattle.ovl_board.proofs.LawsOfMembers.{Every, Every-All, Contains-In, In-Contains, In-map}
use Rattle.ovl_blobs.specs.declared.contents.BlobInfo.{BlobInfo}
use Rattle.ovl_blobs.specs.Blobs.{BlobView, digest_cmp, find_blob}
use Rattle.ovl_blobs.specs.Contents.{AreTold, bytes_named, content_cmp, content_of}
use Rattle.ovl_files.specs.BlobFolders.{IsToldOf, anything, told_of}

-- a test that all elements pass
each_passes : {X : Type 0} (test : X → Bool) (xs : List X) → list_all test xs ≡ true → Every (λ x. test x ≡ true) xs
each_passes test [] all x h = absurd h
each_passes test (y ∷ xs) all x (inl e) = ap test e ∙ (both {a = test y} {b = list_all test xs} all).0
each_passes test (y ∷ xs) all x (inr h) = each_passes test xs (both {a = test y} {b = list_all test xs} all).1 x h

all_pass : {X : Type 0} (test : X → Bool) (xs : List X) → Every (λ x. test x ≡ true) xs → list_all test xs ≡ true
all_pass test [] each = refl
all_pass test (y ∷ xs) each = rw (each y (inl refl)) (all_pass test xs (λ x h. each x (inr h)))

pub apart : (one other : List ℕ) → is_lt (digest_cmp one other) ≡ true → one ≡ other → ⊥
apart one other before same =
    let bad : Less ≡ Equal = sym (is_lt-Less (digest_cmp one other) before) ∙ (ap (digest_cmp one) (sym same) ∙ tied_itself nat_list_cmp_total one) in cc

unlike : (one other : List ℕ) → (one ≡ other → ⊥) → bytes_eq one other ≡ false
unlike one other differ = by (bytes_eq one other) refl
  where
    by : (b : Bool) → bytes_eq one other ≡ b → b ≡ false
    by true e = absurd (differ ((bytes_decides one other).0 e))
    by false e = refl

-- ---- a blob after others

none_found : (blobs : List BlobView) (name : List ℕ) → Every (λ blob. bytes_eq blob.name name ≡ false) blobs → find_blob blobs name ≡ None
none_found [] name each = refl
none_found (first ∷ blobs) name each =
    ap (λ b. cond b (Some first) (find_blob blobs name)) (each first (inl refl)) ∙ none_found blobs name (λ b h. each b (inr h))

or_none : {X : Type 0} (o : Option X) → option_or o None ≡ o
or_none None = refl
or_none (Some x) = refl

abbrev one_more : List BlobView → List ℕ → List ℕ → List BlobView
one_more blobs name bytes = blobs ++ record { name = name; bytes = bytes } ∷ []

module _ (blobs : List BlobView) (name bytes : List ℕ) where
  abbrev Is : List ℕ → BlobView → Bool
  Is other blob = bytes_eq blob.name other

  -- the blobs of other names stay
  others_stay : (other : List ℕ) → (name ≡ other → ⊥) → bytes_named (one_more blobs name bytes) other ≡ bytes_named blobs other
  others_stay other differ =
      ap (option_map (λ (blob : BlobView). blob.bytes))
      (find-append (Is other) blobs _
      ∙ (ap (λ b. option_or (find_blob blobs other) (cond b (Some (record { name = name; bytes = bytes })) None)) (unlike name other differ)
      ∙ or_none (find_blob blobs other)))

  -- its own is found where no other has its name
  own_found : find_blob blobs name ≡ None → bytes_named (one_more blobs name bytes) name ≡ Some bytes
  own_found none =
      ap (option_map (λ (blob : BlobView). blob.bytes))
      (find-append (Is name) blobs _
      ∙ (ap (λ o. option_or o (cond (bytes_eq name name) (Some (record { name = name; bytes = bytes })) None)) none
      ∙ ap (λ b. option_or None (cond b (Some (record { name = name; bytes = bytes })) None)) ((bytes_decides name name).1 refl)))

-- of no names nothing is reported
pub nothing_told : (may_be : List ℕ → Option (List ℕ) → Type 0) → AreTold may_be [] []
nothing_told may_be = record {
  blobs = [];
  contents = refl;
  ascend = refl;
  asked = All-nil _;
  each = λ name inside. absurd (In-Contains name [] inside);
}

-- ---- one more name

module _ (may_be : List ℕ → Option (List ℕ) → Type 0) (names : List (List ℕ)) (name : List ℕ) (up : ascends digest_cmp (names ++ name ∷ []) ≡ true) (told : List BlobInfo) (are : AreTold may_be names told) where
  before : (other : List ℕ) → Contains names other → is_lt (digest_cmp other name) ≡ true
  before other inside =
      each_passes (λ (x : List ℕ). is_lt (digest_cmp x name)) names (ascends-across digest_cmp names name [] up) other (In-Contains other names inside)

  each_asked : Every (λ content. Contains names content.name) told
  each_asked = Every-All (λ content. Contains names content.name) told are.asked

  new : find_blob are.blobs name ≡ None
  new = none_found are.blobs name (λ blob h.
      let asked = subst (Every (λ (content : BlobInfo). Contains names content.name)) are.contents each_asked in
      unlike blob.name name (apart blob.name name (before blob.name (asked (content_of blob) (In-map content_of blob are.blobs h)))))

  still_asked : (other : List ℕ) → Contains names other → Contains (names ++ name ∷ []) other
  still_asked other inside = Contains-append_left names (name ∷ []) other inside

  -- the next name has no blob
  told_nothing : may_be name None → AreTold may_be (names ++ name ∷ []) told
  told_nothing holds = record {
    blobs = are.blobs;
    contents = are.contents;
    ascend = are.ascend;
    asked = λ k d inside. still_asked _ (are.asked k d inside);
    each = λ other inside. elim (Contains-push_cases names name other inside) [
      | inl earlier ↦ are.each other earlier
      | inr last ↦ subst (λ n. may_be n (bytes_named are.blobs n)) last (subst (may_be name) (sym (ap (option_map (λ (blob : BlobView). blob.bytes)) new)) holds)
    ];
  }

  -- the next name has a blob of these bytes
  told_content : (bytes : List ℕ) → may_be name (Some bytes) → AreTold may_be (names ++ name ∷ []) (told ++ content_of (record { name = name; bytes = bytes }) ∷ [])
  told_content bytes holds =
      let blob : BlobView = record { name = name; bytes = bytes } in
      record {
        blobs = one_more are.blobs name bytes;
        contents = ap (λ contents. contents ++ content_of blob ∷ []) are.contents ∙ sym (map-append content_of are.blobs (blob ∷ []));
        ascend = ascends-more content_cmp told (content_of blob) are.ascend
            (all_pass (λ (content : BlobInfo). is_lt (digest_cmp content.name name)) told (λ content h. before content.name (each_asked content h)));
        asked = All-push (λ (content : BlobInfo). Contains (names ++ name ∷ []) content.name) told (content_of blob) (λ k d inside. still_asked _ (are.asked k d inside))
            (Contains-append_right names (name ∷ []) name (Contains-In name (name ∷ []) (inl refl)));
        each = λ other inside. elim (Contains-push_cases names name other inside) [
          | inl earlier ↦ subst (may_be other) (sym (others_stay are.blobs name bytes other (λ same. apart other name (before other earlier) (sym same)))) (are.each other earlier)
          | inr last ↦ subst (λ n. may_be n (bytes_named (one_more are.blobs name bytes) n)) last (subst (may_be name) (sym (own_found are.blobs name bytes new)) holds)
        ];
      }

pub not_some : {X : Type 0} → (found : Option X) → ((x : X) → found ≡ Some x → ⊥) → found ≡ None
not_some None never = refl
not_some (Some x) never = absurd (never x refl)

-- the front of a list in order
ascends_front : (xs ys : List (List ℕ)) → ascends digest_cmp (xs ++ ys) ≡ true → ascends digest_cmp xs ≡ true
ascends_front [] ys up = refl
ascends_front (x ∷ xs) ys up =
    let parts = both {a = list_all (λ later. is_lt (digest_cmp x later)) (xs ++ ys)} {b = ascends digest_cmp (xs ++ ys)} up in
    rw ((list_all-front (λ later. is_lt (digest_cmp x later)) xs ys parts.0).0) (ascends_front xs ys parts.1)

module _ (may_be : List ℕ → Option (List ℕ) → Type 0) (names : List (List ℕ)) (place : ℕ) (name : List ℕ) (told : List BlobInfo) (up : ascends digest_cmp names ≡ true) (inside : place < length names)
    (is : name ≡ get_or names place name) (are : AreTold may_be (take place names) told) where
  more : take (place + 1) names ≡ take place names ++ name ∷ []
  more = take_more names place name inside ∙ ap (λ n. take place names ++ n ∷ []) (sym is)

  rising : ascends digest_cmp (take place names ++ name ∷ []) ≡ true
  rising = subst (λ ns. ascends digest_cmp ns ≡ true) more
      (ascends_front (take (place + 1) names) (drop (place + 1) names) (subst (λ ns. ascends digest_cmp ns ≡ true) (sym (take-append-drop (place + 1) names)) up))

  -- the next name has a content
  pub told_some : (content : BlobInfo) (is : IsToldOf name (Some content)) → may_be name is.0 → AreTold may_be (take (place + 1) names) (told ++ content ∷ [])
  told_some content is holds = subst (λ ns. AreTold may_be ns (told ++ content ∷ [])) (sym more) (by is.0 is.1 holds)
    where
      by : (held : Option (List ℕ)) → Some content ≡ told_of name held → may_be name held → AreTold may_be (take place names ++ name ∷ []) (told ++ content ∷ [])
      by None same holds = cc
      by (Some bytes) same holds =
          let its : content ≡ content_of (record { name = name; bytes = bytes }) = cc in
          rw its (told_content may_be (take place names) name rising told are bytes holds)

  -- it has none
  pub told_none : (is : IsToldOf name None) → may_be name is.0 → AreTold may_be (take (place + 1) names) told
  told_none is holds = subst (λ ns. AreTold may_be ns told) (sym more) (by is.0 is.1 holds)
    where
      by : (held : Option (List ℕ)) → None ≡ told_of name held → may_be name held → AreTold may_be (take place names ++ name ∷ []) told
      by None same holds = told_nothing may_be (take place names) name rising told are holds
      by (Some bytes) same holds = cc

-- what is reported, whatever may be there
pub told_anyhow : {E : Type 0} (may_be : List ℕ → Option (List ℕ) → Type 0) (names : List (List ℕ)) (result : Result (Vec BlobInfo Global) E)
    → IfOk result (λ told. AreTold may_be names told.items) → IfOk result (λ told. AreTold anything names told.items)
told_anyhow may_be names (Ok told) are =
    record { blobs = are.blobs; contents = are.contents; ascend = are.ascend; asked = are.asked; each = λ name inside. tt }
told_anyhow may_be names (Err fault) are = tt
