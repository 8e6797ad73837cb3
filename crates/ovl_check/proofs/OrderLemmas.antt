-- The order of findings: by layer, then by path, then by code.
use Rattle.std.proofs.Common.{◌≡◌, ℕ, zero, suc, ◌+◌, ◌<◌, ◌≤◌, inl, inr, Bool, true, Some, List, [], ◌∷◌, ◌++◌, map, refl, sym, ap, ◌∙◌, subst, arith}
use Rattle.std.specs.Prelude.{◌&&◌, filter, length, unwrap_or}
use Rattle.std.specs.List.{All, slice_get}
use Rattle.std.specs.Ordering.{is_lt, nat_cmp, ordering_then, ordering_reverse, MatchOrdering, eq_by_cmp}
use Rattle.std.specs.Cmp.{IsTotalOrder, IsEquivalence}
use Rattle.std.specs.Cmp.Lexicographic.{nat_list_cmp_total, lists_total}
use Rattle.std.specs.FinMap.{nat_cmp-IsAntisymmetric}
use Rattle.std.specs.declared.cmp.Ordering.{Ordering}
use Rattle.std.specs.declared.cmp.Ordering.TheVariants.{Less, Equal, Greater}
use Rattle.std.proofs.lemmas.Cmp.{tied_itself, nat_cmp_total, ranked}
use Rattle.ovl_names.specs.Paths.{PathNames, path_cmp}
use Rattle.ovl_layer.specs.Layers.{Entries, Entry, IsLayer, entry_cmp}
use Rattle.ovl_lookup.specs.Stacks.{StackView}
use Rattle.ovl_lookup.proofs.LawsOfPaths.{all-first, all-rest}
use Rattle.ovl_board.proofs.LawsOfMembers.{In, Rises, Rises-append, Rises-flat_map, In-cases, In-map-cases, In-flat_map-cases, Rises-filter}
use Rattle.ovl_check.specs.declared.findings.Finding.{Finding}
use Rattle.ovl_check.specs.declared.findings.Code.{Code}
use Rattle.ovl_check.specs.declared.findings.Code.TheVariants.{RedirectForm}
use Rattle.ovl_check.specs.contracts.findings.FindingOrd.TheImpl as finding_ord
use Rattle.ovl_check.specs.contracts.findings.CodeOrd.TheImpl as code_ord
use Rattle.ovl_check.specs.contracts.findings.FindingOrd.TheImpl.Laws as finding_laws
use Rattle.ovl_check.specs.contracts.findings.CodeOrd.TheImpl.Laws as code_laws
use Rattle.ovl_check.specs.contracts.findings.FindingPartialEq.TheImpl as finding_partial_eq
use Rattle.ovl_check.specs.contracts.findings.FindingEq.TheImpl.Laws as finding_eq_laws
use Rattle.ovl_check.specs.Codes.{all_codes, is_blob_fault}
use Rattle.ovl_blobs.specs.declared.contents.BlobInfo.{BlobInfo}
use Rattle.ovl_check.specs.Findings.{finding, any_code}
use Rattle.ovl_check.specs.Contents.{holds_of_contents as holds, findings_of_contents_at as findings_at, findings_of_contents_in as findings_in, data_findings_of_contents_from as data_findings_from, findings_of_contents_from as findings_from}
use Rattle.ovl_blobs.proofs.Ascent.{Rises-ascends}
use Rattle.ovl_check.proofs.DoubleLemmas.{same_path, equal}

abbrev pub finding_cmp : Finding → Finding → Ordering
finding_cmp = finding_ord.ghosts.cmp

abbrev pub code_cmp : Code → Code → Ordering
code_cmp = code_ord.ghosts.cmp

pub finding_total : IsTotalOrder finding_cmp
finding_total = finding_laws.total-law

-- ---- findings that compare alike are one

-- how many codes come before it
abbrev place_of : Code → ℕ
place_of code = length (filter (λ c. is_lt (code_cmp c code)) all_codes)

at_its_place : (code : Code) → slice_get all_codes (place_of code) ≡ Some code
at_its_place RedirectForm = refl
at_its_place _ = refl

placed : (x : Code) (xs : List Code) (i : ℕ) → slice_get xs i ≡ Some x → In x xs
placed x [] i e = absurd (cc)
placed x (y ∷ xs) zero e = inl (ap (λ o. unwrap_or o x) (sym e))
placed x (y ∷ xs) (suc i) e = inr (placed x xs i e)

listed : (code : Code) → In code all_codes
listed code = placed code all_codes (place_of code) (at_its_place code)

codes-rise : Rises (λ a b. code_cmp a b ≡ Less) all_codes
codes-rise = Rises-ascends code_cmp all_codes refl

listed_exact : (codes : List Code) → Rises (λ a b. code_cmp a b ≡ Less) codes → (a b : Code) → In a codes → In b codes → code_cmp a b ≡ Equal → a ≡ b
listed_exact [] up a b h k is = absurd h
listed_exact (first ∷ codes) up a b (inl e) (inl f) is = e ∙ sym f
listed_exact (first ∷ codes) up a b (inl e) (inr k) is = let bad : Less ≡ Equal = sym (up.0 b k) ∙ (ap (λ x. code_cmp x b) (sym e) ∙ is) in absurd (cc)
listed_exact (first ∷ codes) up a b (inr h) (inl f) is =
    let bad : Less ≡ Equal = sym (up.0 a h) ∙ (ap (λ x. code_cmp x a) (sym f) ∙ (code_laws.total-law.antisymm b a ∙ ap ordering_reverse is)) in absurd (cc)
listed_exact (first ∷ codes) up a b (inr h) (inr k) is = listed_exact codes up.1 a b h k is

then_equal : (r s : Ordering) → ordering_then r s ≡ Equal → (r ≡ Equal) × (s ≡ Equal)
then_equal Less s e = absurd (cc)
then_equal Equal s e = (refl, e)
then_equal Greater s e = absurd (cc)

pub finding_exact : (a b : Finding) → finding_cmp a b ≡ Equal → a ≡ b
finding_exact a b is =
    let one = then_equal (nat_cmp a.layer b.layer) (ordering_then (path_cmp a.path b.path) (code_cmp a.code b.code)) is in
    let two = then_equal (path_cmp a.path b.path) (code_cmp a.code b.code) one.1 in
    (λ j. record {
      layer = nat_cmp-IsAntisymmetric a.layer b.layer one.0 j;
      path = same_path a.path b.path two.0 j;
      code = listed_exact all_codes codes-rise a.code b.code (listed a.code) (listed b.code) two.1 j;
    })

-- ---- the definition's findings ascend

abbrev pub FindingBefore : Finding → Finding → Type 0
FindingBefore a b = finding_cmp a b ≡ Less

same_number : (n : ℕ) → nat_cmp n n ≡ Equal
same_number n = tied_itself nat_cmp_total n

Rises-weaker : {X : Type 0} (P Q : X → X → Type 0) → ((a b : X) → P a b → Q a b) → (xs : List X) → Rises P xs → Rises Q xs
Rises-weaker P Q f [] up = tt
Rises-weaker P Q f (x ∷ xs) up = ((λ y h. f x y (up.0 y h)), Rises-weaker P Q f xs up.1)

codes-map : (i : ℕ) (path : PathNames) (codes : List Code) → Rises (λ a b. code_cmp a b ≡ Less) codes → Rises FindingBefore (map (finding i path) codes)
codes-map i path [] up = tt
codes-map i path (code ∷ codes) up = (
  (λ f h.
      let other = In-map-cases (finding i path) f codes h in
      subst (FindingBefore (finding i path code)) (sym other.1.1)
      (λ j. ordering_then (same_number i j) (ordering_then (tied_itself (lists_total nat_list_cmp_total) path j) (up.0 other.0 other.1.0 j)))),
  codes-map i path codes up.1,
)

module _ (sought : Code → Bool) (contents : List BlobInfo) where
  abbrev stands : Entries → StackView → Entry → Code → Bool
  stands layer below entry code = sought code && holds contents layer below entry code

  in-rise : (i : ℕ) (layer : Entries) (below : StackView) → Rises (λ a b. entry_cmp a b ≡ Less) layer → Rises FindingBefore (findings_in sought contents i layer below)
  in-rise i layer below up =
      Rises-flat_map (findings_at sought contents i layer below) FindingBefore layer
      (λ e h. codes-map i e.0 (filter (stands layer below e) all_codes) (Rises-filter (λ a b. code_cmp a b ≡ Less) (stands layer below e) all_codes codes-rise))
      (Rises-weaker (λ a b. entry_cmp a b ≡ Less) (λ a b. (y z : Finding) → In y (findings_at sought contents i layer below a) → In z (findings_at sought contents i layer below b) → FindingBefore y z)
      (λ a b less y z h k.
      let one = In-map-cases (finding i a.0) y (filter (stands layer below a) all_codes) h in
      let other = In-map-cases (finding i b.0) z (filter (stands layer below b) all_codes) k in
      subst (λ x. FindingBefore x z) (sym one.1.1) (subst (FindingBefore (finding i a.0 one.0)) (sym other.1.1)
      (λ j. ordering_then (same_number i j) (ordering_then (less j) (code_cmp one.0 other.0)))))
      layer up)

  in-layer : (i : ℕ) (layer : Entries) (below : StackView) (f : Finding) → In f (findings_in sought contents i layer below) → f.layer ≡ i
  in-layer i layer below f h =
      let e = In-flat_map-cases (findings_at sought contents i layer below) f layer h in
      let one = In-map-cases (finding i e.0.0) f (filter (stands layer below e.0) all_codes) e.2 in
      ap (λ (x : Finding). x.layer) one.1.1

less_number : (m n : ℕ) → m < n → nat_cmp m n ≡ Less
less_number m n lt = by (nat_cmp m n) refl (ranked m n (nat_cmp m n) refl)
  where
    by : (o : Ordering) → nat_cmp m n ≡ o → MatchOrdering o (m < n) (m ≡ n) (n < m) → o ≡ Less
    by Less e r = refl
    by Equal e r = absurd (omega (arith, r, lt))
    by Greater e r = absurd (omega (arith, r, lt))

-- the findings of a layer before those of later ones
joined : (i : ℕ) (own more : List Finding) → Rises FindingBefore own → Rises FindingBefore more → ((f : Finding) → In f own → f.layer ≡ i) → ((f : Finding) → In f more → i + 1 ≤ f.layer) → Rises FindingBefore (own ++ more)
joined i own more up later here there =
    Rises-append FindingBefore own more up later
    (λ f g h k. ap (λ o. ordering_then o (ordering_then (path_cmp f.path g.path) (code_cmp f.code g.code)))
    (less_number f.layer g.layer (omega (arith, here f h, there g k))))

module _ (contents : List BlobInfo) (stack : StackView) where
  from-deep : (i : ℕ) (layers : List Entries) (f : Finding) → In f (data_findings_from contents stack i layers) → i ≤ f.layer
  from-deep i [] f h = absurd h
  from-deep i (layer ∷ layers) f h = elim (In-cases f (findings_in is_blob_fault contents i layer (record stack { layers = [] })) (data_findings_from contents stack (i + 1) layers) h) [
    | inl own ↦ omega (arith, in-layer is_blob_fault contents i layer (record stack { layers = [] }) f own)
    | inr more ↦ omega (arith, from-deep (i + 1) layers f more)
  ]

  from-layer : (i : ℕ) (layers : List Entries) (f : Finding) → In f (findings_from contents stack i layers) → i ≤ f.layer
  from-layer i [] f h = from-deep i stack.data_only f h
  from-layer i (layer ∷ layers) f h = elim (In-cases f (findings_in any_code contents i layer (record stack { layers = layers })) (findings_from contents stack (i + 1) layers) h) [
    | inl own ↦ omega (arith, in-layer any_code contents i layer (record stack { layers = layers }) f own)
    | inr more ↦ omega (arith, from-layer (i + 1) layers f more)
  ]

  deep-rise : (i : ℕ) (layers : List Entries) → All IsLayer layers → Rises FindingBefore (data_findings_from contents stack i layers)
  deep-rise i [] each = tt
  deep-rise i (layer ∷ layers) each =
      joined i (findings_in is_blob_fault contents i layer (record stack { layers = [] })) (data_findings_from contents stack (i + 1) layers)
      (in-rise is_blob_fault contents i layer (record stack { layers = [] }) (Rises-ascends entry_cmp layer (all-first IsLayer layer layers each).in_order))
      (deep-rise (i + 1) layers (all-rest IsLayer layer layers each))
      (in-layer is_blob_fault contents i layer (record stack { layers = [] })) (from-deep (i + 1) layers)

  pub from-rise : (i : ℕ) (layers : List Entries) → All IsLayer layers → All IsLayer stack.data_only → Rises FindingBefore (findings_from contents stack i layers)
  from-rise i [] each deep = deep-rise i stack.data_only deep
  from-rise i (layer ∷ layers) each deep =
      joined i (findings_in any_code contents i layer (record stack { layers = layers })) (findings_from contents stack (i + 1) layers)
      (in-rise any_code contents i layer (record stack { layers = layers }) (Rises-ascends entry_cmp layer (all-first IsLayer layer layers each).in_order))
      (from-rise (i + 1) layers (all-rest IsLayer layer layers each) deep)
      (in-layer any_code contents i layer (record stack { layers = layers })) (from-layer (i + 1) layers)

-- ---- the test of equality goes by the order

abbrev pub finding_eq : Finding → Finding → Bool
finding_eq = finding_partial_eq.ghosts.eq

pub finding_ties : (a b : Finding) → finding_eq a b ≡ eq_by_cmp finding_cmp a b
finding_ties = finding_laws.matches_eq-law

pub finding_equiv : IsEquivalence finding_eq
finding_equiv = finding_eq_laws.laws-law

pub finding_eq-exact : (a b : Finding) → finding_eq a b ≡ true → a ≡ b
finding_eq-exact a b is = finding_exact a b (equal (finding_cmp a b) (sym (finding_ties a b) ∙ is))
