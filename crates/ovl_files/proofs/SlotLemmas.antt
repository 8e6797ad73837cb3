-- What workers report of names, put into slots, and the first of their stops.
use Rattle.std.proofs.Common.{◌≡◌, ◌∙◌, ◌<◌, ◌≤◌, ◌⊎◌, ◌∷◌, ◌++◌, [], ℕ, zero, suc, List, Option, Some, None, Result, Ok, Err, Vec, Global, All, arith, inl, inr, length, get_or, set, sym, ap, subst, refl, Bool, true, false, cond, ◌==◌}
use Rattle.std.specs.Prelude.{flat_map, slice_get, unwrap_or, Contains, IfSome, OnOk}
use Rattle.std.specs.List.{list_all}
use Rattle.std.specs.Option.{option_or}
use Rattle.std.specs.Ordering.{is_lt}
use Rattle.std.proofs.lemmas.Bool.{eqb-true, eqb-false}
use Rattle.std.proofs.lemmas.List.{append-nil, get_or-set_same, get_or-set_other}
use Rattle.std.proofs.lemmas.List.Concat.{flat_map-append}
use Rattle.std.proofs.lemmas.List.Elements.{Contains-append_left, Contains-push, Contains-push_cases}
use Rattle.std.proofs.lemmas.Option.{slice_get_read, unwrap_or-slice_get}
use Rattle.ovl_names.specs.Order.{ascends}
use Rattle.ovl_names.proofs.Ascending.{both, list_all-get}
use Rattle.ovl_blobs.specs.Blobs.{digest_cmp}
use Rattle.ovl_blobs.specs.declared.contents.BlobInfo.{BlobInfo}
use Rattle.ovl_files.specs.declared.faults.FileFault.{FileFault}
use Rattle.ovl_files.specs.declared.faults.FileFault.TheVariants.{Memory}
use Rattle.ovl_files.specs.declared.slots.Slots.{Slots}
use Rattle.ovl_files.specs.declared.slots.Stop.{Stop}
use Rattle.ovl_files.specs.declared.slots.Told.{Told}
use Rattle.ovl_files.specs.Faults.{IsUnread}
use Rattle.ovl_files.specs.BlobFolders.{IsInFolder, IsToldOf, told_of}
use Rattle.ovl_files.specs.Slots.{AreSlotsOf, IsAsSaid, IsFirstStop, IsShareOf, IsToldAmong, slot_at, told_at, told_by}
use Rattle.ovl_files.proofs.Lasts.{last-across, last-more}
use Rattle.ovl_files.proofs.Telling.{apart}

-- where a result is no fault, what holds of that holds
pub on_ok : {E : Type 0} (P : Type 0) (r : Result (Unit {0}) E) → ((e : E) → r ≡ Err e → ⊥) → OnOk r P → P
on_ok P (Ok x) never is = is
on_ok P (Err e) never is = absurd (never e refl)

-- ---- slots

abbrev List-of-slots : Type 0
List-of-slots = List (Option (Option BlobInfo))

abbrev at : List-of-slots → ℕ → Option (Option BlobInfo)
at slots number = unwrap_or (slice_get slots number) None

-- what is there after one more is put
slot_put : (slots : List-of-slots) (told : Told) (number : ℕ) → told.number < length slots
    → at (set slots told.number (Some told.content)) number ≡ cond (told.number == number) (Some told.content) (at slots number)
slot_put slots told number inside =
    unwrap_or-slice_get (set slots told.number (Some told.content)) number None
    ∙ (by (told.number == number) refl ∙ ap (cond (told.number == number) (Some told.content)) (sym (unwrap_or-slice_get slots number None)))
  where
    by : (b : Bool) → (told.number == number) ≡ b → get_or (set slots told.number (Some told.content)) number None ≡ cond b (Some told.content) (get_or slots number None)
    by true e =
        let same = eqb-true told.number number e in
        subst (λ n. get_or (set slots told.number (Some told.content)) n None ≡ Some told.content) same (get_or-set_same slots told.number (Some told.content) None inside)
    by false e = get_or-set_other slots told.number number (Some told.content) None (λ same. eqb-false told.number number e (sym same))

-- it is reported of the names
pub slots_more : (names : List (List ℕ)) (slots : List-of-slots) (told : Told)
    → ((number : ℕ) (content : Option BlobInfo) → at slots number ≡ Some content → IsToldAmong names (record { number = number; content = content }))
    → IsToldAmong names told → told.number < length slots
    → (number : ℕ) (content : Option BlobInfo) → at (set slots told.number (Some told.content)) number ≡ Some content → IsToldAmong names (record { number = number; content = content })
slots_more names slots told are is inside number content there =
    by (told.number == number) refl (sym (slot_put slots told number inside) ∙ there)
  where
    by : (b : Bool) → (told.number == number) ≡ b → cond b (Some told.content) (at slots number) ≡ Some content → IsToldAmong names (record { number = number; content = content })
    by true e own =
        let its : told.content ≡ content = cc in
        subst (λ k. IsToldAmong names (record { number = k; content = content })) (eqb-true told.number number e)
        (subst (λ c. IsToldAmong names (record { number = told.number; content = c })) its is)
    by false e own = are number content own

-- what is reported in these and one more is in its slot, where what is reported in these was
pub told_put : (before slots : List-of-slots) (told : List Told) (one : Told) (number : ℕ) → one.number < length slots
    → at slots number ≡ option_or (told_at told number) (at before number)
    → at (set slots one.number (Some one.content)) number ≡ option_or (told_at (told ++ one ∷ []) number) (at before number)
told_put before slots told one number inside is =
    slot_put slots one number inside
    ∙ (ap (cond (one.number == number) (Some one.content)) is
    ∙ (by (one.number == number) ∙ ap (λ o. option_or o (at before number)) (sym (last-more (λ (one : Told). one.number == number) (λ (one : Told). one.content) told one))))
  where
    by : (b : Bool) → cond b (Some one.content) (option_or (told_at told number) (at before number)) ≡ option_or (cond b (Some one.content) (told_at told number)) (at before number)
    by true = refl
    by false = refl

-- what is in the slot of a name is reported of it
pub told_there : (names : List (List ℕ)) (slots : Slots) (number : ℕ) (name : List ℕ) (found : Option (Option BlobInfo)) → AreSlotsOf names slots → number < length names → name ≡ get_or names number name
    → found ≡ slot_at slots number → IfSome found (IsToldOf name)
told_there names slots number name None are inside is found = tt
told_there names slots number name (Some content) are inside is found =
    let its = are number content (sym found) in
    let same : Some its.0 ≡ Some name = sym its.1.0 ∙ slice_get_read names (length names) number name refl inside is in
    let one : its.0 ≡ name = cc in
    subst (λ n. IsToldOf n content) one its.1.1

-- the share of one more worker
pub told_more : (shares : List (Result (Vec Told Global) Stop)) (share : Result (Vec Told Global) Stop) (number : ℕ)
    → told_at (flat_map told_by (shares ++ share ∷ [])) number ≡ option_or (told_at (told_by share) number) (told_at (flat_map told_by shares) number)
told_more shares share number =
    ap (λ told. told_at told number) (flat_map-append told_by shares (share ∷ []) ∙ ap (λ more. flat_map told_by shares ++ more) (append-nil (told_by share)))
    ∙ last-across (λ (one : Told). one.number == number) (λ (one : Told). one.content) (flat_map told_by shares) (told_by share)

-- no name is there twice
comes_later : (first name : List ℕ) (names : List (List ℕ)) (place : ℕ) → ascends digest_cmp (first ∷ names) ≡ true → Some first ≡ Some name → slice_get names place ≡ Some name → ⊥
comes_later first name names place up its later =
    let all = both {a = list_all (λ other. is_lt (digest_cmp first other)) names} {b = ascends digest_cmp names} up in
    let same : first ≡ name = cc in
    apart first name (list_all-get (λ other. is_lt (digest_cmp first other)) names place name all.0 later) same

its_number : (names : List (List ℕ)) (one other : ℕ) (name : List ℕ) → ascends digest_cmp names ≡ true → slice_get names one ≡ Some name → slice_get names other ≡ Some name → one ≡ other
its_number [] one other name up there also = let bad : None ≡ Some name = there in cc
its_number (first ∷ names) zero zero name up there also = refl
its_number (first ∷ names) zero (suc other) name up there also = absurd (comes_later first name names other up there also)
its_number (first ∷ names) (suc one) zero name up there also = absurd (comes_later first name names one up also there)
its_number (first ∷ names) (suc one) (suc other) name up there also =
    ap suc (its_number names one other name (both {a = list_all (λ other. is_lt (digest_cmp first other)) names} {b = ascends digest_cmp names} up).1 there also)

-- what is given of a name is what its slot says, if it does
pub given_is : {E : Type 0} (slot : Option (Option BlobInfo)) (result : Result (Option BlobInfo) E) (content : Option BlobInfo) → IfSome slot (λ said. result ≡ Ok said) → result ≡ Ok content
    → IfSome slot (λ said. content ≡ said)
given_is None result content given is = tt
given_is {E} (Some said) result content given is =
    let same : (◌≡◌ {A = Result (Option BlobInfo) E} (Ok content) (Ok said)) = sym is ∙ given in cc

-- what is reported of a name where its slot says that, if anything
pub as_said : (names : List (List ℕ)) (slots : Slots) (place : ℕ) (name : List ℕ) (content : Option BlobInfo) (is : IsToldOf name content) → ascends digest_cmp names ≡ true → slice_get names place ≡ Some name
    → IfSome (slot_at slots place) (λ said. content ≡ said) → IsAsSaid names slots name is.0
as_said names slots place name content is up there given number also =
    subst (λ n. IfSome (slot_at slots n) (λ said. said ≡ told_of name is.0)) (its_number names place number name up there also) (by (slot_at slots place) given)
  where
    by : (slot : Option (Option BlobInfo)) → IfSome slot (λ said. content ≡ said) → IfSome slot (λ said. said ≡ told_of name is.0)
    by None given = tt
    by (Some said) given = sym given ∙ is.1

-- ---- stops

abbrev pub Share : Type 0
Share = Result (Vec Told Global) Stop

-- the first stop of these shares, if there is one
abbrev pub FirstOf : List Share → Option Stop → Type 0
FirstOf shares None = (other : Stop) → Contains shares (Err other) → ⊥
FirstOf shares (Some stop) = IsFirstStop shares stop

module _ (shares : List Share) where
  pub first_told : (told : Vec Told Global) (first : Option Stop) → FirstOf shares first → FirstOf (shares ++ Ok told ∷ []) first
  first_told told None is = λ other inside. elim (Contains-push_cases shares (Ok told) (Err other) inside) [
    | inl earlier ↦ is other earlier
    | inr last ↦ cc
  ]
  first_told told (Some stop) is = record {
    one = Contains-append_left shares (Ok told ∷ []) (Err stop) is.one;
    least = λ other inside. elim (Contains-push_cases shares (Ok told) (Err other) inside) [
      | inl earlier ↦ is.least other earlier
      | inr last ↦ cc
    ];
  }

  least_last : (stop result other : Stop) → result.number ≤ stop.number → (◌≡◌ {A = Share} (Err stop) (Err other)) → result.number ≤ other.number
  least_last stop result other few last =
      let same : stop ≡ other = cc in
      subst (λ (s : Stop). result.number ≤ s.number) same few

  at_last : (stop result : Stop) → result ≡ stop → Contains (shares ++ Err stop ∷ []) (Err result)
  at_last stop result same = subst (λ (s : Stop). Contains (shares ++ Err stop ∷ []) (Err s)) (sym same) (Contains-push shares (Err stop))

  pub first_stop : (stop result : Stop) (first : Option Stop) → FirstOf shares first → (result ≡ stop) ⊎ (first ≡ Some result) → result.number ≤ stop.number
      → IfSome first (λ one. result.number ≤ one.number) → FirstOf (shares ++ Err stop ∷ []) (Some result)
  first_stop stop result None is one few least = record {
    one = elim one [
      | inl same ↦ at_last stop result same
      | inr bad ↦ cc
    ];
    least = λ other inside. elim (Contains-push_cases shares (Err stop) (Err other) inside) [
      | inl earlier ↦ absurd (is other earlier)
      | inr last ↦ least_last stop result other few last
    ];
  }
  first_stop stop result (Some first) is one few least = record {
    one = elim one [
      | inl same ↦ at_last stop result same
      | inr its ↦
          let same : first ≡ result = cc in
          Contains-append_left shares (Err stop ∷ []) (Err result) (subst (λ (s : Stop). Contains shares (Err s)) same is.one)
    ];
    least = λ other inside. elim (Contains-push_cases shares (Err stop) (Err other) inside) [
      | inl earlier ↦ omega (arith, least, is.least other earlier)
      | inr last ↦ least_last stop result other few last
    ];
  }

-- the fault at the first stop is one of the folder's
pub first_unread : (folder : List ℕ) (names : List (List ℕ)) (shares : List Share) (fault : FileFault) → All (IsShareOf folder names) shares
    → (fault ≡ Memory) ⊎ ((stop : Stop) × (IsFirstStop shares stop × (fault ≡ stop.fault))) → IsUnread (IsInFolder folder) fault
first_unread folder names shares fault each (inl memory) = subst (IsUnread (IsInFolder folder)) (sym memory) tt
first_unread folder names shares fault each (inr of) =
    let stop : Stop = of.0 in
    let place = of.1.0.one in
    let at : IsShareOf folder names (Err stop) = subst (IsShareOf folder names) place.2 (each place.0 (Err stop) place.1) in
    subst (IsUnread (IsInFolder folder)) (sym of.1.1) at
