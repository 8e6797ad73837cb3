-- Laws of lists of names in order, each with what belongs to it.
use Rattle.std.proofs.Common.{◌≡◌, Bool, true, false, cond, Option, Some, None, List, [], ◌∷◌, refl, sym, ap, ◌∙◌}
use Rattle.std.specs.Prelude.{◌&&◌}
use Rattle.std.specs.BTreeSet.{insert_key}
use Rattle.std.specs.List.{AllByRecursion, list_all}
use Rattle.std.specs.Map.{lookup}
use Rattle.std.specs.Option.{option_and_then, option_or}
use Rattle.std.specs.Ordering.{is_lt, match_ordering, ordering_reverse}
use Rattle.std.specs.Cmp.Lexicographic.{nat_list_cmp_total, bytes_decides}
use Rattle.std.specs.declared.cmp.Ordering.{Ordering}
use Rattle.std.specs.declared.cmp.Ordering.TheVariants.{Less, Equal, Greater}
use Rattle.ovl_names.specs.Names.{PathName, name_eq, name_cmp}
use Rattle.ovl_names.specs.Order.{ascends}
use Rattle.ovl_names.proofs.Ascending.{both, is_lt-Less, list_all-before, reversed}
use Rattle.ovl_layer.proofs.NodeLemmas.{name_eq-cmp}
use Rattle.ovl_lookup.specs.NamedLists.{AreInOrder, both_joined, names_of, put_joined}
use Rattle.ovl_names.specs.NameSets.{put_names}
use Rattle.ovl_names.proofs.LawsOfNameSets.{ascends-put}

pub or-none : {X : Type 0} (o : Option X) → option_or o None ≡ o
or-none None = refl
or-none (Some x) = refl

module _ {X : Type 0} where
  abbrev pub at : PathName → List (PathName × X) → Option X
  at name names = lookup (name_eq name) names

  -- a name comes before all of these
  abbrev pub is_before : PathName → List (PathName × X) → Bool
  is_before name names = list_all (λ later. is_lt (name_cmp name later)) (names_of names)

  pub parts : (one : PathName × X) (names : List (PathName × X)) → AreInOrder (one ∷ names) → (is_before one.0 names ≡ true) × AreInOrder names
  parts one names up = both {a = is_before one.0 names} {b = ascends name_cmp (names_of names)} up

  -- a name that comes before all isn't among them
  absent : (name : PathName) (names : List (PathName × X)) → is_before name names ≡ true → at name names ≡ None
  absent name [] before = refl
  absent name (own ∷ names) before =
      let first = both {a = is_lt (name_cmp name own.0)} {b = is_before name names} before in
      ap (λ b. cond b (Some own.1) (at name names)) (name_eq-cmp name own.0 Less (is_lt-Less (name_cmp name own.0) first.0)) ∙ absent name names first.1

  own-later : (one : PathName × X) (whole names : List (PathName × X)) → is_before one.0 names ≡ true → AllByRecursion (λ own. at own.0 whole ≡ Some own.1) names → AllByRecursion (λ own. at own.0 (one ∷ whole) ≡ Some own.1) names
  own-later one whole [] before all = tt
  own-later one whole (own ∷ names) before all =
      let first = both {a = is_lt (name_cmp one.0 own.0)} {b = is_before one.0 names} before in
      (ap (λ b. cond b (Some one.1) (at own.0 whole)) (name_eq-cmp own.0 one.0 Greater (reversed nat_list_cmp_total one.0 own.0 first.0)) ∙ all.0, own-later one whole names first.1 all.1)

  -- in order, each is what is at its name
  pub each-own : (names : List (PathName × X)) → AreInOrder names → AllByRecursion (λ own. at own.0 names ≡ Some own.1) names
  each-own [] up = tt
  each-own (one ∷ names) up =
      let first = parts one names up in
      (ap (λ b. cond b (Some one.1) (at one.0 names)) ((bytes_decides one.0 one.0).1 refl), own-later one names names first.0 (each-own names first.1))

module _ {X : Type 0} (joined : X → X → X) where
  -- ---- the names of two lists in one

  names_of-put : (names : List (PathName × X)) (new : PathName × X) → names_of (put_joined joined names new) ≡ insert_key name_cmp (names_of names) new.0
  names_of-put [] new = refl
  names_of-put (own ∷ names) new = by (name_cmp new.0 own.0) (names_of-put names new)
    where
      by : (o : Ordering) → names_of (put_joined joined names new) ≡ insert_key name_cmp (names_of names) new.0
          → names_of (match_ordering o (new ∷ own ∷ names) ((own.0, joined own.1 new.1) ∷ names) (own ∷ put_joined joined names new)) ≡ match_ordering o (new.0 ∷ own.0 ∷ names_of names) (own.0 ∷ names_of names) (own.0 ∷ insert_key name_cmp (names_of names) new.0)
      by Less later = refl
      by Equal later = refl
      by Greater later = ap (λ (ns : List PathName). own.0 ∷ ns) later

  pub names_of-both : (one other : List (PathName × X)) → names_of (both_joined joined one other) ≡ put_names (names_of one) (names_of other)
  names_of-both one [] = refl
  names_of-both one (new ∷ more) = names_of-both (put_joined joined one new) more ∙ ap (λ (ns : List PathName). put_names ns (names_of more)) (names_of-put one new)

  pub both-ascend : (one other : List (PathName × X)) → AreInOrder one → AreInOrder (both_joined joined one other)
  both-ascend one other up = ap (ascends name_cmp) (names_of-both one other) ∙ ascends-put (names_of one) (names_of other) up

  -- ---- what belongs to a name then: a part that is joined as of two that may be missing

  module _ {Z : Type 0} (part : X → Option Z) (is : (x y : X) → part (joined x y) ≡ option_or (part x) (part y)) (q : PathName) where
    abbrev pub part_at : List (PathName × X) → Option Z
    part_at names = option_and_then part (at q names)

    abbrev if_at : Bool → X → Option X → Option Z
    if_at b x later = option_and_then part (cond b (Some x) later)

    put-at : (names : List (PathName × X)) (new : PathName × X) → AreInOrder names → part_at (put_joined joined names new) ≡ option_or (part_at names) (if_at (name_eq q new.0) new.1 None)
    put-at [] new up = refl
    put-at (own ∷ names) new up = by (name_cmp new.0 own.0) refl (put-at names new rest.1)
      where
        rest : (is_before own.0 names ≡ true) × AreInOrder names
        rest = parts own names up

        -- it comes before all
        front : is_lt (name_cmp new.0 own.0) ≡ true → (b : Bool) → name_eq q new.0 ≡ b → if_at b new.1 (at q (own ∷ names)) ≡ option_or (part_at (own ∷ names)) (if_at b new.1 None)
        front before true e =
            let ahead : is_before new.0 (own ∷ names) ≡ true = (λ j. before j && list_all-before nat_list_cmp_total new.0 own.0 (names_of names) before rest.0 j) in
            let none : part_at (own ∷ names) ≡ None = ap (λ (n : PathName). option_and_then part (at n (own ∷ names))) ((bytes_decides q new.0).0 e) ∙ ap (option_and_then part) (absent new.0 (own ∷ names) ahead) in
            sym (ap (λ (o : Option Z). option_or o (part new.1)) none)
        front before false e = sym (or-none (part_at (own ∷ names)))

        -- it is there
        there : name_eq new.0 own.0 ≡ true → (b : Bool) → name_eq q own.0 ≡ b → if_at b (joined own.1 new.1) (at q names) ≡ option_or (if_at b own.1 (at q names)) (if_at (name_eq q new.0) new.1 None)
        there same b e = (λ j. if_at b (joined own.1 new.1) (at q names)) ∙ by-own b ∙ ap (λ (c : Bool). option_or (if_at b own.1 (at q names)) (if_at c new.1 None)) (sym (ap (name_eq q) ((bytes_decides new.0 own.0).0 same) ∙ e))
          where
            by-own : (b : Bool) → if_at b (joined own.1 new.1) (at q names) ≡ option_or (if_at b own.1 (at q names)) (if_at b new.1 None)
            by-own true = is own.1 new.1
            by-own false = sym (or-none (part_at names))

        -- it comes later
        behind : name_eq own.0 new.0 ≡ false → part_at (put_joined joined names new) ≡ option_or (part_at names) (if_at (name_eq q new.0) new.1 None) → (b : Bool) → name_eq q own.0 ≡ b
            → if_at b own.1 (at q (put_joined joined names new)) ≡ option_or (if_at b own.1 (at q names)) (if_at (name_eq q new.0) new.1 None)
        behind apart later true e =
            let other : name_eq q new.0 ≡ false = ap (λ (n : PathName). name_eq n new.0) ((bytes_decides q own.0).0 e) ∙ apart in
            sym (ap (λ (c : Bool). option_or (part own.1) (if_at c new.1 None)) other ∙ or-none (part own.1))
        behind apart later false e = later

        by : (o : Ordering) → name_cmp new.0 own.0 ≡ o → part_at (put_joined joined names new) ≡ option_or (part_at names) (if_at (name_eq q new.0) new.1 None)
            → part_at (match_ordering o (new ∷ own ∷ names) ((own.0, joined own.1 new.1) ∷ names) (own ∷ put_joined joined names new)) ≡ option_or (part_at (own ∷ names)) (if_at (name_eq q new.0) new.1 None)
        by Less e later = front (ap is_lt e) (name_eq q new.0) refl
        by Equal e later = there (name_eq-cmp new.0 own.0 Equal e) (name_eq q own.0) refl
        by Greater e later = behind (name_eq-cmp own.0 new.0 Less (nat_list_cmp_total.antisymm own.0 new.0 ∙ ap ordering_reverse e)) later (name_eq q own.0) refl

    pub both-at : (one other : List (PathName × X)) → AreInOrder one → AreInOrder other → part_at (both_joined joined one other) ≡ option_or (part_at one) (part_at other)
    both-at one [] up also = sym (or-none (part_at one))
    both-at one (new ∷ more) up also =
        both-at (put_joined joined one new) more (both-ascend one (new ∷ []) up) rest.1
        ∙ (ap (λ (o : Option Z). option_or o (part_at more)) (put-at one new up)
        ∙ by (name_eq q new.0) refl)
      where
        rest : (is_before new.0 more ≡ true) × AreInOrder more
        rest = parts new more also

        or-or : (a b c : Option Z) → option_or (option_or a b) c ≡ option_or a (option_or b c)
        or-or None b c = refl
        or-or (Some x) b c = refl

        by : (b : Bool) → name_eq q new.0 ≡ b → option_or (option_or (part_at one) (if_at b new.1 None)) (part_at more) ≡ option_or (part_at one) (if_at b new.1 (at q more))
        by true e =
            let none : part_at more ≡ None = ap (λ (n : PathName). option_and_then part (at n more)) ((bytes_decides q new.0).0 e) ∙ ap (option_and_then part) (absent new.0 more rest.0) in
            ap (option_or (option_or (part_at one) (part new.1))) none ∙ or-none (option_or (part_at one) (part new.1))
        by false e = or-or (part_at one) None (part_at more)

  -- ---- of the first names of both, the lesser is next

  both-after : (own : PathName × X) (names more : List (PathName × X)) → is_before own.0 more ≡ true → both_joined joined (own ∷ names) more ≡ own ∷ both_joined joined names more
  both-after own names [] before = refl
  both-after own names (new ∷ more) before =
      let first = both {a = is_lt (name_cmp own.0 new.0)} {b = is_before own.0 more} before in
      ap (λ (o : Ordering). both_joined joined (match_ordering o (new ∷ own ∷ names) ((own.0, joined own.1 new.1) ∷ names) (own ∷ put_joined joined names new)) more) (reversed nat_list_cmp_total own.0 new.0 first.0)
      ∙ both-after own (put_joined joined names new) more first.1

  module _ (own : PathName × X) (names : List (PathName × X)) (new : PathName × X) (more : List (PathName × X)) (up : AreInOrder (new ∷ more)) where
    by-next : (o : Ordering) → name_cmp own.0 new.0 ≡ o → both_joined joined (own ∷ names) (new ∷ more) ≡ both_joined joined (match_ordering (ordering_reverse o) (new ∷ own ∷ names) ((own.0, joined own.1 new.1) ∷ names) (own ∷ put_joined joined names new)) more
    by-next o e = ap (λ (p : Ordering). both_joined joined (match_ordering p (new ∷ own ∷ names) ((own.0, joined own.1 new.1) ∷ names) (own ∷ put_joined joined names new)) more) (nat_list_cmp_total.antisymm new.0 own.0 ∙ ap ordering_reverse e)

    pub both-next : (o : Ordering) → name_cmp own.0 new.0 ≡ o
        → both_joined joined (own ∷ names) (new ∷ more) ≡ match_ordering o (own ∷ both_joined joined names (new ∷ more)) ((own.0, joined own.1 new.1) ∷ both_joined joined names more) (new ∷ both_joined joined (own ∷ names) more)
    both-next Less e =
        let before : is_lt (name_cmp own.0 new.0) ≡ true = ap is_lt e in
        both-after own names (new ∷ more) (λ j. before j && list_all-before nat_list_cmp_total own.0 new.0 (names_of more) before (parts new more up).0 j)
    both-next Equal e =
        let same : own.0 ≡ new.0 = (bytes_decides own.0 new.0).0 (name_eq-cmp own.0 new.0 Equal e) in
        by-next Equal e ∙ both-after (own.0, joined own.1 new.1) names more (ap (λ (n : PathName). is_before n more) same ∙ (parts new more up).0)
    both-next Greater e = by-next Greater e ∙ both-after new (own ∷ names) more (parts new more up).0

  pub both-none : (other : List (PathName × X)) → AreInOrder other → both_joined joined [] other ≡ other
  both-none [] up = refl
  both-none (new ∷ more) up =
      let rest = parts new more up in
      both-after new [] more rest.0 ∙ ap (λ (names : List (PathName × X)). new ∷ names) (both-none more rest.1)
