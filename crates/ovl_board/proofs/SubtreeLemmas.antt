-- The part of ascending paths that lies under a directory has all its children.
use Rattle.std.proofs.Common.{◌≡◌, ℕ, ◌+◌, ◌<◌, Bool, true, false, cond, ◌⊎◌, inl, inr, List, [], ◌∷◌, ◌++◌, length, get_or, take, drop, filter, refl, sym, ap, ◌∙◌, subst, arith, AllPairs, length-drop, append-nil}
use Rattle.std.proofs.lemmas.Bool.{cases_lt}
use Rattle.std.proofs.lemmas.List.{get_or-take, get_or-drop, take-append-drop, length-take}
use Rattle.std.proofs.lemmas.List.Elements.{filter-append}
use Rattle.std.specs.List.{starts_with, AllWithin}
use Rattle.std.specs.List.Sorted.{IsPartitionedBy, IsPartitionPoint}
use Rattle.std.specs.Ordering.{is_le}
use Rattle.std.specs.declared.cmp.Ordering.{Ordering}
use Rattle.std.specs.declared.cmp.Ordering.TheVariants.{Less, Equal, Greater}
use Rattle.std.specs.Cmp.Lexicographic.{nat_list_cmp_total, lists_total}
use Rattle.std.specs.FinMap.{slice_cmp-IsAntisymmetric, nat_cmp-IsAntisymmetric}
use Rattle.ovl_names.specs.Names.{name_cmp, name_eq}
use Rattle.ovl_names.specs.Paths.{PathNames, path_cmp}
use Rattle.ovl_board.specs.Trees.{is_child, children}
use Rattle.ovl_board.proofs.LawsOfMembers.{Every, place}
use Rattle.ovl_board.proofs.LawsOfPieces.{prefix_before}
use Rattle.ovl_board.proofs.TreeLemmas.{IsLess, child_is, less_trans, not_less_itself, starts-decides, between}

filter_none : {X : Type 0} (p : X → Bool) (xs : List X) → Every (λ x. p x ≡ false) xs → filter p xs ≡ []
filter_none p [] none = refl
filter_none p (x ∷ xs) none = ap (λ b. cond b (x ∷ filter p xs) (filter p xs)) (none x (inl refl)) ∙ filter_none p xs (λ y h. none y (inr h))

within-take : {X : Type 0} (P : X → Type 0) (xs : List X) (i : ℕ) → AllWithin P xs 0 i → Every P (take i xs)
within-take P xs i all x h =
    let at = place x (take i xs) h in
    let lt : at.0 < i = omega (arith, at.1, length-take i xs) in
    subst P (sym (get_or-take i xs at.0 x lt) ∙ at.2 x) (all at.0 x (omega arith) lt)

within-drop : {X : Type 0} (P : X → Type 0) (xs : List X) (i : ℕ) → AllWithin P xs i (length xs) → Every P (drop i xs)
within-drop P xs i all x h =
    let at = place x (drop i xs) h in
    subst P (sym (get_or-drop i xs at.0 x) ∙ at.2 x) (all (i + at.0) x (omega arith) (omega (arith, at.1, length-drop i xs)))

le_cases : (r : Ordering) → is_le r ≡ true → (r ≡ Less) ⊎ (r ≡ Equal)
le_cases Less e = inl refl
le_cases Equal e = inr refl
le_cases Greater e = absurd (cc)

not_true : (b : Bool) → (b ≡ true → ⊥) → b ≡ false
not_true true f = absurd (f refl)
not_true false f = refl

path_antisym : (a b : PathNames) → path_cmp a b ≡ Equal → a ≡ b
path_antisym a b e = slice_cmp-IsAntisymmetric (slice_cmp-IsAntisymmetric nat_cmp-IsAntisymmetric) a b e

-- a path that doesn't come after the directory
abbrev pub is_up_to : PathNames → PathNames → Bool
is_up_to dir path = is_le (path_cmp path dir)

module _ (dir : PathNames) where
  up_to_cases : (d : PathNames) → is_up_to dir d ≡ true → (d ≡ dir) ⊎ IsLess d dir
  up_to_cases d e = elim (le_cases (path_cmp d dir) e) [ inl l ↦ inr l | inr s ↦ inl (path_antisym d dir s) ]

  less_up_to : (d : PathNames) → IsLess d dir → is_up_to dir d ≡ true
  less_up_to d l = ap is_le l

  -- a path that comes after the directory
  after_dir : (d : PathNames) → is_up_to dir d ≡ false → IsLess dir d
  after_dir d e = by (path_cmp d dir) refl
    where
      by : (r : Ordering) → path_cmp d dir ≡ r → path_cmp dir d ≡ Less
      by Less l = let no : true ≡ false = ap is_le (sym l) ∙ e in absurd (cc)
      by Equal l = let no : true ≡ false = ap is_le (sym l) ∙ e in absurd (cc)
      by Greater l = rw l at ((lists_total nat_list_cmp_total).antisymm dir d)

  early_no_child : (d : PathNames) → is_up_to dir d ≡ true → is_child dir d ≡ false
  early_no_child d e = not_true (is_child dir d) (λ c.
      let n = child_is dir d c in
      let below : IsLess dir d = subst (IsLess dir) (sym n.1) (prefix_before name_cmp nat_list_cmp_total dir n.0 []) in
      elim (up_to_cases d e) [
        | inl same ↦ not_less_itself dir (subst (IsLess dir) same below)
        | inr l ↦ not_less_itself dir (less_trans dir d dir below l)
      ])

  late_no_child : (d : PathNames) → starts_with name_eq d dir ≡ false → is_child dir d ≡ false
  late_no_child d e = not_true (is_child dir d) (λ c.
      let n = child_is dir d c in
      let no : true ≡ false = sym ((starts-decides d dir).1 (n.0 ∷ [], n.1)) ∙ e in absurd (cc))

  module _ (paths : List PathNames) (up : AllPairs IsLess paths) where
    pub partitioned-up_to : IsPartitionedBy (λ d. is_up_to dir d) paths
    partitioned-up_to i j d le h e = elim (cases_lt i j) [
      | inl lt ↦ less_up_to (get_or paths i d) (elim (up_to_cases (get_or paths j d) e) [
        | inl same ↦ subst (IsLess (get_or paths i d)) same (up i j d lt h)
        | inr l ↦ less_trans (get_or paths i d) (get_or paths j d) dir (up i j d lt h) l
      ])
      | inr ge ↦ (let same : j ≡ i = omega arith in subst (λ k. is_up_to dir (get_or paths k d) ≡ true) same e)
    ]

    module _ (start : ℕ) (point : IsPartitionPoint (λ d. is_up_to dir d ≡ true) (λ d. is_up_to dir d ≡ false) paths start) where
      later_up : (i j : ℕ) (d : PathNames) → i < j → j < length (drop start paths) → IsLess (get_or (drop start paths) i d) (get_or (drop start paths) j d)
      later_up i j d lt h = rw (get_or-drop start paths i d, get_or-drop start paths j d) (up (start + i) (start + j) d (omega arith) (omega (arith, length-drop start paths)))

      later_after : (i : ℕ) (d : PathNames) → i < length (drop start paths) → IsLess dir (get_or (drop start paths) i d)
      later_after i d h = rw (get_or-drop start paths i d) (after_dir (get_or paths (start + i) d) (point.1 (start + i) d (omega arith) (omega (arith, length-drop start paths))))

      pub partitioned-under : IsPartitionedBy (λ d. starts_with name_eq d dir) (drop start paths)
      partitioned-under i j d le h e = elim (cases_lt i j) [
        | inl lt ↦
            let later = drop start paths in
            let p = (starts-decides (get_or later j d) dir).0 e in
            (starts-decides (get_or later i d) dir).1 (between dir (get_or later i d) p.0 (inr (later_after i d (omega arith))) (subst (IsLess (get_or later i d)) p.1 (later_up i j d lt h)))
        | inr ge ↦ (let same : j ≡ i = omega arith in subst (λ k. starts_with name_eq (get_or (drop start paths) k d) dir ≡ true) same e)
      ]

      pub children-under : (end : ℕ) → IsPartitionPoint (λ d. starts_with name_eq d dir ≡ true) (λ d. starts_with name_eq d dir ≡ false) (drop start paths) end
          → children (take end (drop start paths)) dir ≡ children paths dir
      children-under end stop =
          let child = is_child dir in
          let later = drop start paths in
          let front : filter child (take start paths) ≡ [] = filter_none child (take start paths) (λ d h. early_no_child d (within-take (λ x. is_up_to dir x ≡ true) paths start point.0 d h)) in
          let back : filter child (drop end later) ≡ [] = filter_none child (drop end later) (λ d h. late_no_child d (within-drop (λ x. starts_with name_eq x dir ≡ false) later end stop.1 d h)) in
          sym (ap (filter child) (sym (take-append-drop start paths)) ∙ (filter-append child (take start paths) later ∙ (ap (λ l. l ++ filter child later) front
          ∙ (ap (filter child) (sym (take-append-drop end later)) ∙ (filter-append child (take end later) (drop end later) ∙ (ap (λ l. filter child (take end later) ++ l) back ∙ append-nil (filter child (take end later))))))))
