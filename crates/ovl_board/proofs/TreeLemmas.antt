-- Trees of listed paths: their kids are lawful, and which lists are trees.
use Rattle.std.proofs.Common.{◌≡◌, ℕ, zero, suc, ◌+◌, ◌-◌, ◌≤◌, ◌<◌, Bool, true, false, cond, eqb, not, ◌&&◌, ◌⊎◌, inl, inr, List, [], ◌∷◌, ◌++◌, length, get_or, take, drop, map, max, Some, IfSome, refl, sym, ap, ◌∙◌, subst, arith, All, AllPairs, Contains, append_assoc, length-append}
use Rattle.std.proofs.Math.Seq.{take-append_seam}
use Rattle.std.proofs.lemmas.Bool.{cases_lt, eqb-true}
use Rattle.std.proofs.lemmas.List.{take-append-drop}
use Rattle.std.specs.List.{fold, starts_with, slice_get}
use Rattle.std.specs.Ordering.{ordering_reverse, is_lt}
use Rattle.std.specs.declared.cmp.Ordering.{Ordering}
use Rattle.std.specs.declared.cmp.Ordering.TheVariants.{Less, Equal, Greater}
use Rattle.std.specs.Cmp.Lexicographic.{nat_list_cmp_total, lists_total}
use Rattle.std.specs.FinMap.{slice_cmp-IsAntisymmetric, nat_cmp-IsAntisymmetric}
use Rattle.std.proofs.lemmas.Cmp.{tied_itself}
use Rattle.ovl_names.specs.Names.{PathName, name_cmp, name_eq}
use Rattle.ovl_names.specs.Paths.{PathNames, path_cmp, path_eq, is_root, parent_path, parent_of, child_path}
use Rattle.ovl_names.proofs.Ascending.{both}
use Rattle.ovl_board.specs.declared.pieces.Piece.{Piece}
use Rattle.ovl_board.specs.Pieces.{piece_at, IsBefore, IsOneBelow, AreLawfulKids, HasLawfulKids}
use Rattle.ovl_board.specs.Trees.{HasTreeShape, EachFollows, is_child, is_next, children, tree_kids, deepest_path}
use Rattle.ovl_board.proofs.LawsOfMembers.{In, Rises, In-map-cases, In-filter-cases, Rises-filter, All-Every, AllPairs-Rises, Rises-AllPairs, Rises-from_adjacent}
use Rattle.ovl_board.proofs.LawsOfPieces.{snoc_view, path_eq_decides, prefix_before}

-- the path above a path's last name
parent-snoc : (d : PathNames) (n : PathName) → parent_path (d ++ n ∷ []) ≡ d
parent-snoc d n =
    let k : length (d ++ n ∷ []) - 1 ≡ length d = omega (arith, length-append d (n ∷ [])) in
    ap (λ i. take i (d ++ n ∷ [])) k ∙ take-append_seam d (n ∷ [])

root_empty : (d : PathNames) → d ≡ [] → not (is_root d) ≡ false
root_empty d e = ap (λ (p : PathNames). not (is_root p)) e

pub child_is : (d e : PathNames) → is_child d e ≡ true → (n : PathName) × (e ≡ child_path d n)
child_is d e h =
    let parts = both {a = not (is_root e)} {b = path_eq (parent_path e) d} h in
    elim (snoc_view e) [
      | inl empty ↦ (let no : true ≡ false = sym parts.0 ∙ root_empty e empty in absurd (cc))
      | inr w ↦ (w.1.0, w.1.1 ∙ ap (λ p. p ++ w.1.0 ∷ []) (sym (parent-snoc w.0 w.1.0) ∙ (ap parent_path (sym w.1.1) ∙ (path_eq_decides (parent_path e) d).0 parts.1)))
    ]

is_child-child : (d : PathNames) (n : PathName) → is_child d (child_path d n) ≡ true
is_child-child d n = (λ j. not (no_root d j) && (path_eq_decides (parent_path (child_path d n)) d).1 (parent-snoc d n) j)
  where
    no_root : (e : PathNames) → is_root (e ++ n ∷ []) ≡ false
    no_root [] = refl
    no_root (x ∷ e) = refl

-- what a test of their paths says of two pieces in one space
pub one_below-decides : (p q : Piece) → p.space ≡ q.space → (is_child p.dir q.dir ≡ true → IsOneBelow p q) × (IsOneBelow p q → is_child p.dir q.dir ≡ true)
one_below-decides p q same = (
  (λ t. (sym same, child_is p.dir q.dir t)),
  (λ b. ap (is_child p.dir) b.1.1 ∙ is_child-child p.dir b.1.0),
)

-- d comes before e
abbrev pub IsLess : PathNames → PathNames → Type 0
IsLess d e = path_cmp d e ≡ Less

map_rises : (ds : List PathNames) → Rises IsLess ds → Rises IsBefore (map (piece_at 0) ds)
map_rises [] r = tt
map_rises (d ∷ ds) r = (
  (λ q i. let c = In-map-cases (piece_at 0) q ds i in subst (IsBefore (piece_at 0 d)) (sym c.1.1) (r.0 c.0 c.1.0)),
  map_rises ds r.1,
)

most_from : (ds : List PathNames) (most : ℕ) → most ≤ fold (λ a d. max a (length d)) most ds
most_from [] most = omega arith
most_from (d ∷ ds) most = omega (arith, most_from ds (max most (length d)))

deep : (d : PathNames) (ds : List PathNames) (most : ℕ) → In d ds → length d ≤ fold (λ a e. max a (length e)) most ds
deep d [] most h = absurd h
deep d (e ∷ ds) most (inl i) = omega (arith, ap length i, most_from ds (max most (length e)))
deep d (e ∷ ds) most (inr i) = deep d ds (max most (length e)) i

module _ (paths : List PathNames) (up : AllPairs IsLess paths) where
  kid_is : (p q : Piece) → In q (map (piece_at 0) (children paths p.dir)) → (q.space ≡ 0) × ((n : PathName) × (q.dir ≡ child_path p.dir n)) × (length q.dir ≤ deepest_path paths)
  kid_is p q i =
      let c = In-map-cases (piece_at 0) q (children paths p.dir) i in
      let f = In-filter-cases (λ e. is_child p.dir e) c.0 paths c.1.0 in
      let n = child_is p.dir c.0 f.1 in
      let dir = ap (λ (r : Piece). r.dir) c.1.1 in (
        ap (λ (r : Piece). r.space) c.1.1,
        (n.0, dir ∙ n.1),
        omega (arith, deep c.0 paths 0 f.0, ap length dir),
      )

  kids_of_space : (p : Piece) (b : Bool) → eqb p.space 0 ≡ b → AreLawfulKids p (cond b (map (piece_at 0) (children paths p.dir)) []) × All (λ (q : Piece). length q.dir ≤ deepest_path paths) (cond b (map (piece_at 0) (children paths p.dir)) [])
  kids_of_space p true e =
      let kids = map (piece_at 0) (children paths p.dir) in (
        record {
          below = All-Every (IsOneBelow p) kids (λ q i. let k = kid_is p q i in (k.0 ∙ sym (eqb-true p.space 0 e), k.1));
          ascend = AllPairs-Rises IsBefore kids (map_rises (children paths p.dir) (Rises-filter IsLess (λ d. is_child p.dir d) paths (Rises-AllPairs IsLess paths up)));
        },
        All-Every (λ (q : Piece). length q.dir ≤ deepest_path paths) kids (λ q i. (kid_is p q i).2),
      )
  kids_of_space p false e = (
    record { below = All-Every (IsOneBelow p) [] (λ q i. absurd i); ascend = AllPairs-Rises IsBefore [] tt },
    All-Every (λ (q : Piece). length q.dir ≤ deepest_path paths) [] (λ q i. absurd i),
  )

  pub tree_lawful : HasLawfulKids (tree_kids paths) (deepest_path paths)
  tree_lawful = record {
    lawful = λ p. (kids_of_space p (eqb p.space 0) refl).0;
    shallow = λ p. (kids_of_space p (eqb p.space 0) refl).1;
  }

-- q is the beginning of x
abbrev pub IsPrefix : PathNames → PathNames → Type 0
IsPrefix q x = (rest : PathNames) × (x ≡ q ++ rest)

pub starts-decides : (xs needle : PathNames) → (starts_with name_eq xs needle ≡ true → IsPrefix needle xs) × (IsPrefix needle xs → starts_with name_eq xs needle ≡ true)
starts-decides xs needle = (
  (λ h. (drop (length needle) xs, sym (take-append-drop (length needle) xs) ∙ ap (λ p. p ++ drop (length needle) xs) (sym ((path_eq_decides needle (take (length needle) xs)).0 h)))),
  (λ p. (path_eq_decides needle (take (length needle) xs)).1 (sym (ap (take (length needle)) p.1 ∙ take-append_seam needle p.0))),
)

lt_less : (r : Ordering) → (is_lt r ≡ true → r ≡ Less) × (r ≡ Less → is_lt r ≡ true)
lt_less Less = ((λ e. refl), λ e. refl)
lt_less Equal = ((λ e. absurd (cc)), λ e. absurd (cc))
lt_less Greater = ((λ e. absurd (cc)), λ e. absurd (cc))

next_gives : (x e : PathNames) → is_next x e ≡ true → IsLess x e × IsPrefix (parent_path e) x
next_gives x e h =
    let parts = both {a = is_lt (path_cmp x e)} {b = starts_with name_eq x (parent_path e)} h in
    ((lt_less (path_cmp x e)).0 parts.0, (starts-decides x (parent_path e)).0 parts.1)

next_from : (x e : PathNames) → IsLess x e → IsPrefix (parent_path e) x → is_next x e ≡ true
next_from x e l p = ap (λ b. b && starts_with name_eq x (parent_path e)) ((lt_less (path_cmp x e)).1 l) ∙ (starts-decides x (parent_path e)).1 p

not_before_root : (d : PathNames) → path_cmp d [] ≡ Less → ⊥
not_before_root [] e = absurd (cc)
not_before_root (n ∷ d) e = absurd (cc)

prefix_snoc : (q d : PathNames) (n : PathName) → IsPrefix q (d ++ n ∷ []) → (q ≡ d ++ n ∷ []) ⊎ IsPrefix q d
prefix_snoc [] d n p = inr (d, refl)
prefix_snoc (a ∷ q) [] n p = by (q ++ p.0) refl
  where
    by : (r : PathNames) → q ++ p.0 ≡ r → (a ∷ q ≡ n ∷ []) ⊎ IsPrefix (a ∷ q) []
    by r e =
        let tail : [] ≡ q ++ p.0 = cc in
        let head : a ≡ n = cc in
        inl (ap (λ x. x ∷ q) head ∙ ap (λ l. n ∷ l) (empty q p.0 (sym tail)))
      where
        empty : (xs ys : PathNames) → xs ++ ys ≡ [] → xs ≡ []
        empty [] ys e = refl
        empty (x ∷ xs) ys e = absurd (cc)
prefix_snoc (a ∷ q) (b ∷ d) n p =
    let tail : d ++ n ∷ [] ≡ q ++ p.0 = cc in
    let head : a ≡ b = cc in
    elim (prefix_snoc q d n (p.0, tail)) [
      | inl e ↦ inl (ap (λ x. x ∷ q) head ∙ ap (λ l. b ∷ l) e)
      | inr r ↦ inr (r.0, ap (λ x. x ∷ d) (sym head) ∙ ap (λ l. a ∷ l) r.1)
    ]

prefix_trans : (a b c : PathNames) → IsPrefix a b → IsPrefix b c → IsPrefix a c
prefix_trans a b c p q = (p.0 ++ q.0, q.1 ∙ (ap (λ l. l ++ q.0) p.1 ∙ append_assoc a p.0 q.0))

parent_prefix : (e : PathNames) → IsPrefix (parent_path e) e
parent_prefix e = (drop (length e - 1) e, sym (take-append-drop (length e - 1) e))

-- what comes between a path and what lies under it lies under it
pub between : (d x t : PathNames) → (d ≡ x) ⊎ IsLess d x → IsLess x (d ++ t) → IsPrefix d x
between [] x t low high = (x, refl)
between (a ∷ d) [] t (inl e) high = absurd (cc)
between (a ∷ d) [] t (inr l) high = absurd (cc)
between (a ∷ d) (b ∷ x) t low high = by (between d x t) (name_cmp a b) refl
  where
    back : name_cmp b a ≡ ordering_reverse (name_cmp a b)
    back = nat_list_cmp_total.antisymm b a

    by : ((d ≡ x) ⊎ IsLess d x → IsLess x (d ++ t) → IsPrefix d x) → (r : Ordering) → name_cmp a b ≡ r → IsPrefix (a ∷ d) (b ∷ x)
    by more Less e = let no : Greater ≡ Less = rw (back, e) at high in absurd (cc)
    by more Equal e =
        let head : a ≡ b = slice_cmp-IsAntisymmetric nat_cmp-IsAntisymmetric a b e in
        let below : IsLess x (d ++ t) = rw (back, e) at high in
        let above : (d ≡ x) ⊎ IsLess d x = elim low [ inl s ↦ inl (let tail : d ≡ x = cc in tail) | inr l ↦ inr (rw e at l) ] in
        let r = more above below in
        (r.0, ap (λ n. n ∷ x) (sym head) ∙ ap (λ l. a ∷ l) r.1)
    by more Greater e = elim low [
      | inl s ↦ (let head : a ≡ b = cc in let no : Equal ≡ Greater = sym (tied_itself nat_list_cmp_total a) ∙ (ap (name_cmp a) head ∙ e) in absurd (cc))
      | inr l ↦ (let no : Greater ≡ Less = rw e at l in absurd (cc))
    ]

pub less_trans : (a b c : PathNames) → IsLess a b → IsLess b c → IsLess a c
less_trans a b c l m = (lists_total nat_list_cmp_total).trans a b c l m

pub not_less_itself : (d : PathNames) → IsLess d d → ⊥
not_less_itself d l = let no : Less ≡ Equal = sym l ∙ tied_itself (lists_total nat_list_cmp_total) d in absurd (cc)

root_first : (paths : List PathNames) → slice_get paths 0 ≡ Some [] → (0 < length paths) × ((d : PathNames) → get_or paths 0 d ≡ [])
root_first [] e = absurd (cc)
root_first (p ∷ paths) e = let head : p ≡ [] = cc in (omega arith, λ d. head)

-- each prefix of a listed path is listed, where each path follows the one before it
module _ (paths : List PathNames) (first : slice_get paths 0 ≡ Some []) (each : EachFollows paths) where
  next_at : (k : ℕ) (d : PathNames) → suc k < length paths → IsLess (get_or paths k d) (get_or paths (suc k) d) × IsPrefix (parent_path (get_or paths (suc k) d)) (get_or paths k d)
  next_at k d h =
      let e : k + 1 ≡ suc k = omega arith in
      next_gives (get_or paths k d) (get_or paths (suc k) d) (subst (λ n. is_next (get_or paths k d) (get_or paths n d) ≡ true) e (each k d (omega arith)))

  prefixes_listed : (i : ℕ) (d q : PathNames) → i < length paths → IsPrefix q (get_or paths i d) → Contains paths q
  prefixes_listed zero d q h p =
      let root = root_first paths first in
      let none : [] ≡ q ++ p.0 = sym (root.1 d) ∙ p.1 in
      (0, root.0, root.1 q ∙ sym (empty q p.0 (sym none)))
    where
      empty : (xs ys : PathNames) → xs ++ ys ≡ [] → xs ≡ []
      empty [] ys e = refl
      empty (x ∷ xs) ys e = absurd (cc)
  prefixes_listed (suc i) d q h p = elim (snoc_view (get_or paths (suc i) d)) [
    | inl e ↦ absurd (not_before_root (get_or paths i d) (subst (IsLess (get_or paths i d)) e (next_at i d h).0))
    | inr w ↦ elim (prefix_snoc q w.0 w.1.0 (subst (IsPrefix q) w.1.1 p)) [
      | inl e ↦ itself (e ∙ sym w.1.1)
      | inr r ↦ prefixes_listed i d q (omega arith) (prefix_trans q w.0 (get_or paths i d) r (subst (λ x. IsPrefix x (get_or paths i d)) (ap parent_path w.1.1 ∙ parent-snoc w.0 w.1.0) (next_at i d h).1))
    ]
  ]
    where
      itself : q ≡ get_or paths (suc i) d → Contains paths q
      itself e = (suc i, h, get_or_other paths (suc i) q d h ∙ sym e)
        where
          get_or_other : (xs : List PathNames) (k : ℕ) (a b : PathNames) → k < length xs → get_or xs k a ≡ get_or xs k b
          get_or_other [] k a b h = absurd (omega arith)
          get_or_other (x ∷ xs) zero a b h = refl
          get_or_other (x ∷ xs) (suc k) a b h = get_or_other xs k a b (omega arith)

  parent_listed : (e : PathNames) → (IsPrefix (parent_path e) e → Contains paths (parent_path e)) → IfSome (parent_of e) (Contains paths)
  parent_listed [] h = tt
  parent_listed (n ∷ e) h = h (parent_prefix (n ∷ e))

  pub HasTreeShape-from_each : HasTreeShape paths
  HasTreeShape-from_each = record {
    root = first;
    ascend = AllPairs-Rises IsLess paths (Rises-from_adjacent IsLess less_trans paths (λ k d h.
        let e : suc k ≡ k + 1 = omega arith in subst (λ n. IsLess (get_or paths k d) (get_or paths n d)) e (next_at k d (omega arith)).0));
    parents = λ k d h. parent_listed (get_or paths k d) (λ p. prefixes_listed k d (parent_path (get_or paths k d)) h p);
  }

module _ (paths : List PathNames) (shape : HasTreeShape paths) where
  -- the parent of a path is before it
  parent_before : (k : ℕ) (d : PathNames) → suc k < length paths → (y : PathNames) (n : PathName) → get_or paths (suc k) d ≡ y ++ n ∷ [] → Contains paths y → (y ≡ get_or paths k d) ⊎ IsLess y (get_or paths k d)
  parent_before k d h y n e c = elim (cases_lt c.0 k) [
    | inl lt ↦ inr (subst (λ x. IsLess x (get_or paths k d)) (here d) (shape.ascend c.0 k d lt (omega arith)))
    | inr ge ↦ elim (cases_lt k c.0) [
      | inl gt ↦ absurd (later gt)
      | inr le ↦ (let same : c.0 ≡ k = omega arith in inl (sym (here d) ∙ ap (λ j. get_or paths j d) same))
    ]
  ]
    where
      here : (a : PathNames) → get_or paths c.0 a ≡ y
      here a = other paths c.0 a y c.1 ∙ c.2
        where
          other : (xs : List PathNames) (k : ℕ) (a b : PathNames) → k < length xs → get_or xs k a ≡ get_or xs k b
          other [] k a b h = absurd (omega arith)
          other (x ∷ xs) zero a b h = refl
          other (x ∷ xs) (suc k) a b h = other xs k a b (omega arith)

      up : IsLess y (get_or paths (suc k) d)
      up = subst (IsLess y) (sym e) (prefix_before name_cmp nat_list_cmp_total y n [])

      later : k < c.0 → ⊥
      later gt = elim (cases_lt (suc k) c.0) [
        | inl more ↦ not_less_itself y (less_trans y (get_or paths (suc k) d) y up (subst (IsLess (get_or paths (suc k) d)) (here d) (shape.ascend (suc k) c.0 d more c.1)))
        | inr at ↦ (let same : c.0 ≡ suc k = omega arith in not_less_itself y (subst (IsLess y) (ap (λ j. get_or paths j d) (sym same) ∙ here d) up))
      ]

  pub EachFollows-from_shape : EachFollows paths
  EachFollows-from_shape k d h =
      let s : suc k ≡ k + 1 = omega arith in
      let within : suc k < length paths = omega arith in
      let less = shape.ascend k (suc k) d (omega arith) within in
      subst (λ n. is_next (get_or paths k d) (get_or paths n d) ≡ true) s (next_from (get_or paths k d) (get_or paths (suc k) d) less (prefix within less))
    where
      listed : (e y : PathNames) (n : PathName) → e ≡ y ++ n ∷ [] → IfSome (parent_of e) (Contains paths) → Contains paths y
      listed [] [] n e c = absurd (cc)
      listed [] (m ∷ y) n e c = absurd (cc)
      listed (m ∷ e) y n s c = subst (Contains paths) (ap parent_path s ∙ parent-snoc y n) c

      prefix : suc k < length paths → IsLess (get_or paths k d) (get_or paths (suc k) d) → IsPrefix (parent_path (get_or paths (suc k) d)) (get_or paths k d)
      prefix within less = elim (snoc_view (get_or paths (suc k) d)) [
        | inl e ↦ absurd (not_before_root (get_or paths k d) (subst (IsLess (get_or paths k d)) e less))
        | inr w ↦
            subst (λ q. IsPrefix q (get_or paths k d)) (sym (ap parent_path w.1.1 ∙ parent-snoc w.0 w.1.0))
            (between w.0 (get_or paths k d) (w.1.0 ∷ [])
            (parent_before k d within w.0 w.1.0 w.1.1 (listed (get_or paths (suc k) d) w.0 w.1.0 w.1.1 (shape.parents (suc k) d within)))
            (subst (IsLess (get_or paths k d)) w.1.1 less))
      ]

pub shape-decides : (paths : List PathNames) (r : Bool) → slice_get paths 0 ≡ Some [] → (r ≡ true → EachFollows paths) × (EachFollows paths → r ≡ true) → (r ≡ true → HasTreeShape paths) × (HasTreeShape paths → r ≡ true)
shape-decides paths r first each = ((λ t. HasTreeShape-from_each paths first (each.0 t)), λ shape. each.1 (EachFollows-from_shape paths shape))

pub next_root : (x e : PathNames) → length e ≡ 0 → false ≡ is_next x e
next_root [] [] h = refl
next_root (n ∷ x) [] h = refl
next_root x (n ∷ e) h = absurd (omega arith)
