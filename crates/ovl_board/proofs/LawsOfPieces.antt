-- Laws of the order of pieces, and of the entries of a piece's directory.
use Rattle.std.proofs.Common.{◌≡◌, ◌⊎◌, inl, inr, ◌+◌, List, [], ◌∷◌, ◌++◌, length, refl, ap, subst, ◌∙◌, arith, true, Some, map, append_assoc, length-append, ℕ, ◌<◌, ◌≤◌, false, sym, get_or, IsSorted}
use Rattle.std.specs.Ordering.{nat_cmp, ordering_then, partial_ordering_then, is_some_and, is_ge, is_lt}
use Rattle.std.specs.declared.cmp.Ordering.{Ordering}
use Rattle.std.specs.declared.cmp.Ordering.TheVariants.{Less, Equal, Greater}
use Rattle.std.specs.Cmp.{IsTotalOrder, then_total, on_total, IsStrictWeakOrder}
use Rattle.std.specs.Cmp.Lexicographic.{slice_cmp, nat_list_cmp_total, lists_total, pointwise_decides, bytes_decides}
use Rattle.std.proofs.lemmas.Cmp.{tied_itself, nat_cmp_total}
use Rattle.std.specs.FinMap.{slice_cmp-IsAntisymmetric, nat_cmp-IsAntisymmetric}
use Rattle.std.proofs.lemmas.List.Sorted.{ranks_by, sorted_far}
use Rattle.ovl_names.specs.Names.{PathName, name_cmp}
use Rattle.ovl_names.specs.Paths.{PathNames, child_path, path_eq, path_cmp}
use Rattle.ovl_board.specs.declared.pieces.Piece.{Piece}
use Rattle.ovl_board.specs.Pieces.{piece_at, piece_in, piece_cmp, IsBefore, IsOneBelow, AreLawfulKids}
use Rattle.ovl_board.proofs.LawsOfMembers.{Rises, All-Every, AllPairs-Rises, Rises-AllPairs, In-map-cases}

module _ {K : Type 0} (R : K → K → Ordering) (o : IsTotalOrder R) where
  pub prefix_before : (d : List K) (n : K) (rest : List K) → slice_cmp R d (d ++ n ∷ rest) ≡ Less
  prefix_before [] n rest = refl
  prefix_before (x ∷ d) n rest = rw (tied_itself o x) (prefix_before d n rest)

  pub fork_before : (d : List K) (a b : K) (r s : List K) → R a b ≡ Less → slice_cmp R (d ++ a ∷ r) (d ++ b ∷ s) ≡ Less
  fork_before [] a b r s h = rw h
  fork_before (x ∷ d) a b r s h = rw (tied_itself o x) (fork_before d a b r s h)

  -- siblings compare by their last names
  pub siblings : (d : List K) (a b : K) → slice_cmp R (d ++ a ∷ []) (d ++ b ∷ []) ≡ Less → R a b ≡ Less
  siblings [] a b h = first (R a b) h
    where
      first : (r : Ordering) → ordering_then r Equal ≡ Less → r ≡ Less
      first Less h = refl
      first Equal h = h
      first Greater h = h
  siblings (x ∷ d) a b h = siblings d a b (rw (tied_itself o x) at h)

pub piece_cmp_total : IsTotalOrder piece_cmp
piece_cmp_total = then_total (on_total (λ (p : Piece). p.space) nat_cmp_total) (on_total (λ (p : Piece). p.dir) (lists_total nat_list_cmp_total))

pub before_trans : (p q r : Piece) → IsBefore p q → IsBefore q r → IsBefore p r
before_trans p q r a b = piece_cmp_total.trans p q r a b

-- a test by the partial order of pieces goes by their order
partial_ge-then : (r s : Ordering) → is_some_and is_ge (partial_ordering_then (Some r) (Some s)) ≡ is_ge (ordering_then r s)
partial_ge-then Less s = refl
partial_ge-then Equal s = refl
partial_ge-then Greater s = refl

pub partial_ge-piece : (p q : Piece) → is_some_and is_ge (partial_ordering_then (Some (nat_cmp p.space q.space)) (Some (path_cmp p.dir q.dir))) ≡ is_ge (piece_cmp p q)
partial_ge-piece p q = partial_ge-then (nat_cmp p.space q.space) (path_cmp p.dir q.dir)

-- what a test of two paths says
pub path_eq_decides : (a b : PathNames) → (path_eq a b ≡ true → a ≡ b) × (a ≡ b → path_eq a b ≡ true)
path_eq_decides = pointwise_decides bytes_decides

-- q lies somewhere under p, or is p
abbrev pub IsUnder : Piece → Piece → Type 0
IsUnder p q = (q.space ≡ p.space) × ((rest : PathNames) × (q.dir ≡ p.dir ++ rest))

pub under_one : (p q r : Piece) → IsOneBelow p q → IsUnder q r → IsUnder p r
under_one p q r b u = (u.0 ∙ b.0, (b.1.0 ∷ u.1.0, u.1.1 ∙ ap (λ d. d ++ u.1.0) b.1.1 ∙ append_assoc p.dir (b.1.0 ∷ []) u.1.0))

pub before_under : (p q r : Piece) → IsOneBelow p q → IsUnder q r → IsBefore p r
unfolding under_one
before_under p q r b u =
    let w = under_one p q r b u in
    rw (w.0, w.1.1, tied_itself nat_cmp_total p.space) (prefix_before name_cmp nat_list_cmp_total p.dir b.1.0 u.1.0)

pub before_siblings : (p q r x y : Piece) → IsOneBelow p q → IsOneBelow p r → IsBefore q r → IsUnder q x → IsUnder r y → IsBefore x y
unfolding under_one
before_siblings p q r x y b c lt u v =
    let w = under_one p q x b u in
    let z = under_one p r y c v in
    let h : slice_cmp name_cmp (p.dir ++ b.1.0 ∷ []) (p.dir ++ c.1.0 ∷ []) ≡ Less = rw (b.0, c.0, b.1.1, c.1.1, tied_itself nat_cmp_total p.space) at lt in
    rw (w.0, z.0, w.1.1, z.1.1, tied_itself nat_cmp_total p.space) (fork_before name_cmp nat_list_cmp_total p.dir b.1.0 c.1.0 u.1.0 v.1.0 (siblings name_cmp nat_list_cmp_total p.dir b.1.0 c.1.0 h))

pub length_below : (p q : Piece) → IsOneBelow p q → length q.dir ≡ length p.dir + 1
length_below p q b = ap length b.1.1 ∙ length-append p.dir (b.1.0 ∷ [])

-- the last name of a path, and the path above it
pub snoc_view : (d : PathNames) → (d ≡ []) ⊎ ((e : PathNames) × ((n : PathName) × (d ≡ e ++ n ∷ [])))
snoc_view [] = inl refl
snoc_view (x ∷ d) = elim (snoc_view d) [
  | inl e ↦ inr ([], (x, ap (λ l. x ∷ l) e))
  | inr w ↦ inr (x ∷ w.0, (w.1.0, ap (λ l. x ∷ l) w.1.1))
]

pub snoc_same : (d e : PathNames) (m n : PathName) → d ++ m ∷ [] ≡ e ++ n ∷ [] → d ≡ e
snoc_same [] [] m n h = refl
snoc_same [] (y ∷ e) m n h = absurd (omega (arith, ap length h, length-append e (n ∷ [])))
snoc_same (x ∷ d) [] m n h = absurd (omega (arith, ap length h, length-append d (m ∷ [])))
snoc_same (x ∷ d) (y ∷ e) m n h = let t : d ++ m ∷ [] ≡ e ++ n ∷ [] = cc in let a = snoc_same d e m n t in cc

pub same_itself : (p : Piece) → piece_cmp p p ≡ Equal
same_itself p = rw (tied_itself nat_cmp_total p.space) (tied_itself (lists_total nat_list_cmp_total) p.dir)

then_equal : (r s : Ordering) → ordering_then r s ≡ Equal → (r ≡ Equal) × (s ≡ Equal)
then_equal Less s e = absurd (cc)
then_equal Equal s e = (refl, e)
then_equal Greater s e = absurd (cc)

pub piece_eq : (p q : Piece) → p.space ≡ q.space → p.dir ≡ q.dir → p ≡ q
piece_eq p q a b = ap (λ x. piece_at x p.dir) a ∙ ap (piece_at q.space) b

pub same_piece : (p q : Piece) → piece_cmp p q ≡ Equal → p ≡ q
same_piece p q h =
    let b = then_equal (nat_cmp p.space q.space) (path_cmp p.dir q.dir) h in
    piece_eq p q (nat_cmp-IsAntisymmetric p.space q.space b.0) (slice_cmp-IsAntisymmetric (slice_cmp-IsAntisymmetric nat_cmp-IsAntisymmetric) p.dir q.dir b.1)

pub less_differs : (p q : Piece) → IsBefore p q → p ≡ q → ⊥
less_differs p q lt e = let c : Less ≡ Equal = sym lt ∙ ap (piece_cmp p) (sym e) ∙ same_itself p in absurd (cc)

-- p doesn't come after q
abbrev pub IsAtMost : Piece → Piece → Type 0
IsAtMost p q = IsBefore q p → ⊥

not_less : (r : Ordering) → is_lt r ≡ false → r ≡ Less → ⊥
not_less r e l = let no : true ≡ false = ap is_lt (sym l) ∙ e in absurd (cc)

weak_order : IsStrictWeakOrder (λ p q. is_lt (piece_cmp p q))
weak_order = ranks_by piece_cmp_total (λ (p : Piece). p)

pub at_most : (ps : List Piece) → IsSorted piece_cmp ps → (i j : ℕ) (d : Piece) → i ≤ j → j < length ps → IsAtMost (get_or ps i d) (get_or ps j d)
at_most ps up i j d le h = not_less (piece_cmp (get_or ps j d) (get_or ps i d)) (sorted_far (λ p q. is_lt (piece_cmp p q)) weak_order ps up i j d le h)

pub Rises-sorted : (ps : List Piece) → IsSorted piece_cmp ps → Rises IsAtMost ps
Rises-sorted ps up = Rises-AllPairs IsAtMost ps (λ i j d lt h. at_most ps up i j d (omega arith) h)

pub before_unless_same : (p q : Piece) → IsAtMost p q → (p ≡ q → ⊥) → IsBefore p q
before_unless_same p q le ne = by (piece_cmp p q) refl
  where
    by : (r : Ordering) → piece_cmp p q ≡ r → piece_cmp p q ≡ Less
    by Less e = e
    by Equal e = absurd (ne (same_piece p q e))
    by Greater e = absurd (le (rw e at (piece_cmp_total.antisymm q p)))

-- ---- entries of a piece's directory

pub entry-before : (piece : Piece) (one other : PathName) → name_cmp one other ≡ Less → IsBefore (piece_in piece one) (piece_in piece other)
entry-before piece one other before =
    ap (λ o. ordering_then o (path_cmp (child_path piece.dir one) (child_path piece.dir other))) (tied_itself nat_cmp_total piece.space)
    ∙ fork_before name_cmp nat_list_cmp_total piece.dir one other [] [] before

-- those whose names rise are lawful kids
module _ {X : Type 0} (name : X → PathName) (piece : Piece) where
  abbrev NameBefore : X → X → Type 0
  NameBefore one other = name_cmp (name one) (name other) ≡ Less

  abbrev piece_of : X → Piece
  piece_of entry = piece_in piece (name entry)

  entries-rise : (entries : List X) → Rises NameBefore entries → Rises IsBefore (map piece_of entries)
  entries-rise [] up = tt
  entries-rise (entry ∷ entries) up = (
    (λ kid h.
        let other = In-map-cases piece_of kid entries h in
        subst (IsBefore (piece_of entry)) (sym other.1.1) (entry-before piece (name entry) (name other.0) (up.0 other.0 other.1.0))),
    entries-rise entries up.1,
  )

  pub entries-lawful : (entries : List X) → Rises (λ one other. name_cmp (name one) (name other) ≡ Less) entries → AreLawfulKids piece (map (λ entry. piece_in piece (name entry)) entries)
  entries-lawful entries up = record {
    below = All-Every (IsOneBelow piece) (map piece_of entries) (λ kid h.
        let one = In-map-cases piece_of kid entries h in
        subst (IsOneBelow piece) (sym one.1.1) (refl, (name one.0, refl)));
    ascend = AllPairs-Rises IsBefore (map piece_of entries) (entries-rise entries up);
  }
