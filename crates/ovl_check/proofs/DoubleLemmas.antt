-- The doubles among directories in their order.
use Rattle.std.proofs.Common.{◌≡◌, ◌⊎◌, inl, inr, Bool, true, false, cond, Option, Some, None, List, [], ◌∷◌, reverse, refl, sym, ap, ◌∙◌, subst}
use Rattle.std.specs.Prelude.{◌&&◌, ◌||◌}
use Rattle.std.specs.BTreeSet.{insert_key}
use Rattle.std.proofs.Math.Bool.{or-true}
use Rattle.std.specs.Ordering.{is_eq, match_ordering}
use Rattle.std.specs.Cmp.Lexicographic.{nat_list_cmp_total, lists_total}
use Rattle.std.specs.FinMap.{slice_cmp-IsAntisymmetric, nat_cmp-IsAntisymmetric}
use Rattle.std.specs.declared.cmp.Ordering.{Ordering}
use Rattle.std.specs.declared.cmp.Ordering.TheVariants.{Less, Equal, Greater}
use Rattle.std.proofs.lemmas.Cmp.{tied_itself}
use Rattle.std.proofs.lemmas.List.{reverse-reverse}
use Rattle.ovl_names.specs.Paths.{PathNames, path_cmp}
use Rattle.ovl_names.proofs.Ascending.{both}
use Rattle.ovl_lookup.specs.PathRopes.{rope_cmp}
use Rattle.ovl_board.specs.Pieces.{IsBefore}
use Rattle.ovl_board.proofs.LawsOfMembers.{In, Rises, In-left, In-right, In-cases}
use Rattle.ovl_board.proofs.LawsOfPieces.{before_trans, less_differs}
use Rattle.ovl_check.specs.declared.findings.Finding.{Finding}
use Rattle.ovl_check.specs.declared.findings.Code.TheVariants.{RedirectDouble}
use Rattle.ovl_check.specs.Findings.{finding}
use Rattle.ovl_check.specs.Walks.{View, is_among, double_at, places_with, doubles_after}

pub same_path : (p q : PathNames) → path_cmp p q ≡ Equal → p ≡ q
same_path = slice_cmp-IsAntisymmetric (slice_cmp-IsAntisymmetric nat_cmp-IsAntisymmetric)

pub same_rope : (p q : PathNames) → rope_cmp p q ≡ Equal → p ≡ q
same_rope p q is = sym (reverse-reverse p) ∙ (ap reverse (same_path (reverse p) (reverse q) is) ∙ reverse-reverse q)

pub equal : (o : Ordering) → is_eq o ≡ true → o ≡ Equal
equal Less e = let bad : false ≡ true = e in cc
equal Equal e = refl
equal Greater e = let bad : false ≡ true = e in cc

pub among-In : (places : List PathNames) (place : PathNames) → is_among places place ≡ true → In place places
among-In [] place is = let bad : false ≡ true = is in cc
among-In (other ∷ places) place is = by (among-In places place) (is_eq (rope_cmp place other)) refl is
  where
    by : (is_among places place ≡ true → In place places) → (b : Bool) → is_eq (rope_cmp place other) ≡ b → (b || is_among places place) ≡ true → In place (other ∷ places)
    by later true e is = inl (same_rope place other (equal (rope_cmp place other) e))
    by later false e is = inr (later is)

pub In-among : (places : List PathNames) (place : PathNames) → In place places → is_among places place ≡ true
In-among [] place h = absurd h
In-among (other ∷ places) place (inl e) = ap (λ b. b || is_among places place) (ap is_eq (ap (rope_cmp place) (sym e) ∙ tied_itself (lists_total nat_list_cmp_total) (reverse place)))
In-among (other ∷ places) place (inr h) = ap (λ b. is_eq (rope_cmp place other) || b) (In-among places place h) ∙ or-true (is_eq (rope_cmp place other))

insert-cases : (q place : PathNames) (places : List PathNames) → In q (insert_key rope_cmp places place) → (q ≡ place) ⊎ In q places
insert-cases q place [] (inl e) = inl e
insert-cases q place [] (inr h) = absurd h
insert-cases q place (first ∷ places) h = by (insert-cases q place places) (rope_cmp place first) h
  where
    by : (In q (insert_key rope_cmp places place) → (q ≡ place) ⊎ In q places) → (o : Ordering) → In q (match_ordering o (place ∷ first ∷ places) (first ∷ places) (first ∷ insert_key rope_cmp places place)) → (q ≡ place) ⊎ In q (first ∷ places)
    by later Less (inl e) = inl e
    by later Less (inr k) = inr k
    by later Equal k = inr k
    by later Greater (inl e) = inr (inl e)
    by later Greater (inr k) = elim (later k) [ inl e ↦ inl e | inr m ↦ inr (inr m) ]

insert-old : (q place : PathNames) (places : List PathNames) → In q places → In q (insert_key rope_cmp places place)
insert-old q place [] h = absurd h
insert-old q place (first ∷ places) h = by (insert-old q place places) (rope_cmp place first) h
  where
    by : (In q places → In q (insert_key rope_cmp places place)) → (o : Ordering) → In q (first ∷ places) → In q (match_ordering o (place ∷ first ∷ places) (first ∷ places) (first ∷ insert_key rope_cmp places place))
    by later Less k = inr k
    by later Equal k = k
    by later Greater (inl e) = inl e
    by later Greater (inr k) = inr (later k)

insert-new : (place : PathNames) (places : List PathNames) → In place (insert_key rope_cmp places place)
insert-new place [] = inl refl
insert-new place (first ∷ places) = by (insert-new place places) (rope_cmp place first) refl
  where
    by : In place (insert_key rope_cmp places place) → (o : Ordering) → rope_cmp place first ≡ o → In place (match_ordering o (place ∷ first ∷ places) (first ∷ places) (first ∷ insert_key rope_cmp places place))
    by later Less e = inl refl
    by later Equal e = inl (same_rope place first e)
    by later Greater e = inr later

pub with-cases : (q : PathNames) (places : List PathNames) (o : Option PathNames) → In q (places_with places o) → (o ≡ Some q) ⊎ In q places
with-cases q places None h = inr h
with-cases q places (Some place) h = elim (insert-cases q place places h) [ inl e ↦ inl (ap Some (sym e)) | inr k ↦ inr k ]

pub with-old : (q : PathNames) (places : List PathNames) (o : Option PathNames) → In q places → In q (places_with places o)
with-old q places None h = h
with-old q places (Some place) h = insert-old q place places h

pub with-new : (q : PathNames) (places : List PathNames) (o : Option PathNames) → o ≡ Some q → In q (places_with places o)
with-new q places o is = subst (λ (p : Option PathNames). In q (places_with places p)) (sym is) (insert-new q places)

abbrev pub ViewBefore : View → View → Type 0
ViewBefore a b = IsBefore a.piece b.piece

-- an earlier directory goes on at the place
abbrev pub Earlier : List View → View → PathNames → Type 0
Earlier views v q = (w : View) × (In w views × ((w.seen.place ≡ Some q) × ViewBefore w v))

-- a double at a directory, and where it goes on
pub record IsDoubleAt (places : List PathNames) (views : List View) (f : Finding) : Type 0 where
  pub view : View
  pub place : PathNames
  pub there : In view views
  pub moved : view.seen.moved ≡ true
  pub goes_on : view.seen.place ≡ Some place
  pub earlier : In place places ⊎ Earlier views view place
  pub is : f ≡ finding view.piece.space view.piece.dir RedirectDouble

at-cases : (places : List PathNames) (v : View) (o : Option PathNames) (f : Finding) → In f (double_at places v o) → (q : PathNames) × ((o ≡ Some q) × ((v.seen.moved ≡ true) × (In q places × (f ≡ finding v.piece.space v.piece.dir RedirectDouble))))
at-cases places v None f h = absurd h
at-cases places v (Some q) f h = by (v.seen.moved && is_among places q) refl h
  where
    by : (b : Bool) → (v.seen.moved && is_among places q) ≡ b → In f (cond b (finding v.piece.space v.piece.dir RedirectDouble ∷ []) []) → (r : PathNames) × ((Some q ≡ Some r) × ((v.seen.moved ≡ true) × (In r places × (f ≡ finding v.piece.space v.piece.dir RedirectDouble))))
    by true e (inl is) = let parts = both {a = v.seen.moved} {b = is_among places q} e in (q, (refl, (parts.0, (among-In places q parts.1, is))))
    by true e (inr k) = absurd k
    by false e k = absurd k

at-In : (places : List PathNames) (v : View) (q : PathNames) → v.seen.place ≡ Some q → v.seen.moved ≡ true → In q places → In (finding v.piece.space v.piece.dir RedirectDouble) (double_at places v v.seen.place)
at-In places v q goes_on moved h =
    subst (λ (o : Option PathNames). In (finding v.piece.space v.piece.dir RedirectDouble) (double_at places v o)) (sym goes_on)
    (subst (λ b. In (finding v.piece.space v.piece.dir RedirectDouble) (cond b (finding v.piece.space v.piece.dir RedirectDouble ∷ []) []))
    (sym (λ j. moved j && In-among places q h j)) (inl refl))

pub doubles-cases : (places : List PathNames) (views : List View) (f : Finding) → Rises ViewBefore views → In f (doubles_after places views) → IsDoubleAt places views f
doubles-cases places [] f up h = absurd h
doubles-cases places (v ∷ views) f up h = by (doubles-cases (places_with places v.seen.place) views f up.1) (In-cases f (double_at places v v.seen.place) (doubles_after (places_with places v.seen.place) views) h)
  where
    by : (In f (doubles_after (places_with places v.seen.place) views) → IsDoubleAt (places_with places v.seen.place) views f)
        → In f (double_at places v v.seen.place) ⊎ In f (doubles_after (places_with places v.seen.place) views) → IsDoubleAt places (v ∷ views) f
    by later (inl here) =
        let r = at-cases places v v.seen.place f here in
        record { view = v; place = r.0; there = inl refl; moved = r.1.1.0; goes_on = r.1.0; earlier = inl r.1.1.1.0; is = r.1.1.1.1 }
    by later (inr k) =
        let r = later k in
        record {
          view = r.view;
          place = r.place;
          there = inr r.there;
          moved = r.moved;
          goes_on = r.goes_on;
          is = r.is;
          earlier = elim r.earlier [
            | inl noted ↦ elim (with-cases r.place places v.seen.place noted) [ inl e ↦ inr (v, (inl refl, (e, up.0 r.view r.there))) | inr m ↦ inl m ]
            | inr w ↦ inr (w.0, (inr w.1.0, w.1.1))
          ];
        }

pub doubles-In : (places : List PathNames) (views : List View) (v : View) (q : PathNames) → Rises ViewBefore views → In v views → v.seen.place ≡ Some q → v.seen.moved ≡ true → In q places ⊎ Earlier views v q → In (finding v.piece.space v.piece.dir RedirectDouble) (doubles_after places views)
doubles-In places [] v q up h goes_on moved earlier = absurd h
doubles-In places (first ∷ views) v q up (inl e) goes_on moved earlier =
    In-left (finding v.piece.space v.piece.dir RedirectDouble) (double_at places first first.seen.place) (doubles_after (places_with places first.seen.place) views)
    (subst (λ (w : View). In (finding v.piece.space v.piece.dir RedirectDouble) (double_at places w w.seen.place)) e (at-In places v q goes_on moved noted))
  where
    noted : In q places
    noted = elim earlier [
      | inl m ↦ m
      | inr w ↦ elim w.1.0 [
        | inl same ↦ absurd (less_differs w.0.piece v.piece w.1.1.1 (ap (λ (x : View). x.piece) (same ∙ sym e)))
        | inr k ↦ absurd (less_differs v.piece v.piece (before_trans v.piece w.0.piece v.piece (subst (λ (x : View). IsBefore x.piece w.0.piece) (sym e) (up.0 w.0 k)) w.1.1.1) refl)
      ]
    ]
doubles-In places (first ∷ views) v q up (inr h) goes_on moved earlier =
    In-right (finding v.piece.space v.piece.dir RedirectDouble) (double_at places first first.seen.place) (doubles_after (places_with places first.seen.place) views)
    (doubles-In (places_with places first.seen.place) views v q up.1 h goes_on moved noted)
  where
    noted : In q (places_with places first.seen.place) ⊎ Earlier views v q
    noted = elim earlier [
      | inl m ↦ inl (with-old q places first.seen.place m)
      | inr w ↦ elim w.1.0 [
        | inl same ↦ inl (with-new q places first.seen.place (ap (λ (x : View). x.seen.place) (sym same) ∙ w.1.1.0))
        | inr k ↦ inr (w.0, (k, w.1.1))
      ]
    ]
