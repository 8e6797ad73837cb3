-- The doubles among directories are only those by the places of moved ones.
use Rattle.std.proofs.Common.{◌≡◌, inl, inr, Bool, true, false, cond, Option, Some, None, List, [], ◌∷◌, ◌++◌, refl, sym, ap, ◌∙◌, subst}
use Rattle.std.specs.Prelude.{◌&&◌, ◌||◌}
use Rattle.std.proofs.Math.Bool.{or-true}
use Rattle.ovl_names.specs.Paths.{PathNames}
use Rattle.ovl_board.proofs.LawsOfMembers.{In}
use Rattle.ovl_check.specs.declared.findings.Finding.{Finding}
use Rattle.ovl_check.specs.declared.findings.Code.TheVariants.{RedirectDouble}
use Rattle.ovl_check.specs.Findings.{finding}
use Rattle.ovl_check.specs.Walks.{View, is_among, double_at, places_with, moved_places, if_sought, doubles_after, doubles_among}
use Rattle.ovl_check.proofs.DoubleLemmas.{among-In, In-among, with-cases, with-old, with-new}

-- ---- the places where moved directories go on

moved-old : (q : PathNames) (places : List PathNames) (views : List View) → In q places → In q (moved_places places views)
moved-old q places [] h = h
moved-old q places (v ∷ views) h = moved-old q (cond v.seen.moved (places_with places v.seen.place) places) views (by v.seen.moved)
  where
    by : (b : Bool) → In q (cond b (places_with places v.seen.place) places)
    by true = with-old q places v.seen.place h
    by false = h

moved-in : (places : List PathNames) (views : List View) (v : View) → In v views → v.seen.moved ≡ true → (q : PathNames) → v.seen.place ≡ Some q → In q (moved_places places views)
moved-in places [] v h moved q is = absurd h
moved-in places (w ∷ views) v (inl e) moved q is =
    subst (λ (b : Bool). In q (moved_places (cond b (places_with places w.seen.place) places) views))
    (sym (ap (λ (x : View). x.seen.moved) (sym e) ∙ moved))
    (moved-old q (places_with places w.seen.place) views (with-new q places w.seen.place (ap (λ (x : View). x.seen.place) (sym e) ∙ is)))
moved-in places (w ∷ views) v (inr k) moved q is = moved-in (cond w.seen.moved (places_with places w.seen.place) places) views v k moved q is

-- ---- the doubles, where no other places count

module _ (wanted : List PathNames) where
  -- two lists of places have the same of those that count
  abbrev Agree : List PathNames → List PathNames → Type 0
  Agree places kept = (q : PathNames) → In q wanted → (In q places → In q kept) × (In q kept → In q places)

  -- a place that counts is noted, whether its directory is moved or not
  is-sought : (moved : Bool) (p : PathNames) → In p wanted → (moved || is_among wanted p) ≡ true
  is-sought moved p h = ap (λ b. moved || b) (In-among wanted p h) ∙ or-true moved

  agree-with : (places kept : List PathNames) (moved : Bool) (o : Option PathNames) → Agree places kept → Agree (places_with places o) (places_with kept (if_sought wanted moved o))
  agree-with places kept moved None agree = agree
  agree-with places kept moved (Some p) agree = by (moved || is_among wanted p) refl
    where
      by : (b : Bool) → (moved || is_among wanted p) ≡ b → Agree (places_with places (Some p)) (places_with kept (cond b (Some p) None))
      by true e = λ q h. (
        λ there. elim (with-cases q places (Some p) there) [ inl is ↦ with-new q kept (Some p) is | inr k ↦ with-old q kept (Some p) ((agree q h).0 k) ],
        λ there. elim (with-cases q kept (Some p) there) [ inl is ↦ with-new q places (Some p) is | inr k ↦ with-old q places (Some p) ((agree q h).1 k) ],
      )
      by false e = λ q h. (
        λ there. elim (with-cases q places (Some p) there) [
          | inl is ↦
              let same : p ≡ q = ap (λ (o : Option PathNames). elim o as (λ _. PathNames) [ Some r ↦ r | None ↦ p ]) is in
              let bad : true ≡ false = sym (is-sought moved p (subst (λ (r : PathNames). In r wanted) (sym same) h)) ∙ e in cc
          | inr k ↦ (agree q h).0 k
        ],
        λ there. with-old q places (Some p) ((agree q h).1 there),
      )

  -- a place that counts is among the one exactly if it is among the other
  among-same : (places kept : List PathNames) → Agree places kept → (q : PathNames) → In q wanted → is_among places q ≡ is_among kept q
  among-same places kept agree q h = by (is_among places q) refl (is_among kept q) refl
    where
      by : (b : Bool) → is_among places q ≡ b → (c : Bool) → is_among kept q ≡ c → b ≡ c
      by true e true f = refl
      by false e false f = refl
      by true e false f = sym (In-among kept q ((agree q h).0 (among-In places q e))) ∙ f
      by false e true f = sym e ∙ In-among places q ((agree q h).1 (among-In kept q f))

  double-same : (places kept : List PathNames) → Agree places kept → (v : View) (o : Option PathNames) → (v.seen.moved ≡ true → (q : PathNames) → o ≡ Some q → In q wanted) → double_at kept v (if_sought wanted v.seen.moved o) ≡ double_at places v o
  double-same places kept agree v None moved = refl
  double-same places kept agree v (Some p) moved = by v.seen.moved refl
    where
      one : List Finding
      one = finding v.piece.space v.piece.dir RedirectDouble ∷ []

      of_other : (b : Bool) → v.seen.moved ≡ false → double_at kept v (cond b (Some p) None) ≡ []
      of_other true m = ap (λ c. cond (c && is_among kept p) one []) m
      of_other false m = refl

      by : (m : Bool) → v.seen.moved ≡ m → double_at kept v (if_sought wanted v.seen.moved (Some p)) ≡ double_at places v (Some p)
      by true m =
          let h = moved m p refl in
          ap (λ b. double_at kept v (cond b (Some p) None)) (is-sought v.seen.moved p h)
          ∙ ap (λ b. cond (v.seen.moved && b) one []) (sym (among-same places kept agree p h))
      by false m = of_other (v.seen.moved || is_among wanted p) m ∙ sym (ap (λ c. cond (c && is_among places p) one []) m)

  among-after : (places kept : List PathNames) → Agree places kept → (views : List View) → ((v : View) → In v views → v.seen.moved ≡ true → (q : PathNames) → v.seen.place ≡ Some q → In q wanted) → doubles_among wanted kept views ≡ doubles_after places views
  among-after places kept agree [] moved = refl
  among-after places kept agree (v ∷ views) moved =
      let here = double-same places kept agree v v.seen.place (moved v (inl refl)) in
      let later = among-after (places_with places v.seen.place) (places_with kept (if_sought wanted v.seen.moved v.seen.place)) (agree-with places kept v.seen.moved v.seen.place agree) views (λ w k. moved w (inr k)) in
      λ j. here j ++ later j

pub doubles-among_moved : (views : List View) → doubles_among (moved_places [] views) [] views ≡ doubles_after [] views
doubles-among_moved views = among-after (moved_places [] views) [] [] (λ q h. (λ k. k, λ k. k)) views (λ v h. moved-in [] views v h)
