-- Two lists in one, name by name.
use Rattle.std.proofs.Common.{◌≡◌, List, [], ◌∷◌, ◌++◌, map, sym, ap, ◌∙◌, subst, append_assoc, inl, inr, ◌⊎◌}
use Rattle.std.specs.Ordering.{match_ordering}
use Rattle.std.proofs.lemmas.List.{append-nil, map-append}
use Rattle.std.specs.declared.cmp.Ordering.{Ordering}
use Rattle.std.specs.declared.cmp.Ordering.TheVariants.{Less, Equal, Greater}
use Rattle.ovl_names.specs.Names.{PathName, name_cmp}
use Rattle.ovl_lookup.specs.NamedLists.{AreInOrder, both_joined}
use Rattle.ovl_lookup.proofs.LawsOfNamedLists.{parts, both-next, both-none}

module _ {T X : Type 0} (told : T → PathName × X) (joined : X → X → X) (upper lower : List T) where
  abbrev joined_of : List T → List T → List (PathName × X)
  joined_of above below = both_joined joined (map told above) (map told below)

  -- what is in one so far, and what is left of both
  pub record AreJoined (both above below : List T) : Type 0 where
    pub in_order : AreInOrder (map told below)
    pub all : map told both ++ joined_of above below ≡ joined_of upper lower

  module _ (both above below : List T) (are : AreJoined both above below) (one other : T) (more further : List T) (first : above ≡ one ∷ more) (second : below ≡ other ∷ further) where
    rest : AreInOrder (told other ∷ map told further)
    rest = subst (λ (ts : List T). AreInOrder (map told ts)) second are.in_order

    next : (o : Ordering) → name_cmp (told one).0 (told other).0 ≡ o → joined_of above below ≡ match_ordering o (told one ∷ joined_of more below) (((told one).0, joined (told one).1 (told other).1) ∷ joined_of more further) (told other ∷ joined_of above further)
    next o e =
        (λ k. joined_of (first k) (second k))
        ∙ (both-next joined (told one) (map told more) (told other) (map told further) rest o e
        ∙ (λ k. match_ordering o (told one ∷ joined_of more (sym second k)) (((told one).0, joined (told one).1 (told other).1) ∷ joined_of more further) (told other ∷ joined_of (sym first k) further)))

    with_next : (after : List T) (new : T) (left : List (PathName × X)) → after ≡ both ++ new ∷ [] → joined_of above below ≡ told new ∷ left → map told after ++ left ≡ joined_of upper lower
    with_next after new left is e =
        ap (λ (ts : List (PathName × X)). ts ++ left) (ap (map told) is ∙ map-append told both (new ∷ []))
        ∙ (append_assoc (map told both) (told new ∷ []) left
        ∙ (ap (λ (ts : List (PathName × X)). map told both ++ ts) (sym e) ∙ are.all))

    pub upper_next : (after : List T) → after ≡ both ++ one ∷ [] → name_cmp (told one).0 (told other).0 ≡ Less → AreJoined after more below
    upper_next after is e = record { in_order = are.in_order; all = with_next after one (joined_of more below) is (next Less e) }

    pub lower_next : (after : List T) → after ≡ both ++ other ∷ [] → name_cmp (told one).0 (told other).0 ≡ Greater → AreJoined after above further
    lower_next after is e = record { in_order = (parts (told other) (map told further) rest).1; all = with_next after other (joined_of above further) is (next Greater e) }

    pub both_next : (after : List T) (new : T) → after ≡ both ++ new ∷ [] → told new ≡ ((told one).0, joined (told one).1 (told other).1) → name_cmp (told one).0 (told other).0 ≡ Equal → AreJoined after more further
    both_next after new is same e = record {
      in_order = (parts (told other) (map told further) rest).1;
      all = with_next after new (joined_of more further) is (next Equal e ∙ ap (λ (t : PathName × X). t ∷ joined_of more further) (sym same));
    }

  -- where one of the lists has no more
  pub all_joined : (both above below : List T) → AreJoined both above below → (above ≡ []) ⊎ (below ≡ []) → map told ((both ++ above) ++ below) ≡ joined_of upper lower
  all_joined both above below are ended =
      ap (map told) (append_assoc both above below)
      ∙ (map-append told both (above ++ below)
      ∙ (ap (λ (ts : List (PathName × X)). map told both ++ ts) (by ended) ∙ are.all))
    where
      by : (above ≡ []) ⊎ (below ≡ []) → map told (above ++ below) ≡ joined_of above below
      by (inl none) = (λ k. map told (none k ++ below)) ∙ (sym (both-none joined (map told below) are.in_order) ∙ (λ k. joined_of (sym none k) below))
      by (inr none) = (λ k. map told (above ++ none k)) ∙ (ap (map told) (append-nil above) ∙ (λ k. joined_of above (sym none k)))
