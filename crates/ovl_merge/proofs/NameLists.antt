-- Ascending lists of names, and names among them that have no entry.
use Rattle.std.proofs.Common.{◌≡◌, Bool, true, false, Option, Some, None, List, [], ◌∷◌, refl, sym, ap, ◌∙◌}
use Rattle.std.specs.Prelude.{◌||◌}
use Rattle.std.specs.List.{cons_option, filter_map, list_any}
use Rattle.std.specs.BTreeSet.{insert_key}
use Rattle.std.specs.Ordering.{match_ordering}
use Rattle.std.specs.declared.cmp.Ordering.{Ordering}
use Rattle.std.specs.declared.cmp.Ordering.TheVariants.{Less, Equal, Greater}
use Rattle.std.specs.Cmp.Lexicographic.{bytes_decides}
use Rattle.ovl_names.specs.Names.{PathName, name_eq, name_cmp}
use Rattle.ovl_names.specs.Order.{ascends}
use Rattle.ovl_names.specs.NameSets.{put_names}
use Rattle.ovl_lookup.proofs.LawsOfKids.{same-names}
use Rattle.ovl_names.proofs.LawsOfNameSets.{ascends-insert, ascends-put, any-insert, any-put}
use Rattle.ovl_rewrite.specs.Directories.{NamedInode}

-- put one after another, they are the same
pub put-none : (names : List PathName) → ascends name_cmp names ≡ true → put_names [] names ≡ names
put-none names up = same-names (put_names [] names) names (ascends-put [] names refl) up (λ name. any-put name [] names)

-- ---- a name among ascending ones

insert-has : (names : List PathName) (name : PathName) → ascends name_cmp names ≡ true → list_any (name_eq name) names ≡ true → insert_key name_cmp names name ≡ names
insert-has names name up has =
    same-names (insert_key name_cmp names name) names (ascends-insert name names up) up (λ other. any-insert other name names ∙ by other (name_eq other name) refl)
  where
    by : (other : PathName) → (b : Bool) → name_eq other name ≡ b → (b || list_any (name_eq other) names) ≡ list_any (name_eq other) names
    by other true e = sym (ap (λ (n : PathName). list_any (name_eq n) names) ((bytes_decides other name).0 e) ∙ has)
    by other false e = refl

-- ---- names without an entry

or_true : (b : Bool) → (b || true) ≡ true
or_true true = refl
or_true false = refl

module _ (entry : PathName → Option NamedInode) where
  insert-none : (names : List PathName) (name : PathName) → entry name ≡ None → filter_map entry (insert_key name_cmp names name) ≡ filter_map entry names
  insert-none [] name none = ap (λ (o : Option NamedInode). cons_option o []) none
  insert-none (first ∷ names) name none = by (name_cmp name first) (insert-none names name none)
    where
      by : (o : Ordering) → filter_map entry (insert_key name_cmp names name) ≡ filter_map entry names
          → filter_map entry (match_ordering o (name ∷ first ∷ names) (first ∷ names) (first ∷ insert_key name_cmp names name)) ≡ filter_map entry (first ∷ names)
      by Less later = ap (λ (o : Option NamedInode). cons_option o (filter_map entry (first ∷ names))) none
      by Equal later = refl
      by Greater later = ap (cons_option (entry first)) later

  -- where each entry's name is there already, more names make no entry
  pub put-unentered : (names more : List PathName) → ascends name_cmp names ≡ true → ((name : PathName) (own : NamedInode) → entry name ≡ Some own → list_any (name_eq name) names ≡ true)
      → filter_map entry (put_names names more) ≡ filter_map entry names
  put-unentered names [] up has = refl
  put-unentered names (name ∷ more) up has =
      put-unentered (insert_key name_cmp names name) more (ascends-insert name names up)
      (λ other own is. any-insert other name names ∙ (ap (λ b. name_eq other name || b) (has other own is) ∙ or_true (name_eq other name)))
      ∙ inserted (entry name) refl
    where
      inserted : (o : Option NamedInode) → entry name ≡ o → filter_map entry (insert_key name_cmp names name) ≡ filter_map entry names
      inserted None e = insert-none names name e
      inserted (Some own) e = ap (filter_map entry) (insert-has names name up (has name own e))
