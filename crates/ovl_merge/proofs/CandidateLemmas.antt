-- The names in a directory that may have an entry: where the walks of names that neither layer has there go on, no other
-- has one.
use Rattle.std.proofs.Common.{◌≡◌, ℕ, ◌+◌, ◌<◌, length, get_or, take, Bool, true, false, cond, Option, Some, None, is_some, List, [], ◌∷◌, ◌++◌, refl, sym, ap, ◌∙◌, subst}
use Rattle.std.specs.Prelude.{◌||◌, ◌&&◌, not, is_none, IfSome}
use Rattle.std.specs.Option.{option_map, option_and_then, option_or}
use Rattle.std.specs.List.{All, AllByRecursion, cons_option, filter_map, list_any}
use Rattle.std.proofs.lemmas.List.{map-append, take_more}
use Rattle.std.proofs.lemmas.List.Folds.{list_any-append}
use Rattle.std.proofs.lemmas.List.Elements.{All-from_recursion, filter_map-append}
use Rattle.ovl_names.specs.Names.{PathName, name_eq, name_cmp}
use Rattle.ovl_names.specs.Paths.{PathNames, child_path, parent_path}
use Rattle.ovl_names.specs.Order.{ascends}
use Rattle.ovl_inode.specs.declared.inodes.Inode.{Inode}
use Rattle.ovl_layer.specs.Layers.{Entries, IsLayer, entry_at, names_below}
use Rattle.ovl_lookup.specs.declared.steps.Step.{Step}
use Rattle.ovl_lookup.specs.Walk.{walk, nothing_found}
use Rattle.ovl_lookup.specs.NamedLists.{both_joined, names_of}
use Rattle.ovl_lookup.specs.Passes.{own_names_along}
use Rattle.ovl_names.specs.NameSets.{put_names}
use Rattle.ovl_lookup.proofs.LawsOfWalks.{walk-child_end, passes-over}
use Rattle.ovl_lookup.proofs.LawsOfKids.{kids-ascend, kid-names-ascend}
use Rattle.ovl_names.proofs.LawsOfNameSets.{ascends-put, any-put}
use Rattle.ovl_lookup.proofs.LawsOfNamedLists.{at, each-own, names_of-both}
use Rattle.ovl_rewrite.specs.Directories.{NamedInode}
use Rattle.ovl_merge.specs.declared.stands.Stand.{Stand}
use Rattle.ovl_merge.specs.declared.candidates.Candidate.{Candidate}
use Rattle.ovl_merge.specs.declared.candidates.Side.{Side}
use Rattle.ovl_merge.specs.declared.candidates.Side.TheVariants.{Upper, Lower}
use Rattle.ovl_merge.specs.declared.directories.Directory.{Directory}
use Rattle.ovl_merge.specs.Places.{Merge, two_layers, lower_path, first_hit, shows_own_directory, shows_at, natural, base}
use Rattle.ovl_merge.specs.MergeDown.{merged_entry, merged_entry_of, new_whiteout}
use Rattle.ovl_merge.specs.Directories.{named_inode, base_names, entries_in}
use Rattle.ovl_merge.specs.Stands.{StandsAt, IsRowAt, next_lookup_on, step_next_lookup}
use Rattle.ovl_merge.specs.Reckoned.{IsBelow, next_lookup_at, upper_next_lookup}
use Rattle.ovl_merge.specs.Candidates.{Rowed, AreCandidates, AreRowsOf, IsCandidate, candidate_told, candidates_told, hidden_names, joined, row_at, row_on, unrowed}
use Rattle.ovl_merge.proofs.Firsts.{first_hit-steps, first_step}
use Rattle.ovl_merge.proofs.NameLists.{put-none, put-unentered}
use Rattle.ovl_merge.proofs.RowLists.{names-unrowed, or-nothing, rows-both, rows-unrowed}
use Rattle.ovl_merge.proofs.StandLemmas.{own-next_lookup, unnamed}
use Rattle.ovl_merge.proofs.VisitLemmas.{own-names}

-- ---- in one layer

module _ (layer : Entries) (is : IsLayer layer) (path : PathNames) (name : PathName) (place : PathNames) where
  opened : (closed : Bool) (next : PathNames) → Some place ≡ next_lookup_on next closed → closed ≡ false
  opened true next e = let bad : Some place ≡ None = e in cc
  opened false next e = refl

  -- a name that the layer doesn't have there is passed
  passed-by : (row : Option ℕ) → StandsAt layer path row (Some place) → entry_at layer (child_path path name) ≡ None
      → ((walk layer (child_path path name)).found ≡ None) × ((walk layer (child_path path name)).closed ≡ false)
  passed-by row stands none = passed (step row stands)
    where
      Goes : Type 0
      Goes = (next : PathNames) × (closed : Bool) × (Some place ≡ next_lookup_on next closed) × (walk layer (child_path path name) ≡ nothing_found (child_path next name) closed)

      step : (row : Option ℕ) → StandsAt layer path row (Some place) → Goes
      step (Some row) stands = ((walk layer path).next, (walk layer path).closed, own-next_lookup layer path row (Some place) stands, walk-child_end layer path name is None stands.arrival.directory none refl [])
      step None stands = (stands.next_lookup, stands.closed, stands.told, stands.arrival.below name [])

      passed : Goes → ((walk layer (child_path path name)).found ≡ None) × ((walk layer (child_path path name)).closed ≡ false)
      passed (next, closed, told, walked) = (ap (λ (s : Step). s.found) walked, ap (λ (s : Step). s.closed) walked ∙ opened closed next told)

-- ---- in both

-- where both walks find nothing and are onwards, nothing is entered
passed-both : (m : Merge) (path : PathNames) → ((walk m.upper path).found ≡ None) × ((walk m.upper path).closed ≡ false) → ((walk m.lower (lower_path m path)).found ≡ None) × ((walk m.lower (lower_path m path)).closed ≡ false) → merged_entry m path ≡ None
passed-both m path upper lower =
    let hit : first_hit m path ≡ None = first_hit-steps m path ∙ (λ j. first_step (upper.0 j) (upper.1 j) (first_step (lower.0 j) (lower.1 j) None)) in
    ap (merged_entry_of m path) hit
    ∙ (λ j. cond (is_none (hit j) && not (not (upper.1 j) && not (lower.1 j)) && shows_own_directory m (parent_path path) && shows_at m.rest (natural m path)) (Some new_whiteout) None)

or_true : (b : Bool) → (b || true) ≡ true
or_true true = refl
or_true false = refl

module _ (m : Merge) (upper : IsLayer m.upper) (lower : IsLayer m.lower) (dir : PathNames) where
  -- each entry has a name that one of the layers has there
  module _ (above : Option ℕ) (place : PathNames) (here : StandsAt m.upper dir above (Some place)) (goes : Some place ≡ step_next_lookup (walk m.upper dir))
      (below : Option ℕ) (rest : PathNames) (there : StandsAt m.lower place below (Some rest)) where
    opened-there : ((walk m.upper dir).closed ≡ false) × (place ≡ lower_path m dir)
    opened-there = by (walk m.upper dir).closed goes
      where
        by : (closed : Bool) → Some place ≡ next_lookup_on (lower_path m dir) closed → (closed ≡ false) × (place ≡ lower_path m dir)
        by true e = let bad : Some place ≡ None = e in cc
        by false e = let same : place ≡ lower_path m dir = cc in (refl, same)

    own-entry : (name : PathName) (inode : Inode) → merged_entry m (child_path dir name) ≡ Some inode → list_any (name_eq name) (own_names_along (two_layers m).layers dir) ≡ true
    own-entry name inode entry = parts ∙ by (list_any (name_eq name) (names_below m.upper dir)) refl
      where
        more : List PathName
        more = cond (walk m.upper dir).closed [] (names_below m.lower (lower_path m dir) ++ cond (walk m.lower (lower_path m dir)).closed [] [])

        parts : list_any (name_eq name) (own_names_along (two_layers m).layers dir) ≡ (list_any (name_eq name) (names_below m.upper dir) || list_any (name_eq name) more)
        parts = list_any-append (name_eq name) (names_below m.upper dir) more

        named : list_any (name_eq name) (names_below m.lower place) ≡ true → list_any (name_eq name) more ≡ true
        named own =
            ap (λ (b : Bool). list_any (name_eq name) (cond b [] (names_below m.lower (lower_path m dir) ++ cond (walk m.lower (lower_path m dir)).closed [] []))) opened-there.0
            ∙ (list_any-append (name_eq name) (names_below m.lower (lower_path m dir)) (cond (walk m.lower (lower_path m dir)).closed [] [])
            ∙ ap (λ (b : Bool). b || list_any (name_eq name) (cond (walk m.lower (lower_path m dir)).closed [] [])) (ap (λ (p : PathNames). list_any (name_eq name) (names_below m.lower p)) (sym opened-there.1) ∙ own))

        under : ((walk m.upper (child_path dir name)).found ≡ None) × ((walk m.upper (child_path dir name)).closed ≡ false) → (b : Bool) → list_any (name_eq name) (names_below m.lower place) ≡ b → list_any (name_eq name) more ≡ true
        under passed true own = named own
        under passed false own =
            let over = passes-over m.upper dir name upper passed.0 passed.1 in
            let same : child_path place name ≡ lower_path m (child_path dir name) = ap (λ (p : PathNames). child_path p name) opened-there.1 ∙ sym over.next in
            let low = passed-by m.lower lower place name rest below there (unnamed m.lower place name own) in
            let none : merged_entry m (child_path dir name) ≡ None =
            passed-both m (child_path dir name) passed (subst (λ (p : PathNames). ((walk m.lower p).found ≡ None) × ((walk m.lower p).closed ≡ false)) same low) in
            let bad : None ≡ Some inode = sym none ∙ entry in cc

        by : (b : Bool) → list_any (name_eq name) (names_below m.upper dir) ≡ b → (list_any (name_eq name) (names_below m.upper dir) || list_any (name_eq name) more) ≡ true
        by true own = ap (λ (b : Bool). b || list_any (name_eq name) more) own
        by false own =
            ap (λ (b : Bool). list_any (name_eq name) (names_below m.upper dir) || b)
            (under (passed-by m.upper upper dir name place above here (unnamed m.upper dir name own)) (list_any (name_eq name) (names_below m.lower place)) refl)
            ∙ or_true (list_any (name_eq name) (names_below m.upper dir))

    own-entries : filter_map (named_inode m dir) (put_names [] (own_names_along (two_layers m).layers dir)) ≡ entries_in m dir
    own-entries =
        let own = put_names [] (own_names_along (two_layers m).layers dir) in
        sym (put-unentered (named_inode m dir) own (base_names m.rest (base m dir)) (ascends-put [] (own_names_along (two_layers m).layers dir) refl) has)
      where
        has : (name : PathName) (entry : NamedInode) → named_inode m dir name ≡ Some entry → list_any (name_eq name) (put_names [] (own_names_along (two_layers m).layers dir)) ≡ true
        has name entry e = any-put name [] (own_names_along (two_layers m).layers dir) ∙ by (merged_entry m (child_path dir name)) refl e
          where
            by : (found : Option Inode) → merged_entry m (child_path dir name) ≡ found → option_map (λ inode. (name, inode)) found ≡ Some entry → list_any (name_eq name) (own_names_along (two_layers m).layers dir) ≡ true
            by None f none = let bad : None ≡ Some entry = none in cc
            by (Some inode) f some = own-entry name inode f

  -- the same, by what is kept of the directory
  pub open-entries : (row : Option ℕ) (next : Option PathNames) → StandsAt m.upper dir row next → next ≡ step_next_lookup (walk m.upper dir) → (below : Option Stand) → IsBelow m.lower next below → is_some (next_lookup_at below) ≡ true
      → filter_map (named_inode m dir) (put_names [] (own_names_along (two_layers m).layers dir)) ≡ entries_in m dir
  open-entries row next here goes None there next_lookups = let bad : false ≡ true = next_lookups in cc
  open-entries row None here goes (Some below) there next_lookups = absurd there
  open-entries row (Some place) here goes (Some below) there next_lookups = by below.next there next_lookups
    where
      by : (rest : Option PathNames) → StandsAt m.lower place below.row rest → is_some rest ≡ true → filter_map (named_inode m dir) (put_names [] (own_names_along (two_layers m).layers dir)) ≡ entries_in m dir
      by None there next_lookups = let bad : false ≡ true = next_lookups in cc
      by (Some rest) there next_lookups = own-entries row place here goes below.row rest there

-- ---- the rows of one layer

pub rows-ascend : (side : Side) (layer : Entries) → IsLayer layer → (path : PathNames) (told : Rowed) → AreRowsOf side layer path told → ascends name_cmp (names_of told) ≡ true
rows-ascend side layer is path told rows = ap (ascends name_cmp) rows.below ∙ kid-names-ascend layer path is.in_order

-- ---- the names that are hidden

module _ (m : Merge) (directory : Directory) where
  pub hidden-entries : IsLayer m.upper → IsLayer m.lower → StandsAt m.upper directory.path directory.upper (upper_next_lookup m directory.path) → IsBelow m.lower (upper_next_lookup m directory.path) directory.lower
      → filter_map (named_inode m directory.path) (put_names (put_names [] (own_names_along (two_layers m).layers directory.path)) (hidden_names m directory)) ≡ entries_in m directory.path
  hidden-entries upper lower here below = by (is_some (next_lookup_at directory.lower)) refl
    where
      by : (b : Bool) → is_some (next_lookup_at directory.lower) ≡ b
          → filter_map (named_inode m directory.path) (put_names (put_names [] (own_names_along (two_layers m).layers directory.path)) (cond b [] (base_names m.rest (base m directory.path)))) ≡ entries_in m directory.path
      by true e = open-entries m upper lower directory.path directory.upper (upper_next_lookup m directory.path) here refl directory.lower below e
      by false e = refl

  pub hidden-ascend : ascends name_cmp (hidden_names m directory) ≡ true
  hidden-ascend = by (is_some (next_lookup_at directory.lower))
    where
      based : (place : Option PathNames) → ascends name_cmp (base_names m.rest place) ≡ true
      based None = refl
      based (Some place) = kids-ascend m.rest place

      by : (b : Bool) → ascends name_cmp (cond b [] (base_names m.rest (base m directory.path))) ≡ true
      by true = refl
      by false = based (base m directory.path)

  -- ---- names with their rows

  -- only those of the upper layer
  pub upper-candidates : IsLayer m.upper → upper_next_lookup m directory.path ≡ None → (names : Rowed) → AreRowsOf Upper m.upper directory.path names
      → AreCandidates m directory (put_names [] (own_names_along (two_layers m).layers directory.path)) names
  upper-candidates upper none names are = record {
    all = are.below ∙ (sym (put-none (names_below m.upper directory.path) (kid-names-ascend m.upper directory.path upper.in_order)) ∙ own-names m directory.path None (sym none));
    rows = λ name. record {
      upper = are.own name;
      lower = subst (λ (o : Option PathNames). IfSome o (λ below. IsRowAt m.lower (child_path below name) (row_at Lower name names))) (sym none) tt;
    };
  }

  -- and of the lower one
  pub both-candidates : IsLayer m.upper → IsLayer m.lower → (place : PathNames) → upper_next_lookup m directory.path ≡ Some place → (one other : Rowed) → AreRowsOf Upper m.upper directory.path one → AreRowsOf Lower m.lower place other
      → AreCandidates m directory (put_names [] (own_names_along (two_layers m).layers directory.path)) (both_joined joined one other)
  both-candidates upper lower place on one other above beneath = record {
    all =
        names_of-both joined one other
        ∙ ((λ j. put_names (above.below j) (beneath.below j))
        ∙ (ap (λ (own : List PathName). put_names own (names_below m.lower place)) (sym (put-none (names_below m.upper directory.path) (kid-names-ascend m.upper directory.path upper.in_order)))
        ∙ own-names m directory.path (Some place) (sym on)));
    rows = λ name. record {
      upper = subst (IsRowAt m.upper (child_path directory.path name)) (sym (rows Upper name ∙ or-nothing (row_at Upper name one) (row_at Upper name other) (beneath.other name))) (above.own name);
      lower =
          subst (λ (o : Option PathNames). IfSome o (λ below. IsRowAt m.lower (child_path below name) (row_at Lower name (both_joined joined one other)))) (sym on)
          (subst (IsRowAt m.lower (child_path place name)) (sym (rows Lower name ∙ ap (λ (o : Option ℕ). option_or o (row_at Lower name other)) (above.other name))) (beneath.own name));
    };
  }
    where
      rows : (side : Side) (name : PathName) → row_at side name (both_joined joined one other) ≡ option_or (row_at side name one) (row_at side name other)
      rows side name = rows-both side name one other (rows-ascend Upper m.upper upper directory.path one above) (rows-ascend Lower m.lower lower place other beneath)

  -- with those that are hidden
  pub hidden-candidates : (names hidden : List PathName) → ascends name_cmp names ≡ true → ascends name_cmp hidden ≡ true → (own : Rowed) → AreCandidates m directory names own → AreCandidates m directory (put_names names hidden) (both_joined joined own (unrowed hidden))
  hidden-candidates names hidden up also own is = record {
    all = names_of-both joined own (unrowed hidden) ∙ (λ j. put_names (is.all j) (names-unrowed hidden j));
    rows = λ name. record {
      upper = subst (IsRowAt m.upper (child_path directory.path name)) (sym (kept Upper name)) (is.rows name).upper;
      lower = subst (λ (row : Option ℕ). IfSome (upper_next_lookup m directory.path) (λ below. IsRowAt m.lower (child_path below name) row)) (sym (kept Lower name)) (is.rows name).lower;
    };
  }
    where
      kept : (side : Side) (name : PathName) → row_at side name (both_joined joined own (unrowed hidden)) ≡ row_at side name own
      kept side name =
          rows-both side name own (unrowed hidden) (ap (ascends name_cmp) is.all ∙ up) (ap (ascends name_cmp) (names-unrowed hidden) ∙ also) ∙ or-nothing (row_at side name own) (row_at side name (unrowed hidden)) (rows-unrowed side name hidden)

  -- each by itself
  pub each-candidate : (items : List Candidate) (names : List PathName) → ascends name_cmp names ≡ true → AreCandidates m directory names (candidates_told items) → All (IsCandidate m directory) items
  each-candidate items names up is = All-from_recursion (IsCandidate m directory) items (by items (each-own (candidates_told items) (ap (ascends name_cmp) is.all ∙ up)))
    where
      by : (left : List Candidate) → AllByRecursion (λ own. at own.0 (candidates_told items) ≡ Some own.1) (candidates_told left) → AllByRecursion (IsCandidate m directory) left
      by [] all = tt
      by (candidate ∷ left) all =
          let above : row_at Upper candidate.name.now (candidates_told items) ≡ candidate.upper = ap (option_and_then (row_on Upper)) all.0 in
          let beneath : row_at Lower candidate.name.now (candidates_told items) ≡ candidate.lower = ap (option_and_then (row_on Lower)) all.0 in
          let rows = is.rows candidate.name.now in
          let one : IsCandidate m directory candidate = record {
            upper = subst (IsRowAt m.upper (child_path directory.path candidate.name.now)) above rows.upper;
            lower = subst (λ (row : Option ℕ). IfSome (upper_next_lookup m directory.path) (λ below. IsRowAt m.lower (child_path below candidate.name.now) row)) beneath rows.lower;
          } in
          (one, by left all.1)

-- ---- one after another

pub candidate-at : (m : Merge) (directory : Directory) (lent items : List Candidate) → lent ≡ items → All (IsCandidate m directory) items → (j : ℕ) (candidate : Candidate) → j < length lent → candidate ≡ get_or lent j candidate → IsCandidate m directory candidate
candidate-at m directory lent items same all j candidate inside here =
    subst (IsCandidate m directory) (sym here) (subst (λ (candidates : List Candidate). All (IsCandidate m directory) candidates) (sym same) all j candidate inside)

-- the entries by one more name
pub listed-more : (m : Merge) (dir : PathNames) (items : List Candidate) (j : ℕ) (candidate : Candidate) → j < length items → candidate ≡ get_or items j candidate → (listed : List NamedInode) (found : Option Inode)
    → listed ≡ filter_map (named_inode m dir) (names_of (candidates_told (take j items))) → found ≡ merged_entry m (child_path dir candidate.name.now)
    → listed ++ cons_option (option_map (λ inode. (candidate.name.now, inode)) found) [] ≡ filter_map (named_inode m dir) (names_of (candidates_told (take (j + 1) items)))
listed-more m dir items j candidate inside here listed found so_far is =
    (λ k. so_far k ++ cons_option (option_map (λ inode. (candidate.name.now, inode)) (is k)) [])
    ∙ sym (ap (filter_map (named_inode m dir)) more ∙ filter_map-append (named_inode m dir) (names_of (candidates_told (take j items))) (candidate.name.now ∷ []))
  where
    more : names_of (candidates_told (take (j + 1) items)) ≡ names_of (candidates_told (take j items)) ++ candidate.name.now ∷ []
    more =
        ap (λ (candidates : List Candidate). names_of (candidates_told candidates)) (take_more items j candidate inside ∙ ap (λ (c : Candidate). take j items ++ c ∷ []) (sym here))
        ∙ (ap names_of (map-append candidate_told (take j items) (candidate ∷ []))
        ∙ map-append (λ name. name.0) (candidates_told (take j items)) (candidate_told candidate ∷ []))

-- a sheet's rows are those of the layer that it is
pub rows-there : (side : Side) (layer sheet : Entries) → layer ≡ sheet → (told : Rowed) (row : Option ℕ) (path : PathNames) (next : Option PathNames) → StandsAt layer path row next
    → ((path : PathNames) (next : Option PathNames) → StandsAt sheet path row next → AreRowsOf side sheet path told) → AreRowsOf side layer path told
rows-there side layer sheet same told row path next stands are =
    subst (λ (l : Entries). AreRowsOf side l path told) (sym same) (are path next (subst (λ (l : Entries). StandsAt l path row next) same stands))
