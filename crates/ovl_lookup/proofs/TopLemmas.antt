-- The names in the directories of a view, each with the first place that has it, and what is shown there.
use Rattle.std.proofs.Common.{◌≡◌, ℕ, zero, suc, ◌+◌, ◌<◌, length, arith, Bool, true, false, cond, Option, Some, None, is_some, List, [], ◌∷◌, ◌++◌, drop, map, refl, sym, ap, ◌∙◌, subst}
use Rattle.std.specs.Prelude.{◌||◌, ◌&&◌, not, filter, slice_get, unwrap_or, IsSomeAnd}
use Rattle.std.specs.List.{All, AllByRecursion, list_all, list_any}
use Rattle.std.specs.Option.{option_and_then, option_or}
use Rattle.std.specs.Ordering.{is_lt}
use Rattle.std.specs.Cmp.Lexicographic.{bytes_decides}
use Rattle.std.proofs.Math.Bool.{and-false}
use Rattle.std.proofs.lemmas.Option.{get_or_from_slice_get, slice_get_within}
use Rattle.std.proofs.lemmas.List.Elements.{All-from_recursion}
use Rattle.std.proofs.lemmas.Map.Made.{is_some-lookup}
use Rattle.ovl_names.specs.Names.{PathName, name_eq, name_cmp}
use Rattle.ovl_names.specs.Paths.{PathNames, child_path}
use Rattle.ovl_names.specs.Order.{ascends}
use Rattle.ovl_names.proofs.Ascending.{both, ascends-filter}
use Rattle.ovl_inode.specs.declared.inodes.Inode.{Inode}
use Rattle.ovl_layer.specs.Layers.{Entries, IsLayer, entry_at, names_below}
use Rattle.ovl_lookup.specs.declared.looks.Look.{Look}
use Rattle.ovl_lookup.specs.Stacks.{StackView, from_layer}
use Rattle.ovl_lookup.specs.Merged.{look, shown_of, is_nothing}
use Rattle.ovl_lookup.specs.NamedLists.{AreInOrder, both_joined, names_of}
use Rattle.ovl_lookup.specs.Laws.{ViewsLook}
use Rattle.ovl_lookup.specs.Views.{ReachedDirectory, reached, entry_in, found_below}
use Rattle.ovl_lookup.specs.ViewPasses.{First, first_in, AreTops, upper_place, looks_from_tops, AreLooks}
use Rattle.ovl_lookup.proofs.LawsOfFound.{any_found, shown-any}
use Rattle.ovl_lookup.proofs.LawsOfWalks.{names_below-has}
use Rattle.ovl_lookup.proofs.LawsOfKids.{any-filter, kid-names-ascend}
use Rattle.ovl_lookup.proofs.LawsOfNamedLists.{at, is_before, each-own, both-ascend, both-at}
use Rattle.ovl_lookup.proofs.ViewLemmas.{found_below_by, views-find}

-- ---- the first place that has a name

abbrev first_by : List Entries → ℕ → List ReachedDirectory → PathName → Option Inode → Option First
first_by layers i rest name found = elim found as (λ _. Option First) [ Some inode ↦ Some (record { place = i; inode = inode }) | None ↦ first_in layers (suc i) rest name ]

-- of places and those after them
pub first-append : (layers : List Entries) (i : ℕ) (front rest : List ReachedDirectory) (name : PathName) → first_in layers i (front ++ rest) name ≡ option_or (first_in layers i front name) (first_in layers (i + length front) rest name)
first-append layers i [] rest name =
    let none : i ≡ i + 0 = omega arith in
    ap (λ n. first_in layers n rest name) none
first-append layers i (place ∷ front) rest name = by (first-append layers (suc i) front rest name) (entry_in layers name place)
  where
    by : first_in layers (suc i) (front ++ rest) name ≡ option_or (first_in layers (suc i) front name) (first_in layers (suc i + length front) rest name) → (found : Option Inode)
        → first_by layers i (front ++ rest) name found ≡ option_or (first_by layers i front name found) (first_in layers (i + suc (length front)) rest name)
    by later None =
        let more : suc i + length front ≡ i + suc (length front) = omega arith in
        later ∙ ap (λ n. option_or (first_in layers (suc i) front name) (first_in layers n rest name)) more
    by later (Some inode) = refl

-- a place without the name doesn't matter
pub found-skip : (layers : List Entries) (name : PathName) (place : ReachedDirectory) (rest : List ReachedDirectory) → entry_in layers name place ≡ None → found_below layers name (place ∷ rest) ≡ found_below layers name rest
found-skip layers name place rest none = ap (found_below_by layers name place rest) none

-- the number of the first place that has the name, from which on all of it is found
pub record IsFirst (layers : List Entries) (name : PathName) (first : First) (i : ℕ) (places : List ReachedDirectory) : Type 0 where
  pub past : ℕ
  pub number : first.place ≡ i + past
  pub inside : past < length places
  pub found : found_below layers name (drop past places) ≡ found_below layers name places
  pub here : IsSomeAnd (slice_get (drop past places) zero) (λ place. entry_in layers name place ≡ Some first.inode)

is-first : (layers : List Entries) (name : PathName) (first : First) (i : ℕ) (places : List ReachedDirectory) → first_in layers i places name ≡ Some first → IsFirst layers name first i places
is-first layers name first i [] is = let bad : None ≡ Some first = is in cc
is-first layers name first i (place ∷ rest) is = by (is-first layers name first (suc i) rest) (entry_in layers name place) refl is
  where
    by : (first_in layers (suc i) rest name ≡ Some first → IsFirst layers name first (suc i) rest) → (found : Option Inode) → entry_in layers name place ≡ found → first_by layers i rest name found ≡ Some first → IsFirst layers name first i (place ∷ rest)
    by later None e is =
        let more = later is in
        record {
          past = suc more.past;
          number = omega (arith, more.number);
          inside = omega (arith, more.inside);
          found = more.found ∙ sym (found-skip layers name place rest e);
          here = more.here;
        }
    by later (Some inode) e is =
        let same : record { place = i; inode = inode } ≡ first = ap (λ o. unwrap_or o first) is in
        record {
          past = zero;
          number = ap (λ (f : First). f.place) (sym same) ∙ omega arith;
          inside = omega arith;
          found = refl;
          here = e ∙ ap (λ (f : First). Some f.inode) same;
        }

-- where something is found, some place has the name
first-found : (layers : List Entries) (name : PathName) (i : ℕ) (places : List ReachedDirectory) → any_found (found_below layers name places) ≡ true → is_some (first_in layers i places name) ≡ true
first-found layers name i [] found = let bad : false ≡ true = found in cc
first-found layers name i (place ∷ rest) found = by (first-found layers name (suc i) rest) (entry_in layers name place) refl
  where
    by : (any_found (found_below layers name rest) ≡ true → is_some (first_in layers (suc i) rest name) ≡ true) → (o : Option Inode) → entry_in layers name place ≡ o → is_some (first_by layers i rest name o) ≡ true
    by later None e = later (ap any_found (sym (found-skip layers name place rest e)) ∙ found)
    by later (Some inode) e = refl

-- ---- the tops of places

each-with : {X : Type 0} (P Q : X → Type 0) → ((x : X) → P x → Q x) → (xs : List X) → AllByRecursion P xs → AllByRecursion Q xs
each-with P Q holds [] all = tt
each-with P Q holds (x ∷ xs) all = (holds x all.0, each-with P Q holds xs all.1)

module _ (layers : List Entries) (i : ℕ) (places : List ReachedDirectory) (tops : List (PathName × First)) (are : AreTops layers i places tops) where
  -- each has the first place of its name
  each-first : AllByRecursion (λ top. IsFirst layers top.0 top.1 i places) tops
  each-first = each-with (λ top. at top.0 tops ≡ Some top.1) (λ top. IsFirst layers top.0 top.1 i places) (λ top own. is-first layers top.0 top.1 i places (sym (are.each top.0) ∙ own)) tops (each-own tops are.in_order)

  pub all-first : All (λ top. IsFirst layers top.0 top.1 i places) tops
  all-first = All-from_recursion (λ top. IsFirst layers top.0 top.1 i places) tops each-first

  named : (name : PathName) → list_any (name_eq name) (names_of tops) ≡ is_some (first_in layers i places name)
  named name = sym (is_some-lookup (name_eq name) tops) ∙ ap is_some (are.each name)

-- those of places and of the places after them are those of all
pub merged-tops : (layers : List Entries) (i : ℕ) (front rest : List ReachedDirectory) (upper lower : List (PathName × First)) → AreTops layers i front upper → AreTops layers (i + length front) rest lower → AreTops layers i (front ++ rest) (both_joined upper_place upper lower)
merged-tops layers i front rest upper lower above below = record {
  in_order = both-ascend upper_place upper lower above.in_order;
  each = λ name.
      sym (and-some (at name (both_joined upper_place upper lower)))
      ∙ (both-at upper_place (λ first. Some first) (λ one other. refl) name upper lower above.in_order below.in_order
      ∙ ((λ j. option_or ((and-some (at name upper) ∙ above.each name) j) ((and-some (at name lower) ∙ below.each name) j))
      ∙ sym (first-append layers i front rest name)));
}
  where
    and-some : (found : Option First) → option_and_then (λ first. Some first) found ≡ found
    and-some None = refl
    and-some (Some first) = refl

pub no-tops : (layers : List Entries) (i : ℕ) → AreTops layers i [] []
no-tops layers i = record { in_order = refl; each = λ name. refl }

-- ---- the tops of one place

-- the names in a directory that is reached, by all layers of the stack
abbrev pub names_in : List Entries → ReachedDirectory → List PathName
names_in layers place = elim (slice_get layers place.layer) as (λ _. List PathName) [ Some layer ↦ names_below layer place.path | None ↦ [] ]

-- what is at a name has it among the names
pub entry-named : (layers : List Entries) (name : PathName) (place : ReachedDirectory) (inode : Inode) → entry_in layers name place ≡ Some inode → list_any (name_eq name) (names_in layers place) ≡ true
entry-named layers name place inode here = by (slice_get layers place.layer) here
  where
    by : (o : Option Entries) → elim o as (λ _. Option Inode) [ Some layer ↦ entry_at layer (child_path place.path name) | None ↦ None ] ≡ Some inode → list_any (name_eq name) (elim o as (λ _. List PathName) [ Some layer ↦ names_below layer place.path | None ↦ [] ]) ≡ true
    by None h = let bad : None ≡ Some inode = h in cc
    by (Some layer) h = names_below-has layer place.path name inode h

names_in-ascend : (layers : List Entries) → All IsLayer layers → (place : ReachedDirectory) → ascends name_cmp (names_in layers place) ≡ true
names_in-ascend layers each place = by (slice_get layers place.layer) refl
  where
    by : (o : Option Entries) → slice_get layers place.layer ≡ o → ascends name_cmp (elim o as (λ _. List PathName) [ Some layer ↦ names_below layer place.path | None ↦ [] ]) ≡ true
    by None e = refl
    by (Some layer) e = kid-names-ascend layer place.path is.in_order
      where
        is : IsLayer layer
        is = subst IsLayer (get_or_from_slice_get layers place.layer layer layer e) (each place.layer layer (slice_get_within layers place.layer layer e))

module _ (layers : List Entries) (i : ℕ) (place : ReachedDirectory) where
  abbrev first_here : PathName → Option First
  first_here name = first_in layers i (place ∷ []) name

  -- each with its inode in the place
  abbrev pub StandHere : List (PathName × First) → Type 0
  StandHere tops = AllByRecursion (λ top. first_in layers i (place ∷ []) top.0 ≡ Some top.1) tops

  named-here : (name : PathName) (tops : List (PathName × First)) → StandHere tops → at name tops ≡ cond (list_any (name_eq name) (names_of tops)) (first_here name) None
  named-here name [] all = refl
  named-here name (top ∷ tops) all = by (named-here name tops all.1) (name_eq name top.0) refl
    where
      by : at name tops ≡ cond (list_any (name_eq name) (names_of tops)) (first_here name) None → (b : Bool) → name_eq name top.0 ≡ b → cond b (Some top.1) (at name tops) ≡ cond (b || list_any (name_eq name) (names_of tops)) (first_here name) None
      by later true e = sym (ap first_here ((bytes_decides name top.0).0 e) ∙ all.0)
      by later false e = later

  none-here : (name : PathName) → list_any (name_eq name) (names_in layers place) ≡ false → None ≡ first_here name
  none-here name absent = by (entry_in layers name place) refl
    where
      by : (found : Option Inode) → entry_in layers name place ≡ found → None ≡ first_by layers i [] name found
      by None e = refl
      by (Some inode) e = let bad : true ≡ false = sym (entry-named layers name place inode e) ∙ absent in cc

  named-or-none : (name : PathName) (b : Bool) → list_any (name_eq name) (names_in layers place) ≡ b → cond b (first_here name) None ≡ first_here name
  named-or-none name true e = refl
  named-or-none name false e = none-here name e

  pub tops-here : All IsLayer layers → (tops : List (PathName × First)) → names_of tops ≡ names_in layers place → StandHere tops → AreTops layers i (place ∷ []) tops
  tops-here each tops names all = record {
    in_order = ap (ascends name_cmp) names ∙ names_in-ascend layers each place;
    each = λ name. named-here name tops all ∙ (ap (λ ns. cond (list_any (name_eq name) ns) (first_here name) None) names ∙ named-or-none name (list_any (name_eq name) (names_in layers place)) refl);
  }

  -- one more that is there
  pub stand-more : (tops : List (PathName × First)) (name : PathName) (inode : Inode) → StandHere tops → entry_in layers name place ≡ Some inode → StandHere (tops ++ (name, record { place = i; inode = inode }) ∷ [])
  stand-more [] name inode all here = (ap (first_by layers i [] name) here, tt)
  stand-more (top ∷ tops) name inode all here = (all.0, stand-more tops name inode all.1 here)

  -- the names in the directory, with what is there
  abbrev with_first : PathName → Option First → List (PathName × First) → List (PathName × First)
  with_first name None tops = tops
  with_first name (Some first) tops = (name, first) ∷ tops

  abbrev picked : List PathName → List (PathName × First)
  picked [] = []
  picked (name ∷ names) = with_first name (first_here name) (picked names)

  picked-before : (one : PathName) (names : List PathName) → list_all (λ later. is_lt (name_cmp one later)) names ≡ true → is_before one (picked names) ≡ true
  picked-before one [] before = refl
  picked-before one (name ∷ names) before = by (picked-before one names parts.1) (first_here name)
    where
      parts : (is_lt (name_cmp one name) ≡ true) × (list_all (λ later. is_lt (name_cmp one later)) names ≡ true)
      parts = both {a = is_lt (name_cmp one name)} {b = list_all (λ later. is_lt (name_cmp one later)) names} before

      by : is_before one (picked names) ≡ true → (o : Option First) → is_before one (with_first name o (picked names)) ≡ true
      by later None = later
      by later (Some first) = (λ j. parts.0 j && later j)

  picked-order : (names : List PathName) → ascends name_cmp names ≡ true → AreInOrder (picked names)
  picked-order [] up = refl
  picked-order (name ∷ names) up = by (picked-order names parts.1) (first_here name)
    where
      parts : (list_all (λ later. is_lt (name_cmp name later)) names ≡ true) × (ascends name_cmp names ≡ true)
      parts = both {a = list_all (λ later. is_lt (name_cmp name later)) names} {b = ascends name_cmp names} up

      by : AreInOrder (picked names) → (o : Option First) → AreInOrder (with_first name o (picked names))
      by later None = later
      by later (Some first) = (λ j. picked-before name names parts.0 j && later j)

  named-picked : (q : PathName) (names : List PathName) → at q (picked names) ≡ cond (list_any (name_eq q) names) (first_here q) None
  named-picked q [] = refl
  named-picked q (name ∷ names) = by (named-picked q names) (first_here name) refl (name_eq q name) refl
    where
      cond_same : {X : Type 0} (b : Bool) (x : X) → cond b x x ≡ x
      cond_same true x = refl
      cond_same false x = refl

      by : at q (picked names) ≡ cond (list_any (name_eq q) names) (first_here q) None → (o : Option First) → first_here name ≡ o → (b : Bool) → name_eq q name ≡ b → at q (with_first name o (picked names)) ≡ cond (b || list_any (name_eq q) names) (first_here q) None
      by later None e true is =
          let none : first_here q ≡ None = ap first_here ((bytes_decides q name).0 is) ∙ e in
          later ∙ (ap (λ o. cond (list_any (name_eq q) names) o None) none ∙ (cond_same (list_any (name_eq q) names) None ∙ sym none))
      by later None e false is = later
      by later (Some first) e true is = ap (λ b. cond b (Some first) (at q (picked names))) is ∙ sym (ap first_here ((bytes_decides q name).0 is) ∙ e)
      by later (Some first) e false is = ap (λ b. cond b (Some first) (at q (picked names))) is ∙ later

  tops-of_place : All IsLayer layers → AreTops layers i (place ∷ []) (picked (names_in layers place))
  tops-of_place each = record {
    in_order = picked-order (names_in layers place) (names_in-ascend layers each place);
    each = λ name. named-picked name (names_in layers place) ∙ named-or-none name (list_any (name_eq name) (names_in layers place)) refl;
  }

-- there are such tops of all places
tops-exist : (layers : List Entries) → All IsLayer layers → (i : ℕ) (places : List ReachedDirectory) → (tops : List (PathName × First)) × AreTops layers i places tops
tops-exist layers each i [] = ([], no-tops layers i)
tops-exist layers each i (place ∷ rest) = by (tops-exist layers each (suc i) rest)
  where
    upper : List (PathName × First)
    upper = picked layers i place (names_in layers place)

    by : (tops : List (PathName × First)) × AreTops layers (suc i) rest tops → (tops : List (PathName × First)) × AreTops layers i (place ∷ rest) tops
    by lower =
        let one = tops-of_place layers i place each in
        let next : suc i ≡ i + 1 = omega arith in
        let behind = subst (λ n. AreTops layers n rest lower.0) next lower.1 in
        (both_joined upper_place upper lower.0, merged-tops layers i (place ∷ []) rest upper lower.0 one behind)

-- ---- what is shown at each name

module _ (stack : StackView) (places : List ReachedDirectory) where
  -- what is shown at a name, and whether something is
  abbrev shown_at : PathName → Look
  shown_at name = shown_of stack.data_only (found_below stack.layers name places)

  abbrev is_shown_at : PathName → Bool
  is_shown_at name = not (is_nothing (shown_at name))

  abbrev with_look : List PathName → List (PathName × Look)
  with_look names = map (λ name. (name, shown_at name)) names

  looks-are : (tops : List (PathName × First)) → AllByRecursion (λ top. found_below stack.layers top.0 (drop top.1.place places) ≡ found_below stack.layers top.0 places) tops → looks_from_tops stack places tops ≡ with_look (filter is_shown_at (names_of tops))
  looks-are [] each = refl
  looks-are (top ∷ tops) each =
      (λ j. cond (not (is_nothing (shown_of stack.data_only (each.0 j)))) ((top.0, shown_of stack.data_only (each.0 j)) ∷ looks_from_tops stack places tops) (looks_from_tops stack places tops))
      ∙ by (looks-are tops each.1) (is_shown_at top.0)
    where
      by : looks_from_tops stack places tops ≡ with_look (filter is_shown_at (names_of tops)) → (b : Bool) → cond b ((top.0, shown_at top.0) ∷ looks_from_tops stack places tops) (looks_from_tops stack places tops) ≡ with_look (cond b (top.0 ∷ filter is_shown_at (names_of tops)) (filter is_shown_at (names_of tops)))
      by later true = ap (λ looks. (top.0, shown_at top.0) ∷ looks) later
      by later false = later

  names-with_look : (names : List PathName) → map (λ e. e.0) (with_look names) ≡ names
  names-with_look [] = refl
  names-with_look (name ∷ names) = ap (λ ns. name ∷ ns) (names-with_look names)

  each-with_look : (P : PathName × Look → Type 0) (names : List PathName) → ((name : PathName) → P (name, shown_at name)) → AllByRecursion P (with_look names)
  each-with_look P [] holds = tt
  each-with_look P (name ∷ names) holds = (holds name, each-with_look P names holds)

module _ (stack : StackView) (each : All IsLayer stack.layers) (from : ℕ) (path : PathNames) (tops : List (PathName × First)) (are : AreTops stack.layers 0 (reached (drop from stack.layers) from path) tops) where
  pub looks-of-tops : AreLooks (from_layer from stack) path (looks_from_tops stack (reached (drop from stack.layers) from path) tops)
  looks-of-tops = subst (AreLooks (from_layer from stack) path) (sym (looks-are stack places tops found)) (record {
    names = record {
      in_order = ap (ascends name_cmp) listed ∙ ascends-filter name_cmp (is_shown_at stack places) (names_of tops) are.in_order;
      same = λ name.
          ap (list_any (name_eq name)) listed
          ∙ (any-filter name (is_shown_at stack places) (names_of tops)
          ∙ (ap (λ b. b && is_shown_at stack places name) (named layers 0 places tops are name)
          ∙ (by name (is_shown_at stack places name) refl
          ∙ ap (λ (look : Look). not (is_nothing look)) (shown name))));
    };
    each = All-from_recursion (λ e. e.1 ≡ look (from_layer from stack) (child_path path e.0)) (with_look stack places kept) (each-with_look stack places (λ e. e.1 ≡ look (from_layer from stack) (child_path path e.0)) kept shown);
  })
    where
      layers : List Entries
      layers = stack.layers

      places : List ReachedDirectory
      places = reached (drop from stack.layers) from path

      kept : List PathName
      kept = filter (is_shown_at stack places) (names_of tops)

      listed : map (λ e. e.0) (with_look stack places kept) ≡ kept
      listed = names-with_look stack places kept

      shown : (name : PathName) → shown_at stack places name ≡ look (from_layer from stack) (child_path path name)
      shown name = ap (shown_of stack.data_only) (sym (views-find stack each from path name))

      found : AllByRecursion (λ top. found_below layers top.0 (drop top.1.place places) ≡ found_below layers top.0 places) tops
      found = each-with (λ top. IsFirst layers top.0 top.1 0 places) (λ top. found_below layers top.0 (drop top.1.place places) ≡ found_below layers top.0 places)
          (λ top is. let same : top.1.place ≡ is.past = omega (arith, is.number) in ap (λ n. found_below layers top.0 (drop n places)) same ∙ is.found) tops (each-first layers 0 places tops are)

      by : (name : PathName) (b : Bool) → is_shown_at stack places name ≡ b → (is_some (first_in layers 0 places name) && is_shown_at stack places name) ≡ is_shown_at stack places name
      by name true e =
          let some : is_some (first_in layers 0 places name) ≡ true = first-found layers name 0 places (sym (shown-any stack.data_only (found_below layers name places)) ∙ e) in
          ap (λ b. b && is_shown_at stack places name) some
      by name false e = ap (λ b. is_some (first_in layers 0 places name) && b) e ∙ (and-false (is_some (first_in layers 0 places name)) ∙ sym e)

pub views-look : ViewsLook
views-look stack each from path = (tops-exist stack.layers each 0 (reached (drop from stack.layers) from path), looks-of-tops stack each from path)
