-- Laws of names: what walks follow has names, and stays below the root.
use Rattle.std.proofs.Common.{◌≡◌, ℕ, List, [], ◌∷◌, ◌++◌, length, Bool, true, false, cond, Some, None, refl, ap, ◌∙◌, suc, ◌+◌, ◌<◌, drop, get_or, Option, is_some, sym, subst, append_assoc, add-one, arith, length-append, lit<}
use Rattle.std.specs.Prelude.{not, ◌&&◌, ◌||◌, ◌==◌, nat_lt, is_none, unwrap_or}
use Rattle.std.specs.List.{list_any, onto_first, list_all}
use Rattle.std.proofs.lemmas.Bool.{or_parts, eqb-true}
use Rattle.std.specs.Str.{is_utf8, IsUtf8}
use Rattle.std.proofs.lemmas.List.Splits.{slice_split-cons_yes, slice_split-cons_no}
use Rattle.std.proofs.lemmas.Str.{IsUtf8-from_is_utf8, is_utf8-from_IsUtf8, IsUtf8-take, IsUtf8-drop, IsCharBoundary-before_ascii, IsCharBoundary-after_ascii}
use Rattle.std.proofs.Math.Seq.{take-append_seam}
use Rattle.std.proofs.lemmas.List.{append-nil}
use Rattle.std.proofs.lemmas.List.Folds.{list_any-append, list_all-append}
use Rattle.ovl_names.specs.declared.names.NameFault.TheVariants.{Empty, TooLong, Dot, Slash, Nul}
use Rattle.ovl_names.specs.Names.{is_name, name_fault, name_eq, dot, dot_dot, slash, name_limit, PathName}
use Rattle.ovl_names.specs.Paths.{parts_between, PathNames, has_names, is_root, child_path, longest}
use Rattle.ovl_names.proofs.Ascending.{both, not_true}
use Rattle.ovl_names.proofs.NameLemmas.{has_names-child}
use Rattle.ovl_inode.specs.declared.inodes.Inode.{Inode}
use Rattle.ovl_inode.specs.declared.marks.Mark.{Mark}
use Rattle.ovl_inode.specs.declared.marks.Mark.TheVariants.{Whiteout, DirOpaque, DirMoved, DirBad, DirPlain, Meta, MetaBad, Leaf}
use Rattle.ovl_inode.specs.declared.marks.Redirect.{Redirect}
use Rattle.ovl_inode.specs.declared.marks.Redirect.TheVariants.{To, Beside}
use Rattle.ovl_inode.specs.declared.marks.RedirectFault.{RedirectFault}
use Rattle.ovl_inode.specs.declared.marks.RedirectFault.TheVariants.{Empty as NoText, Text, Slash as BadSlash, Part}
use Rattle.ovl_inode.specs.Attributes.{attribute, redirect_name}
use Rattle.ovl_inode.specs.Marks.{mark_of, is_whiteout, is_directory, is_regular, has_opaque, has_metacopy, redirect_reading, directory_mark, metacopy_mark}
use Rattle.ovl_inode.specs.Redirects.{read_redirect, redirect_fault, redirect_of, redirect_parts, is_bad_part, has_bad_slash}
use Rattle.ovl_layer.specs.Layers.{Entries, entry_at, is_directory_at}
use Rattle.ovl_lookup.specs.Walk.{walk, walk_from, walk_beyond, walk_to_file, nothing_found, turn, is_shut, mark_at, origin_path, name_in_lower}
use Rattle.ovl_lookup.specs.Merged.{last_of, last_place, place_of_data}
use Rattle.ovl_lookup.proofs.Longest.{longest-rest}
use Rattle.ovl_lookup.proofs.Turns.{turn-child, turn-moved}
use Rattle.ovl_lookup.proofs.LawsOfPaths.{by_child, length-child}

not_false : (b : Bool) → not b ≡ false → b ≡ true
not_false true e = refl
not_false false e = let bad : true ≡ false = e in cc

-- ---- names

pub record NameFacts (name : List ℕ) : Type 0 where
  pub some : (length name == 0) ≡ false
  pub short : nat_lt name_limit (length name) ≡ false
  pub undotted : (name_eq name dot || name_eq name dot_dot) ≡ false
  pub whole : list_any (λ byte. byte == slash) name ≡ false
  pub nul : list_any (λ byte. byte == 0) name ≡ false
  pub utf8 : IsUtf8 name

pub name_facts : (name : List ℕ) → is_name name ≡ true → NameFacts name
name_facts name is =
    let parts = both {a = is_none (name_fault name)} {b = is_utf8 name} is in
    let tests = none_of (length name == 0) (nat_lt name_limit (length name)) (name_eq name dot || name_eq name dot_dot) (list_any (λ byte. byte == slash) name) (list_any (λ byte. byte == 0) name) parts.0 in
    record { some = tests.0; short = tests.1; undotted = tests.2; whole = tests.3; nul = tests.4; utf8 = IsUtf8-from_is_utf8 name parts.1 }
  where
    none_of : (a b c d e : Bool) → is_none (cond a (Some Empty) (cond b (Some TooLong) (cond c (Some Dot) (cond d (Some Slash) (cond e (Some Nul) None))))) ≡ true → (a ≡ false) × (b ≡ false) × (c ≡ false) × (d ≡ false) × (e ≡ false)
    none_of true b c d e none = let bad : false ≡ true = none in cc
    none_of false true c d e none = let bad : false ≡ true = none in cc
    none_of false false true d e none = let bad : false ≡ true = none in cc
    none_of false false false true e none = let bad : false ≡ true = none in cc
    none_of false false false false true none = let bad : false ≡ true = none in cc
    none_of false false false false false none = (refl, refl, refl, refl, refl)

name_from : (name : List ℕ) → NameFacts name → is_name name ≡ true
name_from name f =
    λ j. is_none (cond (f.some j) (Some Empty) (cond (f.short j) (Some TooLong) (cond (f.undotted j) (Some Dot) (cond (f.whole j) (Some Slash) (cond (f.nul j) (Some Nul) None))))) && is_utf8-from_IsUtf8 name f.utf8 j

-- ---- texts that are split

-- a text without separator is its only part, and one is cut at its first separator
pub one_part : (text : List ℕ) → list_any (λ byte. byte == slash) text ≡ false → parts_between text ≡ text ∷ []
one_part [] none = refl
one_part (byte ∷ bytes) none =
    let parts = or_parts (byte == slash) (list_any (λ b. b == slash) bytes) none in
    slice_split-cons_no (λ b. b == slash) byte bytes parts.0 ∙ ap (onto_first byte) (one_part bytes parts.1)

pub split_at : (front : List ℕ) (byte : ℕ) (rest : List ℕ) → list_any (λ b. b == slash) front ≡ false → (byte == slash) ≡ true → parts_between (front ++ byte ∷ rest) ≡ front ∷ parts_between rest
split_at [] byte rest whole is = slice_split-cons_yes (λ b. b == slash) byte rest is
split_at (first ∷ front) byte rest whole is =
    let parts = or_parts (first == slash) (list_any (λ b. b == slash) front) whole in
    slice_split-cons_no (λ b. b == slash) first (front ++ byte ∷ rest) parts.0 ∙ ap (onto_first first) (split_at front byte rest parts.1 is)

-- ---- what is read has names

get_or-seam : (front : List ℕ) (byte : ℕ) (rest : List ℕ) → get_or (front ++ byte ∷ rest) (length front) 0 ≡ byte
get_or-seam [] byte rest = refl
get_or-seam (first ∷ front) byte rest = get_or-seam front byte rest

drop-past : (front : List ℕ) (byte : ℕ) (rest : List ℕ) → drop (suc (length front)) (front ++ byte ∷ rest) ≡ rest
drop-past [] byte rest = refl
drop-past (first ∷ front) byte rest = drop-past front byte rest

utf8-cut : (front : List ℕ) (byte : ℕ) (rest : List ℕ) → (byte == slash) ≡ true → IsUtf8 (front ++ byte ∷ rest) → (IsUtf8 front) × (IsUtf8 rest)
utf8-cut front byte rest is utf8 =
    let at : get_or (front ++ byte ∷ rest) (length front) 0 ≡ 47 = get_or-seam front byte rest ∙ eqb-true byte 47 is in
    let inside : length front < length (front ++ byte ∷ rest) = omega (arith, length-append front (byte ∷ rest)) in
    let more : length front + 1 ≡ suc (length front) = rw add-one refl in
    let ascii : get_or (front ++ byte ∷ rest) (length front) 0 < 128 = rw at (lit< tt) in (
      subst IsUtf8 (take-append_seam front (byte ∷ rest)) (IsUtf8-take (front ++ byte ∷ rest) (length front) utf8 (IsCharBoundary-before_ascii (front ++ byte ∷ rest) (length front) inside ascii)),
      subst IsUtf8 (ap (λ n. drop n (front ++ byte ∷ rest)) more ∙ drop-past front byte rest) (IsUtf8-drop (front ++ byte ∷ rest) (length front + 1) utf8 (IsCharBoundary-after_ascii (front ++ byte ∷ rest) (length front) utf8 inside ascii)),
    )

-- the parts of a text have no separator, and are texts without NUL as it is
abbrev is_clean : List ℕ → Bool
is_clean part = not (list_any (λ byte. byte == slash) part) && not (list_any (λ byte. byte == 0) part) && is_utf8 part

parts-clean : (front rest : List ℕ) → list_any (λ b. b == slash) front ≡ false → list_any (λ b. b == 0) (front ++ rest) ≡ false → IsUtf8 (front ++ rest) → list_all is_clean (parts_between (front ++ rest)) ≡ true
parts-clean front [] whole nul utf8 =
    ap (λ (t : List ℕ). list_all is_clean (parts_between t)) (append-nil front)
    ∙ (ap (list_all is_clean) (one_part front whole)
    ∙ (λ j. (not (whole j) && not ((ap (list_any (λ b. b == 0)) (sym (append-nil front)) ∙ nul) j) && is_utf8-from_IsUtf8 front (subst IsUtf8 (append-nil front) utf8) j) && true))
parts-clean front (byte ∷ rest) whole nul utf8 = by (parts-clean [] rest refl) (parts-clean (front ++ byte ∷ []) rest) (byte == slash) refl
  where
    by : (list_any (λ b. b == 0) rest ≡ false → IsUtf8 rest → list_all is_clean (parts_between rest) ≡ true)
        → (list_any (λ b. b == slash) (front ++ byte ∷ []) ≡ false → list_any (λ b. b == 0) ((front ++ byte ∷ []) ++ rest) ≡ false → IsUtf8 ((front ++ byte ∷ []) ++ rest) → list_all is_clean (parts_between ((front ++ byte ∷ []) ++ rest)) ≡ true)
        → (b : Bool) → (byte == slash) ≡ b → list_all is_clean (parts_between (front ++ byte ∷ rest)) ≡ true
    by after grown true e =
        let cut = utf8-cut front byte rest e utf8 in
        let nuls = or_parts (list_any (λ b. b == 0) front) (list_any (λ b. b == 0) (byte ∷ rest)) (sym (list_any-append (λ b. b == 0) front (byte ∷ rest)) ∙ nul) in
        let later = or_parts (byte == 0) (list_any (λ b. b == 0) rest) nuls.1 in
        ap (list_all is_clean) (split_at front byte rest whole e)
        ∙ (λ j. (not (whole j) && not (nuls.0 j) && is_utf8-from_IsUtf8 front cut.0 j) && after later.1 cut.1 j)
    by after grown false e =
        let same : (front ++ byte ∷ []) ++ rest ≡ front ++ byte ∷ rest = append_assoc front (byte ∷ []) rest in
        subst (λ (t : List ℕ). list_all is_clean (parts_between t) ≡ true) same
        (grown
        (list_any-append (λ b. b == slash) front (byte ∷ []) ∙ (λ j. whole j || (e j || false)))
        (ap (list_any (λ b. b == 0)) same ∙ nul)
        (subst IsUtf8 (sym same) utf8))

clean-names : (parts : PathNames) → list_all is_clean parts ≡ true → list_any (λ part. length part == 0) parts ≡ false → list_any is_bad_part parts ≡ false → has_names parts ≡ true
clean-names [] clean some good = refl
clean-names (part ∷ parts) clean some good =
    let cleans = both {a = is_clean part} {b = list_all is_clean parts} clean in
    let somes = or_parts (length part == 0) (list_any (λ p. length p == 0) parts) some in
    let goods = or_parts (is_bad_part part) (list_any is_bad_part parts) good in
    let tests = both {a = not (list_any (λ byte. byte == slash) part) && not (list_any (λ byte. byte == 0) part)} {b = is_utf8 part} cleans.0 in
    let two = both {a = not (list_any (λ byte. byte == slash) part)} {b = not (list_any (λ byte. byte == 0) part)} tests.0 in
    let bad = or_parts (name_eq part dot || name_eq part dot_dot) (nat_lt name_limit (length part)) goods.0 in
    let is : is_name part ≡ true = name_from part (record {
      some = somes.0;
      short = bad.1;
      undotted = bad.0;
      whole = not_true (list_any (λ byte. byte == slash) part) two.0;
      nul = not_true (list_any (λ byte. byte == 0) part) two.1;
      utf8 = IsUtf8-from_is_utf8 part tests.1;
    }) in
    λ j. is j && clean-names parts cleans.1 somes.1 goods.1 j

parts-some : (text : List ℕ) → is_root (parts_between text) ≡ false
parts-some [] = refl
parts-some (byte ∷ bytes) = by (parts-some bytes) (byte == slash) refl
  where
    onto : (first : ℕ) (parts : PathNames) → is_root parts ≡ false → is_root (onto_first first parts) ≡ false
    onto first [] e = let bad : true ≡ false = e in cc
    onto first (part ∷ parts) e = refl

    by : is_root (parts_between bytes) ≡ false → (b : Bool) → (byte == slash) ≡ b → is_root (parts_between (byte ∷ bytes)) ≡ false
    by later true e = ap is_root (slice_split-cons_yes (λ b. b == slash) byte bytes e)
    by later false e = ap is_root (slice_split-cons_no (λ b. b == slash) byte bytes e) ∙ onto byte (parts_between bytes) later

-- a redirect's names are names, and an absolute one isn't the root
abbrev IsNamedRedirect : Redirect → Type 0
IsNamedRedirect (To place) = (has_names place ≡ true) × (is_root place ≡ false)
IsNamedRedirect (Beside name) = is_name name ≡ true

abbrev IsNamedReading : Option Redirect → Type 0
IsNamedReading None = Unit {0}
IsNamedReading (Some redirect) = IsNamedRedirect redirect

record RedirectFacts (value : List ℕ) : Type 0 where
  some : (length value == 0) ≡ false
  utf8 : is_utf8 value ≡ true
  nul : list_any (λ byte. byte == 0) value ≡ false
  slashes : has_bad_slash value ≡ false
  parts : list_any is_bad_part (redirect_parts value) ≡ false

redirect_facts : (value : List ℕ) → redirect_fault value ≡ None → RedirectFacts value
redirect_facts value none =
    let tests = none_of (length value == 0) (not (is_utf8 value) || list_any (λ byte. byte == 0) value) (has_bad_slash value) (list_any is_bad_part (redirect_parts value)) none in
    let texts = or_parts (not (is_utf8 value)) (list_any (λ byte. byte == 0) value) tests.1 in
    record { some = tests.0; utf8 = not_false (is_utf8 value) texts.0; nul = texts.1; slashes = tests.2; parts = tests.3 }
  where
    none_of : (a b c d : Bool) → cond a (Some NoText) (cond b (Some Text) (cond c (Some BadSlash) (cond d (Some Part) None))) ≡ None → (a ≡ false) × (b ≡ false) × (c ≡ false) × (d ≡ false)
    none_of true b c d none = let bad : Some NoText ≡ None = none in cc
    none_of false true c d none = let bad : Some Text ≡ None = none in cc
    none_of false false true d none = let bad : Some BadSlash ≡ None = none in cc
    none_of false false false true none = let bad : Some Part ≡ None = none in cc
    none_of false false false false none = (refl, refl, refl, refl)

redirect-named : (value : List ℕ) → RedirectFacts value → IsNamedRedirect (redirect_of value)
redirect-named [] facts = let bad : true ≡ false = facts.some in cc
redirect-named (byte ∷ bytes) facts = by (byte == slash) refl facts.slashes facts.parts
  where
    by : (b : Bool) → (byte == slash) ≡ b
        → cond b (list_any (λ part. length part == 0) (parts_between (cond b bytes (byte ∷ bytes)))) (list_any (λ own. own == slash) (byte ∷ bytes)) ≡ false
        → list_any is_bad_part (parts_between (cond b bytes (byte ∷ bytes))) ≡ false → IsNamedRedirect (cond b (To (parts_between (cond b bytes (byte ∷ bytes)))) (Beside (byte ∷ bytes)))
    by true e slashes good =
        let cut = utf8-cut [] byte bytes e (IsUtf8-from_is_utf8 (byte ∷ bytes) facts.utf8) in
        let nuls = or_parts (byte == 0) (list_any (λ b. b == 0) bytes) facts.nul in
        (clean-names (parts_between bytes) (parts-clean [] bytes refl nuls.1 cut.1) slashes good, parts-some bytes)
    by false e slashes good =
        let own = or_parts (is_bad_part (byte ∷ bytes)) false (ap (list_any is_bad_part) (sym (one_part (byte ∷ bytes) slashes)) ∙ good) in
        let bad = or_parts (name_eq (byte ∷ bytes) dot || name_eq (byte ∷ bytes) dot_dot) (nat_lt name_limit (length (byte ∷ bytes))) own.0 in
        name_from (byte ∷ bytes) (record {
          some = facts.some;
          short = bad.1;
          undotted = bad.0;
          whole = slashes;
          nul = facts.nul;
          utf8 = IsUtf8-from_is_utf8 (byte ∷ bytes) facts.utf8;
        })

read-named : (value : List ℕ) → IsNamedReading (read_redirect value)
read-named value = by (redirect_fault value) refl
  where
    by : (o : Option RedirectFault) → redirect_fault value ≡ o → IsNamedReading (elim o as (λ _. Option Redirect) [ Some fault ↦ None | None ↦ Some (redirect_of value) ])
    by (Some fault) e = tt
    by None e = redirect-named value (redirect_facts value e)

-- the redirect of a mark has names
abbrev IsNamedMark : Mark → Type 0
IsNamedMark (DirMoved redirect) = IsNamedRedirect redirect
IsNamedMark (Meta (Some redirect)) = IsNamedRedirect redirect
IsNamedMark _ = Unit {0}

abbrev AreNamed : Option Mark → Type 0
AreNamed None = Unit {0}
AreNamed (Some mark) = IsNamedMark mark

both-named : (inode : Inode) → IsNamedMark (directory_mark (redirect_reading inode)) × IsNamedMark (metacopy_mark (redirect_reading inode))
both-named inode = by (attribute inode.attrs redirect_name) refl
  where
    said : (value : List ℕ) → attribute inode.attrs redirect_name ≡ Some value → (redirect : Option Redirect) → read_redirect value ≡ redirect → IsNamedMark (directory_mark (redirect_reading inode)) × IsNamedMark (metacopy_mark (redirect_reading inode))
    said value e None f = (rw (e, redirect_reading) (rw f tt), rw (e, redirect_reading) (rw f tt))
    said value e (Some redirect) f =
        let named : IsNamedRedirect redirect = subst IsNamedReading f (read-named value) in
        (rw (e, redirect_reading) (rw f named), rw (e, redirect_reading) (rw f named))

    by : (found : Option (List ℕ)) → attribute inode.attrs redirect_name ≡ found → IsNamedMark (directory_mark (redirect_reading inode)) × IsNamedMark (metacopy_mark (redirect_reading inode))
    by None e = (rw (e, redirect_reading) tt, rw (e, redirect_reading) tt)
    by (Some value) e = said value e (read_redirect value) refl

mark-named : (inode : Inode) → IsNamedMark (mark_of inode)
mark-named inode =
    by (is_whiteout inode) (is_directory inode && has_opaque inode) (is_directory inode) (is_regular inode && has_metacopy inode) (directory_mark (redirect_reading inode)) (metacopy_mark (redirect_reading inode)) (both-named inode)
  where
    by : (w o d f : Bool) (own meta : Mark) → IsNamedMark own × IsNamedMark meta → IsNamedMark (cond w Whiteout (cond o DirOpaque (cond d own (cond f meta Leaf))))
    by true o d f own meta named = tt
    by false true d f own meta named = tt
    by false false true f own meta named = named.0
    by false false false true own meta named = named.1
    by false false false false own meta named = tt

-- so has the path at which data-only layers have the data of a metacopy file
place-named : (inode : Inode) (place : PathNames) → place_of_data (mark_of inode) ≡ Some place → (has_names place ≡ true) × (is_root place ≡ false)
place-named inode place e = by (mark_of inode) (mark-named inode) e
  where
    by : (mark : Mark) → IsNamedMark mark → place_of_data mark ≡ Some place → (has_names place ≡ true) × (is_root place ≡ false)
    by (Meta (Some (To other))) named e = let same : other ≡ place = cc in subst (λ (p : PathNames). (has_names p ≡ true) × (is_root p ≡ false)) same named
    by (Meta (Some (Beside name))) named e = let bad : None ≡ Some place = e in cc
    by (Meta None) named e = let bad : None ≡ Some place = e in cc
    by _ named e = let bad : None ≡ Some place = e in cc

pub last-named : (found : List Inode) (place : PathNames) → last_place found ≡ Some place → (has_names place ≡ true) × (is_root place ≡ false)
last-named found place e = by (last_of found) e
  where
    by : (last : Option Inode) → elim last as (λ _. Option PathNames) [ Some inode ↦ place_of_data (mark_of inode) | None ↦ None ] ≡ Some place → (has_names place ≡ true) × (is_root place ≡ false)
    by None e = let bad : None ≡ Some place = e in cc
    by (Some inode) e = place-named inode place e

at-named : (layer : Entries) (path : PathNames) → AreNamed (mark_at layer path)
at-named layer [] = tt
at-named layer (name ∷ names) = by (entry_at layer (name ∷ names))
  where
    by : (o : Option Inode) → AreNamed (elim o as (λ _. Option Mark) [ Some inode ↦ Some (mark_of inode) | None ↦ None ])
    by None = tt
    by (Some inode) = mark-named inode

lower-named : (mark : Option Mark) (own : PathName) → AreNamed mark → is_name own ≡ true → is_name (name_in_lower mark own) ≡ true
lower-named (Some (DirMoved (Beside name))) own named is = named
lower-named _ own named is = is

origin-named : (mark : Option Mark) → AreNamed mark → is_some (origin_path mark) ≡ true → (has_names (unwrap_or (origin_path mark) []) ≡ true) × (is_root (unwrap_or (origin_path mark) []) ≡ false)
origin-named (Some (DirMoved (To place))) named is = named
origin-named _ named is = let bad : false ≡ true = is in cc

-- ---- what walks follow has names, and stays below the root

turn-named : (layer : Entries) (path : PathNames) → has_names path ≡ true → has_names (turn layer path) ≡ true
turn-named layer = by_child (λ path. has_names path ≡ true → has_names (turn layer path) ≡ true) (λ named. refl) step
  where
    step : (path : PathNames) (name : PathName) → (has_names path ≡ true → has_names (turn layer path) ≡ true) → has_names (child_path path name) ≡ true → has_names (turn layer (child_path path name)) ≡ true
    step path name later named = by (is_some (origin_path (mark_at layer (child_path path name)))) refl
      where
        parts : (has_names path ≡ true) × (has_names (name ∷ []) ≡ true)
        parts = both {a = has_names path} {b = has_names (name ∷ [])} (sym (list_all-append is_name path (name ∷ [])) ∙ named)

        by : (b : Bool) → is_some (origin_path (mark_at layer (child_path path name))) ≡ b → has_names (turn layer (child_path path name)) ≡ true
        by true e = ap has_names (turn-moved layer path name e) ∙ (origin-named (mark_at layer (child_path path name)) (at-named layer (child_path path name)) e).0
        by false e =
            ap has_names (turn-child layer path name e)
            ∙ has_names-child (turn layer path) (name_in_lower (mark_at layer (child_path path name)) name) (later parts.0)
            (lower-named (mark_at layer (child_path path name)) name (at-named layer (child_path path name)) (both {a = is_name name} {b = true} parts.1).0)

turn-below_root : (layer : Entries) (path : PathNames) → is_root path ≡ false → is_root (turn layer path) ≡ false
turn-below_root layer = by_child (λ path. is_root path ≡ false → is_root (turn layer path) ≡ false) (λ below. let bad : true ≡ false = below in cc) step
  where
    step : (path : PathNames) (name : PathName) → (is_root path ≡ false → is_root (turn layer path) ≡ false) → is_root (child_path path name) ≡ false → is_root (turn layer (child_path path name)) ≡ false
    step path name later below = by (is_some (origin_path (mark_at layer (child_path path name)))) refl
      where
        by : (b : Bool) → is_some (origin_path (mark_at layer (child_path path name))) ≡ b → is_root (turn layer (child_path path name)) ≡ false
        by true e = ap is_root (turn-moved layer path name e) ∙ (origin-named (mark_at layer (child_path path name)) (at-named layer (child_path path name)) e).1
        by false e = ap is_root (turn-child layer path name e) ∙ length-child (turn layer path) (name_in_lower (mark_at layer (child_path path name)) name)

-- where a walk goes on beyond a directory
module _ (P : PathNames → Type 0) (turned : PathNames) (shut : Bool) (own : PathName) (beside : (name : PathName) → is_name name ≡ true → P (child_path turned name)) (jumped : (place : PathNames) → has_names place ≡ true → is_root place ≡ false → P place) where
  file-next : (inode : Inode) (mark : Mark) → IsNamedMark mark → P (child_path turned own) → P (walk_to_file inode mark turned shut own).next
  file-next inode (Meta None) named here = here
  file-next inode (Meta (Some (To place))) named here = jumped place named.0 named.1
  file-next inode (Meta (Some (Beside name))) named here = beside name named
  file-next inode Whiteout named here = here
  file-next inode DirOpaque named here = here
  file-next inode (DirMoved redirect) named here = here
  file-next inode DirBad named here = here
  file-next inode DirPlain named here = here
  file-next inode MetaBad named here = here
  file-next inode Leaf named here = here

  beyond-next : (found : Option Inode) (rest : PathNames) → P (turned ++ own ∷ rest) → P (walk_beyond found turned shut own rest).next
  beyond-next None rest here = here
  beyond-next (Some inode) (other ∷ rest) here = here
  beyond-next (Some inode) [] here = by (is_whiteout inode)
    where
      by : (b : Bool) → P (cond b (nothing_found (child_path turned own) true) (walk_to_file inode (mark_of inode) turned shut own)).next
      by true = here
      by false = file-next inode (mark_of inode) (mark-named inode) here

root_append : (path : PathNames) (name : PathName) (names : PathNames) → is_root (path ++ name ∷ names) ≡ false
root_append [] name names = refl
root_append (first ∷ path) name names = refl

module _ (layer : Entries) (path : PathNames) where
  pub walk-named : has_names path ≡ true → has_names (walk layer path).next ≡ true
  walk-named named = by (drop (length (longest (is_directory_at layer) path)) path) refl
    where
      by : (rest : PathNames) → drop (length (longest (is_directory_at layer) path)) path ≡ rest → has_names (walk layer path).next ≡ true
      by rest e = ap (λ (r : PathNames). has_names (walk_from layer (longest (is_directory_at layer) path) r).next) e ∙ at rest parts.0 parts.1
        where
          parts : (has_names (longest (is_directory_at layer) path) ≡ true) × (has_names rest ≡ true)
          parts = both {a = has_names (longest (is_directory_at layer) path)} {b = has_names rest}
              (sym (list_all-append is_name (longest (is_directory_at layer) path) rest) ∙ (ap (λ (r : PathNames). has_names (longest (is_directory_at layer) path ++ r)) (sym e) ∙ (ap has_names (longest-rest (is_directory_at layer) path) ∙ named)))

          at : (rest : PathNames) → has_names (longest (is_directory_at layer) path) ≡ true → has_names rest ≡ true → has_names (walk_from layer (longest (is_directory_at layer) path) rest).next ≡ true
          at [] above later = turn-named layer (longest (is_directory_at layer) path) above
          at (own ∷ rest) above later =
              beyond-next (λ next. has_names next ≡ true) (turn layer (longest (is_directory_at layer) path)) (is_shut layer (longest (is_directory_at layer) path)) own
              (λ name is_one. has_names-child (turn layer (longest (is_directory_at layer) path)) name (turn-named layer (longest (is_directory_at layer) path) above) is_one)
              (λ place named_place below. named_place)
              (entry_at layer (child_path (longest (is_directory_at layer) path) own)) rest
              (list_all-append is_name (turn layer (longest (is_directory_at layer) path)) (own ∷ rest) ∙ (λ j. turn-named layer (longest (is_directory_at layer) path) above j && later j))

  pub walk-below_root : is_root path ≡ false → is_root (walk layer path).next ≡ false
  walk-below_root below = by (drop (length (longest (is_directory_at layer) path)) path) refl
    where
      by : (rest : PathNames) → drop (length (longest (is_directory_at layer) path)) path ≡ rest → is_root (walk layer path).next ≡ false
      by [] e =
          let whole_path : longest (is_directory_at layer) path ≡ path = sym (append-nil (longest (is_directory_at layer) path)) ∙ (ap (λ (r : PathNames). longest (is_directory_at layer) path ++ r) (sym e) ∙ longest-rest (is_directory_at layer) path) in
          ap (λ (r : PathNames). is_root (walk_from layer (longest (is_directory_at layer) path) r).next) e
          ∙ turn-below_root layer (longest (is_directory_at layer) path) (ap is_root whole_path ∙ below)
      by (own ∷ rest) e =
          ap (λ (r : PathNames). is_root (walk_from layer (longest (is_directory_at layer) path) r).next) e
          ∙ beyond-next (λ next. is_root next ≡ false) (turn layer (longest (is_directory_at layer) path)) (is_shut layer (longest (is_directory_at layer) path)) own
          (λ name is_one. length-child (turn layer (longest (is_directory_at layer) path)) name)
          (λ place named_place deeper. deeper)
          (entry_at layer (child_path (longest (is_directory_at layer) path) own)) rest
          (root_append (turn layer (longest (is_directory_at layer) path)) own rest)
