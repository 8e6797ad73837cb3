-- How far a walk goes through directories of a layer, and where it ends.
use Rattle.std.proofs.Common.{◌≡◌, ℕ, ◌+◌, ◌-◌, ◌<◌, ◌≤◌, Bool, true, false, cond, Option, Some, None, is_some, List, [], ◌∷◌, ◌++◌, length, take, drop, refl, sym, ap, ◌∙◌, subst, append-nil, length-drop, arith}
use Rattle.std.specs.Prelude.{◌||◌, unwrap_or, MatchOption}
use Rattle.std.specs.Option.{option_map}
use Rattle.std.proofs.Math.Seq.{take-length, drop-append_seam}
use Rattle.ovl_names.specs.Names.{PathName}
use Rattle.ovl_names.specs.Paths.{PathNames, child_path}
use Rattle.ovl_inode.specs.declared.inodes.Inode.{Inode}
use Rattle.ovl_inode.specs.declared.marks.Mark.{Mark}
use Rattle.ovl_inode.specs.declared.marks.Mark.TheVariants.{DirPlain}
use Rattle.ovl_inode.specs.Marks.{mark_of, is_whiteout}
use Rattle.ovl_layer.specs.Layers.{Entries, IsLayer, entry_at, is_directory_at}
use Rattle.ovl_layer.specs.LayerTrees.{entries_under}
use Rattle.ovl_layer.specs.Sheets.{path_at}
use Rattle.ovl_layer.proofs.NodeLemmas.{entry_at-under}
use Rattle.ovl_lookup.specs.Walk.{nothing_found, walk, walk_beyond}
use Rattle.ovl_lookup.specs.NextLookups.{next_on, closed_on}
use Rattle.ovl_lookup.specs.declared.steps.Descent.{Descent}
use Rattle.ovl_lookup.specs.declared.steps.OwnDirectory.{OwnDirectory}
use Rattle.ovl_lookup.specs.declared.steps.Step.{Step}
use Rattle.ovl_lookup.specs.Passes.{IsNumberAt, IsOwnDirectory, IsOwnEntry, IsStop, IsDescent, IsPast}
use Rattle.ovl_lookup.proofs.LawsOfInodes.{is_directory_mark}
use Rattle.ovl_lookup.proofs.LawsOfWalks.{directory_found, entry-of_row, marked-directory, own-mark, past-there, stop-walk, walk-child, walk-whole}

-- the rest of a list as a slice gives it
pub take-rest : {X : Type 0} (xs : List X) (i : ℕ) → take (length xs - i) (drop i xs) ≡ drop i xs
take-rest xs i = ap (λ n. take n (drop i xs)) (sym (length-drop i xs)) ∙ take-length (drop i xs)

-- the root
pub root-own : (layer : Entries) → IsLayer layer → (row : ℕ) → row < length layer → path_at layer row ≡ [] → IsOwnDirectory layer [] (record { row = row; turned = None; closed = false })
root-own layer is row inside here =
    let step = walk-whole layer [] is.rooted in
    record { inside = inside; here = here; directory = is.rooted; next = sym (ap (λ (s : Step). s.next) step); closed = sym (ap (λ (s : Step). s.closed) step) }

-- what is at a name in a directory, by its row, and how the walk goes on there by its mark
pub entry-entered : (layer : Entries) (path : PathNames) (name : PathName) → IsLayer layer → (own : OwnDirectory) → IsOwnDirectory layer path own
    → (number : ℕ) → number < length layer → path_at layer number ≡ child_path path name → (mark : Mark) → option_map mark_of (entry_at layer (path_at layer number)) ≡ Some mark
    → (turned : Option PathNames) (closed : Bool) → unwrap_or turned (child_path path name) ≡ next_on mark (unwrap_or own.turned path) name → closed ≡ closed_on mark name own.closed
    → IsOwnEntry layer (child_path path name) (record { row = number; turned = turned; closed = closed })
entry-entered layer path name is own stands number inside at mark marked turned closed on shut =
    let found = entry-of_row layer number is inside in
    let same : mark ≡ mark_of found.0 = own-mark found.0 mark (sym (ap (option_map mark_of) found.1) ∙ marked) in
    let step = walk-child layer path name is found.0 (ap (entry_at layer) (sym at) ∙ found.1) in
    record {
      inside = inside;
      here = at;
      next = on ∙ ((λ j. next_on (same j) (stands.next j) name) ∙ sym (ap (λ (s : Step). s.next) step));
      closed = shut ∙ ((λ j. closed_on (same j) name (stands.closed j)) ∙ sym (ap (λ (s : Step). s.closed) step));
    }

-- a plain directory in one that nothing turns is known by its own path
pub plain-entered : (layer : Entries) (path : PathNames) (name : PathName) → IsLayer layer → (row : ℕ) (closed : Bool) → IsOwnDirectory layer path (record { row = row; turned = None; closed = closed })
    → (number : ℕ) → number < length layer → path_at layer number ≡ child_path path name → option_map mark_of (entry_at layer (path_at layer number)) ≡ Some DirPlain
    → IsOwnDirectory layer (child_path path name) (record { row = number; turned = None; closed = closed })
plain-entered layer path name is row closed stands number inside at marked =
    let found = entry-of_row layer number is inside in
    let plain : DirPlain ≡ mark_of found.0 = own-mark found.0 DirPlain (sym (ap (option_map mark_of) found.1) ∙ marked) in
    let entered = entry-entered layer path name is (record { row = row; turned = None; closed = closed }) stands number inside at DirPlain marked None closed refl refl in
    record {
      inside = inside;
      here = at;
      directory = ap directory_found (ap (entry_at layer) (sym at) ∙ found.1) ∙ marked-directory found.0 (ap is_directory_mark (sym plain));
      next = entered.next;
      closed = entered.closed;
    }

-- what is at a name in a directory, by the number of its row
pub sought : (layer : Entries) (above : PathNames) (name : PathName) (row : ℕ) → path_at layer row ≡ above → (number : Option ℕ)
    → MatchOption number (entries_under (child_path (path_at layer row) name) layer ≡ []) (λ child. (child < length layer) × (path_at layer child ≡ child_path (path_at layer row) name))
    → IsNumberAt layer (child_path above name) number
sought layer above name row here None nothing =
    entry_at-under (child_path above name) layer
    ∙ ap (λ (entries : Entries). entry_at entries []) (ap (λ (p : PathNames). entries_under (child_path p name) layer) (sym here) ∙ nothing)
sought layer above name row here (Some child) there = (there.0, there.1 ∙ ap (λ (p : PathNames). child_path p name) here)

pub length-seam : (above : PathNames) (name : PathName) (rest : PathNames) → length (above ++ name ∷ rest) ≡ length above + 1 + length rest
length-seam [] name rest = omega arith
length-seam (own ∷ above) name rest = let later = length-seam above name rest in omega (arith, later)

-- ---- a descent

-- what is at the path of a number
number-found : (layer : Entries) (path : PathNames) → IsLayer layer → (number : Option ℕ) → IsNumberAt layer path number → is_some number ≡ is_some (entry_at layer path)
number-found layer path is None none = sym (ap is_some none)
number-found layer path is (Some number) at = let found = entry-of_row layer number is at.0 in sym (ap is_some (sym (ap (entry_at layer) at.1) ∙ found.1))

module _ (layer : Entries) (path : PathNames) (d : Descent) (is : IsDescent layer path d) where
  seam : (one other : PathNames) → take (length one) (one ++ other) ≡ one
  seam [] other = refl
  seam (name ∷ one) other = ap (λ (names : PathNames). name ∷ names) (seam one other)

  -- the path that goes on past it
  goes-past : unwrap_or d.own.turned (take d.depth path) ++ drop d.depth path ≡ (walk layer is.above).next ++ is.rest
  goes-past =
      (λ j. unwrap_or d.own.turned (take (is.depth j) (sym is.whole j)) ++ drop (is.depth j) (sym is.whole j))
      ∙ ((λ j. unwrap_or d.own.turned (seam is.above is.rest j) ++ drop-append_seam is.above is.rest j)
      ∙ ap (λ (next : PathNames). next ++ is.rest) is.own.next)

  whole-path : is.rest ≡ [] → is.above ≡ path
  whole-path none = sym (append-nil is.above) ∙ (ap (λ (names : PathNames). is.above ++ names) (sym none) ∙ is.whole)

  longer : (name : PathName) (rest : PathNames) → is.rest ≡ name ∷ rest → length path ≡ d.depth + 1 + length rest
  longer name rest e =
      ap length (sym is.whole ∙ ap (λ (names : PathNames). is.above ++ names) e)
      ∙ (length-seam is.above name rest ∙ ap (λ n. n + 1 + length rest) (sym is.depth))

  pub not-deeper : d.depth ≤ length path
  not-deeper = by is.rest refl
    where
      by : (rest : PathNames) → is.rest ≡ rest → d.depth ≤ length path
      by [] e = omega (arith, is.depth, ap length (whole-path e))
      by (name ∷ rest) e = omega (arith, longer name rest e)

  -- it goes through the whole path
  pub all-walked : d.depth ≡ length path → IsOwnDirectory layer path d.own
  all-walked all = by is.rest refl
    where
      by : (rest : PathNames) → is.rest ≡ rest → IsOwnDirectory layer path d.own
      by [] e = subst (λ (p : PathNames). IsOwnDirectory layer p d.own) (whole-path e) is.own
      by (name ∷ rest) e = absurd (omega (arith, all, longer name rest e))

  pub walked-through : d.depth ≡ length path → record { found = entry_at layer (path_at layer d.own.row); next = unwrap_or d.own.turned path; closed = d.own.closed } ≡ walk layer path
  walked-through all =
      let own = all-walked all in
      let step = walk-whole layer path own.directory in
      (λ j. record { found = entry_at layer (own.here j); next = (own.next ∙ ap (λ (s : Step). s.next) step) j; closed = (own.closed ∙ ap (λ (s : Step). s.closed) step) j })
      ∙ sym step

  module _ (short : d.depth ≡ length path → ⊥) where
    -- the name at which it stops, and those after that
    pub record Stopped : Type 0 where
      pub name : PathName
      pub tail : PathNames
      pub rest : is.rest ≡ name ∷ tail
      pub none : is_directory_at layer (child_path is.above name) ≡ false
      pub number : IsNumberAt layer (child_path is.above name) d.number

    pub stopped : Stopped
    stopped = by is.rest refl is.stop
      where
        by : (rest : PathNames) → is.rest ≡ rest → IsStop layer is.above rest d.number → Stopped
        by [] e stop = absurd (short (is.depth ∙ ap length (whole-path e)))
        by (name ∷ tail) e stop = record { name = name; tail = tail; rest = e; none = stop.0; number = stop.1 }

    at-rest : is.above ++ stopped.name ∷ stopped.tail ≡ path
    at-rest = ap (λ (names : PathNames). is.above ++ names) (sym stopped.rest) ∙ is.whole

    pub past-descent : IsPast layer path (unwrap_or d.own.turned (take d.depth path) ++ drop d.depth path) (d.own.closed || is_some d.number)
    past-descent =
        subst (λ (p : PathNames). IsPast layer p (unwrap_or d.own.turned (take d.depth path) ++ drop d.depth path) (d.own.closed || is_some d.number)) at-rest
        (subst (λ (next : PathNames). IsPast layer (is.above ++ stopped.name ∷ stopped.tail) next (d.own.closed || is_some d.number)) (sym (goes-past ∙ ap (λ (names : PathNames). (walk layer is.above).next ++ names) stopped.rest))
        (past-there layer is.layered is.above stopped.name is.own.directory stopped.none (entry_at layer (child_path is.above stopped.name)) refl stopped.tail (d.own.closed || is_some d.number)
        (λ j. is.own.closed j || number-found layer (child_path is.above stopped.name) is.layered d.number stopped.number j)))

    walk-stops : (found : Option Inode) → entry_at layer (child_path is.above stopped.name) ≡ found → walk layer path ≡ walk_beyond found (walk layer is.above).next (walk layer is.above).closed stopped.name stopped.tail
    walk-stops found here = ap (walk layer) (sym at-rest) ∙ stop-walk layer is.layered is.above stopped.name is.own.directory stopped.none found here stopped.tail

    passes : (walk layer is.above).next ++ stopped.name ∷ stopped.tail ≡ unwrap_or d.own.turned (take d.depth path) ++ drop d.depth path
    passes = sym (goes-past ∙ ap (λ (names : PathNames). (walk layer is.above).next ++ names) stopped.rest)

    -- nothing is there
    pub walked-past : d.number ≡ None → nothing_found (unwrap_or d.own.turned (take d.depth path) ++ drop d.depth path) d.own.closed ≡ walk layer path
    walked-past none =
        (λ j. nothing_found (sym passes j) (is.own.closed j))
        ∙ sym (walk-stops None (subst (IsNumberAt layer (child_path is.above stopped.name)) none stopped.number))

    module _ (number : ℕ) (some : d.number ≡ Some number) where
      pub row-there : (number < length layer) × (path_at layer number ≡ child_path is.above stopped.name)
      row-there = subst (IsNumberAt layer (child_path is.above stopped.name)) some stopped.number

      found-there : (inode : Inode) × (entry_at layer (child_path is.above stopped.name) ≡ Some inode)
      found-there = let found = entry-of_row layer number is.layered row-there.0 in (found.0, ap (entry_at layer) (sym row-there.1) ∙ found.1)

      -- something is there, and the path goes on below it
      pub walked-below : d.depth + 1 < length path → nothing_found (unwrap_or d.own.turned (take d.depth path) ++ drop d.depth path) true ≡ walk layer path
      walked-below more = ap (λ (next : PathNames). nothing_found next true) (sym passes) ∙ (by stopped.tail refl ∙ sym (walk-stops (Some found-there.0) found-there.1))
        where
          by : (tail : PathNames) → stopped.tail ≡ tail → nothing_found ((walk layer is.above).next ++ stopped.name ∷ stopped.tail) true ≡ walk_beyond (Some found-there.0) (walk layer is.above).next (walk layer is.above).closed stopped.name stopped.tail
          by [] e = absurd (omega (arith, more, longer stopped.name stopped.tail stopped.rest, ap length e))
          by (other ∷ tail) e =
              ap (λ (names : PathNames). nothing_found ((walk layer is.above).next ++ stopped.name ∷ names) true) e
              ∙ ap (walk_beyond (Some found-there.0) (walk layer is.above).next (walk layer is.above).closed stopped.name) (sym e)

      -- it is the path's last name
      pub last-name : (d.depth + 1 < length path → ⊥) → child_path is.above stopped.name ≡ path
      last-name last = by stopped.tail refl
        where
          by : (tail : PathNames) → stopped.tail ≡ tail → child_path is.above stopped.name ≡ path
          by [] e = ap (λ (names : PathNames). is.above ++ stopped.name ∷ names) (sym e) ∙ at-rest
          by (other ∷ tail) e = absurd (last (omega (arith, longer stopped.name stopped.tail stopped.rest, ap length e)))

      pub walked-to : (d.depth + 1 < length path → ⊥) → (end : OwnDirectory) → IsOwnEntry layer (child_path is.above stopped.name) end → (inode : Inode) → entry_at layer (path_at layer number) ≡ Some inode → (white : Bool) → is_whiteout inode ≡ white
          → record { found = cond white None (Some inode); next = unwrap_or end.turned path; closed = end.closed } ≡ walk layer path
      walked-to last end ends inode here white is_white =
          let whole = last-name last in
          let step = walk-child layer is.above stopped.name is.layered inode (ap (entry_at layer) (sym row-there.1) ∙ here) in
          (λ j. record { found = cond (sym is_white j) None (Some inode); next = (ap (unwrap_or end.turned) (sym whole) ∙ (ends.next ∙ ap (λ (s : Step). s.next) step)) j; closed = (ends.closed ∙ ap (λ (s : Step). s.closed) step) j })
          ∙ (sym step ∙ ap (walk layer) whole)
