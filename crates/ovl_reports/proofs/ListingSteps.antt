-- The lines of the merged tree as far as they are written, from a number of its paths on, and what each entry adds to them.
use Rattle.std.proofs.Common.{◌≡◌, ℕ, zero, suc, ◌+◌, ◌-◌, ◌<◌, ◌≤◌, Bool, false, true, cond, List, [], ◌∷◌, ◌++◌, length, get_or, map, take, drop, drop-cons, refl, sym, ap, ◌∙◌, subst, arith, append-nil, append_assoc, length-append, length-drop, string_bytes}
use Rattle.std.specs.Prelude.{◌==◌, codes}
use Rattle.std.specs.List.{flat_map, All}
use Rattle.std.proofs.Math.Dec.{eqb-suc-zero, leb}
use Rattle.std.proofs.Math.Seq.{take-append_seam}
use Rattle.std.proofs.lemmas.Bool.{leb-true, leb-false}
use Rattle.std.proofs.lemmas.List.{drop-append-le, drop-drop, drop-map, drop-take, drop_all, map-append, take-map, take_all}
use Rattle.std.proofs.lemmas.List.Concat.{flat_map-append}
use Rattle.std.proofs.lemmas.List.Folds.{flat_map-map}
use Rattle.ovl_names.specs.Names.{PathName}
use Rattle.ovl_names.specs.Paths.{PathNames, child_path}
use Rattle.ovl_names.specs.Escapes.{escaped, shown_path}
use Rattle.ovl_layer.specs.Layers.{IsLayer}
use Rattle.ovl_lookup.specs.Stacks.{StackView}
use Rattle.ovl_lookup.specs.Merged.{is_shown_directory}
use Rattle.ovl_board.proofs.LawsOfMembers.{Every}
use Rattle.ovl_reports.specs.declared.listings.Open.{Open}
use Rattle.ovl_reports.specs.Directories.{NamedLook, ShowParcel, IsShowWalk}
use Rattle.ovl_reports.specs.Reports.{look_line, show_line, shown_names}
use Rattle.ovl_reports.specs.Listings.{TellsLeaves, name_line, merged_tree}
use Rattle.ovl_reports.proofs.MergedLemmas.{with_look, tree_paths}
use Rattle.ovl_reports.proofs.ListingLemmas.{OpenView, IsTold, stacked, paths_left, all_paths, views_of, left-exhausted, left-look, left-told, next-path, left-entered, first-path, left-first, every-front, every-last, every-push}

abbrev pub view : Open → OpenView
view o = (o.parcel.now.piece.dir, drop o.told o.parcel.now.out.items)

abbrev HasText : Open → Type 0
HasText o = string_bytes o.text ≡ shown_names o.parcel.now.piece.dir

-- the entries from one of them on
pub next_left : (entries : List NamedLook) (told : ℕ) (entry : NamedLook) → told < length entries → entry ≡ get_or entries told entry → drop told entries ≡ entry ∷ drop (told + 1) entries
next_left entries told entry inside is =
    let more : suc told ≡ told + 1 = omega arith in
    drop-cons entries told entry inside ∙ (λ j. sym is j ∷ drop (more j) entries)

pub shown-child : (dir : PathNames) (name : PathName) → shown_path (child_path dir name) ≡ shown_names dir ++ (codes "/" ++ escaped name)
shown-child [] name = append-nil (codes "/" ++ escaped name)
shown-child (first ∷ dir) name =
    flat_map-append (λ own. codes "/" ++ escaped own) (first ∷ dir) (name ∷ []) ∙ ap (λ l. shown_names (first ∷ dir) ++ l) (append-nil (codes "/" ++ escaped name))

pub text-child : (dir : PathNames) (name : PathName) → shown_names (child_path dir name) ≡ shown_names dir ++ (codes "/" ++ escaped name)
text-child dir name = flat_map-append (λ own. codes "/" ++ escaped own) dir (name ∷ []) ∙ ap (λ l. shown_names dir ++ l) (append-nil (codes "/" ++ escaped name))

module _ (stack : StackView) (first : ℕ) where
  abbrev line_at : PathNames → List ℕ
  line_at path = show_line (with_look stack path)

  -- the report has the lines of the paths that are listed, but for the first ones, and is to have those of the others
  pub record IsListing (report : List ℕ) (entries : ℕ) (opens : List Open) (rest : List ShowParcel) : Type 0 where
    pub told : List PathNames
    pub is_told : IsTold stack (map view opens) told (views_of rest)
    pub written : report ≡ flat_map line_at (drop first told)
    pub counted : entries ≡ length told
    pub texts : Every HasText opens

  -- the lines of some entries, of which the first one is listed
  first_told : (line : NamedLook → List ℕ) (report : List ℕ) (entry : NamedLook) (others : List NamedLook) (entries : ℕ)
      → report ++ flat_map line (drop (first - entries) (entry ∷ others)) ≡ (report ++ cond (leb first entries) (line entry) []) ++ flat_map line (drop (first - (entries + 1)) others)
  first_told line report entry others entries = by (leb first entries) refl
    where
      by : (b : Bool) → leb first entries ≡ b → report ++ flat_map line (drop (first - entries) (entry ∷ others)) ≡ (report ++ cond (leb first entries) (line entry) []) ++ flat_map line (drop (first - (entries + 1)) others)
      by true e =
          let now : first - entries ≡ 0 = omega (arith, leb-true first entries e) in
          let then : first - (entries + 1) ≡ 0 = omega (arith, leb-true first entries e) in
          ap (λ n. report ++ flat_map line (drop n (entry ∷ others))) now
          ∙ (sym (append_assoc report (line entry) (flat_map line others))
          ∙ (λ j. (report ++ cond (sym e j) (line entry) []) ++ flat_map line (drop (sym then j) others)))
      by false e =
          let now : first - entries ≡ suc (first - (entries + 1)) = omega (arith, leb-false first entries e) in
          ap (λ n. report ++ flat_map line (drop n (entry ∷ others))) now
          ∙ (λ j. (sym (append-nil report) j) ++ flat_map line (drop (first - (entries + 1)) others))
          ∙ (λ j. (report ++ cond (sym e j) (line entry) []) ++ flat_map line (drop (first - (entries + 1)) others))

  module _ (each : All IsLayer stack.layers) where
    -- the directory that was opened last has nothing left
    pub listing-exhausted : (report : List ℕ) (entries : ℕ) (opens : List Open) (o : Open) (rest : List ShowParcel) → IsListing report entries (opens ++ o ∷ []) rest
        → (view o).1 ≡ [] → IsListing report entries opens rest
    listing-exhausted report entries opens o rest h none = record {
      told = h.told;
      is_told = left-exhausted stack each view opens o h.told (views_of rest) h.is_told none;
      written = h.written;
      counted = h.counted;
      texts = every-front HasText opens o h.texts;
    }

    -- ... or an entry
    module _ (report : List ℕ) (entries : ℕ) (opens : List Open) (o : Open) (rest : List ShowParcel) (h : IsListing report entries (opens ++ o ∷ []) rest) (entry : NamedLook) (left : List NamedLook)
        (some : (view o).1 ≡ entry ∷ left) (wanted : Bool) (is_wanted : wanted ≡ true → first ≤ entries) (unwanted : wanted ≡ false → entries < first)
        (longer : List ℕ) (more : longer ≡ report ++ cond wanted (look_line (string_bytes o.text ++ (codes "/" ++ escaped entry.0)) entry.1) [])
        (o' : Open) (same : view o' ≡ ((view o).0, left)) (text : string_bytes o'.text ≡ string_bytes o.text) where
      abbrev child : PathNames
      child = child_path (view o).0 entry.0

      path_text : string_bytes o.text ++ (codes "/" ++ escaped entry.0) ≡ shown_path child
      path_text = ap (λ l. l ++ (codes "/" ++ escaped entry.0)) (every-last HasText opens o h.texts) ∙ sym (shown-child (view o).0 entry.0)

      line_text : look_line (string_bytes o.text ++ (codes "/" ++ escaped entry.0)) entry.1 ≡ line_at child
      line_text =
          ap (λ l. look_line l entry.1) path_text
          ∙ ap (look_line (shown_path child)) (left-look stack each view opens o entry left h.told rest h.is_told some)

      written-next : longer ≡ flat_map line_at (drop first (h.told ++ child ∷ []))
      written-next = by wanted refl
        where
          by : (b : Bool) → wanted ≡ b → longer ≡ flat_map line_at (drop first (h.told ++ child ∷ []))
          by true e =
              let begun : first ≤ length h.told = omega (arith, is_wanted e, h.counted) in
              more
              ∙ (ap (λ b. report ++ cond b (look_line (string_bytes o.text ++ (codes "/" ++ escaped entry.0)) entry.1) []) e
              ∙ (ap (λ l. report ++ l) line_text
              ∙ (ap (λ l. l ++ line_at child) h.written
              ∙ (ap (λ l. flat_map line_at (drop first h.told) ++ l) (sym (append-nil (line_at child)))
              ∙ (sym (flat_map-append line_at (drop first h.told) (child ∷ []))
              ∙ ap (flat_map line_at) (sym (drop-append-le first h.told (child ∷ []) begun)))))))
          by false e =
              let before : entries < first = unwanted e in
              let none : drop first h.told ≡ [] = drop_all first h.told (omega (arith, before, h.counted)) in
              let still : drop first (h.told ++ child ∷ []) ≡ [] = drop_all first (h.told ++ child ∷ []) (omega (arith, before, h.counted, length-append h.told (child ∷ []))) in
              more
              ∙ (ap (λ b. report ++ cond b (look_line (string_bytes o.text ++ (codes "/" ++ escaped entry.0)) entry.1) []) e
              ∙ (append-nil report
              ∙ (h.written
              ∙ (ap (flat_map line_at) none ∙ sym (ap (flat_map line_at) still)))))

      counted-next : entries + 1 ≡ length (h.told ++ child ∷ [])
      counted-next = omega (arith, h.counted, length-append h.told (child ∷ []))

      texts-next : Every HasText (opens ++ o' ∷ [])
      texts-next = every-push HasText opens o' (every-front HasText opens o h.texts) (text ∙ (every-last HasText opens o h.texts ∙ ap (λ (v : OpenView). shown_names v.0) (sym same)))

      pub listing-told : is_shown_directory entry.1 ≡ false → IsListing longer (entries + 1) (opens ++ o' ∷ []) rest
      listing-told other = record {
        told = h.told ++ child ∷ [];
        is_told = left-told stack each view opens o entry left h.told rest h.is_told some o' same other;
        written = written-next;
        counted = counted-next;
        texts = texts-next;
      }

      -- ... that is a directory, whose parcel is the next one
      pub listing-entered : is_shown_directory entry.1 ≡ true → (parcel : ShowParcel) (parcels : List ShowParcel) → rest ≡ parcel ∷ parcels
          → (o'' : Open) → o''.parcel.now ≡ parcel → o''.told ≡ 0 → string_bytes o''.text ≡ string_bytes o.text ++ (codes "/" ++ escaped entry.0)
          → IsListing longer (entries + 1) ((opens ++ o' ∷ []) ++ o'' ∷ []) parcels
      listing-entered is parcel parcels e o'' its none its_text = record {
        told = h.told ++ child ∷ [];
        is_told = left-entered stack each view opens o entry left h.told rest h.is_told some o' same is parcel parcels e o'' (λ j. ((its j).piece.dir, drop (none j) (its j).out.items));
        written = written-next;
        counted = counted-next;
        texts =
            let path : child ≡ o''.parcel.now.piece.dir = sym (ap (λ (p : ShowParcel). p.piece.dir) its ∙ next-path stack each view opens o entry left h.told rest h.is_told some o' same is parcel parcels e) in
            every-push HasText (opens ++ o' ∷ []) o'' texts-next
            (its_text ∙ (ap (λ l. l ++ (codes "/" ++ escaped entry.0)) (every-last HasText opens o h.texts) ∙ (sym (text-child (view o).0 entry.0) ∙ ap shown_names path)));
      }

    -- ... or entries that are no directories
    pub listing-leaves : (report : List ℕ) (entries : ℕ) (opens : List Open) (o : Open) (rest : List ShowParcel) → IsListing report entries (opens ++ o ∷ []) rest
        → (leaves left : List NamedLook) → (view o).1 ≡ leaves ++ left → All (λ entry. is_shown_directory entry.1 ≡ false) leaves
        → (longer : List ℕ) → longer ≡ report ++ flat_map (name_line (string_bytes o.text)) (drop (first - entries) leaves)
        → (o' : Open) → view o' ≡ ((view o).0, left) → string_bytes o'.text ≡ string_bytes o.text → IsListing longer (entries + length leaves) (opens ++ o' ∷ []) rest
    listing-leaves report entries opens o rest h [] left all are longer more o' same text =
        let none : drop (first - entries) [] ≡ [] = drop_all {X = NamedLook} (first - entries) [] (omega arith) in
        let seen : view o' ≡ view o = same ∙ (λ j. ((view o).0, sym all j)) in
        let count : entries ≡ entries + 0 = omega arith in
        let reported : longer ≡ report = more ∙ (ap (λ l. report ++ flat_map (name_line (string_bytes o.text)) l) none ∙ append-nil report) in
        subst (λ n. IsListing longer n (opens ++ o' ∷ []) rest) count
        (record {
          told = h.told;
          is_told = subst (λ l. IsTold stack l h.told (views_of rest)) (map-append view opens (o ∷ []) ∙ (ap (λ v. map view opens ++ v ∷ []) (sym seen) ∙ sym (map-append view opens (o' ∷ [])))) h.is_told;
          written = reported ∙ h.written;
          counted = h.counted;
          texts = every-push HasText opens o' (every-front HasText opens o h.texts) (text ∙ (every-last HasText opens o h.texts ∙ ap (λ (v : OpenView). shown_names v.0) (sym seen)));
        })
    listing-leaves report entries opens o rest h (entry ∷ leaves) left all are longer more o' same text =
        let line = name_line (string_bytes o.text) in
        let o'' = record o { told = o.told + 1 } in
        let behind : drop (o.told + 1) o.parcel.now.out.items ≡ leaves ++ left = sym (drop-drop 1 o.told o.parcel.now.out.items) ∙ ap (drop 1) all in
        let told = listing-told report entries opens o rest h entry (leaves ++ left) all (leb first entries) (leb-true first entries) (leb-false first entries)
        (report ++ cond (leb first entries) (line entry) []) refl o'' (λ j. ((view o).0, behind j)) refl (are 0 entry (omega arith)) in
        let count : (entries + 1) + length leaves ≡ entries + suc (length leaves) = omega arith in
        subst (λ n. IsListing longer n (opens ++ o' ∷ []) rest) count
        (listing-leaves (report ++ cond (leb first entries) (line entry) []) (entries + 1) opens o'' rest told leaves left behind (λ k d i. are (suc k) d (omega (arith, i)))
        longer (more ∙ first_told line report entry leaves entries) o' same text)

    pub listing-leaves_told : (report : List ℕ) (entries : ℕ) (opens : List Open) (o : Open) (rest : List ShowParcel) → IsListing report entries (opens ++ o ∷ []) rest
        → (o' : Open) (longer : List ℕ) (number : ℕ) → TellsLeaves first (string_bytes o.text) (view o).1 (drop o'.told o.parcel.now.out.items) entries number report longer
        → o'.parcel ≡ o.parcel → o'.text ≡ o.text → IsListing longer number (opens ++ o' ∷ []) rest
    listing-leaves_told report entries opens o rest h o' longer number told parcel text =
        subst (λ n. IsListing longer n (opens ++ o' ∷ []) rest) (sym told.counted)
        (listing-leaves report entries opens o rest h told.leaves (drop o'.told o.parcel.now.out.items) told.all told.are longer told.written
        o' (λ j. ((parcel j).now.piece.dir, drop o'.told (parcel j).now.out.items)) (ap string_bytes text))

    module _ (some : 0 < length stack.layers) where
      -- at first the root is listed, and its directory is open
      pub listing-first : (parcel : ShowParcel) (parcels : List ShowParcel) → IsShowWalk stack (views_of (parcel ∷ parcels))
          → (report : List ℕ) → report ≡ cond (first == 0) (line_at []) [] → (o : Open) → o.parcel.now ≡ parcel → o.told ≡ 0 → string_bytes o.text ≡ [] → IsListing report 1 (o ∷ []) parcels
      listing-first parcel parcels plain report line o its none its_text = record {
        told = [] ∷ [];
        is_told = left-first stack each some parcel parcels plain view o (λ j. ((its j).piece.dir, drop (none j) (its j).out.items));
        written = line ∙ root_line first;
        counted = refl;
        texts =
            let path : [] ≡ o.parcel.now.piece.dir = sym (ap (λ (p : ShowParcel). p.piece.dir) its ∙ first-path stack each some parcel parcels plain) in
            every-push HasText [] o (λ p i. absurd i) (its_text ∙ ap shown_names path);
      }
        where
          root_line : (n : ℕ) → cond (n == 0) (line_at []) [] ≡ flat_map line_at (drop n ([] ∷ []))
          root_line zero = sym (append-nil (line_at []))
          root_line (suc n) = ap (λ b. cond b (line_at []) []) (eqb-suc-zero n) ∙ ap (flat_map line_at) (sym (drop_all {X = PathNames} (suc n) ([] ∷ []) (omega arith)))

      -- the lines of a share of the paths are written once as many paths are listed, or all
      shares_lines : (share : ℕ) → flat_map line_at (take share (drop first (all_paths stack))) ≡ flat_map show_line (take share (drop first (merged_tree stack)))
      shares_lines share =
          let paths = all_paths stack in
          sym (flat_map-map show_line (with_look stack) (take share (drop first paths)))
          ∙ ap (flat_map show_line)
          (sym (take-map (with_look stack) share (drop first paths))
          ∙ ap (take share) (sym (drop-map (with_look stack) first paths) ∙ ap (drop first) (sym (tree_paths stack each some))))

      pub listing-share : (report : List ℕ) (entries : ℕ) (opens : List Open) (rest : List ShowParcel) → IsListing report entries opens rest
          → (share : ℕ) → entries ≡ first + share → report ≡ flat_map show_line (take share (drop first (merged_tree stack)))
      listing-share report entries opens rest h share full =
          let paths = all_paths stack in
          let left = stacked (paths_left stack) (map view opens) in
          let front : h.told ≡ take (first + share) paths =
          sym (take-append_seam h.told left) ∙ ((λ j. take (sym h.counted j) (h.is_told.paths j)) ∙ ap (λ n. take n paths) full) in
          h.written ∙ (ap (λ l. flat_map line_at (drop first l)) front ∙ (ap (flat_map line_at) (drop-take first share paths) ∙ shares_lines share))

      pub listing-last : (report : List ℕ) (entries : ℕ) (rest : List ShowParcel) → IsListing report entries [] rest
          → (share : ℕ) → entries ≤ first + share → report ≡ flat_map show_line (take share (drop first (merged_tree stack)))
      listing-last report entries rest h share few =
          let paths = all_paths stack in
          let all : h.told ≡ paths = sym (append-nil h.told) ∙ h.is_told.paths in
          let within : length (drop first paths) ≤ share = omega (arith, few, h.counted, ap length all, length-drop first paths) in
          h.written
          ∙ (ap (λ l. flat_map line_at (drop first l)) all
          ∙ (ap (flat_map line_at) (sym (take_all share (drop first paths) within)) ∙ shares_lines share))
