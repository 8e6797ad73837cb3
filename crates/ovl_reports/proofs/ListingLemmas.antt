-- The merged tree listed in path order, from the parcels of its walk: the directories that are open lie below one another,
-- and each has entries that are still to be listed.
use Rattle.std.proofs.Common.{◌≡◌, ℕ, zero, suc, ◌-◌, ◌*◌, ◌<◌, ◌≤◌, inl, inr, true, false, cond, List, [], ◌∷◌, ◌++◌, length, map, refl, sym, ap, ◌∙◌, subst, arith, append-nil, append_assoc, length-append}
use Rattle.std.specs.Prelude.{filter}
use Rattle.std.specs.List.{flat_map, All}
use Rattle.std.proofs.lemmas.Bool.{cases_lt}
use Rattle.std.proofs.lemmas.List.{map-append}
use Rattle.std.proofs.lemmas.List.Folds.{flat_map-map}
use Rattle.ovl_names.specs.Names.{PathName}
use Rattle.ovl_names.specs.Paths.{PathNames, child_path, depth_limit}
use Rattle.ovl_layer.specs.Layers.{IsLayer}
use Rattle.ovl_lookup.specs.Stacks.{StackView}
use Rattle.ovl_lookup.specs.Merged.{IsMerged, look, is_shown_directory}
use Rattle.ovl_lookup.specs.Passes.{kids_along}
use Rattle.ovl_board.specs.declared.pieces.Piece.{Piece}
use Rattle.ovl_board.specs.Pieces.{piece_in}
use Rattle.ovl_board.specs.Walks.{preorder}
use Rattle.ovl_board.specs.Parcels.{ParcelView, parcel_view, parcel_views}
use Rattle.ovl_board.proofs.LawsOfMembers.{In, Every, In-left, In-right, In-cases, In-map-cases}
use Rattle.ovl_reports.specs.Directories.{NamedLook, ShowParcel, named_look, looks_in, directories_in, show_kids, show_root, IsShowWalk}
use Rattle.ovl_reports.proofs.DirectoryLemmas.{none_deepest, none_elsewhere}
use Rattle.ovl_reports.proofs.MergedLemmas.{at, with_look, paths_from, below, own, tree_paths, tree_merged, views_are}

-- ---- lists in a stack, the last one first

abbrev pub stacked : {X Y : Type 0} → (X → List Y) → List X → List Y
stacked f [] = []
stacked f (x ∷ xs) = stacked f xs ++ f x

stacked-push : {X Y : Type 0} (f : X → List Y) (xs : List X) (x : X) → stacked f (xs ++ x ∷ []) ≡ f x ++ stacked f xs
stacked-push f [] x = sym (append-nil (f x))
stacked-push f (y ∷ xs) x = ap (λ l. l ++ f y) (stacked-push f xs x) ∙ append_assoc (f x) (stacked f xs) (f y)

module _ {X : Type 0} (P : X → Type 0) (xs : List X) (x : X) where
  pub every-front : Every P (xs ++ x ∷ []) → Every P xs
  every-front h y i = h y (In-left y xs (x ∷ []) i)

  pub every-last : Every P (xs ++ x ∷ []) → P x
  every-last h = h x (In-right x xs (x ∷ []) (inl refl))

  pub every-push : Every P xs → P x → Every P (xs ++ x ∷ [])
  every-push h last y i = elim (In-cases y xs (x ∷ []) i) [
    | inl front ↦ h y front
    | inr back ↦ elim back [ inl e ↦ subst P (sym e) last | inr none ↦ absurd none ]
  ]

-- a directory that is open: its path, and the entries that are still to be listed
abbrev pub OpenView : Type 0
OpenView = PathNames × List NamedLook

module _ (stack : StackView) where
  abbrev whole : ℕ
  whole = depth_limit * length stack.layers

  -- the paths that it has still to list, and the pieces below it that are still to be opened
  abbrev pub paths_left : OpenView → List PathNames
  paths_left opened = flat_map (λ entry. paths_from stack (whole - length opened.0) (child_path opened.0 entry.0)) opened.1

  abbrev pieces_left : OpenView → List Piece
  pieces_left opened = flat_map (λ p. preorder (show_kids stack) (whole - length opened.0 - 1) p) (directories_in (at opened.0) opened.1)

  -- its entries are at the end of what the directory shows
  pub record IsOpen (opened : OpenView) : Type 0 where
    pub told : List NamedLook
    pub shown : looks_in stack opened.0 ≡ told ++ opened.1
    pub short : length opened.0 ≤ whole

  -- all paths of the merged tree
  abbrev pub all_paths : List PathNames
  all_paths = [] ∷ below stack whole []

  -- these paths are listed, these directories are open, and the parcels for the rest are these
  pub record IsTold (opens : List OpenView) (told : List PathNames) (rest : List (ParcelView (List NamedLook))) : Type 0 where
    pub paths : told ++ stacked paths_left opens ≡ all_paths
    pub each_open : Every IsOpen opens
    pub parcels : rest ≡ map (own stack) (stacked pieces_left opens)

  pub told_some : (opens : List OpenView) (told : List PathNames) (rest : List (ParcelView (List NamedLook))) → IsTold opens told rest → length told ≤ length all_paths
  told_some opens told rest h = omega (arith, ap length h.paths, length-append told (stacked paths_left opens))

  exhausted : (opens : List OpenView) (dir : PathNames) (told : List PathNames) (rest : List (ParcelView (List NamedLook))) → IsTold (opens ++ (dir, []) ∷ []) told rest → IsTold opens told rest
  exhausted opens dir told rest h = record {
    paths = ap (λ l. told ++ l) (sym (stacked-push paths_left opens (dir, []))) ∙ h.paths;
    each_open = every-front IsOpen opens (dir, []) h.each_open;
    parcels = h.parcels ∙ ap (map (own stack)) (stacked-push pieces_left opens (dir, []));
  }

  module _ (each : All IsLayer stack.layers) where
    all_below : (dir : PathNames) → paths_left (dir, looks_in stack dir) ≡ below stack (whole - length dir) dir
    all_below dir = flat_map-map (λ (entry : NamedLook). paths_from stack (whole - length dir) (child_path dir entry.0)) (named_look stack dir) (kids_along stack dir)

    -- the walk from a directory
    opening : (dir : PathNames) → length dir ≤ whole → preorder (show_kids stack) (whole - length dir) (at dir) ≡ at dir ∷ pieces_left (dir, looks_in stack dir)
    opening dir short = by (whole - length dir) refl
      where
        by : (n : ℕ) → whole - length dir ≡ n → preorder (show_kids stack) n (at dir) ≡ at dir ∷ flat_map (λ p. preorder (show_kids stack) (n - 1) p) (show_kids stack (at dir))
        by zero e =
            let none : kids_along stack dir ≡ [] = none_deepest stack each dir (omega (arith, short, e)) in
            sym (ap (λ names. at dir ∷ flat_map (λ p. preorder (show_kids stack) (zero - 1) p) (directories_in (at dir) (map (named_look stack dir) names))) none)
        by (suc n) e =
            let less : n ≡ suc n - 1 = omega arith in
            ap (λ m. at dir ∷ flat_map (λ p. preorder (show_kids stack) m p) (show_kids stack (at dir))) less

    module _ (opens : List OpenView) (dir : PathNames) (entry : NamedLook) (left : List NamedLook) (told : List PathNames) (rest : List (ParcelView (List NamedLook)))
        (h : IsTold (opens ++ (dir, entry ∷ left) ∷ []) told rest) where
      abbrev child : PathNames
      child = child_path dir entry.0

      abbrev this : IsOpen (dir, entry ∷ left)
      this = every-last IsOpen opens (dir, entry ∷ left) h.each_open

      entry_is : entry.1 ≡ look stack child
      entry_is =
          let there : In entry (looks_in stack dir) = subst (In entry) (sym this.shown) (In-right entry this.told (entry ∷ left) (inl refl)) in
          let found = In-map-cases (named_look stack dir) entry (kids_along stack dir) there in
          let name : found.0 ≡ entry.0 = sym (ap (λ (e : NamedLook). e.0) found.1.1) in
          ap (λ (e : NamedLook). e.1) found.1.1 ∙ ap (λ (n : PathName). look stack (child_path dir n)) name

      -- it isn't the deepest
      inner : length dir < whole
      inner = elim (cases_lt (length dir) whole) [
        | inl lt ↦ lt
        | inr ge ↦
            let none : kids_along stack dir ≡ [] = none_deepest stack each dir (omega (arith, ge, this.short)) in
            let bad : map (named_look stack dir) [] ≡ this.told ++ entry ∷ left = sym (ap (map (named_look stack dir)) none) ∙ this.shown in
            absurd (omega (arith, ap length bad, length-append this.told (entry ∷ left)))
      ]

      deeper : whole - length dir ≡ suc (whole - length child)
      deeper = omega (arith, inner, length-append dir (entry.0 ∷ []))

      here : IsOpen (dir, left)
      here = record {
        told = this.told ++ entry ∷ [];
        shown = this.shown ∙ sym (append_assoc this.told (entry ∷ []) left);
        short = this.short;
      }

      each_kept : Every IsOpen (opens ++ (dir, left) ∷ [])
      each_kept = every-push IsOpen opens (dir, left) (every-front IsOpen opens (dir, entry ∷ left) h.each_open) here

      -- the paths that are still to be listed, from this entry on
      paths_from_here : paths_left (dir, entry ∷ left) ≡ child ∷ (below stack (whole - length child) child ++ paths_left (dir, left))
      paths_from_here = ap (λ n. paths_from stack n child ++ paths_left (dir, left)) deeper

      abbrev before : List PathNames
      before = stacked paths_left opens

      all_paths_from_here : told ++ (child ∷ (below stack (whole - length child) child ++ paths_left (dir, left)) ++ before) ≡ all_paths
      all_paths_from_here =
          ap (λ l. told ++ (l ++ before)) (sym paths_from_here)
          ∙ (ap (λ l. told ++ l) (sym (stacked-push paths_left opens (dir, entry ∷ left))) ∙ h.paths)

      told-next : is_shown_directory entry.1 ≡ false → IsTold (opens ++ (dir, left) ∷ []) (told ++ child ∷ []) rest
      told-next other = record {
        paths =
            let none : kids_along stack child ≡ [] = none_elsewhere stack each child (ap is_shown_directory (sym entry_is) ∙ other) in
            let nothing : below stack (whole - length child) child ≡ [] = ap (λ names. flat_map (λ name. paths_from stack (whole - length child) (child_path child name)) names) none in
            append_assoc told (child ∷ []) (stacked paths_left (opens ++ (dir, left) ∷ []))
            ∙ (ap (λ l. told ++ child ∷ l) (stacked-push paths_left opens (dir, left))
            ∙ (ap (λ l. told ++ child ∷ ((l ++ paths_left (dir, left)) ++ before)) (sym nothing) ∙ all_paths_from_here));
        each_open = each_kept;
        parcels =
            let same : pieces_left (dir, entry ∷ left) ≡ pieces_left (dir, left) = ap (λ b. flat_map (λ p. preorder (show_kids stack) (whole - length dir - 1) p) (map (λ e. piece_in (at dir) e.0) (cond b (entry ∷ filter (λ e. is_shown_directory e.1) left) (filter (λ e. is_shown_directory e.1) left)))) other in
            h.parcels ∙ ap (map (own stack)) (stacked-push pieces_left opens (dir, entry ∷ left) ∙ (ap (λ l. l ++ stacked pieces_left opens) same ∙ sym (stacked-push pieces_left opens (dir, left))));
      }

      -- the parcels that are left, where the entry is a directory, and once its own parcel is taken
      abbrev others : List (ParcelView (List NamedLook))
      others = map (own stack) (pieces_left (child, looks_in stack child) ++ stacked pieces_left (opens ++ (dir, left) ∷ []))

      next-pieces : is_shown_directory entry.1 ≡ true → stacked pieces_left (opens ++ (dir, entry ∷ left) ∷ []) ≡ at child ∷ (pieces_left (child, looks_in stack child) ++ stacked pieces_left (opens ++ (dir, left) ∷ []))
      next-pieces is =
          let depth : whole - length dir - 1 ≡ whole - length child = omega (arith, deeper) in
          let first : pieces_left (dir, entry ∷ left) ≡ at child ∷ (pieces_left (child, looks_in stack child) ++ pieces_left (dir, left)) =
          ap (λ b. flat_map (λ p. preorder (show_kids stack) (whole - length dir - 1) p) (map (λ e. piece_in (at dir) e.0) (cond b (entry ∷ filter (λ e. is_shown_directory e.1) left) (filter (λ e. is_shown_directory e.1) left)))) is
          ∙ ap (λ l. l ++ pieces_left (dir, left)) (ap (λ n. preorder (show_kids stack) n (at child)) depth ∙ opening child (omega (arith, deeper, inner, length-append dir (entry.0 ∷ [])))) in
          stacked-push pieces_left opens (dir, entry ∷ left)
          ∙ (ap (λ l. l ++ stacked pieces_left opens) first
          ∙ ap (λ l. at child ∷ l) (append_assoc (pieces_left (child, looks_in stack child)) (pieces_left (dir, left)) (stacked pieces_left opens)
          ∙ ap (λ l. pieces_left (child, looks_in stack child) ++ l) (sym (stacked-push pieces_left opens (dir, left)))))

      next-parcel : is_shown_directory entry.1 ≡ true → rest ≡ own stack (at child) ∷ others
      next-parcel is = h.parcels ∙ ap (map (own stack)) (next-pieces is)

      entered-next : IsTold ((opens ++ (dir, left) ∷ []) ++ (child, looks_in stack child) ∷ []) (told ++ child ∷ []) others
      entered-next = record {
        paths =
            append_assoc told (child ∷ []) (stacked paths_left ((opens ++ (dir, left) ∷ []) ++ (child, looks_in stack child) ∷ []))
            ∙ (ap (λ l. told ++ child ∷ l)
            (stacked-push paths_left (opens ++ (dir, left) ∷ []) (child, looks_in stack child)
            ∙ (ap (λ l. paths_left (child, looks_in stack child) ++ l) (stacked-push paths_left opens (dir, left))
            ∙ (ap (λ l. l ++ (paths_left (dir, left) ++ before)) (all_below child)
            ∙ sym (append_assoc (below stack (whole - length child) child) (paths_left (dir, left)) before))))
            ∙ all_paths_from_here);
        each_open = every-push IsOpen (opens ++ (dir, left) ∷ []) (child, looks_in stack child) each_kept
            (record { told = []; shown = refl; short = omega (arith, deeper, inner, length-append dir (entry.0 ∷ [])) });
        parcels = sym (ap (map (own stack)) (stacked-push pieces_left (opens ++ (dir, left) ∷ []) (child, looks_in stack child)));
      }

    -- ---- the beginning and the end

    abbrev top : OpenView
    top = ([], looks_in stack [])

    first-parcel : 0 < length stack.layers → (views : List (ParcelView (List NamedLook))) → IsShowWalk stack views → views ≡ own stack (at []) ∷ map (own stack) (pieces_left top)
    first-parcel some views plain =
        let all : whole ≡ whole - 0 = omega arith in
        views_are stack each some views plain ∙ ap (map (own stack)) (ap (λ n. preorder (show_kids stack) n show_root) all ∙ opening [] (omega arith))

    told-first : IsTold (top ∷ []) ([] ∷ []) (map (own stack) (pieces_left top))
    told-first =
        let all : whole - 0 ≡ whole = omega arith in
        record {
          paths = ap (λ l. [] ∷ l) (all_below [] ∙ ap (λ n. below stack n []) all);
          each_open = every-push IsOpen [] top (λ o none. absurd none) (record { told = []; shown = refl; short = omega arith });
          parcels = refl;
        }

    pub told-last : 0 < length stack.layers → (told : List PathNames) (rest : List (ParcelView (List NamedLook))) → IsTold [] told rest → IsMerged stack (map (with_look stack) told)
    told-last some told rest h =
        let whole_told : told ≡ all_paths = sym (append-nil told) ∙ h.paths in
        subst (IsMerged stack) (tree_paths stack each some ∙ ap (map (with_look stack)) (sym whole_told)) (tree_merged stack each some)

-- ---- the same of parcels, and of anything that is seen as an open directory

abbrev view_of : ShowParcel → ParcelView (List NamedLook)
view_of parcel = parcel_view (λ looks. looks.items) parcel

abbrev pub views_of : List ShowParcel → List (ParcelView (List NamedLook))
views_of parcels = parcel_views (λ looks. looks.items) parcels

-- the directory that a parcel is of, before an entry of it is listed
abbrev pub opened_by : ShowParcel → OpenView
opened_by parcel = (parcel.piece.dir, parcel.out.items)

-- a first parcel, and those after it
abbrev pub HasFirst : List ShowParcel → Type 0
HasFirst parcels = (parcel : ShowParcel) × ((others : List ShowParcel) × (parcels ≡ parcel ∷ others))

cons-view : (parcels : List ShowParcel) (v : ParcelView (List NamedLook)) (vs : List (ParcelView (List NamedLook))) → views_of parcels ≡ v ∷ vs → HasFirst parcels
cons-view [] v vs e = let bad : [] ≡ v ∷ vs = e in cc
cons-view (parcel ∷ parcels) v vs e = (parcel, (parcels, refl))

module _ (stack : StackView) (each : All IsLayer stack.layers) where
  module _ {X : Type 0} (view : X → OpenView) (opens : List X) (o : X) where
    pub left-exhausted : (told : List PathNames) (rest : List (ParcelView (List NamedLook))) → IsTold stack (map view (opens ++ o ∷ [])) told rest → (view o).1 ≡ [] → IsTold stack (map view opens) told rest
    left-exhausted told rest h none =
        exhausted stack (map view opens) (view o).0 told rest (subst (λ l. IsTold stack l told rest) (map-append view opens (o ∷ []) ∙ ap (λ l. map view opens ++ ((view o).0, l) ∷ []) none) h)

    module _ (entry : NamedLook) (left : List NamedLook) (told : List PathNames) (rest : List ShowParcel) (h : IsTold stack (map view (opens ++ o ∷ [])) told (views_of rest)) (some : (view o).1 ≡ entry ∷ left) where
      abbrev path : PathNames
      path = child_path (view o).0 entry.0

      abbrev kept : List OpenView
      kept = map view opens

      standing : IsTold stack (kept ++ ((view o).0, entry ∷ left) ∷ []) told (views_of rest)
      standing = subst (λ l. IsTold stack l told (views_of rest)) (map-append view opens (o ∷ []) ∙ ap (λ l. kept ++ ((view o).0, l) ∷ []) some) h

      pub left-look : entry.1 ≡ look stack path
      left-look = entry_is stack each kept (view o).0 entry left told (views_of rest) standing

      abbrev views_left : List (ParcelView (List NamedLook))
      views_left = others stack each kept (view o).0 entry left told (views_of rest) standing

      next-views : is_shown_directory entry.1 ≡ true → views_of rest ≡ own stack (at path) ∷ views_left
      next-views is = next-parcel stack each kept (view o).0 entry left told (views_of rest) standing is

      pub has-next : is_shown_directory entry.1 ≡ true → HasFirst rest
      has-next is = cons-view rest (own stack (at path)) views_left (next-views is)

      module _ (o' : X) (same : view o' ≡ ((view o).0, left)) where
        views-kept : kept ++ ((view o).0, left) ∷ [] ≡ map view (opens ++ o' ∷ [])
        views-kept = ap (λ l. kept ++ l ∷ []) (sym same) ∙ sym (map-append view opens (o' ∷ []))

        pub left-told : is_shown_directory entry.1 ≡ false → IsTold stack (map view (opens ++ o' ∷ [])) (told ++ path ∷ []) (views_of rest)
        left-told other = subst (λ l. IsTold stack l (told ++ path ∷ []) (views_of rest)) views-kept (told-next stack each kept (view o).0 entry left told (views_of rest) standing other)

        module _ (is : is_shown_directory entry.1 ≡ true) (parcel : ShowParcel) (parcels : List ShowParcel) (e : rest ≡ parcel ∷ parcels) where
          both : view_of parcel ∷ views_of parcels ≡ own stack (at path) ∷ views_left
          both = sym (ap views_of e) ∙ next-views is

          first : view_of parcel ≡ own stack (at path)
          first = let h : view_of parcel ∷ views_of parcels ≡ own stack (at path) ∷ views_left = both in cc

          later : views_of parcels ≡ views_left
          later = let h : view_of parcel ∷ views_of parcels ≡ own stack (at path) ∷ views_left = both in cc

          pub next-path : parcel.piece.dir ≡ path
          next-path = ap (λ (v : ParcelView (List NamedLook)). v.piece.dir) first

          pub left-entered : (o'' : X) → view o'' ≡ opened_by parcel → IsTold stack (map view ((opens ++ o' ∷ []) ++ o'' ∷ [])) (told ++ path ∷ []) (views_of parcels)
          left-entered o'' fresh =
              let last : (path, looks_in stack path) ≡ view o'' = (λ j. (sym next-path j, sym (ap (λ (v : ParcelView (List NamedLook)). v.seen) first) j)) ∙ sym fresh in
              let all : (kept ++ ((view o).0, left) ∷ []) ++ (path, looks_in stack path) ∷ [] ≡ map view ((opens ++ o' ∷ []) ++ o'' ∷ []) =
              (λ j. views-kept j ++ last j ∷ []) ∙ sym (map-append view (opens ++ o' ∷ []) (o'' ∷ [])) in
              subst (λ l. IsTold stack l (told ++ path ∷ []) (views_of parcels)) all
              (subst (IsTold stack ((kept ++ ((view o).0, left) ∷ []) ++ (path, looks_in stack path) ∷ []) (told ++ path ∷ [])) (sym later)
              (entered-next stack each kept (view o).0 entry left told (views_of rest) standing))

  -- at first the root is listed, and its directory is open
  module _ (some : 0 < length stack.layers) where
    abbrev views_below : List (ParcelView (List NamedLook))
    views_below = map (own stack) (pieces_left stack ([], looks_in stack []))

    pub has-first : (parcels : List ShowParcel) → IsShowWalk stack (views_of parcels) → HasFirst parcels
    has-first parcels plain = cons-view parcels (own stack (at [])) views_below (first-parcel stack each some (views_of parcels) plain)

    module _ (parcel : ShowParcel) (parcels : List ShowParcel) (plain : IsShowWalk stack (views_of (parcel ∷ parcels))) where
      root : view_of parcel ≡ own stack (at [])
      root = let h : view_of parcel ∷ views_of parcels ≡ own stack (at []) ∷ views_below = first-parcel stack each some (views_of (parcel ∷ parcels)) plain in cc

      below_root : views_of parcels ≡ views_below
      below_root = let h : view_of parcel ∷ views_of parcels ≡ own stack (at []) ∷ views_below = first-parcel stack each some (views_of (parcel ∷ parcels)) plain in cc

      pub first-path : parcel.piece.dir ≡ []
      first-path = ap (λ (v : ParcelView (List NamedLook)). v.piece.dir) root

      pub left-first : {X : Type 0} (view : X → OpenView) (o : X) → view o ≡ opened_by parcel → IsTold stack (map view (o ∷ [])) ([] ∷ []) (views_of parcels)
      left-first view o fresh =
          let last : ([], looks_in stack []) ≡ view o = (λ j. (sym first-path j, sym (ap (λ (v : ParcelView (List NamedLook)). v.seen) root) j)) ∙ sym fresh in
          subst (λ l. IsTold stack (l ∷ []) ([] ∷ []) (views_of parcels)) last (subst (IsTold stack (([], looks_in stack []) ∷ []) ([] ∷ [])) (sym below_root) (told-first stack each))
