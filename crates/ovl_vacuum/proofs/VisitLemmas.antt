-- What a visit finds in its directory, and whether an entry is idle, by the walk of its directory.
use Rattle.std.proofs.Common.{◌≡◌, ℕ, ◌<◌, inl, inr, Bool, true, false, cond, Option, Some, None, List, [], ◌∷◌, ◌++◌, length, map, refl, sym, ap, subst, ◌∙◌, arith}
use Rattle.std.specs.Prelude.{◌&&◌, ◌||◌, not, filter, All, MatchOption, slice_get, unwrap_or}
use Rattle.std.specs.Option.{option_map}
use Rattle.std.specs.List.{AllByRecursion, list_any, cons_option}
use Rattle.std.specs.Map.{lookup}
use Rattle.std.specs.Cmp.Lexicographic.{bytes_decides}
use Rattle.ovl_names.specs.Names.{PathName, name_eq, name_cmp}
use Rattle.ovl_names.specs.Order.{ascends}
use Rattle.ovl_names.specs.Paths.{PathNames, child_path}
use Rattle.ovl_names.proofs.Ascending.{not_true}
use Rattle.ovl_inode.specs.declared.inodes.Inode.{Inode}
use Rattle.ovl_inode.specs.declared.marks.Mark.{Mark}
use Rattle.ovl_inode.specs.declared.marks.Mark.TheVariants.{Whiteout, DirOpaque, DirMoved, DirBad, DirPlain, Meta, MetaBad, Leaf}
use Rattle.ovl_inode.specs.Inodes.{visible}
use Rattle.ovl_inode.specs.Marks.{mark_of, is_directory, is_regular, is_whiteout, has_opaque, has_metacopy, redirect_reading, directory_mark, metacopy_mark}
use Rattle.ovl_layer.specs.Layers.{Entries, entry_at, is_directory_at, names_below, IsLayer}
use Rattle.ovl_layer.specs.Sheets.{path_at}
use Rattle.ovl_layer.specs.RowsBelow.{NamedRow, LiesBelow}
use Rattle.ovl_lookup.specs.declared.looks.Look.{Look}
use Rattle.ovl_lookup.specs.declared.looks.Look.TheVariants.{Nothing, Shown, Broken}
use Rattle.ovl_lookup.specs.declared.steps.Step.{Step}
use Rattle.ovl_lookup.specs.declared.steps.OwnDirectory.{OwnDirectory}
use Rattle.ovl_lookup.specs.Passes.{IsOwnDirectory}
use Rattle.ovl_lookup.specs.Walk.{walk}
use Rattle.ovl_lookup.specs.Stacks.{StackView}
use Rattle.ovl_lookup.specs.Trace.{things_found}
use Rattle.ovl_lookup.specs.Merged.{look, is_nothing, shown_of, shows_directory}
use Rattle.ovl_lookup.specs.Words.{top_layer, lower_layers}
use Rattle.ovl_lookup.specs.Equal.{look_eq}
use Rattle.ovl_lookup.specs.Sound.{is_meta, is_malformed}
use Rattle.ovl_lookup.proofs.LawsOfInodes.{bare-mark}
use Rattle.ovl_lookup.proofs.LawsOfFound.{things_found-step, shown_of-full, shown-any}
use Rattle.ovl_lookup.proofs.LawsOfLooks.{nothing-under, top-over, top-layer, lower-layers}
use Rattle.ovl_lookup.proofs.LawsOfPaths.{length-child, parent_path-child}
use Rattle.ovl_lookup.proofs.LawsOfWalks.{natural_path-child, names_below-has, entry-parent, walk-child_directory, walk-child_end, file-is_found, entry-of_row, own-mark, directory_found}
use Rattle.ovl_lookup.proofs.LawsOfKids.{kid-names-ascend}
use Rattle.ovl_board.specs.declared.pieces.Piece.{Piece}
use Rattle.ovl_board.specs.Pieces.{piece_in}
use Rattle.ovl_board.proofs.LawsOfMembers.{In}
use Rattle.ovl_vacuum.specs.Vacuum.{may_be_idle, is_idle}
use Rattle.ovl_vacuum.specs.Directories.{is_idle_at, IdleName, idle_name, TellsIdle}
use Rattle.ovl_vacuum.specs.declared.directories.TopDirectory.{TopDirectory}
use Rattle.ovl_vacuum.specs.Visits.{IsTopDirectory, is_metacopy}
use Rattle.ovl_vacuum.proofs.DirectoryLemmas.{name-In, path-entry}

-- ---- the topmost layer, and what lies below it at a path

pub top-first : (layers data_only : List Entries) → 0 < length layers → slice_get (layers ++ data_only) 0 ≡ Some (unwrap_or (slice_get layers 0) [])
top-first [] data_only some = absurd (omega arith)
top-first (layer ∷ layers) data_only some = refl

-- ---- what is no directory has nothing in it

no_names : (layer : Entries) → IsLayer layer → (directory : PathNames) → is_directory_at layer directory ≡ false → (names : List PathName) → names_below layer directory ≡ names → names ≡ []
no_names layer is directory file [] e = refl
no_names layer is directory file (name ∷ names) e =
    let entry = path-entry layer (child_path directory name) (name-In layer directory name (subst (In name) (sym e) (inl refl))) in
    let bad : true ≡ false = sym (entry-parent layer directory name entry.0 is entry.1) ∙ file in cc

pub file-names : (layer : Entries) → IsLayer layer → (directory : PathNames) → is_directory_at layer directory ≡ false → names_below layer directory ≡ []
file-names layer is directory file = no_names layer is directory file (names_below layer directory) refl

pub own-found : (layer : Entries) → IsLayer layer → (path : PathNames) (found : Option OwnDirectory) → MatchOption found (is_directory_at layer path ≡ false) (IsOwnDirectory layer path)
    → MatchOption found (names_below layer path ≡ []) (IsOwnDirectory layer path)
own-found layer is path None file = file-names layer is path file
own-found layer is path (Some own) stands = stands

-- a directory is visited as what it is
pub visited-own : (stack : StackView) (piece : Piece) (directory : TopDirectory) → IsTopDirectory stack piece directory → IsTopDirectory directory.stack.now directory.piece.now directory
visited-own stack piece directory is =
    subst (λ (p : Piece). IsTopDirectory directory.stack.now p directory) (sym is.stands) (subst (λ (s : StackView). IsTopDirectory s piece directory) (sym is.over) is)

-- ---- the rows in a directory

-- what is in a row
module _ (layer : Entries) (is : IsLayer layer) (row : ℕ) (inside : row < length layer) (path : PathNames) (stands : path_at layer row ≡ path) (sheet : Entries) (same : sheet ≡ layer) where
  pub row-inode : (inode : Inode) → entry_at sheet (path_at sheet row) ≡ Some inode → entry_at layer path ≡ Some inode
  row-inode inode at = ap (entry_at layer) (sym stands) ∙ subst (λ (l : Entries). entry_at l (path_at l row) ≡ Some inode) same at

  pub row-directory : (inode : Inode) → entry_at sheet (path_at sheet row) ≡ Some inode → is_directory_at layer path ≡ is_directory inode
  row-directory inode at = ap directory_found (row-inode inode at)

  pub row-mark : (mark : Mark) → option_map mark_of (entry_at sheet (path_at sheet row)) ≡ Some mark → (inode : Inode) × (entry_at layer path ≡ Some inode) × (mark ≡ mark_of inode)
  row-mark mark at =
      let found = entry-of_row layer row is inside in
      let told : option_map mark_of (entry_at layer (path_at layer row)) ≡ Some mark = subst (λ (l : Entries). option_map mark_of (entry_at l (path_at l row)) ≡ Some mark) same at in
      (found.0, ap (entry_at layer) (sym stands) ∙ found.1, own-mark found.0 mark (sym (ap (option_map mark_of) found.1) ∙ told))

-- the names of the rows that are directories
pub directories-below : (layer : Entries) (directory : PathNames) (rows : List NamedRow) → AllByRecursion (LiesBelow layer directory) rows
    → map (λ row. row.1) (filter (λ row. is_directory_at layer (path_at layer row.0)) rows) ≡ filter (λ name. is_directory_at layer (child_path directory name)) (map (λ row. row.1) rows)
directories-below layer directory [] all = refl
directories-below layer directory (row ∷ rows) all =
    ap (λ b. map (λ (own : NamedRow). own.1) (cond b (row ∷ there) there)) (ap (is_directory_at layer) all.0.1)
    ∙ by (is_directory_at layer (child_path directory row.1)) (directories-below layer directory rows all.1)
  where
    there : List NamedRow
    there = filter (λ own. is_directory_at layer (path_at layer own.0)) rows

    named : List PathName
    named = filter (λ name. is_directory_at layer (child_path directory name)) (map (λ own. own.1) rows)

    by : (b : Bool) → map (λ own. own.1) there ≡ named → map (λ own. own.1) (cond b (row ∷ there) there) ≡ cond b (row.1 ∷ named) named
    by true later = ap (λ (names : List PathName). row.1 ∷ names) later
    by false later = later

-- ---- whether an entry is idle

-- what may be idle is no whiteout
not-whiteout : (inode : Inode) → may_be_idle (mark_of inode) ≡ true → is_whiteout inode ≡ false
not-whiteout inode plain = by (is_whiteout inode) refl
  where
    by : (b : Bool) → is_whiteout inode ≡ b → b ≡ false
    by false e = refl
    by true e =
        let marked : mark_of inode ≡ Whiteout =
        ap (λ b. cond b Whiteout (cond (is_directory inode && has_opaque inode) DirOpaque (cond (is_directory inode) (directory_mark (redirect_reading inode)) (cond (is_regular inode && has_metacopy inode) (metacopy_mark (redirect_reading inode)) Leaf)))) e in
        let bad : false ≡ true = sym (ap may_be_idle marked) ∙ plain in cc

full-mark : (mark : Mark) → may_be_idle mark ≡ true → is_metacopy mark ≡ false → (is_meta (Some mark) || is_malformed (Some mark)) ≡ false
full-mark Whiteout plain full = let bad : false ≡ true = plain in cc
full-mark DirOpaque plain full = let bad : false ≡ true = plain in cc
full-mark (DirMoved redirect) plain full = let bad : false ≡ true = plain in cc
full-mark DirBad plain full = let bad : false ≡ true = plain in cc
full-mark DirPlain plain full = refl
full-mark (Meta redirect) plain full = let bad : true ≡ false = full in cc
full-mark MetaBad plain full = let bad : true ≡ false = full in cc
full-mark Leaf plain full = refl

-- what may be idle and is no metacopy file has its contents itself
own-contents : (inode : Inode) → may_be_idle (mark_of inode) ≡ true → is_metacopy (mark_of inode) ≡ false → (is_regular inode && has_metacopy inode) ≡ false
own-contents inode plain full = by (is_regular inode && has_metacopy inode) refl
  where
    by : (b : Bool) → (is_regular inode && has_metacopy inode) ≡ b → b ≡ false
    by false e = refl
    by true e = let bad : false ≡ true = sym (full-mark (mark_of inode) plain full) ∙ bare-mark inode (not-whiteout inode plain) e in cc

module _ (stack : StackView) (each : All IsLayer stack.layers) (some : 0 < length stack.layers)
    (directory : PathNames) (name : PathName) (inode : Inode) (here : entry_at (top_layer stack) (child_path directory name) ≡ Some inode) where
  abbrev step : Step
  step = walk (top_layer stack) directory

  is_layer : IsLayer (top_layer stack)
  is_layer = top-layer stack some each

  tests : is_idle_at stack (child_path directory name)
      ≡ (may_be_idle (mark_of inode) && not (walk (top_layer stack) directory).closed && look_eq (look (lower_layers stack) (child_path (walk (top_layer stack) directory).next name)) (look stack (child_path directory name)))
  tests =
      ap (λ (found : Option Inode). elim found as (λ _. Bool) [ Some i ↦ is_idle (top_layer stack) (lower_layers stack) (child_path directory name, i) | None ↦ false ]) here
      ∙ (λ j. not (length-child directory name j) && may_be_idle (mark_of inode) && not (walk (top_layer stack) (parent_path-child directory name j)).closed
      && look_eq (look (lower_layers stack) (natural_path-child (top_layer stack) directory name j)) (look (top-over stack some j) (child_path directory name)))

  pub marked-busy : may_be_idle (mark_of inode) ≡ false → is_idle_at stack (child_path directory name) ≡ false
  marked-busy marked = tests ∙ ap (λ b. b && not step.closed && look_eq (look (lower_layers stack) (child_path step.next name)) (look stack (child_path directory name))) marked

  -- where its directory is open, it is idle where the looks are the same
  pub compared : (below shown : Look) → below ≡ look (lower_layers stack) (child_path (walk (top_layer stack) directory).next name) → shown ≡ look stack (child_path directory name)
      → (walk (top_layer stack) directory).closed ≡ false → may_be_idle (mark_of inode) ≡ true → look_eq below shown ≡ is_idle_at stack (child_path directory name)
  compared below shown is_below is_shown opened plain =
      (λ j. look_eq (is_below j) (is_shown j))
      ∙ sym (tests ∙ (λ j. plain j && not (opened j) && look_eq (look (lower_layers stack) (child_path step.next name)) (look stack (child_path directory name))))

  -- ---- what is shown at it, where it is no whiteout

  found-first : is_whiteout inode ≡ false → (walk (top_layer stack) (child_path directory name)).found ≡ Some inode
  found-first thing = by (is_directory inode) refl
    where
      by : (b : Bool) → is_directory inode ≡ b → (walk (top_layer stack) (child_path directory name)).found ≡ Some inode
      by true e = ap (λ (s : Step). s.found) (walk-child_directory (top_layer stack) directory name is_layer inode here e)
      by false e =
          ap (λ (s : Step). s.found) (walk-child_end (top_layer stack) directory name is_layer (Some inode) (entry-parent (top_layer stack) directory name inode is_layer here) here e [])
          ∙ file-is_found inode step.next step.closed name thing

  -- what is found below it
  abbrev rest : List Inode
  rest = cond (walk (top_layer stack) (child_path directory name)).closed [] (things_found (lower_layers stack).layers (walk (top_layer stack) (child_path directory name)).next)

  shown-first : is_whiteout inode ≡ false → look stack (child_path directory name) ≡ shown_of stack.data_only (inode ∷ rest)
  shown-first thing =
      ap (λ (s : StackView). look s (child_path directory name)) (sym (top-over stack some))
      ∙ (ap (shown_of stack.data_only) (things_found-step (top_layer stack) (lower_layers stack).layers (child_path directory name))
      ∙ ap (λ (found : Option Inode). shown_of stack.data_only (cons_option found rest)) (found-first thing))

  pub shown-plain : may_be_idle (mark_of inode) ≡ true → is_metacopy (mark_of inode) ≡ false → look stack (child_path directory name) ≡ Shown (visible inode)
  shown-plain plain full = shown-first (not-whiteout inode plain) ∙ shown_of-full stack.data_only inode rest (own-contents inode plain full)

  -- where nothing is shown below its directory, it shows something itself
  pub hidden-busy : ((walk (top_layer stack) directory).closed || not (shows_directory (lower_layers stack) (walk (top_layer stack) directory).next)) ≡ true → is_idle_at stack (child_path directory name) ≡ false
  hidden-busy hidden = by (may_be_idle (mark_of inode)) refl (walk (top_layer stack) directory).closed refl
    where
      differ : (shown : Look) → is_nothing shown ≡ false → look_eq Nothing shown ≡ false
      differ Nothing e = let bad : true ≡ false = e in cc
      differ (Shown other) e = refl
      differ (Broken other) e = refl

      something : is_whiteout inode ≡ false → is_nothing (look stack (child_path directory name)) ≡ false
      something thing =
          ap is_nothing (shown-first thing)
          ∙ not_true (is_nothing (shown_of stack.data_only (inode ∷ rest))) (shown-any stack.data_only (inode ∷ rest))

      by : (plain : Bool) → may_be_idle (mark_of inode) ≡ plain → (closed : Bool) → (walk (top_layer stack) directory).closed ≡ closed → is_idle_at stack (child_path directory name) ≡ false
      by false marked closed e = marked-busy marked
      by true plain true e = tests ∙ (λ j. plain j && not (e j) && look_eq (look (lower_layers stack) (child_path step.next name)) (look stack (child_path directory name)))
      by true plain false e =
          let none : shows_directory (lower_layers stack) step.next ≡ false =
          not_true (shows_directory (lower_layers stack) step.next) (ap (λ b. b || not (shows_directory (lower_layers stack) step.next)) (sym e) ∙ hidden) in
          let nothing : look (lower_layers stack) (child_path step.next name) ≡ Nothing = nothing-under (lower_layers stack) (lower-layers stack some each) step.next name [] none in
          sym (compared Nothing (look stack (child_path directory name)) (sym nothing) refl e plain)
          ∙ differ (look stack (child_path directory name)) (something (not-whiteout inode plain))

-- ---- what visits give

any-In : (name : PathName) (names : List PathName) → list_any (name_eq name) names ≡ true → In name names
any-In name [] any = let bad : false ≡ true = any in cc
any-In name (other ∷ names) any = by (any-In name names) (name_eq name other) refl any
  where
    by : (list_any (name_eq name) names ≡ true → In name names) → (b : Bool) → name_eq name other ≡ b → (b || list_any (name_eq name) names) ≡ true → In name (other ∷ names)
    by later true e any = inl ((bytes_decides name other).0 e)
    by later false e any = inr (later any)

module _ (stack : StackView) (each : All IsLayer stack.layers) (some : 0 < length stack.layers) where
  abbrev layer : Entries
  layer = top_layer stack

  -- only the names
  names-told : (directory : PathNames) (names : List PathName) → map (λ (entry : IdleName). entry.0) (map (idle_name stack directory) names) ≡ names
  names-told directory [] = refl
  names-told directory (name ∷ names) = ap (λ (rest : List PathName). name ∷ rest) (names-told directory names)

  told-of : (directory : PathNames) (name : PathName) (names : List PathName)
      → lookup (name_eq name) (map (idle_name stack directory) names) ≡ cond (list_any (name_eq name) names) (Some (is_idle_at stack (child_path directory name))) None
  told-of directory name [] = refl
  told-of directory name (own ∷ names) = by (told-of directory name names) (name_eq name own) refl
    where
      told : PathName → Option Bool
      told n = Some (is_idle_at stack (child_path directory n))

      found : Option Bool
      found = lookup (name_eq name) (map (idle_name stack directory) names)

      by : found ≡ cond (list_any (name_eq name) names) (told name) None → (b : Bool) → name_eq name own ≡ b → cond (name_eq name own) (told own) found ≡ cond (name_eq name own || list_any (name_eq name) names) (told name) None
      by later true e =
          ap (λ (b : Bool). cond b (told own) found) e
          ∙ (ap told (sym ((bytes_decides name own).0 e)) ∙ sym (ap (λ (b : Bool). cond (b || list_any (name_eq name) names) (told name) None) e))
      by later false e =
          ap (λ (b : Bool). cond b (told own) found) e
          ∙ (later ∙ sym (ap (λ (b : Bool). cond (b || list_any (name_eq name) names) (told name) None) e))

  idle-told : (directory : PathNames) (name : PathName) → lookup (name_eq name) (map (idle_name stack directory) (names_below layer directory))
      ≡ option_map (λ inode. is_idle layer (lower_layers stack) (child_path directory name, inode)) (entry_at layer (child_path directory name))
  idle-told directory name = told-of directory name (names_below layer directory) ∙ by (entry_at layer (child_path directory name)) refl
    where
      told : Option Inode → Option Bool
      told found = option_map (λ inode. is_idle layer (lower_layers stack) (child_path directory name, inode)) found

      flagged : Bool → Option Bool
      flagged b = cond b (Some (is_idle_at stack (child_path directory name))) None

      none : (b : Bool) → list_any (name_eq name) (names_below layer directory) ≡ b → entry_at layer (child_path directory name) ≡ None → b ≡ false
      none false any e = refl
      none true any e =
          let there = path-entry layer (child_path directory name) (name-In layer directory name (any-In name (names_below layer directory) any)) in
          let bad : None ≡ Some there.0 = sym e ∙ there.1 in cc

      by : (found : Option Inode) → entry_at layer (child_path directory name) ≡ found → flagged (list_any (name_eq name) (names_below layer directory)) ≡ told (entry_at layer (child_path directory name))
      by None e = ap flagged (none (list_any (name_eq name) (names_below layer directory)) refl e) ∙ sym (ap told e)
      by (Some inode) e =
          ap flagged (names_below-has layer directory name inode e)
          ∙ (ap (λ (found : Option Inode). Some (elim found as (λ _. Bool) [ Some i ↦ is_idle layer (lower_layers stack) (child_path directory name, i) | None ↦ false ])) e ∙ sym (ap told e))

  kids-told : (piece : Piece) (names : List PathName) → map (piece_in piece) (filter (λ name. is_directory_at layer (child_path piece.dir name)) names)
      ≡ map (λ entry. piece_in piece entry.0) (filter (λ entry. is_directory_at layer (child_path piece.dir entry.0)) (map (idle_name stack piece.dir) names))
  kids-told piece [] = refl
  kids-told piece (name ∷ names) = by (is_directory_at layer (child_path piece.dir name)) (kids-told piece names)
    where
      named : List PathName
      named = filter (λ n. is_directory_at layer (child_path piece.dir n)) names

      flagged : List IdleName
      flagged = filter (λ entry. is_directory_at layer (child_path piece.dir entry.0)) (map (idle_name stack piece.dir) names)

      by : (b : Bool) → map (piece_in piece) named ≡ map (λ (entry : IdleName). piece_in piece entry.0) flagged
          → map (piece_in piece) (cond b (name ∷ named) named) ≡ map (λ (entry : IdleName). piece_in piece entry.0) (cond b (idle_name stack piece.dir name ∷ flagged) flagged)
      by true later = ap (λ (kids : List Piece). piece_in piece name ∷ kids) later
      by false later = later

  pub tells : TellsIdle stack
  tells = record {
    output = λ piece. record {
      in_order = ap (ascends name_cmp) (names-told piece.dir (names_below layer piece.dir)) ∙ kid-names-ascend layer piece.dir (top-layer stack some each).in_order;
      same = λ name. idle-told piece.dir name;
    };
    directories = λ piece. kids-told piece (names_below layer piece.dir);
  }
