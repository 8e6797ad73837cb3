-- The directories of the merged tree: their names are the only ones, and their kids are lawful.
use Rattle.std.proofs.Common.{◌≡◌, ◌*◌, ◌≤◌, inl, inr, Bool, true, false, cond, List, [], ◌∷◌, length, map, refl, sym, ap, ◌∙◌, subst, arith, length-append}
use Rattle.std.specs.Prelude.{filter}
use Rattle.std.specs.List.{list_all, All}
use Rattle.std.specs.Ordering.{is_lt}
use Rattle.std.proofs.lemmas.List.Elements.{All-head, All-tail}
use Rattle.ovl_names.specs.Names.{PathName, name_cmp}
use Rattle.ovl_names.specs.Paths.{PathNames, child_path, depth_limit}
use Rattle.ovl_names.specs.Order.{ascends}
use Rattle.ovl_names.proofs.Ascending.{both, is_lt-Less}
use Rattle.ovl_layer.specs.Layers.{IsLayer}
use Rattle.ovl_lookup.specs.Stacks.{StackView}
use Rattle.ovl_lookup.specs.Merged.{look, shows, shows_directory, is_shown_directory}
use Rattle.ovl_lookup.specs.Passes.{kids_along}
use Rattle.ovl_lookup.specs.ViewPasses.{AreLooks}
use Rattle.ovl_lookup.proofs.LawsOfKids.{kids-ascend, kids-same, are-kids, kids-unique, no-name, none-along}
use Rattle.ovl_lookup.proofs.LawsOfLooks.{directory-shows, shows-limited}
use Rattle.ovl_board.specs.declared.pieces.Piece.{Piece}
use Rattle.ovl_board.specs.Pieces.{piece_in, IsBefore, IsOneBelow, HasLawfulKids}
use Rattle.ovl_board.proofs.LawsOfMembers.{In, Rises, All-Every, AllPairs-Rises}
use Rattle.ovl_board.proofs.LawsOfPieces.{entry-before}
use Rattle.ovl_reports.specs.Directories.{HasAllNames, NamedLook, named_look, looks_in, show_kids, show_depth}

-- ---- directories without names

no_kids : (stack : StackView) → All IsLayer stack.layers → (path : PathNames) → ((name : PathName) → shows stack (child_path path name) ≡ true → ⊥) → kids_along stack path ≡ []
no_kids stack each path none = no-name (kids_along stack path) (λ name has. none name (sym (kids-same stack each path name) ∙ has))

-- the deepest paths have none, and what isn't shown as a directory has none
pub none_deepest : (stack : StackView) → All IsLayer stack.layers → (path : PathNames) → length path ≡ depth_limit * length stack.layers → kids_along stack path ≡ []
none_deepest stack each path deep = no_kids stack each path (λ name shown.
    let limit : length (child_path path name) ≤ depth_limit * length stack.layers = shows-limited stack each (child_path path name) shown in
    absurd (omega (arith, limit, length-append path (name ∷ []))))

pub none_elsewhere : (stack : StackView) → All IsLayer stack.layers → (path : PathNames) → shows_directory stack path ≡ false → kids_along stack path ≡ []
none_elsewhere stack each path other = sym (none-along stack each path other)

-- ---- what is shown in a directory

-- what is shown in a directory is all that it shows
named_with : (stack : StackView) (dir : PathNames) (looks : List NamedLook) → All (λ (e : NamedLook). e.1 ≡ look stack (child_path dir e.0)) looks → looks ≡ map (named_look stack dir) (map (λ (e : NamedLook). e.0) looks)
named_with stack dir [] each = refl
named_with stack dir (e ∷ looks) each =
    let P : NamedLook → Type 0 = λ e. e.1 ≡ look stack (child_path dir e.0) in
    let head = All-head P e looks each in
    let tail = named_with stack dir looks (All-tail P e looks each) in
    λ j. (e.0, head j) ∷ tail j

pub looks_unique : (stack : StackView) → All IsLayer stack.layers → (dir : PathNames) (looks : List NamedLook) → AreLooks stack dir looks → looks ≡ looks_in stack dir
looks_unique stack each dir looks are =
    named_with stack dir looks are.each
    ∙ ap (map (named_look stack dir)) (kids-unique stack each dir (map (λ (e : NamedLook). e.0) looks) are.names)

names_named : (stack : StackView) (dir : PathNames) (names : List PathName) → map (λ (entry : NamedLook). entry.0) (map (named_look stack dir) names) ≡ names
names_named stack dir [] = refl
names_named stack dir (name ∷ names) = ap (λ (rest : List PathName). name ∷ rest) (names_named stack dir names)

pub all_names : (stack : StackView) → All IsLayer stack.layers → HasAllNames stack
all_names stack each dir = are-kids stack each dir (map (λ (entry : NamedLook). entry.0) (looks_in stack dir)) (names_named stack dir (kids_along stack dir))

-- ---- the kids of a piece

module _ (stack : StackView) (piece : Piece) where
  abbrev entries_of : List PathName → List NamedLook
  entries_of names = filter (λ (entry : NamedLook). is_shown_directory entry.1) (map (named_look stack piece.dir) names)

  abbrev pieces_for : List NamedLook → List Piece
  pieces_for entries = map (λ (entry : NamedLook). piece_in piece entry.0) entries

  is_kid : (q : Piece) (names : List PathName) → In q (pieces_for (entries_of names)) → (name : PathName) × ((q ≡ piece_in piece name) × (shows_directory stack (child_path piece.dir name) ≡ true))
  is_kid q [] h = absurd h
  is_kid q (name ∷ names) h = by (is_kid q names) (shows_directory stack (child_path piece.dir name)) refl h
    where
      by : (In q (pieces_for (entries_of names)) → (name : PathName) × ((q ≡ piece_in piece name) × (shows_directory stack (child_path piece.dir name) ≡ true)))
          → (b : Bool) → shows_directory stack (child_path piece.dir name) ≡ b → In q (pieces_for (cond b (named_look stack piece.dir name ∷ entries_of names) (entries_of names)))
          → (name : PathName) × ((q ≡ piece_in piece name) × (shows_directory stack (child_path piece.dir name) ≡ true))
      by later true e (inl same) = (name, (same, e))
      by later true e (inr i) = later i
      by later false e i = later i

  later_kids : (first : PathName) (names : List PathName) → list_all (λ later. is_lt (name_cmp first later)) names ≡ true → (q : Piece) → In q (pieces_for (entries_of names)) → IsBefore (piece_in piece first) q
  later_kids first [] all q h = absurd h
  later_kids first (name ∷ names) all q h = by (later_kids first names parts.1 q) (shows_directory stack (child_path piece.dir name)) h
    where
      parts : (is_lt (name_cmp first name) ≡ true) × (list_all (λ later. is_lt (name_cmp first later)) names ≡ true)
      parts = both {a = is_lt (name_cmp first name)} {b = list_all (λ later. is_lt (name_cmp first later)) names} all

      by : (In q (pieces_for (entries_of names)) → IsBefore (piece_in piece first) q) → (b : Bool) → In q (pieces_for (cond b (named_look stack piece.dir name ∷ entries_of names) (entries_of names))) → IsBefore (piece_in piece first) q
      by later true (inl same) = subst (IsBefore (piece_in piece first)) (sym same) (entry-before piece first name (is_lt-Less (name_cmp first name) parts.0))
      by later true (inr i) = later i
      by later false i = later i

  rising_kids : (names : List PathName) → ascends name_cmp names ≡ true → Rises IsBefore (pieces_for (entries_of names))
  rising_kids [] up = tt
  rising_kids (name ∷ names) up = by (rising_kids names parts.1) (shows_directory stack (child_path piece.dir name))
    where
      parts : (list_all (λ later. is_lt (name_cmp name later)) names ≡ true) × (ascends name_cmp names ≡ true)
      parts = both {a = list_all (λ later. is_lt (name_cmp name later)) names} {b = ascends name_cmp names} up

      by : Rises IsBefore (pieces_for (entries_of names)) → (b : Bool) → Rises IsBefore (pieces_for (cond b (named_look stack piece.dir name ∷ entries_of names) (entries_of names)))
      by more true = ((λ q i. later_kids name names parts.0 q i), more)
      by more false = more

pub kids_lawful : (stack : StackView) → All IsLayer stack.layers → HasLawfulKids (show_kids stack) (show_depth stack)
kids_lawful stack each = record {
  lawful = λ p. record {
    below = All-Every (IsOneBelow p) (show_kids stack p) (λ q h.
        let kid = is_kid stack p q (kids_along stack p.dir) h in
        (ap (λ (r : Piece). r.space) kid.1.0, (kid.0, ap (λ (r : Piece). r.dir) kid.1.0)));
    ascend = AllPairs-Rises IsBefore (show_kids stack p) (rising_kids stack p (kids_along stack p.dir) (kids-ascend stack p.dir));
  };
  shallow = λ p. All-Every (λ (kid : Piece). length kid.dir ≤ show_depth stack) (show_kids stack p) (λ q h.
      let kid = is_kid stack p q (kids_along stack p.dir) h in
      subst (λ (d : PathNames). length d ≤ depth_limit * length stack.layers) (sym (ap (λ (r : Piece). r.dir) kid.1.0))
      (shows-limited stack each (child_path p.dir kid.0) (directory-shows (look stack (child_path p.dir kid.0)) kid.1.1)));
}
