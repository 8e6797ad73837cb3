-- The number of the merged tree's paths, by what the directories of its walk have in them, and the report with it.
use Rattle.std.proofs.Common.{◌≡◌, ℕ, zero, suc, ◌+◌, ◌*◌, ◌<◌, Bool, true, false, cond, List, [], ◌∷◌, ◌++◌, length, map, refl, sym, ap, ◌∙◌, arith, length-append}
use Rattle.std.specs.Prelude.{filter, codes, decimal}
use Rattle.std.specs.List.{flat_map, sum_by, All}
use Rattle.std.proofs.lemmas.List.{length-map}
use Rattle.std.proofs.lemmas.List.Sums.{sum_by-append, sum_by-cons}
use Rattle.ovl_names.specs.Names.{PathName}
use Rattle.ovl_names.specs.Paths.{PathNames, child_path, depth_limit}
use Rattle.ovl_layer.specs.Layers.{IsLayer}
use Rattle.ovl_lookup.specs.Stacks.{StackView}
use Rattle.ovl_lookup.specs.Merged.{look, is_shown_directory}
use Rattle.ovl_lookup.specs.Passes.{kids_along}
use Rattle.ovl_board.specs.declared.pieces.Piece.{Piece}
use Rattle.ovl_board.specs.Pieces.{piece_in}
use Rattle.ovl_board.specs.Walks.{preorder}
use Rattle.ovl_board.specs.Parcels.{ParcelView}
use Rattle.ovl_reports.specs.Directories.{NamedLook, ShowParcel, named_look, looks_in, directories_in, show_kids, show_root, IsShowWalk}
use Rattle.ovl_reports.specs.Listings.{merged_tree}
use Rattle.ovl_reports.specs.Listings.{IsShowReport}
use Rattle.ovl_reports.specs.Reports.{show_line}
use Rattle.ovl_reports.proofs.DirectoryLemmas.{none_deepest, none_elsewhere}
use Rattle.ovl_reports.proofs.ListingLemmas.{views_of}
use Rattle.ovl_reports.proofs.MergedLemmas.{at, with_look, paths_from, below, own, tree_paths, tree_merged, views_are}

sum_by-map : {X Y : Type 0} (f : Y → ℕ) (g : X → Y) (xs : List X) → sum_by f (map g xs) ≡ sum_by (λ x. f (g x)) xs
sum_by-map f g [] = refl
sum_by-map f g (x ∷ xs) =
    sum_by-cons f (g x) (map g xs) ∙ (ap (λ n. f (g x) + n) (sum_by-map f g xs) ∙ sym (sum_by-cons (λ x. f (g x)) x xs))

module _ (stack : StackView) (each : All IsLayer stack.layers) where
  abbrev whole : ℕ
  whole = depth_limit * length stack.layers

  -- how much a directory has in it
  abbrev size : Piece → ℕ
  size piece = length (looks_in stack piece.dir)

  abbrev walk_from : ℕ → Piece → List Piece
  walk_from depth piece = preorder (show_kids stack) depth piece

  abbrev walks_under : ℕ → PathNames → List NamedLook → List Piece
  walks_under depth dir entries = flat_map (λ kid. walk_from depth kid) (directories_in (at dir) entries)

  abbrev paths_under : ℕ → PathNames → List PathName → List PathNames
  paths_under depth dir names = flat_map (λ name. paths_from stack depth (child_path dir name)) names

  -- the walks under a name that is a directory or not, and others
  abbrev with_first : ℕ → PathNames → PathName → List NamedLook → Bool → List Piece
  with_first depth dir name entries b = flat_map (λ kid. walk_from depth kid) (map (λ entry. piece_in (at dir) entry.0) (cond b (named_look stack dir name ∷ filter (λ entry. is_shown_directory entry.1) entries) (filter (λ entry. is_shown_directory entry.1) entries)))

  -- each name is a path, and those under it are counted by the directories there
  names_counted : (depth : ℕ) (dir : PathNames)
      → ((name : PathName) → length (below stack depth (child_path dir name)) ≡ sum_by size (walk_from depth (at (child_path dir name))))
      → (names : List PathName) → length (paths_under (suc depth) dir names) ≡ length names + sum_by size (walks_under depth dir (map (named_look stack dir) names))
  names_counted depth dir under [] = refl
  names_counted depth dir under (name ∷ names) = by (names_counted depth dir under names) (is_shown_directory (look stack (child_path dir name))) refl
    where
      paths : length (paths_under (suc depth) dir (name ∷ names)) ≡ 1 + length (below stack depth (child_path dir name)) + length (paths_under (suc depth) dir names)
      paths = omega (arith, length-append (below stack depth (child_path dir name)) (paths_under (suc depth) dir names))

      by : length (paths_under (suc depth) dir names) ≡ length names + sum_by size (walks_under depth dir (map (named_look stack dir) names)) → (b : Bool) → is_shown_directory (look stack (child_path dir name)) ≡ b
          → length (paths_under (suc depth) dir (name ∷ names)) ≡ length (name ∷ names) + sum_by size (walks_under depth dir (map (named_look stack dir) (name ∷ names)))
      by rest true e =
          let walks : sum_by size (walks_under depth dir (map (named_look stack dir) (name ∷ names))) ≡ sum_by size (walk_from depth (at (child_path dir name))) + sum_by size (walks_under depth dir (map (named_look stack dir) names)) =
          ap (λ b. sum_by size (with_first depth dir name (map (named_look stack dir) names) b)) e ∙ sum_by-append size (walk_from depth (at (child_path dir name))) (walks_under depth dir (map (named_look stack dir) names)) in
          omega (arith, paths, rest, under name, walks)
      by rest false e =
          let walks : sum_by size (walks_under depth dir (map (named_look stack dir) (name ∷ names))) ≡ sum_by size (walks_under depth dir (map (named_look stack dir) names)) = ap (λ b. sum_by size (with_first depth dir name (map (named_look stack dir) names) b)) e in
          let none : length (below stack depth (child_path dir name)) ≡ 0 = ap (λ names. length (paths_under depth (child_path dir name) names)) (none_elsewhere stack each (child_path dir name) e) in
          omega (arith, paths, rest, none, walks)

  counted : (depth : ℕ) (dir : PathNames) → depth + length dir ≡ whole → length (below stack depth dir) ≡ sum_by size (walk_from depth (at dir))
  counted zero dir deep =
      let none : kids_along stack dir ≡ [] = none_deepest stack each dir (omega (arith, deep)) in
      ap (λ names. length (paths_under zero dir names)) none ∙ sym (ap (λ names. sum_by (λ (piece : Piece). length (map (named_look stack dir) names)) (at dir ∷ [])) none)
  counted (suc depth) dir deep =
      let names = kids_along stack dir in
      let under = names_counted depth dir (λ name. counted depth (child_path dir name) (omega (arith, deep, length-append dir (name ∷ [])))) names in
      omega (arith, under, sum_by-cons size (at dir) (walks_under depth dir (looks_in stack dir)), length-map names (named_look stack dir))

  module _ (some : 0 < length stack.layers) where
    pub tree_counted : (parcels : List ShowParcel) → IsShowWalk stack (views_of parcels) → length (merged_tree stack) ≡ 1 + sum_by (λ parcel. length parcel.out.items) parcels
    tree_counted parcels plain =
        let walk = walk_from whole show_root in
        let all : length (below stack whole []) ≡ sum_by size walk = counted whole [] (omega arith) in
        let seen : ParcelView (List NamedLook) → ℕ = λ view. length view.seen in
        let views : sum_by seen (views_of parcels) ≡ sum_by size walk = ap (sum_by seen) (views_are stack each some (views_of parcels) plain) ∙ sum_by-map seen (own stack) walk in
        let own : sum_by seen (views_of parcels) ≡ sum_by (λ (parcel : ShowParcel). length parcel.out.items) parcels = sum_by-map seen (λ (parcel : ShowParcel). record { piece = parcel.piece; kids = parcel.kids.items; seen = parcel.out.items }) parcels in
        omega (arith, ap length (tree_paths stack each some), length-map ([] ∷ below stack whole []) (with_look stack), all, views, own)

    -- the report of the merged tree: all its lines, and their number
    pub whole_report : (lines report : List ℕ) (entries : ℕ) → lines ≡ flat_map show_line (merged_tree stack) → entries ≡ length (merged_tree stack)
        → report ≡ lines ++ codes "entries " ++ decimal entries ++ codes "\n" → IsShowReport stack report
    whole_report lines report entries all count told = record {
      looks = merged_tree stack;
      merged = tree_merged stack each some;
      printed = told ∙ (λ j. all j ++ codes "entries " ++ decimal (count j) ++ codes "\n");
    }
