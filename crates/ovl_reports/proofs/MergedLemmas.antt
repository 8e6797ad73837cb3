-- The merged tree as paths, and the walk over it.
use Rattle.std.proofs.Common.{◌≡◌, ℕ, zero, suc, ◌+◌, ◌-◌, ◌*◌, ◌<◌, List, [], ◌∷◌, ◌++◌, length, map, refl, sym, ap, ◌∙◌, arith, append-nil, append_assoc}
use Rattle.std.specs.List.{flat_map, All}
use Rattle.std.proofs.lemmas.List.{map-append}
use Rattle.ovl_names.specs.Names.{PathName}
use Rattle.ovl_names.specs.Paths.{PathNames, child_path, depth_limit}
use Rattle.ovl_layer.specs.Layers.{IsLayer}
use Rattle.ovl_lookup.specs.declared.looks.Look.{Look}
use Rattle.ovl_lookup.specs.Stacks.{StackView}
use Rattle.ovl_lookup.specs.Merged.{IsMerged, look}
use Rattle.ovl_lookup.specs.Passes.{kids_along, looks_from, looks_under, looks_placed}
use Rattle.ovl_lookup.proofs.LawsOfKids.{is-merged, shows-root}
use Rattle.ovl_board.specs.declared.pieces.Piece.{Piece}
use Rattle.ovl_board.specs.Pieces.{piece_at}
use Rattle.ovl_board.specs.Walks.{preorder}
use Rattle.ovl_board.specs.Parcels.{ParcelView, own_view}
use Rattle.ovl_board.proofs.LawsOfWalks.{IsPlain-from_preorder, HasReachedPieces-holds}
use Rattle.ovl_reports.specs.Directories.{NamedLook, show_kids, show_out, show_root, IsShowWalk}
use Rattle.ovl_reports.proofs.DirectoryLemmas.{kids_lawful}

abbrev Looks : Type 0
Looks = List (PathNames × Look)

-- a path as a piece
abbrev pub at : PathNames → Piece
at path = piece_at 0 path

module _ (stack : StackView) where
  abbrev pub with_look : PathNames → PathNames × Look
  with_look path = (path, look stack path)

  -- a path, and at most `depth - 1` names under it
  abbrev pub paths_from : ℕ → PathNames → List PathNames
  paths_from zero path = []
  paths_from (suc depth) path = path ∷ flat_map (λ name. paths_from depth (child_path path name)) (kids_along stack path)

  placed_under : (path : PathNames) (name : PathName) (looks : Looks) → looks_placed path (looks_under name looks) ≡ looks_placed (child_path path name) looks
  placed_under path name [] = refl
  placed_under path name (entry ∷ looks) = λ j. (sym (append_assoc path (name ∷ []) entry.0) j, entry.1) ∷ placed_under path name looks j

  abbrev looks_below : ℕ → PathNames → PathName → Looks
  looks_below depth path name = looks_from depth stack (child_path path name)

  names_placed : (depth : ℕ) (path : PathNames) → ((name : PathName) → looks_placed (child_path path name) (looks_below depth path name) ≡ map with_look (paths_from depth (child_path path name)))
      → (names : List PathName) → looks_placed path (flat_map (λ name. looks_under name (looks_below depth path name)) names) ≡ map with_look (flat_map (λ name. paths_from depth (child_path path name)) names)
  names_placed depth path is [] = refl
  names_placed depth path is (name ∷ names) =
      map-append (λ (entry : PathNames × Look). (path ++ entry.0, entry.1)) (looks_under name (looks_below depth path name)) (flat_map (λ name. looks_under name (looks_below depth path name)) names)
      ∙ ((λ j. (placed_under path name (looks_below depth path name) ∙ is name) j ++ names_placed depth path is names j)
      ∙ sym (map-append with_look (paths_from depth (child_path path name)) (flat_map (λ name. paths_from depth (child_path path name)) names)))

  placed_is : (depth : ℕ) (path : PathNames) → looks_placed path (looks_from depth stack path) ≡ map with_look (paths_from depth path)
  placed_is zero path = refl
  placed_is (suc depth) path =
      let rest = names_placed depth path (λ name. placed_is depth (child_path path name)) (kids_along stack path) in
      λ j. (append-nil path j, look stack path) ∷ rest j

  abbrev pub own : Piece → ParcelView (List NamedLook)
  own = own_view (show_kids stack) (show_out stack)

  abbrev pub below : ℕ → PathNames → List PathNames
  below depth path = flat_map (λ name. paths_from depth (child_path path name)) (kids_along stack path)

  module _ (each : All IsLayer stack.layers) (some : 0 < length stack.layers) where
    abbrev whole_depth : ℕ
    whole_depth = depth_limit * length stack.layers

    abbrev pub tree : Looks
    tree = looks_placed [] (looks_from (depth_limit * length stack.layers + 1) stack [])

    pub tree_paths : tree ≡ map with_look ([] ∷ below whole_depth [])
    tree_paths =
        let next : depth_limit * length stack.layers + 1 ≡ suc (depth_limit * length stack.layers) = omega arith in
        placed_is (depth_limit * length stack.layers + 1) [] ∙ ap (λ (n : ℕ). map with_look (paths_from n [])) next

    pub tree_merged : IsMerged stack tree
    tree_merged = is-merged stack each (shows-root stack each some) tree refl

    pub views_are : (views : List (ParcelView (List NamedLook))) → IsShowWalk stack views → views ≡ map own (preorder (show_kids stack) whole_depth show_root)
    views_are views plain =
        let nodes : List (ParcelView (List NamedLook)) = map own (preorder (show_kids stack) whole_depth show_root) in
        let less : whole_depth ≡ whole_depth - 0 = omega arith in
        let other = IsPlain-from_preorder (show_kids stack) (show_out stack) whole_depth (kids_lawful stack each) show_root nodes (ap (λ (n : ℕ). map own (preorder (show_kids stack) n show_root)) less) in
        sym ((HasReachedPieces-holds (show_kids stack) (show_out stack) show_root views plain).3 nodes other)
