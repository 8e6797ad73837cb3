-- The inodes that are shown in a directory, one after another.
use Rattle.std.proofs.Common.{◌≡◌, ◌++◌, false, Option, Some, None, List, [], ◌∷◌, map, refl, sym, ap, ◌∙◌}
use Rattle.std.specs.Prelude.{All}
use Rattle.std.specs.Option.{option_map}
use Rattle.std.specs.List.{cons_option, filter_map}
use Rattle.std.proofs.lemmas.List.Elements.{filter_map-append}
use Rattle.ovl_names.specs.Names.{PathName}
use Rattle.ovl_names.specs.Paths.{PathNames, child_path}
use Rattle.ovl_inode.specs.declared.inodes.Inode.{Inode}
use Rattle.ovl_layer.specs.Layers.{IsLayer}
use Rattle.ovl_lookup.specs.declared.looks.Look.{Look}
use Rattle.ovl_lookup.specs.Stacks.{StackView}
use Rattle.ovl_lookup.specs.Merged.{look, shows_directory}
use Rattle.ovl_lookup.specs.ViewPasses.{AreLooks}
use Rattle.ovl_lookup.specs.ShownInodes.{inode_shown, named_shown, shown_inode, shown_inodes}
use Rattle.ovl_lookup.proofs.LawsOfPaths.{all-first, all-rest}
use Rattle.ovl_lookup.proofs.LawsOfKids.{kids-unique, none-along}

pub shown-more : (looks : List (PathName × Look)) (name : PathName) (shown : Look) (items : List (PathName × Inode)) (found : Option Inode)
    → items ≡ filter_map named_shown looks → found ≡ inode_shown shown
    → items ++ cons_option (option_map (λ inode. (name, inode)) found) [] ≡ filter_map named_shown (looks ++ (name, shown) ∷ [])
shown-more looks name shown items found are is =
    (λ j. are j ++ cons_option (option_map (λ inode. (name, inode)) (is j)) [])
    ∙ sym (filter_map-append named_shown looks ((name, shown) ∷ []))

module _ (stack : StackView) (each : All IsLayer stack.layers) (dir : PathNames) where
  by-names : (looks : List (PathName × Look)) → All (λ e. e.1 ≡ look stack (child_path dir e.0)) looks → filter_map named_shown looks ≡ filter_map (shown_inode stack dir) (map (λ e. e.0) looks)
  by-names [] are = refl
  by-names (entry ∷ looks) are =
      λ j. cons_option (option_map (λ inode. (entry.0, inode)) (inode_shown (all-first (λ (e : PathName × Look). e.1 ≡ look stack (child_path dir e.0)) entry looks are j)))
      (by-names looks (all-rest (λ (e : PathName × Look). e.1 ≡ look stack (child_path dir e.0)) entry looks are) j)

  pub shown-listed : (looks : List (PathName × Look)) → AreLooks stack dir looks → filter_map named_shown looks ≡ shown_inodes stack dir
  shown-listed looks are =
      by-names looks are.each
      ∙ ap (filter_map (shown_inode stack dir)) (kids-unique stack each dir (map (λ e. e.0) looks) are.names)

  -- nothing where no directory is shown
  pub none-shown : shows_directory stack dir ≡ false → [] ≡ shown_inodes stack dir
  none-shown none = ap (filter_map (shown_inode stack dir)) (none-along stack each dir none)

pub not-some : {X : Type 0} → (found : Option X) → ((x : X) → found ≡ Some x → ⊥) → found ≡ None
not-some None never = refl
not-some (Some x) never = absurd (never x refl)
