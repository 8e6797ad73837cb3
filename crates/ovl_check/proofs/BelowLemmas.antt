-- What the layers below show at the names in a directory, by their view of it.
use Rattle.std.proofs.Common.{◌≡◌, ℕ, ◌∙◌, Bool, true, false, Option, None, Some, List, [], ◌∷◌, refl, sym, ap, All}
use Rattle.std.specs.Prelude.{not, drop, IfSome}
use Rattle.std.specs.Option.{option_map}
use Rattle.std.proofs.lemmas.List.Elements.{All-drop}
use Rattle.ovl_names.specs.Names.{PathName}
use Rattle.ovl_names.specs.Paths.{PathNames, child_path}
use Rattle.ovl_inode.specs.declared.inodes.Inode.{Inode}
use Rattle.ovl_inode.specs.Kinds.{size_of}
use Rattle.ovl_layer.specs.Layers.{IsLayer}
use Rattle.ovl_lookup.specs.declared.looks.Look.{Look}
use Rattle.ovl_lookup.specs.declared.looks.Look.TheVariants.{Nothing, Shown, Broken}
use Rattle.ovl_lookup.specs.declared.views.DirView.{DirView}
use Rattle.ovl_lookup.specs.DirViews.{IsViewOver}
use Rattle.ovl_lookup.specs.Stacks.{StackView, from_layer}
use Rattle.ovl_lookup.specs.Trace.{things_found}
use Rattle.ovl_lookup.specs.Merged.{look, shown_of, is_nothing, shows, shows_directory}
use Rattle.ovl_lookup.specs.Passes.{data_below}
use Rattle.ovl_lookup.proofs.LawsOfFound.{shown-any}
use Rattle.ovl_lookup.proofs.LawsOfLooks.{ShowsParents-holds}
use Rattle.ovl_check.specs.Checks.{first_below, layers_below}
use Rattle.ovl_check.specs.Facts.{IsViewBelow, data_size}

module _ (stack : StackView) (each : All IsLayer stack.layers) (i : ℕ) (directory : PathNames) (none : shows_directory (layers_below stack i) directory ≡ false) (name : PathName) where
  nothing : is_nothing (look (layers_below stack i) (child_path directory name)) ≡ true
  nothing = by (is_nothing (look (layers_below stack i) (child_path directory name))) refl
    where
      by : (b : Bool) → is_nothing (look (layers_below stack i) (child_path directory name)) ≡ b → b ≡ true
      by true e = refl
      by false e =
          let bad : true ≡ false = sym (ShowsParents-holds (layers_below stack i) (All-drop IsLayer (first_below stack i) stack.layers each) directory name (ap not e)) ∙ none in cc

  pub shows-nothing : false ≡ shows (layers_below stack i) (child_path directory name)
  shows-nothing = sym (ap not nothing)

  look-nothing : Nothing ≡ look (layers_below stack i) (child_path directory name)
  look-nothing = by (look (layers_below stack i) (child_path directory name)) nothing
    where
      by : (found : Look) → is_nothing found ≡ true → Nothing ≡ found
      by Nothing is = refl
      by (Shown inode) is = let bad : false ≡ true = is in cc
      by (Broken inode) is = let bad : false ≡ true = is in cc

  pub data-nothing : None ≡ data_size (layers_below stack i) None (child_path directory name)
  data-nothing = sym (ap (λ (found : List Inode). option_map size_of (data_below stack.data_only None found)) (empty (things_found (layers_below stack i).layers (child_path directory name)) look-nothing))
    where
      empty : (found : List Inode) → Nothing ≡ shown_of stack.data_only found → found ≡ []
      empty [] e = refl
      empty (inode ∷ found) e = let bad : true ≡ false = sym (shown-any stack.data_only (inode ∷ found)) ∙ ap (λ (l : Look). not (is_nothing l)) (sym e) in cc

-- ---- in a directory that they show

pub below-over : (stack : StackView) (i : ℕ) (next : PathNames) (below : Option DirView) → IsViewBelow stack i next below → IfSome below (IsViewOver stack)
below-over stack i next None is = tt
below-over stack i next (Some view) is = is.over

module _ (stack : StackView) (i : ℕ) (next : PathNames) (view : DirView) (is : IsViewBelow stack i next (Some view)) (name : PathName) where
  pub shows-below : shows (from_layer view.from stack) (child_path view.path name) ≡ shows (layers_below stack i) (child_path next name)
  shows-below = λ j. shows (from_layer (is.starts j) stack) (child_path (is.stands j) name)

  pub data-below : option_map size_of (data_below stack.data_only None (things_found (drop view.from stack.layers) (child_path view.path name))) ≡ data_size (layers_below stack i) None (child_path next name)
  data-below = λ j. option_map size_of (data_below stack.data_only None (things_found (drop (is.starts j) stack.layers) (child_path (is.stands j) name)))
