-- Laws of a layer without marks: by itself it shows what it has, and is sound.
use Rattle.std.proofs.Common.{◌≡◌, Bool, true, false, cond, Option, Some, None, List, [], ◌∷◌, refl, sym, ap, ◌∙◌, subst, inl, inr, ◌⊎◌}
use Rattle.std.specs.List.{cons_option}
use Rattle.ovl_names.specs.Names.{PathName}
use Rattle.ovl_names.specs.Paths.{PathNames, child_path}
use Rattle.ovl_inode.specs.declared.inodes.Inode.{Inode}
use Rattle.ovl_inode.specs.declared.marks.Mark.{Mark}
use Rattle.ovl_inode.specs.declared.marks.Mark.TheVariants.{DirPlain, Leaf}
use Rattle.ovl_inode.specs.Marks.{is_directory}
use Rattle.ovl_layer.specs.Layers.{Entries, IsLayer, entry_at}
use Rattle.ovl_lookup.specs.declared.looks.Look.TheVariants.{Nothing, Shown}
use Rattle.ovl_lookup.specs.Walk.{walk, mark_at}
use Rattle.ovl_lookup.specs.Stacks.{StackView}
use Rattle.ovl_lookup.specs.Merged.{look, shown_of}
use Rattle.ovl_lookup.specs.Sound.{IsSoundStack}
use Rattle.ovl_lookup.specs.Trace.{things_found}
use Rattle.ovl_lookup.specs.Unmarked.{alone, HasNoMarks}
use Rattle.ovl_lookup.proofs.LawsOfFound.{shown_of-full, things_found-step}
use Rattle.ovl_lookup.proofs.LawsOfInodes.{IsVisible, visible-own, visible-full, visible-mark}
use Rattle.ovl_lookup.proofs.LawsOfLooks.{Calm, Faultless, calm-visible, calm-faultless, entry-found, sound-whole}
use Rattle.ovl_lookup.proofs.LawsOfPaths.{last-name}
use Rattle.ovl_lookup.proofs.LawsOfWalks.{mark-child, walk-finds}

module _ (layer : Entries) (is : IsLayer layer) (bare : HasNoMarks layer) where
  entry-visible : (path : PathNames) (inode : Inode) → entry_at layer path ≡ Some inode → IsVisible inode
  entry-visible path inode here = let own = bare path inode here in record { bare = own.0; thing = own.1 }

  abbrev nothing : List Inode
  nothing = []

  ends : (closed : Bool) → cond closed [] [] ≡ nothing
  ends true = refl
  ends false = refl

  -- it finds at each path what it has there
  found-alone : (path : PathNames) → (walk layer path).found ≡ entry_at layer path
  found-alone path = by (entry_at layer path) refl ((walk layer path).found) refl
    where
      by : (own : Option Inode) → entry_at layer path ≡ own → (found : Option Inode) → (walk layer path).found ≡ found → (walk layer path).found ≡ entry_at layer path
      by own e (Some inode) f = f ∙ sym (walk-finds layer path inode is f).0
      by None e None f = f ∙ sym e
      by (Some inode) e None f =
          let none : things_found (layer ∷ []) path ≡ [] = things_found-step layer [] path ∙ (λ j. cons_option (f j) (ends (walk layer path).closed j)) in
          let bad : inode ∷ cond (walk layer path).closed [] [] ≡ [] = sym (entry-found layer [] path inode is e (entry-visible path inode e).thing) ∙ none in cc

  alone-found : (path : PathNames) → things_found (layer ∷ []) path ≡ cons_option (entry_at layer path) []
  alone-found path = things_found-step layer [] path ∙ (λ j. cons_option (found-alone path j) (ends (walk layer path).closed j))

  -- it shows that
  pub shown-alone : (path : PathNames) (inode : Inode) → entry_at layer path ≡ Some inode → look (alone layer) path ≡ Shown inode
  shown-alone path inode here =
      let v = entry-visible path inode here in
      ap (shown_of []) (alone-found path ∙ ap (λ (found : Option Inode). cons_option found []) here)
      ∙ (shown_of-full [] inode [] (visible-full inode v) ∙ ap (λ (i : Inode). Shown i) (visible-own inode v))

  pub nothing-alone : (path : PathNames) → entry_at layer path ≡ None → look (alone layer) path ≡ Nothing
  nothing-alone path none = ap (shown_of []) (alone-found path ∙ ap (λ (found : Option Inode). cons_option found []) none)

  -- ---- it is sound

  entry-calm : (path : PathNames) (inode : Inode) → entry_at layer path ≡ Some inode → Calm (mark_at layer path)
  entry-calm path inode here = by (last-name path)
    where
      by : (path ≡ []) ⊎ ((directory : PathNames) × (name : PathName) × (path ≡ child_path directory name)) → Calm (mark_at layer path)
      by (inl e) = subst (λ (p : PathNames). Calm (mark_at layer p)) (sym e) (calm-visible true)
      by (inr (directory, name, e)) =
          let mark : mark_at layer path ≡ Some (cond (is_directory inode) DirPlain Leaf) =
          ap (mark_at layer) e ∙ (mark-child layer directory name (Some inode) (ap (entry_at layer) (sym e) ∙ here) ∙ ap (λ (m : Mark). Some m) (visible-mark inode (entry-visible path inode here))) in
          subst Calm (sym mark) (calm-visible (is_directory inode))

  abbrev below : StackView
  below = record { layers = []; data_only = [] }

  pub faultless-alone : (path : PathNames) (inode : Inode) → entry_at layer path ≡ Some inode → Faultless layer below path inode
  faultless-alone path inode here = calm-faultless layer below path inode (entry-calm path inode here)

  pub sound-alone : IsSoundStack (alone layer)
  sound-alone = sound-whole layer below is.in_order faultless-alone refl
