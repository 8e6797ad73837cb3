-- Where the names in a directory lie in the rest.
use Rattle.std.proofs.Common.{◌≡◌, Bool, true, false, cond, Option, Some, None, [], refl, sym, ap, ◌∙◌, subst}
use Rattle.std.specs.Prelude.{not, IfSome}
use Rattle.std.specs.List.{All}
use Rattle.ovl_names.specs.Names.{PathName}
use Rattle.ovl_names.specs.Paths.{PathNames}
use Rattle.ovl_layer.specs.Layers.{IsLayer}
use Rattle.ovl_lookup.specs.declared.looks.Look.{Look}
use Rattle.ovl_lookup.specs.declared.looks.Look.TheVariants.{Nothing}
use Rattle.ovl_lookup.specs.declared.views.DirView.{DirView}
use Rattle.ovl_lookup.specs.Stacks.{StackView}
use Rattle.ovl_lookup.specs.Words.{look_on}
use Rattle.ovl_lookup.specs.Merged.{is_shown_directory, is_nothing}
use Rattle.ovl_lookup.specs.DirViews.{IsViewOf}
use Rattle.ovl_lookup.proofs.LawsOfKids.{none-along}
use Rattle.ovl_lookup.proofs.LawsOfLooks.{nothing-under}
use Rattle.ovl_merge.specs.declared.bases.Base.{Base}
use Rattle.ovl_merge.specs.declared.bases.Base.TheVariants.{Reached, Apart}
use Rattle.ovl_merge.specs.Places.{Merge, merge_of, shows_own_directory, shows_directory_at, shows_at, reach, natural, base, child_of}
use Rattle.ovl_merge.specs.Directories.{base_names}
use Rattle.ovl_merge.specs.Reckoned.{IsBase, reach_from}
use Rattle.ovl_merge.proofs.ShownLemmas.{base-unreached}

pub at-some : {X : Type 0} → (o : Option X) (P : X → Type 0) (x : X) → o ≡ Some x → IfSome o P → P x
at-some None P x is h = let bad : None ≡ Some x = is in cc
at-some (Some y) P x is h = let same : y ≡ x = cc in subst P same h

-- ---- where a directory goes on

-- the view of the place where it does
pub view-reached : (stack : StackView) (path : PathNames) (view : DirView) → IsViewOf stack 2 path view → (reach_from (merge_of stack).rest (Some path) ≡ Some view.path) × IsViewOf stack 2 view.path view
view-reached stack path view of = (
  ap (λ (b : Bool). cond b (Some path) None) of.shown ∙ ap (λ (p : PathNames). Some p) (sym of.stands),
  subst (λ (p : PathNames). IsViewOf stack 2 p view) (sym of.stands) of,
)

-- where it doesn't, the rest shows no directory in its base
pub base-apart : (m : Merge) → IsLayer m.upper → IsLayer m.lower → (dir : PathNames) → shows_own_directory m dir ≡ true → reach m dir ≡ None → shows_directory_at m.rest (base m dir) ≡ false
base-apart m upper lower dir shown none =
    ap (shows_directory_at m.rest) (sym (base-unreached m upper lower dir shown none)) ∙ by (shows_directory_at m.rest (natural m dir)) refl
  where
    by : (b : Bool) → shows_directory_at m.rest (natural m dir) ≡ b → shows_directory_at m.rest (cond (shows_directory_at m.rest (natural m dir)) None (natural m dir)) ≡ false
    by true e = ap (λ (c : Bool). shows_directory_at m.rest (cond c None (natural m dir))) e
    by false e = ap (λ (c : Bool). shows_directory_at m.rest (cond c None (natural m dir))) e ∙ e

pub none-reached : (stack : StackView) (dir : PathNames) (own : Base) → IsBase stack dir own → own ≡ Apart → reach (merge_of stack) dir ≡ None
none-reached stack dir own is apart = (subst (IsBase stack dir) apart is).0

-- there its base shows nothing
look-apart : (rest : StackView) → All IsLayer rest.layers → (place : Option PathNames) → shows_directory_at rest place ≡ false → (name : PathName) → look_on rest (child_of place name) ≡ Nothing
look-apart rest each None none name = refl
look-apart rest each (Some place) none name = nothing-under rest each place name [] none

pub unreached-look : (stack : StackView) → All IsLayer (merge_of stack).rest.layers → (dir : PathNames) (own : Base) → IsBase stack dir own → reach (merge_of stack) dir ≡ None → (name : PathName)
    → look_on (merge_of stack).rest (child_of (base (merge_of stack) dir) name) ≡ Nothing
unreached-look stack each dir (Reached view) is none name = let bad : Some view.path ≡ None = sym is.0 ∙ none in cc
unreached-look stack each dir Apart is none name = look-apart (merge_of stack).rest each (base (merge_of stack) dir) is.1 name

pub unreached-shows : (stack : StackView) → All IsLayer (merge_of stack).rest.layers → (dir : PathNames) (own : Base) → IsBase stack dir own → reach (merge_of stack) dir ≡ None → (name : PathName)
    → shows_at (merge_of stack).rest (child_of (base (merge_of stack) dir) name) ≡ false
unreached-shows stack each dir own is none name = shown-on (merge_of stack).rest (child_of (base (merge_of stack) dir) name) ∙ ap (λ (l : Look). not (is_nothing l)) (unreached-look stack each dir own is none name)
  where
    shown-on : (rest : StackView) (place : Option PathNames) → shows_at rest place ≡ not (is_nothing (look_on rest place))
    shown-on rest None = refl
    shown-on rest (Some place) = refl

-- nor has it names
names-apart : (rest : StackView) → All IsLayer rest.layers → (place : Option PathNames) → shows_directory_at rest place ≡ false → [] ≡ base_names rest place
names-apart rest each None none = refl
names-apart rest each (Some place) none = none-along rest each place none

pub unreached-names : (stack : StackView) → All IsLayer (merge_of stack).rest.layers → (dir : PathNames) (own : Base) → IsBase stack dir own → reach (merge_of stack) dir ≡ None → [] ≡ base_names (merge_of stack).rest (base (merge_of stack) dir)
unreached-names stack each dir (Reached view) is none = let bad : Some view.path ≡ None = sym is.0 ∙ none in cc
unreached-names stack each dir Apart is none = names-apart (merge_of stack).rest each (base (merge_of stack) dir) is.1

-- what is shown at a place, if there is one
pub directory-on : (rest : StackView) (place : Option PathNames) → is_shown_directory (look_on rest place) ≡ shows_directory_at rest place
directory-on rest None = refl
directory-on rest (Some place) = refl
