-- The first thing that layers find, and what it says of one more name.
use Rattle.std.proofs.Common.{◌≡◌, Bool, true, false, cond, Option, Some, None, List, [], ◌∷◌, refl, sym, ap, ◌∙◌, inl, inr, ◌⊎◌}
use Rattle.std.specs.Prelude.{not, ◌&&◌}
use Rattle.std.specs.List.{cons_option}
use Rattle.ovl_names.specs.Paths.{PathNames}
use Rattle.ovl_inode.specs.declared.inodes.Inode.{Inode}
use Rattle.ovl_inode.specs.Marks.{is_directory, is_metacopy, is_whiteout}
use Rattle.ovl_layer.specs.Layers.{Entries, IsLayer}
use Rattle.ovl_lookup.specs.Walk.{walk}
use Rattle.ovl_lookup.specs.Trace.{things_found, hits_of, leading_directories, leading_files}
use Rattle.ovl_lookup.proofs.LawsOfFound.{things_found-step}
use Rattle.ovl_merge.specs.Places.{Merge, whole, two_layers, lower_path, rest_path, is_open, first_of, first_hit}
use Rattle.ovl_lookup.proofs.LawsOfWalks.{walk-finds}

pub first_of-hits : (xs : List Inode) → first_of (hits_of xs) ≡ first_of xs
first_of-hits [] = refl
first_of-hits (inode ∷ xs) = by (is_directory inode) (is_metacopy inode)
  where
    by : (d meta : Bool) → first_of (cond d (cond d (inode ∷ leading_directories xs) []) (cond d [] (cond meta (inode ∷ leading_files xs) (inode ∷ [])))) ≡ Some inode
    by true meta = refl
    by false true = refl
    by false false = refl

-- the first thing, by a step and the first thing below it
abbrev pub first_step : Option Inode → Bool → Option Inode → Option Inode
first_step (Some inode) closed below = Some inode
first_step None true below = None
first_step None false below = below

pub first-step : (layer : Entries) (layers : List Entries) (path : PathNames) → first_of (things_found (layer ∷ layers) path) ≡ first_step (walk layer path).found (walk layer path).closed (first_of (things_found layers (walk layer path).next))
first-step layer layers path = ap first_of (things_found-step layer layers path) ∙ by (walk layer path).found (walk layer path).closed
  where
    by : (found : Option Inode) (closed : Bool) → first_of (cons_option found (cond closed [] (things_found layers (walk layer path).next))) ≡ first_step found closed (first_of (things_found layers (walk layer path).next))
    by (Some inode) closed = refl
    by None true = refl
    by None false = refl

pub first_hit-steps : (m : Merge) (path : PathNames) → first_hit m path ≡ first_step (walk m.upper path).found (walk m.upper path).closed (first_step (walk m.lower (lower_path m path)).found (walk m.lower (lower_path m path)).closed None)
first_hit-steps m path =
    first_of-hits (things_found (two_layers m).layers path)
    ∙ (first-step m.upper (m.lower ∷ []) path
    ∙ ap (first_step (walk m.upper path).found (walk m.upper path).closed) (first-step m.lower [] (lower_path m path)))

-- what the whole stack finds, by the two walks
pub found-whole : (m : Merge) (path : PathNames) → things_found (whole m).layers path ≡ cons_option (walk m.upper path).found (cond (walk m.upper path).closed [] (cons_option (walk m.lower (lower_path m path)).found (cond (walk m.lower (lower_path m path)).closed [] (things_found m.rest.layers (rest_path m path)))))
found-whole m path =
    things_found-step m.upper (m.lower ∷ m.rest.layers) path
    ∙ ap (λ (xs : List Inode). cons_option (walk m.upper path).found (cond (walk m.upper path).closed [] xs)) (things_found-step m.lower m.rest.layers (lower_path m path))

-- both layers find nothing, and both walks are open
pub record PassesBoth (m : Merge) (path : PathNames) : Type 0 where
  pub upper_found : (walk m.upper path).found ≡ None
  pub upper_open : (walk m.upper path).closed ≡ false
  pub lower_found : (walk m.lower (lower_path m path)).found ≡ None
  pub lower_open : (walk m.lower (lower_path m path)).closed ≡ false

pub passes-found : (m : Merge) (path : PathNames) → PassesBoth m path → things_found (whole m).layers path ≡ things_found m.rest.layers (rest_path m path)
passes-found m path p =
    found-whole m path
    ∙ (λ j. cons_option (p.upper_found j) (cond (p.upper_open j) [] (cons_option (p.lower_found j) (cond (p.lower_open j) [] (things_found m.rest.layers (rest_path m path))))))

-- where the two layers show nothing, both are passed, or nothing is found in the whole stack
pub unshown : (m : Merge) (path : PathNames) → first_hit m path ≡ None → ((is_open m path ≡ true) × PassesBoth m path) ⊎ ((is_open m path ≡ false) × (things_found (whole m).layers path ≡ []))
unshown m path none = by (walk m.upper path).found refl (walk m.upper path).closed refl (walk m.lower (lower_path m path)).found refl (walk m.lower (lower_path m path)).closed refl
  where
    steps : first_step (walk m.upper path).found (walk m.upper path).closed (first_step (walk m.lower (lower_path m path)).found (walk m.lower (lower_path m path)).closed None) ≡ None
    steps = sym (first_hit-steps m path) ∙ none

    by : (fu : Option Inode) → (walk m.upper path).found ≡ fu → (cu : Bool) → (walk m.upper path).closed ≡ cu → (fl : Option Inode) → (walk m.lower (lower_path m path)).found ≡ fl → (cl : Bool) → (walk m.lower (lower_path m path)).closed ≡ cl
        → ((is_open m path ≡ true) × PassesBoth m path) ⊎ ((is_open m path ≡ false) × (things_found (whole m).layers path ≡ []))
    by (Some inode) u cu c fl l cl k =
        let bad : Some inode ≡ None = sym (ap (λ o. first_step o (walk m.upper path).closed (first_step (walk m.lower (lower_path m path)).found (walk m.lower (lower_path m path)).closed None)) u) ∙ steps in cc
    by None u true c fl l cl k = inr (
      (λ j. not (c j) && not (walk m.lower (lower_path m path)).closed),
      found-whole m path ∙ (λ j. cons_option (u j) (cond (c j) [] (cons_option (walk m.lower (lower_path m path)).found (cond (walk m.lower (lower_path m path)).closed [] (things_found m.rest.layers (rest_path m path)))))),
    )
    by None u false c (Some inode) l cl k =
        let bad : Some inode ≡ None = sym (λ j. first_step (u j) (c j) (first_step (l j) (walk m.lower (lower_path m path)).closed None)) ∙ steps in cc
    by None u false c None l true k = inr (
      (λ j. not (c j) && not (k j)),
      found-whole m path ∙ (λ j. cons_option (u j) (cond (c j) [] (cons_option (l j) (cond (k j) [] (things_found m.rest.layers (rest_path m path)))))),
    )
    by None u false c None l false k = inl ((λ j. not (c j) && not (k j)), record { upper_found = u; upper_open = c; lower_found = l; lower_open = k })

abbrev pub rest_of : List Inode → List Inode
rest_of [] = []
rest_of (inode ∷ inodes) = inodes

pub first-cons : (xs : List Inode) (inode : Inode) → first_of xs ≡ Some inode → xs ≡ inode ∷ rest_of xs
first-cons [] inode is = let bad : None ≡ Some inode = is in cc
first-cons (first ∷ xs) inode is = let same : first ≡ inode = cc in ap (λ (i : Inode). i ∷ xs) same

pub first-none : (xs : List Inode) → first_of xs ≡ None → xs ≡ []
first-none [] is = refl
first-none (first ∷ xs) is = let bad : Some first ≡ None = is in cc

-- what is found first over the two layers is found first in the whole stack
pub found-first_hit : (m : Merge) (path : PathNames) (inode : Inode) → first_hit m path ≡ Some inode → first_of (things_found (whole m).layers path) ≡ Some inode
found-first_hit m path inode is =
    first-step m.upper (m.lower ∷ m.rest.layers) path
    ∙ (ap (first_step (walk m.upper path).found (walk m.upper path).closed) (first-step m.lower m.rest.layers (lower_path m path))
    ∙ by (walk m.upper path).found (walk m.upper path).closed (walk m.lower (lower_path m path)).found (walk m.lower (lower_path m path)).closed (sym (first_hit-steps m path) ∙ is))
  where
    by : (fu : Option Inode) (cu : Bool) (fl : Option Inode) (cl : Bool) → first_step fu cu (first_step fl cl None) ≡ Some inode → first_step fu cu (first_step fl cl (first_of (things_found m.rest.layers (rest_path m path)))) ≡ Some inode
    by (Some first) cu fl cl is = is
    by None true fl cl is = let bad : None ≡ Some inode = is in cc
    by None false (Some first) cl is = is
    by None false None true is = let bad : None ≡ Some inode = is in cc
    by None false None false is = let bad : None ≡ Some inode = is in cc

pub whole-first : (m : Merge) (path : PathNames) (inode : Inode) → first_hit m path ≡ Some inode → things_found (whole m).layers path ≡ inode ∷ rest_of (things_found (whole m).layers path)
whole-first m path inode is = first-cons (things_found (whole m).layers path) inode (found-first_hit m path inode is)

-- where the first hit over two layers is from
pub hit-from : (m : Merge) (path : PathNames) (inode : Inode) → IsLayer m.upper → IsLayer m.lower → first_hit m path ≡ Some inode
    → ((walk m.upper path).found ≡ Some inode) ⊎ (((walk m.upper path).found ≡ None) × ((walk m.upper path).closed ≡ false) × ((walk m.lower (lower_path m path)).found ≡ Some inode))
hit-from m path inode upper lower is = by (walk m.upper path).found refl (walk m.upper path).closed refl (walk m.lower (lower_path m path)).found refl (walk m.lower (lower_path m path)).closed refl
  where
    steps : first_step (walk m.upper path).found (walk m.upper path).closed (first_step (walk m.lower (lower_path m path)).found (walk m.lower (lower_path m path)).closed None) ≡ Some inode
    steps = sym (first_hit-steps m path) ∙ is

    by : (fu : Option Inode) → (walk m.upper path).found ≡ fu → (cu : Bool) → (walk m.upper path).closed ≡ cu → (fl : Option Inode) → (walk m.lower (lower_path m path)).found ≡ fl → (cl : Bool) → (walk m.lower (lower_path m path)).closed ≡ cl
        → ((walk m.upper path).found ≡ Some inode) ⊎ (((walk m.upper path).found ≡ None) × ((walk m.upper path).closed ≡ false) × ((walk m.lower (lower_path m path)).found ≡ Some inode))
    by (Some first) u cu c fl l cl k = inl (u ∙ (sym (ap (λ o. first_step o (walk m.upper path).closed (first_step (walk m.lower (lower_path m path)).found (walk m.lower (lower_path m path)).closed None)) u) ∙ steps))
    by None u true c fl l cl k = let bad : None ≡ Some inode = sym (λ j. first_step (u j) (c j) (first_step (walk m.lower (lower_path m path)).found (walk m.lower (lower_path m path)).closed None)) ∙ steps in cc
    by None u false c (Some first) l cl k = inr (u, c, l ∙ (sym (λ j. first_step (u j) (c j) (first_step (l j) (walk m.lower (lower_path m path)).closed None)) ∙ steps))
    by None u false c None l true k = let bad : None ≡ Some inode = sym (λ j. first_step (u j) (c j) (first_step (l j) (k j) None)) ∙ steps in cc
    by None u false c None l false k = let bad : None ≡ Some inode = sym (λ j. first_step (u j) (c j) (first_step (l j) (k j) None)) ∙ steps in cc

pub hit-no_whiteout : (m : Merge) (path : PathNames) (inode : Inode) → IsLayer m.upper → IsLayer m.lower → first_hit m path ≡ Some inode → is_whiteout inode ≡ false
hit-no_whiteout m path inode upper lower is = by (hit-from m path inode upper lower is)
  where
    by : ((walk m.upper path).found ≡ Some inode) ⊎ (((walk m.upper path).found ≡ None) × ((walk m.upper path).closed ≡ false) × ((walk m.lower (lower_path m path)).found ≡ Some inode)) → is_whiteout inode ≡ false
    by (inl found) = (walk-finds m.upper path inode upper found).1
    by (inr (none, opened, found)) = (walk-finds m.lower (lower_path m path) inode lower found).1
