-- How a walk splits at a directory, and what the redirects of that do to everything under it.
use Rattle.std.proofs.Common.{◌≡◌, Bool, true, false, cond, Option, Some, None, [], ◌∷◌, ◌++◌, sym, ap, ◌∙◌, append_assoc, inl, inr, ◌⊎◌, refl}
use Rattle.std.proofs.lemmas.List.{append-nil}
use Rattle.ovl_names.specs.Names.{PathName}
use Rattle.ovl_names.specs.Paths.{PathNames, child_path}
use Rattle.ovl_inode.specs.declared.inodes.Inode.{Inode}
use Rattle.ovl_inode.specs.declared.marks.Mark.{Mark}
use Rattle.ovl_inode.specs.declared.marks.Mark.TheVariants.{DirMoved, DirPlain}
use Rattle.ovl_inode.specs.declared.marks.Redirect.TheVariants.{To, Beside}
use Rattle.ovl_inode.specs.Marks.{mark_of, is_directory}
use Rattle.ovl_layer.specs.Layers.{Entries, IsLayer, entry_at, is_directory_at}
use Rattle.ovl_lookup.specs.declared.steps.Step.{Step}
use Rattle.ovl_lookup.specs.Walk.{walk, walk_beyond, mark_at}
use Rattle.ovl_lookup.specs.NextLookups.{next_on, closed_on}
use Rattle.ovl_lookup.specs.WalkSplits.{walk_below, WalksSplit, AbsoluteRedirectsLead, RelativeRedirectsLead}
use Rattle.ovl_lookup.proofs.LawsOfPaths.{last-name}
use Rattle.ovl_lookup.proofs.LawsOfWalks.{directory_found, directory-entry, mark-child, walk-child, walk-child_end, walk-whole}

pub walks-split : WalksSplit
walks-split layer is above [] holds =
    let here = walk-whole layer above holds in
    ap (walk layer) (append-nil above)
    ∙ (here ∙ (λ j. record { found = entry_at layer above; next = ap (λ (s : Step). s.next) (sym here) j; closed = ap (λ (s : Step). s.closed) (sym here) j }))
walks-split layer is above (name ∷ rest) holds = by (λ e. walks-split layer is (child_path above name) rest e) (entry_at layer (child_path above name)) refl
  where
    next : PathNames
    next = (walk layer above).next

    closed : Bool
    closed = (walk layer above).closed

    inside : Inode → Bool → Step
    inside inode directory = cond directory (walk_below layer (child_path above name) (next_on (mark_of inode) next name) (closed_on (mark_of inode) name closed) rest) (walk_beyond (Some inode) next closed name rest)

    on : Option Inode → Step
    on found = elim found as (λ _. Step) [ Some inode ↦ inside inode (is_directory inode) | None ↦ walk_beyond None next closed name rest ]

    Later : Type 0
    Later = is_directory_at layer (child_path above name) ≡ true → walk layer (child_path above name ++ rest) ≡ walk_below layer (child_path above name) (walk layer (child_path above name)).next (walk layer (child_path above name)).closed rest

    by : Later → (found : Option Inode) → entry_at layer (child_path above name) ≡ found → walk layer (above ++ name ∷ rest) ≡ on (entry_at layer (child_path above name))
    by later None e = walk-child_end layer above name is None holds e refl rest ∙ ap on (sym e)
    by later (Some inode) e = either (is_directory inode) refl ∙ ap on (sym e)
      where
        either : (b : Bool) → is_directory inode ≡ b → walk layer (above ++ name ∷ rest) ≡ inside inode (is_directory inode)
        either true d =
            let step = walk-child layer above name is inode e in
            ap (walk layer) (sym (append_assoc above (name ∷ []) rest))
            ∙ (later (ap directory_found e ∙ d)
            ∙ ((λ j. walk_below layer (child_path above name) (step j).next (step j).closed rest) ∙ ap (inside inode) (sym d)))
        either false d = walk-child_end layer above name is (Some inode) holds e d rest ∙ ap (inside inode) (sym d)

-- everything under a directory goes on by its mark
under-mark : (layer : Entries) → IsLayer layer → (above : PathNames) (own : PathName) (names : PathNames) (mark : Mark) → is_directory_at layer (child_path above own) ≡ true → mark_at layer (child_path above own) ≡ Some mark
    → walk layer (child_path above own ++ names) ≡ walk_below layer (child_path above own) (next_on mark (walk layer above).next own) (closed_on mark own (walk layer above).closed) names
under-mark layer is above own names mark holds marked =
    let entry = directory-entry layer (child_path above own) holds in
    let same : Some (mark_of entry.0) ≡ Some mark = sym (mark-child layer above own (Some entry.0) entry.1) ∙ marked in
    let known : mark_of entry.0 ≡ mark = cc in
    let step = walk-child layer above own is entry.0 entry.1 in
    walks-split layer is (child_path above own) names holds
    ∙ ((λ j. walk_below layer (child_path above own) (step j).next (step j).closed names)
    ∙ ap (λ (m : Mark). walk_below layer (child_path above own) (next_on m (walk layer above).next own) (closed_on m own (walk layer above).closed) names) known)

pub absolute-leads : AbsoluteRedirectsLead
absolute-leads layer is above names origin holds mark = at (last-name above)
  where
    at : (above ≡ []) ⊎ ((parent : PathNames) × (own : PathName) × (above ≡ child_path parent own)) → walk layer (above ++ names) ≡ walk_below layer above origin false names
    at (inl e) = let bad : Some DirPlain ≡ Some (DirMoved (To origin)) = ap (mark_at layer) (sym e) ∙ mark in cc
    at (inr (parent, own, e)) =
        ap (λ (p : PathNames). walk layer (p ++ names)) e
        ∙ (under-mark layer is parent own names (DirMoved (To origin)) (ap (is_directory_at layer) (sym e) ∙ holds) (ap (mark_at layer) (sym e) ∙ mark)
        ∙ ap (λ (p : PathNames). walk_below layer p origin false names) (sym e))

pub relative-leads : RelativeRedirectsLead
relative-leads layer is above own names beside holds mark = under-mark layer is above own names (DirMoved (Beside beside)) holds mark
