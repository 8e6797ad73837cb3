-- The core of the law that a merge keeps the merged tree: where the walks of the new lower layer go on.
use Rattle.std.proofs.Common.{◌≡◌, ℕ, arith, Bool, true, false, cond, Option, Some, None, is_some, List, [], ◌∷◌, suc, length, refl, sym, ap, ◌∙◌, subst, inl, inr, ◌⊎◌}
use Rattle.std.specs.Prelude.{not, ◌&&◌, is_none, IfSome, codes}
use Rattle.std.specs.List.{cons_option, list_all, All}
use Rattle.std.proofs.lemmas.List.Elements.{All-cons}
use Rattle.std.specs.Cmp.Lexicographic.{pointwise_decides, bytes_decides}
use Rattle.ovl_names.specs.Names.{PathName, is_name}
use Rattle.ovl_names.specs.Paths.{PathNames, path_eq, path_text, child_path, parent_path, is_root, has_names}
use Rattle.ovl_names.proofs.Ascending.{both, not_true}
use Rattle.ovl_inode.specs.declared.inodes.Inode.{Inode}
use Rattle.ovl_inode.specs.declared.marks.Mark.{Mark}
use Rattle.ovl_inode.specs.declared.marks.Mark.TheVariants.{DirMoved, DirPlain, Meta}
use Rattle.ovl_inode.specs.declared.marks.Redirect.{Redirect}
use Rattle.ovl_inode.specs.declared.marks.Redirect.TheVariants.{To, Beside}
use Rattle.ovl_inode.specs.Attributes.{redirect_name, opaque_name}
use Rattle.ovl_inode.specs.Marks.{mark_of, is_directory, is_regular, is_metacopy, is_metacopy_mark, is_whiteout, has_metacopy}
use Rattle.ovl_inode.specs.Redirects.{read_redirect}
use Rattle.ovl_inode.specs.Inodes.{visible}
use Rattle.ovl_layer.specs.Layers.{Entries, IsLayer, entry_at, is_directory_at}
use Rattle.ovl_lookup.specs.declared.steps.Step.{Step}
use Rattle.ovl_lookup.specs.Walk.{walk, nothing_found}
use Rattle.ovl_lookup.specs.Trace.{things_found}
use Rattle.ovl_lookup.specs.Merged.{look, shows, shows_directory, last_place, full_file_in}
use Rattle.ovl_lookup.specs.NextLookups.{next_on, closed_on}
use Rattle.ovl_lookup.specs.WalkLaws.{PassesOver}
use Rattle.ovl_lookup.proofs.LawsOfPaths.{length-child, parent_path-child, lookup-all, all-first, all-rest, by_child}
use Rattle.ovl_lookup.proofs.LawsOfFound.{things_found-step, child_found, any_found, starts_directory}
use Rattle.ovl_lookup.proofs.LawsOfInodes.{metacopy-file}
use Rattle.ovl_lookup.proofs.LawsOfWalks.{walk-below, Below, directory_found, walk-child, walk-child_end, walk-child_beyond, whiteout-closes, passes-over}
use Rattle.ovl_lookup.proofs.LawsOfLooks.{shows-found, ShowsParents-holds}
use Rattle.ovl_merge.specs.Places.{Merge, whole, two_layers, lower_path, rest_path, is_open, first_of, first_hit, passes, shows_own_directory, is_nothing_or, is_shown_regular, goes_on, reach, reach_of, shows_directory_at, shows_at, base_at, child_of, natural, base, gets_opaque, natural_at, last_name}
use Rattle.ovl_merge.specs.MergeDown.{with_value, redirected, redirected_from, merged_directory, merged_metacopy, unreached_metacopy, has_data_alone, kept_if_alone, kept_place, merged_inode, new_whiteout, needs_whiteout, merged_entry_of, IsMergedDown}
use Rattle.ovl_merge.proofs.Values.{with_metacopy, mark-copied, mark-copied_moved, mark-plain, mark-opaque, mark-moved}
use Rattle.ovl_merge.proofs.Redirects.{redirect-absolute, redirect-beside}
use Rattle.ovl_lookup.proofs.LawsOfNames.{walk-named, walk-below_root, last-named}
use Rattle.ovl_merge.proofs.Firsts.{first_hit-steps, first_step, found-first_hit, first_of-hits, first-none, first-cons, PassesBoth, passes-found, unshown, hit-no_whiteout}
use Rattle.ovl_merge.proofs.Inodes.{IsOther, merged-metacopy, merged-directory, merged-is_directory, merged-is_other}

-- ---- paths

pub last_name-child : (path : PathNames) (name : PathName) → last_name (child_path path name) ≡ name
last_name-child [] name = refl
last_name-child (first ∷ []) name = refl
last_name-child (first ∷ other ∷ path) name = last_name-child (other ∷ path) name

last_name-named : (path : PathNames) → has_names path ≡ true → is_root path ≡ false → is_name (last_name path) ≡ true
last_name-named [] named below = let bad : true ≡ false = below in cc
last_name-named (name ∷ []) named below = (both {a = is_name name} named).0
last_name-named (name ∷ other ∷ path) named below = last_name-named (other ∷ path) (both {a = is_name name} {b = has_names (other ∷ path)} named).1 refl

-- the natural place of a path with one more name
deeper : (path : PathNames) (name : PathName) → length (child_path path name) ≡ suc (length path)
deeper [] name = refl
deeper (first ∷ path) name = ap suc (deeper path name)

pub natural-child : (m : Merge) (path : PathNames) (name : PathName) → natural m (child_path path name) ≡ child_of (base m path) name
natural-child m path name =
    ap (λ depth. natural_at m depth (child_path path name)) (deeper path name)
    ∙ (λ j. child_of (base_at m (parent_path-child path name j) (natural_at m (length path) (parent_path-child path name j))) (last_name-child path name j))

-- the natural place of a name in a directory, by the directory's base
-- ---- how a redirect is followed

-- the walk goes on at a place, or is closed where there is none
abbrev pub GoesOn : Step → Option PathNames → Type 0
GoesOn step None = step.closed ≡ true
GoesOn step (Some place) = (step.closed ≡ false) × (step.next ≡ place)

-- the walk of a thing of this mark and name in a directory with this walk
abbrev pub entered : Mark → Step → PathName → Option Inode → Step
entered mark step name found = record { found = found; next = next_on mark step.next name; closed = closed_on mark name step.closed }

-- the marks of a directory and of a metacopy file that the layers below have: without a redirect, and with one
abbrev bare_mark : Bool → Mark
bare_mark directory = cond directory DirPlain (Meta None)

abbrev moved_mark : Bool → Redirect → Mark
moved_mark directory redirect = cond directory (DirMoved redirect) (Meta (Some redirect))

-- such a thing's inode before a redirect is written for it
record TakesRedirect (directory : Bool) (inode : Inode) : Type 0 where
  bare : mark_of inode ≡ bare_mark directory
  moved : (value : List ℕ) (redirect : Redirect) → read_redirect value ≡ Some redirect → mark_of (with_value inode redirect_name value) ≡ moved_mark directory redirect

-- one of this mark goes on at the place
abbrev IsRedirected : Bool → Option Inode → Mark → Step → PathName → PathNames → Type 0
IsRedirected directory found mark step own place = (GoesOn (entered mark step own found) (Some place)) × (is_metacopy_mark mark ≡ not directory)

-- it goes on at the place that is written for it
redirected-goes : (directory : Bool) (inode : Inode) (found : Option Inode) (place : PathNames) (own : PathName) (step : Step) (above : Option PathNames) → TakesRedirect directory inode → has_names place ≡ true → is_root place ≡ false
    → IfSome above (λ a. (step.closed ≡ false) × (step.next ≡ a)) → IsRedirected directory found (mark_of (redirected_from above own inode place)) step own place
redirected-goes directory inode found place own step above takes named below goes = by above goes
  where
    -- by the redirect that is there
    anywhere : (d : Bool) → IsRedirected d found (moved_mark d (To place)) step own place
    anywhere true = ((refl, refl), refl)
    anywhere false = ((refl, refl), refl)

    beside : (d : Bool) (name : PathName) → (step.closed ≡ false) × (child_path step.next name ≡ place) → IsRedirected d found (moved_mark d (Beside name)) step own place
    beside true name on = (on, refl)
    beside false name on = (on, refl)

    alone : (d : Bool) → (step.closed ≡ false) × (child_path step.next own ≡ place) → IsRedirected d found (bare_mark d) step own place
    alone true on = (on, refl)
    alone false on = (on, refl)

    At : Inode → Type 0
    At own_inode = IsRedirected directory found (mark_of own_inode) step own place

    as_marked : (mark : Mark) (own_inode : Inode) → mark_of own_inode ≡ mark → IsRedirected directory found mark step own place → At own_inode
    as_marked mark own_inode is on = subst (λ (k : Mark). IsRedirected directory found k step own place) (sym is) on

    moved_to : At (with_value inode redirect_name (path_text place))
    moved_to = as_marked (moved_mark directory (To place)) (with_value inode redirect_name (path_text place)) (takes.moved (path_text place) (To place) (redirect-absolute place named below)) (anywhere directory)

    by : (above : Option PathNames) → IfSome above (λ a. (step.closed ≡ false) × (step.next ≡ a)) → At (redirected_from above own inode place)
    by None goes = moved_to
    by (Some above) goes = test (path_eq place (child_path above own)) refl (path_eq place (child_path above (last_name place))) refl
      where
        written : Bool → Bool → Inode
        written one other = cond one inode (cond other (with_value inode redirect_name (last_name place)) (with_value inode redirect_name (path_text place)))

        there : (name : PathName) → path_eq place (child_path above name) ≡ true → (step.closed ≡ false) × (child_path step.next name ≡ place)
        there name e = (goes.0, ap (λ (p : PathNames). child_path p name) goes.1 ∙ sym ((pointwise_decides bytes_decides place (child_path above name)).0 e))

        test : (one : Bool) → path_eq place (child_path above own) ≡ one → (other : Bool) → path_eq place (child_path above (last_name place)) ≡ other → At (written (path_eq place (child_path above own)) (path_eq place (child_path above (last_name place))))
        test true e other k =
            subst At (ap (λ b. written b (path_eq place (child_path above (last_name place)))) (sym e)) (as_marked (bare_mark directory) inode takes.bare (alone directory (there own e)))
        test false e true k =
            let moved = takes.moved (last_name place) (Beside (last_name place)) (redirect-beside (last_name place) (last_name-named place named below)) in
            subst At (λ j. written (sym e j) (sym k j))
            (as_marked (moved_mark directory (Beside (last_name place))) (with_value inode redirect_name (last_name place)) moved (beside directory (last_name place) (there (last_name place) k)))
        test false e false k = subst At (λ j. written (sym e j) (sym k j)) moved_to

directory-takes : (inode : Inode) → is_directory inode ≡ true → TakesRedirect true (visible inode)
directory-takes inode is = record { bare = mark-plain inode is; moved = λ value redirect reads. mark-moved inode value redirect is reads }

metacopy-takes : (inode : Inode) → is_regular inode ≡ true → TakesRedirect false (with_metacopy inode)
metacopy-takes inode is = record { bare = mark-copied inode is; moved = λ value redirect reads. mark-copied_moved inode value redirect is reads }

-- a plain directory goes on below where its own goes on
plain-goes : (inode : Inode) (found : Option Inode) (own : PathName) (step : Step) (above : Option PathNames) → is_directory inode ≡ true → GoesOn step above → GoesOn (entered (mark_of (visible inode)) step own found) (child_of above own)
plain-goes inode found own step None is goes = λ j. closed_on (mark-plain inode is j) own (goes j)
plain-goes inode found own step (Some above) is goes =
    ((λ j. closed_on (mark-plain inode is j) own (goes.0 j)), (λ j. next_on (mark-plain inode is j) (goes.1 j) own))

opaque-goes : (inode : Inode) (found : Option Inode) (own : PathName) (step : Step) → is_directory inode ≡ true → GoesOn (entered (mark_of (with_value (visible inode) opaque_name (codes "y"))) step own found) None
opaque-goes inode found own step is = ap (λ (k : Mark). closed_on k own step.closed) (mark-opaque inode is)

-- ---- the core

-- neither the old layers nor the new one find anything, with the rest
abbrev pub FindsNothing : Merge → Entries → PathNames → Type 0
FindsNothing m new path = (things_found (whole m).layers path ≡ []) × (things_found (new ∷ m.rest.layers) path ≡ [])

-- both old layers and the new one are passed, and go on at one place
pub record GoesOnAlike (m : Merge) (new : Entries) (path : PathNames) : Type 0 where
  pub old : PassesBoth m path
  pub found : (walk new path).found ≡ None
  pub opened : (walk new path).closed ≡ false
  pub next : (walk new path).next ≡ rest_path m path

-- a shown directory's walk in the new layer goes on at its base; another shown thing is found there;
-- where nothing is shown, nothing is found either way, or the walks go on at one place
pub record Core (m : Merge) (new : Entries) (path : PathNames) : Type 0 where
  pub directory : (inode : Inode) → first_hit m path ≡ Some inode → is_directory inode ≡ true → GoesOn (walk new path) (base m path)
  pub file : (inode : Inode) → first_hit m path ≡ Some inode → is_directory inode ≡ false → (walk new path).found ≡ Some (merged_inode m path inode)
  pub copy : (inode : Inode) → first_hit m path ≡ Some inode → is_metacopy inode ≡ true → (place : PathNames) → reach m path ≡ Some place → (GoesOn (walk new path) (Some place)) × (is_metacopy (merged_inode m path inode) ≡ true)
  pub kept : (inode : Inode) → first_hit m path ≡ Some inode → is_metacopy inode ≡ true → reach m path ≡ None → (place : PathNames) → kept_place m path ≡ Some place → (GoesOn (walk new path) (Some place)) × (mark_of (merged_inode m path inode) ≡ Meta (Some (To place)))
  pub nothing : first_hit m path ≡ None → FindsNothing m new path ⊎ GoesOnAlike m new path

pub record IsShownDirectory (m : Merge) (path : PathNames) : Type 0 where
  pub inode : Inode
  pub hit : first_hit m path ≡ Some inode
  pub directory : is_directory inode ≡ true

any-none : (xs : List Inode) → (any_found xs ≡ true → ⊥) → xs ≡ []
any-none [] empty = refl
any-none (x ∷ xs) empty = absurd (empty refl)

starts-first : (xs : List Inode) (inode : Inode) → first_of xs ≡ Some inode → starts_directory xs ≡ is_directory inode
starts-first xs inode e = ap starts_directory (first-cons xs inode e)

any-first : (xs : List Inode) (inode : Inode) → first_of xs ≡ Some inode → any_found xs ≡ true
any-first xs inode e = ap any_found (first-cons xs inode e)

-- below what is no directory nothing is found
none_below : (layers : List Entries) (path : PathNames) (name : PathName) → All IsLayer layers → starts_directory (things_found layers path) ≡ false → things_found layers (child_path path name) ≡ []
none_below layers path name each none =
    any-none (things_found layers (child_path path name)) (λ any. let bad : false ≡ true = sym none ∙ (child_found layers each path name any).0 in cc)

none_below_nothing : (layers : List Entries) (path : PathNames) (name : PathName) → All IsLayer layers → things_found layers path ≡ [] → things_found layers (child_path path name) ≡ []
none_below_nothing layers path name each none = none_below layers path name each (ap starts_directory none)

-- what a closed walk, and one that finds nothing, find with the layers below
closed-finds : (layer : Entries) (layers : List Entries) (path : PathNames) → (walk layer path).found ≡ None → (walk layer path).closed ≡ true → things_found (layer ∷ layers) path ≡ []
closed-finds layer layers path found closed =
    things_found-step layer layers path ∙ (λ j. cons_option (found j) (cond (closed j) [] (things_found layers (walk layer path).next)))

pub open-finds : (layer : Entries) (layers : List Entries) (path : PathNames) → (walk layer path).found ≡ None → (walk layer path).closed ≡ false → things_found (layer ∷ layers) path ≡ things_found layers (walk layer path).next
open-finds layer layers path found closed =
    things_found-step layer layers path ∙ (λ j. cons_option (found j) (cond (closed j) [] (things_found layers (walk layer path).next)))

pub root_of : (path : PathNames) → is_root path ≡ true → path ≡ []
root_of [] e = refl
root_of (name ∷ names) e = let bad : false ≡ true = e in cc

-- where a path has a reach, that is where its walks go on
pub reach-is : (m : Merge) (path place : PathNames) → reach m path ≡ Some place → place ≡ rest_path m path
reach-is m path place is = by (first_hit m path) is
  where
    at : (b : Bool) → cond b (Some (rest_path m path)) None ≡ Some place → place ≡ rest_path m path
    at true e = let same : rest_path m path ≡ place = cc in sym same
    at false e = let bad : None ≡ Some place = e in cc

    by : (hit : Option Inode) → reach_of m path hit ≡ Some place → place ≡ rest_path m path
    by None e = let bad : None ≡ Some place = e in cc
    by (Some inode) e = at (goes_on m path inode) e

pub base-reach : (m : Merge) (path place : PathNames) → reach m path ≡ Some place → base m path ≡ Some place
base-reach m path place e = λ j. cond (is_some (e j)) (e j) (cond (gets_opaque m path) None (natural m path))

pub base-none : (m : Merge) (path : PathNames) → reach m path ≡ None → base m path ≡ cond (gets_opaque m path) None (natural m path)
base-none m path e = λ j. cond (is_some (e j)) (e j) (cond (gets_opaque m path) None (natural m path))

reach-goes : (m : Merge) (path : PathNames) (step : Step) → GoesOn step (base m path) → IfSome (reach m path) (λ a. (step.closed ≡ false) × (step.next ≡ a))
reach-goes m path step goes = by (reach m path) refl
  where
    by : (o : Option PathNames) → reach m path ≡ o → IfSome o (λ a. (step.closed ≡ false) × (step.next ≡ a))
    by None e = tt
    by (Some place) e = subst (GoesOn step) (base-reach m path place e) goes

redirected-child : (m : Merge) (path : PathNames) (name : PathName) (inode : Inode) (place : PathNames) → redirected m (child_path path name) inode place ≡ redirected_from (reach m path) name inode place
redirected-child m path name inode place =
    ap (λ b. cond b inode (redirected_from (reach m (parent_path (child_path path name))) (last_name (child_path path name)) inode place)) (length-child path name)
    ∙ (λ j. redirected_from (reach m (parent_path-child path name j)) (last_name-child path name j) inode place)

-- the root is shown as a directory
pub root-shown : (m : Merge) → IsLayer m.upper → IsShownDirectory m []
root-shown m upper = by (entry_at m.upper []) refl
  where
    by : (o : Option Inode) → entry_at m.upper [] ≡ o → IsShownDirectory m []
    by None e = let bad : false ≡ true = sym (ap directory_found e) ∙ upper.rooted in cc
    by (Some inode) e = record {
      inode = inode;
      hit = first_hit-steps m [] ∙ ap (λ o. first_step o (walk m.upper []).closed (first_step (walk m.lower (lower_path m [])).found (walk m.lower (lower_path m [])).closed None)) e;
      directory = sym (ap directory_found e) ∙ upper.rooted;
    }

-- a place that is kept has names, and isn't the root; the rest shows nothing there
pub kept-facts : (m : Merge) (path place : PathNames) → kept_place m path ≡ Some place → (list_all is_metacopy (things_found (whole m).layers path) ≡ true) × (last_place (things_found (whole m).layers path) ≡ Some place) × (shows m.rest place ≡ false)
kept-facts m path place k = by (list_all is_metacopy found) refl (last_place found) refl k
  where
    found : List Inode
    found = things_found (whole m).layers path

    shown : (last : PathNames) → (b : Bool) → has_data_alone m last ≡ b → cond b (Some last) None ≡ Some place → (last ≡ place) × (shows m.rest last ≡ false)
    shown last false s e = let bad : None ≡ Some place = e in cc
    shown last true s e =
        let same : last ≡ place = cc in
        (same, not_true (shows m.rest last) (both {a = is_some (full_file_in m.rest.data_only last)} {b = not (shows m.rest last)} s).1)

    by : (b : Bool) → list_all is_metacopy (things_found (whole m).layers path) ≡ b → (o : Option PathNames) → last_place (things_found (whole m).layers path) ≡ o → kept_if_alone m (cond b (last_place (things_found (whole m).layers path)) None) ≡ Some place
        → (list_all is_metacopy (things_found (whole m).layers path) ≡ true) × (last_place (things_found (whole m).layers path) ≡ Some place) × (shows m.rest place ≡ false)
    by false a o l e = let bad : None ≡ Some place = e in cc
    by true a None l e = let bad : None ≡ Some place = sym (ap (kept_if_alone m) l) ∙ e in cc
    by true a (Some last) l e =
        let own = shown last (has_data_alone m last) refl (sym (ap (kept_if_alone m) l) ∙ e) in
        (a, l ∙ ap (λ (p : PathNames). Some p) own.0, ap (shows m.rest) (sym own.0) ∙ own.1)

pub kept-named : (m : Merge) (path place : PathNames) → kept_place m path ≡ Some place → (has_names place ≡ true) × (is_root place ≡ false)
kept-named m path place k = last-named (things_found (whole m).layers path) place (kept-facts m path place k).1

-- one directory is shown at a path
pub one_hit : (m : Merge) (path : PathNames) (inode : Inode) → (d : IsShownDirectory m path) → first_hit m path ≡ Some inode → is_directory inode ≡ true
one_hit m path inode d hit = ap (passes is_directory) (sym hit ∙ d.hit) ∙ d.directory

module _ (m : Merge) (new : Entries) (each : All IsLayer (whole m).layers) (layered : IsLayer new) (is : IsMergedDown m new) where
  upper : IsLayer m.upper
  upper = all-first IsLayer m.upper (m.lower ∷ m.rest.layers) each

  below : All IsLayer (m.lower ∷ m.rest.layers)
  below = all-rest IsLayer m.upper (m.lower ∷ m.rest.layers) each

  lower : IsLayer m.lower
  lower = all-first IsLayer m.lower m.rest.layers below

  rest : All IsLayer m.rest.layers
  rest = all-rest IsLayer m.lower m.rest.layers below

  two : All IsLayer (two_layers m).layers
  two = All-cons IsLayer m.upper (m.lower ∷ []) upper (All-cons IsLayer m.lower [] lower (λ k d inside. absurd (omega arith)))

  with_rest : All IsLayer (new ∷ m.rest.layers)
  with_rest = All-cons IsLayer new m.rest.layers layered rest

  entry-hit : (path : PathNames) (hit : Option Inode) → first_hit m path ≡ hit → entry_at new path ≡ merged_entry_of m path hit
  entry-hit path hit e = is path ∙ ap (merged_entry_of m path) e

  directory-in_new : (path : PathNames) → IsShownDirectory m path → is_directory_at new path ≡ true
  directory-in_new path d = ap directory_found (entry-hit path (Some d.inode) d.hit) ∙ merged-is_directory m path d.inode d.directory

  parent-shown : (path : PathNames) (name : PathName) (inode : Inode) → first_hit m (child_path path name) ≡ Some inode → IsShownDirectory m path
  parent-shown path name inode hit = by (first_hit m path) refl
    where
      found : PathNames → List Inode
      found p = things_found (two_layers m).layers p

      starts : starts_directory (things_found (two_layers m).layers path) ≡ true
      starts =
          (child_found (two_layers m).layers two path name
          (any-first (things_found (two_layers m).layers (child_path path name)) inode (sym (first_of-hits (things_found (two_layers m).layers (child_path path name))) ∙ hit))).0

      by : (o : Option Inode) → first_hit m path ≡ o → IsShownDirectory m path
      by None e =
          let none : things_found (two_layers m).layers path ≡ [] = first-none (things_found (two_layers m).layers path) (sym (first_of-hits (things_found (two_layers m).layers path)) ∙ e) in
          let bad : false ≡ true = sym (ap starts_directory none) ∙ starts in cc
      by (Some i) e = record {
        inode = i;
        hit = e;
        directory = sym (starts-first (things_found (two_layers m).layers path) i (sym (first_of-hits (things_found (two_layers m).layers path)) ∙ e)) ∙ starts;
      }

  place-facts : (path : PathNames) (inode : Inode) → entry_at new path ≡ Some inode → is_root path ≡ false → (has_names (rest_path m path) ≡ true) × (is_root (rest_path m path) ≡ false)
  place-facts path inode here deeper =
      let named : has_names path ≡ true = lookup-all (λ entry. has_names entry.0) path new inode layered.named here in (
        walk-named m.lower (lower_path m path) (walk-named m.upper path named),
        walk-below_root m.lower (lower_path m path) (walk-below_root m.upper path deeper),
      )

  -- ---- a shown directory

  module _ (path : PathNames) (name : PathName) (core : Core m new path) where
    directory-step : (inode : Inode) → first_hit m (child_path path name) ≡ Some inode → is_directory inode ≡ true → GoesOn (walk new (child_path path name)) (base m (child_path path name))
    directory-step inode hit dir = subst (λ (s : Step). GoesOn s (base m (child_path path name))) (sym step) (by (reach m (child_path path name)) refl)
      where
        above : IsShownDirectory m path
        above = parent-shown path name inode hit

        goes : GoesOn (walk new path) (base m path)
        goes = core.directory above.inode above.hit above.directory

        x : Inode
        x = merged_inode m (child_path path name) inode

        here : entry_at new (child_path path name) ≡ Some (merged_inode m (child_path path name) inode)
        here = entry-hit (child_path path name) (Some inode) hit

        found : Option Inode
        found = cond (is_whiteout x) None (Some x)

        step : walk new (child_path path name) ≡ entered (mark_of x) (walk new path) name found
        step = walk-child new path name layered x here

        by : (o : Option PathNames) → reach m (child_path path name) ≡ o → GoesOn (entered (mark_of x) (walk new path) name found) (base m (child_path path name))
        by (Some place) e =
            let at : place ≡ rest_path m (child_path path name) = reach-is m (child_path path name) place e in
            let facts = place-facts (child_path path name) (x) here (length-child path name) in
            let written : x ≡ redirected_from (reach m path) name (visible inode) place =
            merged-directory m (child_path path name) inode dir ∙ (ap (merged_directory m (child_path path name) inode) e ∙ redirected-child m path name (visible inode) place) in
            let goes_there = redirected-goes true (visible inode) found place name (walk new path) (reach m path) (directory-takes inode dir) (ap has_names at ∙ facts.0) (ap is_root at ∙ facts.1) (reach-goes m path (walk new path) goes) in
            subst (GoesOn (entered (mark_of x) (walk new path) name found)) (sym (base-reach m (child_path path name) place e))
            (subst (λ (i : Inode). GoesOn (entered (mark_of i) (walk new path) name found) (Some place)) (sym written) goes_there.0)
        by None e = opaque (gets_opaque m (child_path path name)) refl
          where
            written : x ≡ cond (gets_opaque m (child_path path name)) (with_value (visible inode) opaque_name (codes "y")) (visible inode)
            written = merged-directory m (child_path path name) inode dir ∙ ap (merged_directory m (child_path path name) inode) e

            opaque : (b : Bool) → gets_opaque m (child_path path name) ≡ b → GoesOn (entered (mark_of x) (walk new path) name found) (base m (child_path path name))
            opaque true g =
                subst (GoesOn (entered (mark_of x) (walk new path) name found))
                (sym (base-none m (child_path path name) e ∙ ap (λ b. cond b None (natural m (child_path path name))) g))
                (subst (λ (i : Inode). GoesOn (entered (mark_of i) (walk new path) name found) None) (sym (written ∙ ap (λ b. cond b (with_value (visible inode) opaque_name (codes "y")) (visible inode)) g))
                (opaque-goes inode found name (walk new path) dir))
            opaque false g =
                subst (GoesOn (entered (mark_of x) (walk new path) name found))
                (sym (base-none m (child_path path name) e ∙ (ap (λ b. cond b None (natural m (child_path path name))) g ∙ natural-child m path name)))
                (subst (λ (i : Inode). GoesOn (entered (mark_of i) (walk new path) name found) (child_of (base m path) name)) (sym (written ∙ ap (λ b. cond b (with_value (visible inode) opaque_name (codes "y")) (visible inode)) g))
                (plain-goes inode found name (walk new path) (base m path) dir goes))

    -- the walk of another shown thing
    other-step : (inode : Inode) → first_hit m (child_path path name) ≡ Some inode → is_directory inode ≡ false
        → walk new (child_path path name) ≡ entered (mark_of (merged_inode m (child_path path name) inode)) (walk new path) name (Some (merged_inode m (child_path path name) inode))
    other-step inode hit none =
        let x : Inode = merged_inode m (child_path path name) inode in
        let other = merged-is_other m (child_path path name) inode none hit (hit-no_whiteout m (child_path path name) inode upper lower hit) in
        walk-child new path name layered x (entry-hit (child_path path name) (Some inode) hit)
        ∙ ap (λ b. entered (mark_of x) (walk new path) name (cond b None (Some x))) other.1

    file-step : (inode : Inode) → first_hit m (child_path path name) ≡ Some inode → is_directory inode ≡ false → (walk new (child_path path name)).found ≡ Some (merged_inode m (child_path path name) inode)
    file-step inode hit none = ap (λ (s : Step). s.found) (other-step inode hit none)

    -- a metacopy file with a reach
    copy-step : (inode : Inode) → first_hit m (child_path path name) ≡ Some inode → is_metacopy inode ≡ true → (place : PathNames) → reach m (child_path path name) ≡ Some place → (GoesOn (walk new (child_path path name)) (Some place)) × (is_metacopy (merged_inode m (child_path path name) inode) ≡ true)
    copy-step inode hit meta place e =
        let file = metacopy-file inode meta in
        let regular : is_regular inode ≡ true = (both {a = is_regular inode} {b = has_metacopy inode} file.1).0 in
        let above = parent-shown path name inode hit in
        let goes : GoesOn (walk new path) (base m path) = core.directory above.inode above.hit above.directory in
        let x : Inode = merged_inode m (child_path path name) inode in
        let at : place ≡ rest_path m (child_path path name) = reach-is m (child_path path name) place e in
        let facts = place-facts (child_path path name) x (entry-hit (child_path path name) (Some inode) hit) (length-child path name) in
        let written : x ≡ redirected_from (reach m path) name (with_metacopy inode) place =
        merged-metacopy m (child_path path name) inode file.0 meta ∙ (ap (merged_metacopy m (child_path path name) inode) e ∙ redirected-child m path name (with_metacopy inode) place) in
        let copied = redirected-goes false (with_metacopy inode) (Some x) place name (walk new path) (reach m path) (metacopy-takes inode regular) (ap has_names at ∙ facts.0) (ap is_root at ∙ facts.1) (reach-goes m path (walk new path) goes) in (
          subst (λ (s : Step). GoesOn s (Some place)) (sym (other-step inode hit file.0))
              (subst (λ (i : Inode). GoesOn (entered (mark_of i) (walk new path) name (Some x)) (Some place)) (sym written) copied.0),
          ap is_metacopy written ∙ copied.1,
        )

    -- one without a reach whose data lies in data-only layers
    kept-step : (inode : Inode) → first_hit m (child_path path name) ≡ Some inode → is_metacopy inode ≡ true → reach m (child_path path name) ≡ None → (place : PathNames) → kept_place m (child_path path name) ≡ Some place
        → (GoesOn (walk new (child_path path name)) (Some place)) × (mark_of (merged_inode m (child_path path name) inode) ≡ Meta (Some (To place)))
    kept-step inode hit meta e place k =
        let file = metacopy-file inode meta in
        let regular : is_regular inode ≡ true = (both {a = is_regular inode} {b = has_metacopy inode} file.1).0 in
        let x : Inode = merged_inode m (child_path path name) inode in
        let facts = kept-named m (child_path path name) place k in
        let written : x ≡ with_value (with_metacopy inode) redirect_name (path_text place) =
        merged-metacopy m (child_path path name) inode file.0 meta ∙ (ap (merged_metacopy m (child_path path name) inode) e ∙ ap (unreached_metacopy m (child_path path name) inode) k) in
        let mark : mark_of x ≡ Meta (Some (To place)) = ap mark_of written ∙ mark-copied_moved inode (path_text place) (To place) regular (redirect-absolute place facts.0 facts.1) in (
          subst (λ (s : Step). GoesOn s (Some place)) (sym (other-step inode hit file.0))
              (subst (λ (k : Mark). GoesOn (entered k (walk new path) name (Some x)) (Some place)) (sym mark) (refl, refl)),
          mark,
        )

    -- ---- where nothing is shown

    passed-step : GoesOnAlike m new path → GoesOnAlike m new (child_path path name)
    passed-step alike =
        let old = alike.old in
        let in_upper : walk m.upper (child_path path name) ≡ nothing_found (child_path (lower_path m path) name) false = walk-child_beyond m.upper path name upper old.upper_found old.upper_open in
        let at : lower_path m (child_path path name) ≡ child_path (lower_path m path) name = ap (λ (s : Step). s.next) in_upper in
        let in_lower : walk m.lower (lower_path m (child_path path name)) ≡ nothing_found (child_path (rest_path m path) name) false =
        ap (walk m.lower) at ∙ walk-child_beyond m.lower (lower_path m path) name lower old.lower_found old.lower_open in
        let in_new : walk new (child_path path name) ≡ nothing_found (child_path (walk new path).next name) false = walk-child_beyond new path name layered alike.found alike.opened in
        record {
          old = record {
            upper_found = ap (λ (s : Step). s.found) in_upper;
            upper_open = ap (λ (s : Step). s.closed) in_upper;
            lower_found = ap (λ (s : Step). s.found) in_lower;
            lower_open = ap (λ (s : Step). s.closed) in_lower;
          };
          found = ap (λ (s : Step). s.found) in_new;
          opened = ap (λ (s : Step). s.closed) in_new;
          next = ap (λ (s : Step). s.next) in_new ∙ (ap (λ (p : PathNames). child_path p name) alike.next ∙ sym (ap (λ (s : Step). s.next) in_lower));
        }

    -- below a shown thing that is no directory
    below_file : (inode : Inode) → first_hit m path ≡ Some inode → is_directory inode ≡ false → FindsNothing m new (child_path path name)
    below_file inode hit none = (
      none_below (whole m).layers path name each (starts-first (things_found (whole m).layers path) inode (found-first_hit m path inode hit) ∙ none),
      by (walk-below new path name layered no_directory),
    )
      where
        other : IsOther (merged_inode m path inode)
        other = merged-is_other m path inode none hit (hit-no_whiteout m path inode upper lower hit)

        no_directory : is_directory_at new path ≡ false
        no_directory = ap directory_found (entry-hit path (Some inode) hit) ∙ other.0

        by : Below (walk new path) (walk new (child_path path name)) name → things_found (new ∷ m.rest.layers) (child_path path name) ≡ []
        by (found, inl closed) = closed-finds new m.rest.layers (child_path path name) found closed
        by (found, inr (nothing, same, next)) =
            let bad : None ≡ Some (merged_inode m path inode) = sym nothing ∙ core.file inode hit none in cc

    -- below a shown directory
    module _ (d : IsShownDirectory m path) (none : first_hit m (child_path path name) ≡ None) where
      goes : GoesOn (walk new path) (base m path)
      goes = core.directory d.inode d.hit d.directory

      in_new : is_directory_at new path ≡ true
      in_new = directory-in_new path d

      entry : (b : Bool) → needs_whiteout m (child_path path name) ≡ b → entry_at new (child_path path name) ≡ cond b (Some new_whiteout) None
      entry b w = entry-hit (child_path path name) None none ∙ ap (λ b. cond b (Some new_whiteout) None) w

      -- with no entry in the new layer, its walk goes on as the directory's
      absent : needs_whiteout m (child_path path name) ≡ false → walk new (child_path path name) ≡ nothing_found (child_path (walk new path).next name) (walk new path).closed
      absent w = walk-child_end new path name layered None in_new (entry false w) refl []

      -- the rest finds nothing where no directory is shown above
      rest_none : (place : PathNames) → shows_directory m.rest place ≡ false → things_found m.rest.layers (child_path place name) ≡ []
      rest_none place no_dir =
          any-none (things_found m.rest.layers (child_path place name))
          (λ any. let bad : true ≡ false = sym (ShowsParents-holds m.rest rest place name (shows-found m.rest (child_path place name) ∙ any)) ∙ no_dir in cc)

      rest_unshown : (place : PathNames) → shows m.rest place ≡ false → things_found m.rest.layers place ≡ []
      rest_unshown place not_shown =
          any-none (things_found m.rest.layers place) (λ any. let bad : true ≡ false = sym any ∙ (sym (shows-found m.rest place) ∙ not_shown) in cc)

      -- what the new layer and the rest find there, by where the directory goes on
      new_none : needs_whiteout m (child_path path name) ≡ false → (o : Option PathNames) → base m path ≡ o → (IfSome o (λ place. things_found m.rest.layers (child_path place name) ≡ [])) → things_found (new ∷ m.rest.layers) (child_path path name) ≡ []
      new_none w None b empty =
          let shut : (walk new path).closed ≡ true = subst (GoesOn (walk new path)) b goes in
          closed-finds new m.rest.layers (child_path path name) (ap (λ (s : Step). s.found) (absent w)) (ap (λ (s : Step). s.closed) (absent w) ∙ shut)
      new_none w (Some place) b empty =
          let on : GoesOn (walk new path) (Some place) = subst (GoesOn (walk new path)) b goes in
          open-finds new m.rest.layers (child_path path name) (ap (λ (s : Step). s.found) (absent w)) (ap (λ (s : Step). s.closed) (absent w) ∙ on.0)
          ∙ (ap (things_found m.rest.layers) (ap (λ (s : Step). s.next) (absent w) ∙ ap (λ (p : PathNames). child_path p name) on.1)
          ∙ empty)

      own_directory : shows_own_directory m (parent_path (child_path path name)) ≡ true
      own_directory = ap (shows_own_directory m) (parent_path-child path name) ∙ (ap (passes is_directory) d.hit ∙ d.directory)

      -- hidden
      hidden : is_open m (child_path path name) ≡ false → things_found (whole m).layers (child_path path name) ≡ [] → FindsNothing m new (child_path path name)
      hidden shut empty = (empty, by (needs_whiteout m (child_path path name)) refl)
        where
          needs : needs_whiteout m (child_path path name) ≡ shows_at m.rest (child_of (base m path) name)
          needs =
              (λ j. (is_none (none j) && not (shut j)) && own_directory j && shows_at m.rest (natural m (child_path path name)))
              ∙ ap (shows_at m.rest) (natural-child m path name)

          unshown_place : (o : Option PathNames) → shows_at m.rest (child_of o name) ≡ false → IfSome o (λ place. things_found m.rest.layers (child_path place name) ≡ [])
          unshown_place None e = tt
          unshown_place (Some place) e = rest_unshown (child_path place name) e

          by : (b : Bool) → needs_whiteout m (child_path path name) ≡ b → things_found (new ∷ m.rest.layers) (child_path path name) ≡ []
          by true w =
              let step : walk new (child_path path name) ≡ nothing_found (child_path (walk new path).next name) true =
              walk-child_end new path name layered (Some new_whiteout) in_new (entry true w) refl [] ∙ whiteout-closes new_whiteout (walk new path).next (walk new path).closed name refl in
              closed-finds new m.rest.layers (child_path path name) (ap (λ (s : Step). s.found) step) (ap (λ (s : Step). s.closed) step)
          by false w = new_none w (base m path) refl (unshown_place (base m path) (sym needs ∙ w))

      -- passed by both layers
      module _ (opened : is_open m (child_path path name) ≡ true) (pass : PassesBoth m (child_path path name)) where
        no_whiteout : needs_whiteout m (child_path path name) ≡ false
        no_whiteout = λ j. (is_none (none j) && not (opened j)) && shows_own_directory m (parent_path (child_path path name)) && shows_at m.rest (natural m (child_path path name))

        over_upper : PassesOver m.upper path name
        over_upper = passes-over m.upper path name upper pass.upper_found pass.upper_open

        over_lower : PassesOver m.lower (lower_path m path) name
        over_lower =
            passes-over m.lower (lower_path m path) name lower
            (ap (λ (p : PathNames). (walk m.lower p).found) (sym over_upper.next) ∙ pass.lower_found)
            (ap (λ (p : PathNames). (walk m.lower p).closed) (sym over_upper.next) ∙ pass.lower_open)

        rest_path-child : rest_path m (child_path path name) ≡ child_path (rest_path m path) name
        rest_path-child = ap (λ (p : PathNames). (walk m.lower p).next) over_upper.next ∙ over_lower.next

        -- the directory has a reach
        reached : (place : PathNames) → reach m path ≡ Some place → GoesOnAlike m new (child_path path name)
        reached place e =
            let on : GoesOn (walk new path) (Some place) = subst (GoesOn (walk new path)) (base-reach m path place e) goes in
            record {
              old = pass;
              found = ap (λ (s : Step). s.found) (absent no_whiteout);
              opened = ap (λ (s : Step). s.closed) (absent no_whiteout) ∙ on.0;
              next = ap (λ (s : Step). s.next) (absent no_whiteout) ∙ (ap (λ (p : PathNames). child_path p name) (on.1 ∙ reach-is m path place e) ∙ sym rest_path-child);
            }

        -- it has none: the rest shows no directory where it goes on, either way
        module _ (e : reach m path ≡ None) where
          goes_on-here : goes_on m path d.inode ≡ shows_directory m.rest (rest_path m path)
          goes_on-here =
              λ j. (not (over_upper.opened j) && not (over_lower.opened j))
              && (cond (d.directory j) (over_lower.passed j && shows_directory m.rest (rest_path m path)) (is_metacopy d.inode && is_nothing_or is_metacopy (walk m.lower (lower_path m path)).found && is_shown_regular (look m.rest (rest_path m path))))

          not_on : (b : Bool) → cond b (Some (rest_path m path)) None ≡ None → b ≡ false
          not_on true k = let bad : Some (rest_path m path) ≡ None = k in cc
          not_on false k = refl

          no_directory_there : shows_directory m.rest (rest_path m path) ≡ false
          no_directory_there = sym goes_on-here ∙ not_on (goes_on m path d.inode) (sym (ap (reach_of m path) d.hit) ∙ e)

          -- nor at its natural place, unless it is opaque
          no_directory-natural : gets_opaque m path ≡ false → (place : PathNames) → natural m path ≡ Some place → shows_directory m.rest place ≡ false
          no_directory-natural g place n = by (is_root path) refl
            where
              by : (b : Bool) → is_root path ≡ b → shows_directory m.rest place ≡ false
              by false r =
                  sym (λ j. not (r j) && (ap (passes is_directory) d.hit ∙ d.directory) j && is_none (e j) && shows_directory_at m.rest (n j)) ∙ g
              by true r =
                  let top : path ≡ [] = root_of path r in
                  let same : Some [] ≡ Some place = ap (natural m) (sym top) ∙ n in
                  let at : place ≡ rest_path m [] = sym (let one : ◌≡◌ {A = PathNames} [] place = cc in one) in
                  ap (shows_directory m.rest) (at ∙ ap (rest_path m) (sym top)) ∙ no_directory_there

          unreached : FindsNothing m new (child_path path name)
          unreached = (
            passes-found m (child_path path name) pass ∙ (ap (things_found m.rest.layers) rest_path-child ∙ rest_none (rest_path m path) no_directory_there),
            by (gets_opaque m path) refl (natural m path) refl,
          )
            where
              by : (b : Bool) → gets_opaque m path ≡ b → (o : Option PathNames) → natural m path ≡ o → things_found (new ∷ m.rest.layers) (child_path path name) ≡ []
              by true g o n = new_none no_whiteout None (base-none m path e ∙ ap (λ b. cond b None (natural m path)) g) tt
              by false g None n = new_none no_whiteout None (base-none m path e ∙ (λ j. cond (g j) None (n j))) tt
              by false g (Some place) n = new_none no_whiteout (Some place) (base-none m path e ∙ (λ j. cond (g j) None (n j))) (rest_none place (no_directory-natural g place n))

        passed : FindsNothing m new (child_path path name) ⊎ GoesOnAlike m new (child_path path name)
        passed = by (reach m path) refl
          where
            by : (o : Option PathNames) → reach m path ≡ o → FindsNothing m new (child_path path name) ⊎ GoesOnAlike m new (child_path path name)
            by None e = inl (unreached e)
            by (Some place) e = inr (reached place e)

      below_directory : FindsNothing m new (child_path path name) ⊎ GoesOnAlike m new (child_path path name)
      below_directory = by (unshown m (child_path path name) none)
        where
          by : ((is_open m (child_path path name) ≡ true) × PassesBoth m (child_path path name)) ⊎ ((is_open m (child_path path name) ≡ false) × (things_found (whole m).layers (child_path path name) ≡ [])) → FindsNothing m new (child_path path name) ⊎ GoesOnAlike m new (child_path path name)
          by (inl (opened, pass)) = passed opened pass
          by (inr (shut, empty)) = inl (hidden shut empty)

    nothing-step : first_hit m (child_path path name) ≡ None → FindsNothing m new (child_path path name) ⊎ GoesOnAlike m new (child_path path name)
    nothing-step none = by (first_hit m path) refl
      where
        later : FindsNothing m new path ⊎ GoesOnAlike m new path → FindsNothing m new (child_path path name) ⊎ GoesOnAlike m new (child_path path name)
        later (inl (old, fresh)) = inl (none_below_nothing (whole m).layers path name each old, none_below_nothing (new ∷ m.rest.layers) path name with_rest fresh)
        later (inr alike) = inr (passed-step alike)

        by : (o : Option Inode) → first_hit m path ≡ o → FindsNothing m new (child_path path name) ⊎ GoesOnAlike m new (child_path path name)
        by None e = later (core.nothing e)
        by (Some inode) e = at (is_directory inode) refl
          where
            at : (b : Bool) → is_directory inode ≡ b → FindsNothing m new (child_path path name) ⊎ GoesOnAlike m new (child_path path name)
            at true k = below_directory (record { inode = inode; hit = e; directory = k }) none
            at false k = inl (below_file inode e k)

    core-step : Core m new (child_path path name)
    core-step = record { directory = directory-step; file = file-step; copy = copy-step; kept = kept-step; nothing = nothing-step }

  -- ---- the root, and all paths

  core-root : Core m new []
  core-root = record {
    directory = λ inode hit dir. by (reach m []) refl;
    file = λ inode hit none. let bad : true ≡ false = sym (one_hit m [] inode (root-shown m upper) hit) ∙ none in cc;
    copy = λ inode hit meta place e. let bad : true ≡ false = sym (one_hit m [] inode (root-shown m upper) hit) ∙ (metacopy-file inode meta).0 in cc;
    kept = λ inode hit meta e place k. let bad : true ≡ false = sym (one_hit m [] inode (root-shown m upper) hit) ∙ (metacopy-file inode meta).0 in cc;
    nothing = λ none. let bad : Some (root-shown m upper).inode ≡ None = sym (root-shown m upper).hit ∙ none in cc;
  }
    where
      by : (o : Option PathNames) → reach m [] ≡ o → GoesOn (walk new []) (base m [])
      by None e = subst (GoesOn (walk new [])) (sym (base-none m [] e)) (refl, refl)
      by (Some place) e = subst (GoesOn (walk new [])) (sym (base-reach m [] place e)) (refl, sym (reach-is m [] place e))

  pub merge-core : (path : PathNames) → Core m new path
  merge-core = by_child (Core m new) core-root core-step
