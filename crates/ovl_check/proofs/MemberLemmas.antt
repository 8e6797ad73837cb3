-- What is found along the walk of a layer is what its definition says.
use Rattle.std.proofs.Common.{◌≡◌, ℕ, inl, inr, Bool, true, false, cond, Option, Some, None, List, [], ◌∷◌, ◌++◌, refl, sym, ap, ◌∙◌, subst, append-nil, append_assoc}
use Rattle.std.specs.Prelude.{◌&&◌, ◌||◌, not, filter}
use Rattle.std.specs.List.{list_any, flat_map, All}
use Rattle.std.specs.Ordering.{is_lt, ordering_then, nat_cmp}
use Rattle.std.specs.declared.cmp.Ordering.TheVariants.{Less}
use Rattle.std.proofs.Math.Bool.{or-true}
use Rattle.std.proofs.lemmas.Cmp.{tied_itself, nat_cmp_total}
use Rattle.std.specs.Cmp.Lexicographic.{nat_list_cmp_total, lists_total}
use Rattle.ovl_names.specs.Names.{PathName}
use Rattle.ovl_names.specs.Paths.{PathNames, child_path, path_eq, path_cmp}
use Rattle.ovl_names.proofs.Ascending.{both, not_true, is_lt-Less}
use Rattle.ovl_inode.specs.declared.inodes.Inode.{Inode}
use Rattle.ovl_inode.specs.declared.marks.Mark.{Mark}
use Rattle.ovl_inode.specs.Marks.{mark_of, is_directory, is_whiteout, is_regular, has_opaque, has_metacopy, redirect_reading, directory_mark, metacopy_mark}
use Rattle.ovl_inode.specs.declared.marks.Mark.TheVariants.{Whiteout, DirOpaque, Leaf}
use Rattle.ovl_inode.specs.declared.marks.Redirect.{Redirect}
use Rattle.ovl_inode.specs.Attributes.{attribute, redirect_name}
use Rattle.ovl_inode.specs.Redirects.{read_redirect}
use Rattle.ovl_layer.specs.Layers.{Entries, Entry, IsLayer, entry_at, entry_cmp, is_directory_at, names_below, has_parent}
use Rattle.ovl_lookup.specs.Stacks.{all_layers}
use Rattle.ovl_lookup.specs.Walk.{walk, mark_at}
use Rattle.ovl_lookup.specs.Sound.{is_moved, goes_on_there, redirect_is_double}
use Rattle.ovl_lookup.proofs.LawsOfWalks.{directory-above, names_below-has, parent-directory}
use Rattle.ovl_board.specs.declared.pieces.Piece.{Piece}
use Rattle.ovl_board.specs.Pieces.{piece_at, space_root, piece_in, IsBefore}
use Rattle.ovl_board.specs.Walks.{Reached, start, next, ToKid}
use Rattle.ovl_board.specs.Parcels.{IsPlain, pieces_of, own_view}
use Rattle.ovl_board.proofs.LawsOfPieces.{path_eq_decides, snoc_view, piece_eq}
use Rattle.ovl_board.proofs.LawsOfMembers.{In, Rises, In-left, In-right, In-cases, In-map, In-map-cases, In-flat_map, In-flat_map-cases, In-Contains, Contains-In, Every-All, Rises-AllPairs, In-filter-cases}
use Rattle.ovl_check.specs.declared.findings.Finding.{Finding}
use Rattle.ovl_check.specs.declared.findings.Code.{Code}
use Rattle.ovl_check.specs.declared.findings.Code.TheVariants.{RedirectDouble}
use Rattle.ovl_check.specs.Codes.{all_codes, is_double, is_blob_fault}
use Rattle.ovl_check.specs.Findings.{finding, any_code}
use Rattle.ovl_check.specs.Contents.{holds_of_contents as holds, findings_of_contents_at as findings_at, findings_of_contents_in as findings_in}
use Rattle.ovl_check.specs.Checks.{CheckView, CheckSeen, is_ordinary, sought_in, layer_at, layers_below, check_kids, check_out, holds_alone, findings_alone, findings_at_path, directory_findings, no_seen}
use Rattle.ovl_check.specs.Walks.{View, doubles_after, found_along}
use Rattle.ovl_blobs.proofs.Ascent.{In-filter, less_never, list_all-Every}
use Rattle.ovl_blobs.proofs.Plain.{own-view, has-view}
use Rattle.ovl_blobs.proofs.BlobLemmas.{any-In}
use Rattle.ovl_check.proofs.LayerFacts.{kid-directory, layer-ascends}
use Rattle.ovl_check.proofs.DoubleLemmas.{ViewBefore, doubles-cases, doubles-In}

-- ---- entries and what is at their paths

entry-In : (layer : Entries) (path : PathNames) (inode : Inode) → entry_at layer path ≡ Some inode → In (path, inode) layer
entry-In [] path inode here = let bad : None ≡ Some inode = here in cc
entry-In (entry ∷ layer) path inode here = by (entry-In layer path inode) (path_eq path entry.0) refl here
  where
    by : (entry_at layer path ≡ Some inode → In (path, inode) layer) → (b : Bool) → path_eq path entry.0 ≡ b → cond b (Some entry.1) (entry_at layer path) ≡ Some inode → In (path, inode) (entry ∷ layer)
    by later true e here =
        let same : entry.1 ≡ inode = ap (λ (o : Option Inode). elim o as (λ _. Inode) [ Some i ↦ i | None ↦ inode ]) here in
        inl (λ j. ((path_eq_decides path entry.0).0 e j, sym same j))
    by later false e here = inr (later here)

In-entry : (layer : Entries) (path : PathNames) (inode : Inode) → Rises (λ a b. entry_cmp a b ≡ Less) layer → In (path, inode) layer → entry_at layer path ≡ Some inode
In-entry [] path inode up h = absurd h
In-entry (entry ∷ layer) path inode up (inl e) =
    ap (λ b. cond b (Some entry.1) (entry_at layer path)) ((path_eq_decides path entry.0).1 (ap (λ (x : Entry). x.0) e)) ∙ ap (λ (x : Entry). Some x.1) (sym e)
In-entry (entry ∷ layer) path inode up (inr h) = by (In-entry layer path inode up.1 h) (path_eq path entry.0) refl
  where
    by : entry_at layer path ≡ Some inode → (b : Bool) → path_eq path entry.0 ≡ b → cond b (Some entry.1) (entry_at layer path) ≡ Some inode
    by later true e = absurd (less_never (lists_total nat_list_cmp_total) path (subst (λ (p : PathNames). path_cmp p path ≡ Less) (sym ((path_eq_decides path entry.0).0 e)) (up.0 (path, inode) h)))
    by later false e = later

any-some : {X : Type 0} (test : X → Bool) (xs : List X) → list_any test xs ≡ true → (x : X) × (In x xs × (test x ≡ true))
any-some test [] is = let bad : false ≡ true = is in cc
any-some {X} test (y ∷ xs) is = by (any-some test xs) (test y) refl is
  where
    by : (list_any test xs ≡ true → (x : X) × (In x xs × (test x ≡ true))) → (b : Bool) → test y ≡ b → (b || list_any test xs) ≡ true → (x : X) × (In x (y ∷ xs) × (test x ≡ true))
    by later true e is = (y, (inl refl, e))
    by later false e is = let r = later is in (r.0, (inr r.1.0, r.1.1))

some-any : {X : Type 0} (test : X → Bool) (x : X) (xs : List X) → In x xs → test x ≡ true → list_any test xs ≡ true
some-any test x [] h is = absurd h
some-any test x (y ∷ xs) (inl e) is = ap (λ b. b || list_any test xs) (ap test (sym e) ∙ is)
some-any test x (y ∷ xs) (inr h) is = ap (λ b. test y || b) (some-any test x xs h is) ∙ or-true (test y)

double-code : (code : Code) → is_double code ≡ true → code ≡ RedirectDouble
double-code RedirectDouble is = refl
double-code _ is = let bad : false ≡ true = is in cc

before-path : (p q : Piece) → p.space ≡ q.space → IsBefore p q → path_cmp p.dir q.dir ≡ Less
before-path p q same before = sym (ap (λ o. ordering_then o (path_cmp p.dir q.dir)) (ap (nat_cmp p.space) (sym same) ∙ tied_itself nat_cmp_total p.space)) ∙ before

-- however its `redirect` reads, a metacopy file's mark is that of no moved directory
metacopy_mark-still : (inode : Inode) → is_moved (Some (metacopy_mark (redirect_reading inode))) ≡ false
metacopy_mark-still inode = by (attribute inode.attrs redirect_name) refl
  where
    said : (value : List ℕ) → attribute inode.attrs redirect_name ≡ Some value → (redirect : Option Redirect) → read_redirect value ≡ redirect → is_moved (Some (metacopy_mark (redirect_reading inode))) ≡ false
    said value e None f = rw (e, redirect_reading) (rw f refl)
    said value e (Some redirect) f = rw (e, redirect_reading) (rw f refl)

    by : (found : Option (List ℕ)) → attribute inode.attrs redirect_name ≡ found → is_moved (Some (metacopy_mark (redirect_reading inode))) ≡ false
    by None e = rw (e, redirect_reading) refl
    by (Some value) e = said value e (read_redirect value) refl

-- a moved directory is one
moved_cases : (whiteout directory opaque file : Bool) (of_directory of_file : Mark) → is_moved (Some of_file) ≡ false → is_moved (Some (cond whiteout Whiteout (cond (directory && opaque) DirOpaque (cond directory of_directory (cond file of_file Leaf))))) ≡ true → directory ≡ true
moved_cases true directory opaque file of_directory of_file still is = let bad : false ≡ true = is in cc
moved_cases false true opaque file of_directory of_file still is = refl
moved_cases false false opaque true of_directory of_file still is = let bad : false ≡ true = sym still ∙ is in cc
moved_cases false false opaque false of_directory of_file still is = let bad : false ≡ true = is in cc

moved-directory : (layer : Entries) (path : PathNames) (inode : Inode) → entry_at layer path ≡ Some inode → is_moved (mark_at layer path) ≡ true → is_directory_at layer path ≡ true
moved-directory layer [] inode here is = let bad : false ≡ true = is in cc
moved-directory layer (name ∷ names) inode here is =
    ap (λ (o : Option Inode). elim o as (λ _. Bool) [ Some n ↦ is_directory n | None ↦ false ]) here
    ∙ moved_cases (is_whiteout inode) (is_directory inode) (has_opaque inode) (is_regular inode && has_metacopy inode)
    (directory_mark (redirect_reading inode)) (metacopy_mark (redirect_reading inode)) (metacopy_mark-still inode)
    (sym (ap (λ (o : Option Inode). is_moved (elim o as (λ _. Option Mark) [ Some n ↦ Some (mark_of n) | None ↦ None ])) here) ∙ is)

module _ (work : CheckView) (each : All IsLayer (all_layers work.stack)) (i : ℕ) (is_layer : IsLayer (layer_at work.stack i)) where
  abbrev layer : Entries
  layer = layer_at work.stack i

  abbrev ordinary : Bool
  ordinary = is_ordinary work.stack i

  abbrev sought : Code → Bool
  sought = sought_in work.stack i

  -- a code is sought in the layer, and its condition holds
  abbrev stands : Entry → Code → Bool
  stands entry code = sought code && holds work.contents layer (layers_below work.stack i) entry code

  abbrev found_here : List Finding
  found_here = findings_in sought work.contents i layer (layers_below work.stack i)

  -- doubles are sought only in layers that aren't data-only
  double-sought : sought RedirectDouble ≡ true → ordinary ≡ true
  double-sought = by ordinary
    where
      by : (b : Bool) → (cond b any_code is_blob_fault) RedirectDouble ≡ true → b ≡ true
      by true is = refl
      by false is = let bad : false ≡ true = is in cc

  -- each directory is reached, and what is reached is of this layer
  kid-step : (d : PathNames) (name : PathName) → is_directory_at layer (child_path d name) ≡ true → ToKid (check_kids work) (piece_at i d) (piece_at i (child_path d name))
  kid-step d name is = by (entry_at layer (child_path d name)) refl is
    where
      by : (o : Option Inode) → entry_at layer (child_path d name) ≡ o → elim o as (λ _. Bool) [ Some inode ↦ is_directory inode | None ↦ false ] ≡ true → ToKid (check_kids work) (piece_at i d) (piece_at i (child_path d name))
      by None e h = let bad : false ≡ true = h in cc
      by (Some inode) e h =
          Contains-In (piece_at i (child_path d name)) (check_kids work (piece_at i d))
          (In-map (piece_in (piece_at i d)) name (filter (λ n. is_directory_at layer (child_path d n)) (names_below layer d))
          (In-filter (λ n. is_directory_at layer (child_path d n)) name (names_below layer d) (any-In name (names_below layer d) (names_below-has layer d name inode e)) is))

  reach-under : (d rest : PathNames) → Reached (ToKid (check_kids work)) (space_root i) (piece_at i d) → is_directory_at layer (d ++ rest) ≡ true → Reached (ToKid (check_kids work)) (space_root i) (piece_at i (d ++ rest))
  reach-under d [] r is = subst (λ (p : PathNames). Reached (ToKid (check_kids work)) (space_root i) (piece_at i p)) (sym (append-nil d)) r
  reach-under d (n ∷ rest) r is =
      let under : is_directory_at layer (child_path d n ++ rest) ≡ true = ap (is_directory_at layer) (append_assoc d (n ∷ []) rest) ∙ is in
      subst (λ (p : PathNames). Reached (ToKid (check_kids work)) (space_root i) (piece_at i p)) (append_assoc d (n ∷ []) rest)
      (reach-under (child_path d n) rest (next r (kid-step d n (directory-above layer (child_path d n) rest is_layer under))) under)

  reached-space : (p : Piece) → Reached (ToKid (check_kids work)) (space_root i) p → p.space ≡ i
  reached-space _ start = refl
  reached-space _ (next {p = p} {q = q} r s) =
      let kid = kid-directory work each p q (In-Contains q (check_kids work p) s) in
      ap (λ (x : Piece). x.space) kid.1.1.1 ∙ reached-space p r

  -- ---- findings at one path

  at-path-sound : (path : PathNames) (f : Finding) → In f (findings_at_path work i path) → In f found_here
  at-path-sound path f h = by (entry_at layer path) refl h
    where
      by : (o : Option Inode) → entry_at layer path ≡ o → In f (elim o as (λ _. List Finding) [ Some inode ↦ findings_alone work i (path, inode) | None ↦ [] ]) → In f found_here
      by None e k = absurd k
      by (Some inode) e k =
          let one = In-map-cases (finding i path) f (filter (holds_alone work i (path, inode)) all_codes) k in
          let passes = In-filter-cases (holds_alone work i (path, inode)) one.0 all_codes one.1.0 in
          let parts = both {a = not (is_double one.0)} {b = stands (path, inode) one.0} passes.1 in
          In-flat_map (findings_at sought work.contents i layer (layers_below work.stack i)) f (path, inode) layer (entry-In layer path inode e)
          (subst (λ (x : Finding). In x (findings_at sought work.contents i layer (layers_below work.stack i) (path, inode))) (sym one.1.1)
          (In-map (finding i path) one.0 (filter (stands (path, inode)) all_codes)
          (In-filter (stands (path, inode)) one.0 all_codes passes.0 parts.1)))

  at-path-whole : (path : PathNames) (inode : Inode) (code : Code) → entry_at layer path ≡ Some inode → In code all_codes → is_double code ≡ false → stands (path, inode) code ≡ true → In (finding i path code) (findings_at_path work i path)
  at-path-whole path inode code here listed single is =
      subst (λ (o : Option Inode). In (finding i path code) (elim o as (λ _. List Finding) [ Some n ↦ findings_alone work i (path, n) | None ↦ [] ])) (sym here)
      (In-map (finding i path) code (filter (holds_alone work i (path, inode)) all_codes)
      (In-filter (holds_alone work i (path, inode)) code all_codes listed (λ j. not (single j) && is j)))

  module _ (views : List View) (plain : IsPlain (check_kids work) (check_out work) (space_root i) views) where
    view-own : (v : View) → In v views → v ≡ own_view (check_kids work) (check_out work) v.piece
    view-own v h = own-view (check_kids work) (check_out work) views plain.own v h

    view-space : (v : View) → In v views → v.piece.space ≡ i
    view-space v h = reached-space v.piece (Every-All (Reached (ToKid (check_kids work)) (space_root i)) (pieces_of views) plain.walk.reached v.piece (In-map (λ (w : View). w.piece) v views h))

    directory-view : (d : PathNames) → is_directory_at layer d ≡ true → In (own_view (check_kids work) (check_out work) (piece_at i d)) views
    directory-view d is = has-view (check_kids work) (check_out work) (space_root i) views plain (piece_at i d) (reach-under [] d start is)

    views-rise : Rises ViewBefore views
    views-rise = unmap views (Rises-AllPairs IsBefore (pieces_of views) plain.walk.ascend)
      where
        unmap : (vs : List View) → Rises IsBefore (pieces_of vs) → Rises ViewBefore vs
        unmap [] up = tt
        unmap (v ∷ vs) up = ((λ w h. up.0 w.piece (In-map (λ (x : View). x.piece) w vs h)), unmap vs up.1)

    -- what is seen of a view, at its path in this layer
    seen-at : (v : View) → In v views → v.seen ≡ check_out work (piece_at i v.piece.dir)
    seen-at v h =
        ap (λ (w : View). w.seen) (view-own v h)
        ∙ ap (check_out work) (piece_eq v.piece (piece_at i v.piece.dir) (view-space v h) refl)

    -- ---- the outputs

    out-sound : (d : PathNames) (f : Finding) → In f (check_out work (piece_at i d)).findings → In f found_here
    out-sound d f h = by (is_directory_at layer d) h
      where
        by : (b : Bool) → In f (cond b (record { findings = directory_findings work i d; place = cond (not ordinary || (walk layer d).closed) None (Some (walk layer d).next); moved = ordinary && is_moved (mark_at layer d) }) no_seen).findings → In f found_here
        by false k = absurd k
        by true k =
            let files = filter (λ name. not (is_directory_at layer (child_path d name))) (names_below layer d) in
            elim (In-cases f (findings_at_path work i d) (flat_map (λ name. findings_at_path work i (child_path d name)) files) k) [
              | inl own ↦ at-path-sound d f own
              | inr below ↦ let one = In-flat_map-cases (λ name. findings_at_path work i (child_path d name)) f files below in at-path-sound (child_path d one.0) f one.2
            ]

    outputs-sound : (f : Finding) → In f (flat_map (λ (v : View). v.seen.findings) views) → In f found_here
    outputs-sound f h =
        let v = In-flat_map-cases (λ (w : View). w.seen.findings) f views h in
        out-sound v.0.piece.dir f (subst (λ (s : CheckSeen). In f s.findings) (seen-at v.0 v.1) v.2)

    directory-In : (d : PathNames) (f : Finding) → is_directory_at layer d ≡ true → In f (directory_findings work i d) → In f (flat_map (λ (v : View). v.seen.findings) views)
    directory-In d f is h =
        In-flat_map (λ (v : View). v.seen.findings) f (own_view (check_kids work) (check_out work) (piece_at i d)) views (directory-view d is)
        (subst (λ b. In f (cond b (record { findings = directory_findings work i d; place = cond (not ordinary || (walk layer d).closed) None (Some (walk layer d).next); moved = ordinary && is_moved (mark_at layer d) }) no_seen).findings) (sym is) h)

    -- ---- doubles

    abbrev seen_of : PathNames → Bool → Bool → Bool → CheckSeen
    seen_of d b o closed = cond b (record { findings = directory_findings work i d; place = cond (not o || closed) None (Some (walk layer d).next); moved = o && is_moved (mark_at layer d) }) no_seen

    out-place : (d q : PathNames) → (check_out work (piece_at i d)).place ≡ Some q → (is_directory_at layer d ≡ true) × (((walk layer d).closed ≡ false) × (((walk layer d).next ≡ q) × (((check_out work (piece_at i d)).moved ≡ is_moved (mark_at layer d)) × (ordinary ≡ true))))
    out-place d q is = by (is_directory_at layer d) refl ordinary refl (walk layer d).closed refl is
      where
        by : (b : Bool) → is_directory_at layer d ≡ b → (o : Bool) → ordinary ≡ o → (c : Bool) → (walk layer d).closed ≡ c → (seen_of d b o c).place ≡ Some q → (is_directory_at layer d ≡ true) × (((walk layer d).closed ≡ false) × (((walk layer d).next ≡ q) × (((seen_of d (is_directory_at layer d) ordinary (walk layer d).closed).moved ≡ is_moved (mark_at layer d)) × (ordinary ≡ true))))
        by false e o h c k is = let bad : None ≡ Some q = is in cc
        by true e false h c k is = let bad : None ≡ Some q = is in cc
        by true e true h true k is = let bad : None ≡ Some q = is in cc
        by true e true h false k is = (e, (k, (ap (λ (o : Option PathNames). elim o as (λ _. PathNames) [ Some p ↦ p | None ↦ q ]) is, ((λ j. (seen_of d (e j) (h j) (walk layer d).closed).moved), h))))

    place-out : (d : PathNames) → is_directory_at layer d ≡ true → ordinary ≡ true → (walk layer d).closed ≡ false → ((check_out work (piece_at i d)).place ≡ Some (walk layer d).next) × ((check_out work (piece_at i d)).moved ≡ is_moved (mark_at layer d))
    place-out d is own opened = ((λ j. (seen_of d (is j) (own j) (opened j)).place), (λ j. (seen_of d (is j) (own j) (walk layer d).closed).moved))

    entry-of : (d : PathNames) → is_directory_at layer d ≡ true → (inode : Inode) × ((entry_at layer d ≡ Some inode) × (is_directory inode ≡ true))
    entry-of d is = by (entry_at layer d) refl is
      where
        by : (o : Option Inode) → entry_at layer d ≡ o → elim o as (λ _. Bool) [ Some inode ↦ is_directory inode | None ↦ false ] ≡ true → (inode : Inode) × ((entry_at layer d ≡ Some inode) × (is_directory inode ≡ true))
        by None e h = let bad : false ≡ true = h in cc
        by (Some inode) e h = (inode, (e, h))

    double-listed : In RedirectDouble all_codes
    double-listed = inr (inr (inr (inl refl)))

    double-found : (v w : View) (q : PathNames) → In v views → In w views → v.seen.moved ≡ true → v.seen.place ≡ Some q → w.seen.place ≡ Some q → ViewBefore w v → In (finding v.piece.space v.piece.dir RedirectDouble) found_here
    double-found v w q h k moved goes_on other_goes before =
        let d = v.piece.dir in
        let e = w.piece.dir in
        let mine = out-place d q (sym (ap (λ (s : CheckSeen). s.place) (seen-at v h)) ∙ goes_on) in
        let other = out-place e q (sym (ap (λ (s : CheckSeen). s.place) (seen-at w k)) ∙ other_goes) in
        let own = entry-of d mine.0 in
        let earlier = entry-of e other.0 in
        let is_before = before-path w.piece v.piece (view-space w k ∙ sym (view-space v h)) before in
        let there : goes_on_there layer d (e, earlier.0) ≡ true = (λ j. ((earlier.1.1 j && is_lt (is_before j)) && not (other.1.0 j)) && ((path_eq_decides (walk layer e).next (walk layer d).next).1 (other.1.1.0 ∙ sym mine.1.1.0)) j) in
        let any : list_any (goes_on_there layer d) layer ≡ true = some-any (goes_on_there layer d) (e, earlier.0) layer (entry-In layer e earlier.0 earlier.1.0) there in
        let is_moved_there : is_moved (mark_at layer d) ≡ true = sym mine.1.1.1.0 ∙ (sym (ap (λ (s : CheckSeen). s.moved) (seen-at v h)) ∙ moved) in
        let is : stands (d, own.0) RedirectDouble ≡ true = (λ j. (cond (mine.1.1.1.1 j) any_code is_blob_fault) RedirectDouble && ((is_moved_there j && not (mine.1.0 j)) && any j)) in
        let f : In (finding i d RedirectDouble) found_here = In-flat_map (findings_at sought work.contents i layer (layers_below work.stack i)) (finding i d RedirectDouble) (d, own.0) layer (entry-In layer d own.0 own.1.0)
        (In-map (finding i d) RedirectDouble (filter (stands (d, own.0)) all_codes)
        (In-filter (stands (d, own.0)) RedirectDouble all_codes double-listed is)) in
        subst (λ (s : ℕ). In (finding s d RedirectDouble) found_here) (sym (view-space v h)) f

    doubles-sound : (f : Finding) → In f (doubles_after [] views) → In f found_here
    doubles-sound f h =
        let r = doubles-cases [] views f views-rise h in
        elim r.earlier [
          | inl none ↦ absurd none
          | inr w ↦ subst (λ (g : Finding). In g found_here) (sym r.is) (double-found r.view w.0 r.place r.there w.1.0 r.moved r.goes_on w.1.1.0 w.1.1.1)
        ]

    doubles-whole : (d : PathNames) → is_directory_at layer d ≡ true → ordinary ≡ true → redirect_is_double layer d ≡ true → In (finding i d RedirectDouble) (doubles_after [] views)
    doubles-whole d is own double =
        let one = both {a = is_moved (mark_at layer d) && not (walk layer d).closed} {b = list_any (goes_on_there layer d) layer} double in
        let two = both {a = is_moved (mark_at layer d)} {b = not (walk layer d).closed} one.0 in
        let other = any-some (goes_on_there layer d) layer one.1 in
        let e = other.0.0 in
        let a = both {a = (is_directory other.0.1 && is_lt (path_cmp e d)) && not (walk layer e).closed} {b = path_eq (walk layer e).next (walk layer d).next} other.1.1 in
        let b = both {a = is_directory other.0.1 && is_lt (path_cmp e d)} {b = not (walk layer e).closed} a.0 in
        let c = both {a = is_directory other.0.1} {b = is_lt (path_cmp e d)} b.0 in
        let e_here = In-entry layer e other.0.1 (layer-ascends work each i) other.1.0 in
        let e_is : is_directory_at layer e ≡ true = ap (λ (o : Option Inode). elim o as (λ _. Bool) [ Some inode ↦ is_directory inode | None ↦ false ]) e_here ∙ c.0 in
        let mine = place-out d is own (not_true (walk layer d).closed two.1) in
        let theirs = place-out e e_is own (not_true (walk layer e).closed b.1) in
        let v = own_view (check_kids work) (check_out work) (piece_at i d) in
        let w = own_view (check_kids work) (check_out work) (piece_at i e) in
        let before : IsBefore (piece_at i e) (piece_at i d) = ap (λ o. ordering_then o (path_cmp e d)) (tied_itself nat_cmp_total i) ∙ is_lt-Less (path_cmp e d) c.1 in
        doubles-In [] views v (walk layer d).next views-rise (directory-view d is) mine.0 (mine.1 ∙ two.0)
        (inr (w, (directory-view e e_is, (theirs.0 ∙ ap Some ((path_eq_decides (walk layer e).next (walk layer d).next).0 a.1), before))))

    -- ---- all of them

    pub along-sound : (f : Finding) → In f (found_along views) → In f found_here
    along-sound f h = elim (In-cases f (doubles_after [] views) (flat_map (λ (v : View). v.seen.findings) views) h) [
      | inl double ↦ doubles-sound f double
      | inr out ↦ outputs-sound f out
    ]

    file-In : (d : PathNames) (name : PathName) (inode : Inode) (f : Finding) → entry_at layer (child_path d name) ≡ Some inode → is_directory_at layer (child_path d name) ≡ false → is_directory_at layer d ≡ true → In f (findings_at_path work i (child_path d name)) → In f (flat_map (λ (v : View). v.seen.findings) views)
    file-In d name inode f here file parent h =
        let files = filter (λ n. not (is_directory_at layer (child_path d n))) (names_below layer d) in
        directory-In d f parent
        (In-right f (findings_at_path work i d) (flat_map (λ n. findings_at_path work i (child_path d n)) files)
        (In-flat_map (λ n. findings_at_path work i (child_path d n)) f name files
        (In-filter (λ n. not (is_directory_at layer (child_path d n))) name (names_below layer d) (any-In name (names_below layer d) (names_below-has layer d name inode here)) (ap not file)) h))

    own-In : (d : PathNames) (f : Finding) → is_directory_at layer d ≡ true → In f (findings_at_path work i d) → In f (flat_map (λ (v : View). v.seen.findings) views)
    own-In d f is h =
        directory-In d f is
        (In-left f (findings_at_path work i d) (flat_map (λ n. findings_at_path work i (child_path d n)) (filter (λ n. not (is_directory_at layer (child_path d n))) (names_below layer d))) h)

    pub along-whole : (f : Finding) → In f found_here → In f (found_along views)
    along-whole f h =
        let e = In-flat_map-cases (findings_at sought work.contents i layer (layers_below work.stack i)) f layer h in
        let path = e.0.0 in
        let inode = e.0.1 in
        let code = In-map-cases (finding i path) f (filter (stands e.0) all_codes) e.2 in
        let passes = In-filter-cases (stands e.0) code.0 all_codes code.1.0 in
        let here = In-entry layer path inode (layer-ascends work each i) e.1 in
        subst (λ (g : Finding). In g (found_along views)) (sym code.1.1) (by path inode code.0 e.1 here passes.0 passes.1 (is_double code.0) refl (is_directory_at layer path) refl)
      where
        by : (path : PathNames) (inode : Inode) (code : Code) → In (path, inode) layer → entry_at layer path ≡ Some inode → In code all_codes → stands (path, inode) code ≡ true → (b : Bool) → is_double code ≡ b → (d : Bool) → is_directory_at layer path ≡ d → In (finding i path code) (found_along views)
        by path inode code there here listed is true e true dir =
            let same = double-code code e in
            subst (λ (c : Code). In (finding i path c) (found_along views)) (sym same)
            (In-left (finding i path RedirectDouble) (doubles_after [] views) (flat_map (λ (v : View). v.seen.findings) views)
            (let parts = both {a = sought RedirectDouble} {b = redirect_is_double layer path} (subst (λ (c : Code). stands (path, inode) c ≡ true) same is) in doubles-whole path dir (double-sought parts.0) parts.1))
        by path inode code there here listed is true e false dir =
            let same = double-code code e in
            let first = both {a = is_moved (mark_at layer path) && not (walk layer path).closed} {b = list_any (goes_on_there layer path) layer} (both {a = sought RedirectDouble} {b = redirect_is_double layer path} (subst (λ (c : Code). stands (path, inode) c ≡ true) same is)).1 in
            let moved = both {a = is_moved (mark_at layer path)} {b = not (walk layer path).closed} first.0 in
            let bad : true ≡ false = sym (moved-directory layer path inode here moved.0) ∙ dir in absurd (cc)
        by path inode code there here listed is false e true dir =
            In-right (finding i path code) (doubles_after [] views) (flat_map (λ (v : View). v.seen.findings) views)
            (own-In path (finding i path code) dir (at-path-whole path inode code here listed e is))
        by path inode code there here listed is false e false dir = elim (snoc_view path) [
          | inl root ↦ (let bad : true ≡ false = sym is_layer.rooted ∙ (ap (is_directory_at layer) (sym root) ∙ dir) in absurd (cc))
          | inr split ↦
              let d = split.0 in
              let name = split.1.0 in
              let spelt : path ≡ child_path d name = split.1.1 in
              let parent : has_parent layer path ≡ true = list_all-Every (λ (x : Entry). has_parent layer x.0) layer is_layer.closed (path, inode) there in
              let parent_is : is_directory_at layer d ≡ true = parent-directory layer d name (subst (λ (p : PathNames). has_parent layer p ≡ true) spelt parent) in
              In-right (finding i path code) (doubles_after [] views) (flat_map (λ (v : View). v.seen.findings) views)
              (file-In d name inode (finding i path code) (subst (λ (p : PathNames). entry_at layer p ≡ Some inode) spelt here) (ap (is_directory_at layer) (sym spelt) ∙ dir) parent_is
              (subst (λ (p : PathNames). In (finding i path code) (findings_at_path work i p)) spelt (at-path-whole path inode code here listed e is)))
        ]
