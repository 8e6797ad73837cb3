-- Laws of what a stack shows, and of sound stacks.
use Rattle.std.proofs.Common.{◌≡◌, ℕ, suc, ◌+◌, ◌*◌, ◌≤◌, length, drop, Bool, true, false, cond, Option, Some, None, List, [], ◌∷◌, ◌++◌, refl, sym, ap, ◌∙◌, subst, arith, append_assoc, length-append, inl, inr, ◌⊎◌, zero, ◌<◌}
use Rattle.std.specs.Prelude.{◌||◌, ◌&&◌, not, slice_get, unwrap_or, ◌==◌, is_some, is_none}
use Rattle.std.specs.List.{cons_option, list_any, All, list_all}
use Rattle.std.proofs.lemmas.List.{append-nil}
use Rattle.std.proofs.lemmas.List.Folds.{list_any-append, list_all-append}
use Rattle.std.proofs.lemmas.Bool.{or_parts}
use Rattle.std.specs.Cmp.Lexicographic.{bytes_decides}
use Rattle.ovl_names.specs.Names.{PathName, name_eq, is_name}
use Rattle.ovl_names.specs.Paths.{PathNames, child_path, longest, has_names, depth_limit}
use Rattle.ovl_names.proofs.Ascending.{both, not_true}
use Rattle.ovl_names.specs.Order.{ascends}
use Rattle.ovl_inode.specs.declared.inodes.Inode.{Inode}
use Rattle.ovl_inode.specs.Marks.{is_directory, is_regular, has_metacopy, mark_of, is_whiteout, is_data, has_attribute}
use Rattle.ovl_inode.specs.declared.marks.Mark.{Mark}
use Rattle.ovl_inode.specs.declared.marks.Mark.TheVariants.{DirPlain, Leaf}
use Rattle.ovl_inode.specs.Inodes.{visible}
use Rattle.ovl_inode.specs.declared.inodes.Kind.{Kind}
use Rattle.ovl_inode.specs.declared.inodes.Kind.TheVariants.{Dir, File, Char}
use Rattle.ovl_inode.specs.Attributes.{attribute, visible_attributes, is_overlay_name, whiteout_name, has_escaped_name}
use Rattle.ovl_inode.specs.Sound.{is_sound_inode}
use Rattle.ovl_layer.specs.Layers.{Entry, Entries, IsLayer, entry_at, is_directory_at, name_below, names_below, entry_cmp}
use Rattle.ovl_lookup.specs.declared.steps.Step.{Step}
use Rattle.ovl_lookup.specs.declared.looks.Look.{Look}
use Rattle.ovl_lookup.specs.declared.looks.Look.TheVariants.{Shown, Broken, Nothing}
use Rattle.ovl_lookup.specs.Walk.{walk, walk_from, walk_beyond, nothing_found, turn, is_shut, walk_to_file, mark_at}
use Rattle.ovl_lookup.specs.Trace.{things_found}
use Rattle.ovl_lookup.specs.Merged.{data_of, shown_of, without_blob, is_nothing, shows, look, is_shown_directory, shows_directory}
use Rattle.ovl_lookup.specs.Passes.{own_names_along}
use Rattle.ovl_lookup.specs.ShownInodes.{inode_shown}
use Rattle.ovl_lookup.specs.Stacks.{StackView}
use Rattle.ovl_lookup.specs.Words.{over, top_layer, lower_layers}
use Rattle.ovl_lookup.specs.Sound.{IsSoundStack, are_sound, is_faulty, redirect_is_malformed, redirect_is_lost, redirect_is_of_wrong_kind, redirect_is_double, redirect_is_open, data_is_missing, data_is_of_other_size, is_moved, is_malformed, is_meta, has_other_size, goes_on_there, is_seen_there, data_at}
use Rattle.ovl_lookup.specs.Laws.{ShowsParents, ShowsWithinDepth}
use Rattle.ovl_lookup.proofs.Longest.{longest-holds, longest-rest}
use Rattle.ovl_lookup.proofs.LawsOfPaths.{all-entries, all-first, all-rest, by_child, last-name, lookup-all}
use Rattle.ovl_inode.proofs.SoundLaws.{sound_values, kind-full}
use Rattle.ovl_lookup.proofs.LawsOfInodes.{IsVisible, attribute-hidden, bare-mark, data-kind, directory-kind, directory-no_whiteout, regular_kind, sound-visible, unescaped-filter, visible-twice, whiteout_test}
use Rattle.ovl_lookup.proofs.LawsOfWalks.{directory-limited, directory_found, entry-limited, entry-parent, found-file, mark-file, walk-finds, walk-stop, walk-whole}
use Rattle.ovl_lookup.proofs.LawsOfFound.{Passes, any_found, by_data, child_found, data-all, data-passing, data-regular, found-all, found-passing, shown-any, shown_of-full, starts_directory, things_found-step}

-- ---- how deep a path is that something is found at

abbrev found-some : Option Inode → Bool
found-some None = false
found-some (Some inode) = true

-- a walk takes off at most as many names as a layer is deep, and none from what it finds
abbrev Within : Step → ℕ → Type 0
Within step n = (found-some step.found ≡ true → n ≤ depth_limit) × (n ≤ depth_limit + length step.next)

beyond-within : (found : Option Inode) (turned : PathNames) (shut : Bool) (own : PathName) (rest : PathNames) (n : ℕ) → n ≤ depth_limit → (found-some found ≡ true → n + 1 ≤ depth_limit) → Within (walk_beyond found turned shut own rest) (n + length (own ∷ rest))
beyond-within None turned shut own rest n within entry = ((λ h. let bad : false ≡ true = h in cc), omega (arith, length-append turned (own ∷ rest)))
beyond-within (Some inode) turned shut own [] n within entry =
    let one : n + 1 ≤ depth_limit = entry refl in
    ((λ h. omega (arith, one)), omega (arith, one))
beyond-within (Some inode) turned shut own (other ∷ rest) n within entry = ((λ h. let bad : false ≡ true = h in cc), omega (arith, length-append turned (own ∷ other ∷ rest)))

walk-within : (layer : Entries) (path : PathNames) → IsLayer layer → Within (walk layer path) (length path)
walk-within layer path is = by (drop (length (longest (is_directory_at layer) path)) path) refl
  where
    holds : is_directory_at layer (longest (is_directory_at layer) path) ≡ true
    holds = longest-holds (is_directory_at layer) path is.rooted

    short : length (longest (is_directory_at layer) path) ≤ depth_limit
    short = directory-limited layer (longest (is_directory_at layer) path) is holds

    by : (rest : PathNames) → drop (length (longest (is_directory_at layer) path)) path ≡ rest → Within (walk layer path) (length path)
    by [] e =
        let whole : longest (is_directory_at layer) path ≡ path = sym (append-nil (longest (is_directory_at layer) path)) ∙ (ap (λ (r : PathNames). longest (is_directory_at layer) path ++ r) (sym e) ∙ longest-rest (is_directory_at layer) path) in
        let all : length path ≤ depth_limit = omega (arith, short, ap length whole) in
        ((λ h. all), omega (arith, all))
    by (own ∷ rest) e =
        let whole : longest (is_directory_at layer) path ++ own ∷ rest ≡ path = ap (λ (r : PathNames). longest (is_directory_at layer) path ++ r) (sym e) ∙ longest-rest (is_directory_at layer) path in
        let sum : length (longest (is_directory_at layer) path) + length (own ∷ rest) ≡ length path = sym (length-append (longest (is_directory_at layer) path) (own ∷ rest)) ∙ ap length whole in
        subst (λ (s : Step). Within s (length path)) (sym (ap (walk_from layer (longest (is_directory_at layer) path)) e))
        (subst (λ (n : ℕ). Within (walk_from layer (longest (is_directory_at layer) path) (own ∷ rest)) n) sum
        (beyond-within (entry_at layer (child_path (longest (is_directory_at layer) path) own)) (turn layer (longest (is_directory_at layer) path)) (is_shut layer (longest (is_directory_at layer) path)) own rest (length (longest (is_directory_at layer) path)) short
        (entry (entry_at layer (child_path (longest (is_directory_at layer) path) own)) refl)))
      where
        entry : (found : Option Inode) → entry_at layer (child_path (longest (is_directory_at layer) path) own) ≡ found → found-some found ≡ true → length (longest (is_directory_at layer) path) + 1 ≤ depth_limit
        entry None here h = let bad : false ≡ true = h in cc
        entry (Some inode) here h = omega (arith, entry-limited layer (child_path (longest (is_directory_at layer) path) own) inode is here, length-append (longest (is_directory_at layer) path) (own ∷ []))

-- something is found at no path deeper than the most names of a path for each layer
found-limited : (layers : List Entries) → All IsLayer layers → (path : PathNames) → any_found (things_found layers path) ≡ true → length path ≤ depth_limit * length layers
found-limited [] each path found = let bad : false ≡ true = found in cc
found-limited (layer ∷ layers) each path found =
    by (λ p. found-limited layers (all-rest IsLayer layer layers each) p) (walk layer path).found refl (walk layer path).closed refl
  where
    within : Within (walk layer path) (length path)
    within = walk-within layer path (all-first IsLayer layer layers each)

    found_here : any_found (cons_option (walk layer path).found (cond (walk layer path).closed [] (things_found layers (walk layer path).next))) ≡ true
    found_here = ap any_found (sym (things_found-step layer layers path)) ∙ found

    by : ((p : PathNames) → any_found (things_found layers p) ≡ true → length p ≤ depth_limit * length layers) → (here : Option Inode) → (walk layer path).found ≡ here → (closed : Bool) → (walk layer path).closed ≡ closed → length path ≤ depth_limit * length (layer ∷ layers)
    by later (Some inode) f closed c =
        let most : length path ≤ depth_limit = within.0 (ap found-some f) in
        omega (arith, most)
    by later None f true c =
        let bad : false ≡ true = sym (λ j. any_found (cons_option (f j) (cond (c j) [] (things_found layers (walk layer path).next)))) ∙ found_here in cc
    by later None f false c =
        let rest : length (walk layer path).next ≤ depth_limit * length layers = later (walk layer path).next (sym (λ j. any_found (cons_option (f j) (cond (c j) [] (things_found layers (walk layer path).next)))) ∙ found_here) in
        omega (arith, rest, within.1)

-- ---- what is shown, and the topmost layer

pub shows-found : (stack : StackView) (path : PathNames) → shows stack path ≡ any_found (things_found stack.layers path)
shows-found stack path = shown-any stack.data_only (things_found stack.layers path)

module _ (stack : StackView) (some : 0 < length stack.layers) where
  pub top-over : over (top_layer stack) (lower_layers stack) ≡ stack
  top-over = ap (λ (layers : List Entries). record stack { layers = layers }) (by stack.layers some)
    where
      by : (layers : List Entries) → 0 < length layers → unwrap_or (slice_get layers 0) [] ∷ drop 1 layers ≡ layers
      by [] none = absurd (omega (arith, none))
      by (layer ∷ layers) some = refl

  pub top-layer : All IsLayer stack.layers → IsLayer (top_layer stack)
  top-layer each = by stack.layers each some
    where
      by : (layers : List Entries) → All IsLayer layers → 0 < length layers → IsLayer (unwrap_or (slice_get layers 0) [])
      by [] each none = absurd (omega (arith, none))
      by (layer ∷ layers) each some = all-first IsLayer layer layers each

  pub lower-layers : All IsLayer stack.layers → All IsLayer (lower_layers stack).layers
  lower-layers each = by stack.layers each some
    where
      by : (layers : List Entries) → All IsLayer layers → 0 < length layers → All IsLayer (drop 1 layers)
      by [] each none = absurd (omega (arith, none))
      by (layer ∷ layers) each some = all-rest IsLayer layer layers each

pub shows-limited : (stack : StackView) → All IsLayer stack.layers → (path : PathNames) → shows stack path ≡ true → length path ≤ depth_limit * length stack.layers
shows-limited stack each path shown = found-limited stack.layers each path (sym (shows-found stack path) ∙ shown)

-- none of the seven holds at an entry
pub record Faultless (layer : Entries) (below : StackView) (path : PathNames) (inode : Inode) : Type 0 where
  pub formed : redirect_is_malformed layer path ≡ false
  pub found : redirect_is_lost layer below path ≡ false
  pub fitting : redirect_is_of_wrong_kind layer below path ≡ false
  pub single : redirect_is_double layer path ≡ false
  pub hidden : redirect_is_open layer path ≡ false
  pub full : data_is_missing layer below path inode ≡ false
  pub sized : data_is_of_other_size layer below path inode ≡ false

module _ (layer : Entries) (below : StackView) (path : PathNames) (inode : Inode) where
  faultless-parts : is_faulty layer below (path, inode) ≡ false → Faultless layer below path inode
  faultless-parts none =
      let m = redirect_is_malformed layer path in
      let l = redirect_is_lost layer below path in
      let k = redirect_is_of_wrong_kind layer below path in
      let d = redirect_is_double layer path in
      let o = redirect_is_open layer path in
      let f = data_is_missing layer below path inode in
      let s = data_is_of_other_size layer below path inode in
      let six = or_parts (m || l || k || d || o || f) s none in
      let five = or_parts (m || l || k || d || o) f six.0 in
      let four = or_parts (m || l || k || d) o five.0 in
      let three = or_parts (m || l || k) d four.0 in
      let two = or_parts (m || l) k three.0 in
      let one = or_parts m l two.0 in
      record { formed = one.0; found = one.1; fitting = two.1; single = three.1; hidden = four.1; full = five.1; sized = six.1 }

  faultless-whole : Faultless layer below path inode → is_faulty layer below (path, inode) ≡ false
  faultless-whole f = (λ j. f.formed j || f.found j || f.fitting j || f.single j || f.hidden j || f.full j || f.sized j)

-- a mark that is neither a redirect nor a metacopy file
pub record Calm (mark : Option Mark) : Type 0 where
  pub unmoved : is_moved mark ≡ false
  pub formed : is_malformed mark ≡ false
  pub full : is_meta mark ≡ false

pub calm-visible : (directory : Bool) → Calm (Some (cond directory DirPlain Leaf))
calm-visible true = record { unmoved = refl; formed = refl; full = refl }
calm-visible false = record { unmoved = refl; formed = refl; full = refl }

-- an entry of such a mark is faultless
pub calm-faultless : (layer : Entries) (below : StackView) (path : PathNames) (inode : Inode) → Calm (mark_at layer path) → Faultless layer below path inode
calm-faultless layer below path inode calm =
    let step : Step = walk layer path in
    record {
      formed = calm.formed;
      found = (λ j. calm.unmoved j && (step.closed || is_nothing (look below step.next)));
      fitting = (λ j. calm.unmoved j && not step.closed && not (is_nothing (look below step.next)) && not (is_shown_directory (look below step.next)));
      single = (λ j. calm.unmoved j && not step.closed && list_any (goes_on_there layer path) layer);
      hidden = (λ j. calm.unmoved j && not step.closed && is_seen_there layer step.next);
      full = (λ j. calm.full j && is_none (data_at layer below path inode));
      sized = (λ j. calm.full j && has_other_size inode (data_at layer below path inode));
    }

-- the soundness of the lower layers is that of their own stack
lower-sound : (layer : Entries) (below : StackView) (layers : List Entries) → are_sound (over layer below) layers ≡ are_sound below layers
lower-sound layer below [] = refl
lower-sound layer below (lower ∷ layers) = ap (λ b. list_all (λ entry. not (is_faulty lower (record below { layers = layers }) entry)) lower && b) (lower-sound layer below layers)

-- a stack is sound exactly if its first layer's entries are faultless over the others, and these are sound
module _ (layer : Entries) (below : StackView) where
  pub sound-first : IsSoundStack (over layer below) → (path : PathNames) (inode : Inode) → entry_at layer path ≡ Some inode → Faultless layer below path inode
  sound-first sound path inode here =
      let parts = both {a = list_all (λ entry. not (is_faulty layer below entry)) layer} {b = are_sound (over layer below) below.layers} sound in
      faultless-parts layer below path inode
      (not_true (is_faulty layer below (path, inode)) (lookup-all (λ entry. not (is_faulty layer below entry)) path layer inode parts.0 here))

  pub sound-rest : IsSoundStack (over layer below) → IsSoundStack below
  sound-rest sound =
      sym (lower-sound layer below below.layers)
      ∙ (both {a = list_all (λ entry. not (is_faulty layer below entry)) layer} {b = are_sound (over layer below) below.layers} sound).1

  pub sound-whole : ascends entry_cmp layer ≡ true → ((path : PathNames) (inode : Inode) → entry_at layer path ≡ Some inode → Faultless layer below path inode) → IsSoundStack below → IsSoundStack (over layer below)
  sound-whole up each rest =
      let all : list_all (λ entry. not (is_faulty layer below entry)) layer ≡ true = all-entries (λ entry. not (is_faulty layer below entry)) layer up
      (λ path inode here. ap not (faultless-whole layer below path inode (each path inode here))) in
      (λ j. all j && (lower-sound layer below below.layers ∙ rest) j)

-- a directory that is found first is shown
directory-shown : (data_only : List Entries) (found : List Inode) → starts_directory found ≡ true → is_shown_directory (shown_of data_only found) ≡ true
directory-shown data_only [] is = is
directory-shown data_only (inode ∷ below) is =
    ap is_shown_directory (shown_of-full data_only inode below (ap (λ b. b && has_metacopy inode) (directory-kind inode.kind is))) ∙ is

pub ShowsParents-holds : ShowsParents
ShowsParents-holds stack each path name shown =
    directory-shown stack.data_only (things_found stack.layers path)
    (child_found stack.layers each path name (sym (shows-found stack (child_path path name)) ∙ shown)).0

pub ShowsWithinDepth-holds : ShowsWithinDepth
ShowsWithinDepth-holds stack each path shown = shows-limited stack each path shown

-- what is found by a walk and in the layers below it
abbrev pub found_by : Step → List Entries → List Inode
found_by step layers = cons_option step.found (cond step.closed [] (things_found layers step.next))

pub found-by : (layer : Entries) (layers : List Entries) (path : PathNames) (step : Step) → walk layer path ≡ step → things_found (layer ∷ layers) path ≡ found_by step layers
found-by layer layers path step is = things_found-step layer layers path ∙ ap (λ (s : Step). found_by s layers) is

pub look-by : (layer : Entries) (below : StackView) (path : PathNames) (step : Step) → walk layer path ≡ step → look (over layer below) path ≡ shown_of below.data_only (found_by step below.layers)
look-by layer below path step is = ap (shown_of below.data_only) (found-by layer below.layers path step is)

-- the same walk in another layer shows the same
pub look-same : (one other : Entries) (below : StackView) (path : PathNames) → walk one path ≡ walk other path → look (over one below) path ≡ look (over other below) path
look-same one other below path same = look-by one below path (walk other path) same ∙ sym (look-by other below path (walk other path) refl)

-- a walk that finds nothing shows what the layers below do, or nothing
pub look-open : (layer : Entries) (below : StackView) (path next : PathNames) → walk layer path ≡ nothing_found next false → look (over layer below) path ≡ look below next
look-open layer below path next is = look-by layer below path (nothing_found next false) is

pub look-closed : (layer : Entries) (below : StackView) (path next : PathNames) → walk layer path ≡ nothing_found next true → look (over layer below) path ≡ Nothing
look-closed layer below path next is = look-by layer below path (nothing_found next true) is

-- ---- a file that is found first is no directory

pub file-shown : (data_only : List Entries) (inode : Inode) (below : List Inode) → is_directory inode ≡ false → is_shown_directory (shown_of data_only (inode ∷ below)) ≡ false
file-shown data_only inode below file = by (is_regular inode && has_metacopy inode) (data_of data_only (inode ∷ below)) refl
  where
    by : (b : Bool) (o : Option Inode) → data_of data_only (inode ∷ below) ≡ o → is_shown_directory (cond b (by_data inode o) (Shown (visible inode))) ≡ false
    by false o e = file
    by true None e = refl
    by true (Some contents) e =
        let regular = both {a = is_regular contents} {b = not (has_metacopy contents)} (data-regular data_only (inode ∷ below) contents e) in
        regular_kind contents.kind regular.0

pub file-walked : (data_only : List Entries) (inode : Inode) (turned : PathNames) (shut : Bool) (name : PathName) (layers : List Entries) → is_directory inode ≡ false → is_shown_directory (shown_of data_only (found_by (walk_beyond (Some inode) turned shut name []) layers)) ≡ false
file-walked data_only inode turned shut name layers file = by (is_whiteout inode)
  where
    by : (b : Bool) → is_shown_directory (shown_of data_only (found_by (cond b (nothing_found (child_path turned name) true) (walk_to_file inode (mark_of inode) turned shut name)) layers)) ≡ false
    by true = refl
    by false =
        let step : Step = walk_to_file inode (mark_of inode) turned shut name in
        ap (λ (found : Option Inode). is_shown_directory (shown_of data_only (cons_option found (cond step.closed [] (things_found layers step.next))))) (found-file inode (mark_of inode) turned shut name)
        ∙ file-shown data_only inode (cond step.closed [] (things_found layers step.next)) file

-- ---- below what is no directory nothing is shown

pub directory-shows : (shown : Look) → is_shown_directory shown ≡ true → not (is_nothing shown) ≡ true
directory-shows Nothing is = is
directory-shows (Shown inode) is = refl
directory-shows (Broken inode) is = refl

nothing-shown : (shown : Look) → not (is_nothing shown) ≡ false → shown ≡ Nothing
nothing-shown Nothing e = refl
nothing-shown (Shown inode) e = let bad : true ≡ false = e in cc
nothing-shown (Broken inode) e = let bad : true ≡ false = e in cc

directory-over : (stack : StackView) → All IsLayer stack.layers → (path : PathNames) (name : PathName) (rest : PathNames) → shows stack (path ++ name ∷ rest) ≡ true → shows_directory stack path ≡ true
directory-over stack each path name [] shown = ShowsParents-holds stack each path name shown
directory-over stack each path name (other ∷ rest) shown =
    ShowsParents-holds stack each path name
    (directory-shows (look stack (child_path path name))
    (directory-over stack each (child_path path name) other rest (ap (shows stack) (append_assoc path (name ∷ []) (other ∷ rest)) ∙ shown)))

pub nothing-under : (stack : StackView) → All IsLayer stack.layers → (path : PathNames) (name : PathName) (rest : PathNames) → shows_directory stack path ≡ false → look stack (path ++ name ∷ rest) ≡ Nothing
nothing-under stack each path name rest none = nothing-shown (look stack (path ++ name ∷ rest)) (by (shows stack (path ++ name ∷ rest)) refl)
  where
    by : (b : Bool) → shows stack (path ++ name ∷ rest) ≡ b → b ≡ false
    by false e = refl
    by true e = let bad : true ≡ false = sym (directory-over stack each path name rest e) ∙ none in cc

-- ---- what a walk finds is the entry at its path, and no whiteout

first-found : (layers : List Entries) → All IsLayer layers → (path : PathNames) (inode : Inode) (more : List Inode) → things_found layers path ≡ inode ∷ more → is_whiteout inode ≡ false
first-found [] each path inode more found = let bad : [] ≡ inode ∷ more = found in cc
first-found (layer ∷ layers) each path inode more found =
    by (first-found layers (all-rest IsLayer layer layers each) (walk layer path).next inode more) (walk layer path).found refl (walk layer path).closed refl (sym (things_found-step layer layers path) ∙ found)
  where
    by : (things_found layers (walk layer path).next ≡ inode ∷ more → is_whiteout inode ≡ false) → (here : Option Inode) → (walk layer path).found ≡ here → (closed : Bool) → (walk layer path).closed ≡ closed
        → cons_option (walk layer path).found (cond (walk layer path).closed [] (things_found layers (walk layer path).next)) ≡ inode ∷ more → is_whiteout inode ≡ false
    by later (Some i) h closed c e =
        let one : i ∷ cond (walk layer path).closed [] (things_found layers (walk layer path).next) ≡ inode ∷ more = (λ j. cons_option (sym h j) (cond (walk layer path).closed [] (things_found layers (walk layer path).next))) ∙ e in
        let same : i ≡ inode = cc in
        ap is_whiteout (sym same) ∙ (walk-finds layer path i (all-first IsLayer layer layers each) h).1
    by later None h true c e = let bad : [] ≡ inode ∷ more = (λ j. cons_option (sym h j) (cond (sym c j) [] (things_found layers (walk layer path).next))) ∙ e in cc
    by later None h false c e = later ((λ j. cons_option (sym h j) (cond (sym c j) [] (things_found layers (walk layer path).next))) ∙ e)

-- ---- an inode as it is shown: without attributes of the overlay, and no whiteout

and_false : (b : Bool) → (b && false) ≡ false
and_false true = refl
and_false false = refl

no_longer : (kind : Kind) (had : Bool) → whiteout_test kind had ≡ false → whiteout_test kind false ≡ false
no_longer (File size blob) had e = and_false (size == 0)
no_longer (Char major minor) had e = e
no_longer _ had e = refl

regular_test : (kind : Kind) → elim kind as (λ _. Bool) [ File size blob ↦ true | _ ↦ false ] ≡ true → whiteout_test kind false ≡ false
regular_test (File size blob) is = and_false (size == 0)
regular_test (Char major minor) is = let bad : false ≡ true = is in cc
regular_test _ is = refl

-- with the attributes that are shown, and this kind
shown_whiteout : (inode : Inode) (kind : Kind) → whiteout_test kind false ≡ false → whiteout_test kind (is_some (attribute (visible_attributes inode.attrs) whiteout_name)) ≡ false
shown_whiteout inode kind none = ap (λ o. whiteout_test kind (is_some o)) (attribute-hidden inode.attrs whiteout_name refl) ∙ none

visible-visible : (inode : Inode) → is_whiteout inode ≡ false → IsVisible (visible inode)
visible-visible inode thing = record {
  bare = visible-twice inode.attrs;
  thing = shown_whiteout inode inode.kind (no_longer inode.kind (has_attribute inode whiteout_name) thing);
}

filled-visible : (inode contents : Inode) → is_data contents ≡ true → IsVisible (record (visible inode) { kind = contents.kind })
filled-visible inode contents full = record {
  bare = visible-twice inode.attrs;
  thing = shown_whiteout inode contents.kind (regular_test contents.kind (both {a = is_regular contents} {b = not (has_metacopy contents)} full).0);
}

pub shown-visible : (stack : StackView) → All IsLayer stack.layers → (path : PathNames) (inode : Inode) → look stack path ≡ Shown inode → IsVisible inode
shown-visible stack each path inode shown = by (things_found stack.layers path) refl
  where
    by : (found : List Inode) → things_found stack.layers path ≡ found → IsVisible inode
    by [] e = let bad : Nothing ≡ Shown inode = ap (shown_of stack.data_only) (sym e) ∙ shown in cc
    by (first ∷ more) e = split (is_regular first && has_metacopy first) (data_of stack.data_only (first ∷ more)) refl (ap (shown_of stack.data_only) (sym e) ∙ shown)
      where
        split : (b : Bool) (o : Option Inode) → data_of stack.data_only (first ∷ more) ≡ o → cond b (by_data first o) (Shown (visible first)) ≡ Shown inode → IsVisible inode
        split false o d s =
            let same : visible first ≡ inode = cc in
            subst IsVisible same (visible-visible first (first-found stack.layers each path first more e))
        split true (Some contents) d s =
            let same : record (visible first) { kind = contents.kind } ≡ inode = cc in
            subst IsVisible same (filled-visible first contents (data-regular stack.data_only (first ∷ more) contents d))
        split true None d s = let bad : Broken (record (visible first) { kind = without_blob first.kind }) ≡ Shown inode = s in cc

-- ---- in a sound stack nothing is broken

abbrev pub is_broken : Look → Bool
is_broken (Broken inode) = true
is_broken _ = false

has_data : (meta malformed none : Bool) → (meta || malformed) ≡ true → malformed ≡ false → (meta && none) ≡ false → none ≡ false
has_data true malformed none a b c = c
has_data false malformed none a b c = let bad : false ≡ true = sym b ∙ a in cc

-- a file with `metacopy` in a sound stack has its data
pub data-there : (layer : Entries) (below : StackView) (path : PathNames) (inode : Inode) → IsLayer layer → Faultless layer below path inode → entry_at layer path ≡ Some inode → is_whiteout inode ≡ false → (is_regular inode && has_metacopy inode) ≡ true
    → is_none (data_of below.data_only (inode ∷ cond (walk layer path).closed [] (things_found below.layers (walk layer path).next))) ≡ false
data-there layer below path inode is good here thing bare =
    let file : is_directory inode ≡ false = regular_kind inode.kind (both {a = is_regular inode} {b = has_metacopy inode} bare).0 in
    let marked = mark-file layer path inode is here file in
    has_data (is_meta (mark_at layer path)) (is_malformed (mark_at layer path)) (is_none (data_of below.data_only (inode ∷ cond (walk layer path).closed [] (things_found below.layers (walk layer path).next))))
    ((λ j. is_meta (marked j) || is_malformed (marked j)) ∙ bare-mark inode thing bare)
    good.formed good.full

first_whole : (data_only : List Entries) (inode : Inode) (below : List Inode) → ((is_regular inode && has_metacopy inode) ≡ true → is_none (data_of data_only (inode ∷ below)) ≡ false) → is_broken (shown_of data_only (inode ∷ below)) ≡ false
first_whole data_only inode below full = by (is_regular inode && has_metacopy inode) refl (data_of data_only (inode ∷ below)) refl
  where
    by : (b : Bool) → (is_regular inode && has_metacopy inode) ≡ b → (o : Option Inode) → data_of data_only (inode ∷ below) ≡ o → is_broken (cond b (by_data inode o) (Shown (visible inode))) ≡ false
    by false e o d = refl
    by true e (Some contents) d = refl
    by true e None d = let bad : true ≡ false = ap is_none (sym d) ∙ full e in cc

never_broken_from : (stack : StackView) (layers : List Entries) → All IsLayer layers → IsSoundStack (record stack { layers = layers }) → (path : PathNames) → is_broken (shown_of stack.data_only (things_found layers path)) ≡ false
never_broken_from stack [] each sound path = refl
never_broken_from stack (layer ∷ layers) each sound path =
    ap (λ found. is_broken (shown_of stack.data_only found)) (things_found-step layer layers path)
    ∙ by (never_broken_from stack layers (all-rest IsLayer layer layers each) (sound-rest layer below sound) (walk layer path).next) (walk layer path).found refl (walk layer path).closed
  where
    below : StackView
    below = record stack { layers = layers }

    is : IsLayer layer
    is = all-first IsLayer layer layers each

    by : is_broken (shown_of stack.data_only (things_found layers (walk layer path).next)) ≡ false → (here : Option Inode) → (walk layer path).found ≡ here → (closed : Bool) → is_broken (shown_of stack.data_only (cons_option (walk layer path).found (cond (walk layer path).closed [] (things_found layers (walk layer path).next)))) ≡ false
    by later (Some inode) h closed =
        let finds = walk-finds layer path inode is h in
        ap (λ o. is_broken (shown_of stack.data_only (cons_option o (cond (walk layer path).closed [] (things_found layers (walk layer path).next))))) h
        ∙ first_whole stack.data_only inode (cond (walk layer path).closed [] (things_found layers (walk layer path).next))
        (data-there layer below path inode is (sound-first layer below sound path inode finds.0) finds.0 finds.1)
    by later None h closed =
        ap (λ o. is_broken (shown_of stack.data_only (cons_option o (cond (walk layer path).closed [] (things_found layers (walk layer path).next))))) h
        ∙ rest (walk layer path).closed
      where
        rest : (c : Bool) → is_broken (shown_of stack.data_only (cond c [] (things_found layers (walk layer path).next))) ≡ false
        rest true = refl
        rest false = later

pub never-broken : (stack : StackView) → All IsLayer stack.layers → IsSoundStack stack → (path : PathNames) → is_broken (look stack path) ≡ false
never-broken stack each sound path = never_broken_from stack stack.layers each sound path

-- ---- the inode that is shown

pub inode-shows : (shown : Look) (inode : Inode) → inode_shown shown ≡ Some inode → not (is_nothing shown) ≡ true
inode-shows Nothing inode e = let bad : None ≡ Some inode = e in cc
inode-shows (Shown other) inode e = refl
inode-shows (Broken other) inode e = refl

pub inode-directory : (shown : Look) → is_shown_directory shown ≡ true → directory_found (inode_shown shown) ≡ true
inode-directory Nothing e = e
inode-directory (Shown inode) e = e
inode-directory (Broken inode) e = let bad : false ≡ true = e in cc

-- in a sound stack it is shown whole
inode_whole : (shown : Look) (inode : Inode) → is_broken shown ≡ false → inode_shown shown ≡ Some inode → shown ≡ Shown inode
inode_whole Nothing inode b s = let bad : None ≡ Some inode = s in cc
inode_whole (Shown other) inode b s = let same : other ≡ inode = cc in ap (λ (i : Inode). Shown i) same
inode_whole (Broken other) inode b s = let bad : true ≡ false = b in cc

pub inode-whole : (stack : StackView) → All IsLayer stack.layers → IsSoundStack stack → (path : PathNames) (inode : Inode) → inode_shown (look stack path) ≡ Some inode → look stack path ≡ Shown inode
inode-whole stack each sound path inode some = inode_whole (look stack path) inode (never-broken stack each sound path) some

-- the same of a stack with this layer on top
pub all-over : (layer : Entries) (below : StackView) → IsLayer layer → All IsLayer below.layers → All IsLayer (over layer below).layers
all-over layer below is each zero d inside = is
all-over layer below is each (suc k) d inside = each k d (omega arith)

-- ---- an entry that is found in the first layer is shown

entry-walked : (layer : Entries) (path : PathNames) (inode : Inode) → IsLayer layer → entry_at layer path ≡ Some inode → is_whiteout inode ≡ false → (walk layer path).found ≡ Some inode
entry-walked layer path inode is here thing = by (is_directory inode) refl (last-name path)
  where
    by : (b : Bool) → is_directory inode ≡ b → (path ≡ []) ⊎ ((directory : PathNames) × (name : PathName) × (path ≡ child_path directory name)) → (walk layer path).found ≡ Some inode
    by true d root = ap (λ (s : Step). s.found) (walk-whole layer path (ap directory_found here ∙ d)) ∙ here
    by false d (inl e) = let bad : false ≡ true = sym d ∙ (ap directory_found (sym here) ∙ (ap (is_directory_at layer) e ∙ is.rooted)) in cc
    by false d (inr (directory, name, e)) =
        let there : entry_at layer (child_path directory name) ≡ Some inode = ap (entry_at layer) (sym e) ∙ here in
        ap (λ (p : PathNames). (walk layer p).found) e
        ∙ (ap (λ (s : Step). s.found) (walk-stop layer directory name [] is (entry-parent layer directory name inode is there) (ap directory_found there ∙ d))
        ∙ (ap (λ (o : Option Inode). (walk_beyond o (turn layer directory) (is_shut layer directory) name []).found) there
        ∙ (ap (λ w. (cond w (nothing_found (child_path (turn layer directory) name) true) (walk_to_file inode (mark_of inode) (turn layer directory) (is_shut layer directory) name)).found) thing
        ∙ found-file inode (mark_of inode) (turn layer directory) (is_shut layer directory) name)))

pub entry-found : (layer : Entries) (layers : List Entries) (path : PathNames) (inode : Inode) → IsLayer layer → entry_at layer path ≡ Some inode → is_whiteout inode ≡ false
    → things_found (layer ∷ layers) path ≡ inode ∷ cond (walk layer path).closed [] (things_found layers (walk layer path).next)
entry-found layer layers path inode is here thing =
    things_found-step layer layers path
    ∙ ap (λ o. cons_option o (cond (walk layer path).closed [] (things_found layers (walk layer path).next))) (entry-walked layer path inode is here thing)

-- a directory is shown as it is there
pub entry-directory_shown : (layer : Entries) (below : StackView) (path : PathNames) (inode : Inode) → IsLayer layer → entry_at layer path ≡ Some inode → is_directory inode ≡ true → look (over layer below) path ≡ Shown (visible inode)
entry-directory_shown layer below path inode is here directory =
    ap (shown_of below.data_only) (entry-found layer below.layers path inode is here (directory-no_whiteout inode directory))
    ∙ shown_of-full below.data_only inode (cond (walk layer path).closed [] (things_found below.layers (walk layer path).next)) (ap (λ b. b && has_metacopy inode) (directory_kind inode.kind directory))
  where
    directory_kind : (kind : Kind) → elim kind as (λ _. Bool) [ Dir ↦ true | _ ↦ false ] ≡ true → elim kind as (λ _. Bool) [ File size blob ↦ true | _ ↦ false ] ≡ false
    directory_kind (File size blob) is = let bad : false ≡ true = is in cc
    directory_kind _ is = refl

-- ---- the kind that is shown

-- it is that of an entry of some layer: a test of kinds that all entries pass, it passes
pub shown-kind : (test : Inode → Bool) → ((one other : Inode) → one.kind ≡ other.kind → test one ≡ test other) → (stack : StackView) → All IsLayer stack.layers → All (Passes test) stack.layers → All (Passes test) stack.data_only → (path : PathNames) (inode : Inode) → look stack path ≡ Shown inode → test inode ≡ true
shown-kind test by_kind stack each pass deep path inode shown = by (things_found stack.layers path) refl
  where
    by : (found : List Inode) → things_found stack.layers path ≡ found → test inode ≡ true
    by [] e = let bad : Nothing ≡ Shown inode = ap (shown_of stack.data_only) (sym e) ∙ shown in cc
    by (first ∷ more) e = split (is_regular first && has_metacopy first) (data_of stack.data_only (first ∷ more)) refl (ap (shown_of stack.data_only) (sym e) ∙ shown)
      where
        all : list_all test (first ∷ more) ≡ true
        all = ap (list_all test) (sym e) ∙ found-passing test stack.layers each pass path

        split : (b : Bool) (o : Option Inode) → data_of stack.data_only (first ∷ more) ≡ o → cond b (by_data first o) (Shown (visible first)) ≡ Shown inode → test inode ≡ true
        split false o d s =
            let same : visible first ≡ inode = cc in
            by_kind inode first (ap (λ (i : Inode). i.kind) (sym same)) ∙ (both {a = test first} {b = list_all test more} all).0
        split true (Some contents) d s =
            let same : record (visible first) { kind = contents.kind } ≡ inode = cc in
            by_kind inode contents (ap (λ (i : Inode). i.kind) (sym same)) ∙ data-passing test stack.data_only deep (first ∷ more) contents all d
        split true None d s = let bad : Broken (record (visible first) { kind = without_blob first.kind }) ≡ Shown inode = s in cc

-- ---- sound inodes

pub shown-sound : (stack : StackView) → All IsLayer stack.layers → All IsLayer stack.data_only → (path : PathNames) (inode : Inode) → look stack path ≡ Shown inode → is_sound_inode inode ≡ true
shown-sound stack each deep path inode shown = by (things_found stack.layers path) refl
  where
    by : (found : List Inode) → things_found stack.layers path ≡ found → is_sound_inode inode ≡ true
    by [] e = let bad : Nothing ≡ Shown inode = ap (shown_of stack.data_only) (sym e) ∙ shown in cc
    by (first ∷ more) e = split (is_regular first && has_metacopy first) refl (data_of stack.data_only (first ∷ more)) refl (ap (shown_of stack.data_only) (sym e) ∙ shown)
      where
        all : list_all is_sound_inode (first ∷ more) ≡ true
        all = ap (list_all is_sound_inode) (sym e) ∙ found-all is_sound_inode (λ layer is. is.sound) stack.layers each path

        own : is_sound_inode first ≡ true
        own = (both {a = is_sound_inode first} {b = list_all is_sound_inode more} all).0

        split : (b : Bool) → (is_regular first && has_metacopy first) ≡ b → (o : Option Inode) → data_of stack.data_only (first ∷ more) ≡ o → cond b (by_data first o) (Shown (visible first)) ≡ Shown inode → is_sound_inode inode ≡ true
        split false b o d s =
            let same : visible first ≡ inode = cc in
            ap is_sound_inode (sym same) ∙ sound-visible first first.kind own (kind-full first.kind (has_metacopy first) b (sound_values first own).kind)
        split true b (Some contents) d s =
            let same : record (visible first) { kind = contents.kind } ≡ inode = cc in
            ap is_sound_inode (sym same) ∙ sound-visible first contents.kind own (data-kind contents (data-regular stack.data_only (first ∷ more) contents d) (data-all is_sound_inode (λ layer is. is.sound) stack.data_only deep (first ∷ more) contents all d))
        split true b None d s = let bad : Broken (record (visible first) { kind = without_blob first.kind }) ≡ Shown inode = s in cc

-- ---- no escaped attribute

pub shown-unescaped : (stack : StackView) → All IsLayer stack.layers → (path : PathNames) (inode : Inode) → look stack path ≡ Shown inode → has_escaped_name inode.attrs ≡ false
shown-unescaped stack each path inode shown = by (things_found stack.layers path) refl
  where
    by : (found : List Inode) → things_found stack.layers path ≡ found → has_escaped_name inode.attrs ≡ false
    by [] e = let bad : Nothing ≡ Shown inode = ap (shown_of stack.data_only) (sym e) ∙ shown in cc
    by (first ∷ more) e = split (is_regular first && has_metacopy first) (data_of stack.data_only (first ∷ more)) (ap (shown_of stack.data_only) (sym e) ∙ shown)
      where
        all : list_all (λ (i : Inode). not (has_escaped_name i.attrs)) (first ∷ more) ≡ true
        all = ap (list_all (λ (i : Inode). not (has_escaped_name i.attrs))) (sym e) ∙ found-all (λ (i : Inode). not (has_escaped_name i.attrs)) (λ layer is. is.unescaped) stack.layers each path

        own : has_escaped_name (visible_attributes first.attrs) ≡ false
        own = unescaped-filter (λ attr. not (is_overlay_name attr.0)) first.attrs (not_true (has_escaped_name first.attrs) (both {a = not (has_escaped_name first.attrs)} {b = list_all (λ (i : Inode). not (has_escaped_name i.attrs)) more} all).0)

        split : (b : Bool) (o : Option Inode) → cond b (by_data first o) (Shown (visible first)) ≡ Shown inode → has_escaped_name inode.attrs ≡ false
        split false o s =
            let same : visible first ≡ inode = cc in
            ap (λ (i : Inode). has_escaped_name i.attrs) (sym same) ∙ own
        split true (Some contents) s =
            let same : record (visible first) { kind = contents.kind } ≡ inode = cc in
            ap (λ (i : Inode). has_escaped_name i.attrs) (sym same) ∙ own
        split true None s = let bad : Broken (record (visible first) { kind = without_blob first.kind }) ≡ Shown inode = s in cc

-- ---- the names of a path at which something is shown

name_below-named : (path other : PathNames) (own : PathName) → name_below path other ≡ Some own → has_names other ≡ true → is_name own ≡ true
name_below-named [] [] own below named = let bad : None ≡ Some own = below in cc
name_below-named [] (name ∷ []) own below named = let same : name ≡ own = cc in ap is_name (sym same) ∙ (both {a = is_name name} {b = true} named).0
name_below-named [] (name ∷ next ∷ names) own below named = let bad : None ≡ Some own = below in cc
name_below-named (first ∷ path) [] own below named = let bad : None ≡ Some own = below in cc
name_below-named (first ∷ path) (name ∷ names) own below named = by (λ e. name_below-named path names own e (both {a = is_name name} {b = list_all is_name names} named).1) (name_eq first name) below
  where
    by : (name_below path names ≡ Some own → is_name own ≡ true) → (b : Bool) → cond b (name_below path names) None ≡ Some own → is_name own ≡ true
    by later true e = later e
    by later false e = let bad : None ≡ Some own = e in cc

names_below-named : (layer : Entries) (path : PathNames) (name : PathName) → list_all (λ (entry : Entry). has_names entry.0) layer ≡ true → list_any (name_eq name) (names_below layer path) ≡ true → is_name name ≡ true
names_below-named [] path name named any = let bad : false ≡ true = any in cc
names_below-named (entry ∷ layer) path name named any = by (names_below-named layer path name parts.1) (name_below path entry.0) refl any
  where
    parts : (has_names entry.0 ≡ true) × (list_all (λ (e : Entry). has_names e.0) layer ≡ true)
    parts = both {a = has_names entry.0} {b = list_all (λ (e : Entry). has_names e.0) layer} named

    by : (list_any (name_eq name) (names_below layer path) ≡ true → is_name name ≡ true) → (below : Option PathName) → name_below path entry.0 ≡ below → list_any (name_eq name) (cons_option below (names_below layer path)) ≡ true → is_name name ≡ true
    by later None e any = later any
    by later (Some own) e any = split (name_eq name own) refl any
      where
        split : (b : Bool) → name_eq name own ≡ b → (b || list_any (name_eq name) (names_below layer path)) ≡ true → is_name name ≡ true
        split true n a = ap is_name ((bytes_decides name own).0 n) ∙ name_below-named path entry.0 own e parts.0
        split false n a = later a

own_names-named : (layers : List Entries) → All IsLayer layers → (path : PathNames) (name : PathName) → list_any (name_eq name) (own_names_along layers path) ≡ true → is_name name ≡ true
own_names-named [] each path name any = let bad : false ≡ true = any in cc
own_names-named (layer ∷ layers) each path name any =
    by (own_names-named layers (all-rest IsLayer layer layers each) (walk layer path).next name) (list_any (name_eq name) (names_below layer path)) refl
    (sym (list_any-append (name_eq name) (names_below layer path) (cond (walk layer path).closed [] (own_names_along layers (walk layer path).next))) ∙ any)
  where
    by : (list_any (name_eq name) (own_names_along layers (walk layer path).next) ≡ true → is_name name ≡ true) → (b : Bool) → list_any (name_eq name) (names_below layer path) ≡ b
        → (list_any (name_eq name) (names_below layer path) || list_any (name_eq name) (cond (walk layer path).closed [] (own_names_along layers (walk layer path).next))) ≡ true → is_name name ≡ true
    by later true e any = names_below-named layer path name (all-first IsLayer layer layers each).named e
    by later false e any = split (walk layer path).closed (ap (λ b. b || list_any (name_eq name) (cond (walk layer path).closed [] (own_names_along layers (walk layer path).next))) (sym e) ∙ any)
      where
        split : (c : Bool) → list_any (name_eq name) (cond c [] (own_names_along layers (walk layer path).next)) ≡ true → is_name name ≡ true
        split true a = let bad : false ≡ true = a in cc
        split false a = later a

pub shown-named : (stack : StackView) → All IsLayer stack.layers → (path : PathNames) → shows stack path ≡ true → has_names path ≡ true
shown-named stack each = by_child (λ path. shows stack path ≡ true → has_names path ≡ true) (λ shown. refl) step
  where
    step : (path : PathNames) (name : PathName) → (shows stack path ≡ true → has_names path ≡ true) → shows stack (child_path path name) ≡ true → has_names (child_path path name) ≡ true
    step path name later shown =
        let up : has_names path ≡ true = later (directory-shows (look stack path) (ShowsParents-holds stack each path name shown)) in
        let own : is_name name ≡ true = own_names-named stack.layers each path name (child_found stack.layers each path name (sym (shows-found stack (child_path path name)) ∙ shown)).1 in
        list_all-append is_name path (name ∷ []) ∙ (λ j. up j && (own j && true))
