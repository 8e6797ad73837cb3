-- Vacuum keeps the merged tree.
use Rattle.std.proofs.Common.{◌≡◌, ℕ, Bool, true, false, cond, Option, Some, None, List, [], ◌∷◌, ◌++◌, refl, sym, ap, ◌∙◌, subst, append_assoc}
use Rattle.std.specs.Prelude.{◌||◌, ◌&&◌, not, is_none}
use Rattle.std.specs.List.{All}
use Rattle.std.specs.Cmp.Lexicographic.{pointwise_decides, bytes_decides}
use Rattle.std.proofs.lemmas.List.{append-nil}
use Rattle.std.proofs.Math.Bool.{or-true}
use Rattle.std.proofs.lemmas.Map.Entries.{lookup-filter-keys}
use Rattle.ovl_names.specs.Names.{PathName}
use Rattle.ovl_names.specs.Paths.{PathNames, child_path, parent_path, path_eq, is_root}
use Rattle.ovl_names.proofs.Ascending.{both, not_true}
use Rattle.ovl_inode.specs.declared.inodes.Inode.{Inode}
use Rattle.ovl_inode.specs.declared.marks.Mark.{Mark}
use Rattle.ovl_inode.specs.declared.marks.Mark.TheVariants.{Whiteout, DirOpaque, DirPlain, Leaf}
use Rattle.ovl_inode.specs.declared.marks.Redirect.{Redirect}
use Rattle.ovl_inode.specs.Attributes.{attribute, redirect_name}
use Rattle.ovl_inode.specs.Redirects.{read_redirect}
use Rattle.ovl_inode.specs.Marks.{mark_of, is_directory, is_regular, is_whiteout, has_opaque, has_metacopy, redirect_reading, directory_mark, metacopy_mark}
use Rattle.ovl_layer.specs.Layers.{Entries, entry_at, is_directory_at, IsLayer}
use Rattle.ovl_lookup.specs.declared.steps.Step.{Step}
use Rattle.ovl_lookup.specs.Walk.{mark_at, turn, is_shut, walk, walk_beyond, nothing_found, natural_path}
use Rattle.ovl_lookup.specs.Stacks.{StackView}
use Rattle.ovl_lookup.specs.Merged.{look, is_shown_directory}
use Rattle.ovl_lookup.specs.Sound.{is_plain}
use Rattle.ovl_lookup.proofs.LawsOfWalks.{walk-whole, walk-stop, natural_path-child, directory_found, mark-child, turn-at, is_shut-at}
use Rattle.ovl_lookup.proofs.LawsOfPaths.{lookup-all, parent_path-child, under-append}
use Rattle.ovl_lookup.specs.Equal.{look_eq}
use Rattle.ovl_lookup.specs.Words.{over, is_at_or_under}
use Rattle.ovl_lookup.specs.EqualLaws.{look_eq-same}
use Rattle.ovl_lookup.proofs.LawsOfLooks.{look-by, look-open, look-closed, file-walked, nothing-under}
use Rattle.ovl_vacuum.specs.Vacuum.{may_be_idle, is_idle, is_idle_throughout, vacuumed_layer}

-- ---- what an idle entry is

-- however its `redirect` reads, a directory that may be idle is plain
unmoved : (inode : Inode) → may_be_idle (directory_mark (redirect_reading inode)) ≡ true → directory_mark (redirect_reading inode) ≡ DirPlain
unmoved inode = by (attribute inode.attrs redirect_name) refl
  where
    said : (value : List ℕ) → attribute inode.attrs redirect_name ≡ Some value → (redirect : Option Redirect) → read_redirect value ≡ redirect → may_be_idle (directory_mark (redirect_reading inode)) ≡ true → directory_mark (redirect_reading inode) ≡ DirPlain
    said value e None f = rw (e, redirect_reading) (rw f (λ idle. let bad : false ≡ true = idle in cc))
    said value e (Some redirect) f = rw (e, redirect_reading) (rw f (λ idle. let bad : false ≡ true = idle in cc))

    by : (found : Option (List ℕ)) → attribute inode.attrs redirect_name ≡ found → may_be_idle (directory_mark (redirect_reading inode)) ≡ true → directory_mark (redirect_reading inode) ≡ DirPlain
    by None e = rw (e, redirect_reading) (λ idle. refl)
    by (Some value) e = said value e (read_redirect value) refl

plain_cases : (whiteout directory opaque file : Bool) (of_directory of_file : Mark) → directory ≡ true → (may_be_idle of_directory ≡ true → of_directory ≡ DirPlain)
    → may_be_idle (cond whiteout Whiteout (cond (directory && opaque) DirOpaque (cond directory of_directory (cond file of_file Leaf)))) ≡ true
    → cond whiteout Whiteout (cond (directory && opaque) DirOpaque (cond directory of_directory (cond file of_file Leaf))) ≡ DirPlain
plain_cases true directory opaque file of_directory of_file is still idle = let bad : false ≡ true = idle in cc
plain_cases false false opaque file of_directory of_file is still idle = let bad : false ≡ true = is in cc
plain_cases false true true file of_directory of_file is still idle = let bad : false ≡ true = idle in cc
plain_cases false true false file of_directory of_file is still idle = still idle

plain-directory : (inode : Inode) → is_directory inode ≡ true → may_be_idle (mark_of inode) ≡ true → mark_of inode ≡ DirPlain
plain-directory inode is idle =
    plain_cases (is_whiteout inode) (is_directory inode) (has_opaque inode) (is_regular inode && has_metacopy inode)
    (directory_mark (redirect_reading inode)) (metacopy_mark (redirect_reading inode)) is (unmoved inode) idle

-- what is said of an idle entry
pub record Idle (top : Entries) (below : StackView) (directory : PathNames) (name : PathName) (inode : Inode) : Type 0 where
  pub plain : may_be_idle (mark_of inode) ≡ true
  pub opened : (walk top directory).closed ≡ false
  pub same : look below (child_path (walk top directory).next name) ≡ look (over top below) (child_path directory name)

pub idle-facts : (top : Entries) (below : StackView) (directory : PathNames) (name : PathName) (inode : Inode) → is_idle top below (child_path directory name, inode) ≡ true → Idle top below directory name inode
idle-facts top below directory name inode idle =
    let path : PathNames = child_path directory name in
    let looks = both {a = not (is_root path) && may_be_idle (mark_of inode) && not (walk top (parent_path path)).closed} {b = look_eq (look below (natural_path top path)) (look (over top below) path)} idle in
    let opens = both {a = not (is_root path) && may_be_idle (mark_of inode)} {b = not (walk top (parent_path path)).closed} looks.0 in
    let plains = both {a = not (is_root path)} {b = may_be_idle (mark_of inode)} opens.0 in
    record {
      plain = plains.1;
      opened = ap (λ (p : PathNames). (walk top p).closed) (sym (parent_path-child directory name)) ∙ not_true (walk top (parent_path path)).closed opens.1;
      same = ap (look below) (sym (natural_path-child top directory name)) ∙ look_eq-same (look below (natural_path top path)) (look (over top below) path) looks.1;
    }

-- ---- an entry at and under which all are idle: below it the stack shows what the layers below do

module _ (top : Entries) (below : StackView) (is : IsLayer top) (each : All IsLayer below.layers) where
  -- each entry at and under the path is idle
  abbrev IdleFrom : PathNames → Type 0
  IdleFrom path = (more : PathNames) (inode : Inode) → entry_at top (path ++ more) ≡ Some inode → is_idle top below (path ++ more, inode) ≡ true

  idle_here : (path : PathNames) (inode : Inode) → IdleFrom path → entry_at top path ≡ Some inode → is_idle top below (path, inode) ≡ true
  idle_here path inode idle here =
      ap (λ (p : PathNames). is_idle top below (p, inode)) (sym (append-nil path))
      ∙ idle [] inode (ap (entry_at top) (append-nil path) ∙ here)

  -- what is said of such an entry, in a directory of the layer
  module _ (directory : PathNames) (name : PathName) (inode : Inode) (holds : is_directory_at top directory ≡ true) (here : entry_at top (child_path directory name) ≡ Some inode) (idle : is_idle top below (child_path directory name, inode) ≡ true) where
    -- its directory is open
    pub idle-open : is_shut top directory ≡ false
    idle-open = ap (λ (s : Step). s.closed) (sym (walk-whole top directory holds)) ∙ (idle-facts top below directory name inode idle).opened

    -- the layers below show the same at its natural path
    pub idle-natural : look below (child_path (turn top directory) name) ≡ look (over top below) (child_path directory name)
    idle-natural = ap (λ (s : Step). look below (child_path s.next name)) (sym (walk-whole top directory holds)) ∙ (idle-facts top below directory name inode idle).same

    -- so where it is a file, they show no directory there
    pub idle-file : is_directory inode ≡ false → is_shown_directory (look below (child_path (turn top directory) name)) ≡ false
    idle-file file =
        let walked : walk top (child_path directory name) ≡ walk_beyond (Some inode) (turn top directory) (is_shut top directory) name [] =
        walk-stop top directory name [] is holds (ap directory_found here ∙ file)
        ∙ ap (λ (o : Option Inode). walk_beyond o (turn top directory) (is_shut top directory) name []) here in
        ap is_shown_directory (idle-natural ∙ look-by top below (child_path directory name) (walk_beyond (Some inode) (turn top directory) (is_shut top directory) name []) walked)
        ∙ file-walked below.data_only inode (turn top directory) (is_shut top directory) name below.layers file

    -- and where it is a directory, it is plain, and goes on at its natural path
    pub idle-mark : is_directory inode ≡ true → mark_at top (child_path directory name) ≡ Some DirPlain
    idle-mark holds_here = mark-child top directory name (Some inode) here ∙ ap (λ m. Some m) (plain-directory inode holds_here (idle-facts top below directory name inode idle).plain)

    pub idle-turn : is_directory inode ≡ true → turn top (child_path directory name) ≡ child_path (turn top directory) name
    idle-turn holds_here = turn-at top directory name (Some DirPlain) (idle-mark holds_here)

    pub idle-shut : is_directory inode ≡ true → is_shut top (child_path directory name) ≡ false
    idle-shut holds_here = is_shut-at top directory name (Some DirPlain) (idle-mark holds_here) ∙ ap (λ b. b || false) idle-open

  idle_deeper : (path : PathNames) (name : PathName) → IdleFrom path → IdleFrom (child_path path name)
  idle_deeper path name idle = λ more inode here.
      ap (λ (p : PathNames). is_idle top below (p, inode)) (append_assoc path (name ∷ []) more)
      ∙ idle (name ∷ more) inode (ap (entry_at top) (sym (append_assoc path (name ∷ []) more)) ∙ here)

  -- beyond a file at or under such an entry, the walk is closed, and nothing is found
  file_walked : (directory : PathNames) (name next : PathName) (rest : PathNames) (inode : Inode) → is_directory_at top directory ≡ true → entry_at top (child_path directory name) ≡ Some inode → is_directory inode ≡ false → walk top (child_path directory name ++ next ∷ rest) ≡ nothing_found (turn top directory ++ name ∷ next ∷ rest) true
  file_walked directory name next rest inode holds here file =
      ap (walk top) (append_assoc directory (name ∷ []) (next ∷ rest))
      ∙ (walk-stop top directory name (next ∷ rest) is holds (ap directory_found here ∙ file)
      ∙ ap (λ (o : Option Inode). walk_beyond o (turn top directory) (is_shut top directory) name (next ∷ rest)) here)

  pub idle-shown : (rest : PathNames) (directory : PathNames) (name : PathName) (inode : Inode) → is_directory_at top directory ≡ true → entry_at top (child_path directory name) ≡ Some inode → IdleFrom (child_path directory name)
      → look (over top below) (child_path directory name ++ rest) ≡ look below (child_path (turn top directory) name ++ rest)
  idle-shown [] directory name inode holds here idle =
      ap (look (over top below)) (append-nil (child_path directory name))
      ∙ (sym (idle-natural directory name inode holds here (idle_here (child_path directory name) inode idle here))
      ∙ ap (look below) (sym (append-nil (child_path (turn top directory) name))))
  idle-shown (next ∷ rest) directory name inode holds here idle = by (λ i d e f. idle-shown rest (child_path directory name) next i d e f) (is_directory inode) refl (entry_at top (child_path path next)) refl
    where
      path : PathNames
      path = child_path directory name

      own : is_idle top below (path, inode) ≡ true
      own = idle_here path inode idle here

      by : ((i : Inode) → is_directory_at top path ≡ true → entry_at top (child_path path next) ≡ Some i → IdleFrom (child_path path next) → look (over top below) (child_path path next ++ rest) ≡ look below (child_path (turn top path) next ++ rest))
          → (b : Bool) → is_directory inode ≡ b → (found : Option Inode) → entry_at top (child_path path next) ≡ found → look (over top below) (path ++ next ∷ rest) ≡ look below (child_path (turn top directory) name ++ next ∷ rest)
      by later false file found e =
          look-closed top below (path ++ next ∷ rest) (turn top directory ++ name ∷ next ∷ rest) (file_walked directory name next rest inode holds here file)
          ∙ sym (nothing-under below each (child_path (turn top directory) name) next rest (idle-file directory name inode holds here own file))
      by later true directory_here None e =
          look-open top below (path ++ next ∷ rest) (child_path (turn top directory) name ++ next ∷ rest)
          (walk-stop top path next rest is (ap directory_found here ∙ directory_here) (ap directory_found e)
          ∙ (λ j. walk_beyond (e j) (idle-turn directory name inode holds here own directory_here j) (idle-shut directory name inode holds here own directory_here j) next rest))
      by later true directory_here (Some i) e =
          ap (look (over top below)) (sym (append_assoc path (next ∷ []) rest))
          ∙ (later i (ap directory_found here ∙ directory_here) e (idle_deeper path next idle)
          ∙ (ap (λ (p : PathNames). look below (child_path p next ++ rest)) (idle-turn directory name inode holds here own directory_here)
          ∙ ap (look below) (append_assoc (child_path (turn top directory) name) (next ∷ []) rest)))

  -- where the layers below show a directory at the natural path, the walk is open, goes on there,
  -- and finds nothing or a plain directory
  pub record Seen (path next : PathNames) : Type 0 where
    pub opened : (walk top path).closed ≡ false
    pub there : (walk top path).next ≡ next
    pub plain : (is_none (walk top path).found || is_plain (mark_at top path)) ≡ true

  seen_nothing : (path next : PathNames) → walk top path ≡ nothing_found next false → Seen path next
  seen_nothing path next is_nothing = record {
    opened = ap (λ (s : Step). s.closed) is_nothing;
    there = ap (λ (s : Step). s.next) is_nothing;
    plain = ap (λ (s : Step). is_none s.found || is_plain (mark_at top path)) is_nothing;
  }

  pub idle-seen : (rest : PathNames) (directory : PathNames) (name : PathName) (inode : Inode) → is_directory_at top directory ≡ true → entry_at top (child_path directory name) ≡ Some inode → IdleFrom (child_path directory name)
      → is_shown_directory (look below (child_path (turn top directory) name ++ rest)) ≡ true
      → Seen (child_path directory name ++ rest) (child_path (turn top directory) name ++ rest)
  idle-seen [] directory name inode holds here idle shown = subst (λ (p : PathNames). Seen p (child_path (turn top directory) name ++ [])) (sym (append-nil path)) (subst (λ (p : PathNames). Seen path p) (sym (append-nil (child_path (turn top directory) name))) (by (is_directory inode) refl))
    where
      path : PathNames
      path = child_path directory name

      own : is_idle top below (path, inode) ≡ true
      own = idle_here path inode idle here

      by : (b : Bool) → is_directory inode ≡ b → Seen path (child_path (turn top directory) name)
      by false file =
          let bad : false ≡ true = sym (idle-file directory name inode holds here own file) ∙ (ap (λ (p : PathNames). is_shown_directory (look below p)) (sym (append-nil (child_path (turn top directory) name))) ∙ shown) in cc
      by true directory_here =
          let walked = walk-whole top path (ap directory_found here ∙ directory_here) in
          record {
            opened = ap (λ (s : Step). s.closed) walked ∙ idle-shut directory name inode holds here own directory_here;
            there = ap (λ (s : Step). s.next) walked ∙ idle-turn directory name inode holds here own directory_here;
            plain = ap (λ m. is_none (walk top path).found || is_plain m) (idle-mark directory name inode holds here own directory_here) ∙ or-true (is_none (walk top path).found);
          }
  idle-seen (next ∷ rest) directory name inode holds here idle shown = by (λ i d e f g. idle-seen rest (child_path directory name) next i d e f g) (is_directory inode) refl (entry_at top (child_path path next)) refl
    where
      path : PathNames
      path = child_path directory name

      own : is_idle top below (path, inode) ≡ true
      own = idle_here path inode idle here

      by : ((i : Inode) → is_directory_at top path ≡ true → entry_at top (child_path path next) ≡ Some i → IdleFrom (child_path path next) → is_shown_directory (look below (child_path (turn top path) next ++ rest)) ≡ true → Seen (child_path path next ++ rest) (child_path (turn top path) next ++ rest))
          → (b : Bool) → is_directory inode ≡ b → (found : Option Inode) → entry_at top (child_path path next) ≡ found → Seen (path ++ next ∷ rest) (child_path (turn top directory) name ++ next ∷ rest)
      by later false file found e =
          let none = nothing-under below each (child_path (turn top directory) name) next rest (idle-file directory name inode holds here own file) in
          let bad : false ≡ true = sym (ap is_shown_directory none) ∙ shown in cc
      by later true directory_here None e =
          seen_nothing (path ++ next ∷ rest) (child_path (turn top directory) name ++ next ∷ rest)
          (walk-stop top path next rest is (ap directory_found here ∙ directory_here) (ap directory_found e)
          ∙ (λ j. walk_beyond (e j) (idle-turn directory name inode holds here own directory_here j) (idle-shut directory name inode holds here own directory_here j) next rest))
      by later true directory_here (Some i) e =
          let same : child_path (turn top path) next ++ rest ≡ child_path (turn top directory) name ++ next ∷ rest =
          ap (λ (p : PathNames). child_path p next ++ rest) (idle-turn directory name inode holds here own directory_here)
          ∙ append_assoc (child_path (turn top directory) name) (next ∷ []) rest in
          subst (λ (p : PathNames). Seen p (child_path (turn top directory) name ++ next ∷ rest)) (append_assoc path (next ∷ []) rest)
          (subst (λ (p : PathNames). Seen (child_path path next ++ rest) p) same
          (later i (ap directory_found here ∙ directory_here) e (idle_deeper path next idle)
          (ap (λ (p : PathNames). is_shown_directory (look below p)) same ∙ shown)))

-- ---- what stays in the layer

module _ (top : Entries) (below : StackView) where
  entry_kept : (b : Bool) (found : Option Inode) → cond (not b) found None ≡ cond b None found
  entry_kept true found = refl
  entry_kept false found = refl

  pub entry_at-vacuumed : (path : PathNames) → entry_at (vacuumed_layer top below) path ≡ cond (is_idle_throughout top below path) None (entry_at top path)
  entry_at-vacuumed path =
      lookup-filter-keys (path_eq path) (λ p. not (is_idle_throughout top below p)) (not (is_idle_throughout top below path))
      (λ p same. ap (λ (q : PathNames). not (is_idle_throughout top below q)) (sym ((pointwise_decides bytes_decides path p).0 same))) top
      ∙ entry_kept (is_idle_throughout top below path) (entry_at top path)

  pub entry-stays : (path : PathNames) → is_idle_throughout top below path ≡ false → entry_at (vacuumed_layer top below) path ≡ entry_at top path
  entry-stays path e = entry_at-vacuumed path ∙ ap (λ b. cond b None (entry_at top path)) e

  pub entry-goes : (path : PathNames) → is_idle_throughout top below path ≡ true → entry_at (vacuumed_layer top below) path ≡ None
  entry-goes path e = entry_at-vacuumed path ∙ ap (λ b. cond b None (entry_at top path)) e

  -- an entry that is left was there, and isn't one that goes
  pub entry-left : (path : PathNames) (inode : Inode) → entry_at (vacuumed_layer top below) path ≡ Some inode → (entry_at top path ≡ Some inode) × (is_idle_throughout top below path ≡ false)
  entry-left path inode here = by (is_idle_throughout top below path) refl
    where
      by : (b : Bool) → is_idle_throughout top below path ≡ b → (entry_at top path ≡ Some inode) × (is_idle_throughout top below path ≡ false)
      by true e = let bad : None ≡ Some inode = sym (entry-goes path e) ∙ here in cc
      by false e = (sym (entry-stays path e) ∙ here, e)

  -- where all are idle at and under a path, each entry there is
  pub idle-each : (path more : PathNames) (inode : Inode) → is_idle_throughout top below path ≡ true → entry_at top (path ++ more) ≡ Some inode → is_idle top below (path ++ more, inode) ≡ true
  idle-each path more inode throughout here =
      let each_one : (not (is_at_or_under path (path ++ more)) || is_idle top below (path ++ more, inode)) ≡ true =
      lookup-all (λ entry. not (is_at_or_under path entry.0) || is_idle top below entry) (path ++ more) top inode throughout here in
      ap (λ b. not b || is_idle top below (path ++ more, inode)) (sym (under-append path more)) ∙ each_one

  pub idle-at : (path : PathNames) (inode : Inode) → is_idle_throughout top below path ≡ true → entry_at top path ≡ Some inode → is_idle top below (path, inode) ≡ true
  idle-at path inode throughout here =
      ap (λ (p : PathNames). is_idle top below (p, inode)) (sym (append-nil path))
      ∙ idle-each path [] inode throughout (ap (entry_at top) (append-nil path) ∙ here)
