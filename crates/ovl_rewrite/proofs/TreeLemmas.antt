-- The entries that a new layer's tree gives: in order, and at each path what the new layer has.
use Rattle.std.proofs.Common.{◌≡◌, ℕ, zero, suc, ◌+◌, ◌≤◌, inl, inr, Bool, true, false, cond, Option, Some, None, List, [], ◌∷◌, ◌++◌, length, refl, sym, ap, ◌∙◌, subst, append_assoc, arith, length-append}
use Rattle.std.specs.declared.cmp.Ordering.TheVariants.{Less, Equal}
use Rattle.std.specs.Cmp.Lexicographic.{nat_list_cmp_total, pointwise_decides, bytes_decides}
use Rattle.ovl_names.specs.Names.{PathName, name_cmp}
use Rattle.ovl_names.specs.Order.{ascends}
use Rattle.ovl_names.specs.Paths.{PathNames, child_path, path_eq, path_cmp}
use Rattle.ovl_inode.specs.declared.inodes.Inode.{Inode}
use Rattle.ovl_layer.specs.Layers.{Entries, Entry, entry_at, entry_cmp}
use Rattle.ovl_layer.proofs.LayerLemmas.{path_cmp-same}
use Rattle.ovl_board.proofs.LawsOfMembers.{In, Rises, In-flat_map, In-flat_map-cases, Rises-flat_map, In-Contains}
use Rattle.ovl_board.proofs.LawsOfPieces.{prefix_before, fork_before}
use Rattle.ovl_rewrite.specs.Directories.{NamedInode}
use Rattle.ovl_rewrite.specs.Passes.{TreeEntries, IsTree, entries_under}
use Rattle.ovl_rewrite.specs.NewLayers.{NewLayer, IsOf, is_directory_found, has_directory, tree_by, AreNamesOf}
use Rattle.ovl_rewrite.proofs.Ascents.{rising-ascend}
use Rattle.ovl_rewrite.proofs.DirectoryLemmas.{EntryBefore, entry-new, new-entry, entries-rise, kids-lawful}

-- ---- what is found among rising entries

abbrev Before : Entry → Entry → Type 0
Before one other = path_cmp one.0 other.0 ≡ Less

pub found-In : (entries : Entries) (path : PathNames) (inode : Inode) → entry_at entries path ≡ Some inode → In (path, inode) entries
found-In [] path inode here = let bad : None ≡ Some inode = here in cc
found-In (entry ∷ entries) path inode here = by (found-In entries path inode) (path_eq path entry.0) refl here
  where
    by : (entry_at entries path ≡ Some inode → In (path, inode) entries) → (b : Bool) → path_eq path entry.0 ≡ b → cond b (Some entry.1) (entry_at entries path) ≡ Some inode → In (path, inode) (entry ∷ entries)
    by later true e here =
        let same : entry.1 ≡ inode = cc in
        inl (λ j. ((pointwise_decides bytes_decides path entry.0).0 e j, sym same j))
    by later false e here = inr (later here)

pub In-found : (entries : Entries) (path : PathNames) (inode : Inode) → Rises Before entries → In (path, inode) entries → entry_at entries path ≡ Some inode
In-found [] path inode up h = absurd h
In-found (entry ∷ entries) path inode up (inl same) =
    let here : path_eq path entry.0 ≡ true = (pointwise_decides bytes_decides path entry.0).1 (ap (λ (e : Entry). e.0) same) in
    ap (λ b. cond b (Some entry.1) (entry_at entries path)) here ∙ ap (λ (e : Entry). Some e.1) (sym same)
In-found (entry ∷ entries) path inode up (inr h) = by (path_eq path entry.0) refl (In-found entries path inode up.1 h)
  where
    by : (b : Bool) → path_eq path entry.0 ≡ b → entry_at entries path ≡ Some inode → cond b (Some entry.1) (entry_at entries path) ≡ Some inode
    by false e later = later
    by true e later =
        let same : path ≡ entry.0 = (pointwise_decides bytes_decides path entry.0).0 e in
        let bad : Less ≡ Equal = sym (up.0 (path, inode) h) ∙ (ap (λ (p : PathNames). path_cmp p path) (sym same) ∙ path_cmp-same path) in cc

module _ (new : NewLayer) (names : PathNames → List PathName) (deepest : ℕ) (told : AreNamesOf new names deepest) where
  abbrev tree : TreeEntries
  tree = tree_by new names

  abbrev under : ℕ → PathNames → Entries
  under depth directory = entries_under tree depth directory

  abbrev with_under : ℕ → PathNames → NamedInode → Entries
  with_under depth directory entry = (child_path directory entry.0, entry.1) ∷ under depth (child_path directory entry.0)

  -- ---- in order

  -- what is reported of an entry lies at or under it
  lies-told : (depth : ℕ) (directory : PathNames) (one : NamedInode) (entry : Entry)
      → (In entry (under depth (child_path directory one.0)) → (name : PathName) × (rest : PathNames) × (entry.0 ≡ child_path directory one.0 ++ name ∷ rest))
      → In entry (with_under depth directory one) → (rest : PathNames) × (entry.0 ≡ directory ++ one.0 ∷ rest)
  lies-told depth directory one entry later (inl same) = ([], ap (λ (e : Entry). e.0) same)
  lies-told depth directory one entry later (inr h) =
      let deeper = later h in
      (deeper.0 ∷ deeper.1, deeper.2 ∙ append_assoc directory (one.0 ∷ []) (deeper.0 ∷ deeper.1))

  lies-under : (depth : ℕ) (directory : PathNames) (entry : Entry) → In entry (under depth directory) → (name : PathName) × (rest : PathNames) × (entry.0 ≡ directory ++ name ∷ rest)
  lies-under zero directory entry h = absurd h
  lies-under (suc depth) directory entry h =
      let one = In-flat_map-cases (with_under depth directory) entry (tree directory) h in
      let there = lies-told depth directory one.0 entry (λ k. lies-under depth (child_path directory one.0.0) entry k) one.2 in
      (one.0.0, there.0, there.1)

  under-rise : (depth : ℕ) (directory : PathNames) → Rises Before (under depth directory)
  under-rise zero directory = tt
  under-rise (suc depth) directory =
      Rises-flat_map (with_under depth directory) Before (tree directory)
      (λ one h. (
        (λ entry k.
            let deeper = lies-under depth (child_path directory one.0) entry k in
            ap (path_cmp (child_path directory one.0)) deeper.2 ∙ prefix_before name_cmp nat_list_cmp_total (child_path directory one.0) deeper.0 deeper.1),
        under-rise depth (child_path directory one.0),
      ))
      (apart (tree directory) (entries-rise new names deepest told directory))
    where
      apart : (entries : List NamedInode) → Rises EntryBefore entries → Rises (λ a b. (y z : Entry) → In y (with_under depth directory a) → In z (with_under depth directory b) → Before y z) entries
      apart [] up = tt
      apart (one ∷ entries) up = (
        (λ other h y z k l.
            let first = lies-told depth directory one y (λ m. lies-under depth (child_path directory one.0) y m) k in
            let second = lies-told depth directory other z (λ m. lies-under depth (child_path directory other.0) z m) l in
            (λ j. path_cmp (first.1 j) (second.1 j)) ∙ fork_before name_cmp nat_list_cmp_total directory one.0 other.0 first.0 second.0 (up.0 other h)),
        apart entries up.1,
      )

  -- ---- what the new layer has

  under-new : (depth : ℕ) (directory : PathNames) (entry : Entry) → In entry (under depth directory) → new entry.0 ≡ Some entry.1
  under-new zero directory entry h = absurd h
  under-new (suc depth) directory entry h = by (λ k. under-new depth (child_path directory one.0.0) entry k) one.2
    where
      one : (x : NamedInode) × (In x (tree directory)) × (In entry (with_under depth directory x))
      one = In-flat_map-cases (with_under depth directory) entry (tree directory) h

      by : (In entry (under depth (child_path directory one.0.0)) → new entry.0 ≡ Some entry.1) → In entry (with_under depth directory one.0) → new entry.0 ≡ Some entry.1
      by later (inl same) = ap (λ (e : Entry). new e.0) same ∙ (entry-new new names deepest told directory one.0 one.1 ∙ ap (λ (e : Entry). Some e.1) (sym same))
      by later (inr k) = later k

  -- where it has something under a path, it has a directory there
  new-above : (path : PathNames) (name : PathName) (rest : PathNames) (inode : Inode) → new (path ++ name ∷ rest) ≡ Some inode → has_directory new path ≡ true
  new-above path name [] inode here = told.closed path name inode here
  new-above path name (other ∷ rest) inode here = by (new (child_path path name)) refl (new-above (child_path path name) other rest inode (ap new (append_assoc path (name ∷ []) (other ∷ rest)) ∙ here))
    where
      by : (found : Option Inode) → new (child_path path name) ≡ found → has_directory new (child_path path name) ≡ true → has_directory new path ≡ true
      by None e is = let bad : false ≡ true = ap is_directory_found (sym e) ∙ is in cc
      by (Some i) e is = told.closed path name i e

  new-under : (depth : ℕ) (directory : PathNames) (name : PathName) (rest : PathNames) (inode : Inode) → suc deepest ≤ depth + length directory
      → new (directory ++ name ∷ rest) ≡ Some inode → In (directory ++ name ∷ rest, inode) (under depth directory)
  new-under zero directory name rest inode enough here = absurd (omega (arith, enough, told.shallow directory (new-above directory name rest inode here)))
  new-under (suc depth) directory name [] inode enough here =
      In-flat_map (with_under depth directory) (directory ++ name ∷ [], inode) (name, inode) (tree directory) (new-entry new names deepest told directory name inode here) (inl refl)
  new-under (suc depth) directory name (other ∷ rest) inode enough here =
      by (new-under depth (child_path directory name) other rest inode (omega (arith, enough, length-append directory (name ∷ []))) there)
      (new (child_path directory name)) refl (new-above (child_path directory name) other rest inode there)
    where
      there : new (child_path directory name ++ other ∷ rest) ≡ Some inode
      there = ap new (append_assoc directory (name ∷ []) (other ∷ rest)) ∙ here

      by : In (child_path directory name ++ other ∷ rest, inode) (under depth (child_path directory name))
          → (found : Option Inode) → new (child_path directory name) ≡ found → has_directory new (child_path directory name) ≡ true → In (directory ++ name ∷ other ∷ rest, inode) (under (suc depth) directory)
      by deeper None e is = let bad : false ≡ true = ap is_directory_found (sym e) ∙ is in cc
      by deeper (Some i) e is =
          In-flat_map (with_under depth directory) (directory ++ name ∷ other ∷ rest, inode) (name, i) (tree directory) (new-entry new names deepest told directory name i e)
          (inr (subst (λ (p : PathNames). In (p, inode) (under depth (child_path directory name))) (append_assoc directory (name ∷ []) (other ∷ rest)) deeper))

  -- ---- the whole

  module _ (root : Inode) (rooted : new [] ≡ Some root) where
    abbrev below : Entries
    below = under (suc deepest) []

    pub told-ascend : ascends entry_cmp (([], root) ∷ below) ≡ true
    told-ascend = rising-ascend entry_cmp (([], root) ∷ below) (
      (λ entry h.
          let deeper = lies-under (suc deepest) [] entry h in
          ap (path_cmp []) deeper.2 ∙ prefix_before name_cmp nat_list_cmp_total [] deeper.0 deeper.1),
      under-rise (suc deepest) [],
    )

    pub told-of : IsOf new (([], root) ∷ below)
    told-of [] = sym rooted
    told-of (name ∷ rest) = by (new (name ∷ rest)) refl
      where
        by : (found : Option Inode) → new (name ∷ rest) ≡ found → entry_at below (name ∷ rest) ≡ found
        by (Some i) e = In-found below (name ∷ rest) i (under-rise (suc deepest) []) (new-under (suc deepest) [] name rest i (omega arith) e)
        by None e = none (entry_at below (name ∷ rest)) refl
          where
            none : (there : Option Inode) → entry_at below (name ∷ rest) ≡ there → there ≡ None
            none None f = refl
            none (Some i) f =
                let bad : None ≡ Some i = sym e ∙ under-new (suc deepest) [] (name ∷ rest, i) (found-In below (name ∷ rest) i f) in cc

  -- ---- its directories are a tree

  no-members : (entries : List NamedInode) → ((entry : NamedInode) → In entry entries → ⊥) → entries ≡ []
  no-members [] none = refl
  no-members (entry ∷ entries) none = absurd (none entry (inl refl))

  -- an entry may lie one name below the deepest directory
  pub is-tree : IsTree tree (suc deepest)
  is-tree = record {
    lawful = kids-lawful new names deepest told (suc deepest) (omega arith);
    bounded = λ directory deep. no-members (tree directory) (λ entry h.
        absurd (omega (arith, deep, told.shallow directory (told.closed directory entry.0 entry.1 (entry-new new names deepest told directory entry h)))));
    files = λ directory entry contains file. no-members (tree (child_path directory entry.0)) (λ kid h.
        let here : new (child_path directory entry.0) ≡ Some entry.1 = entry-new new names deepest told directory entry (In-Contains entry (tree directory) contains) in
        let holds = told.closed (child_path directory entry.0) kid.0 kid.1 (entry-new new names deepest told (child_path directory entry.0) kid h) in
        let bad : false ≡ true = sym file ∙ (ap is_directory_found (sym here) ∙ holds) in cc);
  }
