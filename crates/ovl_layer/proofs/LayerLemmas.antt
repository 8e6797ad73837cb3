-- Layers with one more entry, and where the last entry stands.
use Rattle.std.proofs.Common.{◌≡◌, ℕ, ◌+◌, ◌-◌, ◌<◌, ◌≤◌, length, take, Bool, true, false, Option, Some, None, [], ◌∷◌, ◌++◌, refl, sym, ap, ◌∙◌, subst, arith, le-leb, length-append, get_or}
use Rattle.std.proofs.Math.Seq.{take-length}
use Rattle.std.proofs.Common.{length-take-le}
use Rattle.std.proofs.lemmas.Cmp.{tied_itself}
use Rattle.std.proofs.lemmas.List.{take_more}
use Rattle.ovl_inode.specs.Marks.{is_directory}
use Rattle.std.specs.Prelude.{◌&&◌, ◌||◌, not}
use Rattle.std.specs.List.{list_all}
use Rattle.std.specs.Ordering.{is_lt}
use Rattle.std.specs.Cmp.{IsTotalOrder}
use Rattle.std.specs.Cmp.Lexicographic.{nat_list_cmp_total, lists_total, bytes_decides, pointwise_decides}
use Rattle.std.specs.declared.cmp.Ordering.{Ordering}
use Rattle.std.specs.declared.cmp.Ordering.TheVariants.{Less, Equal, Greater}
use Rattle.std.proofs.lemmas.List.Folds.{list_all-append}
use Rattle.ovl_names.specs.Names.{PathName, name_cmp}
use Rattle.ovl_names.specs.Paths.{PathNames, path_cmp, path_eq, parent_path, child_path, is_root, has_names}
use Rattle.ovl_names.specs.Order.{ascends}
use Rattle.ovl_names.proofs.Ascending.{both, is_lt-Less, ascends-across, ascends-more}
use Rattle.ovl_inode.specs.declared.inodes.Inode.{Inode}
use Rattle.ovl_inode.specs.Attributes.{has_escaped_name}
use Rattle.ovl_inode.specs.Sound.{is_sound_inode}
use Rattle.ovl_layer.specs.Layers.{Entry, Entries, entry_cmp, entry_at, is_directory_at, has_parent, is_within_limits, entry_limit, IsLayer}
use Rattle.ovl_layer.specs.Entries.{comes_after}
use Rattle.ovl_layer.proofs.NodeLemmas.{name_eq-cmp}

pub path_order : IsTotalOrder path_cmp
path_order = lists_total nat_list_cmp_total

-- ---- an entry after the last

-- a path comes after all entries of a list in order exactly if it comes after the last
later-all : (front : Entries) (last path : PathNames) (inode : Inode) → list_all (λ e. is_lt (entry_cmp e (last, inode))) front ≡ true → is_lt (path_cmp last path) ≡ true → comes_after front path ≡ true
later-all [] last path inode before after = refl
later-all (entry ∷ front) last path inode before after =
    let parts = both {a = is_lt (entry_cmp entry (last, inode))} {b = list_all (λ e. is_lt (entry_cmp e (last, inode))) front} before in
    rw (path_order.trans entry.0 last path (is_lt-Less (path_cmp entry.0 last) parts.0) (is_lt-Less (path_cmp last path) after)) (later-all front last path inode parts.1 after)

pub comes_after-last : (front : Entries) (last path : PathNames) (inode : Inode) → ascends entry_cmp (front ++ (last, inode) ∷ []) ≡ true → comes_after (front ++ (last, inode) ∷ []) path ≡ is_lt (path_cmp last path)
comes_after-last front last path inode up = by (is_lt (path_cmp last path)) refl
  where
    split : comes_after (front ++ (last, inode) ∷ []) path ≡ (comes_after front path && (is_lt (path_cmp last path) && true))
    split = list_all-append (λ (e : Entry). is_lt (path_cmp e.0 path)) front ((last, inode) ∷ [])

    falls : (b : Bool) → (b && false) ≡ false
    falls true = refl
    falls false = refl

    by : (b : Bool) → is_lt (path_cmp last path) ≡ b → comes_after (front ++ (last, inode) ∷ []) path ≡ b
    by true e = split ∙ rw e (rw (later-all front last path inode (ascends-across entry_cmp front (last, inode) [] up) e) refl)
    by false e = split ∙ rw e (falls (comes_after front path))

-- ---- the directory of an entry after the last

pub path_cmp-same : (path : PathNames) → path_cmp path path ≡ Equal
path_cmp-same path = tied_itself path_order path

-- of two paths, neither of which the last may come before
at_most : (one other : PathNames) → is_lt (path_cmp one other) ≡ true → is_lt (path_cmp other one) ≡ false
at_most one other before = rw (path_order.antisymm other one, is_lt-Less (path_cmp one other) before) refl

-- an entry that is there comes at the last, or before it
pub not_after-last : (front : Entries) (last path : PathNames) (inode : Inode) → list_all (λ e. is_lt (entry_cmp e (last, inode))) front ≡ true → (found : Inode) → entry_at (front ++ (last, inode) ∷ []) path ≡ Some found → is_lt (path_cmp last path) ≡ false
not_after-last [] last path inode before found at = by (path_eq path last) refl
  where
    by : (b : Bool) → path_eq path last ≡ b → is_lt (path_cmp last path) ≡ false
    by true e = ap (λ (p : PathNames). is_lt (path_cmp last p)) ((pointwise_decides bytes_decides path last).0 e) ∙ ap is_lt (path_cmp-same last)
    by false e = let bad : None ≡ Some found = rw e at at in cc
not_after-last (entry ∷ front) last path inode before found at = by (not_after-last front last path inode parts.1 found) (path_eq path entry.0) refl
  where
    parts : (is_lt (entry_cmp entry (last, inode)) ≡ true) × (list_all (λ e. is_lt (entry_cmp e (last, inode))) front ≡ true)
    parts = both {a = is_lt (entry_cmp entry (last, inode))} {b = list_all (λ e. is_lt (entry_cmp e (last, inode))) front} before

    by : (entry_at (front ++ (last, inode) ∷ []) path ≡ Some found → is_lt (path_cmp last path) ≡ false) → (b : Bool) → path_eq path entry.0 ≡ b → is_lt (path_cmp last path) ≡ false
    by later true e = ap (λ (p : PathNames). is_lt (path_cmp last p)) ((pointwise_decides bytes_decides path entry.0).0 e) ∙ at_most entry.0 last parts.0
    by later false e = later (rw e at at)

-- a path between a directory and an entry in it lies in the directory
pub between : (directory last : PathNames) (name : PathName) → is_lt (path_cmp last directory) ≡ false → is_lt (path_cmp last (child_path directory name)) ≡ true → (take (length directory) last ≡ directory) × (length directory ≤ length last)
between [] last name low high = (refl, omega arith)
between (first ∷ directory) [] name low high = let bad : true ≡ false = low in cc
between (first ∷ directory) (own ∷ last) name low high = by (between directory last name) (name_cmp own first) refl
  where
    by : (is_lt (path_cmp last directory) ≡ false → is_lt (path_cmp last (child_path directory name)) ≡ true → (take (length directory) last ≡ directory) × (length directory ≤ length last)) → (o : Ordering) → name_cmp own first ≡ o → (take (length (first ∷ directory)) (own ∷ last) ≡ first ∷ directory) × (length (first ∷ directory) ≤ length (own ∷ last))
    by deeper Less e = let bad : true ≡ false = rw e at low in cc
    by deeper Equal e =
        let same : own ≡ first = (bytes_decides own first).0 (name_eq-cmp own first Equal e) in
        let rest = deeper (rw e at low) (rw e at high) in
        ((λ j. same j ∷ rest.0 j), omega (arith, rest.1))
    by deeper Greater e = let bad : false ≡ true = rw e at high in cc

-- a path that isn't the root is an entry of its directory
pub in_parent : (path : PathNames) (d : PathName) → 0 < length path → path ≡ child_path (parent_path path) (get_or path (length path - 1) d)
in_parent path d some =
    sym (take-length path)
    ∙ (ap (λ n. take n path) (omega (arith, some))
    ∙ take_more path (length path - 1) d (omega (arith, some)))

-- what comes after another path isn't the root
pub after-some : (last path : PathNames) → is_lt (path_cmp last path) ≡ true → 0 < length path
after-some [] [] after = let bad : false ≡ true = after in cc
after-some (name ∷ last) [] after = let bad : false ≡ true = after in cc
after-some last (name ∷ path) after = omega arith

-- the directory of an entry after the last is on the way to the last, if it is there
module _ (entries front : Entries) (last path : PathNames) (inode : Inode) (ends : entries ≡ front ++ (last, inode) ∷ []) (up : ascends entry_cmp entries ≡ true) (after : is_lt (path_cmp last path) ≡ true) where
  depth_of : length (parent_path path) ≡ length path - 1
  depth_of = length-take-le (length path - 1) path (omega arith)

  before_last : list_all (λ e. is_lt (entry_cmp e (last, inode))) front ≡ true
  before_last = ascends-across entry_cmp front (last, inode) [] (subst (λ (es : Entries). ascends entry_cmp es ≡ true) ends up)

  pub parent_on_way : is_directory_at entries (parent_path path) ≡ true → (take (length path - 1) last ≡ parent_path path) × (length path - 1 ≤ length last)
  parent_on_way is = by (entry_at entries (parent_path path)) refl
    where
      by : (o : Option Inode) → entry_at entries (parent_path path) ≡ o → (take (length path - 1) last ≡ parent_path path) × (length path - 1 ≤ length last)
      by None e = let bad : false ≡ true = rw (e, is_directory_at) at is in cc
      by (Some found) e =
          let there : entry_at (front ++ (last, inode) ∷ []) (parent_path path) ≡ Some found = subst (λ (es : Entries). entry_at es (parent_path path) ≡ Some found) ends e in
          let low = not_after-last front last (parent_path path) inode before_last found there in
          let high = subst (λ (p : PathNames). is_lt (path_cmp last p) ≡ true) (in_parent path [] (after-some last path after)) after in
          let result = between (parent_path path) last (get_or path (length path - 1) []) low high in
          (ap (λ n. take n last) (sym depth_of) ∙ result.0, subst (λ (n : ℕ). n ≤ length last) depth_of result.1)

  absent : (is_directory_at entries (parent_path path) ≡ true → ⊥) → is_directory_at entries (parent_path path) ≡ false
  absent never = by (is_directory_at entries (parent_path path)) refl
    where
      by : (b : Bool) → is_directory_at entries (parent_path path) ≡ b → is_directory_at entries (parent_path path) ≡ false
      by true e = absurd (never e)
      by false e = e

  pub no_parent-deep : length last < length path - 1 → is_directory_at entries (parent_path path) ≡ false
  no_parent-deep deep = absent (λ is. let way = parent_on_way is in omega (arith, way.1, deep))

  pub no_parent-other : path_eq (take (length path - 1) path) (take (length path - 1) last) ≡ false → is_directory_at entries (parent_path path) ≡ false
  no_parent-other other = absent (λ is.
      let way = parent_on_way is in
      let same : path_eq (take (length path - 1) path) (take (length path - 1) last) ≡ true = (pointwise_decides bytes_decides (take (length path - 1) path) (take (length path - 1) last)).1 (sym way.0) in
      let bad : false ≡ true = sym other ∙ same in cc)

-- ---- layers that grow

lookup-kept : (front more : Entries) (path : PathNames) (inode : Inode) → entry_at front path ≡ Some inode → entry_at (front ++ more) path ≡ Some inode
lookup-kept [] more path inode at = let bad : None ≡ Some inode = at in cc
lookup-kept (entry ∷ front) more path inode at = by (lookup-kept front more path inode) (path_eq path entry.0) refl
  where
    by : (entry_at front path ≡ Some inode → entry_at (front ++ more) path ≡ Some inode) → (b : Bool) → path_eq path entry.0 ≡ b → entry_at ((entry ∷ front) ++ more) path ≡ Some inode
    by later true e = rw e (rw e at at)
    by later false e = rw e (later (rw e at at))

pub directory-kept : (front more : Entries) (path : PathNames) → is_directory_at front path ≡ true → is_directory_at (front ++ more) path ≡ true
directory-kept front more path is = by (entry_at front path) refl
  where
    by : (o : Option Inode) → entry_at front path ≡ o → is_directory_at (front ++ more) path ≡ true
    by None e = let bad : false ≡ true = rw (e, is_directory_at) at is in cc
    by (Some inode) e = rw (lookup-kept front more path inode e, is_directory_at) (rw (e, is_directory_at) at is)

pub closed-kept : (whole : Entries) (front more : Entries) → list_all (λ entry. has_parent whole entry.0) front ≡ true → list_all (λ entry. has_parent (whole ++ more) entry.0) front ≡ true
closed-kept whole [] more all = refl
closed-kept whole (entry ∷ front) more all =
    let parts = both {a = has_parent whole entry.0} {b = list_all (λ e. has_parent whole e.0) front} all in
    rw (kept (is_root entry.0) refl parts.0) (closed-kept whole front more parts.1)
  where
    kept : (b : Bool) → is_root entry.0 ≡ b → has_parent whole entry.0 ≡ true → has_parent (whole ++ more) entry.0 ≡ true
    kept true e has = rw e refl
    kept false e has = rw e (directory-kept whole more (parent_path entry.0) (rw e at has))

or_right : (a b : Bool) → b ≡ true → (a || b) ≡ true
or_right true b e = refl
or_right false b e = e

all-more : (test : Entry → Bool) (layer : Entries) (entry : Entry) → list_all test layer ≡ true → test entry ≡ true → list_all test (layer ++ entry ∷ []) ≡ true
all-more test layer entry all is = rw (list_all-append test layer (entry ∷ []), all, is) refl

-- a layer, and one more entry that comes after all others and whose directory is there
pub IsLayer-more : (layer : Entries) (path : PathNames) (inode : Inode) → IsLayer layer → comes_after layer path ≡ true → is_directory_at layer (parent_path path) ≡ true → has_names path ≡ true → is_sound_inode inode ≡ true → has_escaped_name inode.attrs ≡ false → is_within_limits path ≡ true → length layer < entry_limit → IsLayer (layer ++ (path, inode) ∷ [])
IsLayer-more layer path inode is after parent named sound unescaped limited room = record {
  in_order = ascends-more entry_cmp layer (path, inode) is.in_order after;
  rooted = directory-kept layer ((path, inode) ∷ []) [] is.rooted;
  closed =
      let whole : Entries = layer ++ (path, inode) ∷ [] in
      let own : has_parent whole path ≡ true = or_right (is_root path) (is_directory_at whole (parent_path path)) (directory-kept layer ((path, inode) ∷ []) (parent_path path) parent) in
      rw (list_all-append (λ (entry : Entry). has_parent whole entry.0) layer ((path, inode) ∷ []), closed-kept layer layer ((path, inode) ∷ []) is.closed, own) refl;
  named = all-more (λ entry. has_names entry.0) layer (path, inode) is.named named;
  sound = all-more (λ entry. is_sound_inode entry.1) layer (path, inode) is.sound sound;
  unescaped = all-more (λ entry. not (has_escaped_name entry.1.attrs)) layer (path, inode) is.unescaped (rw unescaped refl);
  limited = all-more (λ entry. is_within_limits entry.0) layer (path, inode) is.limited limited;
  counted = rw (length-append layer ((path, inode) ∷ [])) (le-leb (length layer + 1) entry_limit (omega (arith, room)));
}

-- only a root
pub IsLayer-root : (inode : Inode) → is_directory inode ≡ true → is_sound_inode inode ≡ true → has_escaped_name inode.attrs ≡ false → IsLayer (([], inode) ∷ [])
IsLayer-root inode directory sound unescaped = record {
  in_order = refl;
  rooted = directory;
  closed = refl;
  named = refl;
  sound = rw sound refl;
  unescaped = rw unescaped refl;
  limited = refl;
  counted = refl;
}
