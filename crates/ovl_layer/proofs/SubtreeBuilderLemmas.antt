-- Entries that are put together, directory by directory.
use Rattle.std.proofs.Common.{◌≡◌, ◌∙◌, ◌+◌, ◌-◌, ◌<◌, ◌≤◌, ℕ, suc, Bool, true, false, List, [], ◌∷◌, ◌++◌, Option, Some, None, refl, sym, ap, subst, length, take, length-append, arith, le-leb, leb-true}
use Rattle.std.specs.Prelude.{◌&&◌, not, max, nat_le}
use Rattle.std.specs.List.{list_all}
use Rattle.std.specs.Ordering.{is_lt}
use Rattle.std.specs.Cmp.Lexicographic.{nat_list_cmp_total}
use Rattle.std.specs.declared.cmp.Ordering.{Ordering}
use Rattle.std.proofs.lemmas.List.Folds.{list_all-append}
use Rattle.std.proofs.lemmas.List.Elements.{filter_map-append}
use Rattle.ovl_names.specs.Names.{PathName, is_name, name_cmp, slash}
use Rattle.ovl_names.specs.Order.{ascends}
use Rattle.ovl_names.specs.Paths.{PathNames, path_cmp, path_text, parent_path, has_names, depth_limit, text_limit}
use Rattle.ovl_names.proofs.Ascending.{both, not_true, is_lt-Less, list_all-front, ascends-across, ascends-back, ascends-more}
use Rattle.ovl_inode.specs.declared.inodes.Inode.{Inode}
use Rattle.ovl_inode.specs.Attributes.{has_escaped_name}
use Rattle.ovl_inode.specs.Marks.{is_directory}
use Rattle.ovl_inode.specs.Sound.{is_sound_inode}
use Rattle.ovl_layer.specs.Layers.{Entry, Entries, entry_cmp, entry_at, is_directory_at, has_parent, is_within_limits, entry_limit, IsLayer}
use Rattle.ovl_layer.specs.LayerTrees.{NodeView, node_cmp, under, entries_from, entries_of_nodes, entry_in, entries_in, placed}
use Rattle.ovl_layer.specs.Entries.{comes_after}
use Rattle.ovl_layer.specs.TextPaths.{slashed}
use Rattle.ovl_layer.specs.TreeFalls.{length-under}
use Rattle.ovl_layer.specs.declared.subtree_builders.Extent.{Extent}
use Rattle.ovl_layer.specs.SubtreeBuilder.{AreBelow, CanStand, most_names, most_bytes, IsExtent, Fits}
use Rattle.ovl_layer.proofs.EntryLemmas.{limits}
use Rattle.ovl_layer.proofs.NodeLemmas.{name_eq-same, entries_in-under_same, entry_at-in, placed-root}
use Rattle.ovl_layer.proofs.OpenLemmas.{path_cmp-under, ascends-under, nothing_earlier, single, placed-deeper}
use Rattle.ovl_layer.proofs.LayerLemmas.{path_order, closed-kept, IsLayer-root}

-- ---- how much the entries are

most_names-append : (one other : Entries) → most_names (one ++ other) ≡ max (most_names one) (most_names other)
most_names-append [] other = omega arith
most_names-append (entry ∷ one) other = omega (arith, most_names-append one other)

most_bytes-append : (one other : Entries) → most_bytes (one ++ other) ≡ max (most_bytes one) (most_bytes other)
most_bytes-append [] other = omega arith
most_bytes-append (entry ∷ one) other = omega (arith, most_bytes-append one other)

slashed-first : (name : PathName) (path : PathNames) → length (slashed (name ∷ path)) ≡ 1 + length name + length (slashed path)
slashed-first name path = omega (arith, length-append (slash ∷ name) (slashed path))

names-under : (name : PathName) (entries : Entries) → max 1 (most_names (under name entries)) ≡ 1 + most_names entries
names-under name [] = refl
names-under name (entry ∷ entries) = omega (arith, names-under name entries)

bytes-under : (name : PathName) (entries : Entries) → max (1 + length name) (most_bytes (under name entries)) ≡ 1 + length name + most_bytes entries
bytes-under name [] = omega arith
bytes-under name (entry ∷ entries) = omega (arith, bytes-under name entries, slashed-first name entry.0)

-- ... with an entry and those below it
module _ (old kids : Entries) (name : PathName) (inode : Inode) where
  abbrev more : Entries
  more = old ++ under name (entries_from inode kids)

  count-more : length more ≡ length old + 1 + length kids
  count-more = omega (arith, length-append old (under name (entries_from inode kids)), length-under name kids)

  names-more : most_names more ≡ max (most_names old) (1 + most_names kids)
  names-more = omega (arith, most_names-append old (under name (entries_from inode kids)), names-under name kids)

  bytes-more : most_bytes more ≡ max (most_bytes old) (1 + length name + most_bytes kids)
  bytes-more = omega (arith, most_bytes-append old (under name (entries_from inode kids)), bytes-under name kids, slashed-first name [])

-- what keeps the limits by these numbers does so by its paths
within-one : (path : PathNames) → length path ≤ depth_limit → length (slashed path) ≤ text_limit → is_within_limits path ≡ true
within-one path shallow short = sym (limits path shallow) ∙ le-leb (length (slashed path)) text_limit short

within-all : (entries : Entries) → most_names entries ≤ depth_limit → most_bytes entries ≤ text_limit → list_all (λ entry. is_within_limits entry.0) entries ≡ true
within-all [] shallow short = refl
within-all (entry ∷ entries) shallow short =
    rw (within-one entry.0 (omega (arith, shallow)) (omega (arith, short))) (within-all entries (omega (arith, shallow)) (omega (arith, short)))

-- ... and the other way round
within-parts : (path : PathNames) → is_within_limits path ≡ true → (length path ≤ depth_limit) × (length (slashed path) ≤ text_limit)
within-parts path within =
    let parts = both {a = nat_le (length path) depth_limit} {b = nat_le (length (path_text path)) text_limit} within in
    let shallow : length path ≤ depth_limit = leb-true (length path) depth_limit parts.0 in
    (shallow, leb-true (length (slashed path)) text_limit (limits path shallow ∙ within))

within-most : (entries : Entries) → list_all (λ entry. is_within_limits entry.0) entries ≡ true → (most_names entries ≤ depth_limit) × (most_bytes entries ≤ text_limit)
within-most [] all = (omega arith, omega arith)
within-most (entry ∷ entries) all =
    let parts = both {a = is_within_limits entry.0} {b = list_all (λ e. is_within_limits e.0) entries} all in
    let own = within-parts entry.0 parts.0 in
    let rest = within-most entries parts.1 in
    (omega (arith, own.0, rest.0), omega (arith, own.1, rest.1))

-- ---- order

ascends-append : {X : Type 0} (cmp : X → X → Ordering) (one other : List X) → ascends cmp one ≡ true → ascends cmp other ≡ true → list_all (λ x. list_all (λ later. is_lt (cmp x later)) other) one ≡ true → ascends cmp (one ++ other) ≡ true
ascends-append cmp [] other up behind across = behind
ascends-append cmp (x ∷ one) other up behind across =
    let own = both {a = list_all (λ later. is_lt (cmp x later)) one} {b = ascends cmp one} up in
    let over = both {a = list_all (λ later. is_lt (cmp x later)) other} {b = list_all (λ x. list_all (λ later. is_lt (cmp x later)) other) one} across in
    rw (list_all-append (λ later. is_lt (cmp x later)) one other, own.0, over.0) (ascends-append cmp one other own.1 behind over.1)

ascends-front : {X : Type 0} (cmp : X → X → Ordering) (one other : List X) → ascends cmp (one ++ other) ≡ true → ascends cmp one ≡ true
ascends-front cmp [] other up = refl
ascends-front cmp (x ∷ one) other up =
    let parts = both {a = list_all (λ later. is_lt (cmp x later)) (one ++ other)} {b = ascends cmp (one ++ other)} up in
    rw ((list_all-front (λ later. is_lt (cmp x later)) one other parts.0).0) (ascends-front cmp one other parts.1)

-- what comes before an entry comes before those below it
before-under : (path : PathNames) (name : PathName) (entries : Entries) → is_lt (path_cmp path (name ∷ [])) ≡ true → list_all (λ later. is_lt (path_cmp path later.0)) (under name entries) ≡ true
before-under path name [] before = refl
before-under path name (entry ∷ entries) before = rw (one entry.0) (before-under path name entries before)
  where
    one : (below : PathNames) → is_lt (path_cmp path (name ∷ below)) ≡ true
    one [] = before
    one (next ∷ below) = ap is_lt (path_order.trans path (name ∷ []) (name ∷ next ∷ below) (is_lt-Less (path_cmp path (name ∷ [])) before) (path_cmp-under name [] (next ∷ below)))

before-all : (old : Entries) (name : PathName) (entries : Entries) → comes_after old (name ∷ []) ≡ true → list_all (λ entry. list_all (λ later. is_lt (entry_cmp entry later)) (under name entries)) old ≡ true
before-all [] name entries after = refl
before-all (entry ∷ old) name entries after =
    let parts = both {a = is_lt (path_cmp entry.0 (name ∷ []))} {b = comes_after old (name ∷ [])} after in
    rw (before-under entry.0 name entries parts.0) (before-all old name entries parts.1)

-- ---- tests of entries under a name

all-under : (own test : Entry → Bool) (name : PathName) (entries : Entries) → ((entry : Entry) → own entry ≡ true → test (name ∷ entry.0, entry.1) ≡ true) → list_all own entries ≡ true → list_all test (under name entries) ≡ true
all-under own test name [] each all = refl
all-under own test name (entry ∷ entries) each all =
    let parts = both {a = own entry} {b = list_all own entries} all in
    rw (each entry parts.0) (all-under own test name entries each parts.1)

all-below : (own test : Entry → Bool) (name : PathName) (entries : Entries) → ((entry : Entry) → test (name ∷ entry.0, entry.1) ≡ true → own entry ≡ true) → list_all test (under name entries) ≡ true → list_all own entries ≡ true
all-below own test name [] each all = refl
all-below own test name (entry ∷ entries) each all =
    let parts = both {a = test (name ∷ entry.0, entry.1)} {b = list_all test (under name entries)} all in
    rw (each entry parts.0) (all-below own test name entries each parts.1)

-- ---- the directories of entries under a name

parent-under : (name first : PathName) (path : PathNames) → parent_path (name ∷ first ∷ path) ≡ name ∷ parent_path (first ∷ path)
parent-under name first path =
    let longer : length (name ∷ first ∷ path) - 1 ≡ suc (length (first ∷ path) - 1) = omega arith in
    ap (λ (n : ℕ). take n (name ∷ first ∷ path)) longer

module _ (root : Inode) (old : Entries) (name : PathName) (own : Entries) (rooted : is_directory root ≡ true) (after : comes_after old (name ∷ []) ≡ true) where
  abbrev whole : Entries
  whole = entries_from root (old ++ under name own)

  seen : entries_in name whole ≡ own
  seen =
      filter_map-append (entry_in name) old (under name own)
      ∙ (λ j. nothing_earlier name old after j ++ entries_in-under_same name name own (name_eq-same name) j)

  directory-under : (path : PathNames) → is_directory_at whole (name ∷ path) ≡ is_directory_at own path
  directory-under path =
      ap (λ (o : Option Inode). elim o as (λ _. Bool) [ Some inode ↦ is_directory inode | None ↦ false ])
      (entry_at-in whole name path ∙ ap (λ (entries : Entries). entry_at entries path) seen)

  parent-there : (path : PathNames) → has_parent own path ≡ true → has_parent whole (name ∷ path) ≡ true
  parent-there [] has = rooted
  parent-there (first ∷ path) has = ap (is_directory_at whole) (parent-under name first path) ∙ (directory-under (parent_path (first ∷ path)) ∙ has)

-- ---- one more entry with those below it

-- an entry, and those below it
record IsBranch (entries : Entries) : Type 0 where
  pub in_order : ascends entry_cmp entries ≡ true
  pub closed : list_all (λ entry. has_parent entries entry.0) entries ≡ true
  pub named : list_all (λ entry. has_names entry.0) entries ≡ true
  pub sound : list_all (λ entry. is_sound_inode entry.1) entries ≡ true
  pub unescaped : list_all (λ entry. not (has_escaped_name entry.1.attrs)) entries ≡ true

branch : (inode : Inode) (kids : Entries) → AreBelow kids → is_sound_inode inode ≡ true → has_escaped_name inode.attrs ≡ false → (is_directory inode ≡ false → kids ≡ []) → IsBranch (entries_from inode kids)
branch inode kids below sound unescaped files = by (is_directory inode) refl
  where
    by : (b : Bool) → is_directory inode ≡ b → IsBranch (entries_from inode kids)
    by true e =
        let is : IsLayer (entries_from inode kids) = below inode (IsLayer-root inode e sound unescaped) in
        record { in_order = is.in_order; closed = is.closed; named = is.named; sound = is.sound; unescaped = is.unescaped }
    by false e = subst (λ (entries : Entries). IsBranch (entries_from inode entries)) (sym (files e)) (record {
      in_order = refl;
      closed = refl;
      named = refl;
      sound = rw sound refl;
      unescaped = rw unescaped refl;
    })

pub below-more : (old kids : Entries) (name : PathName) (inode : Inode) → AreBelow old → AreBelow kids → comes_after old (name ∷ []) ≡ true → is_name name ≡ true → is_sound_inode inode ≡ true
    → has_escaped_name inode.attrs ≡ false → (is_directory inode ≡ false → kids ≡ [])
    → length (old ++ under name (entries_from inode kids)) < entry_limit → most_names (old ++ under name (entries_from inode kids)) ≤ depth_limit → most_bytes (old ++ under name (entries_from inode kids)) ≤ text_limit
    → AreBelow (old ++ under name (entries_from inode kids))
below-more old kids name inode below lower after named sound unescaped files few shallow short root alone =
    let is : IsLayer (entries_from root old) = below root alone in
    let own : Entries = entries_from inode kids in
    let part : IsBranch own = branch inode kids lower sound unescaped files in
    let more : Entries = under name own in
    let order = both {a = list_all (λ later. is_lt (entry_cmp ([], root) later)) old} {b = ascends entry_cmp old} is.in_order in
    let rises : ascends entry_cmp (old ++ more) ≡ true = ascends-append entry_cmp old more order.1 (ascends-under name own ∙ part.in_order) (before-all old name own after) in
    let there = all-under (λ entry. has_parent own entry.0) (λ entry. has_parent (entries_from root (old ++ more)) entry.0) name own (λ entry. parent-there root old name own alone.rooted after entry.0) part.closed in
    record {
      in_order = rw (list_all-append (λ later. is_lt (entry_cmp ([], root) later)) old more, order.0, before-under [] name own refl) rises;
      rooted = alone.rooted;
      closed = rw (list_all-append (λ entry. has_parent (entries_from root (old ++ more)) entry.0) (entries_from root old) more, closed-kept (entries_from root old) (entries_from root old) more is.closed, there) refl;
      named = rw (list_all-append (λ entry. has_names entry.0) (entries_from root old) more, is.named, all-under (λ entry. has_names entry.0) (λ entry. has_names entry.0) name own (λ entry has. rw (named, has) refl) part.named) refl;
      sound = rw (list_all-append (λ entry. is_sound_inode entry.1) (entries_from root old) more, is.sound, all-under (λ entry. is_sound_inode entry.1) (λ entry. is_sound_inode entry.1) name own (λ entry has. has) part.sound) refl;
      unescaped = rw (list_all-append (λ entry. not (has_escaped_name entry.1.attrs)) (entries_from root old) more, is.unescaped, all-under (λ entry. not (has_escaped_name entry.1.attrs)) (λ entry. not (has_escaped_name entry.1.attrs)) name own (λ entry has. has) part.unescaped) refl;
      limited = within-all (old ++ more) shallow short;
      counted = le-leb (length (entries_from root (old ++ more))) entry_limit (omega (arith, few));
    }

-- ---- siblings by their names

later-name : (one other : PathName) (own rest : PathNames) → is_lt (name_cmp one other) ≡ true → is_lt (path_cmp (one ∷ own) (other ∷ rest)) ≡ true
later-name one other own rest before = rw (is_lt-Less (name_cmp one other) before) refl

all-later : (one other : PathName) (entries : Entries) → is_lt (name_cmp one other) ≡ true → comes_after (under one entries) (other ∷ []) ≡ true
all-later one other [] before = refl
all-later one other (entry ∷ entries) before = rw (later-name one other entry.0 [] before) (all-later one other entries before)

before-name : (nodes : List NodeView) (name : PathName) → list_all (λ node. is_lt (name_cmp node.name name)) nodes ≡ true → comes_after (entries_of_nodes nodes) (name ∷ []) ≡ true
before-name [] name all = refl
before-name (node ∷ nodes) name all =
    let parts = both {a = is_lt (name_cmp node.name name)} {b = list_all (λ n. is_lt (name_cmp n.name name)) nodes} all in
    rw (list_all-append (λ (entry : Entry). is_lt (path_cmp entry.0 (name ∷ []))) (under node.name (entries_from node.inode node.below)) (entries_of_nodes nodes), all-later node.name name (entries_from node.inode node.below) parts.0)
    (before-name nodes name parts.1)

pub names-before : (nodes : List NodeView) (name : PathName) → comes_after (entries_of_nodes nodes) (name ∷ []) ≡ true → list_all (λ node. is_lt (name_cmp node.name name)) nodes ≡ true
names-before [] name after = refl
names-before (node ∷ nodes) name after =
    let test : Entry → Bool = λ entry. is_lt (path_cmp entry.0 (name ∷ [])) in
    let parts = list_all-front test (under node.name (entries_from node.inode node.below)) (entries_of_nodes nodes) after in
    let own = (both {a = is_lt (path_cmp (node.name ∷ []) (name ∷ []))} {b = list_all test (under node.name node.below)} parts.0).0 in
    rw (single node.name name own) (names-before nodes name parts.1)

names-later : (front : List NodeView) (last : NodeView) (name : PathName) → list_all (λ node. is_lt (node_cmp node last)) front ≡ true → is_lt (name_cmp last.name name) ≡ true → list_all (λ node. is_lt (name_cmp node.name name)) front ≡ true
names-later [] last name all before = refl
names-later (node ∷ front) last name all before =
    let parts = both {a = is_lt (node_cmp node last)} {b = list_all (λ n. is_lt (node_cmp n last)) front} all in
    rw (nat_list_cmp_total.trans node.name last.name name (is_lt-Less (node_cmp node last) parts.0) (is_lt-Less (name_cmp last.name name) before)) (names-later front last name parts.1 before)

-- the last of them says whether a name comes after all
pub last-decides : (front : List NodeView) (last : NodeView) (name : PathName) → ascends node_cmp (front ++ last ∷ []) ≡ true → is_lt (name_cmp last.name name) ≡ comes_after (entries_of_nodes (front ++ last ∷ [])) (name ∷ [])
last-decides front last name up = by (is_lt (name_cmp last.name name)) refl (comes_after (entries_of_nodes (front ++ last ∷ [])) (name ∷ [])) refl
  where
    nodes : List NodeView
    nodes = front ++ last ∷ []

    test : NodeView → Bool
    test node = is_lt (name_cmp node.name name)

    by : (b : Bool) → is_lt (name_cmp last.name name) ≡ b → (a : Bool) → comes_after (entries_of_nodes nodes) (name ∷ []) ≡ a → b ≡ a
    by true e true f = refl
    by false e false f = refl
    by true e false f =
        let all : list_all test nodes ≡ true = rw (list_all-append test front (last ∷ []), names-later front last name (ascends-across node_cmp front last [] up) e, e) refl in
        sym (before-name nodes name all) ∙ f
    by false e true f =
        let here = (list_all-front test front (last ∷ []) (names-before nodes name f)).1 in
        sym e ∙ (both {a = is_lt (name_cmp last.name name)} {b = true} here).0

-- siblings with one more
pub nodes-more : (nodes : List NodeView) (node : NodeView) → ascends node_cmp nodes ≡ true → comes_after (entries_of_nodes nodes) (node.name ∷ []) ≡ true → ascends node_cmp (nodes ++ node ∷ []) ≡ true
nodes-more nodes node up after = ascends-more node_cmp nodes node up (names-before nodes node.name after)

-- ---- the measures of one more entry with those below it

pub extent-more : (old kids : Entries) (name : PathName) (inode : Inode) → (length (old ++ under name (entries_from inode kids)) ≡ length old + 1 + length kids)
    × (most_names (old ++ under name (entries_from inode kids)) ≡ max (most_names old) (1 + most_names kids))
    × (most_bytes (old ++ under name (entries_from inode kids)) ≡ max (most_bytes old) (1 + length name + most_bytes kids))
extent-more old kids name inode = (count-more old kids name inode, names-more old kids name inode, bytes-more old kids name inode)

-- ---- what holds of entries that are one after another

pub stand-layer : (root : Inode) (entries : Entries) → IsLayer (entries_from root entries) → CanStand entries
stand-layer root entries is = record {
  in_order = (both {a = list_all (λ later. is_lt (entry_cmp ([], root) later)) entries} {b = ascends entry_cmp entries} is.in_order).1;
  sound = (list_all-front (λ (entry : Entry). is_sound_inode entry.1) (([], root) ∷ []) entries is.sound).1;
  unescaped = (list_all-front (λ (entry : Entry). not (has_escaped_name entry.1.attrs)) (([], root) ∷ []) entries is.unescaped).1;
  limited = (list_all-front (λ (entry : Entry). is_within_limits entry.0) (([], root) ∷ []) entries is.limited).1;
  counted = omega (arith, leb-true (length (entries_from root entries)) entry_limit is.counted);
}

pub stand-front : (one other : Entries) → CanStand (one ++ other) → CanStand one
stand-front one other can = record {
  in_order = ascends-front entry_cmp one other can.in_order;
  sound = (list_all-front (λ (entry : Entry). is_sound_inode entry.1) one other can.sound).0;
  unescaped = (list_all-front (λ (entry : Entry). not (has_escaped_name entry.1.attrs)) one other can.unescaped).0;
  limited = (list_all-front (λ (entry : Entry). is_within_limits entry.0) one other can.limited).0;
  counted = omega (arith, can.counted, length-append one other);
}

pub stand-back : (one other : Entries) → CanStand (one ++ other) → CanStand other
stand-back one other can = record {
  in_order = ascends-back entry_cmp one other can.in_order;
  sound = (list_all-front (λ (entry : Entry). is_sound_inode entry.1) one other can.sound).1;
  unescaped = (list_all-front (λ (entry : Entry). not (has_escaped_name entry.1.attrs)) one other can.unescaped).1;
  limited = (list_all-front (λ (entry : Entry). is_within_limits entry.0) one other can.limited).1;
  counted = omega (arith, can.counted, length-append one other);
}

within-below : (name : PathName) (path : PathNames) → is_within_limits (name ∷ path) ≡ true → is_within_limits path ≡ true
within-below name path within =
    let parts = within-parts (name ∷ path) within in
    within-one path (omega (arith, parts.0)) (omega (arith, parts.1, slashed-first name path))

stand-below : (name : PathName) (entries : Entries) → CanStand (under name entries) → CanStand entries
stand-below name entries can = record {
  in_order = sym (ascends-under name entries) ∙ can.in_order;
  sound = all-below (λ entry. is_sound_inode entry.1) (λ entry. is_sound_inode entry.1) name entries (λ entry is. is) can.sound;
  unescaped = all-below (λ entry. not (has_escaped_name entry.1.attrs)) (λ entry. not (has_escaped_name entry.1.attrs)) name entries (λ entry is. is) can.unescaped;
  limited = all-below (λ entry. is_within_limits entry.0) (λ entry. is_within_limits entry.0) name entries (λ entry is. within-below name entry.0 is) can.limited;
  counted = omega (arith, can.counted, length-under name entries);
}

pub stand-placed : (path : PathNames) (entries : Entries) → CanStand (placed path entries) → CanStand entries
stand-placed [] entries can = subst CanStand (placed-root entries) can
stand-placed (name ∷ path) entries can = stand-placed path entries (stand-below name (placed path entries) (subst CanStand (sym (placed-deeper name path entries)) can))

-- ---- what no layer has

-- the entry can be after these, whatever lies below it
abbrev pub takes_entry : Entries → PathName → Inode → Bool
takes_entry old name inode = comes_after old (name ∷ []) && is_sound_inode inode && not (has_escaped_name inode.attrs)

pub takes-parts : (old : Entries) (name : PathName) (inode : Inode) → takes_entry old name inode ≡ true → (comes_after old (name ∷ []) ≡ true) × (is_sound_inode inode ≡ true) × (has_escaped_name inode.attrs ≡ false)
takes-parts old name inode takes =
    let first = both {a = comes_after old (name ∷ []) && is_sound_inode inode} {b = not (has_escaped_name inode.attrs)} takes in
    let parts = both {a = comes_after old (name ∷ [])} {b = is_sound_inode inode} first.0 in
    (parts.0, parts.1, not_true (has_escaped_name inode.attrs) first.1)

module _ (old kids : Entries) (name : PathName) (inode : Inode) (can : CanStand (old ++ under name (entries_from inode kids))) where
  stand-after : comes_after old (name ∷ []) ≡ true
  stand-after = ascends-across entry_cmp old (name ∷ [], inode) (under name kids) can.in_order

  stand-sound : is_sound_inode inode ≡ true
  stand-sound = (both {a = is_sound_inode inode} {b = list_all (λ (entry : Entry). is_sound_inode entry.1) (under name kids)} (list_all-front (λ (entry : Entry). is_sound_inode entry.1) old (under name (entries_from inode kids)) can.sound).1).0

  stand-unescaped : has_escaped_name inode.attrs ≡ false
  stand-unescaped = not_true (has_escaped_name inode.attrs) (both {a = not (has_escaped_name inode.attrs)} {b = list_all (λ (entry : Entry). not (has_escaped_name entry.1.attrs)) (under name kids)}
      (list_all-front (λ (entry : Entry). not (has_escaped_name entry.1.attrs)) old (under name (entries_from inode kids)) can.unescaped).1).0

  pub stand-takes : takes_entry old name inode ≡ true
  stand-takes = rw (stand-after, stand-sound, stand-unescaped) refl

pub stand-fits : (entries : Entries) (extent : Extent) → IsExtent entries extent → CanStand entries → Fits extent
stand-fits entries extent is can =
    let most = within-most entries can.limited in
    record { few = omega (arith, is.count, can.counted); shallow = omega (arith, is.names, most.0); short = omega (arith, is.bytes, most.1) }
