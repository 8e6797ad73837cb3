-- The entries of open nodes.
use Rattle.std.proofs.Common.{◌≡◌, ℕ, zero, suc, ◌+◌, ◌-◌, ◌<◌, ◌≤◌, length, get_or, set, take, Bool, true, false, Some, None, List, [], ◌∷◌, ◌++◌, map, refl, sym, ap, ◌∙◌, subst, append_assoc, arith, length-append}
use Rattle.std.specs.Prelude.{◌&&◌}
use Rattle.std.specs.List.{list_all}
use Rattle.std.specs.Ordering.{is_lt}
use Rattle.std.specs.Cmp.Lexicographic.{bytes_decides, nat_list_cmp_total}
use Rattle.std.specs.declared.cmp.Ordering.{Ordering}
use Rattle.std.specs.declared.cmp.Ordering.TheVariants.{Less, Equal, Greater}
use Rattle.std.proofs.lemmas.Cmp.{tied_itself}
use Rattle.std.proofs.lemmas.List.{append-nil, map-append, take_more, take_more_set, take_all, length-set, length-map}
use Rattle.std.proofs.lemmas.List.Elements.{filter_map-append}
use Rattle.std.proofs.Math.Seq.{take-append_seam}
use Rattle.ovl_names.specs.Names.{PathName, name_cmp, name_eq}
use Rattle.ovl_names.specs.Paths.{PathNames, path_cmp}
use Rattle.ovl_names.specs.Order.{ascends}
use Rattle.ovl_names.proofs.Ascending.{both, list_all-front, ascends-back, ascends-across}
use Rattle.ovl_inode.specs.declared.inodes.Inode.{Inode}
use Rattle.ovl_layer.specs.Layers.{Entry, Entries, entry_cmp, entry_at}
use Rattle.ovl_layer.specs.LayerTrees.{NodeView, node_cmp, under, entries_from, entries_of_nodes, entry_in, entries_in, placed, grown}
use Rattle.ovl_layer.specs.LayerBuilders.{entries_of_open, inode_on_way}
use Rattle.ovl_layer.proofs.NodeLemmas.{name_eq-same, entries_in-under_same, entry_at-in, placed-root, entries_of_nodes-append}

-- ---- order under a name

pub path_cmp-under : (name : PathName) (one other : PathNames) → path_cmp (name ∷ one) (name ∷ other) ≡ path_cmp one other
path_cmp-under name one other = rw (tied_itself nat_list_cmp_total name) refl

list_all-under : (name : PathName) (entry : Entry) (entries : Entries) → list_all (λ later. is_lt (entry_cmp (name ∷ entry.0, entry.1) later)) (under name entries) ≡ list_all (λ later. is_lt (entry_cmp entry later)) entries
list_all-under name entry [] = refl
list_all-under name entry (later ∷ entries) = λ j. is_lt (path_cmp-under name entry.0 later.0 j) && list_all-under name entry entries j

pub ascends-under : (name : PathName) (entries : Entries) → ascends entry_cmp (under name entries) ≡ ascends entry_cmp entries
ascends-under name [] = refl
ascends-under name (entry ∷ entries) = λ j. list_all-under name entry entries j && ascends-under name entries j

-- what is in order after the root
pub ascends-below : (inode : Inode) (below : Entries) → ascends entry_cmp (entries_from inode below) ≡ true → ascends entry_cmp below ≡ true
ascends-below inode below up = (both {a = list_all (λ later. is_lt (entry_cmp ([], inode) later)) below} {b = ascends entry_cmp below} up).1

pub ascends-node : (node : NodeView) (below : Entries) → ascends entry_cmp (under node.name (entries_from node.inode below)) ≡ true → ascends entry_cmp (entries_from node.inode below) ≡ true
ascends-node node below up = sym (ascends-under node.name (entries_from node.inode below)) ∙ up

pub ascends-open : (front : List NodeView) (node : NodeView) (rest : List NodeView) → ascends entry_cmp (entries_of_open (front ++ node ∷ rest)) ≡ true → ascends entry_cmp (node.below ++ entries_of_open rest) ≡ true
ascends-open [] node rest up = ascends-below node.inode (node.below ++ entries_of_open rest) (ascends-node node (node.below ++ entries_of_open rest) up)
ascends-open (first ∷ front) node rest up =
    ascends-open front node rest
    (ascends-back entry_cmp first.below (entries_of_open (front ++ node ∷ rest))
    (ascends-below first.inode (first.below ++ entries_of_open (front ++ node ∷ rest))
    (ascends-node first (first.below ++ entries_of_open (front ++ node ∷ rest)) up)))

-- ---- nodes whose entries are in order are in order

pub single : (one other : PathName) → is_lt (path_cmp (one ∷ []) (other ∷ [])) ≡ true → is_lt (name_cmp one other) ≡ true
single one other before = by (name_cmp one other) refl
  where
    by : (o : Ordering) → name_cmp one other ≡ o → is_lt (name_cmp one other) ≡ true
    by Less e = ap is_lt e
    by Equal e = let bad : false ≡ true = rw e at before in cc
    by Greater e = let bad : false ≡ true = rw e at before in cc

nodes_later : (node : NodeView) (inode : Inode) (nodes : List NodeView) → list_all (λ later. is_lt (entry_cmp (node.name ∷ [], inode) later)) (entries_of_nodes nodes) ≡ true → list_all (λ later. is_lt (node_cmp node later)) nodes ≡ true
nodes_later node inode [] all = refl
nodes_later node inode (later ∷ nodes) all =
    let parts = list_all-front (λ e. is_lt (entry_cmp (node.name ∷ [], inode) e)) (under later.name (entries_from later.inode later.below)) (entries_of_nodes nodes) all in
    let first = both {a = is_lt (entry_cmp (node.name ∷ [], inode) (later.name ∷ [], later.inode))} {b = list_all (λ e. is_lt (entry_cmp (node.name ∷ [], inode) e)) (under later.name later.below)} parts.0 in
    rw (single node.name later.name first.0) (nodes_later node inode nodes parts.1)

pub nodes_ascend : (nodes : List NodeView) → ascends entry_cmp (entries_of_nodes nodes) ≡ true → ascends node_cmp nodes ≡ true
nodes_ascend [] up = refl
nodes_ascend (node ∷ nodes) up =
    let tail : Entries = under node.name node.below ++ entries_of_nodes nodes in
    let parts = both {a = list_all (λ later. is_lt (entry_cmp (node.name ∷ [], node.inode) later)) tail} {b = ascends entry_cmp tail} up in
    let later = list_all-front (λ e. is_lt (entry_cmp (node.name ∷ [], node.inode) e)) (under node.name node.below) (entries_of_nodes nodes) parts.0 in
    rw (nodes_later node node.inode nodes later.1) (nodes_ascend nodes (ascends-back entry_cmp (under node.name (entries_from node.inode node.below)) (entries_of_nodes nodes) up))

-- ---- closing and opening nodes

pub closed_into : (front : List NodeView) (node last : NodeView) → entries_of_open (front ++ node ∷ last ∷ []) ≡ entries_of_open (front ++ grown node last ∷ [])
closed_into [] node last =
    ap (λ (below : Entries). under node.name (entries_from node.inode below))
    (ap (λ (below : Entries). node.below ++ under last.name (entries_from last.inode below)) (append-nil last.below)
    ∙ sym (append-nil (node.below ++ under last.name (entries_from last.inode last.below))))
closed_into (first ∷ front) node last = ap (λ (rest : Entries). under first.name (entries_from first.inode (first.below ++ rest))) (closed_into front node last)

pub closed_at_root : (nodes : List NodeView) (last : NodeView) → entries_of_nodes nodes ++ entries_of_open (last ∷ []) ≡ entries_of_nodes (nodes ++ last ∷ []) ++ []
closed_at_root nodes last =
    ap (λ (below : Entries). entries_of_nodes nodes ++ under last.name (entries_from last.inode below)) (append-nil last.below)
    ∙ (ap (λ (rest : Entries). entries_of_nodes nodes ++ rest) (sym (append-nil (under last.name (entries_from last.inode last.below))))
    ∙ (sym (entries_of_nodes-append nodes (last ∷ [])) ∙ sym (append-nil (entries_of_nodes (nodes ++ last ∷ [])))))

pub nothing : (nodes : List NodeView) → length nodes ≡ 0 → nodes ≡ []
nothing [] none = refl
nothing (node ∷ nodes) none = absurd (omega (arith, none))

-- nodes by their last one, and with another in its place
pub last_apart : (nodes : List NodeView) (k : ℕ) (node : NodeView) → length nodes ≡ k + 1 → node ≡ get_or nodes k node → nodes ≡ take k nodes ++ node ∷ []
last_apart nodes k node long is =
    sym (take_all (k + 1) nodes (omega (arith, long)))
    ∙ (take_more nodes k node (omega (arith, long)) ∙ ap (λ (n : NodeView). take k nodes ++ n ∷ []) (sym is))

pub last_changed : (nodes : List NodeView) (k : ℕ) (node : NodeView) → length nodes ≡ k + 1 → set nodes k node ≡ take k nodes ++ node ∷ []
last_changed nodes k node long =
    sym (take_all (k + 1) (set nodes k node) (omega (arith, long, length-set nodes k node)))
    ∙ take_more_set nodes k node (omega (arith, long))

pub last_named : (front : List NodeView) (node last : NodeView) → map (λ n. n.name) (front ++ grown node last ∷ []) ≡ map (λ n. n.name) (front ++ node ∷ [])
last_named front node last =
    map-append (λ (n : NodeView). n.name) front (grown node last ∷ [])
    ∙ sym (map-append (λ (n : NodeView). n.name) front (node ∷ []))

-- one step of closing: the last node of the list of open directories goes into the one before, or to the root
module _ (inode : Inode) (nodes open_dirs rest : List NodeView) (node : NodeView) (popped : open_dirs ≡ rest ++ node ∷ []) where
  -- ... and the names that are left are those before the last
  pub names_left : (count : ℕ) → count ≡ length open_dirs → map (λ n. n.name) rest ≡ take (count - 1) (map (λ n. n.name) open_dirs)
  names_left count whole =
      let names : List PathName = map (λ (n : NodeView). n.name) rest in
      let all : map (λ (n : NodeView). n.name) open_dirs ≡ names ++ node.name ∷ [] = ap (map (λ (n : NodeView). n.name)) popped ∙ map-append (λ (n : NodeView). n.name) rest (node ∷ []) in
      let short : count - 1 ≡ length names = omega (arith, whole, ap length popped, length-append rest (node ∷ []), length-map rest (λ (n : NodeView). n.name)) in
      sym ((λ j. take (short j) (all j)) ∙ take-append_seam names (node.name ∷ []))

  pub closed_first : rest ≡ [] → entries_from inode (entries_of_nodes (nodes ++ node ∷ []) ++ entries_of_open rest) ≡ entries_from inode (entries_of_nodes nodes ++ entries_of_open open_dirs)
  closed_first none =
      let same : open_dirs ≡ node ∷ [] = popped ∙ ap (λ (front : List NodeView). front ++ node ∷ []) none in
      ap (λ (below : Entries). entries_from inode below)
      (ap (λ (front : List NodeView). entries_of_nodes (nodes ++ node ∷ []) ++ entries_of_open front) none
      ∙ (sym (closed_at_root nodes node) ∙ ap (λ (front : List NodeView). entries_of_nodes nodes ++ entries_of_open front) (sym same)))

  module _ (front : List NodeView) (parent : NodeView) (before : rest ≡ front ++ parent ∷ []) where
    last_two : open_dirs ≡ front ++ parent ∷ node ∷ []
    last_two = popped ∙ (ap (λ (some : List NodeView). some ++ node ∷ []) before ∙ append_assoc front (parent ∷ []) (node ∷ []))

    pub closed_next : entries_from inode (entries_of_nodes nodes ++ entries_of_open (front ++ grown parent node ∷ [])) ≡ entries_from inode (entries_of_nodes nodes ++ entries_of_open open_dirs)
    closed_next = ap (λ (below : Entries). entries_from inode (entries_of_nodes nodes ++ below)) (sym (closed_into front parent node) ∙ ap entries_of_open (sym last_two))

    pub order_next : ascends entry_cmp (entries_from inode (entries_of_nodes nodes ++ entries_of_open open_dirs)) ≡ true → ascends entry_cmp (parent.below ++ under node.name (entries_from node.inode node.below)) ≡ true
    order_next up =
        let behind = ascends-back entry_cmp (entries_of_nodes nodes) (entries_of_open open_dirs) (ascends-below inode (entries_of_nodes nodes ++ entries_of_open open_dirs) up) in
        let last = ascends-open front parent (node ∷ []) (subst (λ (some : List NodeView). ascends entry_cmp (entries_of_open some) ≡ true) last_two behind) in
        subst (λ (below : Entries). ascends entry_cmp (parent.below ++ under node.name (entries_from node.inode below)) ≡ true) (append-nil node.below) last

pub placed-deeper : (name : PathName) (path : PathNames) (entries : Entries) → under name (placed path entries) ≡ placed (name ∷ path) entries
placed-deeper name path [] = refl
placed-deeper name path (entry ∷ entries) = ap (λ rest. (name ∷ (path ++ entry.0), entry.1) ∷ rest) (placed-deeper name path entries)

under-append : (name : PathName) (one other : Entries) → under name (one ++ other) ≡ under name one ++ under name other
under-append name one other = map-append (λ (entry : Entry). (name ∷ entry.0, entry.1)) one other

-- one more open node, the entries of which are at the end
pub opened : (open_dirs : List NodeView) (node : NodeView) → entries_of_open (open_dirs ++ node ∷ []) ≡ entries_of_open open_dirs ++ placed (map (λ n. n.name) open_dirs) (entries_of_open (node ∷ []))
opened [] node = sym (placed-root (entries_of_open (node ∷ [])))
opened (first ∷ open_dirs) node =
    let rest : Entries = placed (map (λ n. n.name) open_dirs) (entries_of_open (node ∷ [])) in
    ap (λ (below : Entries). under first.name (entries_from first.inode below))
    (ap (λ (below : Entries). first.below ++ below) (opened open_dirs node) ∙ sym (append_assoc first.below (entries_of_open open_dirs) rest))
    ∙ (under-append first.name (entries_from first.inode (first.below ++ entries_of_open open_dirs)) rest
    ∙ ap (λ (below : Entries). under first.name (entries_from first.inode (first.below ++ entries_of_open open_dirs)) ++ below) (placed-deeper first.name (map (λ n. n.name) open_dirs) (entries_of_open (node ∷ []))))

-- ---- what is on the way to the last entry

pub inode_on_way-open : (inode : Inode) (open_dirs : List NodeView) (k : ℕ) (d : NodeView) → k < length open_dirs → inode_on_way inode open_dirs (suc k) ≡ (get_or open_dirs k d).inode
inode_on_way-open inode [] k d inside = absurd (omega arith)
inode_on_way-open inode (node ∷ open_dirs) zero d inside = refl
inode_on_way-open inode (node ∷ open_dirs) (suc k) d inside = inode_on_way-open node.inode open_dirs k d (omega arith)

earlier : (name : PathName) (entry : Entry) → is_lt (path_cmp entry.0 (name ∷ [])) ≡ true → entry_in name entry ≡ None
earlier name ([], inode) before = refl
earlier name (first ∷ names, inode) before = by (name_eq name first) refl
  where
    by : (b : Bool) → name_eq name first ≡ b → entry_in name (first ∷ names, inode) ≡ None
    by true e = absurd (never names before)
      where
        same : name ≡ first
        same = (bytes_decides name first).0 e

        never : (names : PathNames) → is_lt (path_cmp (first ∷ names) (name ∷ [])) ≡ true → ⊥
        never [] before = let bad : false ≡ true = rw (ap (λ (n : PathName). name_cmp first n) same ∙ tied_itself nat_list_cmp_total first) at before in cc
        never (next ∷ names) before = let bad : false ≡ true = rw (ap (λ (n : PathName). name_cmp first n) same ∙ tied_itself nat_list_cmp_total first) at before in cc
    by false e = rw e refl

pub nothing_earlier : (name : PathName) (entries : Entries) → list_all (λ entry. is_lt (path_cmp entry.0 (name ∷ []))) entries ≡ true → entries_in name entries ≡ []
nothing_earlier name [] all = refl
nothing_earlier name (entry ∷ entries) all =
    let parts = both {a = is_lt (path_cmp entry.0 (name ∷ []))} {b = list_all (λ e. is_lt (path_cmp e.0 (name ∷ []))) entries} all in
    rw (earlier name entry parts.0) (nothing_earlier name entries parts.1)

pub entry_at-on_way : (inode : Inode) (below : Entries) (open_dirs : List NodeView) (k : ℕ) → ascends entry_cmp (entries_from inode (below ++ entries_of_open open_dirs)) ≡ true → k ≤ length open_dirs → entry_at (entries_from inode (below ++ entries_of_open open_dirs)) (take k (map (λ n. n.name) open_dirs)) ≡ Some (inode_on_way inode open_dirs k)
entry_at-on_way inode below open_dirs zero up inside = refl
entry_at-on_way inode below [] (suc k) up inside = absurd (omega arith)
entry_at-on_way inode below (node ∷ open_dirs) (suc k) up inside =
    let here : Entries = entries_from node.inode (node.below ++ entries_of_open open_dirs) in
    let path : PathNames = take k (map (λ n. n.name) open_dirs) in
    let behind : ascends entry_cmp (below ++ under node.name here) ≡ true = ascends-below inode (below ++ under node.name here) up in
    let none : entries_in node.name below ≡ [] = nothing_earlier node.name below (ascends-across entry_cmp below (node.name ∷ [], node.inode) (under node.name (node.below ++ entries_of_open open_dirs)) behind) in
    let seen : entries_in node.name (below ++ under node.name here) ≡ here =
    filter_map-append (entry_in node.name) below (under node.name here)
    ∙ (λ j. none j ++ entries_in-under_same node.name node.name here (name_eq-same node.name) j) in
    entry_at-in (entries_from inode (below ++ under node.name here)) node.name path
    ∙ (ap (λ (entries : Entries). entry_at entries path) seen
    ∙ entry_at-on_way node.inode node.below open_dirs k (ascends-node node (node.below ++ entries_of_open open_dirs) (ascends-back entry_cmp below (under node.name here) behind)) (omega arith))
