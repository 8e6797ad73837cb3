-- The entries at and under one node of a layer's tree.
use Rattle.std.proofs.Common.{◌≡◌, ℕ, zero, suc, ◌+◌, ◌<◌, length, length-append, get_or, take, append_assoc, add-one, Ok, Err, Bool, true, false, cond, Some, None, List, [], ◌∷◌, ◌++◌, refl, sym, ap, ◌∙◌, subst, arith, inl, inr}
use Rattle.std.specs.Prelude.{not, slice_get, unwrap_or}
use Rattle.std.specs.List.{list_all, cons_option}
use Rattle.std.specs.List.Sorted.{IsNonDecreasingBy, IsBinarySearchResult}
use Rattle.std.specs.Cmp.{IsTotalOrder}
use Rattle.std.specs.Ordering.{is_lt, is_eq, ordering_index, ordering_reverse}
use Rattle.std.specs.Cmp.Lexicographic.{nat_list_cmp_total, bytes_decides}
use Rattle.std.specs.declared.cmp.Ordering.{Ordering}
use Rattle.std.specs.declared.cmp.Ordering.TheVariants.{Less, Equal, Greater}
use Rattle.std.proofs.lemmas.Map.Text.{is_eq-slice_cmp}
use Rattle.std.proofs.lemmas.List.{append-nil, length-map, map-append, take_more}
use Rattle.std.proofs.lemmas.Bool.{cases_lt}
use Rattle.std.proofs.lemmas.Option.{slice_get_read}
use Rattle.std.proofs.lemmas.List.Elements.{filter_map-append}
use Rattle.std.proofs.lemmas.List.Sorted.{searchable_from_sorted}
use Rattle.ovl_names.specs.Names.{PathName, name_cmp, name_eq}
use Rattle.ovl_names.specs.Paths.{PathNames, path_eq, child_path}
use Rattle.ovl_names.specs.Order.{ascends}
use Rattle.ovl_names.proofs.Ascending.{both, is_lt-Less, list_all-get, not_true, reversed, ascends-next, list_all-from_each}
use Rattle.ovl_layer.specs.Layers.{Entry, Entries, entry_at, name_below, names_below}
use Rattle.ovl_layer.specs.LayerTrees.{NodeView, node_cmp, under, entries_from, entries_of_nodes, entry_in, entries_in, entries_under, placed}

-- a name is equal to itself, and to no name that comes before or after it
pub name_eq-same : (name : PathName) → name_eq name name ≡ true
name_eq-same name = (bytes_decides name name).1 refl

pub name_eq-cmp : (name other : PathName) (o : Ordering) → name_cmp name other ≡ o → name_eq name other ≡ is_eq o
name_eq-cmp name other o e = sym (is_eq-slice_cmp name other) ∙ ap is_eq e

-- what is under a name, seen from there
pub entries_in-under_same : (name own : PathName) (entries : Entries) → name_eq name own ≡ true → entries_in name (under own entries) ≡ entries
entries_in-under_same name own [] same = refl
entries_in-under_same name own (entry ∷ entries) same = rw same (ap (λ rest. entry ∷ rest) (entries_in-under_same name own entries same))

pub entries_in-under_other : (name own : PathName) (entries : Entries) → name_eq name own ≡ false → entries_in name (under own entries) ≡ []
entries_in-under_other name own [] other = refl
entries_in-under_other name own (entry ∷ entries) other = rw other (entries_in-under_other name own entries other)

-- where no node has the name, nothing is under it
pub entries_in-none : (name : PathName) (nodes : List NodeView) → list_all (λ node. not (name_eq name node.name)) nodes ≡ true → entries_in name (entries_of_nodes nodes) ≡ []
entries_in-none name [] none = refl
entries_in-none name (node ∷ nodes) none =
    let parts = both {a = not (name_eq name node.name)} {b = list_all (λ n. not (name_eq name n.name)) nodes} none in
    let other : name_eq name node.name ≡ false = not_true (name_eq name node.name) parts.0 in
    filter_map-append (entry_in name) (under node.name (entries_from node.inode node.below)) (entries_of_nodes nodes)
    ∙ (λ j. entries_in-under_other name node.name (entries_from node.inode node.below) other j ++ entries_in-none name nodes parts.1 j)

pub others_later : (node : NodeView) (nodes : List NodeView) → list_all (λ later. is_lt (node_cmp node later)) nodes ≡ true → list_all (λ later. not (name_eq node.name later.name)) nodes ≡ true
others_later node [] all = refl
others_later node (later ∷ nodes) all =
    let parts = both {a = is_lt (node_cmp node later)} {b = list_all (λ n. is_lt (node_cmp node n)) nodes} all in
    rw (name_eq-cmp node.name later.name Less (is_lt-Less (node_cmp node later) parts.0)) (others_later node nodes parts.1)

-- in order, the node at a place is the only one of its name
pub entries_in-node : (nodes : List NodeView) (place : ℕ) (node : NodeView) → ascends node_cmp nodes ≡ true → slice_get nodes place ≡ Some node → entries_in node.name (entries_of_nodes nodes) ≡ entries_from node.inode node.below
entries_in-node [] place node up at = let bad : None ≡ Some node = at in cc
entries_in-node (first ∷ nodes) zero node up at =
    let parts = both {a = list_all (λ later. is_lt (node_cmp first later)) nodes} {b = ascends node_cmp nodes} up in
    subst (λ (n : NodeView). entries_in n.name (entries_of_nodes (first ∷ nodes)) ≡ entries_from n.inode n.below) (ap (λ o. unwrap_or o first) at)
    (filter_map-append (entry_in first.name) (under first.name (entries_from first.inode first.below)) (entries_of_nodes nodes)
    ∙ ((λ j. entries_in-under_same first.name first.name (entries_from first.inode first.below) (name_eq-same first.name) j ++ entries_in-none first.name nodes (others_later first nodes parts.0) j)
    ∙ append-nil (entries_from first.inode first.below)))
entries_in-node (first ∷ nodes) (suc place) node up at =
    let parts = both {a = list_all (λ later. is_lt (node_cmp first later)) nodes} {b = ascends node_cmp nodes} up in
    let before : is_lt (node_cmp first node) ≡ true = list_all-get (λ later. is_lt (node_cmp first later)) nodes place node parts.0 at in
    let other : name_eq node.name first.name ≡ false = name_eq-cmp node.name first.name Greater (nat_list_cmp_total.antisymm node.name first.name ∙ ap ordering_reverse (is_lt-Less (node_cmp first node) before)) in
    filter_map-append (entry_in node.name) (under first.name (entries_from first.inode first.below)) (entries_of_nodes nodes)
    ∙ (λ j. entries_in-under_other node.name first.name (entries_from first.inode first.below) other j ++ entries_in-node nodes place node parts.1 at j)

-- what is at a path is what is at its rest, seen from its first name
pub entry_at-in : (entries : Entries) (name : PathName) (path : PathNames) → entry_at entries (name ∷ path) ≡ entry_at (entries_in name entries) path
entry_at-in [] name path = refl
entry_at-in (([], inode) ∷ entries) name path = entry_at-in entries name path
entry_at-in ((first ∷ names, inode) ∷ entries) name path = by (entry_at-in entries name path) (name_eq name first) refl
  where
    by : entry_at entries (name ∷ path) ≡ entry_at (entries_in name entries) path → (b : Bool) → name_eq name first ≡ b → entry_at ((first ∷ names, inode) ∷ entries) (name ∷ path) ≡ entry_at (entries_in name ((first ∷ names, inode) ∷ entries)) path
    by later true e = rw e (ap (λ rest. cond (path_eq path names) (Some inode) rest) later)
    by later false e = rw e later

pub entries_under-nothing : (path : PathNames) → entries_under path [] ≡ []
entries_under-nothing [] = refl
entries_under-nothing (name ∷ path) = entries_under-nothing path

pub entry_at-under : (path : PathNames) (entries : Entries) → entry_at entries path ≡ entry_at (entries_under path entries) []
entry_at-under [] entries = refl
entry_at-under (name ∷ path) entries = entry_at-in entries name path ∙ entry_at-under path (entries_in name entries)

-- ---- names directly below a place

pub names_below-in : (entries : Entries) (name : PathName) (path : PathNames) → names_below entries (name ∷ path) ≡ names_below (entries_in name entries) path
names_below-in [] name path = refl
names_below-in (([], inode) ∷ entries) name path = names_below-in entries name path
names_below-in ((first ∷ names, inode) ∷ entries) name path = by (names_below-in entries name path) (name_eq name first) refl
  where
    by : names_below entries (name ∷ path) ≡ names_below (entries_in name entries) path → (b : Bool) → name_eq name first ≡ b → names_below ((first ∷ names, inode) ∷ entries) (name ∷ path) ≡ names_below (entries_in name ((first ∷ names, inode) ∷ entries)) path
    by later true e = rw e (ap (cons_option (name_below path names)) later)
    by later false e = rw e later

pub names_below-under : (path : PathNames) (entries : Entries) → names_below entries path ≡ names_below (entries_under path entries) []
names_below-under [] entries = refl
names_below-under (name ∷ path) entries = names_below-in entries name path ∙ names_below-under path (entries_in name entries)

-- below a node nothing lies at the node itself, so only its name lies directly below its directory
deeper : (name own : PathName) (entries : Entries) → names_below (under name (under own entries)) [] ≡ []
deeper name own [] = refl
deeper name own (entry ∷ entries) = deeper name own entries

deeper-nodes : (name : PathName) (nodes : List NodeView) → names_below (under name (entries_of_nodes nodes)) [] ≡ []
deeper-nodes name [] = refl
deeper-nodes name (node ∷ nodes) =
    ap (λ (entries : Entries). names_below entries []) (map-append (λ (entry : Entry). (name ∷ entry.0, entry.1)) (under node.name (entries_from node.inode node.below)) (entries_of_nodes nodes))
    ∙ (filter_map-append (λ (entry : Entry). name_below [] entry.0) (under name (under node.name (entries_from node.inode node.below))) (under name (entries_of_nodes nodes))
    ∙ (λ j. deeper name node.name (entries_from node.inode node.below) j ++ deeper-nodes name nodes j))

pub names_below-node : (node : NodeView) (kids : List NodeView) → entries_of_nodes kids ≡ node.below → names_below (under node.name (entries_from node.inode node.below)) [] ≡ node.name ∷ []
names_below-node node kids below = ap (λ rest. node.name ∷ rest) (ap (λ (entries : Entries). names_below (under node.name entries) []) (sym below) ∙ deeper-nodes node.name kids)

pub entries_of_nodes-append : (one other : List NodeView) → entries_of_nodes (one ++ other) ≡ entries_of_nodes one ++ entries_of_nodes other
entries_of_nodes-append [] other = refl
entries_of_nodes-append (node ∷ one) other =
    ap (λ rest. under node.name (entries_from node.inode node.below) ++ rest) (entries_of_nodes-append one other)
    ∙ sym (append_assoc (under node.name (entries_from node.inode node.below)) (entries_of_nodes one) (entries_of_nodes other))

pub entries_of_nodes-push : (nodes : List NodeView) (node : NodeView) → entries_of_nodes (nodes ++ node ∷ []) ≡ entries_of_nodes nodes ++ under node.name (entries_from node.inode node.below)
entries_of_nodes-push nodes node =
    entries_of_nodes-append nodes (node ∷ [])
    ∙ ap (λ rest. entries_of_nodes nodes ++ rest) (append-nil (under node.name (entries_from node.inode node.below)))

-- the entries of the first nodes, with one more
pub entries_of_nodes-more : (nodes : List NodeView) (i : ℕ) (node : NodeView) → i < length nodes → node ≡ get_or nodes i node → entries_of_nodes (take (i + 1) nodes) ≡ entries_of_nodes (take i nodes) ++ under node.name (entries_from node.inode node.below)
entries_of_nodes-more nodes i node inside is =
    ap entries_of_nodes (take_more nodes i node inside ∙ ap (λ (n : NodeView). take i nodes ++ n ∷ []) (sym is))
    ∙ (entries_of_nodes-append (take i nodes) (node ∷ [])
    ∙ ap (λ rest. entries_of_nodes (take i nodes) ++ rest) (append-nil (under node.name (entries_from node.inode node.below))))

pub names_below-more : (nodes : List NodeView) (i : ℕ) (node : NodeView) (kids : List NodeView) → i < length nodes → node ≡ get_or nodes i node → entries_of_nodes kids ≡ node.below → names_below (entries_of_nodes (take (i + 1) nodes)) [] ≡ names_below (entries_of_nodes (take i nodes)) [] ++ node.name ∷ []
names_below-more nodes i node kids inside is below =
    ap (λ (entries : Entries). names_below entries []) (entries_of_nodes-more nodes i node inside is)
    ∙ (filter_map-append (λ (entry : Entry). name_below [] entry.0) (entries_of_nodes (take i nodes)) (under node.name (entries_from node.inode node.below))
    ∙ ap (λ rest. names_below (entries_of_nodes (take i nodes)) [] ++ rest) (names_below-node node kids below))

-- ---- entries with a path before each of theirs

pub placed-root : (entries : Entries) → placed [] entries ≡ entries
placed-root [] = refl
placed-root (entry ∷ entries) = ap (λ rest. entry ∷ rest) (placed-root entries)

pub placed-under : (path : PathNames) (name : PathName) (entries : Entries) → placed path (under name entries) ≡ placed (child_path path name) entries
placed-under path name [] = refl
placed-under path name (entry ∷ entries) = λ j. (sym (append_assoc path (name ∷ []) entry.0) j, entry.1) ∷ placed-under path name entries j

pub placed_at-under : (name : PathName) (entries : Entries) → placed (child_path [] name) entries ≡ under name entries
placed_at-under name [] = refl
placed_at-under name (entry ∷ entries) = ap (λ rest. (name ∷ entry.0, entry.1) ∷ rest) (placed_at-under name entries)

pub placed-append : (path : PathNames) (one other : Entries) → placed path (one ++ other) ≡ placed path one ++ placed path other
placed-append path one other = map-append (λ (entry : Entry). (path ++ entry.0, entry.1)) one other

-- ---- a search among nodes in order

-- nodes are ordered as their names are
pub node_order : IsTotalOrder node_cmp
node_order = record {
  antisymm = λ x y. nat_list_cmp_total.antisymm x.name y.name;
  trans = λ x y z. nat_list_cmp_total.trans x.name y.name z.name;
  congr = λ x y z. nat_list_cmp_total.congr x.name y.name z.name;
}

in_order_at : (nodes : List NodeView) (k : ℕ) (d : NodeView) → ascends node_cmp nodes ≡ true → k + 1 < length nodes → is_lt (node_cmp (get_or nodes (k + 1) d) (get_or nodes k d)) ≡ false
in_order_at nodes k d up inside =
    rw add-one (ap is_lt (reversed node_order (get_or nodes k d) (get_or nodes (suc k) d) (ascends-next node_cmp nodes k d up (omega arith))))

searchable : (nodes : List NodeView) (name : PathName) → ascends node_cmp nodes ≡ true → IsNonDecreasingBy (λ node. ordering_index (name_cmp node.name name)) nodes
searchable nodes name up = searchable_from_sorted nat_list_cmp_total (λ node. node.name) nodes name (λ k d low inside. in_order_at nodes k d up inside)

another : (node : NodeView) (name : PathName) (o : Ordering) → name_cmp node.name name ≡ o → is_eq (ordering_reverse o) ≡ false → not (name_eq name node.name) ≡ true
another node name o e other = ap not (name_eq-cmp name node.name (ordering_reverse o) (nat_list_cmp_total.antisymm name node.name ∙ ap ordering_reverse e) ∙ other)

-- where the search found nothing, no node has the name
pub missing : (nodes : List NodeView) (place : ℕ) (name : PathName) → ascends node_cmp nodes ≡ true → IsBinarySearchResult (λ node. name_cmp node.name name) nodes (Err place) → entries_in name (entries_of_nodes nodes) ≡ []
missing nodes place name up answer =
    let parts = answer (searchable nodes name up) in
    entries_in-none name nodes (list_all-from_each (λ node. not (name_eq name node.name)) nodes (λ i d inside.
    elim (cases_lt i place) [
      | inl before ↦ another (get_or nodes i d) name Less (parts.0 i d (omega arith) before) refl
      | inr after ↦ another (get_or nodes i d) name Greater (parts.1 i d after inside) refl
    ]))

-- where it found a place, the node there has it
pub found : (nodes : List NodeView) (place : ℕ) (name : PathName) (node : NodeView) → ascends node_cmp nodes ≡ true → place < length nodes → IsBinarySearchResult (λ node. name_cmp node.name name) nodes (Ok place) → node ≡ get_or nodes place node → entries_in name (entries_of_nodes nodes) ≡ entries_from node.inode node.below
found nodes place name node up inside answer is =
    let same : node.name ≡ name = (bytes_decides node.name name).0 (name_eq-cmp node.name name Equal (ap (λ (n : NodeView). name_cmp n.name name) is ∙ answer node)) in
    subst (λ (n : PathName). entries_in n (entries_of_nodes nodes) ≡ entries_from node.inode node.below) same
    (entries_in-node nodes place node up (slice_get_read nodes (length nodes) place node refl inside is))

-- a node has fewer entries below it than its directory
pub fewer_below : (nodes : List NodeView) (k : ℕ) (node : NodeView) → k < length nodes → node ≡ get_or nodes k node → length node.below < length (entries_of_nodes nodes)
fewer_below [] k node inside is = absurd (omega (arith, inside))
fewer_below (first ∷ nodes) zero node inside is =
    omega (arith, ap (λ (n : NodeView). length n.below) is, length-append (under first.name (entries_from first.inode first.below)) (entries_of_nodes nodes), length-map {B = Entry} first.below (λ entry. (first.name ∷ entry.0, entry.1)))
fewer_below (first ∷ nodes) (suc k) node inside is =
    omega (arith, fewer_below nodes k node (omega (arith, inside)) is, length-append (under first.name (entries_from first.inode first.below)) (entries_of_nodes nodes))
