-- What the passes that make a sheet keep from one node to the next.
use Rattle.std.proofs.Common.{◌≡◌, ℕ, zero, suc, ◌+◌, ◌<◌, ◌≤◌, length, get_or, set, take, drop, map, cond, Bool, true, false, Some, List, [], ◌∷◌, ◌++◌, refl, sym, ap, ◌∙◌, subst, arith, append_assoc, length-append, drop-cons}
use Rattle.std.specs.Prelude.{◌&&◌, nat_lt, slice_get, slice_index, is_some}
use Rattle.std.specs.List.{list_all}
use Rattle.std.proofs.lemmas.Bool.{ltb-true}
use Rattle.std.proofs.lemmas.Option.{get_or_from_slice_get}
use Rattle.std.proofs.lemmas.Bool.Decides.{nat_tests}
use Rattle.std.proofs.lemmas.List.{append-nil, map-append, take-append-drop, length-map, drop_all}
use Rattle.std.proofs.lemmas.List.Folds.{list_all-append}
use Rattle.ovl_names.specs.Names.{PathName}
use Rattle.ovl_names.specs.Paths.{PathNames, child_path}
use Rattle.ovl_names.proofs.Ascending.{both}
use Rattle.ovl_inode.specs.declared.inodes.Inode.{Inode}
use Rattle.ovl_inode.specs.declared.marks.Mark.{Mark}
use Rattle.ovl_inode.specs.Marks.{mark_of}
use Rattle.ovl_layer.specs.declared.sheets.SheetRow.{SheetRow}
use Rattle.ovl_layer.specs.Layers.{Entry, Entries, IsLayer}
use Rattle.ovl_layer.specs.LayerTrees.{NodeView, under, entries_from, entries_of_nodes, placed}
use Rattle.ovl_layer.specs.TreeFalls.{length-under}
use Rattle.ovl_layer.specs.Sheets.{last_name, path_of, path_at, row_path, entries_with, entries_of_rows, count_deeper, afters_from, kid_numbers, parents_of, are_earlier, IsSheet}
use Rattle.ovl_layer.specs.SheetPasses.{placed_by, PlacesUnder, AddsParents, rows_from}
use Rattle.ovl_layer.proofs.NodeLemmas.{entries_of_nodes-append, entries_of_nodes-push, entries_of_nodes-more, placed-root, placed-under, placed-append}
use Rattle.ovl_layer.proofs.SheetLemmas.{slice_get-front, slice_get-seam}

-- ---- marks

abbrev pub marks_of : Entries → List Mark
marks_of entries = map (λ entry. mark_of entry.1) entries

marks_of-under : (name : PathName) (entries : Entries) → marks_of (under name entries) ≡ marks_of entries
marks_of-under name [] = refl
marks_of-under name (entry ∷ entries) = ap (λ rest. mark_of entry.1 ∷ rest) (marks_of-under name entries)

pub marks-more : (before old pushed new : List Mark) (nodes kids : List NodeView) (i : ℕ) (node : NodeView) (mark : Mark) → i < length nodes → node ≡ get_or nodes i node → entries_of_nodes kids ≡ node.below → mark ≡ mark_of node.inode
    → old ≡ before ++ marks_of (entries_of_nodes (take i nodes)) → pushed ≡ old ++ mark ∷ [] → new ≡ pushed ++ marks_of (entries_of_nodes kids)
    → new ≡ before ++ marks_of (entries_of_nodes (take (i + 1) nodes))
marks-more before old pushed new nodes kids i node mark inside is below marked e f g =
    let front : List Mark = marks_of (entries_of_nodes (take i nodes)) in
    let own : List Mark = marks_of (entries_of_nodes kids) in
    let more : marks_of (entries_of_nodes (take (i + 1) nodes)) ≡ front ++ mark ∷ own =
    ap marks_of (entries_of_nodes-more nodes i node inside is)
    ∙ (map-append (λ (entry : Entry). mark_of entry.1) (entries_of_nodes (take i nodes)) (under node.name (entries_from node.inode node.below))
    ∙ (λ j. front ++ sym marked j ∷ (marks_of-under node.name node.below ∙ ap marks_of (sym below)) j)) in
    g ∙ (ap (λ (ms : List Mark). ms ++ own) (f ∙ ap (λ (ms : List Mark). ms ++ mark ∷ []) e)
    ∙ (append_assoc (before ++ front) (mark ∷ []) own
    ∙ (append_assoc before front (mark ∷ own)
    ∙ ap (λ (ms : List Mark). before ++ ms) (sym more))))

pub marks-count : (before old : List Mark) (entries : Entries) → old ≡ before ++ marks_of entries → length old ≡ length before + length entries
marks-count before old entries is =
    ap length is ∙ (length-append before (marks_of entries) ∙ omega (arith, length-map entries (λ (entry : Entry). mark_of entry.1)))

-- ---- how many entries the first nodes have

pub nodes-length : (nodes : List NodeView) (i : ℕ) (node : NodeView) → i < length nodes → node ≡ get_or nodes i node → length (entries_of_nodes (take (i + 1) nodes)) ≡ length (entries_of_nodes (take i nodes)) + suc (length node.below)
nodes-length nodes i node inside is =
    ap length (entries_of_nodes-more nodes i node inside is)
    ∙ omega (arith, length-append (entries_of_nodes (take i nodes)) (under node.name (entries_from node.inode node.below)), length-under node.name (entries_from node.inode node.below))

pub nodes-within : (nodes : List NodeView) (i : ℕ) → length (entries_of_nodes (take i nodes)) ≤ length (entries_of_nodes nodes)
nodes-within nodes i =
    omega (arith, ap (λ (ns : List NodeView). length (entries_of_nodes ns)) (take-append-drop i nodes), ap length (entries_of_nodes-append (take i nodes) (drop i nodes)), length-append (entries_of_nodes (take i nodes)) (entries_of_nodes (drop i nodes)))

-- ---- the numbers after the subtrees

pub afters-length : (start : ℕ) (entries : Entries) → length (afters_from start entries) ≡ length entries
afters-length start [] = refl
afters-length start (entry ∷ entries) = ap suc (afters-length (suc start) entries)

deeper-under : (depth : ℕ) (name : PathName) (entries : Entries) → count_deeper (suc depth) (under name entries) ≡ count_deeper depth entries
deeper-under depth name [] = refl
deeper-under depth name (entry ∷ entries) =
    let same : nat_lt (suc depth) (suc (length entry.0)) ≡ nat_lt depth (length entry.0) = grind (arith, nat_tests) in
    λ j. cond (same j) (suc (deeper-under depth name entries j)) zero

afters-under : (start : ℕ) (name : PathName) (entries : Entries) → afters_from start (under name entries) ≡ afters_from start entries
afters-under start name [] = refl
afters-under start name (entry ∷ entries) =
    λ j. suc (start + deeper-under (length entry.0) name entries j) ∷ afters-under (suc start) name entries j

-- below a node each path has a name
abbrev pub are_below : Entries → Bool
are_below entries = list_all (λ entry. nat_lt 0 (length entry.0)) entries

below-under : (name : PathName) (entries : Entries) → are_below (under name entries) ≡ true
below-under name [] = refl
below-under name (entry ∷ entries) =
    let own : nat_lt 0 (suc (length entry.0)) ≡ true = grind (arith, nat_tests) in
    rw own (below-under name entries)

pub below-nodes : (nodes : List NodeView) → are_below (entries_of_nodes nodes) ≡ true
below-nodes [] = refl
below-nodes (node ∷ nodes) =
    list_all-append (λ (entry : Entry). nat_lt 0 (length entry.0)) (under node.name (entries_from node.inode node.below)) (entries_of_nodes nodes)
    ∙ (λ j. below-under node.name (entries_from node.inode node.below) j && below-nodes nodes j)

-- all entries below have more names than none
deeper-all : (entries : Entries) → are_below entries ≡ true → count_deeper 0 entries ≡ length entries
deeper-all [] all = refl
deeper-all (entry ∷ entries) all =
    let parts = both {a = nat_lt 0 (length entry.0)} {b = are_below entries} all in
    λ j. cond (parts.0 j) (suc (deeper-all entries parts.1 j)) zero

-- entries that begin beside the first of some don't lie under any of those
deeper-front : (depth : ℕ) (entries others : Entries) → 0 < depth → (first : Entry) (rest : Entries) → others ≡ first ∷ rest → length first.0 ≡ 1 → count_deeper depth (entries ++ others) ≡ count_deeper depth entries
deeper-front depth [] others some first rest is one =
    ap (count_deeper depth) is ∙ (let none : nat_lt depth (length first.0) ≡ false = grind (arith, nat_tests) in ap (λ b. cond b (suc (count_deeper depth rest)) zero) none)
deeper-front depth (entry ∷ entries) others some first rest is one =
    ap (λ n. cond (nat_lt depth (length entry.0)) (suc n) zero) (deeper-front depth entries others some first rest is one)

afters-front : (start : ℕ) (entries others : Entries) → are_below entries ≡ true → (first : Entry) (rest : Entries) → others ≡ first ∷ rest → length first.0 ≡ 1 → afters_from start (entries ++ others) ≡ afters_from start entries ++ afters_from (start + length entries) others
afters-front start [] others all first rest is one = ap (λ n. afters_from n others) (omega arith)
afters-front start (entry ∷ entries) others all first rest is one =
    let parts = both {a = nat_lt 0 (length entry.0)} {b = are_below entries} all in
    let some : 0 < length entry.0 = ltb-true 0 (length entry.0) parts.0 in
    let moved : afters_from (suc start + length entries) others ≡ afters_from (start + suc (length entries)) others = ap (λ n. afters_from n others) (omega arith) in
    λ j. suc (start + deeper-front (length entry.0) entries others some first rest is one j) ∷ (afters-front (suc start) entries others parts.1 first rest is one ∙ ap (λ (ns : List ℕ). afters_from (suc start) entries ++ ns) moved) j

-- the number after a node's subtree, and those of the entries below it
pub afters-node : (start : ℕ) (node : NodeView) (kids : List NodeView) → entries_of_nodes kids ≡ node.below → afters_from start (under node.name (entries_from node.inode node.below)) ≡ suc (start + length node.below) ∷ afters_from (suc start) node.below
afters-node start node kids below =
    let all : are_below node.below ≡ true = ap are_below (sym below) ∙ below-nodes kids in
    λ j. suc (start + (deeper-under 0 node.name node.below ∙ deeper-all node.below all) j) ∷ afters-under (suc start) node.name node.below j

set-seam : (xs : List ℕ) (y v : ℕ) (ys : List ℕ) → set (xs ++ y ∷ ys) (length xs) v ≡ xs ++ v ∷ ys
set-seam [] y v ys = refl
set-seam (x ∷ xs) y v ys = ap (λ rest. x ∷ rest) (set-seam xs y v ys)

pub afters-more : (before old pushed grown new : List ℕ) (nodes kids : List NodeView) (i value : ℕ) (node : NodeView) → i < length nodes → node ≡ get_or nodes i node → entries_of_nodes kids ≡ node.below
    → old ≡ before ++ afters_from (length before) (entries_of_nodes (take i nodes)) → pushed ≡ old ++ 0 ∷ [] → grown ≡ pushed ++ afters_from (length pushed) (entries_of_nodes kids)
    → value ≡ length grown → new ≡ set grown (length old) value
    → new ≡ before ++ afters_from (length before) (entries_of_nodes (take (i + 1) nodes))
afters-more before old pushed grown new nodes kids i value node inside is below e f g v n =
    let front : List ℕ = afters_from (length before) (entries_of_nodes (take i nodes)) in
    let start : ℕ = length before + length (entries_of_nodes (take i nodes)) in
    let count : length old ≡ start = ap length e ∙ (length-append before front ∙ omega (arith, afters-length (length before) (entries_of_nodes (take i nodes)))) in
    let next : length pushed ≡ suc start = ap length f ∙ (length-append old (0 ∷ []) ∙ omega (arith, count)) in
    let own : List ℕ = afters_from (suc start) node.below in
    let all : grown ≡ old ++ 0 ∷ own =
    g ∙ ((λ j. f j ++ afters_from (next j) (below j)) ∙ append_assoc old (0 ∷ []) own) in
    let last : value ≡ suc (start + length node.below) =
    v ∙ (ap length all ∙ (length-append old (0 ∷ own) ∙ omega (arith, count, afters-length (suc start) node.below))) in
    let more : afters_from (length before) (entries_of_nodes (take (i + 1) nodes)) ≡ front ++ suc (start + length node.below) ∷ own =
    ap (afters_from (length before)) (entries_of_nodes-more nodes i node inside is)
    ∙ (afters-front (length before) (entries_of_nodes (take i nodes)) (under node.name (entries_from node.inode node.below)) (below-nodes (take i nodes)) (node.name ∷ [], node.inode) (under node.name node.below) refl refl
    ∙ ap (λ (ns : List ℕ). front ++ ns) (afters-node start node kids below)) in
    n ∙ ((λ j. set (all j) (length old) (last j))
    ∙ (set-seam old 0 (suc (start + length node.below)) own
    ∙ (ap (λ (ns : List ℕ). ns ++ suc (start + length node.below) ∷ own) e
    ∙ (append_assoc before front (suc (start + length node.below) ∷ own)
    ∙ ap (λ (ns : List ℕ). before ++ ns) (sym more)))))

-- ---- the parents' numbers

earlier-append : (number : ℕ) (xs ys : List ℕ) → are_earlier number xs ≡ true → are_earlier (number + length xs) ys ≡ true → are_earlier number (xs ++ ys) ≡ true
earlier-append number [] ys one other = ap (λ n. are_earlier n ys) (omega arith) ∙ other
earlier-append number (x ∷ xs) ys one other =
    let parts = both {a = nat_lt x number} {b = are_earlier (suc number) xs} one in
    let later : are_earlier (suc number) (xs ++ ys) ≡ true = earlier-append (suc number) xs ys parts.1 (ap (λ n. are_earlier n ys) (omega arith) ∙ other) in
    λ j. parts.0 j && later j

path_at-front : (before more : Entries) (number : ℕ) → number < length before → path_at (before ++ more) number ≡ path_at before number
path_at-front before more number inside = ap path_of (slice_get-front before more number inside)

placed_by-append : (before : Entries) (xs ys : List ℕ) (entries others : Entries) → length xs ≡ length entries → placed_by before (xs ++ ys) (entries ++ others) ≡ placed_by (placed_by before xs entries) ys others
placed_by-append before [] ys [] others same = refl
placed_by-append before [] ys (entry ∷ entries) others same = absurd (omega (arith, same))
placed_by-append before (x ∷ xs) ys [] others same = absurd (omega (arith, same))
placed_by-append before (x ∷ xs) ys (entry ∷ entries) others same =
    placed_by-append (before ++ (row_path before x (last_name entry.0), entry.1) ∷ []) xs ys entries others (omega (arith, same))

-- entries, one after another, under one directory
PlacesUnder-append : (directory number : ℕ) (xs ys : List ℕ) (entries others : Entries) → directory < number → length xs ≡ length entries → PlacesUnder directory number xs entries → PlacesUnder directory (number + length entries) ys others → PlacesUnder directory number (xs ++ ys) (entries ++ others)
PlacesUnder-append directory number xs ys entries others earlier same one other before count =
    let path : PathNames = path_at before directory in
    let inside : directory < length before = omega (arith, earlier, count) in
    let next : length (before ++ placed path entries) ≡ number + length entries = omega (arith, length-append before (placed path entries), length-map {B = Entry} entries (λ (entry : Entry). (path ++ entry.0, entry.1)), count) in
    placed_by-append before xs ys entries others same
    ∙ (ap (λ (bs : Entries). placed_by bs ys others) (one before count)
    ∙ (other (before ++ placed path entries) next
    ∙ (ap (λ (p : PathNames). (before ++ placed path entries) ++ placed p others) (path_at-front before (placed path entries) directory inside)
    ∙ (append_assoc before (placed path entries) (placed path others)
    ∙ ap (λ (bs : Entries). before ++ bs) (sym (placed-append path entries others))))))

last_name-under : (name : PathName) (path : PathNames) → nat_lt 0 (length path) ≡ true → last_name (name ∷ path) ≡ last_name path
last_name-under name [] some = let bad : false ≡ true = some in cc
last_name-under name (first ∷ path) some = refl

-- the last names of entries below a node are those that they have under its name
placed_by-under : (before : Entries) (name : PathName) (xs : List ℕ) (entries : Entries) → are_below entries ≡ true → placed_by before xs (under name entries) ≡ placed_by before xs entries
placed_by-under before name xs [] all = refl
placed_by-under before name [] (entry ∷ entries) all = refl
placed_by-under before name (x ∷ xs) (entry ∷ entries) all =
    let parts = both {a = nat_lt 0 (length entry.0)} {b = are_below entries} all in
    ap (λ n. placed_by (before ++ (row_path before x n, entry.1) ∷ []) xs (under name entries)) (last_name-under name entry.0 parts.0)
    ∙ placed_by-under (before ++ (row_path before x (last_name entry.0), entry.1) ∷ []) name xs entries parts.1

-- a node, with what lies below it
PlacesUnder-node : (directory number : ℕ) (xs : List ℕ) (node : NodeView) (kids : List NodeView) → directory < number → entries_of_nodes kids ≡ node.below → PlacesUnder number (suc number) xs node.below → PlacesUnder directory number (directory ∷ xs) (under node.name (entries_from node.inode node.below))
PlacesUnder-node directory number xs node kids earlier below place before count =
    let path : PathNames = path_at before directory in
    let own : Entry = (child_path path node.name, node.inode) in
    let all : are_below node.below ≡ true = ap are_below (sym below) ∙ below-nodes kids in
    let next : length (before ++ own ∷ []) ≡ suc number = omega (arith, length-append before (own ∷ []), count) in
    let here : path_at (before ++ own ∷ []) number ≡ child_path path node.name =
    ap (path_at (before ++ own ∷ [])) (sym count) ∙ ap path_of (slice_get-seam before own []) in
    placed_by-under (before ++ own ∷ []) node.name xs node.below all
    ∙ (place (before ++ own ∷ []) next
    ∙ (ap (λ (p : PathNames). (before ++ own ∷ []) ++ placed p node.below) here
    ∙ (append_assoc before (own ∷ []) (placed (child_path path node.name) node.below)
    ∙ (λ j. before ++ (child_path path node.name, node.inode) ∷ sym (placed-under path node.name node.below) j))))

pub parents-none : (directory : ℕ) (old : List ℕ) → AddsParents directory old old []
parents-none directory old = record {
  added = [];
  grown = sym (append-nil old);
  count = refl;
  earlier = refl;
  place = λ before count. sym (append-nil before);
}

pub parents-more : (directory : ℕ) (before old pushed new : List ℕ) (nodes kids : List NodeView) (i : ℕ) (node : NodeView) → directory < length before → i < length nodes → node ≡ get_or nodes i node → entries_of_nodes kids ≡ node.below
    → AddsParents directory before old (entries_of_nodes (take i nodes)) → pushed ≡ old ++ directory ∷ [] → AddsParents (length old) pushed new (entries_of_nodes kids)
    → AddsParents directory before new (entries_of_nodes (take (i + 1) nodes))
parents-more directory before old pushed new nodes kids i node earlier inside is below one f other =
    let entries : Entries = entries_of_nodes (take i nodes) in
    let more : entries_of_nodes (take (i + 1) nodes) ≡ entries ++ under node.name (entries_from node.inode node.below) = entries_of_nodes-more nodes i node inside is in
    let number : length old ≡ length before + length entries = ap length one.grown ∙ (length-append before one.added ∙ omega (arith, one.count)) in
    let next : length pushed ≡ suc (length before + length entries) = ap length f ∙ (length-append old (directory ∷ []) ∙ omega (arith, number)) in
    let own : PlacesUnder (length before + length entries) (suc (length before + length entries)) other.added node.below =
    subst (λ (es : Entries). PlacesUnder (length before + length entries) (suc (length before + length entries)) other.added es) below
    (subst (λ n. PlacesUnder (length before + length entries) n other.added (entries_of_nodes kids)) next
    (subst (λ n. PlacesUnder n (length pushed) other.added (entries_of_nodes kids)) number other.place)) in
    let early : are_earlier (suc (length before + length entries)) other.added ≡ true = ap (λ n. are_earlier n other.added) (sym next) ∙ other.earlier in
    let first : nat_lt directory (length before + length entries) ≡ true = grind (arith, nat_tests) in
    record {
      added = one.added ++ directory ∷ other.added;
      grown = other.grown ∙ (ap (λ (ns : List ℕ). ns ++ other.added) (f ∙ ap (λ (ns : List ℕ). ns ++ directory ∷ []) one.grown)
          ∙ (append_assoc (before ++ one.added) (directory ∷ []) other.added ∙ append_assoc before one.added (directory ∷ other.added)));
      count = length-append one.added (directory ∷ other.added)
          ∙ omega (arith, one.count, other.count, ap length below, ap length more, length-append entries (under node.name (entries_from node.inode node.below)), length-under node.name (entries_from node.inode node.below));
      earlier = earlier-append (length before) one.added (directory ∷ other.added) one.earlier
          (ap (λ n. are_earlier (length before + n) (directory ∷ other.added)) one.count ∙ (λ j. first j && early j));
      place = subst (λ (es : Entries). PlacesUnder directory (length before) (one.added ++ directory ∷ other.added) es) (sym more)
          (PlacesUnder-append directory (length before) one.added (directory ∷ other.added) entries (under node.name (entries_from node.inode node.below)) earlier one.count one.place
          (PlacesUnder-node directory (length before + length entries) other.added node kids (omega (arith, earlier)) below own));
    }

-- ---- the rows

pub rows-append : (parents afters : List ℕ) (number : ℕ) (entries others : Entries) → rows_from parents afters number (entries ++ others) ≡ rows_from parents afters number entries ++ rows_from parents afters (number + length entries) others
rows-append parents afters number [] others = ap (λ n. rows_from parents afters n others) (omega arith)
rows-append parents afters number (entry ∷ entries) others =
    ap (λ rest. (record { name = last_name entry.0; inode = entry.1; parent = slice_index parents number; after = slice_index afters number }) ∷ rest)
    (rows-append parents afters (suc number) entries others
    ∙ ap (λ n. rows_from parents afters (suc number) entries ++ rows_from parents afters n others) (omega arith))

rows-under : (parents afters : List ℕ) (number : ℕ) (name : PathName) (entries : Entries) → are_below entries ≡ true → rows_from parents afters number (under name entries) ≡ rows_from parents afters number entries
rows-under parents afters number name [] all = refl
rows-under parents afters number name (entry ∷ entries) all =
    let parts = both {a = nat_lt 0 (length entry.0)} {b = are_below entries} all in
    λ j. (record { name = last_name-under name entry.0 parts.0 j; inode = entry.1; parent = slice_index parents number; after = slice_index afters number }) ∷ rows-under parents afters (suc number) name entries parts.1 j

pub rows-length : (parents afters : List ℕ) (number : ℕ) (entries : Entries) → length (rows_from parents afters number entries) ≡ length entries
rows-length parents afters number [] = refl
rows-length parents afters number (entry ∷ entries) = ap suc (rows-length parents afters (suc number) entries)

pub rows-node : (parents afters : List ℕ) (number : ℕ) (node : NodeView) (kids : List NodeView) → entries_of_nodes kids ≡ node.below
    → rows_from parents afters number (under node.name (entries_from node.inode node.below))
    ≡ (record { name = Some node.name; inode = node.inode; parent = slice_index parents number; after = slice_index afters number }) ∷ rows_from parents afters (suc number) node.below
rows-node parents afters number node kids below =
    let all : are_below node.below ≡ true = ap are_below (sym below) ∙ below-nodes kids in
    ap (λ rest. (record { name = Some node.name; inode = node.inode; parent = slice_index parents number; after = slice_index afters number }) ∷ rest)
    (rows-under parents afters (suc number) node.name node.below all)

-- the entries of the first nodes, and those of the next, are no more than all
pub kids-room : (nodes kids : List NodeView) (i : ℕ) (node : NodeView) → i < length nodes → node ≡ get_or nodes i node → entries_of_nodes kids ≡ node.below → length (entries_of_nodes (take i nodes)) + suc (length (entries_of_nodes kids)) ≤ length (entries_of_nodes nodes)
kids-room nodes kids i node inside is below =
    omega (arith, nodes-within nodes (i + 1), nodes-length nodes i node inside is, ap length below)

pub afters-count : (before old : List ℕ) (entries : Entries) → old ≡ before ++ afters_from (length before) entries → length old ≡ length before + length entries
afters-count before old entries is =
    ap length is ∙ (length-append before (afters_from (length before) entries) ∙ omega (arith, afters-length (length before) entries))

pub parents-count : (directory : ℕ) (before old : List ℕ) (entries : Entries) → AddsParents directory before old entries → length old ≡ length before + length entries
parents-count directory before old entries is =
    ap length is.grown ∙ (length-append before is.added ∙ omega (arith, is.count))

-- ---- one node after another, as a vector of them is used up

yielded-room : (nodes front rest kids : List NodeView) (node : NodeView) → front ++ node ∷ rest ≡ nodes → entries_of_nodes kids ≡ node.below → length (entries_of_nodes front) + suc (length (entries_of_nodes kids)) ≤ length (entries_of_nodes nodes)
yielded-room nodes front rest kids node whole below =
    omega (arith, ap (λ (ns : List NodeView). length (entries_of_nodes ns)) whole, ap length (entries_of_nodes-append front (node ∷ rest)), length-append (entries_of_nodes front) (entries_of_nodes (node ∷ rest)), length-append (under node.name (entries_from node.inode node.below)) (entries_of_nodes rest), length-under node.name (entries_from node.inode node.below), ap length below)

rows-count : (before old : List SheetRow) (parents afters : List ℕ) (entries : Entries) → old ≡ before ++ rows_from parents afters (length before) entries → length old ≡ length before + length entries
rows-count before old parents afters entries is =
    ap length is ∙ (length-append before (rows_from parents afters (length before) entries) ∙ omega (arith, rows-length parents afters (length before) entries))

-- how many rows there are before a node, and that there is room for it and those below it
pub node-room : (nodes front left rest kids : List NodeView) (node : NodeView) (before old : List SheetRow) (parents afters : List ℕ) → left ≡ node ∷ rest → front ++ left ≡ nodes → entries_of_nodes kids ≡ node.below → old ≡ before ++ rows_from parents afters (length before) (entries_of_nodes front)
    → (length old ≡ length before + length (entries_of_nodes front)) × (length (entries_of_nodes front) + suc (length (entries_of_nodes kids)) ≤ length (entries_of_nodes nodes))
node-room nodes front left rest kids node before old parents afters next whole below rows = (
  rows-count before old parents afters (entries_of_nodes front) rows,
  yielded-room nodes front rest kids node (ap (λ (ns : List NodeView). front ++ ns) (sym next) ∙ whole) below,
)

pub rows-more : (before old pushed new : List SheetRow) (parents afters : List ℕ) (front kids : List NodeView) (node : NodeView) → entries_of_nodes kids ≡ node.below
    → old ≡ before ++ rows_from parents afters (length before) (entries_of_nodes front)
    → pushed ≡ old ++ (record { name = Some node.name; inode = node.inode; parent = slice_index parents (length old); after = slice_index afters (length old) }) ∷ []
    → new ≡ pushed ++ rows_from parents afters (length pushed) (entries_of_nodes kids)
    → new ≡ before ++ rows_from parents afters (length before) (entries_of_nodes (front ++ node ∷ []))
rows-more before old pushed new parents afters front kids node below e f g =
    let own : SheetRow = record { name = Some node.name; inode = node.inode; parent = slice_index parents (length old); after = slice_index afters (length old) } in
    let first : List SheetRow = rows_from parents afters (length before) (entries_of_nodes front) in
    let start : ℕ = length before + length (entries_of_nodes front) in
    let count : length old ≡ start = rows-count before old parents afters (entries_of_nodes front) e in
    let next : length pushed ≡ suc start = ap length f ∙ (length-append old (own ∷ []) ∙ omega (arith, count)) in
    let more : rows_from parents afters (length before) (entries_of_nodes (front ++ node ∷ [])) ≡ first ++ own ∷ rows_from parents afters (suc start) node.below =
    ap (rows_from parents afters (length before)) (entries_of_nodes-push front node)
    ∙ (rows-append parents afters (length before) (entries_of_nodes front) (under node.name (entries_from node.inode node.below))
    ∙ ap (λ (rows : List SheetRow). first ++ rows) (rows-node parents afters start node kids below
    ∙ (λ j. (record { name = Some node.name; inode = node.inode; parent = slice_index parents (sym count j); after = slice_index afters (sym count j) }) ∷ rows_from parents afters (suc start) node.below))) in
    g ∙ ((λ j. f j ++ rows_from parents afters (next j) (below j))
    ∙ (append_assoc old (own ∷ []) (rows_from parents afters (suc start) node.below)
    ∙ (ap (λ (rows : List SheetRow). rows ++ own ∷ rows_from parents afters (suc start) node.below) e
    ∙ (append_assoc before first (own ∷ rows_from parents afters (suc start) node.below)
    ∙ ap (λ (rows : List SheetRow). before ++ rows) (sym more)))))

-- ---- the room of a layer

pub root-place : (inode : Inode) (nodes : List NodeView) (parents : List ℕ) (adds : AddsParents 0 (0 ∷ []) parents (entries_of_nodes nodes)) → placed_by [] parents (entries_from inode (entries_of_nodes nodes)) ≡ entries_from inode (entries_of_nodes nodes)
root-place inode nodes parents adds =
    ap (λ (ps : List ℕ). placed_by [] ps (entries_from inode (entries_of_nodes nodes))) adds.grown
    ∙ (adds.place (([], inode) ∷ []) refl
    ∙ ap (λ (entries : Entries). ([], inode) ∷ entries) (placed-root (entries_of_nodes nodes)))

pub root-afters : (inode : Inode) (nodes : List NodeView) (first : ℕ) (afters : List ℕ) → first ≡ suc (length (entries_of_nodes nodes)) → afters ≡ (first ∷ []) ++ afters_from 1 (entries_of_nodes nodes) → afters ≡ afters_from 0 (entries_from inode (entries_of_nodes nodes))
root-afters inode nodes first afters one is =
    let head : first ≡ suc (0 + count_deeper 0 (entries_of_nodes nodes)) = omega (arith, one, deeper-all (entries_of_nodes nodes) (below-nodes nodes)) in
    is ∙ ap (λ n. n ∷ afters_from 1 (entries_of_nodes nodes)) head

-- ---- the sheet in its room

with-placed : (before : Entries) (parents afters : List ℕ) (number : ℕ) (entries : Entries) → number + length entries ≤ length parents → entries_with before (rows_from parents afters number entries) ≡ placed_by before (drop number parents) entries
with-placed before parents afters number [] few = refl
with-placed before parents afters number (entry ∷ entries) few =
    let next : drop number parents ≡ slice_index parents number ∷ drop (suc number) parents = drop-cons parents number 0 (omega (arith, few)) in
    with-placed (before ++ (row_path before (slice_index parents number) (last_name entry.0), entry.1) ∷ []) parents afters (suc number) entries (omega (arith, few))
    ∙ sym (ap (λ (ps : List ℕ). placed_by before ps (entry ∷ entries)) next)

rows-parents : (parents afters : List ℕ) (number : ℕ) (entries : Entries) → number + length entries ≡ length parents → map (λ row. row.parent) (rows_from parents afters number entries) ≡ drop number parents
rows-parents parents afters number [] all = sym (drop_all number parents (omega (arith, all)))
rows-parents parents afters number (entry ∷ entries) all =
    ap (λ rest. slice_index parents number ∷ rest) (rows-parents parents afters (suc number) entries (omega (arith, all)))
    ∙ sym (drop-cons parents number 0 (omega (arith, all)))

rows-afters : (parents afters : List ℕ) (number : ℕ) (entries : Entries) → number + length entries ≡ length afters → map (λ row. row.after) (rows_from parents afters number entries) ≡ drop number afters
rows-afters parents afters number [] all = sym (drop_all number afters (omega (arith, all)))
rows-afters parents afters number (entry ∷ entries) all =
    ap (λ rest. slice_index afters number ∷ rest) (rows-afters parents afters (suc number) entries (omega (arith, all)))
    ∙ sym (drop-cons afters number 0 (omega (arith, all)))

rows-marks : (parents afters : List ℕ) (number : ℕ) (entries : Entries) → map (λ row. mark_of row.inode) (rows_from parents afters number entries) ≡ marks_of entries
rows-marks parents afters number [] = refl
rows-marks parents afters number (entry ∷ entries) = ap (λ rest. mark_of entry.1 ∷ rest) (rows-marks parents afters (suc number) entries)

last_name-some : (path : PathNames) → nat_lt 0 (length path) ≡ true → is_some (last_name path) ≡ true
last_name-some [] some = let bad : false ≡ true = some in cc
last_name-some (name ∷ []) some = refl
last_name-some (name ∷ other ∷ path) some = last_name-some (other ∷ path) (grind (arith, nat_tests))

rows-named : (parents afters : List ℕ) (number : ℕ) (entries : Entries) → are_below entries ≡ true → list_all (λ row. is_some row.name) (rows_from parents afters number entries) ≡ true
rows-named parents afters number [] all = refl
rows-named parents afters number (entry ∷ entries) all =
    let parts = both {a = nat_lt 0 (length entry.0)} {b = are_below entries} all in
    λ j. last_name-some entry.0 parts.0 j && rows-named parents afters (suc number) entries parts.1 j

module _ (inode : Inode) (nodes : List NodeView) (parents afters : List ℕ) (count : length parents ≡ suc (length (entries_of_nodes nodes)))
    (place : placed_by [] parents (entries_from inode (entries_of_nodes nodes)) ≡ entries_from inode (entries_of_nodes nodes)) where
  abbrev own_layer : Entries
  own_layer = entries_from inode (entries_of_nodes nodes)

  abbrev own_rows : List SheetRow
  own_rows = rows_from parents afters 0 (entries_from inode (entries_of_nodes nodes))

  pub filled-entries : entries_of_rows (rows_from parents afters 0 (entries_from inode (entries_of_nodes nodes))) ≡ entries_from inode (entries_of_nodes nodes)
  filled-entries = with-placed [] parents afters 0 own_layer (omega (arith, count)) ∙ place

  pub filled-sheet : IsLayer (entries_from inode (entries_of_nodes nodes)) → slice_get parents 0 ≡ Some 0 → are_earlier 1 (drop 1 parents) ≡ true → afters ≡ afters_from 0 (entries_from inode (entries_of_nodes nodes))
      → (below : List (List ℕ)) → ((number : ℕ) → number < length (entries_from inode (entries_of_nodes nodes)) → slice_get below number ≡ Some (kid_numbers 1 (drop 1 parents) number))
      → (marked : List Mark) → marked ≡ marks_of (entries_from inode (entries_of_nodes nodes)) → IsSheet (rows_from parents afters 0 (entries_from inode (entries_of_nodes nodes))) below marked
  filled-sheet is root earlier ends below kids marked marks =
      let parts : parents_of own_rows ≡ drop 1 parents = rows-parents parents afters 1 (entries_of_nodes nodes) (omega (arith, count)) in
      let last : length afters ≡ suc (length (entries_of_nodes nodes)) = ap length ends ∙ afters-length 0 own_layer in
      record {
        are = record {
          layer = subst IsLayer (sym filled-entries) is;
          root = (refl, get_or_from_slice_get parents 0 0 0 root);
          named = rows-named parents afters 1 (entries_of_nodes nodes) (below-nodes nodes);
          earlier = ap (are_earlier 1) parts ∙ earlier;
        };
        afters = rows-afters parents afters 0 own_layer (omega (arith, last)) ∙ (ends ∙ ap (afters_from 0) (sym filled-entries));
        kids = λ number inside. kids number (omega (arith, inside, rows-length parents afters 0 own_layer)) ∙ ap (λ (ps : List ℕ). Some (kid_numbers 1 ps number)) (sym parts);
        marks = marks ∙ sym (rows-marks parents afters 0 own_layer);
      }
