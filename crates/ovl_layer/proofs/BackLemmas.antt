-- The entries of a layer, one after another, are that layer.
use Rattle.std.proofs.Common.{◌≡◌, ◌-◌, ◌<◌, ◌≤◌, ◌∙◌, [], ◌∷◌, ◌++◌, Bool, true, false, Some, None, Ok, refl, sym, ap, subst, append_assoc, append-nil, length, map, get_or, arith, leb-true}
use Rattle.std.specs.Prelude.{◌&&◌, ◌||◌, not, if◌then◌else◌}
use Rattle.std.specs.List.{list_all}
use Rattle.std.specs.Ordering.{is_lt}
use Rattle.std.specs.Cmp.Lexicographic.{bytes_decides, pointwise_decides}
use Rattle.std.proofs.lemmas.List.{length-map}
use Rattle.ovl_names.specs.Names.{PathName}
use Rattle.ovl_names.specs.Order.{ascends}
use Rattle.ovl_names.specs.Paths.{PathNames, path_cmp, path_eq, parent_path, child_path, is_root}
use Rattle.ovl_names.proofs.Ascending.{both, not_true, is_lt-Less, list_all-front, ascends-across, ascends-back}
use Rattle.ovl_inode.specs.declared.inodes.Inode.{Inode}
use Rattle.ovl_inode.specs.Attributes.{has_escaped_name}
use Rattle.ovl_inode.specs.Marks.{is_directory}
use Rattle.ovl_layer.specs.Layers.{Entry, Entries, entry_cmp, entry_at, is_directory_at, has_parent, is_within_limits, entry_limit, IsLayer}
use Rattle.ovl_inode.specs.Sound.{is_sound_inode}
use Rattle.ovl_layer.specs.Entries.{comes_after, root_fault, entry_fault, entry_after, entries_after, layer_of_entries, stated_pair, layer_of_pairs}
use Rattle.ovl_layer.specs.declared.faults.LayerFault.TheVariants.{Root, Escaped}
use Rattle.ovl_layer.proofs.OpenLemmas.{path_cmp-under}
use Rattle.ovl_layer.proofs.LayerLemmas.{path_order, path_cmp-same, in_parent, after-some}
use Rattle.ovl_layer.proofs.EntryLemmas.{entry-taken, counted, one_taken}

-- ---- the directory of an entry is before it

child-after : (directory : PathNames) (name : PathName) → is_lt (path_cmp directory (child_path directory name)) ≡ true
child-after [] name = refl
child-after (first ∷ directory) name = ap is_lt (path_cmp-under first directory (child_path directory name)) ∙ child-after directory name

parent-before : (path : PathNames) → 0 < length path → is_lt (path_cmp (parent_path path) path) ≡ true
parent-before path some = ap (λ (own : PathNames). is_lt (path_cmp (parent_path path) own)) (in_parent path [] some) ∙ child-after (parent_path path) (get_or path (length path - 1) [])

before-all : (path : PathNames) (entry : Entry) (more : Entries) → is_lt (path_cmp path entry.0) ≡ true → list_all (λ later. is_lt (entry_cmp entry later)) more ≡ true → list_all (λ later. is_lt (path_cmp path later.0)) more ≡ true
before-all path entry [] before all = refl
before-all path entry (next ∷ more) before all =
    let parts = both {a = is_lt (entry_cmp entry next)} {b = list_all (λ later. is_lt (entry_cmp entry later)) more} all in
    rw (path_order.trans path entry.0 next.0 (is_lt-Less (path_cmp path entry.0) before) (is_lt-Less (path_cmp entry.0 next.0) parts.0)) (before-all path entry more before parts.1)

entry_at-later : (path : PathNames) (rest : Entries) → list_all (λ later. is_lt (path_cmp path later.0)) rest ≡ true → entry_at rest path ≡ None
entry_at-later path [] all = refl
entry_at-later path (entry ∷ rest) all = by (path_eq path entry.0) refl (entry_at-later path rest parts.1)
  where
    parts : (is_lt (path_cmp path entry.0) ≡ true) × (list_all (λ later. is_lt (path_cmp path later.0)) rest ≡ true)
    parts = both {a = is_lt (path_cmp path entry.0)} {b = list_all (λ later. is_lt (path_cmp path later.0)) rest} all

    by : (b : Bool) → path_eq path entry.0 ≡ b → entry_at rest path ≡ None → entry_at (entry ∷ rest) path ≡ None
    by true e none =
        let same : path ≡ entry.0 = (pointwise_decides bytes_decides path entry.0).0 e in
        let bad : false ≡ true = sym (ap is_lt (path_cmp-same path)) ∙ (ap (λ (other : PathNames). is_lt (path_cmp path other)) same ∙ parts.0) in cc
    by false e none = rw e none

entry_at-front : (before rest : Entries) (path : PathNames) → entry_at rest path ≡ None → entry_at (before ++ rest) path ≡ entry_at before path
entry_at-front [] rest path none = none
entry_at-front (entry ∷ before) rest path none = by (path_eq path entry.0) refl (entry_at-front before rest path none)
  where
    by : (b : Bool) → path_eq path entry.0 ≡ b → entry_at (before ++ rest) path ≡ entry_at before path → entry_at ((entry ∷ before) ++ rest) path ≡ entry_at (entry ∷ before) path
    by true e same = rw e refl
    by false e same = rw e same

parent-in_front : (before : Entries) (entry : Entry) (more : Entries) → ascends entry_cmp (before ++ entry ∷ more) ≡ true → 0 < length entry.0 → is_directory_at (before ++ entry ∷ more) (parent_path entry.0) ≡ is_directory_at before (parent_path entry.0)
parent-in_front before entry more up some =
    let parts = both {a = list_all (λ later. is_lt (entry_cmp entry later)) more} {b = ascends entry_cmp more} (ascends-back entry_cmp before (entry ∷ more) up) in
    let own = parent-before entry.0 some in
    let later : list_all (λ later. is_lt (path_cmp (parent_path entry.0) later.0)) (entry ∷ more) ≡ true = rw own (before-all (parent_path entry.0) entry more own parts.0) in
    let same = entry_at-front before (entry ∷ more) (parent_path entry.0) (entry_at-later (parent_path entry.0) (entry ∷ more) later) in
    rw (same, is_directory_at) refl

not_root : (path : PathNames) → 0 < length path → is_root path ≡ false
not_root [] some = absurd (omega (arith, some))
not_root (name ∷ path) some = refl

-- ---- a layer's entries, one after another

root-first : (path : PathNames) (inode : Inode) (more : Entries) → ascends entry_cmp ((path, inode) ∷ more) ≡ true → is_directory_at ((path, inode) ∷ more) [] ≡ true → (is_root path && is_directory inode) ≡ true
root-first [] inode more up rooted = rooted
root-first (name ∷ names) inode more up rooted =
    let parts = both {a = list_all (λ later. is_lt (entry_cmp (name ∷ names, inode) later)) more} {b = ascends entry_cmp more} up in
    let none : entry_at more [] ≡ None = entry_at-later [] more (before-all [] (name ∷ names, inode) more refl parts.0) in
    let bad : false ≡ true = rw (none, is_directory_at) at rooted in cc

module _ (before : Entries) (entry : Entry) (more : Entries) (is : IsLayer (before ++ entry ∷ more)) where
  unescaped : has_escaped_name entry.1.attrs ≡ false
  unescaped =
      let here = (list_all-front (λ (e : Entry). not (has_escaped_name e.1.attrs)) before (entry ∷ more) is.unescaped).1 in
      not_true (has_escaped_name entry.1.attrs) (both {a = not (has_escaped_name entry.1.attrs)} {b = list_all (λ (e : Entry). not (has_escaped_name e.1.attrs)) more} here).0

  after : comes_after before entry.0 ≡ true
  after = ascends-across entry_cmp before entry more is.in_order

  parent : 0 < length entry.0 → is_directory_at before (parent_path entry.0) ≡ true
  parent some =
      let whole : Entries = before ++ entry ∷ more in
      let here = (list_all-front (λ (e : Entry). has_parent whole e.0) before (entry ∷ more) is.closed).1 in
      let own = (both {a = has_parent whole entry.0} {b = list_all (λ (e : Entry). has_parent whole e.0) more} here).0 in
      sym (parent-in_front before entry more is.in_order some)
      ∙ (sym (ap (λ b. b || is_directory_at whole (parent_path entry.0)) (not_root entry.0 some)) ∙ own)

first-taken : (entry : Entry) (more : Entries) → IsLayer (entry ∷ more) → entry_after [] (Some entry) ≡ Ok (entry ∷ [])
first-taken entry more is =
    let none : entry_fault [] entry ≡ None =
    ap (λ b. if b then Some (Escaped 0) else root_fault entry) (unescaped [] entry more is)
    ∙ ap (λ b. if b then None else Some Root) (root-first entry.0 entry.1 more is.in_order is.rooted) in
    rw (none, entry_after) refl

-- the next entry of a layer is taken
pub next-taken : (before : Entries) (entry : Entry) (more : Entries) → IsLayer (before ++ entry ∷ more) → entry_after before (Some entry) ≡ Ok (before ++ entry ∷ [])
next-taken [] entry more is = first-taken entry more is
next-taken (first ∷ others) entry more is =
    let before : Entries = first ∷ others in
    let comes = after before entry more is in
    let some = after-some first.0 entry.0 (both {a = is_lt (path_cmp first.0 entry.0)} {b = comes_after others entry.0} comes).0 in
    entry-taken first others entry (unescaped before entry more is) comes (parent before entry more is some)

all-taken : (before rest : Entries) → IsLayer (before ++ rest) → entries_after before (map (λ entry. Some entry) rest) ≡ Ok (before ++ rest)
all-taken before [] is = ap (λ (es : Entries). Ok es) (sym (append-nil before))
all-taken before (entry ∷ more) is =
    let same : (before ++ entry ∷ []) ++ more ≡ before ++ entry ∷ more = append_assoc before (entry ∷ []) more in
    one_taken before (Some entry) (map (λ e. Some e) more) (before ++ entry ∷ []) (next-taken before entry more is)
    ∙ (all-taken (before ++ entry ∷ []) more (subst IsLayer (sym same) is) ∙ ap (λ (es : Entries). Ok es) same)

pub layer-counted : (layer : Entries) → IsLayer layer → layer_of_entries (map (λ entry. Some entry) layer) ≡ Ok layer
layer-counted layer is =
    let count : length (map (λ (entry : Entry). Some entry) layer) ≡ length layer = length-map layer (λ (entry : Entry). Some entry) in
    let limit : length layer ≤ entry_limit = leb-true (length layer) entry_limit is.counted in
    counted (map (λ (entry : Entry). Some entry) layer) (omega (arith, count, some layer is.rooted)) (omega (arith, count, limit))
    ∙ all-taken [] layer is
  where
    some : (layer : Entries) → is_directory_at layer [] ≡ true → 0 < length layer
    some [] rooted = let bad : false ≡ true = rooted in cc
    some (entry ∷ layer) rooted = omega arith

-- ---- the pairs of a layer

pub stated-own : (entry : Entry) → is_within_limits entry.0 ≡ true → is_sound_inode entry.1 ≡ true → stated_pair entry ≡ Some entry
stated-own entry limited sound = ap (λ b. if b && is_sound_inode entry.1 then Some entry else None) limited ∙ ap (λ b. if b then Some entry else None) sound

pairs-stated : (entries : Entries) → list_all (λ entry. is_within_limits entry.0) entries ≡ true → list_all (λ entry. is_sound_inode entry.1) entries ≡ true → map stated_pair entries ≡ map (λ entry. Some entry) entries
pairs-stated [] limited sound = refl
pairs-stated (entry ∷ entries) limited sound =
    let limits = both {a = is_within_limits entry.0} {b = list_all (λ e. is_within_limits e.0) entries} limited in
    let sounds = both {a = is_sound_inode entry.1} {b = list_all (λ e. is_sound_inode e.1) entries} sound in
    λ j. stated-own entry limits.0 sounds.0 j ∷ pairs-stated entries limits.1 sounds.1 j

pub pairs-back : (layer : Entries) → IsLayer layer → layer_of_pairs layer ≡ Ok layer
pairs-back layer is = ap layer_of_entries (pairs-stated layer is.limited is.sound) ∙ layer-counted layer is

-- the pair of the next entry of a layer is taken
pub pair-next : (before : Entries) (entry : Entry) (more : Entries) → IsLayer (before ++ entry ∷ more) → entry_after before (stated_pair entry) ≡ Ok (before ++ entry ∷ [])
pair-next before entry more is =
    let limits = (list_all-front (λ (e : Entry). is_within_limits e.0) before (entry ∷ more) is.limited).1 in
    let sounds = (list_all-front (λ (e : Entry). is_sound_inode e.1) before (entry ∷ more) is.sound).1 in
    let own = stated-own entry (both {a = is_within_limits entry.0} {b = list_all (λ (e : Entry). is_within_limits e.0) more} limits).0 (both {a = is_sound_inode entry.1} {b = list_all (λ (e : Entry). is_sound_inode e.1) more} sounds).0 in
    ap (entry_after before) own ∙ next-taken before entry more is
