-- The tokens that are written of a layer's value are read as that value.
use Rattle.std.proofs.Common.{◌≡◌, ◌∙◌, ℕ, ◌≤◌, ◌<◌, ◌^◌, ℤ, pos, negsuc, suc, max, List, [], ◌∷◌, ◌++◌, Bool, true, Option, Some, None, refl, sym, ap, ap₂, arith, append_assoc, append-nil, decimal, ltb-true, leb-true}
use Rattle.std.specs.Prelude.{⊤, option_and_then, nat_le, ◌&&◌, codes}
use Rattle.std.specs.Option.{option_map}
use Rattle.std.specs.List.{list_all}
use Rattle.std.specs.Ordering.{is_lt, nat_cmp, match_ordering}
use Rattle.std.specs.Cmp.Lexicographic.{slice_cmp}
use Rattle.std.specs.declared.cmp.Ordering.{Ordering}
use Rattle.std.specs.declared.cmp.Ordering.TheVariants.{Less, Equal, Greater}
use Rattle.std.specs.Cmp.Lexicographic.{nat_list_cmp_total}
use Rattle.json.specs.Print.{IsNumber}
use Rattle.json.specs.Tree as tree
use Rattle.json.specs.Tree.{HasNumbers, ItemsHaveNumbers, MembersHaveNumbers}
use Rattle.json.proofs.Printed.Decimals.{IsNumber-decimal, IsNumber-signed_decimal}
use Rattle.serde_json.specs.Data.{Data, number, unsigned, object, array, string, boolean, null, Items, no_items, item, Members, no_members, member, put, depth, items_depth, members_depth}
use Rattle.serde_json.specs.Find.{of_integer}
use Rattle.serde_json.specs.Read.{number_of, of_json, of_items, of_members}
use Rattle.serde_json.specs.Written.{outline, items_outline, members_outline, number_text}
use Rattle.serde_json.proofs.Numbers.{number_of-decimal, number_of-negative}
use Rattle.ovl_names.specs.Paths.{PathNames, path_text}
use Rattle.ovl_names.specs.Order.{ascends}
use Rattle.ovl_names.proofs.Ascending.{both, reversed}
use Rattle.ovl_inode.specs.declared.digests.Digest.{Digest}
use Rattle.ovl_inode.specs.declared.inodes.Inode.{Inode}
use Rattle.ovl_inode.specs.declared.inodes.Kind.{Kind}
use Rattle.ovl_inode.specs.declared.inodes.Kind.TheVariants.{Dir, File, Symlink, Char, Block, Fifo, Socket}
use Rattle.ovl_inode.specs.Attributes.{Attributes, attribute_cmp, are_attributes}
use Rattle.ovl_inode.specs.Kinds.{kind_word}
use Rattle.ovl_inode.specs.Marks.{has_metacopy}
use Rattle.ovl_inode.specs.Sound.{is_sound_inode, is_sound_kind, is_word, is_seconds, has_sound_blob, mode_limit, nsec_limit, size_limit}
use Rattle.ovl_inode.proofs.SoundLaws.{sound_values}
use Rattle.ovl_layer.specs.Layers.{Entries, IsLayer}
use Rattle.ovl_manifest.specs.Versions.{version_number, written}
use Rattle.ovl_manifest.specs.Text.{whole, hexadecimal, with_numbers, with_kind, attribute_members, common_members, entry_value, entry_items, layer_value}
use Rattle.ovl_manifest.proofs.TextLemmas.{attributes_in_turn, attribute_members-in_turn}

-- ---- numbers

natural_back : (n limit : ℕ) → n ≤ limit → limit < 2 ^ 64 → number_of (decimal n) ≡ Some (unsigned n)
natural_back n limit within small = number_of-decimal n (omega (arith, within, small))

seconds_back : (z : ℤ) → is_seconds z ≡ true → number_of (number_text (of_integer z)) ≡ Some (of_integer z)
seconds_back (pos n) is = number_of-decimal n (omega (arith, ltb-true n (2 ^ 63) is))
seconds_back (negsuc n) is = number_of-negative n (ltb-true n (2 ^ 63) is)

seconds_number : (z : ℤ) → is_seconds z ≡ true → IsNumber (number_text (of_integer z))
seconds_number (pos n) is = IsNumber-decimal n (omega (arith, ltb-true n (2 ^ 63) is))
seconds_number (negsuc n) is = IsNumber-signed_decimal (negsuc n) (ltb-true n (2 ^ 63) is)

-- ---- members

-- a value is read as itself, and its numbers are numbers of JSON
abbrev IsBack : Data → Type 0
IsBack d = (of_json (outline d) ≡ Some d) × HasNumbers (outline d)

abbrev AreBack : Members → Type 0
AreBack no_members = ⊤
AreBack (member k d ms) = IsBack d × AreBack ms

put-back : (k : List ℕ) (d : Data) (ms : Members) → IsBack d → AreBack ms → AreBack (put k d ms)
put-back k d no_members own others = (own, others)
put-back k d (member l e ms) own others = by (slice_cmp nat_cmp k l) (put-back k d ms own others.1)
  where
    by : (o : Ordering) → AreBack (put k d ms) → AreBack (match_ordering o (member k d (member l e ms)) (member l d ms) (member l e (put k d ms)))
    by Less later = (own, others)
    by Equal later = (own, others.1)
    by Greater later = (others.0, later)

-- members put one after another after others
abbrev put_all : Members → Members → Members
put_all no_members found = found
put_all (member k d ms) found = put_all ms (put k d found)

members-read : (ms found : Members) → AreBack ms → of_members (members_outline ms) found ≡ Some (put_all ms found)
members-read no_members found all = refl
members-read (member k d ms) found all =
    ap (option_and_then (λ own. of_members (members_outline ms) (put k own found))) all.0.0 ∙ members-read ms (put k d found) all.1

members-numbers : (ms : Members) → AreBack ms → MembersHaveNumbers (members_outline ms)
members-numbers no_members all = tt
members-numbers (member k d ms) all = (all.0.1, members-numbers ms all.1)

-- ---- attributes

attribute_numbers : (attrs : Attributes) → MembersHaveNumbers (members_outline (attribute_members attrs))
attribute_numbers attrs = members-numbers (attribute_members attrs) (strings attrs)
  where
    strings : (attrs : Attributes) → AreBack (attribute_members attrs)
    strings [] = tt
    strings (attr ∷ attrs) = put-back attr.0 (hexadecimal attr.1) (attribute_members attrs) (refl, tt) (strings attrs)

all-behind : {X : Type 0} (test : X → Bool) (done : List X) (x : X) (left : List X) → list_all test (done ++ x ∷ left) ≡ true → test x ≡ true
all-behind test [] x left all = (both {a = test x} {b = list_all test left} all).0
all-behind test (first ∷ done) x left all = all-behind test done x left (both {a = test first} {b = list_all test (done ++ x ∷ left)} all).1

-- an attribute after others is put after them
put-behind : (done : Attributes) (attr : List ℕ × List ℕ) (left : Attributes) → ascends attribute_cmp (done ++ attr ∷ left) ≡ true
    → put attr.0 (hexadecimal attr.1) (attributes_in_turn done) ≡ attributes_in_turn (done ++ attr ∷ [])
put-behind [] attr left up = refl
put-behind (first ∷ done) attr left up =
    let parts = both {a = list_all (λ later. is_lt (attribute_cmp first later)) (done ++ attr ∷ left)} {b = ascends attribute_cmp (done ++ attr ∷ left)} up in
    let before = all-behind (λ later. is_lt (attribute_cmp first later)) done attr left parts.0 in
    rw (reversed nat_list_cmp_total first.0 attr.0 before) (ap (member first.0 (hexadecimal first.1)) (put-behind done attr left parts.1))

attributes_after : (done left : Attributes) → ascends attribute_cmp (done ++ left) ≡ true → of_members (members_outline (attributes_in_turn left)) (attributes_in_turn done) ≡ Some (attributes_in_turn (done ++ left))
attributes_after done [] up = ap (λ (attrs : Attributes). Some (attributes_in_turn attrs)) (sym (append-nil done))
attributes_after done (attr ∷ left) up =
    let grown = append_assoc done (attr ∷ []) left in
    ap (of_members (members_outline (attributes_in_turn left))) (put-behind done attr left up)
    ∙ (attributes_after (done ++ attr ∷ []) left (ap (ascends attribute_cmp) grown ∙ up)
    ∙ ap (λ (attrs : Attributes). Some (attributes_in_turn attrs)) grown)

attributes_back : (attrs : Attributes) → ascends attribute_cmp attrs ≡ true → of_members (members_outline (attribute_members attrs)) no_members ≡ Some (attribute_members attrs)
attributes_back attrs up =
    let same = attribute_members-in_turn attrs up in
    ap (λ (ms : Members). of_members (members_outline ms) no_members) same ∙ (attributes_after [] attrs up ∙ ap (λ (ms : Members). Some ms) (sym same))

-- ---- entries

whole-back : (n limit : ℕ) → n ≤ limit → limit < 2 ^ 64 → IsBack (whole n)
whole-back n limit within small = (ap (option_map number) (natural_back n limit within small), IsNumber-decimal n (omega (arith, within, small)))

word-back : (n : ℕ) → is_word n ≡ true → IsBack (whole n)
word-back n is = whole-back n (2 ^ 32) (omega (arith, ltb-true n (2 ^ 32) is)) (omega arith)

seconds-back : (z : ℤ) → is_seconds z ≡ true → IsBack (number (of_integer z))
seconds-back z is = (ap (option_map number) (seconds_back z is), seconds_number z is)

attributes-back : (attrs : Attributes) → are_attributes attrs ≡ true → IsBack (object (attribute_members attrs))
attributes-back attrs are = (ap (option_map object) (attributes_back attrs (both are).1), attribute_numbers attrs)

common-back : (path : PathNames) (inode : Inode) → is_sound_inode inode ≡ true → AreBack (common_members (path, inode))
common-back path inode sound =
    let own = sound_values inode sound in
    let gid : Members = put (codes "gid") (whole inode.gid) no_members in
    let kind : Members = put (codes "kind") (string (kind_word inode.kind)) gid in
    let mode : Members = put (codes "mode") (whole inode.mode) kind in
    let mtime : Members = put (codes "mtime") (number (of_integer inode.mtime)) mode in
    let nsec : Members = put (codes "mtime-nsec") (whole inode.nsec) mtime in
    let placed : Members = put (codes "path") (string (path_text path)) nsec in
    let uid : Members = put (codes "uid") (whole inode.uid) placed in
    put-back (codes "xattrs") (object (attribute_members inode.attrs)) uid (attributes-back inode.attrs own.attrs)
    (put-back (codes "uid") (whole inode.uid) placed (word-back inode.uid own.uid)
    (put-back (codes "path") (string (path_text path)) nsec (refl, tt)
    (put-back (codes "mtime-nsec") (whole inode.nsec) mtime (whole-back inode.nsec nsec_limit (leb-true inode.nsec nsec_limit own.nsec) (omega arith))
    (put-back (codes "mtime") (number (of_integer inode.mtime)) mode (seconds-back inode.mtime own.mtime)
    (put-back (codes "mode") (whole inode.mode) kind (whole-back inode.mode mode_limit (leb-true inode.mode mode_limit own.mode) (omega arith))
    (put-back (codes "kind") (string (kind_word inode.kind)) gid (refl, tt)
    (put-back (codes "gid") (whole inode.gid) no_members (word-back inode.gid own.gid) tt)))))))

numbers-back : (major minor : ℕ) (ms : Members) → (is_word major && is_word minor) ≡ true → AreBack ms → AreBack (with_numbers major minor ms)
numbers-back major minor ms are others =
    let words = both {a = is_word major} {b = is_word minor} are in
    put-back (codes "minor") (whole minor) (put (codes "major") (whole major) ms) (word-back minor words.1) (put-back (codes "major") (whole major) ms (word-back major words.0) others)

size-back : (size : ℕ) (blob : Option Digest) (metacopy : Bool) (ms : Members) → is_sound_kind (File size blob) metacopy ≡ true → AreBack ms → AreBack (put (codes "size") (whole size) ms)
size-back size blob metacopy ms sound others =
    let small = both {a = nat_le size size_limit} {b = has_sound_blob size blob metacopy} sound in
    put-back (codes "size") (whole size) ms (whole-back size size_limit (leb-true size size_limit small.0) (omega arith)) others

kind-back : (kind : Kind) (metacopy : Bool) (ms : Members) → is_sound_kind kind metacopy ≡ true → AreBack ms → AreBack (with_kind kind ms)
kind-back Dir metacopy ms sound others = others
kind-back Fifo metacopy ms sound others = others
kind-back Socket metacopy ms sound others = others
kind-back (Symlink target) metacopy ms sound others = put-back (codes "target") (string target) ms (refl, tt) others
kind-back (Char major minor) metacopy ms sound others = numbers-back major minor ms sound others
kind-back (Block major minor) metacopy ms sound others = numbers-back major minor ms sound others
kind-back (File size None) metacopy ms sound others = size-back size None metacopy ms sound others
kind-back (File size (Some blob)) metacopy ms sound others =
    put-back (codes "blob") (hexadecimal blob) (put (codes "size") (whole size) ms) (refl, tt) (size-back size (Some blob) metacopy ms sound others)

-- the members of an entry are in the order in which they are read
in_order : (path : PathNames) (inode : Inode) (kind : Kind)
    → put_all (with_kind kind (common_members (path, record inode { kind = kind }))) no_members ≡ with_kind kind (common_members (path, record inode { kind = kind }))
in_order path inode Dir = refl
in_order path inode (File size None) = refl
in_order path inode (File size (Some blob)) = refl
in_order path inode (Symlink target) = refl
in_order path inode (Char major minor) = refl
in_order path inode (Block major minor) = refl
in_order path inode Fifo = refl
in_order path inode Socket = refl

entry-back : (path : PathNames) (inode : Inode) → is_sound_inode inode ≡ true → IsBack (entry_value (path, inode))
entry-back path inode sound =
    let ms : Members = with_kind inode.kind (common_members (path, inode)) in
    let all : AreBack ms = kind-back inode.kind (has_metacopy inode) (common_members (path, inode)) (sound_values inode sound).kind (common-back path inode sound) in
    (ap (option_map object) (members-read ms no_members all ∙ ap (λ (own : Members). Some own) (in_order path inode inode.kind)), members-numbers ms all)

entries_back : (entries : Entries) → list_all (λ entry. is_sound_inode entry.1) entries ≡ true → of_items (items_outline (entry_items entries)) ≡ Some (entry_items entries)
entries_back [] sound = refl
entries_back (entry ∷ entries) sound =
    let parts = both {a = is_sound_inode entry.1} {b = list_all (λ entry. is_sound_inode entry.1) entries} sound in
    ap (option_and_then (λ d. option_map (item d) (of_items (items_outline (entry_items entries))))) (entry-back entry.0 entry.1 parts.0).0
    ∙ ap (option_map (item (entry_value entry))) (entries_back entries parts.1)

entries_numbers : (entries : Entries) → list_all (λ entry. is_sound_inode entry.1) entries ≡ true → ItemsHaveNumbers (items_outline (entry_items entries))
entries_numbers [] sound = tt
entries_numbers (entry ∷ entries) sound =
    let parts = both {a = is_sound_inode entry.1} {b = list_all (λ entry. is_sound_inode entry.1) entries} sound in
    ((entry-back entry.0 entry.1 parts.0).1, entries_numbers entries parts.1)

-- ---- layers

version-back : IsBack (whole (version_number written))
version-back = whole-back (version_number written) (version_number written) (omega arith) (omega arith)

pub layer_numbers : (layer : Entries) → IsLayer layer → HasNumbers (outline (layer_value layer))
layer_numbers layer is = (entries_numbers layer is.sound, (version-back.1, tt))

pub layer_states : (layer : Entries) → IsLayer layer → of_json (outline (layer_value layer)) ≡ Some (layer_value layer)
layer_states layer is = rw (entries_back layer is.sound, version-back.0) refl

mutual
  pub outline-depth : (d : Data) → tree.depth (outline d) ≡ depth d
  outline-depth null = refl
  outline-depth (boolean b) = refl
  outline-depth (number n) = refl
  outline-depth (string s) = refl
  outline-depth (array ds) = ap suc (items-depth ds)
  outline-depth (object ms) = ap suc (members-depth ms)

  items-depth : (ds : Items) → tree.items_depth (items_outline ds) ≡ items_depth ds
  items-depth no_items = refl
  items-depth (item d ds) = ap₂ max (outline-depth d) (items-depth ds)

  members-depth : (ms : Members) → tree.members_depth (members_outline ms) ≡ members_depth ms
  members-depth no_members = refl
  members-depth (member k d ms) = ap₂ max (outline-depth d) (members-depth ms)
