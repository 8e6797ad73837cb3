-- What is written of a layer, attribute by attribute, and how deep it nests.
use Rattle.std.proofs.Common.{◌≡◌, ℕ, ◌<◌, ◌∙◌, List, [], ◌∷◌, Bool, true, false, Some, None, zero, suc, ◌≤◌, arith, refl, ap, length, get_or, codes}
use Rattle.std.specs.Prelude.{◌||◌}
use Rattle.std.specs.List.{list_all}
use Rattle.std.specs.Ordering.{is_lt, nat_cmp, match_ordering}
use Rattle.std.specs.Cmp.Lexicographic.{slice_cmp}
use Rattle.std.specs.declared.cmp.Ordering.{Ordering}
use Rattle.std.specs.declared.cmp.Ordering.TheVariants.{Less, Equal, Greater}
use Rattle.serde_json.specs.Data.{Data, string, Members, no_members, member, put, depth, items_depth, members_depth}
use Rattle.ovl_names.specs.Order.{ascends}
use Rattle.ovl_names.proofs.Ascending.{both, is_lt-Less}
use Rattle.ovl_inode.specs.Attributes.{Attributes, attribute_cmp}
use Rattle.ovl_layer.specs.Layers.{Entry, Entries}
use Rattle.ovl_manifest.specs.Text.{whole, hexadecimal, with_kind, attribute_members, common_members, entry_value, entry_items, layer_value}
use Rattle.ovl_inode.specs.declared.inodes.Kind.{Kind}
use Rattle.ovl_inode.specs.declared.inodes.Kind.TheVariants.{Dir, File, Symlink, Char, Block, Fifo, Socket}

-- ---- attributes

-- the members in the order of the attributes
abbrev pub attributes_in_turn : Attributes → Members
attributes_in_turn [] = no_members
attributes_in_turn (attr ∷ attrs) = member attr.0 (hexadecimal attr.1) (attributes_in_turn attrs)

-- ascending attributes are put in their order
pub attribute_members-in_turn : (attrs : Attributes) → ascends attribute_cmp attrs ≡ true → attribute_members attrs ≡ attributes_in_turn attrs
attribute_members-in_turn [] up = refl
attribute_members-in_turn (attr ∷ []) up = refl
attribute_members-in_turn (attr ∷ next ∷ attrs) up =
    let parts = both {a = list_all (λ later. is_lt (attribute_cmp attr later)) (next ∷ attrs)} {b = ascends attribute_cmp (next ∷ attrs)} up in
    let first = both {a = is_lt (attribute_cmp attr next)} {b = list_all (λ later. is_lt (attribute_cmp attr later)) attrs} parts.0 in
    ap (put attr.0 (hexadecimal attr.1)) (attribute_members-in_turn (next ∷ attrs) parts.1)
    ∙ rw (is_lt-Less (attribute_cmp attr next) first.0) refl

-- what holds of all elements holds of each
pub all-at : {X : Type 0} (test : X → Bool) (xs : List X) (k : ℕ) (d : X) → list_all test xs ≡ true → k < length xs → test (get_or xs k d) ≡ true
all-at test [] k d all inside = absurd (omega (arith, inside))
all-at test (x ∷ xs) zero d all inside = (both {a = test x} {b = list_all test xs} all).0
all-at test (x ∷ xs) (suc k) d all inside = all-at test xs k d (both {a = test x} {b = list_all test xs} all).1 (omega (arith, inside))

-- ---- what is written nests at most four deep

pub no_or : (a b : Bool) → (a || b) ≡ false → (a ≡ false) × (b ≡ false)
no_or true b e = let bad : true ≡ false = e in cc
no_or false b e = (refl, e)

put-shallow : (n : ℕ) (k : List ℕ) (d : Data) (ms : Members) → depth d ≤ n → members_depth ms ≤ n → members_depth (put k d ms) ≤ n
put-shallow n k d no_members own others = omega (arith, own)
put-shallow n k d (member l e ms) own others = by (slice_cmp nat_cmp k l) (put-shallow n k d ms own (omega (arith, others)))
  where
    by : (o : Ordering) → members_depth (put k d ms) ≤ n → members_depth (match_ordering o (member k d (member l e ms)) (member l d ms) (member l e (put k d ms))) ≤ n
    by Less later = omega (arith, own, others)
    by Equal later = omega (arith, own, others)
    by Greater later = omega (arith, later, others)

attributes-shallow : (attrs : Attributes) → members_depth (attribute_members attrs) ≤ 0
attributes-shallow [] = omega arith
attributes-shallow (attr ∷ attrs) = put-shallow 0 attr.0 (hexadecimal attr.1) (attribute_members attrs) (omega arith) (attributes-shallow attrs)

kind-shallow : (kind : Kind) (ms : Members) → members_depth ms ≤ 1 → members_depth (with_kind kind ms) ≤ 1
kind-shallow Dir ms low = low
kind-shallow (File size None) ms low = put-shallow 1 (codes "size") (whole size) ms (omega arith) low
kind-shallow (File size (Some blob)) ms low = put-shallow 1 (codes "blob") (hexadecimal blob) (put (codes "size") (whole size) ms) (omega arith) (put-shallow 1 (codes "size") (whole size) ms (omega arith) low)
kind-shallow (Symlink target) ms low = put-shallow 1 (codes "target") (string target) ms (omega arith) low
kind-shallow (Char major minor) ms low = put-shallow 1 (codes "minor") (whole minor) (put (codes "major") (whole major) ms) (omega arith) (put-shallow 1 (codes "major") (whole major) ms (omega arith) low)
kind-shallow (Block major minor) ms low = put-shallow 1 (codes "minor") (whole minor) (put (codes "major") (whole major) ms) (omega arith) (put-shallow 1 (codes "major") (whole major) ms (omega arith) low)
kind-shallow Fifo ms low = low
kind-shallow Socket ms low = low

entry-shallow : (entry : Entry) → depth (entry_value entry) ≤ 2
entry-shallow entry = omega (arith, kind-shallow entry.1.kind (common_members entry) (omega (arith, attributes-shallow entry.1.attrs)))

entries-shallow : (entries : Entries) → items_depth (entry_items entries) ≤ 2
entries-shallow [] = omega arith
entries-shallow (entry ∷ entries) = omega (arith, entry-shallow entry, entries-shallow entries)

pub layer-shallow : (layer : Entries) → depth (layer_value layer) ≤ 4
layer-shallow layer = omega (arith, entries-shallow layer)
