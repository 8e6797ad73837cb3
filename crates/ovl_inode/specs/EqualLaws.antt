-- The tests of equality decide it, so that they are equivalences.
use Rattle.std.proofs.Common.{◌≡◌, ℕ, true, false, Option, Some, None, List, refl, sym, ap, ◌∙◌}
use Rattle.std.specs.Prelude.{◌&&◌, ◌==◌}
use Rattle.std.specs.Option.{option_eq}
use Rattle.std.specs.Ordering.{int_eq}
use Rattle.std.specs.Str.{bytes_eq}
use Rattle.std.specs.Bool.{Decides}
use Rattle.std.specs.Cmp.{IsEquivalence, decided, unsigned_Decides, signed_Decides}
use Rattle.std.specs.Cmp.Lexicographic.{pointwise_decides, bytes_decides}
use Rattle.ovl_names.specs.Names.{name_eq}
use Rattle.ovl_names.proofs.Ascending.{both}
use Rattle.ovl_inode.specs.declared.inodes.Inode.{Inode}
use Rattle.ovl_inode.specs.declared.inodes.Kind.{Kind}
use Rattle.ovl_inode.specs.declared.inodes.Kind.TheVariants.{Dir, File, Symlink, Char, Block, Fifo, Socket}
use Rattle.ovl_inode.specs.Attributes.{Attributes}
use Rattle.ovl_inode.specs.Equal.{kind_eq, attributes_eq, inode_eq}

bytes-itself : (bytes : List ℕ) → bytes_eq bytes bytes ≡ true
bytes-itself bytes = (bytes_decides bytes bytes).1 refl

number-itself : (number : ℕ) → (number == number) ≡ true
number-itself number = (unsigned_Decides number number).1 refl

blob_eq-same : (one other : Option (List ℕ)) → option_eq bytes_eq one other ≡ true → one ≡ other
blob_eq-same None None e = refl
blob_eq-same None (Some other) e = let bad : false ≡ true = e in cc
blob_eq-same (Some one) None e = let bad : false ≡ true = e in cc
blob_eq-same (Some one) (Some other) e = ap (λ (d : List ℕ). Some d) ((bytes_decides one other).0 e)

blob_eq-itself : (blob : Option (List ℕ)) → option_eq bytes_eq blob blob ≡ true
blob_eq-itself None = refl
blob_eq-itself (Some digest) = bytes-itself digest

numbers-same : (a b c d : ℕ) → (a == b && c == d) ≡ true → (a ≡ b) × (c ≡ d)
numbers-same a b c d e =
    let parts = both {a = a == b} {b = c == d} e in
    ((unsigned_Decides a b).0 parts.0, (unsigned_Decides c d).0 parts.1)

kind_eq-same : (one other : Kind) → kind_eq one other ≡ true → one ≡ other
kind_eq-same Dir Dir e = refl
kind_eq-same (File size blob) (File other_size other_blob) e =
    let parts = both {a = size == other_size} {b = option_eq bytes_eq blob other_blob} e in
    (λ j. File ((unsigned_Decides size other_size).0 parts.0 j)
    (blob_eq-same blob other_blob parts.1 j))
kind_eq-same (Symlink target) (Symlink other) e =
    ap (λ (t : List ℕ). Symlink t) ((bytes_decides target other).0 e)
kind_eq-same (Char major minor) (Char other_major other_minor) e =
    let parts = numbers-same major other_major minor other_minor e
    in (λ j. Char (parts.0 j) (parts.1 j))
kind_eq-same (Block major minor) (Block other_major other_minor) e =
    let parts = numbers-same major other_major minor other_minor e
    in (λ j. Block (parts.0 j) (parts.1 j))
kind_eq-same Fifo Fifo e = refl
kind_eq-same Socket Socket e = refl
kind_eq-same _ _ e = let bad : false ≡ true = e in cc

kind_eq-itself : (kind : Kind) → kind_eq kind kind ≡ true
kind_eq-itself Dir = refl
kind_eq-itself (File size blob) = (λ j. number-itself size j && blob_eq-itself blob j)
kind_eq-itself (Symlink target) = bytes-itself target
kind_eq-itself (Char major minor) = (λ j. number-itself major j && number-itself minor j)
kind_eq-itself (Block major minor) = (λ j. number-itself major j && number-itself minor j)
kind_eq-itself Fifo = refl
kind_eq-itself Socket = refl

pub kind_eq_equiv : IsEquivalence kind_eq
kind_eq_equiv =
    decided kind_eq
    (λ one other. (kind_eq-same one other, λ e. ap (kind_eq one) (sym e) ∙ kind_eq-itself one))

attribute-same : (one other : List ℕ × List ℕ)
    → Decides (name_eq one.0 other.0 && bytes_eq one.1 other.1) (one ≡ other)
attribute-same one other = (
  (λ e. let parts = both {a = name_eq one.0 other.0} {b = bytes_eq one.1 other.1} e
      in (λ j. (
        (bytes_decides one.0 other.0).0 parts.0 j,
        (bytes_decides one.1 other.1).0 parts.1 j,
      ))),
  (λ e. (λ j. (bytes_decides one.0 other.0).1 (ap (λ (p : List ℕ × List ℕ). p.0) e) j
      && (bytes_decides one.1 other.1).1 (ap (λ (p : List ℕ × List ℕ). p.1) e) j)),
)

attributes_eq-decides : (one other : Attributes) → Decides (attributes_eq one other) (one ≡ other)
attributes_eq-decides = pointwise_decides attribute-same

pub attributes_eq_equiv : IsEquivalence attributes_eq
attributes_eq_equiv = decided attributes_eq attributes_eq-decides

pub inode_eq-same : (one other : Inode) → inode_eq one other ≡ true → one ≡ other
inode_eq-same one other e =
    let attrs = both
    {a = kind_eq one.kind other.kind && one.mode == other.mode && one.uid == other.uid
    && one.gid == other.gid && int_eq one.mtime other.mtime && one.nsec == other.nsec}
    {b = attributes_eq one.attrs other.attrs} e in
    let nsecs = both
    {a = kind_eq one.kind other.kind && one.mode == other.mode && one.uid == other.uid
    && one.gid == other.gid && int_eq one.mtime other.mtime}
    {b = one.nsec == other.nsec} attrs.0 in
    let times = both
    {a = kind_eq one.kind other.kind && one.mode == other.mode && one.uid == other.uid
    && one.gid == other.gid} {b = int_eq one.mtime other.mtime} nsecs.0 in
    let gids = both
    {a = kind_eq one.kind other.kind && one.mode == other.mode && one.uid == other.uid}
    {b = one.gid == other.gid} times.0 in
    let uids = both {a = kind_eq one.kind other.kind && one.mode == other.mode}
    {b = one.uid == other.uid} gids.0 in
    let modes = both {a = kind_eq one.kind other.kind} {b = one.mode == other.mode} uids.0 in
    (λ j. record {
      kind = kind_eq-same one.kind other.kind modes.0 j;
      mode = (unsigned_Decides one.mode other.mode).0 modes.1 j;
      uid = (unsigned_Decides one.uid other.uid).0 uids.1 j;
      gid = (unsigned_Decides one.gid other.gid).0 gids.1 j;
      mtime = (signed_Decides one.mtime other.mtime).0 times.1 j;
      nsec = (unsigned_Decides one.nsec other.nsec).0 nsecs.1 j;
      attrs = (attributes_eq-decides one.attrs other.attrs).0 attrs.1 j;
    })

pub inode_eq-itself : (inode : Inode) → inode_eq inode inode ≡ true
inode_eq-itself inode =
    (λ j. kind_eq-itself inode.kind j
    && number-itself inode.mode j
    && number-itself inode.uid j
    && number-itself inode.gid j
    && (signed_Decides inode.mtime inode.mtime).1 refl j
    && number-itself inode.nsec j
    && (attributes_eq-decides inode.attrs inode.attrs).1 refl j)

pub inode_eq_equiv : IsEquivalence inode_eq
inode_eq_equiv =
    decided inode_eq
    (λ one other. (inode_eq-same one other, λ e. ap (inode_eq one) (sym e) ∙ inode_eq-itself one))
