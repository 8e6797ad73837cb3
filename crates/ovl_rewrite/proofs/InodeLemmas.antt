-- Inodes that a new layer may have.
use Rattle.std.proofs.Common.{◌≡◌, ℕ, Bool, true, false, List, [], ◌∷◌, refl, ap}
use Rattle.std.specs.Prelude.{◌||◌}
use Rattle.std.specs.BTreeMap.{insert_entry}
use Rattle.std.specs.Ordering.{match_ordering}
use Rattle.std.specs.declared.cmp.Ordering.{Ordering}
use Rattle.std.specs.declared.cmp.Ordering.TheVariants.{Less, Equal, Greater}
use Rattle.ovl_names.specs.Names.{name_cmp}
use Rattle.ovl_inode.specs.declared.inodes.Kind.{Kind}
use Rattle.ovl_inode.specs.declared.inodes.Kind.TheVariants.{Dir, File, Symlink, Char, Block, Fifo, Socket}
use Rattle.ovl_inode.specs.Attributes.{Attributes, is_attribute_name, with_attribute, has_escaped_name, is_escaped_name, opaque_name}
use Rattle.ovl_inode.specs.Sound.{is_sound_kind}
use Rattle.ovl_inode.proofs.OnLiterals.{inode_on_literals}

pub opaque_named : is_attribute_name opaque_name ≡ true
unfolding inode_on_literals
opaque_named = refl

pub unescaped-with : (attrs : Attributes) (name value : List ℕ) → is_escaped_name name ≡ false → has_escaped_name attrs ≡ false → has_escaped_name (with_attribute attrs name value) ≡ false
unescaped-with [] name value own none = ap (λ b. b || false) own
unescaped-with (attr ∷ attrs) name value own none = by (name_cmp name attr.0) (is_escaped_name attr.0) refl none (unescaped-with attrs name value own)
  where
    by : (o : Ordering) (b : Bool) → is_escaped_name attr.0 ≡ b → (b || has_escaped_name attrs) ≡ false → (has_escaped_name attrs ≡ false → has_escaped_name (with_attribute attrs name value) ≡ false) → has_escaped_name (match_ordering o ((name, value) ∷ attr ∷ attrs) ((attr.0, value) ∷ attrs) (attr ∷ insert_entry name_cmp attrs name value)) ≡ false
    by o true e n later = let bad : true ≡ false = n in cc
    by Less false e n later = (λ j. own j || (e j || n j))
    by Equal false e n later = (λ j. e j || n j)
    by Greater false e n later = (λ j. e j || later n j)

-- a directory is sound whatever the flag says
pub directory-flag : (kind : Kind) (had : Bool) → elim kind as (λ _. Bool) [ Dir ↦ true | _ ↦ false ] ≡ true → is_sound_kind kind had ≡ true
directory-flag Dir had is = refl
directory-flag (File size blob) had is = let bad : false ≡ true = is in cc
directory-flag (Symlink target) had is = let bad : false ≡ true = is in cc
directory-flag (Char major minor) had is = let bad : false ≡ true = is in cc
directory-flag (Block major minor) had is = let bad : false ≡ true = is in cc
directory-flag Fifo had is = let bad : false ≡ true = is in cc
directory-flag Socket had is = let bad : false ≡ true = is in cc
