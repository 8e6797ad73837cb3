-- What a sound inode has, and when another kind and other attributes leave it sound.
use Rattle.std.proofs.Common.{◌≡◌, Bool, true, false, refl}
use Rattle.std.specs.Prelude.{◌&&◌, nat_le, is_some}
use Rattle.ovl_inode.specs.declared.inodes.Inode.{Inode}
use Rattle.ovl_inode.specs.declared.inodes.Kind.{Kind}
use Rattle.ovl_inode.specs.declared.inodes.Kind.TheVariants.{Dir, File, Symlink, Char, Block, Fifo, Socket}
use Rattle.ovl_inode.specs.Attributes.{Attributes, attribute, are_attributes, metacopy_name}
use Rattle.ovl_inode.specs.Inodes.{inode_with}
use Rattle.ovl_inode.specs.Marks.{has_metacopy}
use Rattle.ovl_inode.specs.Sound.{is_sound_inode, is_sound_kind, is_word, is_seconds, mode_limit, nsec_limit}

-- each value of the inode is sound
pub record HasSoundValues (inode : Inode) : Type 0 where
  pub kind : is_sound_kind inode.kind (has_metacopy inode) ≡ true
  pub mode : nat_le inode.mode mode_limit ≡ true
  pub uid : is_word inode.uid ≡ true
  pub gid : is_word inode.gid ≡ true
  pub mtime : is_seconds inode.mtime ≡ true
  pub nsec : nat_le inode.nsec nsec_limit ≡ true
  pub attrs : are_attributes inode.attrs ≡ true

pub sound_values : (inode : Inode) → is_sound_inode inode ≡ true → HasSoundValues inode
sound_values inode sound =
    let all = each (is_sound_kind inode.kind (has_metacopy inode)) (nat_le inode.mode mode_limit) (is_word inode.uid) (is_word inode.gid) (is_seconds inode.mtime) (nat_le inode.nsec nsec_limit) (are_attributes inode.attrs) sound in
    record { kind = all.0; mode = all.1; uid = all.2; gid = all.3; mtime = all.4; nsec = all.5; attrs = all.6 }
  where
    each : (a b c d e f g : Bool) → (a && b && c && d && e && f && g) ≡ true → (a ≡ true) × (b ≡ true) × (c ≡ true) × (d ≡ true) × (e ≡ true) × (f ≡ true) × (g ≡ true)
    each false b c d e f g is = let bad : false ≡ true = is in cc
    each true false c d e f g is = let bad : false ≡ true = is in cc
    each true true false d e f g is = let bad : false ≡ true = is in cc
    each true true true false e f g is = let bad : false ≡ true = is in cc
    each true true true true false f g is = let bad : false ≡ true = is in cc
    each true true true true true false g is = let bad : false ≡ true = is in cc
    each true true true true true true g is = (refl, refl, refl, refl, refl, refl, is)

-- a sound inode with another kind and other attributes
pub sound-with : (inode : Inode) (kind : Kind) (attrs : Attributes) → is_sound_inode inode ≡ true → is_sound_kind kind (is_some (attribute attrs metacopy_name)) ≡ true → are_attributes attrs ≡ true → is_sound_inode (inode_with inode kind attrs) ≡ true
sound-with inode kind attrs sound kinds attributes =
    let own = sound_values inode sound in
    (λ j. kinds j && own.mode j && own.uid j && own.gid j && own.mtime j && own.nsec j && attributes j)

-- a kind stays sound without `metacopy` where that is no matter
pub kind-full : (kind : Kind) (had : Bool) → (elim kind as (λ _. Bool) [ File size blob ↦ true | _ ↦ false ] && had) ≡ false → is_sound_kind kind had ≡ true → is_sound_kind kind false ≡ true
kind-full (File size blob) true full sound = let bad : true ≡ false = full in cc
kind-full (File size blob) false full sound = sound
kind-full Dir had full sound = refl
kind-full (Symlink target) had full sound = sound
kind-full (Char major minor) had full sound = sound
kind-full (Block major minor) had full sound = sound
kind-full Fifo had full sound = refl
kind-full Socket had full sound = refl
