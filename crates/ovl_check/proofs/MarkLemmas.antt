-- What the mark of an inode says of its kind.
use Rattle.std.proofs.Common.{◌≡◌, ℕ, Bool, true, false, cond, Option, Some, None, List, refl, sym}
use Rattle.std.specs.Prelude.{◌&&◌}
use Rattle.ovl_inode.specs.declared.inodes.Inode.{Inode}
use Rattle.ovl_inode.specs.declared.marks.Mark.{Mark}
use Rattle.ovl_inode.specs.declared.marks.Mark.TheVariants.{Whiteout, DirOpaque, DirMoved, DirBad, DirPlain, Meta, MetaBad, Leaf}
use Rattle.ovl_inode.specs.declared.marks.Redirect.{Redirect}
use Rattle.ovl_inode.specs.Attributes.{attribute, redirect_name}
use Rattle.ovl_inode.specs.Redirects.{read_redirect}
use Rattle.ovl_inode.specs.Marks.{mark_of, is_whiteout, is_directory, is_regular, has_opaque, has_metacopy, redirect_reading, directory_mark, metacopy_mark}
use Rattle.ovl_lookup.proofs.LawsOfInodes.{directory-no_whiteout, is_directory_mark}
use Rattle.ovl_check.specs.Facts.{is_whiteout_mark}

-- however its `redirect` reads
module _ (inode : Inode) (test : Mark → Bool) (b : Bool) where
  directory-reads : test DirPlain ≡ b → test DirBad ≡ b → ((redirect : Redirect) → test (DirMoved redirect) ≡ b) → test (directory_mark (redirect_reading inode)) ≡ b
  directory-reads plain bad moved = by (attribute inode.attrs redirect_name) refl
    where
      said : (value : List ℕ) → attribute inode.attrs redirect_name ≡ Some value → (found : Option Redirect) → read_redirect value ≡ found → test (directory_mark (redirect_reading inode)) ≡ b
      said value e None f = rw (e, redirect_reading) (rw f bad)
      said value e (Some redirect) f = rw (e, redirect_reading) (rw f (moved redirect))

      by : (found : Option (List ℕ)) → attribute inode.attrs redirect_name ≡ found → test (directory_mark (redirect_reading inode)) ≡ b
      by None e = rw (e, redirect_reading) plain
      by (Some value) e = said value e (read_redirect value) refl

  metacopy-reads : test MetaBad ≡ b → ((redirect : Option Redirect) → test (Meta redirect) ≡ b) → test (metacopy_mark (redirect_reading inode)) ≡ b
  metacopy-reads bad meta = by (attribute inode.attrs redirect_name) refl
    where
      said : (value : List ℕ) → attribute inode.attrs redirect_name ≡ Some value → (found : Option Redirect) → read_redirect value ≡ found → test (metacopy_mark (redirect_reading inode)) ≡ b
      said value e None f = rw (e, redirect_reading) (rw f bad)
      said value e (Some redirect) f = rw (e, redirect_reading) (rw f (meta (Some redirect)))

      by : (found : Option (List ℕ)) → attribute inode.attrs redirect_name ≡ found → test (metacopy_mark (redirect_reading inode)) ≡ b
      by None e = rw (e, redirect_reading) (meta None)
      by (Some value) e = said value e (read_redirect value) refl

module _ (inode : Inode) where
  abbrev by_tests : Bool → Bool → Bool → Bool → Mark
  by_tests whiteout directory opaque file =
      cond whiteout Whiteout
      (cond (directory && opaque) DirOpaque
      (cond directory (directory_mark (redirect_reading inode))
      (cond file (metacopy_mark (redirect_reading inode)) Leaf)))

  pub whiteout-marked : is_whiteout inode ≡ is_whiteout_mark (mark_of inode)
  whiteout-marked = by (is_whiteout inode) (is_directory inode) (has_opaque inode) (is_regular inode && has_metacopy inode)
    where
      by : (w d o f : Bool) → w ≡ is_whiteout_mark (by_tests w d o f)
      by true d o f = refl
      by false true true f = refl
      by false true false f = sym (directory-reads inode is_whiteout_mark false refl refl (λ redirect. refl))
      by false false o true = sym (metacopy-reads inode is_whiteout_mark false refl (λ redirect. refl))
      by false false o false = refl

  pub directory-marked : is_directory_mark (mark_of inode) ≡ is_directory inode
  directory-marked = by (is_whiteout inode) (is_directory inode) (has_opaque inode) (is_regular inode && has_metacopy inode) (directory-no_whiteout inode)
    where
      by : (w d o f : Bool) → (d ≡ true → w ≡ false) → is_directory_mark (by_tests w d o f) ≡ d
      by true true o f stays = let bad : true ≡ false = stays refl in cc
      by true false o f stays = refl
      by false true true f stays = refl
      by false true false f stays = directory-reads inode is_directory_mark true refl refl (λ redirect. refl)
      by false false o true stays = metacopy-reads inode is_directory_mark false refl (λ redirect. refl)
      by false false o false stays = refl
