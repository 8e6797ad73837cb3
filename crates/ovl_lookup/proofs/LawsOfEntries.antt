-- Entries in order that have at each path what a layer may have there are a layer, but for the limits.
use Rattle.std.proofs.Common.{◌≡◌, ◌⊎◌, inl, inr, true, false, Option, Some, [], length, sym, ap, ◌∙◌}
use Rattle.std.specs.Prelude.{not, nat_le}
use Rattle.std.specs.List.{list_all}
use Rattle.ovl_names.specs.Names.{PathName}
use Rattle.ovl_names.specs.Order.{ascends}
use Rattle.ovl_names.specs.Paths.{PathNames, child_path, has_names}
use Rattle.ovl_inode.specs.declared.inodes.Inode.{Inode}
use Rattle.ovl_inode.specs.Attributes.{has_escaped_name}
use Rattle.ovl_inode.specs.Sound.{is_sound_inode}
use Rattle.ovl_layer.specs.Layers.{Entries, entry_at, entry_cmp, entry_limit, is_within_limits, has_parent, IsLayer}
use Rattle.ovl_lookup.proofs.LawsOfPaths.{all-entries, last-name}
use Rattle.ovl_lookup.proofs.LawsOfWalks.{directory_found, directory-parent_of}

-- a layer may have this at a path
pub record MayHave (path : PathNames) (inode : Inode) : Type 0 where
  pub named : has_names path ≡ true
  pub well : is_sound_inode inode ≡ true
  pub bare : has_escaped_name inode.attrs ≡ false

module _ (found : PathNames → Option Inode) (entries : Entries) (up : ascends entry_cmp entries ≡ true) (made : (path : PathNames) → entry_at entries path ≡ found path) (root : directory_found (found []) ≡ true)
    (parent : (directory : PathNames) (name : PathName) (inode : Inode) → found (child_path directory name) ≡ Some inode → directory_found (found directory) ≡ true) (each : (path : PathNames) (inode : Inode) → found path ≡ Some inode → MayHave path inode) where
  parents : (path : PathNames) (inode : Inode) → entry_at entries path ≡ Some inode → has_parent entries path ≡ true
  parents path inode here = by (last-name path)
    where
      by : (path ≡ []) ⊎ ((directory : PathNames) × (name : PathName) × (path ≡ child_path directory name)) → has_parent entries path ≡ true
      by (inl e) = ap (has_parent entries) e
      by (inr (directory, name, e)) =
          ap (has_parent entries) e
          ∙ directory-parent_of entries directory name
          (ap directory_found (made directory) ∙ parent directory name inode (sym (made (child_path directory name)) ∙ (ap (entry_at entries) (sym e) ∙ here)))

  own : (path : PathNames) (inode : Inode) → entry_at entries path ≡ Some inode → MayHave path inode
  own path inode here = each path inode (sym (made path) ∙ here)

  pub layer-made : list_all (λ entry. is_within_limits entry.0) entries ≡ true → nat_le (length entries) entry_limit ≡ true → IsLayer entries
  layer-made limited counted = record {
    in_order = up;
    rooted = ap directory_found (made []) ∙ root;
    closed = all-entries (λ entry. has_parent entries entry.0) entries up parents;
    named = all-entries (λ entry. has_names entry.0) entries up (λ path inode here. (own path inode here).named);
    sound = all-entries (λ entry. is_sound_inode entry.1) entries up (λ path inode here. (own path inode here).well);
    unescaped = all-entries (λ entry. not (has_escaped_name entry.1.attrs)) entries up (λ path inode here. ap not (own path inode here).bare);
    limited = limited;
    counted = counted;
  }
