-- Laws of walks in one layer: what one more name does, how a walk splits at a directory, and what a
-- redirect does to everything under it.
use Rattle.std.specs.Prelude.{◌≡◌, Bool, true, false, Some, None, [], ◌∷◌, ◌++◌, if◌then◌else◌}
use Rattle.ovl_names.specs.Names.{PathName}
use Rattle.ovl_names.specs.Paths.{PathNames, child_path}
use Rattle.ovl_inode.specs.declared.inodes.Inode.{Inode}
use Rattle.ovl_inode.specs.declared.marks.Mark.TheVariants.{DirMoved}
use Rattle.ovl_inode.specs.declared.marks.Redirect.TheVariants.{To, Beside}
use Rattle.ovl_inode.specs.Marks.{mark_of, is_directory, is_whiteout}
use Rattle.ovl_layer.specs.Layers.{Entries, IsLayer, entry_at, is_directory_at}
use Rattle.ovl_lookup.specs.declared.steps.Step.{Step}
use Rattle.ovl_lookup.specs.Walk.{walk, walk_beyond, mark_at}
use Rattle.ovl_lookup.specs.NextLookups.{next_on, closed_on}

-- what is at one more name says only by its mark where the walk goes on from where that of its
-- directory does
abbrev pub WalksStep : Type 0
WalksStep =
    (layer : Entries) (path : PathNames) (name : PathName) → IsLayer layer → (inode : Inode) →
    entry_at layer (child_path path name) ≡ Some inode →
    walk layer (child_path path name) ≡ record {
      found = if is_whiteout inode then None else Some inode;
      next = next_on (mark_of inode) (walk layer path).next name;
      closed = closed_on (mark_of inode) name (walk layer path).closed;
    }

-- the walk of names below a directory, come there with this path and flag
abbrev pub walk_below : Entries → PathNames → PathNames → Bool → PathNames → Step
walk_below layer above next closed [] = record {
  found = entry_at layer above;
  next = next;
  closed = closed;
}
walk_below layer above next closed (name ∷ rest) =
    elim (entry_at layer (child_path above name)) [
      | Some inode ↦
          if is_directory inode
          then walk_below layer (child_path above name) (next_on (mark_of inode) next name)
          (closed_on (mark_of inode) name closed) rest
          else walk_beyond (Some inode) next closed name rest
      | None ↦ walk_beyond None next closed name rest
    ]

-- a walk splits at a directory: from there on it depends on the path and the flag with which it
-- came by itself
abbrev pub WalksSplit : Type 0
WalksSplit =
    (layer : Entries) → IsLayer layer → (above names : PathNames)
    → is_directory_at layer above ≡ true →
    walk layer (above ++ names)
    ≡ walk_below layer above (walk layer above).next (walk layer above).closed names

-- everything under a directory with an absolute redirect goes on from there, open
abbrev pub AbsoluteRedirectsLead : Type 0
AbsoluteRedirectsLead =
    (layer : Entries) → IsLayer layer → (above names origin : PathNames)
    → is_directory_at layer above ≡ true →
    mark_at layer above ≡ Some (DirMoved (To origin))
    → walk layer (above ++ names) ≡ walk_below layer above origin false names

-- everything under one with a relative redirect goes on from that name beside it
abbrev pub RelativeRedirectsLead : Type 0
RelativeRedirectsLead =
    (layer : Entries) → IsLayer layer
    → (above : PathNames) (own : PathName) (names : PathNames) (beside : PathName) →
    is_directory_at layer (child_path above own) ≡ true
    → mark_at layer (child_path above own) ≡ Some (DirMoved (Beside beside)) →
    walk layer (child_path above own ++ names)
    ≡ walk_below layer (child_path above own) (child_path (walk layer above).next beside)
    (walk layer above).closed names
