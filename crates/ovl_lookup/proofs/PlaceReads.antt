-- What is found from a place on, by what is at a name there; the place is read from a list by its number.
use Rattle.std.proofs.Common.{◌≡◌, ℕ, ◌+◌, ◌<◌, length, true, false, None, Some, List, [], ◌∷◌, drop, sym}
use Rattle.std.specs.Prelude.{slice_get}
use Rattle.ovl_names.specs.Names.{PathName}
use Rattle.ovl_inode.specs.declared.inodes.Inode.{Inode}
use Rattle.ovl_inode.specs.Marks.{is_directory, is_whiteout}
use Rattle.ovl_lookup.specs.declared.views.DirPlace.{DirPlace}
use Rattle.ovl_lookup.specs.declared.views.PlaceEntry.{PlaceEntry}
use Rattle.ovl_lookup.specs.Stacks.{StackView}
use Rattle.ovl_lookup.specs.Trace.{things_found}
use Rattle.ovl_lookup.specs.Views.{ReachedDirectory, entry_in, below_entry, found_below, reached_below}
use Rattle.ovl_lookup.specs.DirViews.{IsEntryIn, place_in, places_in}
use Rattle.ovl_lookup.proofs.ViewSteps.{below-none, below-file, found-none, found-whiteout, found-entry}
use Rattle.ovl_lookup.proofs.DirViewLemmas.{place_read, place-read}

module _ (stack : StackView) (name : PathName) (places : List DirPlace) (k : ℕ) (inside : k < length places) where
  abbrev own : DirPlace
  own = place_read places k

  at : slice_get (places_in stack places) k ≡ Some (place_in stack own)
  at = place-read stack places k inside

  abbrev found_from : ℕ → List Inode
  found_from n = found_below stack.layers name (drop n (places_in stack places))

  abbrev reached_from : ℕ → List ReachedDirectory
  reached_from n = reached_below stack.layers name (drop n (places_in stack places))

  -- nothing is there
  pub none-found : entry_in stack.layers name (place_in stack own) ≡ None → found_from k ≡ found_from (k + 1)
  none-found none = found-none stack.layers name (places_in stack places) k (place_in stack own) at none

  pub none-reached : entry_in stack.layers name (place_in stack own) ≡ None → reached_from k ≡ reached_from (k + 1)
  none-reached none = below-none stack.layers name (places_in stack places) k (place_in stack own) at none

  -- this entry is there
  module _ (entry : PlaceEntry) (is : IsEntryIn stack name own entry) where
    pub file-reached : is_directory entry.inode.now ≡ false → reached_from k ≡ []
    file-reached file = below-file stack.layers name (places_in stack places) k (place_in stack own) at entry.inode.now is.inode file

    pub whiteout-found : is_whiteout entry.inode.now ≡ true → found_from k ≡ []
    whiteout-found white = found-whiteout stack.layers name (places_in stack places) k (place_in stack own) at entry.inode.now is.inode white

    pub entry-found : is_whiteout entry.inode.now ≡ false → found_from k ≡ entry.inode.now ∷ below_entry entry.mark.now name (things_found (drop (own.layer + 1) stack.layers)) (λ other. found_below stack.layers other (drop (k + 1) (places_in stack places)))
    entry-found white = found-entry stack.layers name (places_in stack places) k (place_in stack own) at entry.inode.now entry.mark.now is.inode white (sym is.mark)
