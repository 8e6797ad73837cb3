-- Sound stacks: no redirect and no metacopy file is at fault. Each condition is that of an entry of
-- one layer, over the stack of the layers below it.
use Rattle.std.specs.Prelude.{◌≡◌, Bool, true, false, ◌&&◌, ◌||◌, ◌==◌, not, Option, Some, None, List, [], ◌∷◌, if◌then◌else◌, is_none}
use Rattle.std.specs.List.{list_any, list_all}
use Rattle.std.specs.Ordering.{is_lt}
use Rattle.ovl_names.specs.Paths.{PathNames, path_eq, path_cmp}
use Rattle.ovl_inode.specs.declared.inodes.Inode.{Inode}
use Rattle.ovl_inode.specs.declared.marks.Mark.{Mark}
use Rattle.ovl_inode.specs.declared.marks.Mark.TheVariants.{DirMoved, DirBad, DirPlain, Meta, MetaBad}
use Rattle.ovl_inode.specs.Kinds.{size_of}
use Rattle.ovl_inode.specs.Marks.{is_directory}
use Rattle.ovl_layer.specs.Layers.{Entries, Entry}
use Rattle.ovl_lookup.specs.declared.looks.Look.{Look}
use Rattle.ovl_lookup.specs.Walk.{mark_at, walk}
use Rattle.ovl_lookup.specs.Stacks.{StackView}
use Rattle.ovl_lookup.specs.Trace.{things_found}
use Rattle.ovl_lookup.specs.Merged.{look, is_nothing, is_shown_directory, data_of}

-- a directory with a well-formed redirect, a malformed redirect, and a metacopy file with a
-- well-formed one or none
abbrev pub is_moved : Option Mark → Bool
is_moved (Some (DirMoved redirect)) = true
is_moved _ = false

abbrev pub is_malformed : Option Mark → Bool
is_malformed (Some DirBad) = true
is_malformed (Some MetaBad) = true
is_malformed _ = false

abbrev pub is_meta : Option Mark → Bool
is_meta (Some (Meta redirect)) = true
is_meta _ = false

abbrev pub is_plain : Option Mark → Bool
is_plain (Some DirPlain) = true
is_plain _ = false

-- what the layers below show where a path of this layer goes on
abbrev pub look_below : Entries → StackView → PathNames → Look
look_below layer below path = look below (walk layer path).next

-- the redirect of a directory or of a metacopy file says nothing that can be followed; this
-- profile's own
abbrev pub redirect_is_malformed : Entries → PathNames → Bool
redirect_is_malformed layer path = is_malformed (mark_at layer path)

-- a moved directory that is closed, or whose old place shows nothing; overlayfs.rst, "renaming
-- directories", has the old place, and that this is a fault is this profile's own
abbrev pub redirect_is_lost : Entries → StackView → PathNames → Bool
redirect_is_lost layer below path =
    is_moved (mark_at layer path)
    && ((walk layer path).closed || is_nothing (look_below layer below path))

-- a moved directory whose old place shows something else than a directory; this profile's own
abbrev pub redirect_is_of_wrong_kind : Entries → StackView → PathNames → Bool
redirect_is_of_wrong_kind layer below path =
    is_moved (mark_at layer path) && not (walk layer path).closed
    && not (is_nothing (look_below layer below path))
    && not (is_shown_directory (look_below layer below path))

-- an earlier directory of the layer, open too, goes on at the same place
abbrev pub goes_on_there : Entries → PathNames → Entry → Bool
goes_on_there layer path other =
    is_directory other.1 && is_lt (path_cmp other.0 path) && not (walk layer other.0).closed
    && path_eq (walk layer other.0).next (walk layer path).next

-- a moved directory that goes on where an earlier directory does; overlayfs.rst, "renaming
-- directories", on more directories than one that are redirected to the same
abbrev pub redirect_is_double : Entries → PathNames → Bool
redirect_is_double layer path =
    is_moved (mark_at layer path) && not (walk layer path).closed
    && list_any (goes_on_there layer path) layer

-- the layer itself doesn't hide a place from itself: its own walk of the place is open, stays
-- there, and finds nothing or a plain directory
abbrev pub is_seen_there : Entries → PathNames → Bool
is_seen_there layer place =
    not (walk layer place).closed && path_eq (walk layer place).next place
    && (is_none (walk layer place).found || is_plain (mark_at layer place))

-- a moved directory whose old place the layer doesn't hide; this profile's own
abbrev pub redirect_is_open : Entries → PathNames → Bool
redirect_is_open layer path =
    is_moved (mark_at layer path) && not (walk layer path).closed
    && is_seen_there layer (walk layer path).next

-- the data of a metacopy file: that of the file itself with what the layers below have where it
-- goes on
abbrev pub data_at : Entries → StackView → PathNames → Inode → Option Inode
data_at layer below path inode =
    data_of below.data_only
    (inode
    ∷ (if (walk layer path).closed then [] else things_found below.layers (walk layer path).next))

-- a metacopy file without data; overlayfs.rst, "Metadata only copy up" and "Data-only lower layers"
abbrev pub data_is_missing : Entries → StackView → PathNames → Inode → Bool
data_is_missing layer below path inode =
    is_meta (mark_at layer path) && is_none (data_at layer below path inode)

-- a metacopy file whose data has another size than the file; this profile's own
abbrev pub has_other_size : Inode → Option Inode → Bool
has_other_size inode None = false
has_other_size inode (Some contents) = not (size_of contents == size_of inode)

abbrev pub data_is_of_other_size : Entries → StackView → PathNames → Inode → Bool
data_is_of_other_size layer below path inode =
    is_meta (mark_at layer path) && has_other_size inode (data_at layer below path inode)

-- one of these seven holds at an entry
abbrev pub is_faulty : Entries → StackView → Entry → Bool
is_faulty layer below entry =
    redirect_is_malformed layer entry.0
    || redirect_is_lost layer below entry.0
    || redirect_is_of_wrong_kind layer below entry.0
    || redirect_is_double layer entry.0
    || redirect_is_open layer entry.0
    || data_is_missing layer below entry.0 entry.1
    || data_is_of_other_size layer below entry.0 entry.1

-- no entry of these layers of a stack, the lowest, is faulty
abbrev pub are_sound : StackView → List Entries → Bool
are_sound stack [] = true
are_sound stack (layer ∷ layers) =
    list_all (λ entry. not (is_faulty layer (record stack { layers = layers }) entry)) layer
    && are_sound stack layers

-- no entry of any layer is faulty; of a data-only layer only the contents count, so none of its
-- entries is
abbrev pub is_sound_stack : StackView → Bool
is_sound_stack stack = are_sound stack stack.layers

abbrev pub IsSoundStack : StackView → Type 0
IsSoundStack stack = is_sound_stack stack ≡ true
