-- The layers that a merge makes: what they have at each path.
use Rattle.std.specs.Prelude.{◌≡◌, ℕ, Bool, ◌&&◌, not, Option, Some, None, List, [], if◌then◌else◌, codes, is_some}
use Rattle.std.specs.Option.{option_map}
use Rattle.std.specs.List.{cons_option}
use Rattle.ovl_names.specs.Names.{PathName}
use Rattle.ovl_names.specs.Paths.{PathNames, path_eq, child_path, parent_path, path_text, is_root}
use Rattle.ovl_inode.specs.declared.inodes.Inode.{Inode}
use Rattle.ovl_inode.specs.declared.inodes.Kind.TheVariants.{Char}
use Rattle.ovl_inode.specs.Attributes.{with_attribute, opaque_name, redirect_name, metacopy_name}
use Rattle.ovl_inode.specs.Marks.{is_directory, is_metacopy}
use Rattle.ovl_inode.specs.Inodes.{plain_inode, visible}
use Rattle.ovl_layer.specs.Layers.{Entries, entry_at}
use Rattle.ovl_lookup.specs.declared.looks.Look.{Look}
use Rattle.ovl_lookup.specs.declared.looks.Look.TheVariants.{Nothing, Shown, Broken}
use Rattle.ovl_lookup.specs.Trace.{things_found}
use Rattle.ovl_lookup.specs.Merged.{look, shows, place_told, full_file_in}
use Rattle.ovl_merge.specs.Places.{Merge, whole, first_hit, shows_own_directory, is_hidden, reach, last_name, natural, gets_opaque, shows_at}

-- the inode with this value of an attribute
abbrev pub with_value : Inode → List ℕ → List ℕ → Inode
with_value inode name value = record inode { attrs = with_attribute inode.attrs name value }

-- an entry of this name that goes on at `place`, its parent's reach given: no redirect where the
-- place is that reach followed by the name, the place's last name where it is the reach followed by
-- another, else the whole path; overlayfs.rst, "renaming directories" and "Metadata only copy up"
abbrev pub redirected_from : Option PathNames → PathName → Inode → PathNames → Inode
redirected_from None own inode place = with_value inode redirect_name (path_text place)
redirected_from (Some above) own inode place =
    if path_eq place (child_path above own) then inode
    else if path_eq place (child_path above (last_name place))
    then with_value inode redirect_name (last_name place)
    else with_value inode redirect_name (path_text place)

-- the same for the entry at a path; the root gets no redirect
abbrev pub redirected : Merge → PathNames → Inode → PathNames → Inode
redirected m path inode place =
    if is_root path then inode
    else redirected_from (reach m (parent_path path)) (last_name path) inode place

-- a file with the contents that the whole stack shows at its path
abbrev pub with_contents : Inode → Look → Inode
with_contents inode Nothing = inode
with_contents inode (Shown shown) = record inode { kind = shown.kind }
with_contents inode (Broken broken) = record inode { kind = broken.kind }

-- data-only layers have a full file at a place, and the rest shows nothing there
abbrev pub has_data_alone : Merge → PathNames → Bool
has_data_alone m place = is_some (full_file_in m.rest.data_only place) && not (shows m.rest place)

abbrev pub kept_if_alone : Merge → Option PathNames → Option PathNames
kept_if_alone m None = None
kept_if_alone m (Some place) = if has_data_alone m place then Some place else None

-- where data-only layers have the data of a path, as the last of the metacopy files found there
-- says, if the rest shows nothing at that place
abbrev pub kept_place : Merge → PathNames → Option PathNames
kept_place m path = kept_if_alone m (place_told (things_found (whole m).layers path))

-- a metacopy file without a reach: it keeps an absolute redirect to its data in data-only layers,
-- or gets its contents
abbrev pub unreached_metacopy : Merge → PathNames → Inode → Option PathNames → Inode
unreached_metacopy m path inode (Some place) =
    with_value (with_value (visible inode) metacopy_name []) redirect_name (path_text place)
unreached_metacopy m path inode None = with_contents (visible inode) (look (whole m) path)

-- the new inode of a shown directory, of a metacopy file, and of any other thing
abbrev pub merged_directory : Merge → PathNames → Inode → Option PathNames → Inode
merged_directory m path inode (Some place) = redirected m path (visible inode) place
merged_directory m path inode None =
    if gets_opaque m path then with_value (visible inode) opaque_name (codes "y") else visible inode

abbrev pub merged_metacopy : Merge → PathNames → Inode → Option PathNames → Inode
merged_metacopy m path inode (Some place) =
    redirected m path (with_value (visible inode) metacopy_name []) place
merged_metacopy m path inode None = unreached_metacopy m path inode (kept_place m path)

abbrev pub merged_inode : Merge → PathNames → Inode → Inode
merged_inode m path inode =
    if is_directory inode then merged_directory m path inode (reach m path)
    else if is_metacopy inode then merged_metacopy m path inode (reach m path)
    else visible inode

-- a whiteout as a merge writes it; overlayfs.rst, "whiteouts and opaque directories"
abbrev pub new_whiteout : Inode
new_whiteout = plain_inode (Char 0 0) 0 []

-- a hidden path in a shown directory, at whose natural place the rest shows something
abbrev pub needs_whiteout : Merge → PathNames → Bool
needs_whiteout m path =
    is_hidden m path && shows_own_directory m (parent_path path) && shows_at m.rest (natural m path)

-- what the new lower layer has at a path, by the first hit of the two layers
abbrev pub merged_entry_of : Merge → PathNames → Option Inode → Option Inode
merged_entry_of m path (Some inode) = Some (merged_inode m path inode)
merged_entry_of m path None = if needs_whiteout m path then Some new_whiteout else None

abbrev pub merged_entry : Merge → PathNames → Option Inode
merged_entry m path = merged_entry_of m path (first_hit m path)

-- the layer has at each path what the new lower layer has
abbrev pub IsMergedDown : Merge → Entries → Type 0
IsMergedDown m layer = (path : PathNames) → entry_at layer path ≡ merged_entry m path

-- the new upper layer: only the visible root of the upper layer
abbrev pub merged_top : Merge → Entries
merged_top m = cons_option (option_map (λ inode. ([], visible inode)) (entry_at m.upper [])) []
