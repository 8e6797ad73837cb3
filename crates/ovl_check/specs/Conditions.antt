-- The condition of each code at an entry of a layer, over the blobs and the stack of the layers
-- below. Those on redirects and data stand with the sound stacks.
use Rattle.std.specs.Prelude.{ℕ, Bool, true, false, ◌&&◌, ◌||◌, ◌==◌, not, Option, Some, None, List, length, codes, is_none}
use Rattle.std.specs.List.{list_any}
use Rattle.ovl_names.specs.Paths.{PathNames, child_path, parent_path, is_root}
use Rattle.ovl_inode.specs.declared.inodes.Inode.{Inode}
use Rattle.ovl_inode.specs.declared.inodes.Kind.TheVariants.{File}
use Rattle.ovl_inode.specs.declared.marks.Mark.{Mark}
use Rattle.ovl_inode.specs.declared.marks.Mark.TheVariants.{DirOpaque, Meta, MetaBad}
use Rattle.ovl_inode.specs.Attributes.{opaque_name, redirect_name, metacopy_name, whiteout_name, impure_name, origin_name}
use Rattle.ovl_inode.specs.Kinds.{size_of, blob_of}
use Rattle.ovl_inode.specs.Marks.{has_attribute, attribute_is, is_directory, is_regular, is_whiteout}
use Rattle.ovl_layer.specs.Layers.{Entries, Entry, entry_at, names_below}
use Rattle.ovl_lookup.specs.Walk.{mark_at, walk, natural_path}
use Rattle.ovl_lookup.specs.Stacks.{StackView}
use Rattle.ovl_lookup.specs.Merged.{look, is_nothing}
use Rattle.ovl_lookup.specs.Sound.{redirect_is_malformed, redirect_is_lost, redirect_is_of_wrong_kind, redirect_is_double, redirect_is_open, data_is_missing, data_is_of_other_size}
use Rattle.ovl_check.specs.declared.findings.Code.{Code}
use Rattle.ovl_check.specs.declared.findings.Code.TheVariants.{RedirectForm, RedirectLost, RedirectKind, RedirectDouble, RedirectOpen, DataMissing, DataSize, BlobMissing, BlobSize, BlobDigest, OrphanWhiteout, WhiteoutInOpaque, WhiteoutUnmarked, ImpureMissing, MarkIgnored}
use Rattle.ovl_blobs.specs.Blobs.{BlobView, find_blob, is_wrong}

-- ---- blobs; these conditions are this profile's own

-- the inode names a blob, which isn't there
abbrev pub blob_is_missing : List BlobView → Inode → Bool
blob_is_missing blobs inode =
    elim (blob_of inode) [ Some name ↦ is_none (find_blob blobs name) | None ↦ false ]

-- the inode names a blob that is there, and that passes a test
abbrev pub has_blob : (BlobView → Bool) → Option BlobView → Bool
has_blob test None = false
has_blob test (Some blob) = test blob

abbrev pub names_blob : (BlobView → Bool) → List BlobView → Inode → Bool
names_blob test blobs inode =
    elim (blob_of inode) [ Some name ↦ has_blob test (find_blob blobs name) | None ↦ false ]

-- its length isn't the file's size
abbrev pub blob_is_of_other_size : List BlobView → Inode → Bool
blob_is_of_other_size blobs inode =
    names_blob (λ blob. not (length blob.bytes == size_of inode)) blobs inode

-- its bytes have another digest
abbrev pub blob_is_wrong : List BlobView → Inode → Bool
blob_is_wrong blobs inode = names_blob is_wrong blobs inode

-- ---- whiteouts

abbrev pub is_opaque : Option Mark → Bool
is_opaque (Some DirOpaque) = true
is_opaque _ = false

-- the entry's directory is opaque, or marked as holding whiteouts by attribute
abbrev pub is_in_opaque : Entries → PathNames → Bool
is_in_opaque layer path = is_opaque (mark_at layer (parent_path path))

abbrev pub is_in_marked : Entries → PathNames → Bool
is_in_marked layer path =
    elim (entry_at layer (parent_path path))
    [ Some inode ↦ attribute_is inode opaque_name (codes "x") | None ↦ false ]

-- a whiteout outside an opaque directory that hides nothing; this profile's own
abbrev pub whiteout_is_orphan : Entries → StackView → PathNames → Inode → Bool
whiteout_is_orphan layer below path inode =
    is_whiteout inode && not (is_in_opaque layer path)
    && ((walk layer (parent_path path)).closed || is_nothing (look below (natural_path layer path)))

-- a whiteout in an opaque directory, which hides everything by itself; overlayfs.rst, "whiteouts
-- and opaque directories"
abbrev pub whiteout_is_in_opaque : Entries → PathNames → Inode → Bool
whiteout_is_in_opaque layer path inode = is_whiteout inode && is_in_opaque layer path

-- a whiteout by attribute in a directory that is neither opaque nor marked as holding such;
-- overlayfs.rst, "whiteouts and opaque directories" on the value `x`
abbrev pub whiteout_is_unmarked : Entries → PathNames → Inode → Bool
whiteout_is_unmarked layer path inode =
    is_whiteout inode && is_regular inode && not (is_in_opaque layer path)
    && not (is_in_marked layer path)

-- ---- marks

-- the entry at a path has `origin`
abbrev pub has_origin_at : Entries → PathNames → Bool
has_origin_at layer path =
    elim (entry_at layer path) [ Some inode ↦ has_attribute inode origin_name | None ↦ false ]

-- a directory that directly holds an entry with `origin` and isn't marked as impure; `origin` is
-- that of overlayfs.rst, "Changes to underlying filesystems", and `impure` what kernels write
-- beside it, of which the document has nothing
abbrev pub impure_is_missing : Entries → PathNames → Inode → Bool
impure_is_missing layer path inode =
    is_directory inode && not (attribute_is inode impure_name (codes "y"))
    && list_any (λ name. has_origin_at layer (child_path path name)) (names_below layer path)

-- a metacopy file, its redirect malformed or not
abbrev pub is_any_meta : Option Mark → Bool
is_any_meta (Some (Meta redirect)) = true
is_any_meta (Some MetaBad) = true
is_any_meta _ = false

-- `opaque` on a non-directory, or of a value other than `y` and `x`, or `y` on the root
abbrev pub opaque_is_ignored : PathNames → Inode → Bool
opaque_is_ignored path inode =
    has_attribute inode opaque_name
    && (not (is_directory inode)
    || not (attribute_is inode opaque_name (codes "y")
    || attribute_is inode opaque_name (codes "x"))
    || (attribute_is inode opaque_name (codes "y") && is_root path))

-- `redirect` on the root, on an opaque directory, or on a non-directory that is no metacopy file
abbrev pub redirect_is_ignored : PathNames → Inode → Option Mark → Bool
redirect_is_ignored path inode mark =
    has_attribute inode redirect_name
    && (is_root path || is_opaque mark || (not (is_directory inode) && not (is_any_meta mark)))

-- `metacopy` on what is no metacopy file
abbrev pub metacopy_is_ignored : Inode → Option Mark → Bool
metacopy_is_ignored inode mark = has_attribute inode metacopy_name && not (is_any_meta mark)

-- `whiteout` on what isn't a regular file of size 0
abbrev pub is_empty_file : Inode → Bool
is_empty_file inode = elim inode.kind [ File size blob ↦ size == 0 | _ ↦ false ]

abbrev pub whiteout_is_ignored : Inode → Bool
whiteout_is_ignored inode = has_attribute inode whiteout_name && not (is_empty_file inode)

-- at least one attribute says nothing; this profile's own
abbrev pub mark_is_ignored : Entries → PathNames → Inode → Bool
mark_is_ignored layer path inode =
    opaque_is_ignored path inode
    || redirect_is_ignored path inode (mark_at layer path)
    || metacopy_is_ignored inode (mark_at layer path)
    || whiteout_is_ignored inode

-- ---- all of them

abbrev pub holds : List BlobView → Entries → StackView → Entry → Code → Bool
holds blobs layer below entry RedirectForm = redirect_is_malformed layer entry.0
holds blobs layer below entry RedirectLost = redirect_is_lost layer below entry.0
holds blobs layer below entry RedirectKind = redirect_is_of_wrong_kind layer below entry.0
holds blobs layer below entry RedirectDouble = redirect_is_double layer entry.0
holds blobs layer below entry RedirectOpen = redirect_is_open layer entry.0
holds blobs layer below entry DataMissing = data_is_missing layer below entry.0 entry.1
holds blobs layer below entry DataSize = data_is_of_other_size layer below entry.0 entry.1
holds blobs layer below entry BlobMissing = blob_is_missing blobs entry.1
holds blobs layer below entry BlobSize = blob_is_of_other_size blobs entry.1
holds blobs layer below entry BlobDigest = blob_is_wrong blobs entry.1
holds blobs layer below entry OrphanWhiteout = whiteout_is_orphan layer below entry.0 entry.1
holds blobs layer below entry WhiteoutInOpaque = whiteout_is_in_opaque layer entry.0 entry.1
holds blobs layer below entry WhiteoutUnmarked = whiteout_is_unmarked layer entry.0 entry.1
holds blobs layer below entry ImpureMissing = impure_is_missing layer entry.0 entry.1
holds blobs layer below entry MarkIgnored = mark_is_ignored layer entry.0 entry.1
