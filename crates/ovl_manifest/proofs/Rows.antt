-- Worked examples of manifests, read and written, by computation.
use Rattle.std.specs.Prelude.{◌≡◌, ℕ, negsuc, Bool, true, false, Some, None, Result, Ok, Err, List, [], ◌∷◌, ◌++◌, codes, replicate, take, length, refl}
use Rattle.std.specs.Fmt.{digits}
use Rattle.std.specs.List.{list_all, range_with_len}
use Rattle.hex.specs.Hex.{encode_with}
use Rattle.serde_json.proofs.OnLiterals.{serde_json_on_literals}
use Rattle.ovl_inode.proofs.OnLiterals.{inode_on_literals}
use Rattle.ovl_inode.specs.declared.inodes.Inode.{Inode}
use Rattle.ovl_inode.specs.declared.inodes.Kind.TheVariants.{Dir, Symlink, Char}
use Rattle.ovl_inode.specs.Inodes.{plain_inode}
use Rattle.ovl_layer.specs.Layers.{Entries}
use Rattle.ovl_layer.specs.declared.faults.LayerFault.{LayerFault}
use Rattle.ovl_layer.specs.declared.faults.LayerFault.TheVariants.{NotJson, Shape, Version, Count, Entry, Order, NoParent, Root, Escaped}
use Rattle.ovl_names.specs.Paths.{path_text}
use Rattle.ovl_manifest.specs.Fields.{path_of_text}
use Rattle.ovl_manifest.specs.Manifest.{read_layer}
use Rattle.ovl_manifest.specs.Text.{manifest_text}
use Rattle.ovl_manifest.specs.declared.versions.Version.TheVariants.{One, Two}

abbrev dir : Inode
dir = plain_inode Dir 493 []

one : read_layer (codes "{\"entries\":[{\"gid\":0,\"kind\":\"dir\",\"mode\":493,\"mtime\":0,\"path\":\"/\",\"uid\":0,\"xattrs\":{}}],\"overlay-layer\":1}") ≡ Ok (([], dir) ∷ [])
unfolding serde_json_on_literals inode_on_literals
one = refl

two : read_layer (codes "{\"entries\":[{\"gid\":0,\"kind\":\"dir\",\"mode\":493,\"mtime\":0,\"path\":\"/\",\"uid\":0,\"xattrs\":{}},{\"gid\":0,\"kind\":\"dir\",\"mode\":493,\"mtime\":0,\"path\":\"/d\",\"uid\":0,\"xattrs\":{}}],\"overlay-layer\":1}") ≡ Ok (([], dir) ∷ (codes "d" ∷ [], dir) ∷ [])
unfolding serde_json_on_literals inode_on_literals
two = refl

order : read_layer (codes "{\"entries\":[{\"gid\":0,\"kind\":\"dir\",\"mode\":493,\"mtime\":0,\"path\":\"/\",\"uid\":0,\"xattrs\":{}},{\"gid\":0,\"kind\":\"dir\",\"mode\":493,\"mtime\":0,\"path\":\"/b\",\"uid\":0,\"xattrs\":{}},{\"gid\":0,\"kind\":\"dir\",\"mode\":493,\"mtime\":0,\"path\":\"/a\",\"uid\":0,\"xattrs\":{}}],\"overlay-layer\":1}") ≡ Err (Order 2)
unfolding serde_json_on_literals inode_on_literals
order = refl

twice : read_layer (codes "{\"entries\":[{\"gid\":0,\"kind\":\"dir\",\"mode\":493,\"mtime\":0,\"path\":\"/\",\"uid\":0,\"xattrs\":{}},{\"gid\":0,\"kind\":\"dir\",\"mode\":493,\"mtime\":0,\"path\":\"/a\",\"uid\":0,\"xattrs\":{}},{\"gid\":0,\"kind\":\"dir\",\"mode\":493,\"mtime\":0,\"path\":\"/a\",\"uid\":0,\"xattrs\":{}}],\"overlay-layer\":1}") ≡ Err (Order 2)
unfolding serde_json_on_literals inode_on_literals
twice = refl

no-parent : read_layer (codes "{\"entries\":[{\"gid\":0,\"kind\":\"dir\",\"mode\":493,\"mtime\":0,\"path\":\"/\",\"uid\":0,\"xattrs\":{}},{\"gid\":0,\"kind\":\"dir\",\"mode\":493,\"mtime\":0,\"path\":\"/a/b\",\"uid\":0,\"xattrs\":{}}],\"overlay-layer\":1}") ≡ Err (NoParent 1)
unfolding serde_json_on_literals inode_on_literals
no-parent = refl

-- only a root in the version that is written, and each cut of it
abbrev second : List ℕ
second = codes "{\"entries\":[{\"gid\":0,\"kind\":\"dir\",\"mode\":493,\"mtime\":0,\"mtime-nsec\":0,\"path\":\"/\",\"uid\":0,\"xattrs\":{}}],\"overlay-layer\":2}"

second-version : read_layer second ≡ Ok (([], dir) ∷ [])
unfolding serde_json_on_literals inode_on_literals
second-version = refl

with-newline : read_layer (second ++ codes "\n") ≡ Ok (([], dir) ∷ [])
unfolding serde_json_on_literals inode_on_literals
with-newline = refl

abbrev is_no_JSON : Result Entries LayerFault → Bool
is_no_JSON (Err NotJson) = true
is_no_JSON _ = false

cuts : (length second ≡ 121) × (list_all (λ n. is_no_JSON (read_layer (take n second))) (range_with_len 0 121) ≡ true)
unfolding serde_json_on_literals inode_on_literals
cuts = (refl, refl)

most-nanoseconds : read_layer (codes "{\"entries\":[{\"gid\":0,\"kind\":\"dir\",\"mode\":493,\"mtime\":0,\"mtime-nsec\":999999999,\"path\":\"/\",\"uid\":0,\"xattrs\":{}}],\"overlay-layer\":2}") ≡ Ok (([], record dir { nsec = 999999999 }) ∷ [])
unfolding serde_json_on_literals inode_on_literals
most-nanoseconds = refl

a-whole-second : read_layer (codes "{\"entries\":[{\"gid\":0,\"kind\":\"dir\",\"mode\":493,\"mtime\":0,\"mtime-nsec\":1000000000,\"path\":\"/\",\"uid\":0,\"xattrs\":{}}],\"overlay-layer\":2}") ≡ Err (Entry 0)
unfolding serde_json_on_literals inode_on_literals
a-whole-second = refl

no-nanoseconds : read_layer (codes "{\"entries\":[{\"gid\":0,\"kind\":\"dir\",\"mode\":493,\"mtime\":0,\"path\":\"/\",\"uid\":0,\"xattrs\":{}}],\"overlay-layer\":2}") ≡ Err (Entry 0)
unfolding serde_json_on_literals inode_on_literals
no-nanoseconds = refl

nanoseconds-in-first-version : read_layer (codes "{\"entries\":[{\"gid\":0,\"kind\":\"dir\",\"mode\":493,\"mtime\":0,\"mtime-nsec\":0,\"path\":\"/\",\"uid\":0,\"xattrs\":{}}],\"overlay-layer\":1}") ≡ Err (Entry 0)
unfolding serde_json_on_literals inode_on_literals
nanoseconds-in-first-version = refl

third-version : read_layer (codes "{\"entries\":[{\"gid\":0,\"kind\":\"dir\",\"mode\":493,\"mtime\":0,\"mtime-nsec\":0,\"path\":\"/\",\"uid\":0,\"xattrs\":{}}],\"overlay-layer\":3}") ≡ Err Version
unfolding serde_json_on_literals inode_on_literals
third-version = refl

count : read_layer (codes "{\"entries\":[],\"overlay-layer\":1}") ≡ Err Count
unfolding serde_json_on_literals inode_on_literals
count = refl

root : read_layer (codes "{\"entries\":[{\"gid\":0,\"kind\":\"dir\",\"mode\":493,\"mtime\":0,\"path\":\"/a\",\"uid\":0,\"xattrs\":{}}],\"overlay-layer\":1}") ≡ Err Root
unfolding serde_json_on_literals inode_on_literals
root = refl

shape : read_layer (codes "[]") ≡ Err Shape
unfolding serde_json_on_literals inode_on_literals
shape = refl

escaped : read_layer (codes "{\"entries\":[{\"gid\":0,\"kind\":\"dir\",\"mode\":493,\"mtime\":0,\"path\":\"/\",\"uid\":0,\"xattrs\":{}},{\"gid\":0,\"kind\":\"dir\",\"mode\":493,\"mtime\":0,\"path\":\"/a\",\"uid\":0,\"xattrs\":{\"trusted.overlay.overlay.opaque\":\"79\"}}],\"overlay-layer\":1}") ≡ Err (Escaped 1)
unfolding serde_json_on_literals inode_on_literals
escaped = refl

cut : read_layer (codes "{\"entries\":[{\"gid\":0,\"kind\":\"dir\",\"mode\":493,\"mti") ≡ Err NotJson
unfolding serde_json_on_literals inode_on_literals
cut = refl

-- how deep a path of each version may be
deepest : path_of_text Two (path_text (replicate 128 (codes "d"))) ≡ Some (replicate 128 (codes "d"))
unfolding serde_json_on_literals inode_on_literals
deepest = refl

too-deep : path_of_text Two (path_text (replicate 129 (codes "d"))) ≡ None
unfolding serde_json_on_literals inode_on_literals
too-deep = refl

deepest-in-first-version : path_of_text One (path_text (replicate 64 (codes "d"))) ≡ Some (replicate 64 (codes "d"))
unfolding serde_json_on_literals inode_on_literals
deepest-in-first-version = refl

too-deep-in-first-version : path_of_text One (path_text (replicate 65 (codes "d"))) ≡ None
unfolding serde_json_on_literals inode_on_literals
too-deep-in-first-version = refl

-- ---- what is written

-- only a root: a line of 122 bytes
alone : manifest_text (([], dir) ∷ []) ≡ codes "{\"entries\":[{\"gid\":0,\"kind\":\"dir\",\"mode\":493,\"mtime\":0,\"mtime-nsec\":0,\"path\":\"/\",\"uid\":0,\"xattrs\":{}}],\"overlay-layer\":2}\n"
unfolding serde_json_on_literals inode_on_literals digits encode_with
alone = refl

alone-length : length (manifest_text (([], dir) ∷ [])) ≡ 122
unfolding serde_json_on_literals inode_on_literals digits encode_with
alone-length = refl

-- an opaque directory, and a symlink and a device in it
abbrev small : Entries
small =
    ([], dir)
    ∷ (codes "d" ∷ [], record (plain_inode Dir 493 ((codes "trusted.overlay.opaque", codes "y") ∷ (codes "user.k", 1 ∷ []) ∷ [])) { uid = 7; mtime = negsuc 4; nsec = 999999999 })
    ∷ (codes "d" ∷ codes "s" ∷ [], record (plain_inode (Symlink (codes "a b")) 511 []) { nsec = 7 })
    ∷ (codes "d" ∷ codes "t" ∷ [], plain_inode (Char 1 3) 438 [])
    ∷ []

back : read_layer (manifest_text small) ≡ Ok small
unfolding serde_json_on_literals inode_on_literals digits encode_with
back = refl

-- ---- members in another order

turned : read_layer (codes "{\"overlay-layer\":2,\"entries\":[{\"path\":\"/\",\"kind\":\"dir\",\"mode\":493,\"uid\":0,\"gid\":0,\"mtime\":0,\"mtime-nsec\":0,\"xattrs\":{}}]}") ≡ Ok (([], dir) ∷ [])
unfolding serde_json_on_literals inode_on_literals digits encode_with
turned = refl
