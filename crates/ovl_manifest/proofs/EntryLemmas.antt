-- What goes by the members of an entry, one by one: that their texts are UTF-8, and that they state the inode.
use Rattle.std.proofs.Common.{◌≡◌, ℕ, ◌-◌, ◌^◌, ◌<◌, ◌∙◌, List, [], ◌∷◌, Bool, true, false, Option, Some, None, refl, ap, arith, leb-true}
use Rattle.std.specs.Prelude.{◌&&◌, not, nat_le, nat_lt, codes, is_none, option_and_then}
use Rattle.std.specs.Option.{option_map}
use Rattle.std.specs.List.{flat_map, list_all}
use Rattle.std.specs.Str.{IsUtf8, is_utf8}
use Rattle.std.proofs.lemmas.Str.{IsUtf8-append, IsUtf8-from_is_utf8, IsUtf8-nil}
use Rattle.hex.specs.Hex.{encode_lower}
use Rattle.json.proofs.Printed.Utf8.{IsUtf8-are_ascii, IsUtf8-quoted}
use Rattle.serde_json.specs.Data.{Data, number, string, object, Members, put}
use Rattle.serde_json.specs.Find.{get, as_number, as_i64, as_u64, of_integer}
use Rattle.ovl_names.specs.Names.{is_name, name_fault, slash}
use Rattle.ovl_names.specs.Paths.{PathNames, path_text, has_names}
use Rattle.ovl_names.proofs.Ascending.{both}
use Rattle.ovl_inode.specs.declared.digests.Digest.{Digest}
use Rattle.ovl_inode.specs.declared.inodes.Inode.{Inode}
use Rattle.ovl_inode.specs.declared.inodes.Kind.{Kind}
use Rattle.ovl_inode.specs.declared.inodes.Kind.TheVariants.{Dir, File, Symlink, Char, Block, Fifo, Socket}
use Rattle.ovl_inode.specs.Attributes.{Attributes, attribute_fault, is_attribute, is_attribute_name}
use Rattle.ovl_inode.specs.Bytes.{are_bytes, is_digest}
use Rattle.ovl_inode.specs.Hexadecimal.{digest_of_text}
use Rattle.ovl_inode.specs.Kinds.{kind_word}
use Rattle.ovl_inode.specs.Marks.{has_metacopy}
use Rattle.ovl_inode.specs.Sound.{is_sound_inode, is_sound_kind, has_sound_blob, is_word, mode_limit, nsec_limit, size_limit}
use Rattle.ovl_inode.proofs.SoundLaws.{HasSoundValues, sound_values}
use Rattle.ovl_manifest.specs.Fields.{has_exactly, up_to, natural_field, kind_field, kind_members, inode_with}
use Rattle.ovl_manifest.specs.Versions.{written}
use Rattle.ovl_manifest.specs.Text.{whole, hexadecimal, with_numbers, with_kind, attribute_members, common_members, entry_value}
use Rattle.ovl_manifest.proofs.MemberLemmas.{IsText, AreTexts, Texts, no-texts, put-texts, with-text, object-text, hexadecimal-text, whole-text, word-text, seconds-text}
use Rattle.ovl_manifest.proofs.ValueLemmas.{up_to-within, word-within, seconds-back, digest-back}

-- ---- the members of an entry are texts

names-text : (path : PathNames) → has_names path ≡ true → IsUtf8 (flat_map (λ own. slash ∷ own) path)
names-text [] are = IsUtf8-nil
names-text (name ∷ names) are =
    let parts = both {a = is_name name} {b = has_names names} are in
    let own = both {a = is_none (name_fault name)} {b = is_utf8 name} parts.0 in
    IsUtf8-append (slash ∷ name) (flat_map (λ other. slash ∷ other) names)
    (IsUtf8-append (slash ∷ []) name (IsUtf8-are_ascii (slash ∷ []) refl) (IsUtf8-from_is_utf8 name own.1)) (names-text names parts.1)

path-text : (path : PathNames) → has_names path ≡ true → IsUtf8 (path_text path)
path-text [] are = IsUtf8-are_ascii (slash ∷ []) refl
path-text (name ∷ names) are = names-text (name ∷ names) are

word-of : (kind : Kind) → IsUtf8 (kind_word kind)
word-of Dir = IsUtf8-are_ascii (codes "dir") refl
word-of (File size blob) = IsUtf8-are_ascii (codes "file") refl
word-of (Symlink target) = IsUtf8-are_ascii (codes "symlink") refl
word-of (Char major minor) = IsUtf8-are_ascii (codes "char") refl
word-of (Block major minor) = IsUtf8-are_ascii (codes "block") refl
word-of Fifo = IsUtf8-are_ascii (codes "fifo") refl
word-of Socket = IsUtf8-are_ascii (codes "socket") refl

attributes-texts : (attrs : Attributes) → list_all is_attribute attrs ≡ true → AreTexts (attribute_members attrs)
attributes-texts [] are = tt
attributes-texts (attr ∷ attrs) are =
    let parts = both {a = is_attribute attr} {b = list_all is_attribute attrs} are in
    let own = both {a = is_attribute_name attr.0} {b = are_bytes attr.1} parts.0 in
    let name = both {a = is_none (attribute_fault attr.0)} {b = is_utf8 attr.0} own.0 in
    put-texts attr.0 (hexadecimal attr.1) (attribute_members attrs) (IsUtf8-from_is_utf8 attr.0 name.1) (hexadecimal-text attr.1) (attributes-texts attrs parts.1)

-- a number that passes a test of its size
tested-text : (n limit : ℕ) → nat_le n limit ≡ true → limit < 2 ^ 64 → IsText (whole n)
tested-text n limit within small = whole-text n limit (leb-true n limit within) small

common-texts : (path : PathNames) (inode : Inode) → has_names path ≡ true → is_sound_inode inode ≡ true → Texts (common_members (path, inode))
common-texts path inode named sound =
    let own = sound_values inode sound in
    let gid = with-text (codes "gid") (whole inode.gid) refl (word-text inode.gid own.gid) no-texts in
    let kind = with-text (codes "kind") (string (kind_word inode.kind)) refl (IsUtf8-quoted (kind_word inode.kind) (word-of inode.kind)) gid in
    let mode = with-text (codes "mode") (whole inode.mode) refl (tested-text inode.mode mode_limit own.mode (omega arith)) kind in
    let mtime = with-text (codes "mtime") (number (of_integer inode.mtime)) refl (seconds-text inode.mtime own.mtime) mode in
    let nsec = with-text (codes "mtime-nsec") (whole inode.nsec) refl (tested-text inode.nsec nsec_limit own.nsec (omega arith)) mtime in
    let placed = with-text (codes "path") (string (path_text path)) refl (IsUtf8-quoted (path_text path) (path-text path named)) nsec in
    let uid = with-text (codes "uid") (whole inode.uid) refl (word-text inode.uid own.uid) placed in
    with-text (codes "xattrs") (object (attribute_members inode.attrs)) refl (object-text (attribute_members inode.attrs) (attributes-texts inode.attrs (both own.attrs).0)) uid

numbers-texts : {members : Members} (major minor : ℕ) → (is_word major && is_word minor) ≡ true → Texts members → Texts (with_numbers major minor members)
numbers-texts major minor are others =
    let words = both {a = is_word major} {b = is_word minor} are in
    with-text (codes "minor") (whole minor) refl (word-text minor words.1) (with-text (codes "major") (whole major) refl (word-text major words.0) others)

size-texts : {members : Members} (size : ℕ) (blob : Option Digest) (metacopy : Bool) → is_sound_kind (File size blob) metacopy ≡ true → Texts members → Texts (put (codes "size") (whole size) members)
size-texts size blob metacopy sound others =
    let small = both {a = nat_le size size_limit} {b = has_sound_blob size blob metacopy} sound in
    with-text (codes "size") (whole size) refl (tested-text size size_limit small.0 (omega arith)) others

kind-texts : {members : Members} (kind : Kind) (metacopy : Bool) → is_sound_kind kind metacopy ≡ true → Texts members → Texts (with_kind kind members)
kind-texts Dir metacopy sound others = others
kind-texts Fifo metacopy sound others = others
kind-texts Socket metacopy sound others = others
kind-texts (Symlink target) metacopy sound others =
    with-text (codes "target") (string target) refl (IsUtf8-quoted target (IsUtf8-from_is_utf8 target (both {b = is_utf8 target} sound).1)) others
kind-texts (Char major minor) metacopy sound others = numbers-texts major minor sound others
kind-texts (Block major minor) metacopy sound others = numbers-texts major minor sound others
kind-texts (File size None) metacopy sound others = size-texts size None metacopy sound others
kind-texts (File size (Some blob)) metacopy sound others =
    with-text (codes "blob") (hexadecimal blob) refl (hexadecimal-text blob) (size-texts size (Some blob) metacopy sound others)

pub entry-text : (path : PathNames) (inode : Inode) → has_names path ≡ true → is_sound_inode inode ≡ true → IsText (entry_value (path, inode))
entry-text path inode named sound =
    let members : Members = with_kind inode.kind (common_members (path, inode)) in
    object-text members (kind-texts inode.kind (has_metacopy inode) (sound_values inode sound).kind (common-texts path inode named sound)).are

-- ---- the members of an entry state its inode

-- what is read of the members that a kind has
abbrev numbers_read : (ℕ → ℕ → Kind) → ℕ → ℕ → Option Kind
numbers_read made major minor = option_and_then (λ one. option_map (λ other. made one other) (up_to (2 ^ 32 - 1) minor)) (up_to (2 ^ 32 - 1) major)

abbrev kind_read : Kind → Option Kind
kind_read Dir = Some Dir
kind_read (File size None) = option_and_then (λ n. Some (File n None)) (up_to size_limit size)
kind_read (File size (Some blob)) = option_and_then (λ n. option_map (λ (own : Option Digest). File n own) (option_map (λ d. Some d) (digest_of_text (encode_lower blob)))) (up_to size_limit size)
kind_read (Symlink target) = Some (Symlink target)
kind_read (Char major minor) = numbers_read (λ one other. Char one other) major minor
kind_read (Block major minor) = numbers_read (λ one other. Block one other) major minor
kind_read Fifo = Some Fifo
kind_read Socket = Some Socket

last_of : (a b c : Bool) → (a && b && c) ≡ true → c ≡ true
last_of false b c is = let bad : false ≡ true = is in cc
last_of true false c is = let bad : false ≡ true = is in cc
last_of true true c is = is

numbers : (made : ℕ → ℕ → Kind) (major minor : ℕ) → (is_word major && is_word minor) ≡ true → numbers_read made major minor ≡ Some (made major minor)
numbers made major minor are =
    let parts = both {a = is_word major} {b = is_word minor} are in
    ap (option_and_then (λ one. option_map (λ other. made one other) (up_to (2 ^ 32 - 1) minor))) (up_to-within (2 ^ 32 - 1) major (word-within major parts.0))
    ∙ ap (option_map (λ other. made major other)) (up_to-within (2 ^ 32 - 1) minor (word-within minor parts.1))

pub kind_back : (kind : Kind) (metacopy : Bool) → is_sound_kind kind metacopy ≡ true → kind_read kind ≡ Some kind
kind_back Dir metacopy sound = refl
kind_back Fifo metacopy sound = refl
kind_back Socket metacopy sound = refl
kind_back (Symlink target) metacopy sound = refl
kind_back (Char major minor) metacopy sound = numbers (λ one other. Char one other) major minor sound
kind_back (Block major minor) metacopy sound = numbers (λ one other. Block one other) major minor sound
kind_back (File size None) metacopy sound =
    let parts = both {a = nat_le size size_limit} {b = has_sound_blob size None metacopy} sound in
    ap (option_and_then (λ n. Some (File n None))) (up_to-within size_limit size parts.0)
kind_back (File size (Some blob)) metacopy sound =
    let parts = both {a = nat_le size size_limit} {b = has_sound_blob size (Some blob) metacopy} sound in
    let digest = digest-back blob (last_of (nat_lt 0 size) (not metacopy) (is_digest blob) parts.1) in
    ap (option_and_then (λ n. option_map (λ (own : Option Digest). File n own) (option_map (λ d. Some d) (digest_of_text (encode_lower blob))))) (up_to-within size_limit size parts.0)
    ∙ ap (λ (o : Option Digest). option_map (λ (own : Option Digest). File size own) (option_map (λ d. Some d) o)) digest

-- the value has the members of an entry's kind, and no more
abbrev pub HasMembers : PathNames → Inode → Data → Type 0
HasMembers path inode value =
    (get (codes "path") value ≡ Some (string (path_text path)))
    × (get (codes "xattrs") value ≡ Some (object (attribute_members inode.attrs)))
    × (has_exactly (kind_members written inode.kind) value ≡ true)
    × (kind_field value ≡ kind_read inode.kind)
    × (get (codes "mode") value ≡ Some (whole inode.mode))
    × (get (codes "uid") value ≡ Some (whole inode.uid))
    × (get (codes "gid") value ≡ Some (whole inode.gid))
    × (get (codes "mtime") value ≡ Some (number (of_integer inode.mtime)))
    × (get (codes "mtime-nsec") value ≡ Some (whole inode.nsec))

module _ (value : Data) where
  natural : (name : List ℕ) (limit n : ℕ) → get name value ≡ Some (whole n) → nat_le n limit ≡ true → natural_field name limit value ≡ Some n
  natural name limit n has within = ap (λ (o : Option Data). option_and_then (up_to limit) (option_and_then as_u64 (option_and_then as_number o))) has ∙ up_to-within limit n within

  pub inode-stated : (path : PathNames) (inode : Inode) → HasMembers path inode value → HasSoundValues inode → inode_with written inode.kind inode.attrs value ≡ Some inode
  inode-stated path inode has sound =
      let seconds = ap (λ (o : Option Data). option_and_then as_i64 (option_and_then as_number o)) has.7 ∙ seconds-back inode.mtime sound.mtime in
      rw (natural (codes "mode") mode_limit inode.mode has.4 sound.mode)
      (rw (natural (codes "uid") (2 ^ 32 - 1) inode.uid has.5 (word-within inode.uid sound.uid))
      (rw (natural (codes "gid") (2 ^ 32 - 1) inode.gid has.6 (word-within inode.gid sound.gid))
      (rw seconds (rw (natural (codes "mtime-nsec") nsec_limit inode.nsec has.8 sound.nsec) refl))))

module _ (inode : Inode) (path : PathNames) where
  abbrev of_kind : Kind → Inode
  of_kind kind = record inode { kind = kind }

  -- the members of its value
  pub has_members : (kind : Kind) → HasMembers path (of_kind kind) (entry_value (path, of_kind kind))
  has_members Dir = (refl, refl, refl, refl, refl, refl, refl, refl, refl)
  has_members (File size None) = (refl, refl, refl, refl, refl, refl, refl, refl, refl)
  has_members (File size (Some blob)) = (refl, refl, refl, refl, refl, refl, refl, refl, refl)
  has_members (Symlink target) = (refl, refl, refl, refl, refl, refl, refl, refl, refl)
  has_members (Char major minor) = (refl, refl, refl, refl, refl, refl, refl, refl, refl)
  has_members (Block major minor) = (refl, refl, refl, refl, refl, refl, refl, refl, refl)
  has_members Fifo = (refl, refl, refl, refl, refl, refl, refl, refl, refl)
  has_members Socket = (refl, refl, refl, refl, refl, refl, refl, refl, refl)
