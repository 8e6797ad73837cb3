-- The text of a layer is UTF-8: so are its names, its targets and the names of its attributes.
use Rattle.std.proofs.Common.{◌≡◌, List, [], ◌∷◌, ℕ, ◌++◌, Bool, true, false, refl, arith}
use Rattle.std.specs.Prelude.{codes}
use Rattle.std.specs.List.{list_all}
use Rattle.std.specs.Str.{IsUtf8}
use Rattle.std.proofs.lemmas.Str.{IsUtf8-append}
use Rattle.json.proofs.Printed.Utf8.{IsUtf8-are_ascii}
use Rattle.serde_json.specs.Data.{array, Members, no_members, member}
use Rattle.serde_json.specs.Written.{comma_if, compact_text, items_text}
use Rattle.ovl_names.specs.Paths.{has_names}
use Rattle.ovl_names.proofs.Ascending.{both}
use Rattle.ovl_inode.specs.Sound.{is_sound_inode}
use Rattle.ovl_layer.specs.Layers.{Entries, IsLayer}
use Rattle.ovl_manifest.specs.Text.{entry_items, entry_value, layer_value, manifest_text, whole}
use Rattle.ovl_manifest.specs.Versions.{version_number, written}
use Rattle.ovl_manifest.proofs.MemberLemmas.{IsText, AreTexts, comma-text, object-text, whole-text}
use Rattle.ovl_manifest.proofs.EntryLemmas.{entry-text}

items-text : (later : Bool) (entries : Entries) → list_all (λ entry. has_names entry.0) entries ≡ true → list_all (λ entry. is_sound_inode entry.1) entries ≡ true → IsUtf8 (items_text later (entry_items entries))
items-text later [] named sound = IsUtf8-are_ascii (93 ∷ []) refl
items-text later (entry ∷ entries) named sound =
    let names = both {a = has_names entry.0} {b = list_all (λ other. has_names other.0) entries} named in
    let sounds = both {a = is_sound_inode entry.1} {b = list_all (λ other. is_sound_inode other.1) entries} sound in
    let rest : List ℕ = items_text true (entry_items entries) in
    IsUtf8-append (comma_if later) (compact_text (entry_value entry) ++ rest) (comma-text later)
    (IsUtf8-append (compact_text (entry_value entry)) rest (entry-text entry.0 entry.1 names.0 sounds.0) (items-text true entries names.1 sounds.1))

-- ---- layers

pub manifest-utf8 : (layer : Entries) → IsLayer layer → IsUtf8 (manifest_text layer)
manifest-utf8 layer is =
    let entries : IsText (array (entry_items layer)) =
    IsUtf8-append (91 ∷ []) (items_text false (entry_items layer)) (IsUtf8-are_ascii (91 ∷ []) refl) (items-text false layer is.named is.sound) in
    let number : ℕ = version_number written in
    let version : IsText (whole number) = whole-text number number (omega arith) (omega arith) in
    let members : Members = member (codes "entries") (array (entry_items layer)) (member (codes "overlay-layer") (whole number) no_members) in
    let all : AreTexts members = ((IsUtf8-are_ascii (codes "entries") refl, entries), ((IsUtf8-are_ascii (codes "overlay-layer") refl, version), tt)) in
    IsUtf8-append (compact_text (layer_value layer)) (codes "\n") (object-text members all) (IsUtf8-are_ascii (codes "\n") refl)
