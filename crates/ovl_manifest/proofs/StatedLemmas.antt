-- The value that is written of an entry states that entry.
use Rattle.std.proofs.Common.{◌≡◌, ◌∙◌, [], ◌∷◌, true, Option, Some, None, Ok, refl, ap, map}
use Rattle.std.specs.Prelude.{◌&&◌, if◌then◌else◌, option_and_then}
use Rattle.std.specs.List.{list_all}
use Rattle.serde_json.specs.Data.{Data}
use Rattle.serde_json.specs.Find.{as_str}
use Rattle.ovl_names.specs.Paths.{PathNames, has_names}
use Rattle.ovl_names.proofs.Ascending.{both}
use Rattle.ovl_inode.specs.declared.inodes.Inode.{Inode}
use Rattle.ovl_inode.specs.Marks.{has_metacopy}
use Rattle.ovl_inode.specs.Sound.{is_sound_inode}
use Rattle.ovl_inode.proofs.SoundLaws.{HasSoundValues, sound_values}
use Rattle.ovl_layer.specs.Layers.{Entry, Entries, IsLayer, is_within_limits}
use Rattle.ovl_layer.specs.Entries.{layer_of_entries}
use Rattle.ovl_layer.proofs.BackLemmas.{layer-counted}
use Rattle.ovl_manifest.specs.Fields.{path_of_text, attributes_of, attributes_field, kind_field, inode_with, inode_field, path_field, entry_with, entry_of}
use Rattle.ovl_manifest.specs.Versions.{written}
use Rattle.ovl_manifest.specs.Manifest.{stated_entries, layer_of_value}
use Rattle.ovl_manifest.specs.Text.{entry_value, entry_items, layer_value}
use Rattle.ovl_manifest.proofs.ValueLemmas.{path-back, attributes-back}
use Rattle.ovl_manifest.proofs.EntryLemmas.{HasMembers, has_members, inode-stated, kind_back}

-- ---- the value of an entry

-- a value that has an entry's members states the entry
module _ (path : PathNames) (inode : Inode) (value : Data) (has : HasMembers path inode value) (named : has_names path ≡ true) (limited : is_within_limits path ≡ true) (sound : is_sound_inode inode ≡ true) where
  values : HasSoundValues inode
  values = sound_values inode sound

  has_kind : kind_field value ≡ Some inode.kind
  has_kind = has.3 ∙ kind_back inode.kind (has_metacopy inode) values.kind

  pub assembled : entry_of written value ≡ Some (path, inode)
  assembled =
      let path_read : path_field written value ≡ Some path = ap (λ (o : Option Data). option_and_then (path_of_text written) (option_and_then as_str o)) has.0 ∙ path-back path named limited in
      let attributes_read : attributes_field value ≡ Some inode.attrs = ap (option_and_then attributes_of) has.1 ∙ attributes-back inode.attrs values.attrs in
      let inode_read : inode_field written value ≡ Some inode =
      ap (option_and_then (λ kind. option_and_then (λ attrs. inode_with written kind attrs value) (attributes_field value))) has_kind
      ∙ (ap (option_and_then (λ attrs. inode_with written inode.kind attrs value)) attributes_read ∙ inode-stated value path inode has values) in
      ap (option_and_then (λ own. option_and_then (entry_with written value own) (inode_field written value))) path_read
      ∙ (ap (option_and_then (entry_with written value path)) inode_read
      ∙ (ap (λ b. if b && is_sound_inode inode then Some (path, inode) else None) has.2 ∙ ap (λ b. if b then Some (path, inode) else None) sound))

pub entry-stated : (entry : Entry) → has_names entry.0 ≡ true → is_within_limits entry.0 ≡ true → is_sound_inode entry.1 ≡ true → entry_of written (entry_value entry) ≡ Some entry
entry-stated entry named limited sound = assembled entry.0 entry.1 (entry_value entry) (has_members entry.1 entry.0 entry.1.kind) named limited sound

pub entries-stated : (entries : Entries) → list_all (λ entry. has_names entry.0) entries ≡ true → list_all (λ entry. is_within_limits entry.0) entries ≡ true → list_all (λ entry. is_sound_inode entry.1) entries ≡ true → stated_entries written (entry_items entries) ≡ map (λ entry. Some entry) entries
entries-stated [] named limited sound = refl
entries-stated (entry ∷ entries) named limited sound =
    let names = both {a = has_names entry.0} {b = list_all (λ e. has_names e.0) entries} named in
    let limits = both {a = is_within_limits entry.0} {b = list_all (λ e. is_within_limits e.0) entries} limited in
    let sounds = both {a = is_sound_inode entry.1} {b = list_all (λ e. is_sound_inode e.1) entries} sound in
    λ j. entry-stated entry names.0 limits.0 sounds.0 j ∷ entries-stated entries names.1 limits.1 sounds.1 j

-- ---- the value of a layer

pub layer-back : (layer : Entries) → IsLayer layer → layer_of_value (layer_value layer) ≡ Ok layer
layer-back layer is = ap layer_of_entries (entries-stated layer is.named is.limited is.sound) ∙ layer-counted layer is
