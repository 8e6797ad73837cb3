use Rattle.std.proofs.Common.{rules, ◌≡◌, ◌∙◌, ◌++◌, [], List, ℕ, None, Some, append-nil, append_assoc, decimal, sym, ap, subst}
use Rattle.std.specs.Prelude.{codes}
use Rattle.std.specs.Fmt.{signed_decimal}
use Rattle.std.proofs.lemmas.Result.{on_ok_weaker}
use Rattle.json.specs.Print.{quoted}
use Rattle.serde_json.specs.Data.{object}
use Rattle.serde_json.specs.Written.{compact_text}
use Rattle.ovl_names.specs.Paths.{path_text}
use Rattle.ovl_inode.specs.declared.inodes.Inode.{Inode}
use Rattle.ovl_inode.specs.declared.inodes.Kind.{Kind}
use Rattle.ovl_inode.specs.declared.inodes.Kind.TheVariants.{Dir, File, Symlink, Char, Block, Fifo, Socket}
use Rattle.ovl_manifest.specs.Compact.{blob_text, front_text, size_text, target_text, blob_of_kind, word_of_kind}
use Rattle.ovl_manifest.specs.Text.{attribute_members, entry_value}
use Rattle.ovl_manifest.proofs.CompactLemmas.{Grows, onto, in_turn, entry_text, seconds_text}
use Rattle.ovl_manifest.proofs.written_entries.push_entry.Goals as goal

-- what is after the target of an entry of this kind, up to its attributes
abbrev back_text : Kind → ℕ → List ℕ
back_text kind uid = size_text kind ++ (codes ",\"uid\":" ++ (decimal uid ++ codes ",\"xattrs\":"))

parts : (inode : Inode) (kind : Kind) (path : List ℕ)
    → blob_text (blob_of_kind kind) ++ (front_text (record inode { kind = kind }) ++ (quoted path ++ (target_text kind ++ (back_text kind inode.uid ++ (compact_text (object (attribute_members inode.attrs)) ++ codes "}")))))
    ≡ in_turn (blob_of_kind kind) (word_of_kind kind) (record inode { kind = kind }) (signed_decimal inode.mtime) path []
parts inode Dir path = simp append_assoc
parts inode (File size None) path = simp append_assoc
parts inode (File size (Some blob)) path = simp append_assoc
parts inode (Symlink target) path = simp append_assoc
parts inode (Char major minor) path = simp append_assoc
parts inode (Block major minor) path = simp append_assoc
parts inode Fifo path = simp append_assoc
parts inode Socket path = simp append_assoc

pub returns : goal.returns
returns c =
    let i = c.args.inode.now in
    let text : List ℕ = c.args.text.now.items in
    let blob : Grows text (blob_text (blob_of_kind i.kind)) c.push_blob.new.text.items = record { is = search rules } in
    let front : Grows c.push_blob.new.text.items (front_text i) c.push_front.new.text.items = record { is = search rules } in
    let placed : Grows c.push_front.new.text.items (quoted c.args.path.now) c.push_string.new.text.items = record { is = search rules } in
    let target : Grows c.push_string.new.text.items (target_text i.kind) c.push_target.new.text.items = record { is = search rules } in
    let back : Grows c.push_target.new.text.items (back_text i.kind i.uid) c.push_back.new.text.items = record { is = search rules } in
    on_ok_weaker c.push_attributes.result (λ e path same.
    let last : Grows c.push_back.new.text.items (compact_text (object (attribute_members i.attrs)) ++ codes "}") c.push_attributes.new.text.items = record { is = e } in
    let placed_so : Grows c.push_front.new.text.items (quoted (path_text path)) c.push_string.new.text.items =
    subst (λ (t : List ℕ). Grows c.push_front.new.text.items (quoted t) c.push_string.new.text.items) same placed in
    let whole : in_turn (blob_of_kind i.kind) (word_of_kind i.kind) i (signed_decimal i.mtime) (path_text path) [] ≡ compact_text (entry_value (path, i)) =
    ap (λ (t : List ℕ). in_turn (blob_of_kind i.kind) (word_of_kind i.kind) i t (path_text path) []) (sym (seconds_text i.mtime))
    ∙ (entry_text path i [] ∙ append-nil (compact_text (entry_value (path, i)))) in
    (onto blob (onto front (onto placed_so (onto target (onto back last))))).is
    ∙ ap (λ (t : List ℕ). text ++ t) (parts i i.kind (path_text path) ∙ whole)) (search rules)
