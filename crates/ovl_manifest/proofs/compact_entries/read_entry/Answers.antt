use Rattle.std.proofs.Common.{◌≡◌, ◌∙◌, ◌++◌, List, ℕ, ℤ, w64, SFits, sym, ap, subst, rules}
use Rattle.std.proofs.lemmas.Int.{to_z-of_z}
use Rattle.std.specs.Cow.{cow_str_bytes}
use Rattle.std.specs.Fmt.{signed_decimal}
use Rattle.json.specs.Print.{quoted}
use Rattle.serde_json.specs.Written.{compact_text}
use Rattle.ovl_inode.specs.declared.inodes.Inode.{Inode}
use Rattle.ovl_manifest.specs.Text.{entry_value}
use Rattle.ovl_manifest.specs.Compact.{before_path, contents_text}
use Rattle.ovl_manifest.proofs.CompactLemmas.{piece-then, in_turn, pieces, entry_text, seconds_text}
use Rattle.ovl_manifest.proofs.compact_entries.read_entry.Goals as goal

pub returns-then-sound-clause-text : goal.returns-then-sound-clause-text
returns-then-sound-clause-text c = λ path spelled.
    let front = c.in_ok-front.front in
    let seconds : ℤ = front.mtime in
    let text : List ℕ = cow_str_bytes c.in_ok-path.path in
    let kind = c.in_ok-kind.kind in
    let rest : List ℕ = c.read_back.new.rest in
    let inode : Inode = record { kind = kind; mode = front.mode; uid = c.in_ok-uid.uid; gid = front.gid; mtime = seconds; nsec = front.nsec; attrs = c.in_ok-uid.attrs } in
    let taken : c.args.rest.now ≡ in_turn front.blob front.word inode (signed_decimal seconds) text rest =
    c.in_ok-front.ensures
    ∙ ap (before_path front)
    (piece-then (quoted text) c.in_ok-path.ensures
    (piece-then (contents_text kind) c.in_ok-kind.ensures.contents c.in_ok-uid.ensures)) in
    let is = c.in_ok-kind.ensures.kind in
    let own : in_turn front.blob front.word inode (signed_decimal seconds) text rest ≡ pieces path inode kind rest =
    λ j. in_turn (sym is.same_blob j) (sym is.same_word j) inode (sym (seconds_text seconds) j) (sym spelled j) rest in
    let whole = taken ∙ (own ∙ entry_text path inode rest) in
    let fits : SFits w64 seconds = search rules in
    subst (λ (mtime : ℤ). c.args.rest.now ≡ compact_text (entry_value (path, record inode { mtime = mtime })) ++ rest) (sym (to_z-of_z w64 seconds fits)) whole
