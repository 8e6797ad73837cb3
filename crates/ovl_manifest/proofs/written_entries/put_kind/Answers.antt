use Rattle.std.proofs.Common.{◌≡◌, ◌∙◌, ◌++◌, List, ℕ, Some, sym, ap, append_assoc, decimal}
use Rattle.std.specs.Prelude.{codes}
use Rattle.json.specs.Print.{escape_byte}
use Rattle.ovl_inode.specs.declared.inodes.Kind.{Kind}
use Rattle.ovl_manifest.specs.Compact.{device_text, kind_text}
use Rattle.ovl_manifest.proofs.written_entries.put_kind.Goals as goal

numbers : (major minor : ℕ) (rest : List ℕ)
    → codes ",\"major\":" ++ (decimal major ++ (codes ",\"minor\":" ++ (decimal minor ++ rest))) ≡ device_text (Some (major, minor)) ++ rest
numbers major minor rest = simp append_assoc

pub returns-in-Dir-clause-text : goal.returns-in-Dir-clause-text
unfolding escape_byte
returns-in-Dir-clause-text c = c.put.ensures ∙ ap (λ (kind : Kind). kind_text kind c.args.short.now) (sym c.in-Dir.is)

pub returns-in-File-clause-text : goal.returns-in-File-clause-text
unfolding escape_byte
returns-in-File-clause-text c = c.put-in-File.ensures ∙ ap (λ (kind : Kind). kind_text kind c.args.short.now) (sym c.in-File.is)

pub returns-in-Symlink-clause-text : goal.returns-in-Symlink-clause-text
unfolding escape_byte
returns-in-Symlink-clause-text c = c.put-in-Symlink.ensures ∙ ap (λ (kind : Kind). kind_text kind c.args.short.now) (sym c.in-Symlink.is)

pub returns-in-Char-clause-text : goal.returns-in-Char-clause-text
unfolding escape_byte
returns-in-Char-clause-text c =
    c.put-in-Char.ensures
    ∙ (ap (λ (t : List ℕ). codes ",\"kind\":\"char\"" ++ t) (c.put_device.ensures.text ∙ numbers c.in-Char.major c.in-Char.minor c.args.short.now)
    ∙ ap (λ (kind : Kind). kind_text kind c.args.short.now) (sym c.in-Char.is))

pub returns-in-Block-clause-text : goal.returns-in-Block-clause-text
unfolding escape_byte
returns-in-Block-clause-text c =
    c.put-in-Block.ensures
    ∙ (ap (λ (t : List ℕ). codes ",\"kind\":\"block\"" ++ t) (c.put_device-in-Block.ensures.text ∙ numbers c.in-Block.major c.in-Block.minor c.args.short.now)
    ∙ ap (λ (kind : Kind). kind_text kind c.args.short.now) (sym c.in-Block.is))

pub returns-in-Fifo-clause-text : goal.returns-in-Fifo-clause-text
unfolding escape_byte
returns-in-Fifo-clause-text c = c.put-in-Fifo.ensures ∙ ap (λ (kind : Kind). kind_text kind c.args.short.now) (sym c.in-Fifo.is)

pub returns-in-Socket-clause-text : goal.returns-in-Socket-clause-text
unfolding escape_byte
returns-in-Socket-clause-text c = c.put-in-Socket.ensures ∙ ap (λ (kind : Kind). kind_text kind c.args.short.now) (sym c.in-Socket.is)
