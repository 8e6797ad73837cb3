use Rattle.std.proofs.Common.{◌≡◌, ◌∙◌, ◌+◌, ◌++◌, ℕ, List, ap, length, insert, string_bytes}
use Rattle.ovl_inode.specs.declared.tables.AttributePlace.{AttributePlace}
use Rattle.ovl_inode.specs.Attributes.{Attributes}
use Rattle.ovl_inode.specs.Tables.{attributes_of, IsFull}
use Rattle.ovl_inode.proofs.TableLemmas.{insert-full}
use Rattle.ovl_inode.proofs.tables.Table.insert.Goals as goal

-- the attribute is after all others, and no byte is left over
inserted : (c : goal.In_ok-extend_from_slice)
    → IsFull (string_bytes c.push_str.new.self) c.extend_from_slice.new.self.items c.insert.new.self.items
    × (attributes_of (string_bytes c.push_str.new.self) c.extend_from_slice.new.self.items c.insert.new.self.items
    ≡ insert (attributes_of (string_bytes c.self.inside.names) c.self.inside.values.items c.self.inside.places.items) c.args.place (c.args.name.now, c.args.value.now))
inserted c =
    let names : List ℕ = string_bytes c.self.inside.names in
    let values : List ℕ = c.self.inside.values.items in
    let own : AttributePlace = record { name = c.in_ok-behind.field-0; value = c.in_ok-behind-2.field-0 } in
    let texts : c.len.result ≡ length names = c.len.ensures ∙ c.self.inside.names.bytes.ok.0 in
    let bytes : c.len-2.result ≡ length values = c.len-2.ensures ∙ c.self.inside.values.ok.0 in
    insert-full names values c.args.name.now c.args.value.now (string_bytes c.push_str.new.self) c.extend_from_slice.new.self.items c.self.inside.places.items c.insert.new.self.items c.args.place own c.utf8.name
    (record { start = c.in_ok-behind.ensures.0 ∙ texts; end = c.in_ok-behind.ensures.1 ∙ ap (λ n. n + length c.args.name.now) texts })
    (record { start = c.in_ok-behind-2.ensures.0 ∙ bytes; end = c.in_ok-behind-2.ensures.1 ∙ ap (λ n. n + length c.args.value.now) bytes })
    (c.in_ok-push_str.ensures.bytes ∙ ap (λ (b : List ℕ). b ++ c.args.name.now) c.in_ok-reserve.ensures.bytes)
    (c.in_ok-extend_from_slice.ensures.items ∙ ap (λ (b : List ℕ). b ++ c.args.value.now) c.in_ok-reserve-2.ensures.items)
    c.in_ok-insert.ensures.items c.self.invariant

pub invariant_of-self-2 : goal.invariant_of-self-2
invariant_of-self-2 c = (inserted c).0

pub returns-clause-done : goal.returns-clause-done
returns-clause-done c =
    (inserted c).1 ∙ ap (λ (attrs : Attributes). insert attrs c.args.place (c.args.name.now, c.args.value.now)) c.self.view_is
