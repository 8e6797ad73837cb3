use Rattle.std.proofs.Common.{◌≡◌, true, [], refl}
use Rattle.ovl_inode.specs.Attributes.{are_attributes}
use Rattle.ovl_inode.proofs.AttributeLemmas.{are_bytes-from_range, are_attributes-with}
use Rattle.ovl_inode.proofs.attributes.Attrs.put.Goals as goal

pub invariant_of-self : goal.invariant_of-self
invariant_of-self c =
    let are : are_attributes c.in-Some.table.value ≡ true = rw c.in-Some.is at c.self.invariant in
    rw c.in_ok-put_in-in-Some.ensures.done
    (rw c.deref_mut.ensures.value (are_attributes-with c.in-Some.table.value c.args.name.now c.args.value.now are c.in_ok-check_name.ensures.1 (are_bytes-from_range c.args.value.now c.type_inv.value)))

pub of-requires : goal.of-requires
of-requires c =
    rw c.in_ok-insert-in-None.ensures.done
    (rw c.new-table.ensures (are_attributes-with [] c.args.name.now c.args.value.now refl c.in_ok-check_name.ensures.1 (are_bytes-from_range c.args.value.now c.type_inv.value)))
