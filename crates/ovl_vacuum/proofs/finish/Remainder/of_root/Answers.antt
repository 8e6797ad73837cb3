use Rattle.std.proofs.Common.{◌≡◌, ◌∙◌, [], Some, sym, ap, subst, arith}
use Rattle.ovl_inode.specs.declared.inodes.Inode.{Inode}
use Rattle.ovl_layer.specs.Layers.{Entries, entry_at}
use Rattle.ovl_layer.specs.Sheets.{path_at}
use Rattle.ovl_layer.specs.Entries.{stated_pair}
use Rattle.ovl_layer.specs.LayerBuilders.{builder_entries}
use Rattle.ovl_layer.proofs.EntryLemmas.{one_more}
use Rattle.ovl_lookup.specs.Stacks.{StackView}
use Rattle.ovl_lookup.specs.Words.{top_layer}
use Rattle.ovl_lookup.proofs.LawsOfLooks.{top-layer}
use Rattle.ovl_vacuum.proofs.RowLemmas.{left-first, root-first}
use Rattle.ovl_vacuum.proofs.finish.Remainder.of_root.Goals as goal

pub returns : goal.returns
returns c =
    let stack : StackView = c.args.stack.now in
    let is = top-layer stack c.top.ensures.some c.top.ensures.each in
    let at : entry_at (top_layer stack) (path_at (top_layer stack) 0) ≡ Some c.in_ok-root.root =
    subst (λ (l : Entries). entry_at l (path_at l 0) ≡ Some c.inode.result.now) c.top.ensures.value c.inode.ensures ∙ ap (λ (i : Inode). Some i) (sym c.in_ok-root.ensures) in
    let begun = c.in_ok-begun.ensures in
    record {
      builder = begun.1;
      entries = left-first stack is (builder_entries c.in_ok-begun.field-0) c.in_ok-root.root at begun.0;
      count = omega (arith, one_more [] (stated_pair ([], c.in_ok-root.root)) (builder_entries c.in_ok-begun.field-0) begun.0);
      above = c.root.ensures.path ∙ (sym (root-first (top_layer stack) is) ∙ ap (path_at (top_layer stack)) (sym c.root.ensures.row));
    }
