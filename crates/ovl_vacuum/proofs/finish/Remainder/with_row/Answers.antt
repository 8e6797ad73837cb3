use Rattle.std.proofs.Common.{◌≡◌, ◌∙◌, Some, length, sym, ap, subst, arith, leb-true}
use Rattle.std.specs.Option.{option_map}
use Rattle.ovl_names.specs.Names.{PathName}
use Rattle.ovl_names.specs.Paths.{parent_path, child_path}
use Rattle.ovl_inode.specs.declared.inodes.Inode.{Inode}
use Rattle.ovl_layer.specs.Layers.{Entries, entry_at, entry_limit}
use Rattle.ovl_layer.specs.Sheets.{path_at, last_name}
use Rattle.ovl_layer.specs.Entries.{stated_pair}
use Rattle.ovl_layer.specs.LayerBuilders.{builder_entries}
use Rattle.ovl_layer.proofs.EntryLemmas.{one_more}
use Rattle.ovl_lookup.specs.Stacks.{StackView}
use Rattle.ovl_lookup.specs.Words.{top_layer}
use Rattle.ovl_lookup.proofs.LawsOfLooks.{top-layer}
use Rattle.ovl_vacuum.specs.Passes.{IsDirectoryAbove}
use Rattle.ovl_vacuum.proofs.RowLemmas.{left-count, left-child, named-row}
use Rattle.ovl_vacuum.proofs.finish.Remainder.with_row.Goals as goal

pub unwrap-requires : goal.unwrap-requires
unwrap-requires c =
    named-row (top_layer c.args.stack.now) (top-layer c.args.stack.now c.top-sheet.ensures.some c.top-sheet.ensures.each) c.args.number c.requires.some c.requires.inside
    c.name.result (c.name.ensures ∙ (λ j. last_name (path_at (c.top-sheet.ensures.value j) c.args.number)))

pub with_child-requires-clause-room : goal.with_child-requires-clause-room
with_child-requires-clause-room c =
    let stack : StackView = c.args.stack.now in
    let is = top-layer stack c.top-sheet.ensures.some c.top-sheet.ensures.each in
    omega (arith, c.requires.left.count, ap length c.requires.left.entries, left-count stack c.args.number, c.requires.inside, leb-true (length (top_layer stack)) entry_limit is.counted)

pub returns : goal.returns
returns c =
    let stack : StackView = c.args.stack.now in
    let is = top-layer stack c.top-sheet.ensures.some c.top-sheet.ensures.each in
    let same = c.top-sheet.ensures.value in
    let at : entry_at (top_layer stack) (path_at (top_layer stack) c.args.number) ≡ Some c.in_ok-inode.inode =
    subst (λ (l : Entries). entry_at l (path_at l c.args.number) ≡ Some c.inode.result.now) same c.inode.ensures ∙ ap (λ (i : Inode). Some i) (sym c.in_ok-inode.ensures) in
    let parent : c.go_to.new.self.path ≡ parent_path (path_at (top_layer stack) c.args.number) =
    subst (λ (l : Entries). c.go_to.new.self.path ≡ parent_path (path_at l c.args.number)) same c.in_ok-go_to.ensures.directory in
    let named : last_name (path_at (top_layer stack) c.args.number) ≡ Some c.in_ok-name.name =
    sym (c.name.ensures ∙ (λ j. last_name (path_at (same j) c.args.number))) ∙ (ap (option_map (λ name. name.now)) c.unwrap.ensures ∙ ap (λ (n : PathName). Some n) (sym c.in_ok-name.ensures)) in
    let taken = c.in_ok-with_child.ensures in
    record {
      builder = taken.1;
      entries = left-child stack is c.args.number c.requires.inside (builder_entries c.args.self.builder) (builder_entries c.in_ok-with_child.field-0) c.go_to.new.self.path c.in_ok-name.name c.in_ok-inode.inode
          c.requires.stays c.requires.left.entries parent named at taken.0;
      count = omega (arith, c.requires.left.count, one_more (builder_entries c.args.self.builder) (stated_pair (child_path c.go_to.new.self.path c.in_ok-name.name, c.in_ok-inode.inode)) (builder_entries c.in_ok-with_child.field-0) taken.0);
      above = subst (λ (l : Entries). IsDirectoryAbove l c.go_to.new.self) same c.in_ok-go_to.ensures.path;
    }
