use Rattle.std.proofs.Common.{◌≡◌, ◌∙◌, [], Ok, true, sym, ap, take}
use Rattle.ovl_names.specs.Paths.{PathNames, child_path, parent_path}
use Rattle.ovl_names.proofs.Ascending.{both}
use Rattle.ovl_inode.specs.Sound.{is_sound_inode}
use Rattle.ovl_layer.specs.Layers.{Entries, is_directory_at, is_within_limits}
use Rattle.ovl_layer.specs.LayerBuilders.{builder_entries}
use Rattle.ovl_layer.proofs.SheetLemmas.{parent_path-child}
use Rattle.ovl_layer.proofs.EntryLemmas.{entry-taken}
use Rattle.ovl_layer.proofs.layer_builders.LayerBuilder.with_child_on_way.Goals as goal

pub enter_child-requires-clause-entry : goal.enter_child-requires-clause-entry
enter_child-requires-clause-entry c =
    let above : PathNames = take c.args.depth c.args.self.last in
    let parts = both {a = is_within_limits (child_path above c.args.name)} {b = is_sound_inode c.args.inode} c.requires.stated in
    record {
      after = sym c.comes_before_child.ensures ∙ c.if-not-comes_before_child.false;
      parent = ap (is_directory_at (builder_entries c.args.self)) (parent_path-child above c.args.name) ∙ (sym c.is_directory_above.ensures ∙ c.if-not-is_directory_above.false);
      sound = parts.1;
      unescaped = sym c.has_escaped_name.ensures ∙ c.if-has_escaped_name.false;
      limited = parts.0;
      room = rw c.requires.number at c.requires.room;
    }

pub returns : goal.returns
returns c =
    let above : PathNames = take c.args.depth c.args.self.last in
    let parent : is_directory_at (builder_entries c.args.self) (parent_path (child_path above c.args.name)) ≡ true =
    ap (is_directory_at (builder_entries c.args.self)) (parent_path-child above c.args.name) ∙ (sym c.is_directory_above.ensures ∙ c.if-not-is_directory_above.false) in (
      entry-taken ([], c.args.self.inode) _ (child_path above c.args.name, c.args.inode)
          (sym c.has_escaped_name.ensures ∙ c.if-has_escaped_name.false) (sym c.comes_before_child.ensures ∙ c.if-not-comes_before_child.false) parent
          ∙ ap (λ (entries : Entries). Ok entries) (sym c.in_ok-enter_child.ensures.entries),
      c.in_ok-enter_child.ensures.builder,
    )
