use Rattle.std.proofs.Common.{◌≡◌, ◌∙◌, ◌++◌, ◌∷◌, [], List, ℕ, true, sym, ap, subst, arith, take}
use Rattle.std.proofs.lemmas.List.{map-append}
use Rattle.ovl_names.specs.Names.{is_name}
use Rattle.ovl_names.specs.Paths.{PathNames, child_path}
use Rattle.ovl_names.proofs.NameLemmas.{has_names-child, has_names-take}
use Rattle.ovl_layer.specs.Layers.{Entries, IsLayer}
use Rattle.ovl_layer.specs.LayerTrees.{NodeView, entries_of_nodes}
use Rattle.ovl_layer.specs.LayerBuilders.{builder_entries}
use Rattle.ovl_layer.proofs.LayerLemmas.{IsLayer-more}
use Rattle.ovl_layer.proofs.LayerBuilderLemmas.{open_dirs_length, last_named, opened_builder, names_of}
use Rattle.ovl_layer.proofs.layer_builders.LayerBuilder.enter_child.Goals as goal

pub close-requires-clause-depth : goal.close-requires-clause-depth
close-requires-clause-depth c = omega (arith, c.requires.depth, open_dirs_length c.args.self.now c.requires.builder)

-- the new node is at the end of the list of open directories
pushed : (c : goal.In_ok-push) → c.push.new.self.items ≡ c.close.new.self.open_dirs.items ++ (record { name = c.args.name; inode = c.args.inode; below = [] }) ∷ []
pushed c = c.in_ok-push.ensures.items
    ∙ ap (λ (nodes : List NodeView). c.close.new.self.open_dirs.items ++ (record { name = c.args.name; inode = c.args.inode; below = entries_of_nodes nodes }) ∷ []) c.new.ensures.items

-- the list of open directories that is left, and the new name, spell the new path
spelled : (c : goal.In_ok-push) → child_path (names_of c.close.new.self.open_dirs.items) c.args.name ≡ child_path (take c.args.depth c.args.self.now.last) c.args.name
spelled c = ap (λ (above : PathNames). child_path above c.args.name) (c.in_ok-close.ensures.open_dirs ∙ ap (take c.args.depth) c.requires.builder.spelled)

-- which is the last path then
ended : (c : goal.In_ok-push) → c.go_to.new.self ≡ child_path (take c.args.depth c.args.self.now.last) c.args.name
ended c = c.in_ok-go_to.ensures.there ∙ ap (λ (last : PathNames). child_path (take c.args.depth last) c.args.name) c.in_ok-close.ensures.last

pub returns-clause-entries : goal.returns-clause-entries
returns-clause-entries c =
    opened_builder c.close.new.self.inode c.close.new.self.children.items c.close.new.self.open_dirs.items c.push.new.self.items c.args.name c.args.inode (child_path (take c.args.depth c.args.self.now.last) c.args.name) (pushed c) (spelled c)
    ∙ ap (λ (entries : Entries). entries ++ (child_path (take c.args.depth c.args.self.now.last) c.args.name, c.args.inode) ∷ []) c.in_ok-close.ensures.entries

pub returns-clause-builder : goal.returns-clause-builder
returns-clause-builder c =
    let e = returns-clause-entries c in
    let can = c.requires.entry in
    let above : PathNames = take c.args.depth c.args.self.now.last in
    let path : PathNames = child_path above c.args.name in
    let named : is_name c.args.name ≡ true = subst (λ (own : List ℕ). is_name own ≡ true) c.name.view_is c.name.invariant in
    record {
      layer = subst IsLayer (sym e)
          (IsLayer-more (builder_entries c.args.self.now) path c.args.inode c.requires.builder.layer can.after can.parent (has_names-child above c.args.name (has_names-take c.args.depth c.args.self.now.last (last_named c.args.self.now c.requires.builder)) named) can.sound can.unescaped can.limited can.room);
      spelled = ap names_of (pushed c)
          ∙ (map-append (λ (node : NodeView). node.name) c.close.new.self.open_dirs.items ((record { name = c.args.name; inode = c.args.inode; below = [] }) ∷ []) ∙ (spelled c ∙ sym (ended c)));
      ends = (builder_entries c.args.self.now, c.args.inode, e ∙ ap (λ (last : PathNames). builder_entries c.args.self.now ++ (last, c.args.inode) ∷ []) (sym (ended c)));
    }
