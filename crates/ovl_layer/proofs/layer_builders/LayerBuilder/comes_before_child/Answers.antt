use Rattle.std.proofs.Common.{◌≡◌, ◌<◌, ◌∙◌, sym, ap, length, take, arith}
use Rattle.std.specs.Ordering.{is_lt}
use Rattle.ovl_names.specs.Names.{name_cmp}
use Rattle.ovl_names.specs.Paths.{PathNames, path_cmp, child_path}
use Rattle.ovl_layer.specs.LayerTrees.{NodeView}
use Rattle.ovl_layer.proofs.LayerBuilderLemmas.{open_dirs_length, after-is_last, name-on_way}
use Rattle.ovl_layer.proofs.SheetBuilderLemmas.{child_after, child_after-end}
use Rattle.ovl_layer.proofs.layer_builders.LayerBuilder.comes_before_child.Goals as goal

pub returns-then-depth-len : goal.returns-then-depth-len
returns-then-depth-len c =
    let builder = c.args.self.now in
    let last : PathNames = builder.last in
    let all : c.args.depth ≡ length last = omega (arith, c.if-depth-len.true, c.len.ensures, open_dirs_length builder c.requires.builder) in
    sym (after-is_last builder c.requires.builder (child_path (take c.args.depth last) c.args.name.now)
    ∙ (ap (λ n. is_lt (path_cmp last (child_path (take n last) c.args.name.now))) all ∙ child_after-end last c.args.name.now))

pub returns : goal.returns
returns c =
    let builder = c.args.self.now in
    let last : PathNames = builder.last in
    let node : NodeView = c.index.result.now in
    let inside : c.args.depth < length last = omega (arith, c.requires.depth, c.if-depth-len.false, c.len.ensures, open_dirs_length builder c.requires.builder) in
    let own = ap (λ (n : NodeView). n.name) (c.behind-self.view_is ∙ c.index.ensures) ∙ name-on_way builder c.requires.builder c.args.depth node inside in
    c.is_lt.ensures
    ∙ (ap is_lt c.cmp.ensures
    ∙ ((λ j. is_lt (name_cmp (own j) c.args.name.now))
    ∙ (sym (child_after last c.args.depth c.args.name.now node.name inside)
    ∙ sym (after-is_last builder c.requires.builder (child_path (take c.args.depth last) c.args.name.now)))))
