use Rattle.std.proofs.Common.{◌≡◌, ◌∙◌, ◌++◌, ◌∷◌, [], List, true, false, sym, ap, subst, arith}
use Rattle.ovl_names.specs.Names.{PathName, is_name}
use Rattle.ovl_names.specs.Order.{ascends}
use Rattle.ovl_inode.specs.declared.inodes.Inode.{Inode}
use Rattle.ovl_layer.specs.Layers.{Entries}
use Rattle.ovl_layer.specs.LayerTrees.{NodeView, node_cmp, under, entries_from, entries_of_nodes}
use Rattle.ovl_layer.specs.SubtreeBuilder.{AreBelow, IsExtent, Fits}
use Rattle.ovl_layer.proofs.NodeLemmas.{entries_of_nodes-push}
use Rattle.ovl_layer.proofs.SubtreeBuilderLemmas.{below-more, nodes-more, takes_entry, takes-parts, stand-takes, stand-fits}
use Rattle.ovl_layer.proofs.subtree_builders.SubtreeBuilder.add.Goals as goal
use Rattle.ovl_layer.proofs.subtree_builders.SubtreeBuilder.add.Goals.{then-not-fits-via-then-not-fits, then-not-fits-via-else-not-fits+then-not-takes}

pub returns-then-not-fits-clause-refused : goal.returns-then-not-fits-clause-refused
returns-then-not-fits-clause-refused c out can =
    let old : Entries = c.args.self.now in
    let kids : Entries = c.args.below in
    let name : PathName = c.args.name in
    let inode : Inode = c.args.inode in
    elim c.then-not-fits.branch [
      | then-not-fits-via-then-not-fits w ↦
          let raw = c.with-extent.ensures (entries_of_nodes c.self.inside.nodes.items) (entries_of_nodes c.below.inside.nodes.items) inode c.self.invariant.2 c.below.invariant.2 in
          let is : IsExtent (old ++ under name (entries_from inode kids)) c.with-extent.result =
          subst (λ (both : Entries × Entries). IsExtent (both.0 ++ under name (entries_from inode both.1)) c.with-extent.result) (λ j. (c.self.view_is j, c.below.view_is j)) raw in
          let bad : false ≡ true = sym w.if-not-fits.true ∙ c.fits.ensures.1 (stand-fits (old ++ under name (entries_from inode kids)) c.with-extent.result is can) in cc
      | then-not-fits-via-else-not-fits+then-not-takes w ↦
          let bad : false ≡ true = sym w.if-not-takes.true ∙ (w.takes.ensures ∙ stand-takes old kids name inode can) in cc
    ]

pub invariant_of-self-2 : goal.invariant_of-self-2
invariant_of-self-2 c =
    let nodes : List NodeView = c.self.inside.nodes.items in
    let old : Entries = entries_of_nodes nodes in
    let kids : Entries = entries_of_nodes c.below.inside.nodes.items in
    let name : PathName = c.args.name in
    let inode : Inode = c.args.inode in
    let node : NodeView = record { name = name; inode = inode; below = kids } in
    let more : Entries = old ++ under name (entries_from inode kids) in
    let named : is_name name ≡ true = subst (λ (n : PathName). is_name n ≡ true) c.name.view_is c.name.invariant in
    let is : IsExtent more c.with-extent.result = c.with-extent.ensures old kids inode c.self.invariant.2 c.below.invariant.2 in
    let fits : Fits c.with-extent.result = c.fits.ensures.0 c.if-not-fits.false in
    let takes = takes-parts old name inode (ap (λ (entries : Entries). takes_entry entries name inode) c.self.view_is ∙ (sym c.takes.ensures ∙ c.if-not-takes.false)) in
    let below : AreBelow more =
    below-more old kids name inode c.self.invariant.1 c.below.invariant.1 takes.0 named takes.1 takes.2
    (λ file. c.below.view_is ∙ c.requires file) (omega (arith, is.count, fits.few)) (omega (arith, is.names, fits.shallow)) (omega (arith, is.bytes, fits.short)) in
    let own : c.push.new.self.items ≡ nodes ++ node ∷ [] = c.in_ok-push.ensures.items in
    let pushed : more ≡ entries_of_nodes c.push.new.self.items =
    sym (entries_of_nodes-push nodes node) ∙ ap entries_of_nodes (sym own) in (
      subst (λ (ns : List NodeView). ascends node_cmp ns ≡ true) (sym own) (nodes-more nodes node c.self.invariant.0 takes.0),
      subst AreBelow pushed below,
      subst (λ (entries : Entries). IsExtent entries c.with-extent.result) pushed is,
      fits,
    )

pub returns-clause-entries : goal.returns-clause-entries
returns-clause-entries c =
    let nodes : List NodeView = c.self.inside.nodes.items in
    let node : NodeView = record { name = c.args.name; inode = c.args.inode; below = entries_of_nodes c.below.inside.nodes.items } in
    let own : c.push.new.self.items ≡ nodes ++ node ∷ [] = c.in_ok-push.ensures.items in
    ap entries_of_nodes own
    ∙ (entries_of_nodes-push nodes node
    ∙ (λ j. c.self.view_is j ++ under c.args.name (entries_from c.args.inode (c.below.view_is j))))
