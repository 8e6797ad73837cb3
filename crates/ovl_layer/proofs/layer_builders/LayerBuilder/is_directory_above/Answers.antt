use Rattle.std.proofs.Common.{◌∙◌, sym, ap, arith}
use Rattle.ovl_inode.specs.Marks.{is_directory}
use Rattle.ovl_layer.proofs.LayerBuilderLemmas.{open_dirs_length, directory-above}
use Rattle.ovl_layer.proofs.layer_builders.LayerBuilder.is_directory_above.Goals as goal

pub inode_on_way-requires : goal.inode_on_way-requires
inode_on_way-requires c = omega (arith, c.requires.depth, open_dirs_length c.args.self.now c.requires.builder)

pub returns : goal.returns
returns c =
    c.is_directory.ensures
    ∙ (ap is_directory c.inode_on_way.ensures
    ∙ sym (directory-above c.args.self.now c.requires.builder c.args.depth c.requires.depth))
