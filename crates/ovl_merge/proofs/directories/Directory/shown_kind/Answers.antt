use Rattle.std.proofs.Common.{sym, ap}
use Rattle.ovl_lookup.specs.ShownKinds.{shown_kind_of}
use Rattle.ovl_merge.specs.Places.{merge_of}
use Rattle.ovl_merge.proofs.FinishLemmas.{merge-each}
use Rattle.ovl_merge.proofs.LayerLemmas.{rest}
use Rattle.ovl_merge.proofs.BaseLemmas.{none-reached, unreached-look}
use Rattle.ovl_merge.proofs.directories.Directory.shown_kind.Goals as goal

pub returns-in-Apart : goal.returns-in-Apart
returns-in-Apart c =
    let stack = c.args.stack.now in
    let each = rest (merge_of stack) (merge-each stack c.requires.several c.ordinary-layers.ensures.each) in
    sym (ap shown_kind_of (unreached-look stack each c.args.self.now.path c.args.self.now.base c.requires.base (none-reached stack c.args.self.now.path c.args.self.now.base c.requires.base c.in-Apart.is) c.args.name.now))
