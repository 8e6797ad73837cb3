use Rattle.ovl_layer.proofs.EntryLemmas.{stated_pair_statable}
use Rattle.ovl_layer.proofs.entries.start_root.Goals as goal

pub start_builder-requires : goal.start_builder-requires
start_builder-requires c = stated_pair_statable (c.root.result, c.args.root) c.stated.result c.stated.ensures
