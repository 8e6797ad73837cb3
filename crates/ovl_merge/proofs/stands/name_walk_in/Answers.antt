use Rattle.ovl_merge.proofs.stands.name_walk_in.Goals as goal

pub returns : goal.returns
returns c path next is = c.name_walk_at.ensures path (c.row_in.ensures.row path next is) c.args.directory next is
