use Rattle.std.proofs.Common.{vec_len, ◌+◌, ◌*◌}
use Rattle.ovl_engine.proofs.stacks.+shares.Given as goal

abbrev pub decreases-read_layers : goal.decreases-read_layers
decreases-read_layers g l = 2 * vec_len l.manifests

abbrev pub decreases-back : goal.decreases-back
decreases-back g l = 2 * vec_len l.rest + 1
