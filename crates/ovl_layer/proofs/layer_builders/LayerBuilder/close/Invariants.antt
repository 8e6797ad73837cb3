use Rattle.std.proofs.Common.{◌≡◌, ◌≤◌, map, take, vec_len}
use Rattle.ovl_layer.specs.LayerBuilders.{builder_entries}
use Rattle.ovl_layer.proofs.layer_builders.LayerBuilder.close.Given as goal

abbrev pub invariant-loop-self : goal.invariant-loop-self
invariant-loop-self l = record {
  entries : builder_entries l.self ≡ builder_entries l.fn.self;
  spelled : map (λ node. node.name) l.self.open_dirs.items ≡ take (vec_len l.self.open_dirs) (map (λ node. node.name) l.fn.self.open_dirs.items);
  bound : l.depth ≤ vec_len l.self.open_dirs;
  last : l.self.last ≡ l.fn.self.last;
}

abbrev pub decreases-loop-self : goal.decreases-loop-self
decreases-loop-self l = vec_len l.self.open_dirs
