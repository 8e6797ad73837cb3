-- Paths in parts that others hold.
use Rattle.std.specs.Prelude.{Bool, List, reverse}
use Rattle.std.specs.List.{flat_map}
use Rattle.std.specs.declared.cmp.Ordering.{Ordering}
use Rattle.ovl_names.specs.Paths.{PathNames, path_cmp, path_eq}

-- the names of a path in parts
abbrev pub names_of_parts : List PathNames → PathNames
names_of_parts parts = flat_map (λ part. part) parts

-- ropes are ordered by their names from the last one on, since those below one redirect begin with
-- all its names
abbrev pub rope_cmp : PathNames → PathNames → Ordering
rope_cmp one other = path_cmp (reverse one) (reverse other)

abbrev pub rope_eq : PathNames → PathNames → Bool
rope_eq one other = path_eq (reverse one) (reverse other)
