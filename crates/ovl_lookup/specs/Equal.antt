-- When two looks are the same.
use Rattle.std.specs.Prelude.{Bool, true, false}
use Rattle.ovl_inode.specs.Equal.{inode_eq}
use Rattle.ovl_lookup.specs.declared.looks.Look.{Look}
use Rattle.ovl_lookup.specs.declared.looks.Look.TheVariants.{Nothing, Shown, Broken}

-- the same is shown; what is broken is not what is shown in full
abbrev pub look_eq : Look → Look → Bool
look_eq Nothing Nothing = true
look_eq (Shown one) (Shown other) = inode_eq one other
look_eq (Broken one) (Broken other) = inode_eq one other
look_eq _ _ = false
