-- What commands do.
use Rattle.std.specs.Prelude.{Bool, true, false}
use Rattle.ovl_commands.specs.declared.requests.Command.{Command}
use Rattle.ovl_commands.specs.declared.requests.Command.TheVariants.{Show, Fsck, Vacuum, Deref, Merge, Flatten}

-- the layers are checked with the contents of their files
abbrev pub checks : Command → Bool
checks Show = false
checks Fsck = true
checks Vacuum = true
checks Deref = true
checks Merge = true
checks Flatten = true

-- there are new layers
abbrev pub makes_layers : Command → Bool
makes_layers Show = false
makes_layers Fsck = false
makes_layers Vacuum = true
makes_layers Deref = true
makes_layers Merge = true
makes_layers Flatten = true

-- what is said of the stack with these is that it is sound, too
abbrev pub stays_sound : Command → Bool
stays_sound Show = false
stays_sound Fsck = false
stays_sound Vacuum = true
stays_sound Deref = true
stays_sound Merge = false
stays_sound Flatten = true

-- a layer is wanted under the topmost
abbrev pub wants_lower : Command → Bool
wants_lower Show = false
wants_lower Fsck = false
wants_lower Vacuum = false
wants_lower Deref = false
wants_lower Merge = true
wants_lower Flatten = false

-- the new layers stand for the whole stack, the data-only layers too
abbrev pub stands_alone : Command → Bool
stands_alone Show = false
stands_alone Fsck = false
stands_alone Vacuum = false
stands_alone Deref = false
stands_alone Merge = false
stands_alone Flatten = true
