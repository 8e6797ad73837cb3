-- What a task is.
use Rattle.std.specs.Prelude.{ℕ, Option, Some, None}
use Rattle.ovl_commands.specs.declared.requests.Command.{Command}
use Rattle.ovl_commands.specs.declared.requests.Command.TheVariants.{Merge}
use Rattle.ovl_engine.specs.declared.tasks.Task.{Task}
use Rattle.ovl_engine.specs.declared.tasks.Task.TheVariants.{Once, MergeDown}

-- the command of a task
abbrev pub command_of : Task → Command
command_of (Once command) = command
command_of (MergeDown left) = Merge

-- how many layers its merges are to leave, if that is asked
abbrev pub left_of : Task → Option ℕ
left_of (Once command) = None
left_of (MergeDown left) = Some left
