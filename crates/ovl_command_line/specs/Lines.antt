-- What the words of a command line ask for.
use Rattle.std.specs.Prelude.{◌≡◌, ◌≢◌, ◌⊎◌, ◌-◌, ◌<◌, ◌≤◌, ⊤, ℕ, Bool, true, false, List, [], map, Some, Result, Ok, Err, codes, is_some, length, option_map, string_bytes, IfSome}
use Rattle.std.specs.Option.{option_map_or}
use Rattle.std.specs.Str.{bytes_eq}
use Rattle.std.specs.Str.Parse.{digits_value, without_leading_plus}
use Rattle.clap.specs.Walk.{Row, Text, all_of, first_of, one_of}
use Rattle.clap.specs.Simple.{subcommand_of}
use Rattle.clap.specs.Values.{IsUnsignedIn}
use Rattle.clap.specs.Kinds.{IsAmong, Kinds}
use Rattle.clap.specs.Faults.{fault_of}
use Rattle.clap.specs.declared.error.kind.ErrorKind.{ErrorKind}
use Rattle.clap.specs.declared.error.kind.ErrorKind.TheVariants.{DisplayHelp, DisplayVersion, OutOfMemory}
use Rattle.ovl_lookup.specs.Stacks.{layer_limit}
use Rattle.ovl_board.specs.Machine.{worker_limit}
use Rattle.ovl_command_line.specs.Commands.{tool_app}
use Rattle.ovl_commands.specs.declared.requests.Command.{Command}
use Rattle.ovl_commands.specs.declared.requests.Command.TheVariants.{Show, Fsck, Vacuum, Deref, Merge, Flatten}
use Rattle.ovl_commands.specs.Commands.{checks, makes_layers}
use Rattle.ovl_command_line.specs.declared.options.Line.{Line}
use Rattle.ovl_command_line.specs.declared.options.LineFault.{LineFault}
use Rattle.ovl_command_line.specs.declared.options.LineFault.TheVariants.{Help, Usage, Memory}

-- the command's name on the command line
abbrev pub name_of : Command → Text
name_of Show = codes "show"
name_of Fsck = codes "fsck"
name_of Vacuum = codes "vacuum"
name_of Deref = codes "deref"
name_of Merge = codes "merge"
name_of Flatten = codes "flatten"

-- the name is a command's
abbrev pub NamesCommand : Text → Type 0
NamesCommand name = (what : Command) × (name ≡ name_of what)

-- this many layers can be left by a command's merges
abbrev pub IsLeft : Command → ℕ → Type 0
IsLeft what left = (what ≡ Merge) × ((0 < left) × (left < layer_limit))

-- what every line keeps to: a stack has a layer that isn't data-only, the contents of files are
-- read for what is checked, and new layers need a folder with a name
pub record IsSound (line : Line) : Type 0 where
  pub some_worker : 1 ≤ line.workers
  pub few_workers : line.workers ≤ worker_limit
  pub few_data_layers : line.data_layers < layer_limit
  pub some_layer : 0 < length line.layers.items
  pub blobs : is_some line.blobs ≡ checks line.what
  pub out : is_some line.out ≡ makes_layers line.what
  pub out_named : IfSome line.out (λ folder. 0 < length (string_bytes folder))
  pub any_size : line.any_size ≡ true → checks line.what ≡ true
  pub down_to : IfSome line.down_to (λ left. IsLeft line.what left)

-- the number that a text spells in decimal digits
abbrev pub number_in : Text → ℕ
number_in text = digits_value 10 (without_leading_plus text)

-- an option has one value, which spells a number within these bounds
abbrev pub HasNumber : Text → ℕ → ℕ → List Row → Type 0
HasNumber id low high rows =
    (text : Text) × (one_of id rows ≡ Some text) × IsUnsignedIn low high text

-- a flag is there
abbrev pub has_flag : Text → List Row → Bool
has_flag id rows = option_map_or (λ text. bytes_eq text (codes "true")) (one_of id rows) false

-- the value of a flag spells whether it is there
abbrev pub IsFlag : Text → List Row → Type 0
IsFlag id rows = IfSome (one_of id rows) (λ text. (text ≡ codes "true") ⊎ (text ≡ codes "false"))

-- the values of the options make a line of the command
pub record IsGiven (what : Command) (rows : List Row) : Type 0 where
  pub workers : HasNumber (codes "workers") 1 worker_limit rows
  pub data_layers : HasNumber (codes "data-layers") 0 (layer_limit - 1) rows
  pub blobs : is_some (first_of (codes "blobs") rows) ≡ checks what
  pub out : is_some (first_of (codes "out") rows) ≡ makes_layers what
  pub out_named : IfSome (first_of (codes "out") rows) (λ folder. 0 < length folder)
  pub is_flag : IsFlag (codes "any-size") rows
  pub any_size : has_flag (codes "any-size") rows ≡ true → checks what ≡ true
  pub down_to : IfSome (one_of (codes "down-to") rows)
      (λ text. (what ≡ Merge) × IsUnsignedIn 1 (layer_limit - 1) text)
  pub layers : (files : List Text) × (all_of (codes "layers") rows ≡ Some files)
      × (0 < length files)

-- the line is a command with the values that its options have
pub record HasValues (line : Line) (rows : List Row) : Type 0 where
  pub workers : option_map number_in (one_of (codes "workers") rows) ≡ Some line.workers
  pub data_layers : option_map number_in (one_of (codes "data-layers") rows) ≡ Some line.data_layers
  pub blobs : option_map string_bytes line.blobs ≡ first_of (codes "blobs") rows
  pub out : option_map string_bytes line.out ≡ first_of (codes "out") rows
  pub any_size : line.any_size ≡ has_flag (codes "any-size") rows
  pub down_to : line.down_to ≡ option_map number_in (one_of (codes "down-to") rows)
  pub layers : all_of (codes "layers") rows ≡ Some (map string_bytes line.layers.items)

-- the words name the line's command, with the line's values for its options
abbrev pub IsLineOf : List Text → Line → Type 0
IsLineOf words line =
    (rows : List Row) × (subcommand_of tool_app words ≡ Some (name_of line.what, rows))
    × HasValues line rows

-- what is asked for by this kind of error is a text: help, or the version
abbrev pub AsksForText : ErrorKind → Type 0
AsksForText kind = (kind ≡ DisplayHelp) ⊎ (kind ≡ DisplayVersion)

-- the words give the text that they ask for, and else a usage fault; out of memory may come at any
-- time
abbrev pub IsFaultBy : Kinds → LineFault → Type 0
IsFaultBy kinds (Help text) = (kind : ErrorKind) × (AsksForText kind × IsAmong kind kinds)
IsFaultBy kinds (Usage text) = (kind : ErrorKind) × ((¬ AsksForText kind) × IsAmong kind kinds)
IsFaultBy kinds Memory = ⊤

-- the fault of an error of this kind
abbrev pub IsFaultOfKind : ErrorKind → LineFault → Type 0
IsFaultOfKind kind (Help text) = AsksForText kind
IsFaultOfKind kind (Usage text) = (¬ AsksForText kind) × (kind ≢ OutOfMemory)
IsFaultOfKind kind Memory = ⊤

-- what comes of words: a line only if nothing refuses them, and a fault by what does
abbrev pub IsRead : List Text → Result Line LineFault → Type 0
IsRead words (Ok line) = (fault_of tool_app words ≡ []) × IsLineOf words line
IsRead words (Err fault) = IsFaultBy (fault_of tool_app words) fault
