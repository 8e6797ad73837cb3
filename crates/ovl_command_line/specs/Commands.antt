-- The words that the command line takes: each command, with its options and what they take.
use Rattle.std.specs.Prelude.{◌≡◌, ℕ, ◌-◌, true, false, List, [], ◌∷◌, ◌++◌, Some, codes}
use Rattle.clap.specs.Lexer.{usize_max}
use Rattle.clap.specs.Words.{App, Rule, Shape, new_rule, rule_of, shape_of}
use Rattle.clap.specs.Simple.{new_shape}
use Rattle.clap.specs.declared.builder.action.ArgAction.TheVariants.{Append, SetTrue}
use Rattle.clap.specs.declared.builder.arg.Arg.{Arg}
use Rattle.clap.specs.declared.builder.command.Command.{Command}
use Rattle.clap.specs.declared.builder.command.Command.TheViews.{out-Command as fields_of}
use Rattle.clap.specs.declared.builder.value_parser.ValueParser.TheVariants.{NonEmptyString, Unsigned}
use Rattle.ovl_lookup.specs.Stacks.{layer_limit}
use Rattle.ovl_board.specs.Machine.{worker_limit}

-- the number of workers where no other is asked for, and the word that spells it
abbrev pub default_workers : ℕ
default_workers = 4

abbrev pub default_word : List ℕ
default_word = codes "4"

-- `--workers N`, a whole number of 1 to the most workers, and the default where it is left out
abbrev pub workers_rule : Rule
workers_rule = record (new_rule (codes "workers")) {
  long = Some (codes "workers");
  value_names = 1;
  parser = Some (Unsigned 1 worker_limit);
  defaults = default_word ∷ [];
}

-- `--data-layers K`, a whole number that leaves one of the most layers, and none where it is left
-- out
abbrev pub data_layers_rule : Rule
data_layers_rule = record (new_rule (codes "data-layers")) {
  long = Some (codes "data-layers");
  value_names = 1;
  parser = Some (Unsigned 0 (layer_limit - 1));
  defaults = codes "0" ∷ [];
}

-- `--blobs DIR`, which must be there
abbrev pub blobs_rule : Rule
blobs_rule = record (new_rule (codes "blobs")) {
  long = Some (codes "blobs");
  value_names = 1;
  required = true;
}

-- `--any-size`, which may be left out
abbrev pub any_size_rule : Rule
any_size_rule = record (new_rule (codes "any-size")) {
  long = Some (codes "any-size");
  action = Some SetTrue;
}

-- `--out DIR`, which must be there and have a name: the empty one would be the root of the file
-- system
abbrev pub out_rule : Rule
out_rule = record (new_rule (codes "out")) {
  long = Some (codes "out");
  value_names = 1;
  parser = Some NonEmptyString;
  required = true;
}

-- `--down-to N`, a whole number that is less than the most layers, which may be left out
abbrev pub down_to_rule : Rule
down_to_rule = record (new_rule (codes "down-to")) {
  long = Some (codes "down-to");
  value_names = 1;
  parser = Some (Unsigned 1 (layer_limit - 1));
}

-- one layer or more
abbrev pub layers_rule : Rule
layers_rule = record (new_rule (codes "layers")) {
  action = Some Append;
  range = Some (record { start_inclusive = 1; end_inclusive = usize_max });
  value_names = 1;
  required = true;
}

-- a command of this shape, or an argument of this rule, that hands nothing on to other commands
abbrev pub HasShape : Shape → Command → Type 0
HasShape shape command =
    (shape_of command ≡ shape) × ((fields_of command).has_globals ≡ false)

abbrev pub HasRule : Rule → Arg → Type 0
HasRule rule arg = (rule_of arg ≡ rule) × (arg.global ≡ false)

-- the same command with what all take at the end
abbrev pub layers_shape : Shape → Shape
layers_shape shape = record shape {
  rules = shape.rules ++ workers_rule ∷ data_layers_rule ∷ layers_rule ∷ [];
}

abbrev pub show_shape : Shape
show_shape = record
    (new_shape (codes "show")) { rules = workers_rule ∷ data_layers_rule ∷ layers_rule ∷ [] }

abbrev pub fsck_shape : Shape
fsck_shape = record
    (new_shape (codes "fsck")) {
      rules = blobs_rule ∷ any_size_rule ∷ workers_rule
          ∷ data_layers_rule ∷ layers_rule ∷ [];
    }

-- a command that checks, with the options for its blobs
abbrev pub blobs_shape : List ℕ → Shape
blobs_shape name = record (new_shape name) { rules = blobs_rule ∷ any_size_rule ∷ [] }

-- a command that makes new layers, with the options for its blobs and its new layers, and with all
abbrev pub folders_shape : List ℕ → Shape
folders_shape name = record (new_shape name) { rules = blobs_rule ∷ any_size_rule ∷ out_rule ∷ [] }

abbrev pub rewriting_shape : List ℕ → Shape
rewriting_shape name = record
    (new_shape name) {
      rules = blobs_rule ∷ any_size_rule ∷ out_rule ∷ workers_rule
          ∷ data_layers_rule ∷ layers_rule ∷ [];
    }

-- merge, which has one more
abbrev pub merge_shape : Shape
merge_shape = record
    (new_shape (codes "merge")) {
      rules = blobs_rule ∷ any_size_rule ∷ out_rule ∷ down_to_rule
          ∷ workers_rule ∷ data_layers_rule ∷ layers_rule ∷ [];
    }

-- the program's own level, without its commands
abbrev pub bare_app : App
bare_app = record {
  top = record (new_shape (codes "ovl_layers")) {
    has_version = true;
    no_binary_name = true;
    disable_help_subcommand = true;
    subcommand_required = true;
  };
  subs = [];
}

-- the words after the program's name, of which the first names a command, or asks for help or the
-- version
abbrev pub tool_app : App
tool_app = record {
  top = record (new_shape (codes "ovl_layers")) {
    is_leaf = false;
    has_version = true;
    no_binary_name = true;
    disable_help_subcommand = true;
    subcommand_required = true;
  };
  subs =
      show_shape ∷ fsck_shape ∷ rewriting_shape (codes "vacuum") ∷ rewriting_shape (codes "deref")
      ∷ merge_shape ∷ rewriting_shape (codes "flatten") ∷ [];
}
