-- What the outcome of a parse says of the line.
use Rattle.std.proofs.Common.{◌≡◌, ◌∙◌, ◌==◌, ℕ, true, refl, sym, ap, inl, inr, List, [], slice_index, Option, Some, None}
use Rattle.std.specs.Prelude.{if◌then◌else◌, option_map}
use Rattle.clap.specs.Kinds.{HasKind, Kinds}
use Rattle.clap.specs.Faults.{fault_of, is_simple_and_free}
use Rattle.clap.specs.Matches.{subcommand_name_of}
use Rattle.clap.specs.Simple.{App, HasMatchesOf, is_simple, subcommand_of, subcommand_rows_of}
use Rattle.clap.specs.Values.{kind_of}
use Rattle.clap.specs.Walk.{Row, Text}
use Rattle.clap.specs.declared.error.Error.{Error}
use Rattle.clap.specs.declared.parser.matches.ArgMatches.{ArgMatches}
use Rattle.clap.proofs.OnLiterals.{clap_on_literals}
use Rattle.ovl_command_line.specs.Commands.{tool_app}
use Rattle.ovl_command_line.specs.Lines.{IsFaultBy, IsFaultOfKind, IsGiven, name_of}
use Rattle.ovl_commands.specs.declared.requests.Command.{Command}
use Rattle.ovl_commands.specs.declared.requests.Command.TheVariants.{Show, Fsck, Vacuum, Deref, Merge, Flatten}
use Rattle.ovl_command_line.specs.declared.options.LineFault.{LineFault}
use Rattle.ovl_command_line.specs.declared.options.LineFault.TheVariants.{Help, Usage, Memory}
use Rattle.ovl_command_line.proofs.Accepted.{accepted}

-- all that clap says of simple commands, it says of this one
pub tool_is_simple : is_simple tool_app ≡ true
unfolding clap_on_literals
tool_is_simple = refl

pub tool_is_free : is_simple_and_free tool_app ≡ true
unfolding clap_on_literals
tool_is_free = refl

pub fault_by : (kinds : Kinds) (error : Error) (fault : LineFault) → HasKind kinds error → IsFaultOfKind (kind_of error) fault → IsFaultBy kinds fault
fault_by kinds error (Help text) (inl memory) (inl help) = cc
fault_by kinds error (Help text) (inl memory) (inr version) = cc
fault_by kinds error (Help text) (inr among) is = (kind_of error, (is, among))
fault_by kinds error (Usage text) (inl memory) is = absurd (is.1 memory)
fault_by kinds error (Usage text) (inr among) is = (kind_of error, (is.0, among))
fault_by kinds error Memory has is = tt

-- the command whose name has this second letter
abbrev by_letter : ℕ → Command
by_letter letter = if letter == 104 then Show else if letter == 97 then Vacuum else if letter == 101 then Deref else if letter == 108 then Flatten else Fsck

-- the command whose name begins with these letters
abbrev by_letters : ℕ → ℕ → Command
by_letters first second = if first == 109 then Merge else by_letter second

by_its_letters : (what : Command) → by_letters (slice_index (name_of what) 0) (slice_index (name_of what) 1) ≡ what
by_its_letters Show = refl
by_its_letters Fsck = refl
by_its_letters Vacuum = refl
by_its_letters Deref = refl
by_its_letters Merge = refl
by_its_letters Flatten = refl

-- two commands of one name are one
pub same_name : (a b : Command) → name_of a ≡ name_of b → a ≡ b
same_name a b same = sym (by_its_letters a) ∙ ap (λ (name : Text). by_letters (slice_index name 0) (slice_index name 1)) same ∙ by_its_letters b

first_mapped : {B : Type 0} (f : B → Text × List Row) (o : Option B) (name : Text) (rows : List Row) → option_map f o ≡ Some (name, rows) → option_map (λ b. (f b).0) o ≡ Some name
first_mapped f None name rows e = cc
first_mapped f (Some b) name rows e = ap (option_map (λ (p : Text × List Row). p.0)) e

-- the command that words name, with the values that its options have
pub record IsMet (words : List Text) (name : Text) (rows : List Row) : Type 0 where
  pub what : Command
  pub taken : fault_of tool_app words ≡ []
  pub named : name ≡ name_of what
  pub entered : subcommand_of tool_app words ≡ Some (name_of what, rows)
  pub given : IsGiven what rows

-- what a parse gives is the command that the words name
pub command_met : (app : App) (words : List Text) (m : ArgMatches) (name : Text) (rows : List Row) → app ≡ tool_app
    → (is_simple_and_free app ≡ true → fault_of app words ≡ []) → HasMatchesOf app words m
    → Some name ≡ subcommand_name_of m → Some rows ≡ option_map (λ p. p.1) (subcommand_rows_of m) → IsMet words name rows
command_met app words m name rows is free matches names shows =
    let taken : fault_of tool_app words ≡ [] = ap (λ (a : App). fault_of a words) (sym is) ∙ free (ap is_simple_and_free is ∙ tool_is_free) in
    let command = accepted words taken in
    let entered : subcommand_of tool_app words ≡ Some (name_of command.0, command.1) = command.2 in
    let found : subcommand_rows_of m ≡ Some (name_of command.0, command.1) =
    (matches (ap is_simple is ∙ tool_is_simple)).1 ∙ ap (λ (a : App). subcommand_of a words) is ∙ entered in
    let its_name : Some name ≡ Some (name_of command.0) = names ∙ first_mapped _ _ (name_of command.0) command.1 found in
    let its_rows : Some rows ≡ Some command.1 = shows ∙ ap (option_map (λ (p : Text × List Row). p.1)) found in
    let same : rows ≡ command.1 = cc in
    record {
      what = command.0;
      taken = taken;
      named = cc;
      entered = rw same entered;
      given = rw same command.3;
    }
