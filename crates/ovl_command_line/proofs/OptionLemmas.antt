-- What the getters of the matches read of the options of a command.
use Rattle.std.proofs.Common.{rules, ◌≡◌, ◌∙◌, ◌<◌, ◌≤◌, ◌⊎◌, inl, inr, ℕ, suc, Bool, true, false, codes, refl, sym, ap, arith, List, length, map, Option, Some, None, is_some}
use Rattle.std.specs.Global.{Global}
use Rattle.std.specs.Prelude.{IfSome, IsSome, Result, String, option_map, string_bytes}
use Rattle.std.specs.Option.{option_map_or}
use Rattle.std.specs.Str.{bytes_eq}
use Rattle.std.specs.declared.num.ParseIntError.{ParseIntError}
use Rattle.std.specs.Str.Parse.{ExplainsUnsignedError, HasUnsignedDigitsIfOk, ParsesUnsigned}
use Rattle.std.proofs.lemmas.List.{length-map}
use Rattle.clap.specs.Words.{ReadsOne, one_text}
use Rattle.clap.specs.Walk.{Text, one_of, rows_of}
use Rattle.clap.specs.declared.parser.matches.Found.{Found}
use Rattle.clap.proofs.WalkLemmas.{one_text-rows}
use Rattle.clap.specs.Values.{IsUnsignedIn}
use Rattle.ovl_commands.specs.declared.requests.Command.{Command}
use Rattle.ovl_commands.specs.declared.requests.Command.TheVariants.{Merge}
use Rattle.ovl_command_line.specs.Lines.{HasNumber, IsFlag, has_flag, number_in}
use Rattle.ovl_command_line.proofs.Numbers.{number_read}

-- what a text of digits gives
abbrev Reads : List ℕ → Result ℕ ParseIntError → Type 0
Reads text read = ParsesUnsigned 64 10 text read × ExplainsUnsignedError 10 text read × HasUnsignedDigitsIfOk text read

-- the number that an option has is read
pub option_read : (id : Text) (low high : ℕ) (f : Found) (read : Option ℕ) → HasNumber id low high (rows_of f)
    → ((text : List ℕ) → one_text f id ≡ Some text → ReadsOne Reads text read)
    → (n : ℕ) × (read ≡ Some n) × (option_map number_in (one_of id (rows_of f)) ≡ Some n) × (low ≤ n) × (n ≤ high)
option_read id low high f read given reads =
    let text = given.0 in
    let number = number_read ParseIntError Reads low high text read (reads text (one_text-rows f id ∙ given.1)) (λ t r g. g.0) given.2 in
    (number.0, number.1, ap (option_map number_in) given.1 ∙ ap Some (sym number.2), number.3, number.4)

-- the number that an option has that may be left out is read, too
pub option_if_read : (id : Text) (what : Command) (high : ℕ) (f : Found) (read : Option ℕ)
    → IfSome (one_of id (rows_of f)) (λ text. (what ≡ Merge) × IsUnsignedIn 1 high text)
    → (one_text f id ≡ None → read ≡ None)
    → ((text : List ℕ) → one_text f id ≡ Some text → ReadsOne Reads text read)
    → (read ≡ option_map number_in (one_of id (rows_of f))) × IfSome read (λ n. (what ≡ Merge) × ((0 < n) × (n < suc high)))
option_if_read id what high f read given none reads = go (one_of id (rows_of f)) refl given
  where
    go : (o : Option Text) → one_of id (rows_of f) ≡ o → IfSome o (λ text. (what ≡ Merge) × IsUnsignedIn 1 high text)
        → (read ≡ option_map number_in o) × IfSome read (λ n. (what ≡ Merge) × ((0 < n) × (n < suc high)))
    go None e is = let nothing : read ≡ None = none (one_text-rows f id ∙ e) in rw nothing (refl, tt)
    go (Some text) e is =
        let number = number_read ParseIntError Reads 1 high text read (reads text (one_text-rows f id ∙ e)) (λ t r g. g.0) is.1 in
        rw (number.1) (ap Some number.2, (is.0, (omega (arith, number.3), omega (arith, number.4))))

-- a flag that is there is read as such
pub flag_read : (id : Text) (f : Found) (read : Bool) → IsFlag id (rows_of f) → (one_text f id ≡ None → read ≡ false)
    → (one_text f id ≡ Some (codes "true") → read ≡ true) → (one_text f id ≡ Some (codes "false") → read ≡ false) → read ≡ has_flag id (rows_of f)
flag_read id f read is none set unset = go (one_of id (rows_of f)) refl is
  where
    go : (o : Option Text) → one_of id (rows_of f) ≡ o → IfSome o (λ text. (text ≡ codes "true") ⊎ (text ≡ codes "false")) → read ≡ option_map_or (λ text. bytes_eq text (codes "true")) o false
    go None e is = none (one_text-rows f id ∙ e)
    go (Some text) e (inl is) = set (one_text-rows f id ∙ e ∙ ap Some is) ∙ sym (ap (λ (t : Text). bytes_eq t (codes "true")) is)
    go (Some text) e (inr is) = unset (one_text-rows f id ∙ e ∙ ap Some is) ∙ sym (ap (λ (t : Text). bytes_eq t (codes "true")) is)

pub is_some-map : {X Y : Type 0} (f : X → Y) (o : Option X) → is_some o ≡ is_some (option_map f o)
is_some-map f None = refl
is_some-map f (Some x) = refl

pub some_mapped : {X Y : Type 0} (f : X → Y) (o : Option X) (y : Y) → option_map f o ≡ Some y → IsSome o
some_mapped f None y e = cc
some_mapped f (Some x) y e = search rules

-- as many texts as are copied, of which there is one
pub some_copied : {X Y : Type 0} (f : X → List ℕ) (g : Y → List ℕ) (xs : List X) (ys : List Y) (files : List (List ℕ)) → map f xs ≡ map g ys → Some (map g ys) ≡ Some files → 0 < length files → 0 < length xs
some_copied f g xs ys files same all some =
    let is : map f xs ≡ files = cc in
    omega (arith, length-map xs f, ap length is, some)

-- the copy of a text that isn't empty isn't either
pub named_copy : (copy : Option (String Global)) (text : Option (List ℕ)) → option_map string_bytes copy ≡ text → IfSome text (λ t. 0 < length t) → IfSome copy (λ c. 0 < length (string_bytes c))
named_copy None text same named = tt
named_copy (Some copy) (Some text) same named = let is : string_bytes copy ≡ text = cc in rw is named
named_copy (Some copy) None same named = cc
