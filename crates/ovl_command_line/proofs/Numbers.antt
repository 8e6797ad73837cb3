-- A number that a text spells, as it is read.
use Rattle.std.proofs.Common.{◌≡◌, ◌≤◌, ℕ, List, Option, Some, None, refl}
use Rattle.std.specs.Prelude.{Ok, Err, Result}
use Rattle.std.specs.Str.Parse.{ParsesUnsigned}
use Rattle.clap.specs.Words.{ReadsOne}
use Rattle.clap.specs.Values.{IsUnsignedIn}
use Rattle.ovl_command_line.specs.Lines.{number_in}

-- a text that spells a number within bounds is read as that number
pub number_read : (E : Type 0) (gives : List ℕ → Result ℕ E → Type 0) (low high : ℕ) (text : List ℕ) (read : Option ℕ)
    → ReadsOne gives text read → ((t : List ℕ) (r : Result ℕ E) → gives t r → ParsesUnsigned 64 10 t r) → IsUnsignedIn low high text
    → (n : ℕ) × (read ≡ Some n) × (n ≡ number_in text) × (low ≤ n) × (n ≤ high)
number_read E gives low high text (Some n) given parses within =
    let parsed = parses text (Ok n) given in
    (n, refl, parsed.1, rw parsed.1 within.2, rw parsed.1 within.3)
number_read E gives low high text None given parses within = absurd (parses text (Err given.0) given.1 (within.0, within.1))
