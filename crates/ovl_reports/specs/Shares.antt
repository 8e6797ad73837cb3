-- Texts of which several threads write a share each.
use Rattle.std.specs.Prelude.{◌≡◌, ℕ, Result, Ok, List, map}
use Rattle.std.specs.List.{flat_map}

-- each share has a text, and the whole is these texts one after another
pub record AreJoined {T E : Type 0} (bytes_of : T → List ℕ) (parts : List (Result T E))
    (whole : List ℕ) : Type 0 where
  pub texts : List T
  pub all : parts ≡ map Ok texts
  pub bytes : whole ≡ flat_map bytes_of texts

-- the fewest lines for which a thread is started
abbrev pub least_share : ℕ
least_share = 1024
