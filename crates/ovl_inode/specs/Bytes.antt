-- Numbers that are bytes, and the bytes of a digest.
use Rattle.std.specs.Prelude.{ℕ, Bool, ◌&&◌, ◌==◌, List, length, nat_lt}
use Rattle.std.specs.List.{list_all}

abbrev pub are_bytes : List ℕ → Bool
are_bytes numbers = list_all (λ number. nat_lt number 256) numbers

-- a SHA-256 digest has 32 bytes
abbrev pub is_digest : List ℕ → Bool
is_digest numbers = length numbers == 32 && are_bytes numbers
