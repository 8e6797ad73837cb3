-- Bytes that lanes make of hexadecimal digits, and digits of bytes.
use Rattle.std.specs.Prelude.{ℕ, ◌+◌, ◌*◌, ◌%◌, cond, nat_le, List, [], ◌∷◌}
use Rattle.std.specs.List.{range_with_len}
use Rattle.std.specs.Simd.Lanes.{pick_l}

-- what a lane makes of a digit
abbrev pub lane_value : ℕ → ℕ
lane_value c = cond (nat_le c 57) ((c + 208) % 256) ((c + 169) % 256)

-- what two lanes make of two digits
abbrev pub pair_byte : ℕ → ℕ → ℕ
pair_byte high low = (((lane_value high * 16) % 256) + lane_value low) % 256

-- the bytes of digits, two a byte
abbrev pub spell : List ℕ → List ℕ
spell [] = []
spell (digit ∷ []) = []
spell (high ∷ low ∷ rest) = pair_byte high low ∷ spell rest

-- the sixteen bytes of 32 digits
abbrev pub block_bytes : List ℕ → List ℕ
block_bytes text = spell (pick_l 0 text (range_with_len 0 32))

-- what a lane makes of a number below 16
abbrev pub lane_digit : ℕ → ℕ
lane_digit value = (value + cond (nat_le value 9) 48 87) % 256
