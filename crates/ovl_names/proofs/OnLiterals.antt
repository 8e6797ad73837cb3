-- What a row unfolds to compute names, paths and what reports show of them on literals.
use Rattle.std.specs.Prelude.{⊤}
use Rattle.std.specs.Str.{is_utf8, chars}
use Rattle.hex.specs.Hex.{encode_with}
use lib.Utf8.{encode}

unfoldable pub names_on_literals : ⊤
unfolding is_utf8 chars encode encode_with
names_on_literals = tt
