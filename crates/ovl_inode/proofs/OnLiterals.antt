-- What a row unfolds to compute marks, redirects and digests on literals.
use Rattle.std.specs.Prelude.{⊤}
use Rattle.std.specs.Str.{is_utf8, chars}
use Rattle.hex.specs.Hex.{decode_pairs, encode_with}
use lib.Utf8.{encode}

unfoldable pub inode_on_literals : ⊤
unfolding is_utf8 chars encode decode_pairs encode_with
inode_on_literals = tt
