use Rattle.std.proofs.Common.{◌≡◌, take, string_bytes}
use Rattle.ovl_names.specs.Escapes.{escaped as escaped_text}
use Rattle.ovl_names.proofs.escapes.escaped.Given as goal

abbrev pub invariant-loop-byte : goal.invariant-loop-byte
invariant-loop-byte l = string_bytes l.written ≡ escaped_text (take l.byte-index l.bytes)
