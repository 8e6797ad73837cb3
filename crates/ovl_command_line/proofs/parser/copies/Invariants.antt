use Rattle.std.proofs.Common.{◌≡◌, map, take, string_bytes}
use Rattle.ovl_command_line.proofs.parser.copies.Given as goal

-- so far the copies are of the texts up to here
abbrev pub invariant-loop-text : goal.invariant-loop-text
invariant-loop-text l = map string_bytes l.copies.items ≡ map (λ text. text.now) (take l.text-index l.texts)
