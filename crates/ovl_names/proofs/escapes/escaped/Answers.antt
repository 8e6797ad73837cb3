use Rattle.std.proofs.Common.{◌≡◌, ℕ, ◌<◌, ◌+◌, ◌++◌, ◌∷◌, ◌∙◌, [], List, length, take, get_or, sym, ap, append-nil, arith}
use Rattle.std.proofs.lemmas.Bool.Decides.{nat_tests}
use Rattle.std.proofs.lemmas.Grind.{flat_map-append}
use Rattle.std.proofs.lemmas.List.{take_more}
use Rattle.ovl_names.specs.Escapes.{escaped as escaped_text, escaped_byte}
use Rattle.ovl_names.proofs.escapes.escaped.Goals as goal

pub loop-byte-preserved : goal.loop-byte-preserved
loop-byte-preserved c =
    let bytes : List ℕ = c.as_bytes-bytes.result.now in
    let i : ℕ = c.loop-byte.byte-index in
    let inside : i < length bytes = grind (arith, nat_tests, c.loop-byte-test.true) in
    let more : escaped_text (take (i + 1) bytes) ≡ escaped_text (take i bytes) ++ escaped_byte (get_or bytes i 0) =
    ap escaped_text (take_more bytes i 0 inside)
    ∙ (flat_map-append escaped_byte (take i bytes) (get_or bytes i 0 ∷ [])
    ∙ ap (λ own. escaped_text (take i bytes) ++ own) (append-nil (escaped_byte (get_or bytes i 0)))) in
    c.in_ok-push_byte.ensures
    ∙ (ap (λ written. written ++ escaped_byte (get_or bytes i 0)) c.loop-byte.invariant ∙ sym more)
