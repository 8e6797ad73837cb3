use Rattle.std.proofs.Common.{◌∙◌, ℕ, sym, ap, Vec, Global}
use Rattle.sha2.specs.Sha256.{sha256}
use Rattle.ovl_engine.proofs.NamingLemmas.{all_firsts, next_there, next_new}
use Rattle.ovl_engine.proofs.blobs.first_of_each.Goals as goal
use Rattle.ovl_engine.proofs.blobs.first_of_each.Goals.{then-not-contains_key+in_ok-copied+in_ok-insert+in-Some-1, then-not-contains_key+in_ok-copied+in_ok-insert+in-None-1, else-not-contains_key}

pub returns : goal.returns
returns c = all_firsts (λ (value : Vec ℕ Global). value.items) (λ (bytes : Vec ℕ Global). bytes.items) c.args.contents.now c.loop-bytes.bytes-index _ c.loop-bytes-test.false c.loop-bytes.invariant

pub loop-bytes-preserved : goal.loop-bytes-preserved
loop-bytes-preserved c =
    let is = c.digest_of-name.ensures ∙ ap sha256 c.as_slice.ensures.value in
    elim c.if-not-contains_key.branch [
      | then-not-contains_key+in_ok-copied+in_ok-insert+in-Some-1 w ↦
          next_new (λ (value : Vec ℕ Global). value.items) (λ (bytes : Vec ℕ Global). bytes.items) c.args.contents.now c.loop-bytes.bytes-index c.bytes-item.result c.loop-bytes-test.true c.bytes-item.is c.digest_of-name.result is c.loop-bytes.named.entries c.loop-bytes.invariant
          c.if-not-contains_key.named.entries w.insert.new.self.entries (ap (λ map. map.entries) w.named-is) w.in_ok-copied.field-0 (w.in_ok-copied.ensures ∙ w.as_slice-then-not-contains_key.ensures.value)
          (sym w.if-not-contains_key.true ∙ c.contains_key.ensures) w.in_ok-insert.ensures.updates.0
      | then-not-contains_key+in_ok-copied+in_ok-insert+in-None-1 w ↦
          next_new (λ (value : Vec ℕ Global). value.items) (λ (bytes : Vec ℕ Global). bytes.items) c.args.contents.now c.loop-bytes.bytes-index c.bytes-item.result c.loop-bytes-test.true c.bytes-item.is c.digest_of-name.result is c.loop-bytes.named.entries c.loop-bytes.invariant
          c.if-not-contains_key.named.entries w.insert.new.self.entries (ap (λ map. map.entries) w.named-is) w.in_ok-copied.field-0 (w.in_ok-copied.ensures ∙ w.as_slice-then-not-contains_key.ensures.value)
          (sym w.if-not-contains_key.true ∙ c.contains_key.ensures) w.in_ok-insert.ensures.updates.0
      | else-not-contains_key w ↦
          next_there (λ (value : Vec ℕ Global). value.items) (λ (bytes : Vec ℕ Global). bytes.items) c.args.contents.now c.loop-bytes.bytes-index c.bytes-item.result c.loop-bytes-test.true c.bytes-item.is c.digest_of-name.result is c.loop-bytes.named.entries c.loop-bytes.invariant
          c.if-not-contains_key.named.entries (ap (λ map. map.entries) w.named-is) (sym w.if-not-contains_key.false ∙ c.contains_key.ensures)
    ]
