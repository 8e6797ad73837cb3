use Rattle.std.proofs.Common.{◌≡◌, ◌-◌, ◌∙◌, true, false, Bool, sym, ap, refl, arith}
use Rattle.std.specs.Ordering.{is_lt}
use Rattle.std.proofs.lemmas.List.{get_or_read}
use Rattle.ovl_blobs.specs.Blobs.{digest_cmp}
use Rattle.ovl_blobs.specs.ByDigest.{names_ascend}
use Rattle.ovl_blobs.proofs.NamedLemmas.{in_order, in_order-pairs}
use Rattle.ovl_blobs.proofs.by_digest.in_order.Goals as goal

pub returns : goal.returns
returns g c = sym (in_order g.T.Named.name_of c.args.elements.now (λ k d h. c.loop-i.invariant k d (omega arith)))

pub returns-then-not-is_lt : goal.returns-then-not-is_lt
returns-then-not-is_lt g c = by (names_ascend g.T.Named.name_of c.args.elements.now) refl
  where
    by : (b : Bool) → names_ascend g.T.Named.name_of c.args.elements.now ≡ b → false ≡ b
    by false e = refl
    by true e =
        let name = g.T.Named.name_of in
        let elements = c.args.elements.now in
        let other = c.index-elements-i-in-loop-i.result in
        let first = get_or_read elements _ _ (omega arith) c.index-elements-i.is other in
        let compared = c.cmp.ensures ∙ (λ j. digest_cmp (c.name.ensures j) (c.name-in-loop-i.ensures j)) in
        let less = (λ j. digest_cmp (name (first j)) (name (c.index-elements-i-in-loop-i.is j))) ∙ in_order-pairs name elements e (c.loop-i.i - 1) c.loop-i.i other (omega arith) (omega arith) in
        let no : true ≡ false = sym (ap is_lt less) ∙ sym (ap is_lt compared) ∙ sym c.if-not-is_lt.ensures in cc
