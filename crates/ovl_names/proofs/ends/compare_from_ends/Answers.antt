use Rattle.std.proofs.Common.{◌≡◌, ◌∙◌, ◌∷◌, ◌++◌, ◌-◌, ℕ, List, [], Ordering, Equal, true, length, length-append, take, sym, ap, subst, arith}
use Rattle.std.specs.Ordering.{is_ne}
use Rattle.ovl_names.specs.Names.{name_cmp}
use Rattle.ovl_names.specs.Paths.{PathNames, text_names, has_names}
use Rattle.ovl_names.specs.Ends.{OrdersEnds, LosesEnd, IsCommonNames}
use Rattle.ovl_names.proofs.EndLemmas.{front-range, tied, names-cut, named-left, loses-more, apart-orders}
use Rattle.ovl_names.proofs.ends.compare_from_ends.Goals as goal

pub cut_last-requires-text-text : goal.cut_last-requires-text-text
cut_last-requires-text-text c κs = c.loop-above.invariant.utf8

pub cut_last-requires-in-Some-text-text : goal.cut_last-requires-in-Some-text-text
cut_last-requires-in-Some-text-text c κs = c.loop-above.invariant.their_utf8

pub fact_in-own : goal.fact_in-own
fact_in-own c = c.loop-above.invariant.utf8

pub fact_in-their-2 : goal.fact_in-their-2
fact_in-their-2 c = c.loop-above.invariant.their_utf8

pub returns-then-is_ne : goal.returns-then-is_ne
returns-then-is_ne c =
    let all : PathNames = text_names c.args.text.now in
    let others : PathNames = text_names c.args.other.now in
    let name : List ℕ = c.in-Some.name.now in
    let their_name : List ℕ = c.in-Some-cut_last.their_name.now in
    let order : c.cmp-order.result ≡ name_cmp name their_name = c.cmp-order.ensures ∙ (λ j. name_cmp (c.as_bytes-in-Some.ensures.value j) (c.as_bytes-in-Some-2.ensures.value j)) in
    let apart : is_ne (name_cmp name their_name) ≡ true = ap is_ne (sym order) ∙ (sym c.is_ne.ensures ∙ c.if-is_ne.true) in (
      ap is_ne order ∙ apart,
      subst (λ (o : Ordering). OrdersEnds all others all others o) (sym order)
          (apart-orders all others (text_names c.loop-above.own.now) (text_names c.loop-above.their.now) (text_names c.in-Some.above.now) (text_names c.in-Some-cut_last.their_above.now) name their_name c.loop-above.invariant.lost c.in-Some.ensures c.in-Some-cut_last.ensures apart),
    )

pub loop-above-smaller : goal.loop-above-smaller
loop-above-smaller c =
    let own : PathNames = text_names c.loop-above.own.now in
    let above : List ℕ = c.in-Some.above.now in
    let their_above : List ℕ = c.in-Some-cut_last.their_above.now in
    let count : ℕ = c.common_names-count.result in
    let common : IsCommonNames above their_above count =
    subst (λ (t : List ℕ). IsCommonNames above t count) c.as_bytes-in-Some-4.ensures.value (subst (λ (t : List ℕ). IsCommonNames t c.as_bytes-in-Some-4.result.now count) c.as_bytes-in-Some-3.ensures.value c.common_names-count.ensures) in
    let named : has_names (text_names above) ≡ true = named-left own (text_names above) (c.in-Some.name.now ∷ []) c.in-Some.ensures c.loop-above.invariant.named in
    let their_named : has_names (text_names their_above) ≡ true = named-left (text_names c.loop-above.their.now) (text_names their_above) (c.in-Some-cut_last.their_name.now ∷ []) c.in-Some-cut_last.ensures c.loop-above.invariant.their_named in
    let cut = names-cut above their_above count named their_named common in
    let left : PathNames = text_names (take (length above - count) above) in
    let now : text_names c.range-own.result.now ≡ left = ap text_names (c.range-own.ensures.value ∙ front-range above (length above - count)) in
    omega (arith, ap length now, ap length c.in-Some.ensures, length-append (text_names above) (c.in-Some.name.now ∷ []), ap length cut.1, length-append left cut.0)

pub loop-above-preserved : goal.loop-above-preserved
loop-above-preserved c =
    let own : PathNames = text_names c.loop-above.own.now in
    let their : PathNames = text_names c.loop-above.their.now in
    let name : List ℕ = c.in-Some.name.now in
    let their_name : List ℕ = c.in-Some-cut_last.their_name.now in
    let above : List ℕ = c.in-Some.above.now in
    let their_above : List ℕ = c.in-Some-cut_last.their_above.now in
    let count : ℕ = c.common_names-count.result in
    let order : c.cmp-order.result ≡ name_cmp name their_name = c.cmp-order.ensures ∙ (λ j. name_cmp (c.as_bytes-in-Some.ensures.value j) (c.as_bytes-in-Some-2.ensures.value j)) in
    let tie : name_cmp name their_name ≡ Equal = tied (name_cmp name their_name) (ap is_ne (sym order) ∙ (sym c.is_ne.ensures ∙ c.if-is_ne.false)) in
    let common : IsCommonNames above their_above count =
    subst (λ (t : List ℕ). IsCommonNames above t count) c.as_bytes-in-Some-4.ensures.value (subst (λ (t : List ℕ). IsCommonNames t c.as_bytes-in-Some-4.result.now count) c.as_bytes-in-Some-3.ensures.value c.common_names-count.ensures) in
    let named : has_names (text_names above) ≡ true = named-left own (text_names above) (name ∷ []) c.in-Some.ensures c.loop-above.invariant.named in
    let their_named : has_names (text_names their_above) ≡ true = named-left their (text_names their_above) (their_name ∷ []) c.in-Some-cut_last.ensures c.loop-above.invariant.their_named in
    let cut = names-cut above their_above count named their_named common in
    let own-is : take (length above - count) above ≡ c.range-own.result.now = sym (c.range-own.ensures.value ∙ front-range above (length above - count)) in
    let their-is : take (length their_above - count) their_above ≡ c.range-their.result.now = sym (c.range-their.ensures.value ∙ front-range their_above (length their_above - count)) in
    let left : LosesEnd (text_names above) (text_names their_above) (text_names c.range-own.result.now) (text_names c.range-their.result.now) =
    (cut.0, cut.1 ∙ ap (λ (t : List ℕ). text_names t ++ cut.0) own-is, cut.2 ∙ ap (λ (t : List ℕ). text_names t ++ cut.0) their-is) in
    record {
      named = named-left (text_names above) (text_names c.range-own.result.now) left.0 left.1 named;
      their_named = named-left (text_names their_above) (text_names c.range-their.result.now) left.0 left.2 their_named;
      lost = loses-more (text_names c.args.text.now) (text_names c.args.other.now) own their (text_names above) (text_names their_above) (text_names c.range-own.result.now) (text_names c.range-their.result.now) name their_name c.loop-above.invariant.lost c.in-Some.ensures c.in-Some-cut_last.ensures tie left;
      utf8 = c.range-own.utf8;
      their_utf8 = c.range-their.utf8;
    }
