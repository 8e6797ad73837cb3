use Rattle.std.proofs.Common.{◌≡◌, ◌<◌, ◌-◌, ◌+◌, true, false, refl, ap, subst, ◌∙◌, arith, length, get_or}
use Rattle.std.proofs.lemmas.List.{get_or_read}
use Rattle.ovl_board.specs.Trees.{is_next}
use Rattle.ovl_board.proofs.trees.each_follows.Goals as goal

pub returns : goal.returns
returns c = ((λ t k d h. c.loop-i.invariant k d (omega arith)), λ each. refl)

pub returns-then-not-follows : goal.returns-then-not-follows
returns-then-not-follows c =
    let paths = c.args.paths.now in
    let i = c.loop-i.i in
    let early : i - 1 < length paths = omega arith in
    let second = c.index-paths-i-in-loop-i.result in
    let first = get_or_read paths _ _ early c.index-paths-i.is second in (
      (λ t. let no : false ≡ true = t in cc),
      (λ each.
          let there : i - 1 + 1 ≡ i = omega arith in
          let at : is_next (get_or paths (i - 1) second) (get_or paths i second) ≡ true = subst (λ n. is_next (get_or paths (i - 1) second) (get_or paths n second) ≡ true) there (each (i - 1) second (omega arith)) in
          let no : false ≡ true = c.if-not-follows.ensures ∙ (ap (λ d. is_next d second) first ∙ (ap (is_next (get_or paths (i - 1) second)) c.index-paths-i-in-loop-i.is ∙ at)) in cc),
    )
