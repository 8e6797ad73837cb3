use Rattle.std.proofs.Common.{◌≡◌, ◌∙◌, length, ap, subst, arith}
use Rattle.std.proofs.lemmas.Bool.Decides.{nat_tests}
use Rattle.ovl_names.specs.Paths.{PathNames}
use Rattle.ovl_lookup.specs.declared.steps.Descent.{Descent}
use Rattle.ovl_lookup.specs.Passes.{IsDescent}
use Rattle.ovl_lookup.proofs.WalkFacts.{all-walked, past-descent, not-deeper}
use Rattle.ovl_lookup.proofs.steps.directory_in.Goals as goal

pub returns-then-depth-len : goal.returns-then-depth-len
returns-then-depth-len c =
    let d : Descent = c.in_ok-own.field-0 in
    let same : c.in_ok-rope.rope ≡ c.args.path.now = c.in_ok-rope.ensures ∙ c.names.ensures.value in
    let is = subst (λ (names : PathNames). IsDescent c.args.sheet.now names d) same c.in_ok-own.ensures in
    (past-descent c.args.sheet.now c.args.path.now d is (λ all. grind (arith, nat_tests, all, c.if-depth-len.true, c.len.ensures, ap length same))).none

pub returns : goal.returns
returns c =
    let d : Descent = c.in_ok-own.field-0 in
    let same : c.in_ok-rope.rope ≡ c.args.path.now = c.in_ok-rope.ensures ∙ c.names.ensures.value in
    let is = subst (λ (names : PathNames). IsDescent c.args.sheet.now names d) same c.in_ok-own.ensures in
    let within = not-deeper c.args.sheet.now c.args.path.now d is in
    all-walked c.args.sheet.now c.args.path.now d is (grind (arith, nat_tests, within, c.if-depth-len.false, c.len.ensures, ap length same))
