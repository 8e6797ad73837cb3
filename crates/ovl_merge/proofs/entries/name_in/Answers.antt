use Rattle.std.proofs.Common.{◌≡◌, ◌∙◌, Bool, true, false, sym, ap}
use Rattle.ovl_names.specs.Paths.{PathNames, path_eq}
use Rattle.ovl_lookup.specs.PathRopes.{rope_eq}
use Rattle.ovl_lookup.proofs.LawsOfPaths.{rope_eq-path}
use Rattle.ovl_merge.specs.declared.bases.Base.{Base}
use Rattle.ovl_merge.specs.Reckoned.{name_directly_in, reached_in}
use Rattle.ovl_merge.proofs.VisitLemmas.{name-in}
use Rattle.ovl_merge.proofs.entries.name_in.Goals as goal

-- whether the ropes are equal is whether the paths are
same-path : (rope above view own : PathNames) → rope ≡ above → own ≡ view → (b : Bool) → rope_eq rope own ≡ b → path_eq above view ≡ b
same-path rope above view own is there b e = sym (rope_eq-path above view) ∙ ((λ j. rope_eq (sym is j) (sym there j)) ∙ e)

pub returns-then-eq : goal.returns-then-eq
returns-then-eq c =
    name-in c.in-Reached.view.path c.args.path.now c.in-Some.above c.in-Some.last.now (sym c.names.ensures.value ∙ c.in-Some.ensures.value) true
    (same-path c.in_ok-of.field-0 c.in-Some.above c.in-Reached.view.path c.path.result.now c.in_ok-of.ensures c.path.ensures true (sym c.eq-2.ensures ∙ c.if-eq.true))
    ∙ ap (λ (own : Base). name_directly_in (reached_in own) c.args.path.now) (sym c.in-Reached.is)

pub returns-else-eq : goal.returns-else-eq
returns-else-eq c =
    name-in c.in-Reached.view.path c.args.path.now c.in-Some.above c.in-Some.last.now (sym c.names.ensures.value ∙ c.in-Some.ensures.value) false
    (same-path c.in_ok-of.field-0 c.in-Some.above c.in-Reached.view.path c.path.result.now c.in_ok-of.ensures c.path.ensures false (sym c.eq-2.ensures ∙ c.if-eq.false))
    ∙ ap (λ (own : Base). name_directly_in (reached_in own) c.args.path.now) (sym c.in-Reached.is)
