use Rattle.std.proofs.Common.{◌≡◌, ◌<◌, ◌-◌, ◌++◌, append_assoc, List, [], ◌∷◌, take, sym, ◌∙◌, ap, subst, arith}
use Rattle.std.specs.List.{flat_map, All}
use Rattle.std.proofs.lemmas.List.{take_all}
use Rattle.std.proofs.lemmas.Bool.Decides.{nat_tests}
use Rattle.ovl_names.specs.Names.{PathName}
use Rattle.ovl_names.specs.Paths.{PathNames, child_path}
use Rattle.ovl_layer.specs.Layers.{IsLayer}
use Rattle.ovl_lookup.specs.declared.looks.Look.{Look}
use Rattle.ovl_lookup.specs.Stacks.{StackView}
use Rattle.ovl_lookup.specs.Passes.{looks_from, looks_under, looks_placed, kids_along}
use Rattle.ovl_lookup.proofs.ListLemmas.{placed-more, placed-whole}
use Rattle.ovl_lookup.proofs.LawsOfKids.{kids-unique}
use Rattle.ovl_lookup.proofs.stacks.Stack.+push_looks.Goals as goal

pub loop-name-preserved : goal.loop-name-preserved
loop-name-preserved t c =
    let names : List PathName = c.deref-name-items.result.now in
    let path : PathNames = c.args.path.now in
    let of : PathName → List (PathNames × Look) = λ name. looks_from (c.args.depth - 1) c.args.self.now (child_path path name) in
    let before : List (PathNames × Look) = looks_placed path (flat_map (λ name. looks_under name (of name)) (take c.loop-name.name-index names)) in
    let more = placed-more path names c.loop-name.name-index c.name-item.result of c.loop-name-test.true c.name-item.is in
    let below = ap (λ (p : PathNames). looks_placed p (looks_from (c.args.depth - 1) c.args.self.now p)) c.in_ok-child.ensures in
    c.in_ok-push_looks.ensures
    ∙ ((λ j. c.loop-name.invariant j ++ below j)
    ∙ (append_assoc c.push.new.self.items before (looks_placed (child_path path c.name-item.result) (of c.name-item.result))
    ∙ ap (λ (rest : List (PathNames × Look)). c.push.new.self.items ++ rest) (sym more)))

pub returns : goal.returns
returns t c =
    let names : List PathName = c.deref-name-items.result.now in
    let path : PathNames = c.args.path.now in
    let of : PathName → List (PathNames × Look) = λ name. looks_from (c.args.depth - 1) c.args.self.now (child_path path name) in
    let some : 0 < c.args.depth = grind (arith, nat_tests) in
    let whole : take c.loop-name.name-index names ≡ names = take_all c.loop-name.name-index names c.loop-name-test.false in
    let each : All IsLayer c.args.self.now.layers = subst (λ (s : StackView). All IsLayer s.layers) c.self.view_is c.self.invariant.2 in
    let is : names ≡ kids_along c.args.self.now path = c.deref-name-items.ensures.value ∙ kids-unique c.args.self.now each path c.in_ok-names.names.items c.in_ok-names.ensures in
    let rest : List (PathNames × Look) = looks_placed path (flat_map (λ name. looks_under name (of name)) names) in
    c.loop-name.invariant
    ∙ ((λ j. c.in_ok-push.ensures.items j ++ looks_placed path (flat_map (λ name. looks_under name (of name)) (whole j)))
    ∙ (append_assoc c.args.looks.now.items ((c.in_ok-copy.field-0, c.in_ok-look.look) ∷ []) rest
    ∙ ((λ j. c.args.looks.now.items ++ (c.in_ok-copy.ensures j, c.in_ok-look.ensures j) ∷ rest)
    ∙ ap (λ (looks : List (PathNames × Look)). c.args.looks.now.items ++ looks) (placed-whole c.args.depth c.args.self.now path names some is))))
