use Rattle.std.proofs.Common.{◌≡◌, ◌∙◌, ◌-◌, ◌<◌, ℕ, Bool, List, false, true, get_or, length, sym, ap, subst, arith}
use Rattle.std.proofs.lemmas.List.{get_or_read}
use Rattle.ovl_names.specs.Paths.{parent_path}
use Rattle.ovl_layer.specs.Layers.{Entries}
use Rattle.ovl_layer.specs.Sheets.{path_at}
use Rattle.ovl_lookup.proofs.LawsOfLooks.{top-layer}
use Rattle.ovl_vacuum.proofs.RowLemmas.{PassedTo, pass-starts, pass-goes, pass-stays, pass-ends}
use Rattle.ovl_vacuum.proofs.finish.gone_rows.Goals as goal

pub loop-number-init : goal.loop-number-init
loop-number-init c =
    subst (λ n. PassedTo c.args.stack.now n c.args.idle.items) (sym (c.len-number.ensures.value ∙ ap length c.top-sheet.ensures.value))
    (pass-starts c.args.stack.now (top-layer c.args.stack.now c.top-sheet.ensures.some c.top-sheet.ensures.each) c.args.idle.items c.requires)

pub loop-number-preserved-then-not-index : goal.loop-number-preserved-then-not-index
loop-number-preserved-then-not-index c =
    let stack = c.args.stack.now in
    let flags : List Bool = c.loop-number.gone.items in
    let number : ℕ = c.loop-number.number in
    let inside : number - 1 < length flags = omega (arith, c.loop-number-test.true, c.loop-number.invariant.within, c.loop-number.invariant.count) in
    let stays : get_or flags (number - 1) false ≡ false = sym (get_or_read flags (number - 1) c.index.result.now inside c.index.ensures false) ∙ c.if-not-index.true in
    let same = c.top-sheet.ensures.value in
    pass-stays stack (top-layer stack c.top-sheet.ensures.some c.top-sheet.ensures.each) number flags c.loop-number-test.true c.loop-number.invariant
    c.directory_of-directory.result
    (omega (arith, c.directory_of-directory.ensures.inside, ap length same))
    (subst (λ (l : Entries). path_at l c.directory_of-directory.result ≡ parent_path (path_at l (number - 1))) same c.directory_of-directory.ensures.path)
    stays

pub loop-number-preserved : goal.loop-number-preserved
loop-number-preserved c =
    let stack = c.args.stack.now in
    let flags : List Bool = c.loop-number.gone.items in
    let number : ℕ = c.loop-number.number in
    let inside : number - 1 < length flags = omega (arith, c.loop-number-test.true, c.loop-number.invariant.within, c.loop-number.invariant.count) in
    let goes : get_or flags (number - 1) false ≡ true = sym (get_or_read flags (number - 1) c.index.result.now inside c.index.ensures false) ∙ c.if-not-index.false in
    pass-goes stack (top-layer stack c.top-sheet.ensures.some c.top-sheet.ensures.each) number flags c.loop-number-test.true c.loop-number.invariant goes

pub returns : goal.returns
returns c =
    let stack = c.args.stack.now in
    pass-ends stack (top-layer stack c.top-sheet.ensures.some c.top-sheet.ensures.each) c.loop-number.number c.loop-number.gone.items (omega (arith, c.loop-number-test.false)) c.loop-number.invariant
