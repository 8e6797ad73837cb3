use Rattle.std.proofs.Common.{◌∙◌, ◌<◌, ℕ, [], ◌∷◌, ◌++◌, length, refl, sym, ap, subst, arith}
use Rattle.ovl_layer.specs.Layers.{Entries}
use Rattle.ovl_layer.specs.Sheets.{path_at}
use Rattle.ovl_lookup.specs.Stacks.{StackView}
use Rattle.ovl_lookup.specs.Words.{top_layer}
use Rattle.ovl_lookup.proofs.LawsOfLooks.{top-layer}
use Rattle.ovl_vacuum.specs.Passes.{IsDirectoryAbove}
use Rattle.ovl_vacuum.proofs.RowLemmas.{gone-pushed, gone-passed, gone-all, root-first}
use Rattle.ovl_vacuum.proofs.finish.paths_gone.Goals as goal
use Rattle.ovl_vacuum.proofs.finish.paths_gone.Goals.{then-gone-number+in_ok-go_to+in_ok-path_in+in_ok-push, else-gone-number}

pub go_to-requires-clause-path : goal.go_to-requires-clause-path
go_to-requires-clause-path c = subst (λ (l : Entries). IsDirectoryAbove l c.loop-number.above) (sym c.top-sheet.ensures.value) c.loop-number.invariant.above

pub loop-number-init : goal.loop-number-init
loop-number-init c =
    let stack : StackView = c.args.stack.now in
    let root = root-first (top_layer stack) (top-layer stack c.top-sheet.ensures.some c.top-sheet.ensures.each) in
    record {
      gone = c.new-paths.ensures.items;
      above = c.root-above.ensures.path ∙ (sym root ∙ ap (path_at (top_layer stack)) (sym c.root-above.ensures.row));
    }

pub loop-number-preserved : goal.loop-number-preserved
loop-number-preserved c =
    let stack : StackView = c.args.stack.now in
    let same = c.top-sheet.ensures.value in
    let number : ℕ = c.loop-number.number in
    let inside : number < length (top_layer stack) = omega (arith, c.loop-number-test.true, c.len-number-end.ensures.value, ap length same) in
    elim c.if-gone-number.branch [
      | then-gone-number+in_ok-go_to+in_ok-path_in+in_ok-push w ↦ record {
        gone = ap (λ ps. ps.items) w.paths-is
            ∙ gone-pushed stack number inside c.args.gone.now c.loop-number.paths.items w.push.new.self.items (path_at (top_layer stack) number) c.requires w.if-gone-number.true
            refl
            (w.in_ok-push.ensures.items ∙ (λ j. c.loop-number.paths.items ++ (w.in_ok-path_in.ensures ∙ (λ k. path_at (same k) number)) j ∷ []))
            c.loop-number.invariant.gone;
        above = subst (IsDirectoryAbove (top_layer stack)) (sym w.above-is) (subst (λ (l : Entries). IsDirectoryAbove l w.go_to.new.self) same w.in_ok-go_to.ensures.path);
      }
      | else-gone-number w ↦ record {
        gone = ap (λ ps. ps.items) w.paths-is ∙ gone-passed stack number inside c.args.gone.now c.loop-number.paths.items c.requires w.if-gone-number.false c.loop-number.invariant.gone;
        above = subst (IsDirectoryAbove (top_layer stack)) (sym w.above-is) c.loop-number.invariant.above;
      }
    ]

pub returns : goal.returns
returns c =
    gone-all c.args.stack.now c.loop-number.number c.loop-number.paths.items (omega (arith, c.loop-number-test.false, c.len-number-end.ensures.value, ap length c.top-sheet.ensures.value)) c.loop-number.invariant.gone
