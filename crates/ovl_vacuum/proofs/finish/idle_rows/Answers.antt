use Rattle.std.proofs.Common.{◌≡◌, ◌∙◌, ◌+◌, ◌<◌, ℕ, true, false, length, replicate, refl, sym, ap, subst, rules, arith}
use Rattle.std.specs.Prelude.{Vec}
use Rattle.std.specs.Global.{Global}
use Rattle.ovl_board.specs.declared.works.Parcel.{Parcel}
use Rattle.ovl_vacuum.specs.Directories.{IdleName}
use Rattle.ovl_layer.specs.Layers.{is_directory_at}
use Rattle.ovl_layer.specs.Sheets.{path_at}
use Rattle.ovl_lookup.specs.Stacks.{StackView}
use Rattle.ovl_lookup.specs.Words.{top_layer}
use Rattle.ovl_lookup.proofs.LawsOfLooks.{top-layer}
use Rattle.ovl_vacuum.proofs.RowLemmas.{AreLeft, ToldTo, all-left, left-inside, left-names, left-after, left-file, told-start, told-directory, told-file, told-all}
use Rattle.ovl_vacuum.proofs.VisitLemmas.{row-directory}
use Rattle.ovl_vacuum.proofs.finish.idle_rows.Goals as goal
use Rattle.ovl_vacuum.proofs.finish.idle_rows.Goals.{then-is_directory, else-is_directory}

pub loop-number-init : goal.loop-number-init
loop-number-init c =
    let stack : StackView = c.args.stack.now in
    let is = top-layer stack c.top-sheet.ensures.some c.top-sheet.ensures.each in
    record {
      left = all-left stack is c.args.parcels.now c.requires;
      told = told-start stack is c.in_ok-idle.idle.items (c.in_ok-idle.ensures.items_if_clones_equal (λ y e. search rules) ∙ ap (λ n. replicate n false) (c.len.ensures.value ∙ ap length c.top-sheet.ensures.value));
    }

pub bounds-parcels-place : goal.bounds-parcels-place
bounds-parcels-place c =
    let stack : StackView = c.args.stack.now in
    let is = top-layer stack c.top-sheet.ensures.some c.top-sheet.ensures.each in
    let number : ℕ = c.loop-number.number in
    let inside : number < length (top_layer stack) = omega (arith, c.loop-number-test.true, c.len-number-end.ensures.value, ap length c.top-sheet.ensures.value) in
    let holds : is_directory_at (top_layer stack) (path_at (top_layer stack) number) ≡ true =
    row-directory (top_layer stack) is number inside (path_at (top_layer stack) number) refl c.top-sheet.result.now c.top-sheet.ensures.value c.inode.result.now c.inode.ensures ∙ (sym c.is_directory.ensures ∙ c.if-is_directory.true) in
    left-inside stack is c.args.parcels.now c.requires c.loop-number.place number inside c.loop-number.invariant.left holds

pub offset_bounds-parcels-place : goal.offset_bounds-parcels-place
offset_bounds-parcels-place c =
    let inside : c.loop-number.place < length c.args.parcels.now = bounds-parcels-place c in first_of (search rules, omega (arith, inside))

pub mark_below-requires-clause-names : goal.mark_below-requires-clause-names
mark_below-requires-clause-names c =
    let stack : StackView = c.args.stack.now in
    let is = top-layer stack c.top-sheet.ensures.some c.top-sheet.ensures.each in
    let number : ℕ = c.loop-number.number in
    let inside : number < length (top_layer stack) = omega (arith, c.loop-number-test.true, c.len-number-end.ensures.value, ap length c.top-sheet.ensures.value) in
    let holds : is_directory_at (top_layer stack) (path_at (top_layer stack) number) ≡ true =
    row-directory (top_layer stack) is number inside (path_at (top_layer stack) number) refl c.top-sheet.result.now c.top-sheet.ensures.value c.inode.result.now c.inode.ensures ∙ (sym c.is_directory.ensures ∙ c.if-is_directory.true) in
    c.deref.ensures.value
    ∙ (ap (λ (p : Parcel (Vec IdleName Global)). p.out.items) (sym c.index-parcels-place.is)
    ∙ left-names stack is c.args.parcels.now c.requires c.loop-number.place number inside c.loop-number.invariant.left holds c.index-parcels-place.result c.index-parcels-place.is)

pub overflow_add-place : goal.overflow_add-place
overflow_add-place c =
    let stack : StackView = c.args.stack.now in
    let is = top-layer stack c.top-sheet.ensures.some c.top-sheet.ensures.each in
    let number : ℕ = c.loop-number.number in
    let inside : number < length (top_layer stack) = omega (arith, c.loop-number-test.true, c.len-number-end.ensures.value, ap length c.top-sheet.ensures.value) in
    let holds : is_directory_at (top_layer stack) (path_at (top_layer stack) number) ≡ true =
    row-directory (top_layer stack) is number inside (path_at (top_layer stack) number) refl c.top-sheet.result.now c.top-sheet.ensures.value c.inode.result.now c.inode.ensures ∙ (sym c.is_directory.ensures ∙ c.if-is_directory.true) in
    let spot : c.loop-number.place < length c.args.parcels.now = left-inside stack is c.args.parcels.now c.requires c.loop-number.place number inside c.loop-number.invariant.left holds in
    first_of (search rules, omega (arith, spot))

pub loop-number-preserved : goal.loop-number-preserved
loop-number-preserved c =
    let stack : StackView = c.args.stack.now in
    let is = top-layer stack c.top-sheet.ensures.some c.top-sheet.ensures.each in
    let number : ℕ = c.loop-number.number in
    let inside : number < length (top_layer stack) = omega (arith, c.loop-number-test.true, c.len-number-end.ensures.value, ap length c.top-sheet.ensures.value) in
    let directory = row-directory (top_layer stack) is number inside (path_at (top_layer stack) number) refl c.top-sheet.result.now c.top-sheet.ensures.value c.inode.result.now c.inode.ensures ∙ sym c.is_directory.ensures in
    elim c.if-is_directory.branch [
      | then-is_directory w ↦ record {
        left = subst (λ p. AreLeft stack c.args.parcels.now p (number + 1)) (sym w.place-is)
            (left-after stack is c.args.parcels.now c.requires c.loop-number.place number inside c.loop-number.invariant.left (directory ∙ w.if-is_directory.true));
        told = subst (λ fs. ToldTo stack (number + 1) fs) (sym (ap (λ flags. flags.items) w.idle-is))
            (told-directory stack is number c.loop-number.idle.items w.mark_below.new.idle.items c.loop-number.invariant.told w.mark_below.ensures);
      }
      | else-is_directory w ↦ record {
        left = subst (λ p. AreLeft stack c.args.parcels.now p (number + 1)) (sym w.place-is)
            (left-file stack is c.args.parcels.now c.requires c.loop-number.place number inside c.loop-number.invariant.left (directory ∙ w.if-is_directory.false));
        told = subst (λ fs. ToldTo stack (number + 1) fs) (sym (ap (λ flags. flags.items) w.idle-is))
            (told-file stack is number c.loop-number.idle.items (directory ∙ w.if-is_directory.false) c.loop-number.invariant.told);
      }
    ]

pub returns : goal.returns
returns c =
    let stack : StackView = c.args.stack.now in
    let is = top-layer stack c.top-sheet.ensures.some c.top-sheet.ensures.each in
    told-all stack is c.loop-number.number c.loop-number.idle.items (omega (arith, c.loop-number-test.false, c.len-number-end.ensures.value, ap length c.top-sheet.ensures.value)) c.loop-number.invariant.told
