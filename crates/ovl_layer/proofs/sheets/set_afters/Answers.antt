use Rattle.std.proofs.Common.{◌≡◌, ◌∙◌, ◌<◌, ◌+◌, ◌-◌, List, ℕ, length, get_or, set, sym, ap, subst, arith}
use Rattle.std.proofs.lemmas.List.{length-map}
use Rattle.ovl_layer.specs.declared.sheets.SheetRow.{SheetRow}
use Rattle.ovl_layer.specs.Layers.{Entry, Entries}
use Rattle.ovl_layer.specs.Sheets.{entries_of_rows}
use Rattle.ovl_layer.proofs.AfterLemmas.{AreSetFrom, IsUnderTo, after_of, under-begins, under-more, under-ends, under-stops, depth-at, entries-count, one-set, all-set}
use Rattle.ovl_layer.proofs.sheets.set_afters.Goals as goal
use Rattle.ovl_layer.proofs.sheets.set_afters.Goals.{then-loop-after-test+else-depths-after, else-loop-after-test}

pub loop-after-init : goal.loop-after-init
loop-after-init c =
    let entries : Entries = entries_of_rows c.args.rows.now.items in
    under-begins entries (c.loop-number.number - 1) (c.loop-number.number - 1 + 1) (omega (arith, c.loop-number-test.true, c.loop-number.invariant.within, entries-count c.args.rows.now.items)) (omega arith)

pub bounds-depths-after : goal.bounds-depths-after
bounds-depths-after c =
    let entries : Entries = entries_of_rows c.args.rows.now.items in
    omega (arith, c.loop-after-test.true, c.len.ensures, c.loop-number.rows.ok.0, c.loop-number.invariant.set.count, entries-count c.args.rows.now.items, ap length c.requires.depths, length-map entries (λ (entry : Entry). length entry.0))

pub loop-after-preserved : goal.loop-after-preserved
loop-after-preserved c =
    let entries : Entries = entries_of_rows c.args.rows.now.items in
    let inside : c.loop-after.after < length entries = omega (arith, c.loop-after-test.true, c.len.ensures, c.loop-number.rows.ok.0, c.loop-number.invariant.set.count, entries-count c.args.rows.now.items) in
    let seen = λ (number : ℕ). ap (λ (depths : List ℕ). get_or depths number 0) c.requires.depths in
    -- the row of `after` is set, since it comes later
    let known : c.index.result.now.after ≡ after_of entries c.loop-after.after = ap (λ (row : SheetRow). row.after)
    (c.index.ensures ∙ c.loop-number.invariant.set.behind c.loop-after.after c.index.result.now (omega (arith, c.loop-after.invariant.later, c.loop-number-test.true)) (omega (arith, inside, entries-count c.args.rows.now.items))) in
    subst (IsUnderTo entries (c.loop-number.number - 1)) (sym known)
    (under-more entries (c.loop-number.number - 1) c.loop-after.after c.loop-after.invariant inside
    (omega (arith, c.if-depths-after.true, seen c.loop-after.after, seen (c.loop-number.number - 1), depth-at entries c.loop-after.after 0 inside, depth-at entries (c.loop-number.number - 1) 0 (omega (arith, inside, c.loop-after.invariant.later)))))

pub overflow_cast-after-in-loop-number : goal.overflow_cast-after-in-loop-number
overflow_cast-after-in-loop-number c = omega (arith, c.loop-after.invariant.within, entries-count c.args.rows.now.items, c.requires.limit, c.args.rows.now.ok.0)

pub loop-number-preserved : goal.loop-number-preserved
loop-number-preserved c =
    let entries : Entries = entries_of_rows c.args.rows.now.items in
    let number : ℕ = c.loop-number.number - 1 in
    let seen = λ (k : ℕ). ap (λ (depths : List ℕ). get_or depths k 0) c.requires.depths in
    -- where the inner loop ends, the number after the subtree is found
    let ended : c.loop-after.after ≡ after_of entries number =
    elim c.loop-after-test.branch [
      | then-loop-after-test+else-depths-after w ↦
          let inside : c.loop-after.after < length entries = omega (arith, w.loop-after-test.true, c.len.ensures, c.loop-number.rows.ok.0, c.loop-number.invariant.set.count, entries-count c.args.rows.now.items) in
          under-stops entries number c.loop-after.after c.loop-after.invariant inside
          (omega (arith, w.if-depths-after.false, seen c.loop-after.after, seen number, depth-at entries c.loop-after.after 0 inside, depth-at entries number 0 (omega (arith, inside, c.loop-after.invariant.later))))
      | else-loop-after-test w ↦
          under-ends entries number c.loop-after.after c.loop-after.invariant
          (omega (arith, w.loop-after-test.false, c.len.ensures, c.loop-number.rows.ok.0, c.loop-number.invariant.set.count, entries-count c.args.rows.now.items))
    ] in
    record {
      set = subst (λ after. AreSetFrom number c.args.rows.now.items (set c.loop-number.rows.items number (record c.index_mut.result.now { after = after }))) (sym ended)
          (one-set number c.args.rows.now.items c.loop-number.rows.items c.index_mut.result.now
          (subst (λ n. AreSetFrom n c.args.rows.now.items c.loop-number.rows.items) (omega (arith, c.loop-number-test.true)) c.loop-number.invariant.set)
          (omega (arith, c.loop-number-test.true, c.loop-number.invariant.within)) c.index_mut.ensures.value);
      within = omega (arith, c.loop-number.invariant.within);
    }

pub returns : goal.returns
returns c =
    all-set c.args.rows.now.items c.loop-number.rows.items
    (subst (λ n. AreSetFrom n c.args.rows.now.items c.loop-number.rows.items) (omega (arith, c.loop-number-test.false)) c.loop-number.invariant.set)
