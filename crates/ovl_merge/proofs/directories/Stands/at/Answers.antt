use Rattle.std.proofs.Common.{◌∙◌, Bool, Some, None, refl, sym, subst}
use Rattle.ovl_names.specs.Paths.{PathNames}
use Rattle.ovl_layer.specs.Layers.{Entries}
use Rattle.ovl_lookup.specs.Passes.{IsArrivalAt}
use Rattle.ovl_merge.specs.Places.{merge_of}
use Rattle.ovl_merge.specs.Stands.{IsStand, StandsAt, next_lookup_on}
use Rattle.ovl_merge.proofs.FinishLemmas.{merge-each}
use Rattle.ovl_merge.proofs.LayerLemmas.{upper}
use Rattle.ovl_merge.proofs.StandLemmas.{arrival-stands, upper-sheet, lower-sheet}
use Rattle.ovl_merge.proofs.directories.Stands.at.Goals as goal

pub returns-then-closed : goal.returns-then-closed
returns-then-closed c =
    let stack = c.args.stack.now in
    let m = merge_of stack in
    let dir : PathNames = c.args.path.now in
    let at = c.in_ok-row.field-0 in
    let there = subst (λ (layer : Entries). IsArrivalAt layer dir at.row at.next at.closed) (sym (upper-sheet stack c.sheet.result.now c.sheet.ensures))
    (subst (λ (p : PathNames). IsArrivalAt c.sheet.result.now p at.row at.next at.closed) (c.in_ok-rope.ensures ∙ c.names.ensures.value) c.in_ok-row.ensures) in
    record {
      next = None;
      upper = subst (λ (b : Bool). StandsAt m.upper dir at.row (next_lookup_on at.next b)) c.if-closed.true
          (arrival-stands m.upper (upper m (merge-each stack c.requires c.ordinary-layers.ensures.each)) dir at.row at.next at.closed there);
      lower = refl;
    }

pub returns : goal.returns
returns c =
    let stack = c.args.stack.now in
    let m = merge_of stack in
    let dir : PathNames = c.args.path.now in
    let at = c.in_ok-row.field-0 in
    let there = subst (λ (layer : Entries). IsArrivalAt layer dir at.row at.next at.closed) (sym (upper-sheet stack c.sheet.result.now c.sheet.ensures))
    (subst (λ (p : PathNames). IsArrivalAt c.sheet.result.now p at.row at.next at.closed) (c.in_ok-rope.ensures ∙ c.names.ensures.value) c.in_ok-row.ensures) in
    record {
      next = Some at.next;
      upper = subst (λ (b : Bool). StandsAt m.upper dir at.row (next_lookup_on at.next b)) c.if-closed.false
          (arrival-stands m.upper (upper m (merge-each stack c.requires c.ordinary-layers.ensures.each)) dir at.row at.next at.closed there);
      lower = subst (λ (layer : Entries). IsStand layer at.next c.in_ok-lower.lower) (sym (lower-sheet stack c.requires c.sheet-2.result.now c.sheet-2.ensures)) c.in_ok-lower.ensures;
    }
