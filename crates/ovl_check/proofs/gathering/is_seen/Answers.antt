use Rattle.std.proofs.Common.{◌≡◌, ◌∙◌, true, false, Option, Some, sym, ap, subst}
use Rattle.std.specs.Prelude.{unwrap_or}
use Rattle.std.specs.Option.{option_map}
use Rattle.ovl_names.specs.Paths.{PathNames}
use Rattle.ovl_layer.specs.Layers.{Entries}
use Rattle.ovl_lookup.specs.declared.steps.Found.{Found}
use Rattle.ovl_lookup.specs.Passes.{own_step_of}
use Rattle.ovl_lookup.specs.Walk.{walk}
use Rattle.ovl_check.specs.Checks.{layer_at}
use Rattle.ovl_lookup.specs.Stacks.{all_layers}
use Rattle.ovl_check.proofs.SeenLemmas.{seen-closed, seen-elsewhere, seen-plain, seen-nothing, stays-by}
use Rattle.std.specs.Prelude.{◌||◌, IfSome}
use Rattle.ovl_names.specs.Paths.{is_root}
use Rattle.ovl_inode.specs.declared.inodes.Inode.{Inode}
use Rattle.ovl_inode.specs.declared.marks.Mark.{Mark}
use Rattle.ovl_inode.specs.Marks.{mark_of}
use Rattle.ovl_lookup.specs.Sound.{is_plain}
use Rattle.ovl_check.proofs.GatherLemmas.{root-told}
use Rattle.ovl_check.proofs.LayerFacts.{layer_at-is}
use Rattle.ovl_check.proofs.gathering.is_seen.Goals.{then-is_root, else-is_root}
use Rattle.ovl_check.proofs.gathering.is_seen.Goals as goal

pub returns-then-closed : goal.returns-then-closed
returns-then-closed c =
    let layer : Entries = layer_at c.args.stack.now c.args.i in
    let place : PathNames = c.args.place.now in
    let same : own_step_of place c.in_ok-found.field-0 ≡ walk layer place = c.in_ok-found.ensures.value in
    seen-closed layer place (own_step_of place c.in_ok-found.field-0) same c.if-closed.true

pub returns-then-is_elsewhere : goal.returns-then-is_elsewhere
returns-then-is_elsewhere c =
    let layer : Entries = layer_at c.args.stack.now c.args.i in
    let place : PathNames = c.args.place.now in
    let same : own_step_of place c.in_ok-found.field-0 ≡ walk layer place = c.in_ok-found.ensures.value in
    seen-elsewhere layer place (own_step_of place c.in_ok-found.field-0) same c.if-closed.false
    (stays-by (unwrap_or c.in_ok-found.field-0.turned place) place c.is_elsewhere.result c.is_elsewhere.ensures true c.if-is_elsewhere.true)

pub returns-in-Some : goal.returns-in-Some
returns-in-Some c =
    let layer : Entries = layer_at c.args.stack.now c.args.i in
    let place : PathNames = c.args.place.now in
    let same : own_step_of place c.in_ok-found.field-0 ≡ walk layer place = c.in_ok-found.ensures.value in
    let own : Found = c.in-Some.found in
    let inode : Inode = own.inode.now in
    let marked : own.mark.now ≡ mark_of inode = subst (λ (o : Option Found). IfSome o (λ f. f.mark.now ≡ mark_of f.inode.now)) c.in-Some.is c.in_ok-found.ensures.marked in
    let root : c.is_root.result ≡ is_root place = root-told c.is_root.result place c.is_root.ensures in
    let whole = seen-plain layer place (own_step_of place c.in_ok-found.field-0) same (layer_at-is (all_layers c.args.stack.now) c.layers-layers.ensures.all c.args.i c.requires) inode (ap (option_map (λ (f : Found). f.inode.now)) c.in-Some.is) c.if-closed.false
    (stays-by (unwrap_or c.in_ok-found.field-0.turned place) place c.is_elsewhere.result c.is_elsewhere.ensures false c.if-is_elsewhere.false) in
    elim c.if-is_root.branch [
      | then-is_root w ↦ w.result-is ∙ (w.if-is_root.true ∙ (sym (ap (λ b. b || is_plain (Some (mark_of inode))) (sym root ∙ w.if-is_root.true)) ∙ whole))
      | else-is_root w ↦ w.result-is ∙ (w.is_plain.ensures ∙ (ap (λ (m : Mark). is_plain (Some m)) marked ∙ (sym (ap (λ b. b || is_plain (Some (mark_of inode))) (sym root ∙ w.if-is_root.false)) ∙ whole)))
    ]

pub returns : goal.returns
returns c =
    let layer : Entries = layer_at c.args.stack.now c.args.i in
    let place : PathNames = c.args.place.now in
    let same : own_step_of place c.in_ok-found.field-0 ≡ walk layer place = c.in_ok-found.ensures.value in
    seen-nothing layer place (own_step_of place c.in_ok-found.field-0) same (ap (option_map (λ (f : Found). f.inode.now)) c.in-None.is) c.if-closed.false
    (stays-by (unwrap_or c.in_ok-found.field-0.turned place) place c.is_elsewhere.result c.is_elsewhere.ensures false c.if-is_elsewhere.false)
