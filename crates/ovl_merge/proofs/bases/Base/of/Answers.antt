use Rattle.std.proofs.Common.{◌≡◌, ◌∙◌, Bool, false, cond, Some, None, sym, ap, subst}
use Rattle.ovl_names.specs.Paths.{PathNames}
use Rattle.ovl_lookup.specs.Stacks.{from_layer}
use Rattle.ovl_lookup.specs.Merged.{shows_directory}
use Rattle.ovl_lookup.specs.DirViews.{IsSought}
use Rattle.ovl_merge.specs.Places.{merge_of, reach}
use Rattle.ovl_merge.specs.Reckoned.{reach_from}
use Rattle.ovl_merge.proofs.FinishLemmas.{merge-each}
use Rattle.ovl_merge.proofs.LayerLemmas.{upper, lower}
use Rattle.ovl_merge.proofs.BaseLemmas.{view-reached, base-apart}
use Rattle.ovl_merge.proofs.bases.Base.of.Goals as goal

pub returns-in_default : goal.returns-in_default
returns-in_default c dir shown reached =
    let stack = c.args.stack.now in
    let m = merge_of stack in
    let each = merge-each stack c.requires c.ordinary-layers.ensures.each in
    let none : reach m dir ≡ None = reached ∙ ap (reach_from m.rest) (sym c.in_default.ensures) in
    (none, base-apart m (upper m each) (lower m each) dir shown none)

pub returns-in-Some-2 : goal.returns-in-Some-2
returns-in-Some-2 c dir shown reached =
    let stack = c.args.stack.now in
    let m = merge_of stack in
    let next : PathNames = c.in-Some.next.now in
    let sought : IsSought stack 2 next c.in_ok-view.field-0 = subst (λ (path : PathNames). IsSought stack 2 path c.in_ok-view.field-0) c.in_ok-copy.ensures c.in_ok-view.ensures in
    let told = view-reached stack next c.in-Some-2.view (subst (IsSought stack 2 next) c.in-Some-2.is sought) in
    (reached ∙ (ap (reach_from m.rest) (sym c.in-Some.ensures) ∙ told.0), told.1)

pub returns-in-None : goal.returns-in-None
returns-in-None c dir shown reached =
    let stack = c.args.stack.now in
    let m = merge_of stack in
    let each = merge-each stack c.requires c.ordinary-layers.ensures.each in
    let next : PathNames = c.in-Some.next.now in
    let sought : IsSought stack 2 next c.in_ok-view.field-0 = subst (λ (path : PathNames). IsSought stack 2 path c.in_ok-view.field-0) c.in_ok-copy.ensures c.in_ok-view.ensures in
    let hidden : shows_directory (from_layer 2 stack) next ≡ false = subst (IsSought stack 2 next) c.in-None.is sought in
    let none : reach m dir ≡ None = reached ∙ (ap (reach_from m.rest) (sym c.in-Some.ensures) ∙ ap (λ (b : Bool). cond b (Some next) None) hidden) in
    (none, base-apart m (upper m each) (lower m each) dir shown none)
