use Rattle.std.proofs.Common.{◌≡◌, ◌∙◌, ◌<◌, ℕ, true, [], length, ap, subst}
use Rattle.std.proofs.lemmas.Result.{IfOk-weaker}
use Rattle.ovl_names.specs.Paths.{PathNames}
use Rattle.ovl_layer.specs.Layers.{Entries, names_below}
use Rattle.ovl_layer.proofs.NodeLemmas.{names_below-under}
use Rattle.ovl_lookup.specs.Stacks.{StackView}
use Rattle.ovl_lookup.specs.Words.{top_layer}
use Rattle.ovl_deref.specs.Directories.{is_at_moved}
use Rattle.ovl_deref.specs.Visits.{IsOwnPlace}
use Rattle.ovl_deref.proofs.VisitLemmas.{moved-listed, none-listed}
use Rattle.ovl_deref.proofs.directories.inodes_in.Goals as goal

pub returns-in-Moved : goal.returns-in-Moved
returns-in-Moved c =
    let stack : StackView = c.args.stack.now in
    let dir : PathNames = c.args.dir.now in
    let some : 0 < length stack.layers = subst (λ (n : ℕ). 0 < n) c.ordinary-layers.ensures.value c.ordinary-layers.ensures.some in
    let moved : is_at_moved (top_layer stack) dir ≡ true = subst (IsOwnPlace (top_layer stack) dir) c.in-Moved.is c.own_place.ensures in
    IfOk-weaker c.shown_inodes.result _ _ (λ inodes is. is ∙ moved-listed stack c.ordinary-layers.ensures.each some dir moved) c.shown_inodes.ensures

pub own_inodes-requires : goal.own_inodes-requires
own_inodes-requires c = subst (IsOwnPlace (top_layer c.args.stack.now) c.args.dir.now) c.in-Row.is c.own_place.ensures

pub returns-in-Absent : goal.returns-in-Absent
returns-in-Absent c =
    let none = subst (IsOwnPlace (top_layer c.args.stack.now) c.args.dir.now) c.in-Absent.is c.own_place.ensures in
    c.new.ensures.items
    ∙ none-listed c.args.stack.now c.args.dir.now none.0
    (names_below-under c.args.dir.now (top_layer c.args.stack.now)
    ∙ ap (λ (entries : Entries). names_below entries []) none.1)
