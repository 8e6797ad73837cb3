use Rattle.std.proofs.Common.{◌≡◌, ◌+◌, Bool, length, filter, refl, ap, arith}
use Rattle.std.specs.Prelude.{not}
use Rattle.std.proofs.lemmas.List.{length-map}
use Rattle.std.proofs.lemmas.List.Filters.{length-filter_both}
use Rattle.ovl_names.specs.Paths.{PathNames}
use Rattle.ovl_layer.specs.Layers.{Entry}
use Rattle.ovl_lookup.specs.Stacks.{StackView}
use Rattle.ovl_lookup.specs.Words.{top_layer, lower_layers}
use Rattle.ovl_vacuum.specs.Vacuum.{is_idle_throughout}
use Rattle.ovl_engine.specs.Outcomes.{left_by_vacuum, removed_by_vacuum}
use Rattle.ovl_engine.proofs.vacuums.kept_of.Goals as goal

-- what vacuum leaves of the topmost layer and what goes is all of it
parted : (stack : StackView) → length (left_by_vacuum stack) + length (removed_by_vacuum stack) ≡ length (top_layer stack)
parted stack =
    let goes : Entry → Bool = λ entry. is_idle_throughout (top_layer stack) (lower_layers stack) entry.0 in
    omega (
      arith,
      length-filter_both goes (λ entry. not (goes entry)) (λ entry. refl) (top_layer stack),
      length-map {B = PathNames} (filter goes (top_layer stack)) (λ entry. entry.0),
    )

pub overflow_sub-result : goal.overflow_sub-result
overflow_sub-result c =
    let all = parted c.args.stack.now in
    let gone = ap length c.requires in
    let rows = ap length c.top.ensures.value in
    grind (arith, all, gone, rows)

pub returns : goal.returns
returns c =
    let all = parted c.args.stack.now in
    let gone = ap length c.requires in
    let rows = ap length c.top.ensures.value in
    grind (arith, all, gone, rows)
