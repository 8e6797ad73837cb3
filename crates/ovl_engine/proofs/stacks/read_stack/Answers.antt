use Rattle.std.proofs.Common.{◌≡◌, ◌∙◌, ◌-◌, ◌*◌, ◌≤◌, ℕ, List, map, take, drop, length, sym, ap, subst, arith, length-drop, length-take-le}
use Rattle.std.proofs.lemmas.Grind.{div_ceil_times}
use Rattle.ovl_layer.specs.Layers.{Entries}
use Rattle.ovl_lookup.specs.Stacks.{layer_limit, stack_with}
use Rattle.ovl_engine.proofs.ManifestLemmas.{all_read, all_stated, counted_by, some_share}
use Rattle.ovl_engine.proofs.OutcomeLemmas.{not_refused}
use Rattle.ovl_engine.proofs.stacks.read_stack.Goals as goal

pub read_layers-requires-clause-some : goal.read_layers-requires-clause-some
read_layers-requires-clause-some g c lifetimes known =
    let count = c.len-2.result in
    let share = c.div_ceil-share.result in
    let covered : count ≤ share * c.args.workers = subst (λ n. count ≤ n * c.args.workers) (sym c.div_ceil-share.ensures) (div_ceil_times count c.args.workers c.requires.number).0 in
    some_share share c.args.workers count (omega (arith, c.len-2.ensures, c.args.manifests.ok.0, c.requires.some)) covered

pub split_off-requires : goal.split_off-requires
split_off-requires g c =
    let count = counted_by 0 g.M.AsSlice.items c.args.manifests.items c.in_ok-layers.layers.items c.in_ok-layers.ensures in
    omega (arith, c.len.ensures, c.args.manifests.ok.0, c.in_ok-layers.layers.ok.0, count)

pub returns-in-Ok-clause-read : goal.returns-in-Ok-clause-read
returns-in-Ok-clause-read g c = all_read (map g.M.AsSlice.items c.args.manifests.items) c.in_ok-layers.layers.items c.in_ok-layers.ensures

pub returns-in-Ok-clause-stack : goal.returns-in-Ok-clause-stack
returns-in-Ok-clause-stack g c =
    let manifests = map g.M.AsSlice.items c.args.manifests.items in
    let layers : List Entries = c.in_ok-layers.layers.items in
    let bottom : ℕ = c.args.bottom in
    let same : c.from.result ≡ bottom = c.from.ensures in
    let count = counted_by 0 g.M.AsSlice.items c.args.manifests.items layers c.in_ok-layers.ensures in
    let number : c.len.result ≡ length layers = omega (arith, c.len.ensures, c.args.manifests.ok.0, count) in
    let ordinary : c.in-Ok.stack.layers ≡ take (length layers - bottom) layers =
    c.in-Ok.ensures.0 ∙ (c.in_ok-data_only.ensures.items ∙ (λ j. take (number j - same j) layers)) in
    let data_only : c.in-Ok.stack.data_only ≡ drop (length layers - bottom) layers =
    c.in-Ok.ensures.1 ∙ (c.in_ok-data_only.ensures.tail ∙ (λ j. drop (number j - same j) layers)) in
    (λ j. record { layers = ordinary j; data_only = data_only j })
    ∙ ap (λ (ls : List Entries). stack_with ls bottom) (sym (all_stated manifests layers c.in_ok-layers.ensures))

pub returns-in-Ok-clause-count : goal.returns-in-Ok-clause-count
returns-in-Ok-clause-count g c =
    let layers : List Entries = c.in_ok-layers.layers.items in
    let same : c.from.result ≡ c.args.bottom = c.from.ensures in
    let count = counted_by 0 g.M.AsSlice.items c.args.manifests.items layers c.in_ok-layers.ensures in
    let number : c.len.result ≡ length layers = omega (arith, c.len.ensures, c.args.manifests.ok.0, count) in
    ap length c.in-Ok.ensures.0
    ∙ (ap length c.in_ok-data_only.ensures.items
    ∙ (length-take-le (c.len.result - c.from.result) layers (omega (arith, number))
    ∙ (λ j. (number ∙ count) j - same j)))

pub returns-in-Err-clause-unread : goal.returns-in-Err-clause-unread
returns-in-Err-clause-unread g c =
    let layers : List Entries = c.in_ok-layers.layers.items in
    let bottom : ℕ = c.from.result in
    let count = counted_by 0 g.M.AsSlice.items c.args.manifests.items layers c.in_ok-layers.ensures in
    let number : c.len.result ≡ length layers = omega (arith, c.len.ensures, c.args.manifests.ok.0, count) in
    let front = ap length c.in_ok-data_only.ensures.items ∙ length-take-le (c.len.result - bottom) layers (omega (arith, number)) in
    let back = ap length c.in_ok-data_only.ensures.tail ∙ length-drop (c.len.result - bottom) layers in
    not_refused layer_limit c.len.result (length layers) bottom _ _ number front back
    (omega (arith, c.requires.some, c.from.ensures, count)) (omega (arith, c.requires.limit, count)) c.in-Err.ensures.1
