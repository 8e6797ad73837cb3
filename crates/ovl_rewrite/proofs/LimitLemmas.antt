-- A new layer and the limits of a manifest.
use Rattle.std.proofs.Common.{◌≡◌, Bool, true, false, length, refl, sym, ap, ◌∙◌}
use Rattle.std.specs.Prelude.{◌&&◌, nat_le}
use Rattle.std.specs.List.{list_all}
use Rattle.std.specs.declared.cmp.Ordering.TheVariants.{Less, Equal}
use Rattle.ovl_names.specs.Order.{ascends}
use Rattle.ovl_names.proofs.Ascending.{both}
use Rattle.ovl_layer.specs.Layers.{Entries, Entry, entry_cmp, entry_limit, is_within_limits, IsLayer}
use Rattle.ovl_layer.proofs.LayerLemmas.{path_cmp-same, path_order}
use Rattle.ovl_board.proofs.LawsOfMembers.{rising_same}
use Rattle.ovl_rewrite.specs.Limits.{keeps_limits, IsLayerWithinLimits, PassesLimits}
use Rattle.ovl_rewrite.specs.NewLayers.{NewLayer, IsOf}
use Rattle.ovl_rewrite.proofs.Ascents.{Before, ascending-rise}
use Rattle.ovl_rewrite.proofs.TreeLemmas.{found-In, In-found}

-- entries in order that have the same at each path are the same
entries-same : (new : NewLayer) (one other : Entries) → ascends entry_cmp one ≡ true → ascends entry_cmp other ≡ true → IsOf new one → IsOf new other → one ≡ other
entries-same new one other up above is same =
    rising_same (Before entry_cmp) never (λ x y z. path_order.trans x.0 y.0 z.0) one other (ascending-rise entry_cmp one up) (ascending-rise entry_cmp other above)
    (λ entry h. found-In other entry.0 entry.1 (same entry.0 ∙ (sym (is entry.0) ∙ In-found one entry.0 entry.1 (ascending-rise entry_cmp one up) h)))
    (λ entry h. found-In one entry.0 entry.1 (is entry.0 ∙ (sym (same entry.0) ∙ In-found other entry.0 entry.1 (ascending-rise entry_cmp other above) h)))
  where
    never : (entry : Entry) → Before entry_cmp entry entry → ⊥
    never entry less = let bad : Less ≡ Equal = sym less ∙ path_cmp-same entry.0 in cc

-- a layer that is given keeps the limits
pub limit-kept : (new : NewLayer) (layer : Entries) → IsLayer layer → IsOf new layer → PassesLimits new → ⊥
limit-kept new layer is made (entries, up, same, out) =
    let one : entries ≡ layer = entries-same new entries layer up is.in_order same made in
    let kept : keeps_limits entries ≡ true = ap keeps_limits one ∙ (λ j. is.limited j && is.counted j) in
    let bad : false ≡ true = sym out ∙ kept in cc

-- entries that are no layer pass them
pub limit-passed : (new : NewLayer) → IsLayerWithinLimits new → (entries : Entries) → ascends entry_cmp entries ≡ true → IsOf new entries → (IsLayer entries → ⊥) → PassesLimits new
limit-passed new made entries up same refused = by (keeps_limits entries) refl
  where
    by : (b : Bool) → keeps_limits entries ≡ b → PassesLimits new
    by false e = (entries, up, same, e)
    by true e = absurd (refused (made entries up same e))

-- what it says that entries keep them
pub limit-parts : (entries : Entries) → keeps_limits entries ≡ true → (list_all (λ entry. is_within_limits entry.0) entries ≡ true) × (nat_le (length entries) entry_limit ≡ true)
limit-parts entries kept = both {a = list_all (λ (entry : Entry). is_within_limits entry.0) entries} {b = nat_le (length entries) entry_limit} kept
