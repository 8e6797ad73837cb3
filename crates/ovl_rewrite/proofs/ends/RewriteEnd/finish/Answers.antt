use Rattle.std.proofs.Common.{◌≡◌, ◌∙◌, false, true, List, sym, ap}
use Rattle.std.specs.Prelude.{Vec}
use Rattle.std.specs.Global.{Global}
use Rattle.std.specs.List.{list_any}
use Rattle.std.proofs.lemmas.Result.{IfOk-weaker}
use Rattle.ovl_layer.specs.Layers.{IsLayer}
use Rattle.ovl_board.specs.declared.works.Parcel.{Parcel}
use Rattle.ovl_board.specs.Parcels.{parcel_views}
use Rattle.ovl_rewrite.specs.Directories.{NamedInode, inodes_seen}
use Rattle.ovl_rewrite.specs.Ends.{IsEndOf}
use Rattle.ovl_rewrite.specs.Limits.{PassesLimits}
use Rattle.ovl_rewrite.specs.Passes.{InodesParcel}
use Rattle.ovl_rewrite.specs.NewLayers.{NewLayer, IsOf, leaves_out}
use Rattle.ovl_rewrite.proofs.KeptLemmas.{kept_entries, kept-entries, nothing-left, left-out}
use Rattle.ovl_rewrite.proofs.LayerLemmas.{ok-both}
use Rattle.ovl_rewrite.proofs.LimitLemmas.{limit-kept, limit-passed}
use Rattle.ovl_rewrite.proofs.ends.RewriteEnd.finish.Goals as goal

same-test : {parcels others : List (Parcel (Vec NamedInode Global))} → parcels ≡ others → list_any leaves_out (parcel_views inodes_seen parcels) ≡ list_any leaves_out (parcel_views inodes_seen others)
same-test same = ap (λ ps. list_any leaves_out (parcel_views inodes_seen ps)) same

pub returns-then-is_any_left_out-clause-limit : goal.returns-then-is_any_left_out-clause-limit
returns-then-is_any_left_out-clause-limit c out new by made =
    let views : List InodesParcel = parcel_views inodes_seen c.args.self.parcels.items in
    let some : list_any leaves_out views ≡ true = sym (c.is_any_left_out.ensures ∙ same-test c.deref.ensures.value) ∙ c.if-is_any_left_out.true in
    let parts = kept-entries c.args.self.root views new by in
    limit-passed new made (kept_entries c.args.self.root views new by) parts.0 parts.1 (left-out c.args.self.root views new by some)

pub returns-clause-layer : goal.returns-clause-layer
returns-clause-layer c =
    let views : List InodesParcel = parcel_views inodes_seen c.args.self.parcels.items in
    let none : list_any leaves_out views ≡ false = sym (c.is_any_left_out.ensures ∙ same-test c.deref.ensures.value) ∙ c.if-is_any_left_out.false in
    IfOk-weaker c.layer_told.result _ _ (λ layer h. λ new by. h new (nothing-left c.args.self.root views new by none)) c.layer_told.ensures.layer

pub returns-clause-kept : goal.returns-clause-kept
returns-clause-kept c =
    ok-both c.layer_told.result IsLayer
    (λ layer. (new : NewLayer) → IsEndOf new c.args.self → IsOf new layer)
    (λ _. (new : NewLayer) → IsEndOf new c.args.self → PassesLimits new → ⊥)
    (λ layer is made new end passes. limit-kept new layer is (made new end) passes) c.layer_told.ensures.is (returns-clause-layer c)

pub returns-clause-limit : goal.returns-clause-limit
returns-clause-limit c out new by made =
    let views : List InodesParcel = parcel_views inodes_seen c.args.self.parcels.items in
    let none : list_any leaves_out views ≡ false = sym (c.is_any_left_out.ensures ∙ same-test c.deref.ensures.value) ∙ c.if-is_any_left_out.false in
    let found = c.layer_told.ensures.limit out new (nothing-left c.args.self.root views new by none) in
    limit-passed new made found.0 found.1 found.2 found.3
