use Rattle.std.proofs.Common.{◌≡◌, ◌∙◌, List, Err, sym, ap, subst}
use Rattle.std.proofs.lemmas.Result.{err_from_is_err_and}
use Rattle.std.specs.Vec.Iter.{into_iter_items}
use Rattle.ovl_layer.specs.Layers.{IsLayer}
use Rattle.ovl_board.specs.Parcels.{parcel_views}
use Rattle.ovl_rewrite.specs.declared.faults.RewriteFault.TheVariants.{LimitOut}
use Rattle.ovl_rewrite.specs.Directories.{inodes_seen}
use Rattle.ovl_rewrite.specs.Passes.{InodesParcel, WalksUnder, StopsUnder}
use Rattle.ovl_rewrite.specs.NewLayers.{IsOf}
use Rattle.ovl_rewrite.proofs.LayerLemmas.{told_entries, told-entries, told-whole, told-stops}
use Rattle.ovl_rewrite.proofs.layers.layer_told.Goals as goal

pub returns-in_err-below-clause-limit : goal.returns-in_err-below-clause-limit
returns-in_err-below-clause-limit c is new by =
    let views : List InodesParcel = parcel_views inodes_seen c.args.parcels.items in
    let out = err_from_is_err_and c.from_residual.result c.from_residual.ensures.1 in
    let whole = sym (out.1 ∙ ap Err out.2) ∙ is in
    let told : c.in_err-below.field-0.0 ≡ LimitOut = cc in
    let parts = told-entries c.args.root views new by in
    let stops : StopsUnder views = subst (λ parcels. StopsUnder (parcel_views inodes_seen parcels)) c.into_iter-rest.ensures.rest (c.in_err-below.ensures.limit (ap Err told)) in
    (told_entries c.args.root views new by, parts.0, parts.1, told-stops c.args.root views new by stops)

pub returns-in_default-clause-limit : goal.returns-in_default-clause-limit
returns-in_default-clause-limit c is new by =
    let views : List InodesParcel = parcel_views inodes_seen c.args.parcels.items in
    let after : List InodesParcel = parcel_views inodes_seen (into_iter_items c.next_below.new.rest) in
    let walks : WalksUnder views after c.in_ok-below.below =
    subst (λ parcels. WalksUnder (parcel_views inodes_seen parcels) after c.in_ok-below.below) c.into_iter-rest.ensures.rest c.in_ok-below.ensures.entries in
    let parts = told-entries c.args.root views new by in
    (told_entries c.args.root views new by, parts.0, parts.1, λ layer. c.in_default.ensures (subst IsLayer (sym (told-whole c.args.root views new by after c.in_ok-below.below walks)) layer))

pub returns-clause-layer : goal.returns-clause-layer
returns-clause-layer c new by =
    let views : List InodesParcel = parcel_views inodes_seen c.args.parcels.items in
    let after : List InodesParcel = parcel_views inodes_seen (into_iter_items c.next_below.new.rest) in
    let walks : WalksUnder views after c.in_ok-below.below =
    subst (λ parcels. WalksUnder (parcel_views inodes_seen parcels) after c.in_ok-below.below) c.into_iter-rest.ensures.rest c.in_ok-below.ensures.entries in
    subst (IsOf new) (sym (c.in-Some.ensures ∙ told-whole c.args.root views new by after c.in_ok-below.below walks)) (told-entries c.args.root views new by).1
