use Rattle.std.proofs.Common.{◌≡◌, ◌∙◌, ◌++◌, ◌∷◌, List, ℕ, sym, ap, subst, Ok, map, length, arith, length-append}
use Rattle.std.specs.Vec.Iter.{into_iter_items}
use Rattle.ovl_manifest.specs.Manifest.{read_layer}
use Rattle.ovl_layer.specs.Entries.{IsFaultOf}
use Rattle.ovl_engine.specs.Refusals.{layers_from}
use Rattle.ovl_engine.proofs.ManifestLemmas.{counted_by, further, fails_here, taken, told}
use Rattle.ovl_engine.proofs.stacks.read_share.Goals as goal

pub overflow_add-first : goal.overflow_add-first
overflow_add-first g c =
    let read = c.loop-manifest.yielded in
    let it = c.into_iter-manifest-iterator in
    let layers = c.loop-manifest.layers in
    let parts = sym it.ensures.into_iter_gives.0 ∙ taken it.result read c.loop-manifest.manifest-iterator c.loop-manifest.yielded_by in
    omega (
      arith,
      ap length parts,
      length-append read (into_iter_items c.loop-manifest.manifest-iterator),
      counted_by c.args.first g.M.AsSlice.items read layers.items c.loop-manifest.invariant,
      layers.ok.0,
      c.len.ensures,
      c.requires,
      ap length c.in-Some.ensures.steps.0,
    )

pub returns-in-Err : goal.returns-in-Err
returns-in-Err g c =
    let bytes = g.M.AsSlice.items in
    let read = c.loop-manifest.yielded in
    let it = c.into_iter-manifest-iterator in
    let x = c.in-Some.manifest in
    let more = into_iter_items c.next.new.self in
    let layers = c.loop-manifest.layers in
    let parts : c.args.manifests.items ≡ read ++ x ∷ more =
    sym it.ensures.into_iter_gives.0
    ∙ (taken it.result read c.loop-manifest.manifest-iterator c.loop-manifest.yielded_by
    ∙ ap (λ (rest : List _). read ++ rest) c.in-Some.ensures.steps.0) in
    let fails = fails_here c.args.first bytes read x layers.items c.loop-manifest.invariant c.len.result (c.len.ensures ∙ layers.ok.0) more in
    let one = subst (λ (text : List ℕ). IsFaultOf (read_layer text) c.in-Err.fault) c.as_slice.ensures c.in-Err.ensures in
    rw (parts, c.unread.ensures) (told _ (read_layer (bytes x)) (layers_from c.args.first (map bytes (read ++ x ∷ more))) fails c.in-Err.fault one)

pub loop-manifest-preserved : goal.loop-manifest-preserved
loop-manifest-preserved g c =
    let one = subst (λ (text : List ℕ). read_layer text ≡ Ok c.in-Ok.layer) c.as_slice.ensures c.in-Ok.ensures in
    further c.args.first g.M.AsSlice.items c.loop-manifest.yielded c.in-Some.manifest c.loop-manifest.layers.items c.loop-manifest.invariant c.in-Ok.layer one
    ∙ ap Ok (sym c.in_ok-push-in-Ok.ensures.items)
