use Rattle.std.proofs.Common.{String, arith, string_bytes}
use Rattle.std.specs.Global.{Global}
use Rattle.std.proofs.lemmas.List.Elements.{All-push}
use Rattle.ovl_program.specs.LayerFiles.{IsLayerFile}
use Rattle.ovl_program.proofs.output.layer_files.layer_paths.Goals as goal

pub loop-index-preserved : goal.loop-index-preserved
loop-index-preserved c =
    let named = λ (path : String Global). IsLayerFile c.args.folder.now c.args.count (string_bytes path) in
    let here : named c.in_ok-layer_path.field-0 = (c.loop-index.index, (omega arith, c.in_ok-layer_path.ensures)) in (
      omega (arith, c.in_ok-push.ensures.len),
      rw c.in_ok-push.ensures.items (All-push named c.loop-index.paths.items c.in_ok-layer_path.field-0 c.loop-index.invariant.1 here),
    )
