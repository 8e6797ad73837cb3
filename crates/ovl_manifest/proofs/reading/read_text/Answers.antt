use Rattle.std.proofs.Common.{◌≡◌, Ok, Result, MatchResult, subst, sym}
use Rattle.serde_json.specs.View.{view}
use Rattle.ovl_layer.specs.Entries.{IsFaultOf}
use Rattle.ovl_layer.specs.Layers.{Entries}
use Rattle.ovl_layer.specs.declared.faults.LayerFault.{LayerFault}
use Rattle.ovl_manifest.proofs.ReadLemmas.{text_read}
use Rattle.ovl_manifest.proofs.reading.read_text.Goals as goal

pub returns-in-Ok : goal.returns-in-Ok
returns-in-Ok c =
    subst (λ (stated : Result Entries LayerFault). MatchResult c.layer_of.result (λ layer. stated ≡ Ok layer) (λ fault. IsFaultOf stated fault))
    (sym (text_read c.args.text.now (view c.in-Ok.value) c.utf8.text c.in-Ok.ensures.ok)) c.layer_of.ensures
