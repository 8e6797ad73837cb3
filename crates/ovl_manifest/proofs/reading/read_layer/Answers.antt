use Rattle.ovl_manifest.proofs.ReadLemmas.{no_text}
use Rattle.ovl_manifest.proofs.reading.read_layer.Goals as goal

pub returns-in-Err : goal.returns-in-Err
returns-in-Err c = no_text c.args.bytes.now (λ utf8. absurd (c.in-Err.ensures.cases.0 utf8))
