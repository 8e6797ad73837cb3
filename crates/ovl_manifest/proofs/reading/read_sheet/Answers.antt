use Rattle.ovl_manifest.proofs.ReadLemmas.{no_text}
use Rattle.ovl_manifest.proofs.reading.read_sheet.Goals as goal

pub returns-in_default : goal.returns-in_default
returns-in_default c = no_text c.args.bytes.now (λ utf8. absurd (c.in_default.ensures.cases.0 utf8))
