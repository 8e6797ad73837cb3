use Rattle.ovl_check.proofs.SoundLemmas.{findings-tell}
use Rattle.ovl_check.proofs.laws.findings_tell_soundness.Goals as goal

pub returns : goal.returns
returns c = findings-tell
