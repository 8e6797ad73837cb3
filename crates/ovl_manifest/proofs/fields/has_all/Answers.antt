use Rattle.std.proofs.Common.{ℕ, List, rules, tests, Bor}
use Rattle.std.specs.Prelude.{is_some}
use Rattle.std.proofs.lemmas.Iterator.{YieldsList-from_slice}
use Rattle.std.proofs.lemmas.Iterator.Search.{all_from_yields_List}
use Rattle.serde_json.specs.View.{view}
use Rattle.serde_json.specs.Find.{get}
use Rattle.ovl_manifest.proofs.fields.has_all.Goals as goal

pub returns : goal.returns
returns c = all_from_yields_List (λ (name : Bor (List ℕ)). is_some (get name.now (view c.args.value.now))) _ _ _ c.all.ensures.ran (YieldsList-from_slice c.args.names.now (cc)) (λ x b q k. search (rules, tests))
