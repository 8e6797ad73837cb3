use Rattle.std.proofs.Common.{◌∙◌, ◌++◌, ◌∷◌, [], ℕ, List, sym, ap, subst}
use Rattle.ovl_names.specs.Paths.{child_path}
use Rattle.std.proofs.Common.{take}
use Rattle.ovl_layer.specs.TextPaths.{AreEnds}
use Rattle.ovl_layer.proofs.WayLemmas.{ends-on}
use Rattle.ovl_manifest.proofs.text_paths.go_on.Goals as goal

pub returns : goal.returns
returns c = λ path name are within long.
    let onward = c.in_ok-push.ensures.items ∙ ap (λ (kept : List ℕ). kept ++ c.args.len ∷ []) c.truncate.ensures.items in
    subst (λ (ends : List ℕ). AreEnds (child_path (take c.args.depth path) name) ends) (sym onward) (ends-on path c.args.ends.now.items are c.args.depth c.args.len within name long)
