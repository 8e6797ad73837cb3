use Rattle.std.proofs.Common.{◌++◌, ◌∙◌, string_bytes, sym, ap}
use Rattle.ovl_names.specs.Escapes.{escaped, shown_path}
use Rattle.ovl_names.proofs.PathTexts.{shown-names}
use Rattle.ovl_names.proofs.paths.Path.shown.Goals as goal

pub returns : goal.returns
returns c =
    c.in_ok-push_escaped.ensures.appended
    ∙ ((λ j. c.in_ok-text.ensures.ok j ++ escaped (c.as_str.ensures.value j))
    ∙ (sym (shown-names (string_bytes c.self.inside.text)) ∙ ap shown_path c.self.view_is))
