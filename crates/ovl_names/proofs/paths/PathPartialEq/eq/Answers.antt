use Rattle.std.proofs.Common.{◌∙◌, sym, string_bytes}
use Rattle.std.specs.Str.{bytes_eq}
use Rattle.ovl_names.specs.Paths.{path_eq}
use Rattle.ovl_names.proofs.PathTexts.{text_eq-names}
use Rattle.ovl_names.proofs.paths.PathPartialEq.eq.Goals as goal

pub returns : goal.returns
returns c = c.eq.ensures ∙ ((λ j. bytes_eq (c.as_bytes.ensures.value j) (c.as_bytes-2.ensures.value j)) ∙ (sym (text_eq-names (string_bytes c.self.inside.text) (string_bytes c.other.inside.text)) ∙ (λ j. path_eq (c.self.view_is j) (c.other.view_is j))))
