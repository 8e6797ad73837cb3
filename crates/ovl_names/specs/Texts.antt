-- The text of a name, in its value or allocated.
use Rattle.std.specs.Prelude.{ℕ, List, string_bytes}
use Rattle.ovl_names.specs.declared.texts.Text.{Text}
use Rattle.ovl_names.specs.declared.texts.Text.TheVariants.{Short, Long}

abbrev pub text_bytes : Text → List ℕ
text_bytes (Short text) = text.bytes
text_bytes (Long text) = string_bytes text
