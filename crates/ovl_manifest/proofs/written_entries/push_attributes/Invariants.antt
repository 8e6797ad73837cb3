use Rattle.std.proofs.Common.{◌≡◌, ◌++◌, Bool, false}
use Rattle.std.specs.Prelude.{codes}
use Rattle.serde_json.specs.Written.{comma_if}
use Rattle.ovl_manifest.specs.Compact.{attributes_text}
use Rattle.ovl_manifest.proofs.written_entries.push_attributes.Given as goal

-- the attributes that are left, after a comma where others are before them, make the text whole
abbrev pub invariant-loop-name : goal.invariant-loop-name
invariant-loop-name l =
    (before : Bool) × (l.comma ≡ comma_if before)
    × (l.text.items ++ attributes_text before l.name-iterator ≡ (l.fn.text.items ++ codes "{") ++ attributes_text false l.attrs)
