use Rattle.std.proofs.Common.{◌≡◌, true, length}
use Rattle.std.specs.Str.{IsUtf8}
use Rattle.ovl_names.specs.Paths.{text_names, has_names}
use Rattle.ovl_names.specs.Ends.{LosesEnd}
use Rattle.ovl_names.proofs.ends.compare_from_ends.Given as goal

-- the names of both texts, but for the same ones at their ends
abbrev pub invariant-loop-above : goal.invariant-loop-above
invariant-loop-above l = record {
  named : has_names (text_names l.own) ≡ true;
  their_named : has_names (text_names l.their) ≡ true;
  lost : LosesEnd (text_names l.fn.text) (text_names l.fn.other) (text_names l.own) (text_names l.their);
  utf8 : IsUtf8 l.own;
  their_utf8 : IsUtf8 l.their;
}

abbrev pub decreases-loop-above : goal.decreases-loop-above
decreases-loop-above l = length (text_names l.own)
