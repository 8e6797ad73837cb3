use Rattle.std.proofs.Common.{◌≡◌, ◌∙◌, true, false, length, sym, arith}
use Rattle.std.specs.Prelude.{nat_lt}
use Rattle.std.proofs.lemmas.Bool.Decides.{nat_tests}
use Rattle.ovl_names.specs.Paths.{parts_between, depth_limit}
use Rattle.ovl_names.proofs.NameLemmas.{path_fault-clean}
use Rattle.ovl_names.proofs.paths.parts_fault.Goals as goal

pub returns-then-part_count-gt-DEPTH_LIMIT : goal.returns-then-part_count-gt-DEPTH_LIMIT
returns-then-part_count-gt-DEPTH_LIMIT c =
    let deep : nat_lt depth_limit (length (parts_between c.args.rest.now)) ≡ true = grind (arith, nat_tests) in
    sym (path_fault-clean c.args.rest.now c.requires (sym c.has_bad_part.ensures ∙ c.if-has_bad_part.false) ∙ rw deep)

pub returns-then-is_too_long : goal.returns-then-is_too_long
returns-then-is_too_long c =
    let deep : nat_lt depth_limit (length (parts_between c.args.rest.now)) ≡ false = grind (arith, nat_tests) in
    sym (path_fault-clean c.args.rest.now c.requires (sym c.has_bad_part.ensures ∙ c.if-has_bad_part.false) ∙ rw (deep, sym c.is_too_long.ensures ∙ c.if-is_too_long.true))

pub returns-else-is_too_long : goal.returns-else-is_too_long
returns-else-is_too_long c =
    let deep : nat_lt depth_limit (length (parts_between c.args.rest.now)) ≡ false = grind (arith, nat_tests) in
    sym (path_fault-clean c.args.rest.now c.requires (sym c.has_bad_part.ensures ∙ c.if-has_bad_part.false) ∙ rw (deep, sym c.is_too_long.ensures ∙ c.if-is_too_long.false))
