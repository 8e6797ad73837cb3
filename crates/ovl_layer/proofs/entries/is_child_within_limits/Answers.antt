use Rattle.std.proofs.Common.{◌≡◌, ◌<◌, ◌+◌, ◌∙◌, ◌∷◌, List, ℕ, true, false, sym, ap, arith, length, length-append}
use Rattle.std.specs.Prelude.{nat_le, nat_lt, ◌&&◌}
use Rattle.std.proofs.lemmas.Bool.Decides.{nat_tests}
use Rattle.ovl_names.specs.Names.{is_name, slash}
use Rattle.ovl_names.specs.Paths.{PathNames, child_path, path_text, has_names, depth_limit, text_limit}
use Rattle.ovl_layer.specs.TextPaths.{slashed}
use Rattle.ovl_names.proofs.NameLemmas.{has_names-child}
use Rattle.ovl_layer.proofs.EntryLemmas.{name_length, limits, short-limits}
use Rattle.ovl_layer.proofs.SheetLemmas.{length-child}
use Rattle.ovl_layer.proofs.WayLemmas.{slashed-child}
use Rattle.ovl_layer.proofs.entries.is_child_within_limits.Goals as goal

pub slashed_len-requires : goal.slashed_len-requires
slashed_len-requires c = omega (arith, c.len-else-len-lt-SHORT.ensures, ap length c.names-above.ensures.value, c.if-len-lt-DEPTH_LIMIT.true)

pub overflow_add-result : goal.overflow_add-result
overflow_add-result c =
    omega (arith, c.slashed_len.ensures.limit, c.len-else-len-lt-SHORT.ensures, ap length c.names-above.ensures.value, c.if-len-lt-DEPTH_LIMIT.true)

pub overflow_add-result-then-len-lt-DEPTH_LIMIT : goal.overflow_add-result-then-len-lt-DEPTH_LIMIT
overflow_add-result-then-len-lt-DEPTH_LIMIT c =
    omega (arith, c.slashed_len.ensures.limit, c.len-else-len-lt-SHORT.ensures, ap length c.names-above.ensures.value, c.if-len-lt-DEPTH_LIMIT.true, ap length c.as_str-own.ensures.value, name_length c.args.name.now c.as_str-own.ensures.name)

pub returns-then-len-lt-DEPTH_LIMIT : goal.returns-then-len-lt-DEPTH_LIMIT
returns-then-len-lt-DEPTH_LIMIT c =
    let directory : PathNames = c.args.directory.now in
    let name : List ℕ = c.args.name.now in
    let whole : c.slashed_len.result + 1 + length c.as_str-own.result.now ≡ length (slashed (child_path directory name)) =
    omega (arith, c.slashed_len.ensures.value, ap length c.as_str-own.ensures.value, ap length (slashed-child directory name), length-append (slashed directory) (slash ∷ name)) in
    ap (λ (n : ℕ). nat_le n text_limit) whole
    ∙ limits (child_path directory name) (omega (arith, length-child directory name, c.len-else-len-lt-SHORT.ensures, ap length c.names-above.ensures.value, c.if-len-lt-DEPTH_LIMIT.true))

pub returns-then-len-lt-SHORT : goal.returns-then-len-lt-SHORT
returns-then-len-lt-SHORT c =
    let directory : PathNames = c.args.directory.now in
    let name : List ℕ = c.args.name.now in
    let named : is_name name ≡ true = c.as_str-own.ensures.name in
    let above : has_names directory ≡ true = c.names-above.ensures.names in
    let few : nat_lt c.len.result 15 ≡ true = grind (arith, nat_tests) in
    few ∙ sym (short-limits (child_path directory name) (has_names-child directory name above named)
    (omega (arith, length-child directory name, c.len.ensures, ap length c.names-above.ensures.value, c.if-len-lt-SHORT.true)))

pub returns-else-len-lt-DEPTH_LIMIT : goal.returns-else-len-lt-DEPTH_LIMIT
returns-else-len-lt-DEPTH_LIMIT c =
    let path : PathNames = child_path c.args.directory.now c.args.name.now in
    let more : depth_limit < length path = omega (arith, length-child c.args.directory.now c.args.name.now, c.len-else-len-lt-SHORT.ensures, ap length c.names-above.ensures.value, c.if-len-lt-DEPTH_LIMIT.false) in
    let deep : nat_le (length path) depth_limit ≡ false = grind (arith, nat_tests) in
    let many : nat_lt c.len-else-len-lt-SHORT.result depth_limit ≡ false = grind (arith, nat_tests) in
    many ∙ sym (ap (λ b. b && nat_le (length (path_text path)) text_limit) deep)
