use Rattle.std.proofs.Common.{◌≡◌, ◌∙◌, ◌++◌, string_bytes, length, length-append, ap, arith}
use Rattle.ovl_names.specs.Paths.{PathNames, text_names}
use Rattle.ovl_names.proofs.PathTexts.{joined-named, joined-few}
use Rattle.ovl_names.proofs.paths.Path.joined.Goals.{After-len}
use Rattle.ovl_names.proofs.paths.Path.joined.Goals as goal

appended : (c : After-len) → text_names (string_bytes c.append.new.text) ≡ text_names (string_bytes c.self.inside.text) ++ c.args.names.now
appended c =
    let above = c.in_ok-push_str.ensures.bytes ∙ (λ j. c.in_ok-text.ensures.bytes j ++ c.as_str-above.ensures.value j) in
    c.in_ok-append.ensures.names ∙ (λ j. text_names (above j) ++ c.text-below.ensures.value j)

pub overflow_add-result : goal.overflow_add-result
overflow_add-result c =
    let path : PathNames = text_names (string_bytes c.self.inside.text) in
    let few = joined-few (string_bytes c.append.new.text) path c.args.names.now (appended c) c.self.invariant.1 c.text-below.ensures.names in
    omega (arith, few, c.self.invariant.0, c.len.ensures, c.append.new.text.bytes.ok.0, c.append.new.text.bytes.ok.1, c.append.new.text.bytes.small)

pub invariant_of-result : goal.invariant_of-result
invariant_of-result c =
    let path : PathNames = text_names (string_bytes c.self.inside.text) in (
      omega (arith, c.self.invariant.0, c.len.ensures, ap length (appended c), length-append path c.args.names.now),
      joined-named (string_bytes c.append.new.text) path c.args.names.now (appended c) c.self.invariant.1 c.text-below.ensures.names,
    )

pub returns : goal.returns
returns c = appended c ∙ ap (λ (path : PathNames). path ++ c.args.names.now) c.self.view_is
