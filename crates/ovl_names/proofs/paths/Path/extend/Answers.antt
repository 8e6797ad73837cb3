use Rattle.std.proofs.Common.{◌∙◌, ◌++◌, string_bytes, length, length-append, ap, arith}
use Rattle.ovl_names.specs.Paths.{PathNames, text_names}
use Rattle.ovl_names.proofs.PathTexts.{joined-named, joined-few}
use Rattle.ovl_names.proofs.paths.Path.extend.Goals as goal

pub overflow_add-self : goal.overflow_add-self
overflow_add-self c =
    let path : PathNames = text_names (string_bytes c.self.inside.text) in
    let all = c.in_ok-append.ensures.names ∙ ap (λ (back : PathNames). path ++ back) c.text.ensures.value in
    let few = joined-few (string_bytes c.append.new.text) path c.args.names.now all c.self.invariant.1 c.text.ensures.names in
    omega (arith, few, c.self.invariant.0, c.len.ensures, c.append.new.text.bytes.ok.0, c.append.new.text.bytes.ok.1, c.append.new.text.bytes.small)

pub invariant_of-self-2 : goal.invariant_of-self-2
invariant_of-self-2 c =
    let path : PathNames = text_names (string_bytes c.self.inside.text) in
    let all = c.in_ok-append.ensures.names ∙ ap (λ (back : PathNames). path ++ back) c.text.ensures.value in (
      omega (arith, c.self.invariant.0, c.len.ensures, ap length all, length-append path c.args.names.now),
      joined-named (string_bytes c.append.new.text) path c.args.names.now all c.self.invariant.1 c.text.ensures.names,
    )

pub returns : goal.returns
returns c = c.in_ok-append.ensures.names ∙ (λ j. c.self.view_is j ++ c.text.ensures.value j)
