use Rattle.std.proofs.Common.{◌∙◌, Bool, [], List, cond, ap, subst}
use Rattle.std.specs.Prelude.{◌≡◌, IfOk}
use Rattle.ovl_names.specs.Names.{PathName}
use Rattle.ovl_merge.specs.Places.{merge_of, base}
use Rattle.ovl_merge.specs.Directories.{base_names}
use Rattle.ovl_merge.proofs.candidates.hidden_names.Goals as goal

pub returns-then-is_open : goal.returns-then-is_open
returns-then-is_open c =
    let m = merge_of c.args.stack.now in
    let directory = c.args.directory.now in
    c.new.ensures.items ∙ ap (λ (b : Bool). cond b [] (base_names m.rest (base m directory.path))) c.if-is_open.ensures

pub returns : goal.returns
returns c =
    let m = merge_of c.args.stack.now in
    let directory = c.args.directory.now in
    subst (λ (names : List PathName). IfOk c.rest_names.result (λ own. own.items ≡ names)) (ap (λ (b : Bool). cond b [] (base_names m.rest (base m directory.path))) c.if-is_open.ensures) c.rest_names.ensures
