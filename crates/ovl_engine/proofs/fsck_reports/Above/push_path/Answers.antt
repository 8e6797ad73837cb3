use Rattle.std.proofs.Common.{◌≡◌, ◌∙◌, ◌++◌, ◌∷◌, [], List, ℕ, sym, ap, string_bytes, append_assoc}
use Rattle.std.proofs.lemmas.Result.{IfOk-weaker}
use Rattle.std.specs.Prelude.{codes}
use Rattle.ovl_names.specs.Names.{PathName}
use Rattle.ovl_names.specs.Paths.{PathNames}
use Rattle.ovl_names.specs.Escapes.{escaped, shown_path}
use Rattle.ovl_reports.specs.Reports.{shown_names}
use Rattle.ovl_reports.proofs.ListingSteps.{shown-child}
use Rattle.ovl_engine.proofs.fsck_reports.Above.push_path.Goals as goal

pub returns : goal.returns
returns c =
    let directory : PathNames = c.in-Some.directory in
    let name : PathName = c.in-Some.name.now in
    let report : List ℕ = string_bytes c.args.report.now in
    let path : c.args.path.now ≡ directory ++ name ∷ [] = sym c.names.ensures.value ∙ c.in-Some.ensures.value in
    let text : c.as_str.result.now ≡ shown_names directory = c.as_str.ensures.value ∙ (c.self.invariant ∙ ap shown_names (c.self.view_is ∙ c.in_ok-go_to.ensures)) in
    let tail : List ℕ = codes "/" ++ escaped name in
    let whole : c.as_str.result.now ++ tail ≡ shown_path c.args.path.now =
    ap (λ (l : List ℕ). l ++ tail) text ∙ (sym (shown-child directory name) ∙ ap shown_path (sym path)) in
    IfOk-weaker c.push_name.result _ _
    (λ _ added.
    added
    ∙ (ap (λ (l : List ℕ). l ++ tail) c.in_ok-push_str.ensures.bytes
    ∙ (append_assoc report c.as_str.result.now tail ∙ ap (λ (l : List ℕ). report ++ l) whole)))
    c.push_name.ensures.appended
