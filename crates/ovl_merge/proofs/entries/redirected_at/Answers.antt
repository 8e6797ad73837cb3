use Rattle.std.proofs.Common.{◌≡◌, ◌∙◌, ℕ, List, None, Bor, sym, ap}
use Rattle.std.specs.Option.{option_map}
use Rattle.std.proofs.lemmas.Result.{IfOk-weaker}
use Rattle.ovl_inode.specs.Attributes.{redirect_name}
use Rattle.ovl_merge.specs.MergeDown.{with_value}
use Rattle.ovl_merge.specs.Reckoned.{name_directly_in, reached_in}
use Rattle.ovl_merge.proofs.VisitLemmas.{redirect-far}
use Rattle.ovl_merge.proofs.entries.redirected_at.Goals as goal

pub returns : goal.returns
returns c =
    let none : None ≡ name_directly_in (reached_in c.args.base.now) c.args.path.now = ap (option_map (λ (name : Bor (List ℕ)). name.now)) (sym c.in_default.is) ∙ c.in_ok-own.ensures in
    IfOk-weaker c.with_value.result _ _ (λ new h.
    h ∙ (ap (with_value c.args.inode redirect_name) (c.as_bytes.ensures.value ∙ c.in_ok-text.ensures)
    ∙ redirect-far c.args.path.now c.args.name.now c.args.inode (reached_in c.args.base.now) none)) c.with_value.ensures
