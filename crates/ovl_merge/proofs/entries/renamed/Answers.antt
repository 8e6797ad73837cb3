use Rattle.std.proofs.Common.{◌∙◌, sym, ap}
use Rattle.std.proofs.lemmas.Result.{IfOk-weaker}
use Rattle.ovl_names.specs.Names.{name_eq}
use Rattle.ovl_inode.specs.Attributes.{redirect_name}
use Rattle.ovl_merge.specs.MergeDown.{with_value}
use Rattle.ovl_merge.proofs.VisitLemmas.{redirect-own, redirect-beside}
use Rattle.ovl_merge.proofs.entries.renamed.Goals as goal

pub returns-then-eq : goal.returns-then-eq
returns-then-eq c above path there =
    redirect-own path c.args.name.now c.args.inode above c.args.own.now there (ap (name_eq c.args.own.now) (sym c.as_str.ensures.value) ∙ sym c.if-eq.ensures)

pub returns : goal.returns
returns c =
    IfOk-weaker c.with_value.result _ _ (λ new h. λ above path there. h
    ∙ (ap (with_value c.args.inode redirect_name) c.as_bytes.ensures.value
    ∙ redirect-beside path c.args.name.now c.args.inode above c.args.own.now there (ap (name_eq c.args.own.now) (sym c.as_str.ensures.value) ∙ sym c.if-eq.ensures))) c.with_value.ensures
