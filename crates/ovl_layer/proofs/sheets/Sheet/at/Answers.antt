use Rattle.std.proofs.Common.{[], sym, ◌∙◌, ap}
use Rattle.ovl_layer.specs.Layers.{Entries, entry_at}
use Rattle.ovl_layer.proofs.NodeLemmas.{entry_at-under}
use Rattle.ovl_layer.proofs.sheets.Sheet.at.Goals as goal

pub returns : goal.returns
returns c =
    sym (entry_at-under c.args.path.now c.args.self.now
    ∙ (ap (λ (entries : Entries). entry_at entries []) (sym c.in_ok-place.ensures.0) ∙ c.inode.ensures))

pub returns-in_err-place : goal.returns-in_err-place
returns-in_err-place c =
    rw c.from_residual.ensures (sym (entry_at-under c.args.path.now c.args.self.now ∙ ap (λ (entries : Entries). entry_at entries []) c.in_err-place.ensures))
