use Rattle.std.proofs.Common.{◌∙◌, sym, ap, subst}
use Rattle.std.proofs.lemmas.Result.{IfOk-weaker}
use Rattle.ovl_merge.specs.Places.{merge_of}
use Rattle.ovl_merge.specs.Directories.{base_names}
use Rattle.ovl_merge.specs.Reckoned.{IsBase}
use Rattle.ovl_merge.proofs.Core.{base-reach}
use Rattle.ovl_merge.proofs.FinishLemmas.{merge-each}
use Rattle.ovl_merge.proofs.LayerLemmas.{rest}
use Rattle.ovl_merge.proofs.VisitLemmas.{view-kids}
use Rattle.ovl_merge.proofs.BaseLemmas.{none-reached, unreached-names}
use Rattle.ovl_merge.proofs.directories.Directory.rest_names.Goals as goal

pub returns-in-Reached : goal.returns-in-Reached
returns-in-Reached c =
    let stack = c.args.stack.now in
    let m = merge_of stack in
    let each = rest m (merge-each stack c.requires.several c.ordinary-layers.ensures.each) in
    let based = subst (IsBase stack c.args.self.now.path) c.in-Reached.is c.requires.base in
    IfOk-weaker c.names.result _ _ (λ names are.
    view-kids stack each c.in-Reached.view.path c.in-Reached.view based.1 names.items are
    ∙ sym (ap (base_names m.rest) (base-reach m c.args.self.now.path c.in-Reached.view.path based.0))) c.names.ensures

pub returns-in-Apart : goal.returns-in-Apart
returns-in-Apart c =
    let stack = c.args.stack.now in
    let m = merge_of stack in
    let each = rest m (merge-each stack c.requires.several c.ordinary-layers.ensures.each) in
    c.new.ensures.items ∙ unreached-names stack each c.args.self.now.path c.args.self.now.base c.requires.base (none-reached stack c.args.self.now.path c.args.self.now.base c.requires.base c.in-Apart.is)
