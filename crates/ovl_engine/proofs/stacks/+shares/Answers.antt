use Rattle.std.proofs.Common.{◌∙◌, sym, ap, Ok}
use Rattle.std.proofs.lemmas.Result.{err_from_is_err_and}
use Rattle.ovl_engine.proofs.ManifestLemmas.{front_unread, back_unread, both_read}
use Rattle.ovl_engine.proofs.stacks.+shares.Goals as goal

pub returns-in_err-layers : goal.returns-in_err-layers
returns-in_err-layers g t c =
    let cut = c.in_ok-rest.ensures in
    let out = err_from_is_err_and c.from_residual-in_err-layers.result c.from_residual-in_err-layers.ensures.1 in
    rw (out.1, out.2) (front_unread c.args.first c.args.share g.M.AsSlice.items c.args.manifests.items c.split_off.new.self.items c.in_ok-rest.rest.items cut.items cut.tail (sym c.split_off.new.self.ok.0 ∙ cut.len)
    c.in_err-layers.field-0.0 (rw c.in_err-layers.was at c.join-read.ensures.first))

pub returns-in_err-more : goal.returns-in_err-more
returns-in_err-more g t c =
    let cut = c.in_ok-rest.ensures in
    let out = err_from_is_err_and c.from_residual-in_err-more.result c.from_residual-in_err-more.ensures.1 in
    rw (out.1, out.2) (back_unread c.args.first c.args.share g.M.AsSlice.items c.args.manifests.items c.split_off.new.self.items c.in_ok-rest.rest.items cut.items cut.tail (sym c.split_off.new.self.ok.0 ∙ cut.len)
    c.in_ok-layers.layers.items (rw c.in_ok-layers.was at c.join-read.ensures.first) c.in_err-more.field-0.0 (rw c.in_err-more.was at c.join-read.ensures.second))

pub returns : goal.returns
returns g t c =
    let cut = c.in_ok-rest.ensures in
    both_read c.args.first c.args.share g.M.AsSlice.items c.args.manifests.items c.split_off.new.self.items c.in_ok-rest.rest.items cut.items cut.tail (sym c.split_off.new.self.ok.0 ∙ cut.len)
    c.in_ok-layers.layers.items (rw c.in_ok-layers.was at c.join-read.ensures.first) c.in_ok-more.field-0.items (rw c.in_ok-more.was at c.join-read.ensures.second)
    ∙ ap Ok (sym c.in_ok-append.ensures.items)
