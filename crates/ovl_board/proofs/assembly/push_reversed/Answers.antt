use Rattle.std.proofs.Common.{◌++◌, ◌∙◌, map, ap}
use Rattle.std.proofs.lemmas.List.{map-append}
use Rattle.std.proofs.lemmas.Iterator.Adapters.{fact_from_extend, YieldsList-from_rev_slice}
use Rattle.ovl_board.proofs.assembly.push_reversed.Goals as goal

pub returns : goal.returns
returns c =
    let kept = c.args.waiting.now.items in
    fact_from_extend (λ piece. piece.now) c.extend.result c.extend.ensures.ran (λ it b. YieldsList-from_rev_slice c.args.kids.now (ap (λ r. r.iter.rest.now) b ∙ ap (λ i. i.rest.now) c.rev.ensures.source ∙ c.iter.ensures.rest))
    (λ xs e h. ap (map (λ piece. piece.now)) h.0 ∙ map-append (λ piece. piece.now) kept xs ∙ ap (λ more. map (λ piece. piece.now) kept ++ more) e)
