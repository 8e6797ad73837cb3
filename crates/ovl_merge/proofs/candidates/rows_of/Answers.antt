use Rattle.std.proofs.Common.{ℕ, Option, List, sym, subst}
use Rattle.std.proofs.lemmas.Result.{IfOk-weaker}
use Rattle.ovl_names.specs.Paths.{PathNames}
use Rattle.ovl_merge.specs.Stands.{StandsAt}
use Rattle.ovl_merge.specs.Candidates.{AreRowsOf, candidates_told}
use Rattle.ovl_merge.specs.declared.candidates.Candidate.{Candidate}
use Rattle.ovl_merge.proofs.RowLemmas.{rows-none}
use Rattle.ovl_merge.proofs.candidates.rows_of.Goals as goal

pub returns-in-Some : goal.returns-in-Some
returns-in-Some c =
    let layer = c.args.sheet.now in
    IfOk-weaker c.rows_in.result _ _ (λ rows are. λ path next is.
    (let inside = subst (λ (o : Option ℕ). StandsAt layer path o next) c.in-Some.is is in
    subst (λ (p : PathNames). AreRowsOf c.args.side layer p (candidates_told rows.items)) inside.arrival.here are)) c.rows_in.ensures

pub returns-in-None : goal.returns-in-None
returns-in-None c path next is =
    let layer = c.args.sheet.now in
    let past = subst (λ (o : Option ℕ). StandsAt layer path o next) c.in-None.is is in
    subst (λ (rows : List Candidate). AreRowsOf c.args.side layer path (candidates_told rows)) (sym c.new.ensures.items) (rows-none c.args.side layer path next past)
