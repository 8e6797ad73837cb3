use Rattle.std.proofs.Common.{◌≡◌, ◌∙◌, [], Option, subst}
use Rattle.std.specs.Prelude.{MatchOption}
use Rattle.std.proofs.lemmas.Result.{IfOk-weaker}
use Rattle.ovl_layer.specs.Layers.{names_below}
use Rattle.ovl_lookup.specs.Words.{top_layer}
use Rattle.ovl_vacuum.specs.declared.directories.TopDirectory.{TopDirectory}
use Rattle.ovl_vacuum.specs.Directories.{vacuum_kids, vacuum_out}
use Rattle.ovl_vacuum.specs.Visits.{IsTopDirectory}
use Rattle.ovl_vacuum.proofs.VisitLemmas.{visited-own}
use Rattle.ovl_vacuum.proofs.works.VacuumWorkWork.visit.Goals as goal
use Rattle.ovl_vacuum.proofs.works.VacuumWorkWork.visit.Goals.{In-Some}

visited : (c : In-Some) → IsTopDirectory c.self.inside.stack.now c.args.piece.now c.in-Some.directory
visited c =
    subst (λ (found : Option TopDirectory). MatchOption found (names_below (top_layer c.self.inside.stack.now) c.args.piece.now.dir ≡ []) (IsTopDirectory c.self.inside.stack.now c.args.piece.now))
    c.in-Some.is c.in_ok-directory.ensures

pub told-requires : goal.told-requires
told-requires c = visited-own c.self.inside.stack.now c.args.piece.now c.in-Some.directory (visited (goal.at.told-requires c).In-Some)

pub returns-clause-kids : goal.returns-clause-kids
returns-clause-kids c =
    let is = visited (goal.at.returns-clause-kids c).In-Some in
    IfOk-weaker c.told.result _ _
    (λ told e. e ∙ ((λ j. vacuum_kids (is.over j) (is.stands j)) ∙ (λ j. vacuum_kids (c.self.view_is j) c.args.piece.now)))
    c.told.ensures.kids

pub returns-clause-out : goal.returns-clause-out
returns-clause-out c =
    let is = visited (goal.at.returns-clause-out c).In-Some in
    IfOk-weaker c.told.result _ _
    (λ told e. e ∙ ((λ j. vacuum_out (is.over j) (is.stands j)) ∙ (λ j. vacuum_out (c.self.view_is j) c.args.piece.now)))
    c.told.ensures.names
