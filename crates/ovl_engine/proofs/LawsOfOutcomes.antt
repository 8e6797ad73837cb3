-- What comes of a request, by what comes of the run of its prepared task.
use Rattle.std.proofs.Common.{◌≡◌, ℕ, true, false, Bool, Option, Result, Ok, Err, List, [], inr, refl, sym, subst}
use Rattle.ovl_names.specs.Order.{ascends}
use Rattle.ovl_lookup.specs.Stacks.{StackView}
use Rattle.ovl_board.specs.declared.pieces.Piece.{Piece}
use Rattle.ovl_blobs.specs.declared.contents.BlobInfo.{BlobInfo}
use Rattle.ovl_blobs.specs.Blobs.{BlobView, digest_cmp}
use Rattle.ovl_blobs.specs.Contents.{AreTold}
use Rattle.ovl_commands.specs.declared.requests.Command.{Command}
use Rattle.ovl_commands.specs.declared.requests.Answer.{Answer}
use Rattle.ovl_commands.specs.Commands.{checks}
use Rattle.ovl_engine.specs.declared.faults.EngineFault.{EngineFault}
use Rattle.ovl_engine.specs.Requests.{Request}
use Rattle.ovl_engine.specs.Outcomes.{IsAccepted, stack_of}
use Rattle.ovl_engine.specs.Prepared.{AreAsked, AreBlobsOf, IsOutcomeOver, IsRunOf, IsRunOver}

-- the names that are asked for ascend
pub asked_ascend : (command : Command) (stack : StackView) (names : List (List ℕ)) → AreAsked command stack names → ascends digest_cmp names ≡ true
asked_ascend command stack names asked = by (checks command) refl
  where
    by : (b : Bool) → checks command ≡ b → ascends digest_cmp names ≡ true
    by true checking = (asked.stated checking).ascend
    by false not_checking = subst (λ (ns : List (List ℕ)). ascends digest_cmp ns ≡ true) (sym (asked.none not_checking)) refl

-- where the names that are asked for are reported, this is known of the blobs of that report
pub told_blobs : (may_be : List ℕ → Option (List ℕ) → Type 0) (command : Command) (stack : StackView) (names : List (List ℕ)) (told : List BlobInfo)
    → AreAsked command stack names → (are : AreTold may_be names told) → checks command ≡ true → AreBlobsOf may_be stack are.blobs
told_blobs may_be command stack names told asked are checking = λ name stated. are.each name (((asked.stated checking).same name).1 stated)

-- what comes of a request over blobs of which this is known
pub outcome_over : (request : Request) (known : List BlobView → Type 0) (may_refuse : Piece → Type 0) (stack : StackView) (blobs : List BlobView) (result : Result Answer EngineFault)
    → IsAccepted request → stack ≡ stack_of request → (checks request.what ≡ true → known blobs) → IsRunOf request.what request.left stack blobs may_refuse result
    → IsOutcomeOver request known may_refuse result
outcome_over request known may_refuse stack blobs result accepted same there run = by result (record {
  blobs = blobs;
  there = there;
  run = subst (λ (s : StackView). IsRunOf request.what request.left s blobs may_refuse result) same run;
})
  where
    by : (one : Result Answer EngineFault) → IsRunOver request.what request.left (stack_of request) known may_refuse one → IsOutcomeOver request known may_refuse one
    by (Ok answer) is = (accepted, is)
    by (Err fault) is = inr (accepted, is)
