use Rattle.std.proofs.Common.{rules, ◌≡◌, ◌∙◌, ◌++◌, ◌∷◌, [], List, sym, ap, subst}
use Rattle.std.proofs.lemmas.List.{append-nil, map-id}
use Rattle.std.proofs.lemmas.List.Concat.{flat_map-append}
use Rattle.std.specs.Prelude.{OnOk}
use Rattle.std.proofs.lemmas.Iterator.Adapters.{YieldsList-from_vec}
use Rattle.std.proofs.lemmas.Iterator.Consumers.{YieldsList-end}
use Rattle.std.proofs.lemmas.Result.{on_ok_weaker}
use Rattle.std.proofs.lemmas.List.Sorted.{IsPermutation-trans, IsPermutation-append_right}
use Rattle.std.specs.List.{flat_map}
use Rattle.std.specs.List.Sorted.{IsPermutation}
use Rattle.ovl_board.specs.declared.works.Parcel.{Parcel}
use Rattle.ovl_check.specs.declared.findings.Finding.{Finding}
use Rattle.ovl_check.specs.declared.work.CheckOut.{CheckOut}
use Rattle.ovl_check.proofs.Moves.{added, kept, one-more}
use Rattle.ovl_check.proofs.finish.push_outputs.Goals.{then-is_empty+in_ok-append, else-is_empty+in_ok-append-2}
use Rattle.ovl_check.proofs.finish.push_outputs.Goals as goal

abbrev out_of : Parcel CheckOut → List Finding
out_of parcel = parcel.out.findings.items

pub loop-parcel-preserved : goal.loop-parcel-preserved
loop-parcel-preserved c =
    let before : List Finding = c.args.findings.now.items in
    let all : List Finding = flat_map out_of c.loop-parcel.yielded in
    let found : List Finding = c.in-Some.parcel.out.findings.items in
    let findings : List Finding = c.push_before.new.findings.items in
    let waiting : List Finding = c.push_before.new.waiting.items in
    let new : List Finding = c.if-is_empty.findings.items ++ c.if-is_empty.waiting.items in
    let longer : flat_map out_of (c.loop-parcel.yielded ++ c.in-Some.parcel ∷ []) ≡ all ++ found =
    flat_map-append out_of c.loop-parcel.yielded (c.in-Some.parcel ∷ []) ∙ ap (λ (l : List Finding). all ++ l) (append-nil found) in
    let last : IsPermutation ((findings ++ waiting) ++ found) new = elim c.if-is_empty.branch [
      | then-is_empty+in_ok-append w ↦
          rw (w.waiting-is) (added findings waiting found c.if-is_empty.findings.items (ap (λ v. v.items) w.findings-is ∙ w.in_ok-append.ensures.items))
      | else-is_empty+in_ok-append-2 w ↦
          rw (w.findings-is) (kept findings waiting found w.reverse.new.self.items c.if-is_empty.waiting.items w.reverse.ensures.permutation (ap (λ v. v.items) w.waiting-is ∙ w.in_ok-append-2.ensures.items))
    ] in
    subst (λ (l : List Finding). IsPermutation (before ++ l) new) (sym longer)
    (one-more before all (findings ++ waiting) found new
    (IsPermutation-trans (before ++ all) (c.loop-parcel.findings.items ++ c.loop-parcel.waiting.items) (findings ++ waiting) c.loop-parcel.invariant c.in_ok-push_before.ensures)
    last)

pub returns : goal.returns
returns c =
    let parcels : List (Parcel CheckOut) = c.args.parcels.items in
    let before : List Finding = c.args.findings.now.items in
    let all : List Finding = before ++ flat_map out_of parcels in
    let middle : List Finding = c.loop-parcel.findings.items ++ c.loop-parcel.waiting.items in
    let new : List Finding = c.loop-parcel.findings.items ++ c.reverse-2.new.self.items in
    let gives = c.into_iter-parcel-iterator.ensures.into_iter_gives in
    let end = YieldsList-end (YieldsList-from_vec {s = c.into_iter-parcel-iterator.result} parcels gives.0 (gives.1 ∙ c.args.parcels.ok.0)) c.loop-parcel.yielded c.loop-parcel.parcel-iterator c.loop-parcel.yielded_by c.next.result c.next.new.self c.in-None.is c.next.ensures.steps in
    let every : c.loop-parcel.yielded ≡ parcels = sym (map-id c.loop-parcel.yielded) ∙ end.0 in
    let is : IsPermutation all middle = subst (λ (l : List (Parcel CheckOut)). IsPermutation (before ++ flat_map out_of l) middle) every c.loop-parcel.invariant in
    let pushed : OnOk c.append-2.result (c.append-2.new.self.items ≡ new) = search rules in
    on_ok_weaker c.append-2.result (λ j. subst (λ (l : List Finding). IsPermutation all l) (sym j)
    (IsPermutation-trans all middle new is (IsPermutation-append_right c.loop-parcel.findings.items c.loop-parcel.waiting.items c.reverse-2.new.self.items c.reverse-2.ensures.permutation)))
    pushed
