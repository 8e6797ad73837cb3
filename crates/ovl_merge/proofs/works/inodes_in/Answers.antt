use Rattle.std.proofs.Common.{◌≡◌, ◌∙◌, ◌++◌, ◌∷◌, [], List, Some, None, sym, ap}
use Rattle.std.specs.List.{filter_map}
use Rattle.std.proofs.lemmas.List.{append-nil, take_all}
use Rattle.ovl_lookup.specs.NamedLists.{names_of}
use Rattle.ovl_rewrite.specs.Directories.{NamedInode}
use Rattle.ovl_merge.specs.declared.candidates.Candidate.{Candidate}
use Rattle.ovl_merge.specs.Places.{merge_of}
use Rattle.ovl_merge.specs.Directories.{named_inode}
use Rattle.ovl_merge.specs.Candidates.{candidates_told}
use Rattle.ovl_merge.proofs.VisitLemmas.{not-some}
use Rattle.ovl_merge.proofs.CandidateLemmas.{candidate-at, listed-more}
use Rattle.ovl_merge.proofs.works.inodes_in.Goals as goal
use Rattle.ovl_merge.proofs.works.inodes_in.Goals.{in-Some+in_ok-copy+in_ok-push, in_default}

pub inode_in-requires-clause-candidate : goal.inode_in-requires-clause-candidate
inode_in-requires-clause-candidate c =
    candidate-at (merge_of c.args.stack.now) c.args.directory.now c.deref-candidate-items.result.now c.in_ok-candidates.candidates.items c.deref-candidate-items.ensures.value c.in_ok-candidates.ensures.rows c.loop-candidate.candidate-index c.candidate-item.result c.loop-candidate-test.true c.candidate-item.is

pub loop-candidate-preserved : goal.loop-candidate-preserved
loop-candidate-preserved c =
    let m = merge_of c.args.stack.now in
    let dir = c.args.directory.now.path in
    let items : List Candidate = c.deref-candidate-items.result.now in
    let j = c.loop-candidate.candidate-index in
    let candidate : Candidate = c.candidate-item.result in
    let so_far : List NamedInode = c.loop-candidate.inodes.items in
    elim c.match-branch-5.branch [
      | in-Some+in_ok-copy+in_ok-push w ↦
          let more = listed-more m dir items j candidate c.loop-candidate-test.true c.candidate-item.is so_far (Some w.in-Some.inode) c.loop-candidate.invariant.0 (sym w.in-Some.is ∙ c.in_ok-inode.ensures.inode) in
          let pushed : so_far ++ (w.in_ok-copy.field-0, w.in-Some.inode) ∷ [] ≡ so_far ++ (candidate.name.now, w.in-Some.inode) ∷ [] = λ k. so_far ++ (w.in_ok-copy.ensures k, w.in-Some.inode) ∷ [] in
          (ap (λ v. v.items) w.inodes-is ∙ (w.in_ok-push.ensures.items ∙ (pushed ∙ more)), c.in_ok-inode.ensures.whole)
      | in_default w ↦
          let more = listed-more m dir items j candidate c.loop-candidate-test.true c.candidate-item.is so_far None c.loop-candidate.invariant.0 (sym (not-some c.in_ok-inode.field-0 w.in_default.not-Some) ∙ c.in_ok-inode.ensures.inode) in
          (ap (λ v. v.items) w.inodes-is ∙ (sym (append-nil so_far) ∙ more), c.in_ok-inode.ensures.whole)
    ]

pub returns : goal.returns
returns c =
    let m = merge_of c.args.stack.now in
    let dir = c.args.directory.now.path in
    let items : List Candidate = c.deref-candidate-items.result.now in
    c.loop-candidate.invariant.0
    ∙ (ap (λ (candidates : List Candidate). filter_map (named_inode m dir) (names_of (candidates_told candidates))) (take_all c.loop-candidate.candidate-index items c.loop-candidate-test.false ∙ c.deref-candidate-items.ensures.value)
    ∙ c.in_ok-candidates.ensures.entries)
