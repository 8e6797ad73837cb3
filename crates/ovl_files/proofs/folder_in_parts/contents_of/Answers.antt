use Rattle.std.proofs.Common.{◌≡◌, length, refl, subst}
use Rattle.std.proofs.lemmas.Option.{slice_get_read}
use Rattle.ovl_files.specs.BlobFolders.{told_of}
use Rattle.ovl_files.specs.Slots.{IsAsSaid}
use Rattle.ovl_files.proofs.SlotLemmas.{as_said, given_is, told_there}
use Rattle.ovl_files.proofs.Telling.{not_some, nothing_told, told_none, told_some}
use Rattle.ovl_files.proofs.folder_in_parts.contents_of.Goals.{in-Some+in_ok-push, in_default}
use Rattle.ovl_files.proofs.folder_in_parts.contents_of.Goals as goal

pub loop-number-init : goal.loop-number-init
loop-number-init g c = rw c.in_ok-contents.ensures.items (nothing_told (IsAsSaid c.args.names.now c.args.slots.now))

pub told_or_now-requires : goal.told_or_now-requires
told_or_now-requires g c =
    told_there c.args.names.now c.args.slots.now c.loop-number.number c.index-names-number.result c.get.result c.requires.slots c.loop-number-test.true c.index-names-number.is c.get.ensures

pub loop-number-preserved : goal.loop-number-preserved
loop-number-preserved g c =
    let names = c.args.names.now in
    let number = c.loop-number.number in
    let name = c.index-names-number.result in
    let there = slice_get_read names (length names) number name refl c.loop-number-test.true c.index-names-number.is in
    let told = c.in_ok-content.ensures.told in
    let said = as_said names c.args.slots.now number name c.in_ok-content.field-0 told c.requires.ascend there (given_is _ c.told_or_now.result c.in_ok-content.field-0 (rw c.get.ensures at c.told_or_now.ensures.same) c.in_ok-content.was) in
    elim c.match-branch-3.branch [
      | in-Some+in_ok-push w ↦
          rw (w.contents-is, w.in_ok-push.ensures.items)
          (told_some (IsAsSaid names c.args.slots.now) names number name c.loop-number.contents.items c.requires.ascend c.loop-number-test.true c.index-names-number.is c.loop-number.invariant
          w.in-Some.content (told.0, subst (λ content. content ≡ told_of name told.0) w.in-Some.is told.1) said)
      | in_default w ↦
          rw (w.contents-is)
          (told_none (IsAsSaid names c.args.slots.now) names number name c.loop-number.contents.items c.requires.ascend c.loop-number-test.true c.index-names-number.is c.loop-number.invariant
          (told.0, subst (λ content. content ≡ told_of name told.0) (not_some c.in_ok-content.field-0 w.in_default.not-Some) told.1) said)
    ]
