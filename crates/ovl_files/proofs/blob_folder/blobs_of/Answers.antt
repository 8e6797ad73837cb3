use Rattle.std.proofs.Common.{◌≡◌, ◌∙◌, ◌*◌, ◌++◌, ap, length, map, sym, take}
use Rattle.std.proofs.lemmas.Iterator.Adapters.{YieldsList-from_vec}
use Rattle.std.proofs.lemmas.Iterator.Consumers.{YieldsList-turn}
use Rattle.ovl_files.specs.declared.blob_folder.BlobFile.{BlobFile}
use Rattle.ovl_files.proofs.Shares.{one_more_of}
use Rattle.ovl_files.proofs.blob_folder.blobs_of.Goals as goal

pub loop-read-preserved : goal.loop-read-preserved
loop-read-preserved g c =
    let reads = c.in_ok-read-items.read-items in
    let gives = c.into_iter-read-iterator.ensures.into_iter_gives in
    let turn = YieldsList-turn (YieldsList-from_vec {s = c.into_iter-read-iterator.result} reads.items gives.0 (gives.1 ∙ reads.ok.0)) c.loop-read.yielded c.loop-read.read-iterator c.loop-read.yielded_by c.next.result c.next.new.self c.in-Some.read c.in-Some.is c.next.ensures.steps in
    let share = (c.in_ok-read-items.ensures.each (length c.loop-read.yielded) c.in-Some.read turn.0).1 in
    let same : map (λ blob. blob.name) c.in_ok-read.field-0.blobs.items ≡ map (λ file. file.name) share.argument.now = rw (sym turn.1 ∙ c.in_ok-read.was) at share.call.0 in
    let more = one_more_of (λ (file : BlobFile). file.name) c.args.files.now c.share_of-size.result c.loop-read.yielded c.in-Some.read share.argument.now share.argument_is.value in
    c.in_ok-append.ensures.added ∙ (ap (λ names. names ++ map (λ blob. blob.name) c.in_ok-read.field-0.blobs.items) c.loop-read.invariant ∙ (ap (λ names. map (λ (file : BlobFile). file.name) (take (length c.loop-read.yielded * c.share_of-size.result) c.args.files.now) ++ names) same ∙ sym more))
