use Rattle.std.specs.Fs.{dir_entry_name}
use Rattle.std.proofs.lemmas.List.Elements.{All-push}
use Rattle.ovl_files.specs.declared.blob_folder.BlobFile.{BlobFile}
use Rattle.ovl_files.specs.BlobFolders.{IsNamedBy}
use Rattle.ovl_files.proofs.blob_folder.blob_files.Goals as goal

pub loop-entry-preserved-in-Some-2 : goal.loop-entry-preserved-in-Some-2
loop-entry-preserved-in-Some-2 g c =
    let named = rw (c.in-Some-2.is) at c.in_ok-file.ensures.named in
    rw (c.in_ok-push.ensures.items) (All-push (λ (file : BlobFile). IsNamedBy file.name) c.loop-entry.files.items c.in-Some-2.file c.loop-entry.invariant (dir_entry_name c.in_ok-entry.field-0, named))
