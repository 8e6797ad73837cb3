-- What a folder's listing says of the files of blobs.
use Rattle.std.specs.Prelude.{ℕ, Option, List, bytes_eq, find, reverse}
use Rattle.std.specs.Option.{option_map}
use Rattle.ovl_files.specs.declared.blob_folder.BlobFile.{BlobFile}

-- the length of the file of this name; where several have it, of the last
abbrev pub length_of : List BlobFile → List ℕ → Option ℕ
length_of files name =
    option_map (λ file. file.length) (find (λ file. bytes_eq file.name name) (reverse files))
