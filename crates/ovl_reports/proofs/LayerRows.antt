-- Worked reports of new layers, computed.
use Rattle.std.specs.Prelude.{◌≡◌, None, [], ◌∷◌, codes, refl}
use Rattle.std.specs.Fmt.{digits}
use Rattle.hex.specs.Hex.{encode_with}
use Rattle.ovl_names.specs.Paths.{PathNames}
use Rattle.ovl_inode.specs.Attributes.{Attributes, opaque_name, redirect_name, metacopy_name}
use Rattle.ovl_inode.specs.declared.inodes.Kind.{Kind}
use Rattle.ovl_inode.specs.declared.inodes.Kind.TheVariants.{Dir, File, Char}
use Rattle.ovl_inode.proofs.OnLiterals.{inode_on_literals}
use Rattle.ovl_layer.specs.Layers.{Entry}
use Rattle.ovl_inode.specs.Inodes.{plain_inode}
use Rattle.ovl_reports.specs.LayerReports.{layer_report}

-- an entry of user, group and time 0
abbrev entry : PathNames → Kind → Attributes → Entry
entry path kind attrs = (path, plain_inode kind 0o644 attrs)

abbrev root : Entry
root = entry [] Dir []

abbrev whiteout : PathNames → Entry
whiteout path = entry path (Char 0 0) []

root_alone : layer_report (root ∷ []) ≡ codes "entries 1\n"
unfolding digits
root_alone = refl

moved_directory_unfolded : layer_report (
    root
    ∷ entry (codes "p" ∷ []) Dir ((opaque_name, codes "y") ∷ [])
    ∷ entry (codes "p" ∷ codes "q" ∷ []) Dir []
    ∷ entry (codes "p" ∷ codes "q" ∷ codes "k" ∷ []) (File 0 None) []
    ∷ whiteout (codes "x" ∷ [])
    ∷ [])
    ≡ codes "opaque /p\nplain /p/q\nleaf /p/q/k\nwhiteout /x\nentries 5\n"
unfolding digits
moved_directory_unfolded = refl

moved_directories : layer_report (
    root
    ∷ entry (codes "b" ∷ []) Dir ((redirect_name, codes "a b") ∷ [])
    ∷ entry (codes "n" ∷ []) Dir []
    ∷ entry (codes "n" ∷ codes "d" ∷ []) Dir ((redirect_name, codes "/x/y") ∷ [])
    ∷ [])
    ≡ codes "moved /b a\\x20b\nplain /n\nmoved /n/d /x/y\nentries 4\n"
unfolding digits encode_with inode_on_literals
moved_directories = refl

metacopy_files : layer_report (
    root
    ∷ entry (codes "f" ∷ []) (File 1 None) ((metacopy_name, []) ∷ [])
    ∷ entry (codes "g" ∷ []) (File 1 None) ((metacopy_name, []) ∷ (redirect_name, codes "/f") ∷ [])
    ∷ [])
    ≡ codes "meta /f\nmeta /g /f\nentries 3\n"
unfolding digits inode_on_literals
metacopy_files = refl
