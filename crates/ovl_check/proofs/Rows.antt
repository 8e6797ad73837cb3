-- The findings of worked examples, by computation.
use Rattle.std.specs.Prelude.{◌≡◌, ℕ, false, List, [], ◌∷◌, codes, Some, None, refl}
use Rattle.ovl_inode.specs.declared.inodes.Inode.{Inode}
use Rattle.ovl_inode.specs.declared.inodes.Kind.TheVariants.{Dir, File}
use Rattle.ovl_inode.specs.Attributes.{Attributes, opaque_name, redirect_name, metacopy_name, impure_name, origin_name}
use Rattle.ovl_inode.specs.Inodes.{plain_inode}
use Rattle.ovl_inode.proofs.OnLiterals.{inode_on_literals}
use Rattle.ovl_lookup.specs.Stacks.{StackView}
use Rattle.ovl_lookup.proofs.Notation.{directory, marked_x, opaque, moved, digest_a, file_a, metacopy, metacopy_moved, whiteout, empty_whiteout, full_whiteout, path, layer_of}
use Rattle.ovl_lookup.proofs.RowStacks.{stack_of, root_alone, covered, one_over, moved_twice, moved_twice_shown, opaque_with_redirect, metacopies_over}
use Rattle.ovl_check.specs.declared.findings.Code.{Code}
use Rattle.ovl_check.specs.declared.findings.Finding.{Finding}
use Rattle.ovl_check.specs.declared.findings.Code.TheVariants.{RedirectForm, RedirectLost, RedirectKind, RedirectDouble, RedirectOpen, DataMissing, DataSize, BlobMissing, BlobSize, BlobDigest, OrphanWhiteout, WhiteoutInOpaque, WhiteoutUnmarked, ImpureMissing, MarkIgnored}
use Rattle.ovl_blobs.specs.Blobs.{BlobView, is_wrong}
use Rattle.ovl_check.specs.Findings.{finding, findings}
use Rattle.ovl_blobs.proofs.Digests.{digest_abc, digest_ab, changed_abc, blob_ab, digests_on_literals}

-- a finding at a path of layer `i`, by its text
abbrev at : ℕ → List ℕ → Code → Finding
at i text code = finding i (path text) code

-- the blob of the contents `a`
abbrev blob_a : BlobView
blob_a = record { name = digest_a; bytes = codes "a" }

right : is_wrong blob_a ≡ false
unfolding digests_on_literals
right = refl

abbrev with_a : List BlobView
with_a = blob_a ∷ []

root-clean : findings [] root_alone ≡ []
unfolding inode_on_literals
root-clean = refl

covered-clean : findings with_a covered ≡ []
unfolding inode_on_literals digests_on_literals
covered-clean = refl

empty-unmarked : findings with_a (one_over directory empty_whiteout) ≡ at 0 (codes "/f") WhiteoutUnmarked ∷ []
unfolding inode_on_literals digests_on_literals
empty-unmarked = refl

empty-marked : findings with_a (one_over marked_x empty_whiteout) ≡ []
unfolding inode_on_literals digests_on_literals
empty-marked = refl

full-ignored : findings with_a (one_over directory full_whiteout) ≡ at 0 (codes "/f") MarkIgnored ∷ []
unfolding inode_on_literals digests_on_literals
full-ignored = refl

moved-clean : findings with_a moved_twice ≡ []
unfolding inode_on_literals digests_on_literals
moved-clean = refl

moved-shown-clean : findings with_a moved_twice_shown ≡ []
unfolding inode_on_literals digests_on_literals
moved-shown-clean = refl

opaque-redirect : findings with_a opaque_with_redirect ≡ at 0 (codes "/d") MarkIgnored ∷ []
unfolding inode_on_literals digests_on_literals
opaque-redirect = refl

abbrev malformed : StackView
malformed = stack_of (layer_of ((path (codes "/a"), moved (codes "/")) ∷ (path (codes "/b"), moved (codes "/a/")) ∷ (path (codes "/c"), moved (codes "a/b")) ∷ (path (codes "/e"), moved []) ∷ []) ∷ layer_of [] ∷ [])

malformed-faults : findings [] malformed ≡ at 0 (codes "/a") RedirectForm ∷ at 0 (codes "/b") RedirectForm ∷ at 0 (codes "/c") RedirectForm ∷ at 0 (codes "/e") RedirectForm ∷ []
unfolding inode_on_literals
malformed-faults = refl

-- two directories that go on at one place, which the layer doesn't hide
abbrev double : StackView
double = stack_of (layer_of ((path (codes "/a"), moved (codes "/x")) ∷ (path (codes "/b"), moved (codes "/x")) ∷ []) ∷ layer_of ((path (codes "/x"), directory) ∷ []) ∷ [])

double-faults : findings [] double ≡ at 0 (codes "/a") RedirectOpen ∷ at 0 (codes "/b") RedirectDouble ∷ at 0 (codes "/b") RedirectOpen ∷ []
unfolding inode_on_literals
double-faults = refl

lost-faults : findings [] (stack_of (layer_of ((path (codes "/a"), moved (codes "/x")) ∷ []) ∷ layer_of [] ∷ [])) ≡ at 0 (codes "/a") RedirectLost ∷ at 0 (codes "/a") RedirectOpen ∷ []
unfolding inode_on_literals
lost-faults = refl

kind-faults : findings with_a (stack_of (layer_of ((path (codes "/a"), moved (codes "/x")) ∷ (path (codes "/x"), whiteout) ∷ []) ∷ layer_of ((path (codes "/x"), file_a) ∷ []) ∷ [])) ≡ at 0 (codes "/a") RedirectKind ∷ []
unfolding inode_on_literals digests_on_literals
kind-faults = refl

metacopies-clean : findings with_a (metacopies_over file_a) ≡ []
unfolding inode_on_literals digests_on_literals
metacopies-clean = refl

metacopies-missing : findings [] (metacopies_over whiteout) ≡ at 0 (codes "/f") DataMissing ∷ at 1 (codes "/f") DataMissing ∷ at 2 (codes "/f") OrphanWhiteout ∷ []
unfolding inode_on_literals
metacopies-missing = refl

metacopies-size : findings with_a (stack_of (layer_of ((path (codes "/f"), metacopy 2) ∷ []) ∷ layer_of ((path (codes "/f"), metacopy 1) ∷ []) ∷ layer_of ((path (codes "/f"), file_a) ∷ []) ∷ [])) ≡ at 0 (codes "/f") DataSize ∷ []
unfolding inode_on_literals digests_on_literals
metacopies-size = refl

-- a directory and a file of the contents `a`, with these attributes
abbrev directory_with : Attributes → Inode
directory_with attrs = plain_inode Dir 0o755 attrs

abbrev file_with : Attributes → Inode
file_with attrs = plain_inode (File 1 (Some digest_a)) 0o644 attrs

malformed-metacopy : findings with_a (stack_of (layer_of ((path (codes "/f"), metacopy_moved 1 (codes "a/b")) ∷ []) ∷ layer_of ((path (codes "/f"), file_a) ∷ []) ∷ [])) ≡ at 0 (codes "/f") RedirectForm ∷ []
unfolding inode_on_literals digests_on_literals
malformed-metacopy = refl

-- a relative redirect in an opaque directory
closed-lost : findings [] (stack_of (layer_of ((path (codes "/n"), opaque) ∷ (path (codes "/n/d"), moved (codes "r")) ∷ []) ∷ layer_of ((path (codes "/n"), directory) ∷ (path (codes "/n/r"), directory) ∷ []) ∷ [])) ≡ at 0 (codes "/n/d") RedirectLost ∷ []
unfolding inode_on_literals
closed-lost = refl

-- a whiteout in a directory below an opaque one
closed-orphan : findings with_a (stack_of (layer_of ((path (codes "/n"), opaque) ∷ (path (codes "/n/d"), directory) ∷ (path (codes "/n/d/k"), whiteout) ∷ []) ∷ layer_of ((path (codes "/n"), directory) ∷ (path (codes "/n/d"), directory) ∷ (path (codes "/n/d/k"), file_a) ∷ []) ∷ [])) ≡ at 0 (codes "/n/d/k") OrphanWhiteout ∷ []
unfolding inode_on_literals digests_on_literals
closed-orphan = refl

-- two whiteouts in a moved directory, of which one hides something at the old place, the other nothing
abbrev below_moved_whiteouts : StackView
below_moved_whiteouts = stack_of (layer_of (
    (path (codes "/p"), moved (codes "/x"))
    ∷ (path (codes "/p/k"), whiteout)
    ∷ (path (codes "/p/z"), whiteout)
    ∷ (path (codes "/x"), whiteout)
    ∷ [])
    ∷ layer_of (
    (path (codes "/p"), directory)
    ∷ (path (codes "/p/k"), file_a)
    ∷ (path (codes "/x"), directory)
    ∷ (path (codes "/x/z"), file_a)
    ∷ [])
    ∷ [])

moved-orphan : findings with_a below_moved_whiteouts ≡ at 0 (codes "/p/k") OrphanWhiteout ∷ []
unfolding inode_on_literals digests_on_literals
moved-orphan = refl

whiteout-in-opaque : findings with_a (stack_of (layer_of ((path (codes "/d"), opaque) ∷ (path (codes "/d/k"), whiteout) ∷ []) ∷ layer_of ((path (codes "/d"), directory) ∷ (path (codes "/d/k"), file_a) ∷ []) ∷ [])) ≡ at 0 (codes "/d/k") WhiteoutInOpaque ∷ []
unfolding inode_on_literals digests_on_literals
whiteout-in-opaque = refl

-- a copied file in a directory that isn't marked as impure, and in one that is
abbrev copied : StackView
copied = stack_of (layer_of (
    (path (codes "/d"), directory)
    ∷ (path (codes "/d/k"), file_with ((origin_name, []) ∷ []))
    ∷ (path (codes "/e"), directory_with ((impure_name, codes "y") ∷ []))
    ∷ (path (codes "/e/k"), file_with ((origin_name, []) ∷ []))
    ∷ [])
    ∷ [])

impure-missing : findings with_a copied ≡ at 0 (codes "/d") ImpureMissing ∷ []
unfolding inode_on_literals digests_on_literals
impure-missing = refl

-- `opaque` on a file and of another value, `redirect` on a plain file, `metacopy` on a directory
abbrev without_meaning : StackView
without_meaning = stack_of (layer_of (
    (path (codes "/a"), file_with ((opaque_name, codes "y") ∷ []))
    ∷ (path (codes "/b"), directory_with ((opaque_name, codes "z") ∷ []))
    ∷ (path (codes "/f"), file_with ((redirect_name, codes "/x") ∷ []))
    ∷ (path (codes "/m"), directory_with ((metacopy_name, []) ∷ []))
    ∷ [])
    ∷ [])

ignored-marks : findings with_a without_meaning ≡ at 0 (codes "/a") MarkIgnored ∷ at 0 (codes "/b") MarkIgnored ∷ at 0 (codes "/f") MarkIgnored ∷ at 0 (codes "/m") MarkIgnored ∷ []
unfolding inode_on_literals digests_on_literals
ignored-marks = refl

ignored-opaque_root : findings [] (stack_of ((([], opaque) ∷ []) ∷ [])) ≡ at 0 (codes "/") MarkIgnored ∷ []
unfolding inode_on_literals
ignored-opaque_root = refl

ignored-redirect_root : findings [] (stack_of ((([], moved (codes "/x")) ∷ []) ∷ [])) ≡ at 0 (codes "/") MarkIgnored ∷ []
unfolding inode_on_literals
ignored-redirect_root = refl

-- an empty file, and files whose blobs have other bytes, aren't there, and are shorter
abbrev wrong_blobs : StackView
wrong_blobs = stack_of (layer_of (
    (path (codes "/e"), plain_inode (File 0 None) 0o644 [])
    ∷ (path (codes "/k"), plain_inode (File 3 (Some digest_abc)) 0o644 [])
    ∷ (path (codes "/m"), file_a)
    ∷ (path (codes "/s"), plain_inode (File 3 (Some digest_ab)) 0o644 [])
    ∷ []) ∷ [])

wrong-blobs-faults : findings (changed_abc ∷ blob_ab ∷ []) wrong_blobs ≡ at 0 (codes "/k") BlobDigest ∷ at 0 (codes "/m") BlobMissing ∷ at 0 (codes "/s") BlobSize ∷ []
unfolding inode_on_literals digests_on_literals
wrong-blobs-faults = refl
