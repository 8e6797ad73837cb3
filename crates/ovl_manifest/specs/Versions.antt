-- The versions of a manifest's form: what entries of all kinds have in each, and how deep a path
-- may be.
use Rattle.std.specs.Prelude.{ℕ, ◌==◌, Option, Some, None, List, [], ◌∷◌, if◌then◌else◌, codes}
use Rattle.ovl_names.specs.Paths.{depth_limit}
use Rattle.ovl_manifest.specs.declared.versions.Version.{Version}
use Rattle.ovl_manifest.specs.declared.versions.Version.TheVariants.{One, Two}

-- the number of a version, and the version of a number
abbrev pub version_number : Version → ℕ
version_number One = 1
version_number Two = 2

abbrev pub version_of : ℕ → Option Version
version_of number = if number == 1 then Some One else if number == 2 then Some Two else None

-- the version that is written
abbrev pub written : Version
written = Two

-- the most names of a path
abbrev pub depth_of : Version → ℕ
depth_of One = 64
depth_of Two = depth_limit

-- the members that entries of all kinds have
abbrev pub common_members : Version → List (List ℕ)
common_members One =
    codes "gid" ∷ codes "kind" ∷ codes "mode" ∷ codes "mtime" ∷ codes "path" ∷ codes "uid"
    ∷ codes "xattrs" ∷ []
common_members Two =
    codes "gid" ∷ codes "kind" ∷ codes "mode" ∷ codes "mtime" ∷ codes "mtime-nsec" ∷ codes "path"
    ∷ codes "uid" ∷ codes "xattrs" ∷ []
