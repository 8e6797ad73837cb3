-- Paths as texts where that of the root is empty.
use Rattle.std.specs.Prelude.{◌≡◌, ◌≤◌, ℕ, suc, Some, length, take, slice_get, List, ◌∷◌, flat_map}
use Rattle.ovl_names.specs.Names.{slash}
use Rattle.ovl_names.specs.Paths.{PathNames}

-- a separator before each name: the text of a path, where that of the root is empty
abbrev pub slashed : PathNames → List ℕ
slashed names = flat_map (λ own. slash ∷ own) names

-- where the texts of the paths on the way to a path end in its text, the root's first
pub record AreEnds (path : PathNames) (ends : List ℕ) : Type 0 where
  pub count : length ends ≡ suc (length path)
  pub places : (depth : ℕ) → depth ≤ length path
      → slice_get ends depth ≡ Some (length (slashed (take depth path)))
