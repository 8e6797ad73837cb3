-- The marks of rows as numbers into a list of different ones.
use Rattle.std.specs.Prelude.{◌≡◌, ℕ, ◌<◌, ◌≤◌, None, List, [], ◌∷◌, ◌++◌, length, map, slice_index_or}
use Rattle.std.specs.List.{All}
use Rattle.ovl_inode.specs.declared.marks.Mark.{Mark}
use Rattle.ovl_inode.specs.declared.marks.Mark.TheVariants.{Whiteout, DirOpaque, DirBad, DirPlain, Meta, MetaBad, Leaf}

-- the marks without a redirect
abbrev pub plain_marks : List Mark
plain_marks = Whiteout ∷ DirOpaque ∷ DirBad ∷ DirPlain ∷ Meta None ∷ MetaBad ∷ Leaf ∷ []

-- the marks that have these numbers in a list of different ones
abbrev pub marks_at : List Mark → List ℕ → List Mark
marks_at different numbers = map (λ number. slice_index_or different number Leaf) numbers

-- the list begins with the marks without a redirect, and has no more others than there are numbers;
-- each number is one of it
pub record AreMarks (different : List Mark) (numbers : List ℕ) : Type 0 where
  pub others : List Mark
  pub begins : different ≡ plain_marks ++ others
  pub few : length others ≤ length numbers
  pub inside : All (λ number. number < length different) numbers
