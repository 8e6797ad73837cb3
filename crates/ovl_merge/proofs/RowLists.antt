-- Names with their rows: what two lists in one have, and names without rows.
use Rattle.std.proofs.Common.{◌≡◌, ℕ, ◌+◌, ◌<◌, length, get_or, Bool, true, false, cond, Option, Some, None, List, [], ◌∷◌, ◌++◌, take, refl, sym, ap, ◌∙◌}
use Rattle.std.specs.Option.{option_and_then, option_or}
use Rattle.std.proofs.lemmas.List.{map-append, take_more}
use Rattle.ovl_names.specs.Names.{PathName, name_eq, name_cmp}
use Rattle.ovl_names.specs.Order.{ascends}
use Rattle.ovl_lookup.specs.NamedLists.{both_joined, names_of}
use Rattle.ovl_lookup.proofs.LawsOfNamedLists.{at, both-at, or-none}
use Rattle.ovl_merge.specs.declared.candidates.Candidate.{Candidate}
use Rattle.ovl_merge.specs.declared.candidates.Side.{Side}
use Rattle.ovl_merge.specs.declared.candidates.Side.TheVariants.{Upper, Lower}
use Rattle.ovl_merge.specs.Candidates.{Rows, Rowed, candidate_told, candidates_told, unrowed, without_row, row_on, row_at, joined}

-- of a name in two lists, the row of the first that has one
pub rows-both : (side : Side) (name : PathName) (one other : Rowed) → ascends name_cmp (names_of one) ≡ true → ascends name_cmp (names_of other) ≡ true → row_at side name (both_joined joined one other) ≡ option_or (row_at side name one) (row_at side name other)
rows-both side name = both-at joined (row_on side) (is side) name
  where
    is : (side : Side) (one other : Rows) → row_on side (joined one other) ≡ option_or (row_on side one) (row_on side other)
    is Upper one other = refl
    is Lower one other = refl

-- ---- names without rows

pub names-unrowed : (names : List PathName) → names_of (unrowed names) ≡ names
names-unrowed [] = refl
names-unrowed (name ∷ names) = ap (λ (ns : List PathName). name ∷ ns) (names-unrowed names)

pub rows-unrowed : (side : Side) (name : PathName) (names : List PathName) → row_at side name (unrowed names) ≡ None
rows-unrowed side name [] = refl
rows-unrowed side name (own ∷ names) = by (rows-unrowed side name names) (name_eq name own)
  where
    none : (side : Side) → row_on side (None, None) ≡ None
    none Upper = refl
    none Lower = refl

    by : row_at side name (unrowed names) ≡ None → (b : Bool) → option_and_then (row_on side) (cond b (Some (None, None)) (at name (unrowed names))) ≡ None
    by later true = none side
    by later false = later

pub unrowed-more : (names : List PathName) (j : ℕ) (name : PathName) → j < length names → name ≡ get_or names j name → (candidates : List Candidate) (candidate : Candidate) → candidates_told candidates ≡ unrowed (take j names) → candidate_told candidate ≡ without_row name
    → candidates_told (candidates ++ candidate ∷ []) ≡ unrowed (take (j + 1) names)
unrowed-more names j name inside here candidates candidate so_far told =
    map-append candidate_told candidates (candidate ∷ [])
    ∙ ((λ k. so_far k ++ told k ∷ [])
    ∙ sym (ap unrowed (take_more names j name inside ∙ ap (λ (n : PathName). take j names ++ n ∷ []) (sym here)) ∙ map-append without_row (take j names) (name ∷ [])))

-- a name that has one on neither side keeps those that it has
pub or-nothing : (one other : Option ℕ) → other ≡ None → option_or one other ≡ one
or-nothing one other none = ap (option_or one) none ∙ or-none one
