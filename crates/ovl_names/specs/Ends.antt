-- Lists of names, and texts of names, compared from their last ones on.
use Rattle.std.specs.Prelude.{◌≡◌, ◌≢◌, ◌⊎◌, ℕ, ◌<◌, ◌≤◌, ◌-◌, true, List, [], ◌++◌, reverse, length, drop, slice_index}
use Rattle.std.specs.Ordering.{ordering_then, is_ne}
use Rattle.std.specs.declared.cmp.Ordering.{Ordering}
use Rattle.std.specs.declared.cmp.Ordering.TheVariants.{Less, Equal, Greater}
use Rattle.ovl_names.specs.declared.ends.Ends.{Ends}
use Rattle.ovl_names.specs.declared.ends.Ends.TheVariants.{Apart, Left}
use Rattle.ovl_names.specs.Names.{slash}
use Rattle.ovl_names.specs.Paths.{PathNames, path_cmp, text_names}

-- two lists of names are so to each other name by name from the last one on as `order` says first,
-- and what is left of them then, whatever is before them
abbrev pub OrdersEnds : PathNames → PathNames → PathNames → PathNames → Ordering → Type 0
OrdersEnds own other own_left other_left order =
    (above other_above : PathNames)
    → path_cmp (reverse (above ++ own)) (reverse (other_above ++ other))
    ≡ ordering_then order
    (path_cmp (reverse (above ++ own_left)) (reverse (other_above ++ other_left)))

-- the same names are taken from the ends of two lists
abbrev pub LosesEnd : PathNames → PathNames → PathNames → PathNames → Type 0
LosesEnd own other own_left other_left =
    (names : PathNames) × (own ≡ own_left ++ names) × (other ≡ other_left ++ names)

-- what is left of two lists whose names are compared from the last ones on: where no two differ one
-- of them has none left
abbrev pub LeavesEnds : PathNames → PathNames → PathNames → PathNames → Ordering → Type 0
LeavesEnds own other own_left other_left Less = (own_left ≡ own) × (other_left ≡ other)
LeavesEnds own other own_left other_left Equal =
    LosesEnd own other own_left other_left × ((own_left ≡ []) ⊎ (other_left ≡ []))
LeavesEnds own other own_left other_left Greater = (own_left ≡ own) × (other_left ≡ other)

-- what comes of the names of two texts
abbrev pub IsEnds : PathNames → PathNames → Ends → Type 0
IsEnds own other (Apart order) = (is_ne order ≡ true) × OrdersEnds own other own other order
IsEnds own other (Left text other_text) =
    LosesEnd own other (text_names text.now) (text_names other_text.now)
    × ((text_names text.now ≡ []) ⊎ (text_names other_text.now ≡ []))

-- two texts have this many bytes, and their last this many are the same
pub record HasCommonEnd (count : ℕ) (own other : List ℕ) : Type 0 where
  pub own_fits : count ≤ length own
  pub other_fits : count ≤ length other
  pub same : drop (length own - count) own ≡ drop (length other - count) other

-- the last this many bytes of two texts are the most that are the same in both and begin with a
-- separator; 0 where none do
pub record IsCommonNames (own other : List ℕ) (count : ℕ) : Type 0 where
  pub common : HasCommonEnd count own other
  pub begins : 0 < count → slice_index own (length own - count) ≡ slash
  pub longest : (more : ℕ) → count < more → HasCommonEnd more own other
      → slice_index own (length own - more) ≢ slash
