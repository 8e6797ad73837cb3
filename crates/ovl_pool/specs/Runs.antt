-- What the faults of a run say.
use Rattle.std.specs.Prelude.{◌≡◌, ◌≢◌, ◌↔◌, ◌⊎◌, ℕ, Bool, List, Option, is_some, true, false}
use Rattle.ovl_board.specs.declared.pieces.Piece.{Piece}
use Rattle.ovl_board.specs.declared.assembly.BoardFault.TheVariants.{Memory as BoardMemory}
use Rattle.ovl_board.specs.Walks.{Reached, ToKid}
use Rattle.ovl_lanes.specs.declared.seats.LaneFault.{LaneFault}
use Rattle.ovl_lanes.specs.declared.seats.LaneFault.TheVariants.{Count, Memory as LaneMemory}
use Rattle.ovl_pool.specs.declared.runs.RunCount.{RunCount}
use Rattle.ovl_pool.specs.declared.runs.RunFault.{RunFault}
use Rattle.ovl_pool.specs.declared.runs.RunFault.TheVariants.{Workers, Gate, Board, Memory}

-- the fault of a run for which there are no lanes
abbrev pub no_lanes : LaneFault → RunFault
no_lanes Count = Workers
no_lanes LaneMemory = Memory

-- the gate may refuse some piece to which kids lead from the root
abbrev pub MayBeRefused : (Piece → List Piece) → (Piece → Type 0) → Piece → Type 0
MayBeRefused kids may_refuse root = (p : Piece) × (Reached (ToKid kids) root p × may_refuse p)

-- a fault of the board is out of memory
abbrev pub IsBoardMemory : RunFault → Type 0
IsBoardMemory (Board fault) = fault ≡ BoardMemory
IsBoardMemory Workers = Unit {0}
IsBoardMemory Gate = Unit {0}
IsBoardMemory Memory = Unit {0}

-- a run that met no fault gave no walk: it ended before all that is known was delivered, or memory
-- to assemble the parcels is wanted
abbrev pub IsEndFault : RunCount → RunFault → Type 0
IsEndFault count fault =
    ((fault ≡ Memory) × (count.known ≢ count.delivered))
    ⊎ ((fault ≡ Board BoardMemory) × (count.known ≡ count.delivered))

-- a run that gave no walk: that the gate refused a piece goes before a lack of memory of a worker,
-- and that before all else
pub record IsRunFault (refused : Option Piece) (out_of_memory : Bool) (count : RunCount)
    (fault : RunFault) : Type 0 where
  pub gate : (fault ≡ Gate) ↔ (is_some refused ≡ true)
  pub memory : is_some refused ≡ false → out_of_memory ≡ true → fault ≡ Memory
  pub end : is_some refused ≡ false → out_of_memory ≡ false → IsEndFault count fault

-- this many pieces were known, delivered and taken, and none is left
abbrev pub CountsAll : ℕ → RunCount → Type 0
CountsAll n count = (count.known ≡ n) × (count.delivered ≡ n) × (count.taken ≡ n) × (count.left ≡ 0)
