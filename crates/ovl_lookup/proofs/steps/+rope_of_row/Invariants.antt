use Rattle.ovl_lookup.proofs.steps.+rope_of_row.Given as goal

-- a call for each name
abbrev pub decreases-rope_of_row : goal.decreases-rope_of_row
decreases-rope_of_row l = l.depth
