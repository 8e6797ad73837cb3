use Rattle.ovl_pool.proofs.runs.run.Given as goal

abbrev pub ghosts-run_noted-K-Ledger : goal.ghosts-run_noted-K-Ledger
ghosts-run_noted-K-Ledger g a = record { name = a.blanks.kids.name; parts = a.blanks.kids.parts }

abbrev pub ghosts-run_noted-D-Ledger : goal.ghosts-run_noted-D-Ledger
ghosts-run_noted-D-Ledger g a = record { name = a.blanks.parcels.name; parts = a.blanks.parcels.parts }
