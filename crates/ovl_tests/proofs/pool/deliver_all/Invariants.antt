use Rattle.ovl_tests.proofs.pool.deliver_all.Given as goal

abbrev pub ghosts-deliver_by-K-Ledger : goal.ghosts-deliver_by-K-Ledger
ghosts-deliver_by-K-Ledger a = record { name = a.kids.name; parts = a.kids.parts }

abbrev pub ghosts-deliver_by-D-Ledger : goal.ghosts-deliver_by-D-Ledger
ghosts-deliver_by-D-Ledger a = record { name = a.parcels.name; parts = a.parcels.parts }
