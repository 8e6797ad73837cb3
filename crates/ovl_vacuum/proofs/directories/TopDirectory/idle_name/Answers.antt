use Rattle.ovl_vacuum.proofs.directories.TopDirectory.idle_name.Goals as goal

pub returns-clause-name : goal.returns-clause-name
returns-clause-name c = λ j. (c.in_ok-copy.ensures j, c.in_ok-idle.ensures.idle j)
