use Rattle.ecf_crew_tests.proofs.rounds.run.Given as goal

-- the ledger is that of the blank
abbrev pub ghosts-round_from : goal.ghosts-round_from
ghosts-round_from g a = record { name = a.blank.name; parts = a.blank.parts }
