use Rattle.ecf_pool.proofs.rounds.run_round_with.Given as goal

-- the drafts are of the book's contract and transactions
abbrev pub ghosts-round_of : goal.ghosts-round_of
ghosts-round_of g a = record { setup = a.book.setup }
