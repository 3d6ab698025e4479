use Rattle.qss_run.proofs.run_summary.summarize.Given as goal

-- the ledger of a run is the one that is opened
abbrev pub ghosts-summarize_by : goal.ghosts-summarize_by
ghosts-summarize_by a = record { name = a.blank.name; parts = a.blank.parts }
