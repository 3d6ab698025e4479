use Rattle.qss_run.proofs.ruled_run.write_run_by_rule.Given as goal

-- the ledger of a run is the one that is opened
abbrev pub ghosts-write_run_by : goal.ghosts-write_run_by
ghosts-write_run_by g a = record { name = a.blank.name; parts = a.blank.parts }
