use Rattle.qss_top.proofs.machine_task.execute_task_on_machine.Goals as goal

pub returns-in-Run : goal.returns-in-Run
returns-in-Run g c = rw c.in-Run.is c.run_machine.ensures

pub returns-in-Propose : goal.returns-in-Propose
returns-in-Propose g c = rw c.in-Propose.is c.propose_machine.ensures

pub returns-in-Second : goal.returns-in-Second
returns-in-Second g c = rw c.in-Second.is c.second_machine.ensures

pub returns-in-Coupled : goal.returns-in-Coupled
returns-in-Coupled g c = rw c.in-Coupled.is c.coupled_machine.ensures
