-- The run that is printed is a free one.
use Rattle.qss_theorems.proofs.Common
use Common.{[], ℕ, ◌+◌, ◌∷◌, arith, IsFreeExecution, List, Machine, Rule, run_by_rule}
use Common.{runs_are_legitimate, runs_stay_near, Snapshot, start_snapshot, suc, take, zero}
use Rattle.std.proofs.lemmas.Int.{ints}
use Rattle.mu_num.specs.Levels.{IsWithinOneLevel}
use Rattle.mu_num.proofs.NearLevels.{floor-free, near-free, inward-free}
use Rattle.qss_machine.specs.Runs.{IsRun, run_by}
use Rattle.qss_machine.specs.Ticks.{IsQuantizing}
use Rattle.qss_machine.proofs.OneRun.{runs_are_unique}
use Rattle.qss_machine.proofs.Rules.{rules_are_free}
use Rattle.qss_events.proofs.KnownRows.{run_known}
use Rattle.qss_quant.specs.LevelRules.{level_by}
use Rattle.qss_quant.specs.declared.quantizer.Rule.TheVariants.{Floor, Near, Inward}
use Rattle.qss_theorems.specs.Printed.{PrintedRunsAreFree}

-- a rule with a name answers a level less than one away
pub quantizing : (rule : Rule) → IsQuantizing (level_by rule)
quantizing Floor unit state old low high small old_small = floor-free unit state old (omega (arith, ints, low))
quantizing Near unit state old low high small old_small = near-free unit state old (omega (arith, ints, low))
quantizing Inward unit state old low high small old_small = inward-free unit state old (omega (arith, ints, low))

pub run_is_free : (rule : Rule) (m : Machine) → IsRun IsWithinOneLevel m (run_by_rule rule m)
run_is_free rule m = rules_are_free.runs (level_by rule) (quantizing rule) m (run_by (level_by rule) m) (runs_are_unique.is_run (level_by rule) m)

pub run_leads : (rule : Rule) (m : Machine) → IsFreeExecution m 0 (start_snapshot m) (run_by_rule rule m).snapshots
run_leads rule m = rules_are_free.freely m 0 (start_snapshot m) (run_by_rule rule m).snapshots (run_is_free rule m).steps

leads_part : (m : Machine) (tick : ℕ) (w : Snapshot) (ticks : ℕ) (snapshots : List Snapshot) → IsFreeExecution m tick w snapshots → IsFreeExecution m tick w (take ticks snapshots)
leads_part m tick w zero snapshots leads = tt
leads_part m tick w (suc ticks) [] leads = tt
leads_part m tick w (suc ticks) (next ∷ snapshots) leads = (leads.0, leads_part m (tick + 1) next ticks snapshots leads.1)

pub printed_runs_are_free : PrintedRunsAreFree
printed_runs_are_free = record {
  is_run = run_is_free;
  leads = run_leads;
  near = λ rule m ticks. runs_stay_near m (take ticks (run_by_rule rule m).snapshots) (leads_part m 0 (start_snapshot m) ticks (run_by_rule rule m).snapshots (run_leads rule m));
  legitimate = λ rule m none own. runs_are_legitimate.own m (run_by_rule rule m).snapshots none own (run_leads rule m);
  bounded = λ rule m bounds none up_to. runs_are_legitimate.bounded m bounds (run_by_rule rule m).snapshots none (run_leads rule m) up_to;
  variables = λ rule m. run_known (level_by rule) m;
}
