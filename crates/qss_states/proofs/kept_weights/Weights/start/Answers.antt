-- The absolute row sums are maintained from the start only if no bound was found.
use Rattle.qss_states.proofs.Common.{◌∙◌, ap, false, length, refl, true, Weights}
use Rattle.qss_states.proofs.Kept.{not_kept, kept_anew}
use Rattle.qss_states.proofs.kept_weights.Weights.start.Goals as goal

pub returns-in-Some-clause-weights : goal.returns-in-Some-clause-weights
returns-in-Some-clause-weights c =
    not_kept c.args.m.now c.args.levels.now c.args.d.now (record c.args.self.now { bound = c.in-Some.bound; kept = false }) refl c.requires.weights
    (c.in-Some.ensures.size_limit c.in-Some.bound refl)

pub returns-in-Some-clause-bound : goal.returns-in-Some-clause-bound
returns-in-Some-clause-bound c e = c.in-Some.ensures.found c.in-Some.bound refl

pub weigh_all_kept_rows-requires : goal.weigh_all_kept_rows-requires
weigh_all_kept_rows-requires c = record { of = record { values = c.requires.levels; one_each = ap length c.as_mut_slice.ensures.value ∙ c.requires.weights }; light = c.requires.light }

pub returns-clause-weights : goal.returns-clause-weights
returns-clause-weights c =
    let on : Weights = record c.args.self.now { kept = true } in
    kept_anew c.args.m.now c.args.levels.now c.args.d.now on c.weigh_all_kept_rows.new.weights refl c.requires.weights (c.weigh_all_kept_rows.auto.weights ∙ c.as_mut_slice.ensures.len) c.weigh_all_kept_rows.ensures
