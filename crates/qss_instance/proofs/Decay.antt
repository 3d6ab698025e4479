-- The example `decay`, by evaluation, and its bound by the theorems.
use Rattle.std.proofs.Common.{◌≡◌, ℕ, ◌+◌, ◌^◌, ◌<◌, ◌≤◌, ◌≢◌, List, [], ◌∷◌, refl, inl, ℤ, pos}
use Rattle.std.proofs.Common.{neg_ℤ, ◌+ℤ◌, ◌-ℤ◌, ◌*ℤ◌, ◌≤ℤ◌, ◌<ℤ◌, lit<, lit≤, arith}
use Rattle.std.proofs.lemmas.List.Elements.{All-from_recursion, All-nil}
use Rattle.std.proofs.lemmas.Int.{ints}
use Rattle.std.specs.Prelude.{IsTrue, unsigned_abs}
use Rattle.mu_num.specs.Sizes.{IsWithin}
use Rattle.mu_num.specs.Rounding.{floor_of}
use Rattle.mu_num.specs.Levels.{floor_level}
use Rattle.qss_machine.specs.declared.machine_parts.StateInfo.{StateInfo}
use Rattle.qss_machine.specs.declared.machine_parts.DiscreteInfo.{DiscreteInfo}
use Rattle.qss_machine.specs.declared.machine_parts.Entry.{Entry}
use Rattle.qss_machine.specs.declared.machine_parts.Product.{Product}
use Rattle.qss_machine.specs.declared.machine_parts.SlopeRow.{SlopeRow}
use Rattle.qss_machine.specs.declared.compiled_machine.Machine.{Machine}
use Rattle.qss_machine.specs.MachineLimits.{IsStateInfo, IsRow, IsClause}
use Rattle.qss_machine.specs.Slopes.{mode_fits, weight_of}
use Rattle.qss_machine.specs.Ticks.{start_snapshot, IsQuantizing}
use Rattle.qss_machine.specs.Runs.{IsFreeExecution, run_by}
use Rattle.qss_machine.proofs.Fields.{Parts, IsSound, machine_of}
use Rattle.qss_machine.proofs.OneRun.{runs_are_unique}
use Rattle.qss_machine.proofs.Rules.{rules_are_free}
use Rattle.cert_check.specs.declared.certificate.Certificate.{Certificate}
use Rattle.cert_check.specs.CertificateLimits.{IsNumber, IsVector, IsSquareTable}
use Rattle.cert_check.specs.CertificateData.{certificate_data}
use Rattle.cert_check.specs.Inequalities.{System, CertificateData, Holds, diagonal_surplus}
use Rattle.cert_check.specs.Inequalities.{decrease_matrix, slope_limit, centre_disturbance}
use Rattle.cert_check.specs.Inequalities.{pair_disturbance, level_range}
use Rattle.cert_matrix.specs.Form.{Table, minus_gram, off_diagonal_sum}
use Rattle.cert_matrix.specs.Matrix.{vector, table}
use Rattle.cert_check.specs.Systems.{system_of}
use Rattle.qss_machine.proofs.Ranges.{start_small}
use Rattle.mu_num.proofs.Quotients.{floor_meets}
use Rattle.cert_solution.specs.Solutions.{SolutionIsWithin}
use Rattle.cert_check.proofs.Admit.{admitted}
use Rattle.cert_solution.proofs.Halved.{halves}
use Rattle.qss_instance.specs.DecayInstance.{last_bound, last_state}

abbrev pub x_state : StateInfo
x_state = record { name = 120 ∷ []; x0 = pos 262144; quantum = pos 4 }

abbrev pub x_entry : List Entry
x_entry = record { var = 0; coef = neg_ℤ (pos 256) } ∷ []

abbrev pub x_row : SlopeRow
x_row = record { entries = x_entry; products = []; beta = pos 0 }

abbrev pub parts : Parts
parts = record {
  p = 8;
  k = 4;
  f = 0;
  last = 16;
  states = x_state ∷ [];
  discretes = [];
  rows = x_row
      ∷ [];
  clauses = [];
  relative = 0;
}

x_row_fits : IsRow 1 0 x_row
x_row_fits = record {
  entries = record {
    rising = λ k h. absurd (omega (arith, h));
    known = All-from_recursion (λ (e : Entry). e.var < 1) x_entry (lit< tt, tt);
    nonzero = All-from_recursion (λ (e : Entry). e.coef ≢ pos 0) x_entry ((λ e. cc), tt);
  };
  products = record {
    rising = λ k h. absurd (omega (arith, h));
    of_states = All-nil (λ (p : Product). p.state < 1);
    of_discretes = All-nil (λ (p : Product). (1 ≤ p.discrete) × (p.discrete < 1 + 0));
    nonzero = All-nil (λ (p : Product). p.coef ≢ pos 0);
  };
  coefficients = All-from_recursion (λ (e : Entry). IsWithin 44 e.coef) x_entry (lit≤ tt, tt);
  factors = All-nil (λ (p : Product). IsWithin 44 p.coef);
  constant = lit≤ tt;
}

pub sound : IsSound parts
sound = record {
  units = record {
    coefficient_bits = lit≤ tt;
    tick_bits = lit≤ tt;
    unit_bits = lit≤ tt;
    level_bits = lit≤ tt;
    state_bits = lit≤ tt;
    last_tick = lit< tt;
    share = lit≤ tt;
  };
  variables = record {
    few = lit≤ tt;
    each_state = All-from_recursion (IsStateInfo (pos (2 ^ (8 + 4)))) (x_state ∷ []) (
      record {
        start = lit≤ tt;
        level = lit≤ tt;
        quantum_low = record { le = tt };
        quantum_high =
            record { le = tt };
      },
      tt,
    );
    each_discrete = All-nil (λ (d : DiscreteInfo). IsWithin 43 d.d0);
  };
  row_limits = record {
    one_each = refl;
    each = All-from_recursion (IsRow 1 0) (x_row ∷ []) (x_row_fits, tt);
    modes = All-from_recursion (λ (row : SlopeRow). IsTrue (mode_fits 0 1 row [])) (x_row ∷ [])
        (refl, tt);
    weights = All-from_recursion (λ (row : SlopeRow). IsWithin 88
        (weight_of 0 row (pos 64 ∷ []) [])) (x_row ∷ []) (lit≤ tt, tt);
  };
  clause_limits = record { each = All-nil (IsClause 1 0); few = lit≤ tt };
}

abbrev pub machine : Machine
machine = machine_of parts sound

-- ---- the certificate

pub one-vector : (z : ℤ) → IsNumber z → IsVector 1 (z ∷ [])
one-vector z small = record {
  one_each = refl;
  each = All-from_recursion IsNumber (z ∷ [])
      (small, tt);
}

pub one-table : (z : ℤ) → IsNumber z → IsSquareTable 1 ((z ∷ []) ∷ [])
one-table z small = record {
  one_each = refl;
  each = All-from_recursion (IsVector 1) ((z ∷ []) ∷ [])
      (one-vector z small, tt);
}

abbrev pub certificate : Certificate
certificate = record {
  n = 1;
  pm = (pos 1 ∷ []) ∷ [];
  p = pos 1 ∷ [];
  mu = pos 128 ∷ [];
  lambda = pos 384;
  h1 = pos 1;
  g1 = (pos 0 ∷ []) ∷ [];
  h2 = pos 1;
  g2 = (pos 0 ∷ []) ∷ [];
  c = pos 0 ∷ [];
  r = pos 4096;
  z = pos 64 ∷ [];
  s = pos 5 ∷ [];
  sigma_r = pos 41472 ∷ [];
  cc = pos 432;
  sigma_c = pos 165888 ∷ [];
  e = pos 21 ∷ [];
  start1 = pos 262144 ∷ [];
  start2 = pos 262144 ∷ [];
  q = pos 4 ∷ [];
  has_size = record { some = lit≤ tt; few = lit≤ tt };
  has_pm = one-table (pos 1) (lit≤ tt);
  has_p = one-vector (pos 1) (lit≤ tt);
  has_mu = one-vector (pos 128) (lit≤ tt);
  has_lambda = lit≤ tt;
  has_h1 = lit≤ tt;
  has_g1 = one-table (pos 0) (lit≤ tt);
  has_h2 = lit≤ tt;
  has_g2 = one-table (pos 0) (lit≤ tt);
  has_c = one-vector (pos 0) (lit≤ tt);
  has_r = lit≤ tt;
  has_z = one-vector (pos 64) (lit≤ tt);
  has_s = one-vector (pos 5) (lit≤ tt);
  has_sigma_r = one-vector (pos 41472) (lit≤ tt);
  has_cc = lit≤ tt;
  has_sigma_c = one-vector (pos 165888) (lit≤ tt);
  has_e = one-vector (pos 21) (lit≤ tt);
  has_start1 = one-vector (pos 262144) (lit≤ tt);
  has_start2 = one-vector (pos 262144) (lit≤ tt);
  has_q = one-vector (pos 4) (lit≤ tt);
}

-- a fact of each number below 1 is a fact of 0
only : (P : ℕ → Type 0) → P 0 → (k : ℕ) → k < 1 → P k
only P zero k h = let e : k ≡ 0 = omega arith in rw e zero

abbrev m : System
m = system_of machine

abbrev x : CertificateData
x = certificate_data certificate

-- P - diag(p) less its root, and the decrease of V less its root
abbrev low : Table
low = minus_gram 1 x.h1 (diagonal_surplus x) x.g1

abbrev fall : Table
fall = minus_gram 1 x.h2 (decrease_matrix m x) x.g2

pub accepted : Holds (system_of machine) (certificate_data certificate)
accepted = record {
  signs = record {
    p = only (λ i. pos 1 ≤ℤ vector certificate.p i) (record { le = tt });
    mu = only (λ i. pos 1 ≤ℤ vector certificate.mu i) (record { le = tt });
    lambda = record { le = tt };
    h1 = record { le = tt };
    h2 = record { le = tt };
    r = record { le = tt };
    z = only (λ i. pos 0 ≤ℤ vector certificate.z i) (record { le = tt });
    s = only (λ i. pos 0 ≤ℤ vector certificate.s i) (record { le = tt });
    sigma_r = only (λ i. pos 0 ≤ℤ vector certificate.sigma_r i) (record { le = tt });
    cc = record { le = tt };
    sigma_c = only (λ i. pos 0 ≤ℤ vector certificate.sigma_c i) (record { le = tt });
    e = only (λ i. pos 0 ≤ℤ vector certificate.e i) (record { le = tt });
  };
  symmetric = λ i j h g. only (λ i. table certificate.pm i j ≡ table certificate.pm j i)
      (only (λ j. table certificate.pm 0 j ≡ table certificate.pm j 0) refl j g) i h;
  bounded_below = only (λ i. off_diagonal_sum 1 low i ≤ℤ low i i) (record { le = tt });
  decays = only (λ i. off_diagonal_sum 1 fall i ≤ℤ fall i i) (record { le = tt });
  first_start = record { le = tt };
  second_start = record { le = tt };
  starts_apart = record { le = tt };
  reach = only (λ k. pos 4096 ≤ℤ (x.p k *ℤ (x.z k *ℤ x.z k))) (record { le = tt });
  slopes = only (λ j. slope_limit m x j ≤ℤ (m.unit *ℤ x.s j)) (record { le = tt });
  centre_gains = only (λ i. (centre_disturbance m x i *ℤ centre_disturbance m x i) ≤ℤ
      (x.mu i *ℤ x.sigma_r i)) (record { le = tt });
  centre_sum = record { le = tt };
  pair_gains = only (λ i. (pair_disturbance m x i *ℤ pair_disturbance m x i) ≤ℤ
      (x.mu i *ℤ x.sigma_c i)) (record { le = tt });
  pair_sum = record { le = tt };
  distances = only (λ k. x.cc ≤ℤ (x.p k *ℤ (x.e k *ℤ x.e k))) (record { le = tt });
  quanta = only (λ j. m.quantum j ≤ℤ x.q j) (record { le = tt });
  shares = only (λ j. (m.share *ℤ level_range x j) ≤ℤ (pos 4096 *ℤ x.q j)) (record { le = tt });
}

-- ---- the run

floor_quantizes : IsQuantizing floor_level
floor_quantizes unit state old low high small old_small =
    let some : pos 0 <ℤ unit = omega (arith, ints, low) in
    let meets = floor_meets state unit some in
    near state (unit *ℤ floor_of state unit) unit meets.at_most meets.greatest
  where
    near : (x y d : ℤ) → y ≤ℤ x → x <ℤ (y +ℤ d) → pos (unsigned_abs (x -ℤ y)) <ℤ d
    near x y d a b = omega (arith, ints)

pub steps : IsFreeExecution machine 0 (start_snapshot machine)
    (run_by floor_level machine).snapshots
steps =
    let by_rule = (runs_are_unique.is_run floor_level machine).steps in
    let within = rules_are_free.leads floor_level floor_quantizes machine 0 (start_snapshot machine)
    (run_by floor_level machine).snapshots (start_small machine) by_rule in
    rules_are_free.freely machine 0 (start_snapshot machine) (run_by floor_level machine).snapshots
    within

pub near : SolutionIsWithin machine (pos 262144 ∷ []) 1 16 0 last_bound last_state
near = (halves machine certificate accepted).own (admitted machine certificate refl accepted)
    (inl refl) (run_by floor_level machine).snapshots steps 16 0 (lit≤ tt) (lit< tt)
