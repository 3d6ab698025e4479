-- The example `decay`: its machine, its run and its certificate as numbers, and the bound of the
-- run's last state. The theorem shows that the premises of the theorems on bounds can hold.
use Rattle.std.specs.Prelude.{◌≡◌, ℕ, List, [], ◌∷◌, ◌++◌, ℤ, pos, neg_ℤ, codes, flat_map, None}
use Rattle.mu_num.specs.Fraction.{Fraction, whole}
use Rattle.mu_num.specs.Levels.{floor_level}
use Rattle.mu_num.specs.Limits.{relative_unit}
use Rattle.qss_machine.specs.declared.machine_parts.Row.{Row}
use Rattle.qss_machine.specs.declared.machine_parts.RowKind.{RowKind}
use Rattle.qss_machine.specs.declared.machine_parts.RowKind.TheVariants.{Start, Level, End}
use Rattle.qss_machine.specs.declared.compiled_machine.Machine.{Machine}
use Rattle.qss_machine.specs.Runs.{run_by, run_rows}
use Rattle.cert_check.specs.declared.certificate.Certificate.{Certificate}
use Rattle.cert_check.specs.CertificateTexts.{IsTextOf}
use Rattle.cert_check.specs.Inequalities.{Holds}
use Rattle.cert_check.specs.CertificateData.{certificate_data}
use Rattle.cert_check.specs.Systems.{system_of}
use Rattle.cert_solution.specs.Solutions.{SolutionIsWithin}
use Rattle.qss_compile.specs.Compilation.{CompilesTo}

-- the bytes of examples/decay.mo
abbrev pub decay_source : List ℕ
decay_source =
    codes "model decay Real x(start = 64); equation der(x) = -1*x; "
    ++ codes "annotation(experiment(StopTime = 1, QSS_CoefBits = 8, QSS_TickBits = 4, "
    ++ codes "QSS_LevelBits = 0, QSS_Quantum = 4)); end decay;"
    ++ 10 ∷ []

-- the machine of examples/decay.mo: x falls at its own size, from 64 levels
-- A level is 4096 units of a state, and a tick is 1/16 second.
pub record IsDecay (m : Machine) : Type 0 where
  pub coefficient_bits : m.p ≡ 8
  pub tick_bits : m.k ≡ 4
  pub level_bits : m.f ≡ 0
  pub last_tick : m.last ≡ 16
  -- x, with the start 64 levels and the quantum 4 levels
  pub states : m.states ≡ record { name = codes "x"; x0 = pos 262144; quantum = pos 4 } ∷ []
  pub discretes : m.discretes ≡ []
  -- the coefficient -1 of x, in units of 2 ^ -8
  pub rows : m.rows ≡ record {
    entries = record { var = 0; coef = neg_ℤ (pos 256) } ∷ [];
    products =
        [];
    beta = pos 0;
  } ∷ []
  pub clauses : m.clauses ≡ []
  pub relative : m.relative ≡ 0

-- a row of x
abbrev pub row : ℕ → RowKind → ℤ → ℤ → Row
row tick kind level state = record {
  tick = tick;
  kind = kind;
  var = 0;
  level = level;
  state = state;
}

-- the rows of its run under the rule `floor`
abbrev pub decay_rows : List Row
decay_rows =
    row 0 Start (pos 64) (pos 262144)
    ∷ row 1 Level (pos 60) (pos 245760)
    ∷ row 3 Level (pos 52) (pos 215040)
    ∷ row 5 Level (pos 46) (pos 188416)
    ∷ row 7 Level (pos 40) (pos 164864)
    ∷ row 9 Level (pos 35) (pos 144384)
    ∷ row 11 Level (pos 30) (pos 126464)
    ∷ row 14 Level (pos 25) (pos 103424)
    ∷ row 16 End (pos 25) (pos 90624)
    ∷ []

-- lines, each with a line feed
abbrev pub text_lines : List (List ℕ) → List ℕ
text_lines = flat_map (λ line. line ++ 10 ∷ [])

-- the bytes of examples/decay.cert
abbrev pub decay_certificate : List ℕ
decay_certificate =
    text_lines
    (codes "form,1"
    ∷ codes "P,1"
    ∷ codes "p,1"
    ∷ codes "mu,128"
    ∷ codes "lambda,384"
    ∷ codes "h1,1"
    ∷ codes "G1,0"
    ∷ codes "h2,1"
    ∷ codes "G2,0"
    ∷ codes "c,0"
    ∷ codes "R,4096"
    ∷ codes "Z,64"
    ∷ codes "S,5"
    ∷ codes "sigmaR,41472"
    ∷ codes "C,432"
    ∷ codes "sigmaC,165888"
    ∷ codes "E,21"
    ∷ [])

-- the numbers of examples/decay.cert, with the start and the quantum of the machine
pub record IsDecayCertificate (c : Certificate) : Type 0 where
  pub size : c.n ≡ 1
  pub form : c.pm ≡ (pos 1 ∷ []) ∷ []
  pub least : c.p ≡ pos 1 ∷ []
  pub decrease : c.mu ≡ pos 128 ∷ []
  pub rate : c.lambda ≡ pos 384
  pub first_factor : c.h1 ≡ pos 1
  pub first_root : c.g1 ≡ (pos 0 ∷ []) ∷ []
  pub second_factor : c.h2 ≡ pos 1
  pub second_root : c.g2 ≡ (pos 0 ∷ []) ∷ []
  pub centre : c.c ≡ pos 0 ∷ []
  pub basin : c.r ≡ pos relative_unit
  pub reach : c.z ≡ pos 64 ∷ []
  pub changes : c.s ≡ pos 5 ∷ []
  pub centre_gains : c.sigma_r ≡ pos 41472 ∷ []
  pub apart : c.cc ≡ pos 432
  pub pair_gains : c.sigma_c ≡ pos 165888 ∷ []
  -- E
  pub bound : c.e ≡ pos 21 ∷ []
  pub first_start : c.start1 ≡ pos 262144 ∷ []
  pub second_start : c.start2 ≡ pos 262144 ∷ []
  pub quantum : c.q ≡ pos 4 ∷ []

-- the state of x at tick 16, in units of a state: 22.125 levels
abbrev pub last_state : Fraction
last_state = whole (pos 90624)

-- E/2 in units of a state: 10.5 levels
abbrev pub last_bound : Fraction
last_bound = record { num = pos 86016; den = 2 }

-- the machine, its run, its certificate, and the bound that these imply
pub record DecayIsBounded : Type 0 where
  pub machine : Machine
  pub is_decay : IsDecay machine
  -- the bytes of examples/decay.mo compile to it
  pub compiles : CompilesTo decay_source machine
  -- its run does not overflow, and has these rows
  pub ends : (run_by floor_level machine).overflow ≡ None
  pub rows : run_rows machine (run_by floor_level machine) ≡ decay_rows
  -- this certificate's conditions hold
  pub certificate : Certificate
  pub is_certificate : IsDecayCertificate certificate
  -- and the bytes of examples/decay.cert are its text
  pub is_text : IsTextOf machine decay_certificate certificate
  pub accepted : Holds (system_of machine) (certificate_data certificate)
  -- so the run's state at tick 16 is within 10.5 levels of the solution of x' = -x, x(0) = 64
  -- levels
  pub near : SolutionIsWithin machine (pos 262144 ∷ []) 1 16 0 last_bound last_state
