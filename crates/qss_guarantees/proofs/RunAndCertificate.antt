-- A printed run lies within half of the printed bounds of the solution.
use Rattle.qss_guarantees.proofs.Common
use Common.{[], ℕ, ◌<◌, ◌∙◌, ◌∷◌, ◌≡◌, All, Answer, ap, AreReadInOrder, arith, Call, certify_model}
use Common.{Command, faulted, fully_read, get_or, HasPropertiesOfReads, inl, inr, is_defined}
use Common.{is_too_long, IsRunStatus, IsSourceMachine, length, length-map, levels_from, List}
use Common.{Machine, printed_run_answer, Reading, reading, refl, run_by_rule, run_model, run_rows}
use Common.{RunOptions, seen, Snapshot, start_snapshot, start_states, states_from, Status, subst}
use Common.{sym, take, true}
use Rattle.mu_io.specs.Readings.{Stage}
use Rattle.cert_solution.proofs.Halved.{halves}
use Rattle.qss_quant.specs.declared.quantizer.Rule.{Rule}
use Rattle.qss_theorems.proofs.Printed.{run_leads}
use Rattle.qss_guarantees.specs.AnswerLaws.{HasProperties}
use Rattle.qss_guarantees.specs.Guarantees.{IsCertified}
use Rattle.qss_guarantees.specs.RunAndCertificate.{ExecutesCommand, PrintsState, states_by_rule}
use Rattle.qss_guarantees.specs.RunAndCertificate.{PrintedRunsAreNearSolution}
use Rattle.qss_guarantees.proofs.CallProperties.{sessions_have_properties}
use Rattle.qss_guarantees.proofs.PrintedStates.{printed_fields}
use Rattle.qss_guarantees.proofs.Sources.{one_source_machine}
use Rattle.qss_top.specs.declared.status.Status.TheVariants as ends

-- ---- what each of the two runs of the program printed

-- the status of a run is specified
run_defined : (status : Status) → IsRunStatus status → is_defined status ≡ true
run_defined status (inl ok) = rw ok refl
run_defined status (inr over) = rw over refl

-- the properties of a run of the program, for its text and its readings
module _ (command : Command) (call : Call) (done : is_defined call.status ≡ true) where
  properties : ExecutesCommand command call
      → (line : List ℕ) × HasPropertiesOfReads command (seen call.status call.text line call.reads)
  properties (out_faults, err_faults, session) =
      let (line, accepted, has) =
      sessions_have_properties command call out_faults err_faults session done in
      (line, has)

-- the state of the last reading, its bytes, and the bytes of the reading before it
abbrev last_stage : List Reading → Stage
last_stage [] = faulted
last_stage (last ∷ before) = last.stage

abbrev last_bytes : List Reading → List ℕ
last_bytes [] = []
last_bytes (last ∷ before) = last.bytes

abbrev earlier_bytes : List Reading → List ℕ
earlier_bytes [] = []
earlier_bytes (last ∷ before) = last_bytes before

-- `run` printed the run of the machine to which the source compiles
abbrev IsPrinted : RunOptions → (source out : List ℕ) → Type 0
IsPrinted options source out = (m : Machine) × IsSourceMachine options.share source m
    × (out ≡ (printed_run_answer options m).out)

printed_run : (model : List ℕ) (options : RunOptions) (source : List ℕ) (call : Call)
    → HasPropertiesOfReads (run_model model options) call → IsRunStatus call.status
    → call.reads ≡ reading model source fully_read ∷ [] → IsPrinted options source call.text
printed_run model options source call has done reads =
    by has.contents has.answer has.read (subst IsRunStatus has.status_is done) has.text_is
    has.properties
  where
    by : (contents : List (List ℕ)) (answer : Answer)
        → AreReadInOrder (is_too_long answer) (take (length contents) (model ∷ [])) contents []
        call.reads → IsRunStatus answer.status → call.text ≡ answer.out
        → HasProperties (run_model model options) contents answer
        → IsPrinted options source call.text
    by [] answer read ran text none = absurd (none ran)
    by (bytes ∷ []) answer (inl read) ran text (compiles, prints) =
        let same : bytes ≡ source = sym (ap last_bytes read) ∙ ap last_bytes reads in
        let (m, means) = compiles ran in
        (m, rw same at means, text ∙ ap (λ (x : Answer). x.out) (prints m means))
    by (bytes ∷ []) answer (inr (stopped, last, more, read)) ran text both =
        absurd (cc (sym (ap last_stage read) ∙ ap last_stage reads))
    by (bytes ∷ other ∷ contents) answer read ran text none = absurd (none ran)

accepted_text : (model certificate : List ℕ) (share : ℕ) (source text : List ℕ) (call : Call)
    → HasPropertiesOfReads (certify_model model certificate share) call
    → call.status ≡ ends.Ok → call.reads
    ≡ reading certificate text fully_read ∷ reading model source fully_read ∷ []
    → IsCertified share source text call.text
accepted_text model certificate share source text call has ok reads =
    by has.contents has.answer has.read (sym has.status_is ∙ ok) has.text_is has.properties
  where
    by : (contents : List (List ℕ)) (answer : Answer)
        → AreReadInOrder (is_too_long answer)
        (take (length contents) (model ∷ certificate ∷ [])) contents [] call.reads
        → answer.status ≡ ends.Ok → call.text ≡ answer.out
        → HasProperties (certify_model model certificate share) contents answer
        → IsCertified share source text call.text
    by [] answer read done out none = absurd (none (inl done))
    by (bytes ∷ []) answer read done out none = absurd (none (inl done))
    by (bytes ∷ own ∷ []) answer (inl (inl read)) done out (sound, complete) =
        let first : bytes ≡ source = sym (ap earlier_bytes read) ∙ ap earlier_bytes reads in
        let second : own ≡ text = sym (ap last_bytes read) ∙ ap last_bytes reads in
        let is : IsCertified share bytes own answer.out = sound done in
        subst (λ (t : List ℕ). IsCertified share source text t) (sym out)
        (subst (λ (t : List ℕ). IsCertified share source t answer.out) second
        (subst (λ (t : List ℕ). IsCertified share t own answer.out) first is))
    by (bytes ∷ own ∷ []) answer (inl (inr (stopped, last, more, read))) done out both =
        absurd (cc (sym (ap last_stage read) ∙ ap last_stage reads))
    by (bytes ∷ own ∷ []) answer (inr (stopped, last, more, read)) done out both =
        absurd (cc last)
    by (bytes ∷ own ∷ other ∷ contents) answer read done out none = absurd (none (inl done))

-- ---- both together

-- the rows of states
state_rows : (rule : Rule) (m : Machine) → m.clauses ≡ []
    → All (PrintsState rule m) (run_rows m (run_by_rule rule m))
state_rows rule m none k d h inside other =
    let run = run_by_rule rule m in
    let (i, at, low, fields) = printed_fields m none run (run_leads rule m) k d h inside other in
    let same : i ≡ (get_or (run_rows m run) k d).tick = omega (arith, at) in
    (rw same at low, rw same at fields)

pub near_solution : PrintedRunsAreNearSolution
near_solution options source text run certified both =
    let (line, has) = properties (run_model both.model options) run
    (run_defined run.status both.run_status) both.run_is in
    let (m, means, out) = printed_run both.model options source
    (seen run.status run.text line run.reads) has both.run_status both.run_reads in
    let (other_line, holds) =
    properties (certify_model both.other both.certificate options.share) certified
    (run_defined certified.status (inl both.certified_status)) both.certified_is in
    let is =
    accepted_text both.other both.certificate options.share source text
    (seen certified.status certified.text other_line certified.reads) holds
    both.certified_status both.certified_reads in
    let same : m ≡ is.machine =
    one_source_machine options.share source m is.machine means is.means in
    record {
      machine = is.machine;
      means = is.means;
      certificate = is.certificate;
      parsed = is.read.text;
      rows = out ∙ ap (λ (m : Machine). (printed_run_answer options m).out) same;
      fields = state_rows options.rule is.machine is.read.scope.plain;
      bounds = is.printed;
      near = λ start tick j low h.
          let snapshots = (run_by_rule options.rule is.machine).snapshots in
          let inside : tick < length (states_by_rule options.rule is.machine) = low in
          (halves is.machine is.certificate is.conditions).own
          is.own_runs start snapshots
          (run_leads options.rule is.machine) tick j
          (omega (arith, inside, length-map snapshots (λ (w : Snapshot). w.states))) h;
      each = λ start y solves tick q j some low h.
          let w = start_snapshot is.machine in
          let snapshots = (run_by_rule options.rule is.machine).snapshots in
          let own = is.own_runs start snapshots (run_leads options.rule is.machine) in
          (halves is.machine is.certificate is.conditions).each_solution 1 1
          (states_from w snapshots) (levels_from w snapshots)
          (record { start = start_states is.machine; certified = start; legitimate = own })
          y solves 1 tick tick q j (omega arith) some low refl h;
    }
