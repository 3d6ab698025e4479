-- A run of the program has the properties of its command, for the contents that it read.
use Rattle.qss_guarantees.proofs.Common
use Common.{[], ℕ, ◌≡◌, ◌⊎◌, AreReadInOrder, Call, Command, ComputesSpecification, DeterminesAnswer}
use Common.{HasPropertiesOfReads, inl, inr, is_defined, is_too_long, IsMessageText, List, seen}
use Common.{Some, Status, subst, sym, true}
use Rattle.qss_guarantees.specs.CallProperties.{CallsHaveProperties, SessionsHaveProperties}
use Rattle.qss_guarantees.proofs.Properties.{have_properties}
use Rattle.qss_top.specs.Sessions.{IsAccepted}
use Rattle.qss_top.specs.declared.status.Status.TheVariants as ends

-- the answer that a call with a specified status gives
module _ (command : Command) (call : Call) where
  abbrev IsGiven : Status → Type 0
  IsGiven status = DeterminesAnswer command (λ answer. (status ≡ answer.status)
      × (call.text ≡ answer.out) × IsMessageText answer.line call.line) [] call.reads

  abbrev Computes : Status → Type 0
  Computes status = ComputesSpecification (Some command)
      (record { status = status; text = call.text; line = call.line; reads = call.reads })

  given : (status : Status) → is_defined status ≡ true → Computes status → IsGiven status
  given ends.Ok defined h = h
  given ends.Rejected defined h = h
  given ends.Usage defined h = h
  given ends.ReadFault defined h = absurd (cc defined)
  given ends.WriteFault defined h = absurd (cc defined)
  given ends.ModelRefused defined h = h
  given ends.Overflow defined h = h
  given ends.CertRefused defined h = h
  given ends.Memory defined h = absurd (cc defined)

  has_properties : IsGiven call.status → HasPropertiesOfReads command call
  has_properties d = record {
    contents = d.contents;
    answer = d.answer;
    read = subst (λ (names : List (List ℕ)). AreReadInOrder (is_too_long d.answer) names d.contents
        [] call.reads) d.specified.0 d.read;
    status_is = d.such.0;
    text_is = d.such.1;
    line_is = d.such.2;
    properties = have_properties command d.contents d.answer d.specified.1;
  }

pub calls_have_properties : CallsHaveProperties
calls_have_properties command call h defined =
    has_properties command call (given command call call.status defined h)

pub sessions_have_properties : SessionsHaveProperties
sessions_have_properties command call out_faults err_faults s defined =
    (s.line, s.line_accepted, by s.text_accepted)
  where
    whole : HasPropertiesOfReads command (seen call.status s.text s.line call.reads)
    whole = calls_have_properties command (seen call.status s.text s.line call.reads) s.computes
        defined

    by : (call.text ≡ s.text) ⊎ ((call.status ≡ ends.Memory) × IsAccepted s.text call.text
        out_faults)
        → HasPropertiesOfReads command (seen call.status call.text s.line call.reads)
    by (inl same) = subst (λ (text : List ℕ). HasPropertiesOfReads command
        (seen call.status text s.line call.reads)) (sym same) whole
    by (inr (memory, part)) = let wrong = rw memory at defined in absurd (cc wrong)
