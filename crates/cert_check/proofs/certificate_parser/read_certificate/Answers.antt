use Rattle.cert_check.proofs.Common.{◌≢◌, Certificate, IsRefusedFor, IsTextOf, Memory}
use Rattle.cert_check.proofs.Turns.{err-map}
use Rattle.cert_check.proofs.Unique.{refused-unreadable}
use Rattle.cert_check.proofs.certificate_parser.read_certificate.Goals as goal

pub returns-clause-unreadable : goal.returns-clause-unreadable
returns-clause-unreadable c =
    err-map c.parse_certificate_text.result (IsRefusedFor c.args.m.now c.args.bytes.now)
    (λ why. why ≢ Memory → (x : Certificate) → IsTextOf c.args.m.now c.args.bytes.now x → ⊥)
    (λ why refused. refused-unreadable c.args.m.now c.args.bytes.now why refused) c.parse_certificate_text.ensures.refused
