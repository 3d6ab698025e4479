use Rattle.qss_trace.proofs.Common.{◌≢◌, IsRefusedFor, IsTextOf, Memory, Trace}
use Rattle.qss_trace.proofs.Ended.{err-map}
use Rattle.qss_trace.proofs.Spelt.{refused-unreadable}
use Rattle.qss_trace.proofs.trace_parser.read_trace.Goals as goal

pub returns-clause-unreadable : goal.returns-clause-unreadable
returns-clause-unreadable c =
    err-map c.parse_trace_text.result (IsRefusedFor c.args.n c.args.bytes.now) (λ why. why ≢ Memory → (t : Trace) → IsTextOf c.args.n c.args.bytes.now t → ⊥)
    (λ why refused. refused-unreadable c.args.n c.args.bytes.now why refused) c.parse_trace_text.ensures.refused
