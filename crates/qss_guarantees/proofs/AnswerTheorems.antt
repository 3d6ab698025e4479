-- Accepted traces are the legitimate runs, and upgrades parse as the same certificate.
use Rattle.qss_guarantees.proofs.Common
use Common.{ℕ, ◌≡◌, ap, inl, inr, IsChecked, IsRead, IsRunOf, IsTextOf, lines, lines_text, List}
use Common.{pos, reads-back, subst, summary, sym, Trace, written}
use Rattle.qss_answers.proofs.TraceEnds.{accepted_of, checked_run}
use Rattle.qss_guarantees.specs.CertificateLaws.{UpgradesKeep}
use Rattle.qss_guarantees.specs.TraceLaws.{RunsAreAccepted}

-- the result of `check` is a text if and only if the bytes are a legitimate run
pub accepted : RunsAreAccepted
accepted m bytes text = (checked_run m bytes text, from)
  where
    from : (t : Trace) × IsRead m bytes t × IsRunOf m t × (text ≡ summary t)
        → IsChecked m bytes (written text)
    from (t, read, run, e) = inr (t, accepted_of m bytes t read run, ap written e)

-- the text of an upgrade parses as the certificate in the bytes
pub upgrades : UpgradesKeep
upgrades m bytes text (inl (why, h, e)) = absurd (cc)
upgrades m bytes text (inr (c, read, e)) =
    let same : text ≡ lines_text (lines (pos 3) c) = cc in
    let P : List ℕ → Type 0 = λ t. IsTextOf m t c in
    (c, read.text, subst P (sym same) (reads-back m c read.text.2.size))
