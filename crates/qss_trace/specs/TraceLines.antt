-- The lines of a trace's text.
use Rattle.std.specs.Prelude.{ℕ, List, [], ◌∷◌, ◌++◌, ℤ, pos, codes}
use Rattle.mu_num.specs.IndexedSums.{tabulate}
use Rattle.cert_check.specs.CertificateLines.{Line, line}
use Rattle.qss_trace.specs.declared.trace.Trace.{Trace}
use Rattle.qss_trace.specs.TraceLimits.{place_count}
use Rattle.qss_trace.specs.TracePlaces.{place_at}

-- one line for each place: its states, then its levels
abbrev pub place_lines : ℕ → List ℤ → List ℤ → List Line
place_lines n states levels = tabulate (place_count n states) (λ place. line (codes "at") (place_at n states place ++ place_at n levels place))

-- the lines of these numbers: the form, the scale, the refinement, the quanta, and the places
abbrev pub lines_of : ℕ → ℕ → ℕ → List ℤ → List ℤ → List ℤ → List Line
lines_of n scale refine q states levels =
    line (codes "trace") (pos 1 ∷ []) ∷ line (codes "scale") (pos scale ∷ []) ∷ line (codes "refine") (pos refine ∷ []) ∷ line (codes "Q") q
    ∷ place_lines n states levels

-- the lines of a trace
abbrev pub trace_lines : Trace → List Line
trace_lines t = lines_of t.n t.scale t.refine t.q t.states t.levels
