use Rattle.qss_rows.proofs.Common.{ℕ, ◌++◌, ◌-◌, ◌∙◌, ap, arith, drop, drop-drop, List, sym}
use Rattle.std.proofs.lemmas.List.{drop-append-le}
use Rattle.qss_rows.proofs.LineRecords.{put_before}
use Rattle.qss_rows.proofs.line_text.TickText.put.Goals as goal

pub returns-clause-written : goal.returns-clause-written
returns-clause-written c =
    let t = c.args.self.now in
    let line = c.args.line.now in
    let at = c.args.at in
    let all =
    put_before line t.digits (at - 20) at
    (omega (arith, c.requires.room)) (omega (arith, c.requires.within)) in
    rw c.copy_from_slice.ensures.after
    (sym (drop-drop t.from (at - 20) _) ∙ ap (drop t.from) all
    ∙ drop-append-le t.from t.digits (drop at line) (omega (arith, t.within))
    ∙ ap (λ (l : List ℕ). l ++ drop at line) t.written)
