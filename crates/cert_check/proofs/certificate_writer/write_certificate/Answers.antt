use Rattle.cert_check.proofs.Common
use Common.{ℕ, ◌++◌, ◌∙◌, ◌≡◌, ap, basin_lines, bound_lines, ellipsoid_lines, form_lines, IsTextOf}
use Common.{lines, lines_text, List, pos, root_lines, subst, sym}
use Rattle.cert_check.proofs.WrittenLines.{then-lines, all-lines, reads-back}
use Rattle.cert_check.proofs.certificate_writer.write_certificate.Goals as goal

pub returns-clause-text : goal.returns-clause-text
returns-clause-text c =
    then-lines c.new-text.result.items _ _ (form_lines (pos 3) c.args.c.now)
    (bound_lines c.args.c.now ++ (root_lines c.args.c.now ++ (basin_lines c.args.c.now ++ ellipsoid_lines c.args.c.now))) c.in_ok-write_certificate_form.ensures
    (then-lines _ _ _ (bound_lines c.args.c.now) (root_lines c.args.c.now ++ (basin_lines c.args.c.now ++ ellipsoid_lines c.args.c.now)) c.in_ok-write_certificate_bounds.ensures
    (then-lines _ _ _ (root_lines c.args.c.now) (basin_lines c.args.c.now ++ ellipsoid_lines c.args.c.now) c.in_ok-write_certificate_roots.ensures
    (then-lines _ _ _ (basin_lines c.args.c.now) (ellipsoid_lines c.args.c.now) c.in_ok-write_certificate_basin.ensures c.in_ok-write_certificate_ellipsoid.ensures)))
    ∙ ap (λ t. t ++ lines_text (form_lines (pos 3) c.args.c.now ++ (bound_lines c.args.c.now ++ (root_lines c.args.c.now ++ (basin_lines c.args.c.now ++ ellipsoid_lines c.args.c.now)))))
    c.new-text.ensures.items
    ∙ ap lines_text (all-lines (pos 3) c.args.c.now)

pub returns-clause-reads_back : goal.returns-clause-reads_back
returns-clause-reads_back c m size =
    let text : c.write_certificate_ellipsoid.new.text.items ≡ lines_text (lines (pos 3) c.args.c.now) =
    then-lines c.new-text.result.items _ _ (form_lines (pos 3) c.args.c.now)
    (bound_lines c.args.c.now ++ (root_lines c.args.c.now ++ (basin_lines c.args.c.now ++ ellipsoid_lines c.args.c.now))) c.in_ok-write_certificate_form.ensures
    (then-lines _ _ _ (bound_lines c.args.c.now) (root_lines c.args.c.now ++ (basin_lines c.args.c.now ++ ellipsoid_lines c.args.c.now)) c.in_ok-write_certificate_bounds.ensures
    (then-lines _ _ _ (root_lines c.args.c.now) (basin_lines c.args.c.now ++ ellipsoid_lines c.args.c.now) c.in_ok-write_certificate_roots.ensures
    (then-lines _ _ _ (basin_lines c.args.c.now) (ellipsoid_lines c.args.c.now) c.in_ok-write_certificate_basin.ensures c.in_ok-write_certificate_ellipsoid.ensures)))
    ∙ ap (λ t. t ++ lines_text (form_lines (pos 3) c.args.c.now ++ (bound_lines c.args.c.now ++ (root_lines c.args.c.now ++ (basin_lines c.args.c.now ++ ellipsoid_lines c.args.c.now)))))
    c.new-text.ensures.items
    ∙ ap lines_text (all-lines (pos 3) c.args.c.now) in
    let P : List ℕ → Type 0 = λ t. IsTextOf m t c.args.c.now in
    subst P (sym text) (reads-back m c.args.c.now size)
