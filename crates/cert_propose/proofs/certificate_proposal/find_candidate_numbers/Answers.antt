use Rattle.cert_propose.proofs.Common.{◌∙◌, ◌≡◌, ap, None, refl, Some, sym, system, table}
use Rattle.cert_propose.proofs.Candidates.{form-fits, bounds-kept}
use Rattle.cert_propose.specs.Candidate as Step
use Rattle.cert_propose.proofs.certificate_proposal.find_candidate_numbers.Goals as goal

pub returns-in_default : goal.returns-in_default
returns-in_default c =
    let n = c.args.m.now.n in
    let q : c.search_exponent-q.result ≡ Step.exponent n (table c.args.m.now.coef) = rw c.requires.formed.coef at c.search_exponent-q.ensures.value in
    let centre : Step.centre (system c.args.m.now) (Step.exponent n (table c.args.m.now.coef)) ≡ None = ap (Step.centre (system c.args.m.now)) (sym q) ∙ sym c.search_centre.ensures ∙ c.in_default.is in
    sym (rw centre refl)

pub returns-in_default-search_form : goal.returns-in_default-search_form
returns-in_default-search_form c =
    let n = c.args.m.now.n in
    let q : c.search_exponent-q.result ≡ Step.exponent n (table c.args.m.now.coef) = rw c.requires.formed.coef at c.search_exponent-q.ensures.value in
    let centre : Step.centre (system c.args.m.now) (Step.exponent n (table c.args.m.now.coef)) ≡ Some c.in-Some.c = ap (Step.centre (system c.args.m.now)) (sym q) ∙ sym c.search_centre.ensures ∙ c.in-Some.is in
    let form : Step.form_matrix (system c.args.m.now) (Step.exponent n (table c.args.m.now.coef)) ≡ None = ap (Step.form_matrix (system c.args.m.now)) (sym q) ∙ sym c.search_form.ensures ∙ c.in_default-search_form.is in
    sym (rw (centre, form) refl)

pub search_bounds-requires-clause-size : goal.search_bounds-requires-clause-size
search_bounds-requires-clause-size c =
    (form-fits (system c.args.m.now) c.search_exponent-q.result c.in-Some-search_form.pm (sym c.search_form.ensures ∙ c.in-Some-search_form.is)).one_each

pub returns-in_default-search_bounds : goal.returns-in_default-search_bounds
returns-in_default-search_bounds c =
    let n = c.args.m.now.n in
    let q : c.search_exponent-q.result ≡ Step.exponent n (table c.args.m.now.coef) = rw c.requires.formed.coef at c.search_exponent-q.ensures.value in
    let centre : Step.centre (system c.args.m.now) (Step.exponent n (table c.args.m.now.coef)) ≡ Some c.in-Some.c = ap (Step.centre (system c.args.m.now)) (sym q) ∙ sym c.search_centre.ensures ∙ c.in-Some.is in
    let form : Step.form_matrix (system c.args.m.now) (Step.exponent n (table c.args.m.now.coef)) ≡ Some c.in-Some-search_form.pm = ap (Step.form_matrix (system c.args.m.now)) (sym q) ∙ sym c.search_form.ensures ∙ c.in-Some-search_form.is in
    let bounds = sym c.search_bounds.ensures ∙ c.in_default-search_bounds.is in
    sym (rw (centre, form, bounds) refl)

pub search_basin-requires-clause-size : goal.search_basin-requires-clause-size
search_basin-requires-clause-size c =
    (form-fits (system c.args.m.now) c.search_exponent-q.result c.in-Some-search_form.pm (sym c.search_form.ensures ∙ c.in-Some-search_form.is)).one_each

pub search_basin-requires-clause-bounds : goal.search_basin-requires-clause-bounds
search_basin-requires-clause-bounds c =
    (bounds-kept (system c.args.m.now) c.in-Some-search_form.pm c.in-Some-search_bounds.bounds c.requires.formed.some c.requires.formed.few (sym c.search_bounds.ensures ∙ c.in-Some-search_bounds.is)).bounds

pub returns-in_default-search_basin : goal.returns-in_default-search_basin
returns-in_default-search_basin c =
    let n = c.args.m.now.n in
    let q : c.search_exponent-q.result ≡ Step.exponent n (table c.args.m.now.coef) = rw c.requires.formed.coef at c.search_exponent-q.ensures.value in
    let centre : Step.centre (system c.args.m.now) (Step.exponent n (table c.args.m.now.coef)) ≡ Some c.in-Some.c = ap (Step.centre (system c.args.m.now)) (sym q) ∙ sym c.search_centre.ensures ∙ c.in-Some.is in
    let form : Step.form_matrix (system c.args.m.now) (Step.exponent n (table c.args.m.now.coef)) ≡ Some c.in-Some-search_form.pm = ap (Step.form_matrix (system c.args.m.now)) (sym q) ∙ sym c.search_form.ensures ∙ c.in-Some-search_form.is in
    let bounds = sym c.search_bounds.ensures ∙ c.in-Some-search_bounds.is in
    let basin = sym c.search_basin.ensures ∙ c.in_default-search_basin.is in
    sym (rw (centre, form, bounds, basin) refl)

pub search_ellipsoid-requires : goal.search_ellipsoid-requires
search_ellipsoid-requires c =
    (bounds-kept (system c.args.m.now) c.in-Some-search_form.pm c.in-Some-search_bounds.bounds c.requires.formed.some c.requires.formed.few (sym c.search_bounds.ensures ∙ c.in-Some-search_bounds.is)).bounds

pub returns-in_default-search_ellipsoid : goal.returns-in_default-search_ellipsoid
returns-in_default-search_ellipsoid c =
    let n = c.args.m.now.n in
    let q : c.search_exponent-q.result ≡ Step.exponent n (table c.args.m.now.coef) = rw c.requires.formed.coef at c.search_exponent-q.ensures.value in
    let centre : Step.centre (system c.args.m.now) (Step.exponent n (table c.args.m.now.coef)) ≡ Some c.in-Some.c = ap (Step.centre (system c.args.m.now)) (sym q) ∙ sym c.search_centre.ensures ∙ c.in-Some.is in
    let form : Step.form_matrix (system c.args.m.now) (Step.exponent n (table c.args.m.now.coef)) ≡ Some c.in-Some-search_form.pm = ap (Step.form_matrix (system c.args.m.now)) (sym q) ∙ sym c.search_form.ensures ∙ c.in-Some-search_form.is in
    let bounds = sym c.search_bounds.ensures ∙ c.in-Some-search_bounds.is in
    let basin = sym c.search_basin.ensures ∙ c.in-Some-search_basin.is in
    let ellipsoid = sym c.search_ellipsoid.ensures ∙ c.in_default-search_ellipsoid.is in
    sym (rw (centre, form, bounds, basin, ellipsoid) refl)

pub returns : goal.returns
returns c =
    let n = c.args.m.now.n in
    let q : c.search_exponent-q.result ≡ Step.exponent n (table c.args.m.now.coef) = rw c.requires.formed.coef at c.search_exponent-q.ensures.value in
    let centre : Step.centre (system c.args.m.now) (Step.exponent n (table c.args.m.now.coef)) ≡ Some c.in-Some.c = ap (Step.centre (system c.args.m.now)) (sym q) ∙ sym c.search_centre.ensures ∙ c.in-Some.is in
    let form : Step.form_matrix (system c.args.m.now) (Step.exponent n (table c.args.m.now.coef)) ≡ Some c.in-Some-search_form.pm = ap (Step.form_matrix (system c.args.m.now)) (sym q) ∙ sym c.search_form.ensures ∙ c.in-Some-search_form.is in
    let bounds = sym c.search_bounds.ensures ∙ c.in-Some-search_bounds.is in
    let basin = sym c.search_basin.ensures ∙ c.in-Some-search_basin.is in
    let ellipsoid = sym c.search_ellipsoid.ensures ∙ c.in-Some-search_ellipsoid.is in
    sym (rw (centre, form, bounds, basin, ellipsoid) refl)
