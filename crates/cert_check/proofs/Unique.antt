-- A text has one list of records, and so one answer.
use Rattle.cert_check.proofs.Common
use Common.{[], ℕ, ◌∙◌, ◌∷◌, ◌≡◌, ◌≢◌, ◌⊎◌, ap, ap₂, AreInForm, AreRecordsOf, Certificate, Config}
use Common.{default_config, inl, inr, IsCutInto, IsRefusedFor, IsTextOf, List, Machine, Memory}
use Common.{next_record, None, quanta, Reached, Read, refl, Some, start_states, State, state_count}
use Common.{strip_bom, subst, sym, text_fault, TextErr}
use Rattle.cert_check.proofs.Spelt.{form-fine}
use Rattle.csv.specs.declared.parser.State.TheVariants as st

-- two lists of all records of a text are the same
reached-same : (cfg : Config) (s : State) (xs : List ℕ) (rows rows' : List (List (List ℕ))) (s2 s3 : State) (ys zs : List ℕ)
    → Reached cfg s xs rows s2 ys → next_record cfg s2 [] [] ys ≡ None → Reached cfg s xs rows' s3 zs → next_record cfg s3 [] [] zs ≡ None → rows ≡ rows'
unfolding Reached
reached-same cfg s xs [] [] s2 s3 ys zs r end r' end' = refl
reached-same cfg s xs [] (row' ∷ rows') s2 s3 ys zs r end (p', next', at', more') end' =
    let none : next_record cfg s [] [] xs ≡ None = ap₂ (λ a b. next_record cfg a [] [] b) r.0 r.1 ∙ end in
    absurd (cc)
reached-same cfg s xs (row ∷ rows) [] s2 s3 ys zs (p, next, at, more) end r' end' =
    let none : next_record cfg s [] [] xs ≡ None = ap₂ (λ a b. next_record cfg a [] [] b) r'.0 r'.1 ∙ end' in
    absurd (cc)
reached-same cfg s xs (row ∷ rows) (row' ∷ rows') s2 s3 ys zs (p, next, at, more) end (p', next', at', more') end' =
    let same : p ≡ p' = cc in
    let P : Read → Type 0 = λ q. Reached cfg q.1 q.2 rows' s3 zs in
    let rest = reached-same cfg p.1 p.2 rows rows' s2 s3 ys zs more end (subst P (sym same) more') end' in
    ap₂ (λ a b. a ∷ b) (at ∙ ap (λ (q : Read). q.0) same ∙ sym at') rest

pub cut-same : (bytes : List ℕ) (records records' : List (List (List ℕ))) → IsCutInto bytes records → IsCutInto bytes records' → records ≡ records'
cut-same bytes records records' (s2, ys, r, end) (s3, zs, r', end') =
    reached-same default_config st.StartRecord (strip_bom bytes) records records' s2 s3 ys zs r end r' end'

-- records of a certificate have no fault
pub text-fine : (m : Machine) (records : List (List (List ℕ))) (c : Certificate) → AreRecordsOf m records c → text_fault (state_count m) records ≡ None
text-fine m records c of = by of.spelt
  where
    by : (AreInForm 1 records c × (c.start1 ≡ start_states m) × (c.start2 ≡ start_states m) × (c.q ≡ quanta m))
        ⊎ (AreInForm 2 records c × (c.q ≡ quanta m))
        ⊎ AreInForm 3 records c → text_fault (state_count m) records ≡ None
    by (inl h) = form-fine 1 (state_count m) records c of.size refl h.0
    by (inr (inl h)) = form-fine 2 (state_count m) records c of.size refl h.0
    by (inr (inr h)) = form-fine 3 (state_count m) records c of.size refl h

-- what is refused is a text of no certificate
pub refused-unreadable : (m : Machine) (bytes : List ℕ) (why : TextErr) → IsRefusedFor m bytes why → why ≢ Memory → (c : Certificate) → IsTextOf m bytes c → ⊥
refused-unreadable m bytes why (inl e) other c text = other e
refused-unreadable m bytes why (inr (records, cut, fault)) other c (records', cut', of) =
    let P : List (List (List ℕ)) → Type 0 = λ rs. text_fault (state_count m) rs ≡ Some why in
    let fault' = subst P (cut-same bytes records records' cut cut') fault in
    let fine = text-fine m records' c of in
    cc
