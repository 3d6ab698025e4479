-- Any bytes are a text of one certificate, or have one fault.
use Rattle.cert_check.proofs.Common
use Common.{ℕ, ◌++◌, ◌≡◌, ◌⊎◌, AreRecordsOf, Certificate, inl, inr, IsCutInto, IsSize, IsTextOf}
use Common.{left_out, List, Machine, None, Option, refl, Some, state_count, subst, text_fault}
use Common.{TextErr}
use Rattle.cert_check.specs.Scope.{IsInScope}
use Rattle.cert_check.specs.TextFaults.{TextsAreJudged, IsFaultOf}
use Rattle.cert_check.proofs.Completed.{all-rows, text-read}
use Rattle.cert_check.proofs.Faultless.{IsReadInForm, fine-text}
use Rattle.cert_check.proofs.Made.{fields_in, sound, made_in}
use Rattle.cert_check.proofs.Same.{certificate_of, same-records}
use Rattle.cert_check.proofs.Totals.{cut-total}
use Rattle.cert_check.proofs.Unique.{cut-same, text-fine}

-- records without a fault parse as a certificate
spelled : (m : Machine) (records : List (List (List ℕ))) (form : ℕ) → IsInScope m → IsReadInForm (state_count m) form records → (c : Certificate) × AreRecordsOf m records c
spelled m records form scope h =
    let n = state_count m in
    let rows = h.rows ++ left_out m form in
    let all = all-rows m n form records h.rows refl h.low h.high h.read in
    let size : IsSize n = record { some = scope.some; few = scope.few } in
    let c = certificate_of n (fields_in n rows) (sound n rows all size) in
    (c, text-read m n form records h.rows c refl h.low h.high h.read h.named refl (made_in n rows all size) refl refl refl)

judged : (m : Machine) (bytes : List ℕ) → IsInScope m → ((c : Certificate) × IsTextOf m bytes c) ⊎ ((why : TextErr) × IsFaultOf m bytes why)
judged m bytes scope = by (cut-total bytes)
  where
    by : (records : List (List (List ℕ))) × IsCutInto bytes records → ((c : Certificate) × IsTextOf m bytes c) ⊎ ((why : TextErr) × IsFaultOf m bytes why)
    by cut = from (text_fault (state_count m) cut.0) refl
      where
        from : (o : Option TextErr) → text_fault (state_count m) cut.0 ≡ o → ((c : Certificate) × IsTextOf m bytes c) ⊎ ((why : TextErr) × IsFaultOf m bytes why)
        from (Some why) e = inr (why, (cut.0, cut.1, e))
        from None e =
            let read = fine-text (state_count m) cut.0 e in
            let c = spelled m cut.0 read.0 scope read.1 in
            inl (c.0, (cut.0, cut.1, c.1))

one-certificate : (m : Machine) (bytes : List ℕ) (a b : Certificate) → IsTextOf m bytes a → IsTextOf m bytes b → a ≡ b
one-certificate m bytes a b x y =
    let P : List (List (List ℕ)) → Type 0 = λ records. AreRecordsOf m records b in
    same-records m x.0 a b x.2 (subst P (cut-same bytes y.0 x.0 y.1 x.1) y.2)

one-fault : (m : Machine) (bytes : List ℕ) (why other : TextErr) → IsFaultOf m bytes why → IsFaultOf m bytes other → why ≡ other
one-fault m bytes why other x y =
    let P : List (List (List ℕ)) → Type 0 = λ records. text_fault (state_count m) records ≡ Some other in
    let there = subst P (cut-same bytes y.0 x.0 y.1 x.1) y.2 in
    let here = x.2 in
    cc

not-both : (m : Machine) (bytes : List ℕ) (why : TextErr) (c : Certificate) → IsFaultOf m bytes why → IsTextOf m bytes c → ⊥
not-both m bytes why c x y =
    let P : List (List (List ℕ)) → Type 0 = λ records. AreRecordsOf m records c in
    let fine = text-fine m x.0 c (subst P (cut-same bytes y.0 x.0 y.1 x.1) y.2) in
    let here = x.2 in
    cc

pub judged_texts : TextsAreJudged
judged_texts = record { judged = judged; one_certificate = one-certificate; one_fault = one-fault; not_both = not-both }
