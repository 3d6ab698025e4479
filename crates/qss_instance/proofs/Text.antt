-- The text of the certificate of the example `decay`, by evaluation.
use Rattle.std.proofs.Common.{◌≡◌, ℕ, zero, suc, List, [], ◌∷◌, refl, subst, inl, Option, Some}
use Rattle.std.proofs.Common.{None}
use Rattle.std.specs.Prelude.{codes}
use Rattle.csv.specs.Machine.{Read, next_record}
use Rattle.csv.specs.Reading.{Reached, AreRecords, default_config, strip_bom}
use Rattle.csv.specs.declared.parser.State.{State}
use Rattle.cert_check.specs.CertificateTexts.{IsCutInto, AreInForm, IsTextOf}
use Rattle.qss_instance.specs.DecayInstance.{decay_certificate}
use Rattle.qss_instance.proofs.Decay.{machine, certificate}
use Rattle.csv.specs.declared.parser.State.TheVariants as st

-- a record, and the records behind it
abbrev with_rest : List (List ℕ) → Option (List (List (List ℕ))) → Option (List (List (List ℕ)))
with_rest row None = None
with_rest row (Some rows) = Some (row ∷ rows)

abbrev with_next : (State → List ℕ → Option (List (List (List ℕ)))) → Option Read → Option
    (List (List (List ℕ)))
with_next more None = Some []
with_next more (Some p) = with_rest p.0 (more p.1 p.2)

-- the records of a text, if there are fewer than this number
abbrev cut : ℕ → State → List ℕ → Option (List (List (List ℕ)))
cut zero s xs = None
cut (suc most) s xs = with_next (cut most) (next_record default_config s [] [] xs)

cut_rest : (most : ℕ) (s : State) (xs : List ℕ) (rows : List (List (List ℕ))) →
    ((t : State) (ys : List ℕ) (more : List (List (List ℕ))) → cut most t ys ≡ Some more →
    AreRecords default_config t ys more)
    → (p : Read) → next_record default_config s [] [] xs ≡ Some p →
    (o : Option (List (List (List ℕ)))) → cut most p.1 p.2 ≡ o → with_rest p.0 o ≡ Some rows →
    AreRecords default_config s xs rows
unfolding Reached
cut_rest most s xs rows more p e None f is = cc
cut_rest most s xs rows more p e (Some rest) f is =
    let same : p.0 ∷ rest ≡ rows = cc in
    let after = more p.1 p.2 rest f in
    subst (AreRecords default_config s xs) same (after.0, after.1, (p, e, refl, after.2), after.3)

cut_more : (most : ℕ) (s : State) (xs : List ℕ) (rows : List (List (List ℕ))) →
    ((t : State) (ys : List ℕ) (more : List (List (List ℕ))) → cut most t ys ≡ Some more →
    AreRecords default_config t ys more)
    → (o : Option Read) → next_record default_config s [] [] xs ≡ o → with_next (cut most) o ≡ Some
    rows → AreRecords default_config s xs rows
unfolding Reached
cut_more most s xs rows more None e is =
    let same : [] ≡ rows = cc in
    subst (AreRecords default_config s xs) same (s, xs, (refl, refl), e)
cut_more most s xs rows more (Some p) e is = cut_rest most s xs rows more p e (cut most p.1 p.2)
    refl is

cut_is : (most : ℕ) (s : State) (xs : List ℕ) (rows : List (List (List ℕ))) → cut most s xs ≡ Some
    rows → AreRecords default_config s xs rows
cut_is zero s xs rows is = cc
cut_is (suc most) s xs rows is = cut_more most s xs rows (cut_is most)
    (next_record default_config s [] [] xs) refl is

abbrev records : List (List (List ℕ))
records =
    (codes "form" ∷ codes "1" ∷ [])
    ∷ (codes "P" ∷ codes "1" ∷ [])
    ∷ (codes "p" ∷ codes "1" ∷ [])
    ∷ (codes "mu" ∷ codes "128" ∷ [])
    ∷ (codes "lambda" ∷ codes "384" ∷ [])
    ∷ (codes "h1" ∷ codes "1" ∷ [])
    ∷ (codes "G1" ∷ codes "0" ∷ [])
    ∷ (codes "h2" ∷ codes "1" ∷ [])
    ∷ (codes "G2" ∷ codes "0" ∷ [])
    ∷ (codes "c" ∷ codes "0" ∷ [])
    ∷ (codes "R" ∷ codes "4096" ∷ [])
    ∷ (codes "Z" ∷ codes "64" ∷ [])
    ∷ (codes "S" ∷ codes "5" ∷ [])
    ∷ (codes "sigmaR" ∷ codes "41472" ∷ [])
    ∷ (codes "C" ∷ codes "432" ∷ [])
    ∷ (codes "sigmaC" ∷ codes "165888" ∷ [])
    ∷ (codes "E" ∷ codes "21" ∷ [])
    ∷ []

are_cut : cut 20 st.StartRecord (strip_bom decay_certificate) ≡ Some records
unfolding next_record strip_bom
are_cut = refl

cut_into : IsCutInto decay_certificate records
cut_into = cut_is 20 st.StartRecord (strip_bom decay_certificate) records are_cut

in_form : AreInForm 1 records certificate
in_form = (
  (codes "1" ∷ [], refl, refl),
  (
    (codes "1" ∷ [], refl, refl),
    (
      (codes "1" ∷ [], refl, refl),
      (
        (codes "128" ∷ [], refl, refl),
        (
          (codes "384" ∷ [], refl, refl),
          (
            (codes "1" ∷ [], refl, refl),
            (
              (codes "0" ∷ [], refl, refl),
              (
                (codes "1" ∷ [], refl, refl),
                (
                  (codes "0" ∷ [], refl, refl),
                  (
                    (codes "0" ∷ [], refl, refl),
                    (
                      (codes "4096" ∷ [], refl, refl),
                      (
                        (codes "64" ∷ [], refl, refl),
                        (
                          (codes "5" ∷ [], refl, refl),
                          (
                            (codes "41472" ∷ [], refl, refl),
                            (
                              (codes "432" ∷ [], refl, refl),
                              (
                                (codes "165888" ∷ [], refl, refl),
                                (
                                  (codes "21" ∷ [], refl, refl),
                                  tt,
                                ),
                              ),
                            ),
                          ),
                        ),
                      ),
                    ),
                  ),
                ),
              ),
            ),
          ),
        ),
      ),
    ),
  ),
)

pub is_text : IsTextOf machine decay_certificate certificate
is_text = (records, cut_into, record { size = refl; spelt = inl (in_form, refl, refl, refl) })
