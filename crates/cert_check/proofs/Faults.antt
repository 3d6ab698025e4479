-- The first fault of records, from one of them on.
use Rattle.cert_check.proofs.Common
use Common.{[], ℕ, ◌+◌, ◌<◌, ◌∙◌, ◌∷◌, ◌≡◌, ◌≤◌, ap, ap₂, arith, drop, drop_more, Expected}
use Common.{first_fault, get_or, Keyword, length, List, Missing, None, option_or, record_fault}
use Common.{refl, Some, suc, TextErr, zero}
use Rattle.cert_check.proofs.FieldPlaces.{none}

-- what is left after k records
abbrev pub LeftAt : List Expected → List (List (List ℕ)) → ℕ → Type 0
LeftAt dues records k = first_fault 1 dues records ≡ first_fault (k + 1) (drop k dues) (drop k records)

split : (dues : List Expected) (records : List (List (List ℕ))) (k : ℕ) → k < length dues → k < length records
    → first_fault (k + 1) (drop k dues) (drop k records)
    ≡ option_or (record_fault (k + 1) (get_or dues k none) (get_or records k [])) (first_fault (k + 1 + 1) (drop (k + 1) dues) (drop (k + 1) records))
split dues records k h l = ap₂ (first_fault (k + 1)) (drop_more dues k none h) (drop_more records k [] l)

pub left-more : (dues : List Expected) (records : List (List (List ℕ))) (k : ℕ) → k < length dues → k < length records
    → LeftAt dues records k → record_fault (k + 1) (get_or dues k none) (get_or records k []) ≡ None → LeftAt dues records (k + 1)
left-more dues records k h l before fine =
    before ∙ split dues records k h l
    ∙ ap (λ o. option_or o (first_fault (k + 1 + 1) (drop (k + 1) dues) (drop (k + 1) records))) fine

pub refused-here : (dues : List Expected) (records : List (List (List ℕ))) (k : ℕ) (why : TextErr) → k < length dues → k < length records
    → LeftAt dues records k → record_fault (k + 1) (get_or dues k none) (get_or records k []) ≡ Some why → first_fault 1 dues records ≡ Some why
refused-here dues records k why h l before bad =
    before ∙ split dues records k h l
    ∙ ap (λ o. option_or o (first_fault (k + 1 + 1) (drop (k + 1) dues) (drop (k + 1) records))) bad

drop-end : {X : Type 0} (xs : List X) (k : ℕ) → length xs ≤ k → drop k xs ≡ []
drop-end [] zero h = refl
drop-end [] (suc k) h = refl
drop-end (x ∷ xs) zero h = absurd (omega arith)
drop-end (x ∷ xs) (suc k) h = drop-end xs k (omega arith)

pub missing-here : (dues : List Expected) (records : List (List (List ℕ))) (k : ℕ) → k < length dues → length records ≤ k
    → LeftAt dues records k → first_fault 1 dues records ≡ Some (Missing (k + 1))
missing-here dues records k h l before =
    before ∙ ap₂ (first_fault (k + 1)) (drop_more dues k none h) (drop-end records k l)

pub extra-here : (dues : List Expected) (records : List (List (List ℕ))) (k : ℕ) → length dues ≤ k → k < length records
    → LeftAt dues records k → first_fault 1 dues records ≡ Some (Keyword (k + 1))
extra-here dues records k h l before =
    before ∙ ap₂ (first_fault (k + 1)) (drop-end dues k h) (drop_more records k [] l)
