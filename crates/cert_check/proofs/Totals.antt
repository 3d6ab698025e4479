-- Any bytes are cut into records.
use Rattle.cert_check.proofs.Common
use Common.{[], ℕ, ◌++◌, ◌∙◌, ◌∷◌, ◌≡◌, ◌≤◌, ap, ap₂, AreRecords, arith, Bool, Config}
use Common.{default_config, ends_at_end, false, field_after, fields_after, if◌then◌else◌, is_end}
use Common.{IsCutInto, length, List, next_record, None, Option, Reached, Read, refl, Some, State}
use Common.{strip_bom, suc, true, zero}
use Rattle.csv.specs.Machine.{step}
use Rattle.cert_check.proofs.Cut.{record-few}
use Rattle.csv.specs.declared.parser.State.TheVariants as st

-- a record of some bytes leaves fewer
pub record-shorter : (cfg : Config) (s : State) (fields : List (List ℕ)) (field : List ℕ) (c : ℕ) (rest : List ℕ) (p : Read) → next_record cfg s fields field (c ∷ rest) ≡ Some p
    → length p.2 ≤ length rest
unfolding next_record
record-shorter cfg s fields field c rest p e = by (is_end (step cfg s c).1) e
  where
    by : (t : Bool)
        → (if t then Some (fields_after (step cfg s c).1 fields field, (step cfg s c).0, rest)
        else next_record cfg (step cfg s c).0 (fields_after (step cfg s c).1 fields field) (field_after (step cfg s c).1 c field) rest) ≡ Some p
        → length p.2 ≤ length rest
    by true e = let b : p.2 ≡ rest = cc in omega (arith, ap length b)
    by false e = (record-few cfg (step cfg s c).0 (fields_after (step cfg s c).1 fields field) (field_after (step cfg s c).1 c field) rest p e).1

pub none-left : (cfg : Config) → next_record cfg st.StartRecord [] [] [] ≡ None
unfolding next_record
none-left cfg = refl

-- the last record leaves none
last-record : (cfg : Config) (s : State) (p : Read) → next_record cfg s [] [] [] ≡ Some p → next_record cfg p.1 [] [] p.2 ≡ None
unfolding next_record
last-record cfg s p e = by (ends_at_end s) e
  where
    by : (t : Bool) → (if t then Some ([] ++ ([] ∷ []), st.StartRecord, []) else None) ≡ Some p → next_record cfg p.1 [] [] p.2 ≡ None
    by true e =
        let a : p.1 ≡ st.StartRecord = cc in
        let b : p.2 ≡ [] = cc in
        ap₂ (λ (x : State) (y : List ℕ). next_record cfg x [] [] y) a b ∙ none-left cfg
    by false e = absurd (cc)

-- the records from a place on
abbrev pub Rows : Config → State → List ℕ → Type 0
Rows cfg s xs = (rows : List (List (List ℕ))) × AreRecords cfg s xs rows

pub stop : (cfg : Config) (s : State) (xs : List ℕ) → next_record cfg s [] [] xs ≡ None → Rows cfg s xs
unfolding Reached
stop cfg s xs none = ([], (s, xs, (refl, refl), none))

pub one-more : (cfg : Config) (s : State) (xs : List ℕ) (p : Read) → next_record cfg s [] [] xs ≡ Some p → Rows cfg p.1 p.2 → Rows cfg s xs
unfolding Reached
one-more cfg s xs p next more = (p.0 ∷ more.0, (more.1.0, more.1.1, (p, next, refl, more.1.2), more.1.3))

pub total : (left : ℕ) (cfg : Config) (s : State) (xs : List ℕ) → length xs ≤ left → Rows cfg s xs
total left cfg s [] h = by (next_record cfg s [] [] []) refl
  where
    by : (o : Option Read) → next_record cfg s [] [] [] ≡ o → Rows cfg s []
    by None e = stop cfg s [] e
    by (Some p) e = one-more cfg s [] p e (stop cfg p.1 p.2 (last-record cfg s p e))
total zero cfg s (c ∷ rest) h = absurd (omega arith)
total (suc left) cfg s (c ∷ rest) h = by (λ t ys k. total left cfg t ys k) (next_record cfg s [] [] (c ∷ rest)) refl
  where
    by : ((t : State) (ys : List ℕ) → length ys ≤ left → Rows cfg t ys) → (o : Option Read) → next_record cfg s [] [] (c ∷ rest) ≡ o → Rows cfg s (c ∷ rest)
    by more None e = stop cfg s (c ∷ rest) e
    by more (Some p) e = one-more cfg s (c ∷ rest) p e (more p.1 p.2 (omega (arith, record-shorter cfg s [] [] c rest p e)))

pub cut-total : (bytes : List ℕ) → (records : List (List (List ℕ))) × IsCutInto bytes records
cut-total bytes = total (length (strip_bom bytes)) default_config st.StartRecord (strip_bom bytes) (omega arith)
