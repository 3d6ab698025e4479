-- How many fields the records of a text have.
use Rattle.cert_check.proofs.Common
use Common.{[], ℕ, ◌++◌, ◌+◌, ◌<◌, ◌^◌, ◌∷◌, ◌≡◌, ◌≤◌, All, ap, arith, Bool, Config, default_config}
use Common.{ends_at_end, false, field_after, fields_after, if◌then◌else◌, is_end, IsCutInto, length}
use Common.{length-append, List, next_record, None, Reached, Read, Some, State, strip_bom, suc}
use Common.{true, zero}
use Rattle.csv.specs.Machine.{step}
use Rattle.csv.specs.Reading.{is_bom}
use Rattle.csv.specs.declared.parser.Action.{Action}
use Rattle.csv.specs.declared.parser.State.TheVariants as st
use Rattle.csv.specs.declared.parser.Action.TheVariants as act

-- a byte adds at most one field
fields-more : (a : Action) (fields : List (List ℕ)) (field : List ℕ) → length (fields_after a fields field) ≤ length fields + 1
fields-more act.EndField fields field = omega (arith, length-append fields (field ∷ []))
fields-more act.Skip fields field = omega arith
fields-more act.Copy fields field = omega arith
fields-more act.EndRecord fields field = omega (arith, length-append fields (field ∷ []))

-- a record has at most one field more than the text has bytes, and leaves no more bytes than there were
pub record-few : (cfg : Config) (s : State) (fields : List (List ℕ)) (field xs : List ℕ) (p : Read) → next_record cfg s fields field xs ≡ Some p
    → (length p.0 ≤ length fields + length xs + 1) × (length p.2 ≤ length xs)
unfolding next_record
record-few cfg s fields field [] p e = by (ends_at_end s) e
  where
    by : (t : Bool) → (if t then Some (fields ++ (field ∷ []), st.StartRecord, []) else None) ≡ Some p → (length p.0 ≤ length fields + 0 + 1) × (length p.2 ≤ 0)
    by true e =
        let a : p.0 ≡ fields ++ (field ∷ []) = cc in
        let b : p.2 ≡ [] = cc in
        (omega (arith, ap length a, length-append fields (field ∷ [])), omega (arith, ap length b))
    by false e = absurd (cc)
record-few cfg s fields field (c ∷ rest) p e =
    by (is_end (step cfg s c).1) (λ h. record-few cfg (step cfg s c).0 (fields_after (step cfg s c).1 fields field) (field_after (step cfg s c).1 c field) rest p h) e
  where
    by : (t : Bool)
        → (next_record cfg (step cfg s c).0 (fields_after (step cfg s c).1 fields field) (field_after (step cfg s c).1 c field) rest ≡ Some p
        → (length p.0 ≤ length (fields_after (step cfg s c).1 fields field) + length rest + 1) × (length p.2 ≤ length rest))
        → (if t then Some (fields_after (step cfg s c).1 fields field, (step cfg s c).0, rest)
        else next_record cfg (step cfg s c).0 (fields_after (step cfg s c).1 fields field) (field_after (step cfg s c).1 c field) rest) ≡ Some p
        → (length p.0 ≤ length fields + length (c ∷ rest) + 1) × (length p.2 ≤ length (c ∷ rest))
    by true more e =
        let a : p.0 ≡ fields_after (step cfg s c).1 fields field = cc in
        let b : p.2 ≡ rest = cc in
        (omega (arith, ap length a, fields-more (step cfg s c).1 fields field), omega (arith, ap length b))
    by false more e =
        let h = more e in
        (omega (arith, h.0, fields-more (step cfg s c).1 fields field), omega (arith, h.1))

-- the records of a text of few bytes have few fields
pub rows-few : (cfg : Config) (s s2 : State) (xs ys : List ℕ) (rows : List (List (List ℕ))) (most : ℕ) → length xs < most → Reached cfg s xs rows s2 ys
    → All (λ row. length row ≤ most) rows
unfolding Reached
rows-few cfg s s2 xs ys [] most h r k d l = absurd (omega arith)
rows-few cfg s s2 xs ys (row ∷ rows) most h (p, next, at, more) zero d l =
    let a = record-few cfg s [] [] xs p next in
    omega (arith, ap length at, a.0)
rows-few cfg s s2 xs ys (row ∷ rows) most h (p, next, at, more) (suc k) d l =
    let a = record-few cfg s [] [] xs p next in
    rows-few cfg p.1 s2 p.2 ys rows most (omega (arith, a.1)) more k d (omega arith)

pub strip-≤ : (xs : List ℕ) → length (strip_bom xs) ≤ length xs
unfolding strip_bom
strip-≤ [] = omega arith
strip-≤ (a ∷ []) = omega arith
strip-≤ (a ∷ b ∷ []) = omega arith
strip-≤ (a ∷ b ∷ c ∷ rest) = by (is_bom a b c)
  where
    by : (t : Bool) → length (if t then rest else a ∷ b ∷ c ∷ rest) ≤ length (a ∷ b ∷ c ∷ rest)
    by true = omega arith
    by false = omega arith

pub cut-few : (bytes : List ℕ) (records : List (List (List ℕ))) → length bytes ≤ 2 ^ 18 → IsCutInto bytes records → All (λ row. length row ≤ 2 ^ 20) records
cut-few bytes records short (s2, ys, r, end) =
    rows-few default_config st.StartRecord s2 (strip_bom bytes) ys records (2 ^ 20) (omega (arith, strip-≤ bytes)) r
