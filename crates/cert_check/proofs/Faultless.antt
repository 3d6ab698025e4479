-- Records without a fault are read as rows of numbers.
use Rattle.cert_check.proofs.Common
use Common.{[], ℕ, ℤ, ◌&&◌, ◌+◌, ◌<◌, ◌==◌, ◌^◌, ◌∙◌, ◌∷◌, ◌≡◌, ◌≤◌, All, all_ascii_digits, ap, ap₂}
use Common.{AreReadAs, arith, Bool, bytes_eq, bytes_eq-Decides, codes, Decides-int_eq, digits_value}
use Common.{drop, Expected, expected, false, fault_in_form, first_fault, first_number, form_in}
use Common.{get_or, get_or-take, if◌then◌else◌, int_eq, ints, is_no_number, IsNumber, IsReadAs}
use Common.{Keyword, keyword_of, layout, length, length-map, line_count, List, magnitude_in, map}
use Common.{nat_le, neg_ℤ, None, Number, number_in, Option, option_map, option_or, pos}
use Common.{position_from, record_fault, refl, Some, starts_with_minus, subst, suc, sym, take}
use Common.{text_fault, TextErr, true, zero}
use Rattle.std.specs.Prelude.{not}
use Rattle.std.proofs.lemmas.Bool.{eqb-true}
use Rattle.std.proofs.lemmas.List.Elements.{All-nil, All-cons}
use Rattle.cert_check.specs.declared.text_err.TextErr.TheVariants.{Shape}
use Rattle.cert_check.proofs.FieldPlaces.{none}
use Rattle.cert_check.proofs.Completed.{line-count}
use Rattle.cert_check.proofs.Turns.{length-due}

last-true : (a b : Bool) → (a && b) ≡ true → b ≡ true
last-true true b e = e
last-true false b e = absurd (cc)

-- the numbers of fields are small
magnitude-small : (digits : List ℕ) (n : ℕ) → magnitude_in digits ≡ Some n → n ≤ 2 ^ 126
magnitude-small digits n e = by (nat_le 1 (length digits) && nat_le (length digits) 39 && all_ascii_digits digits && nat_le (digits_value 10 digits) (2 ^ 126)) refl e
  where
    below : (v : ℕ) → nat_le v (2 ^ 126) ≡ true → v ≤ 2 ^ 126
    below v h = grind arith

    by : (t : Bool) → (nat_le 1 (length digits) && nat_le (length digits) 39 && all_ascii_digits digits && nat_le (digits_value 10 digits) (2 ^ 126)) ≡ t
        → (if t then Some (digits_value 10 digits) else None) ≡ Some n → n ≤ 2 ^ 126
    by true is e =
        let v : digits_value 10 digits ≡ n = cc in
        let P : ℕ → Type 0 = λ k. k ≤ 2 ^ 126 in
        subst P v (below (digits_value 10 digits) (last-true (nat_le 1 (length digits) && nat_le (length digits) 39 && all_ascii_digits digits) (nat_le (digits_value 10 digits) (2 ^ 126)) is))
    by false is e = absurd (cc)

signed-small : (f : ℕ → ℤ) → ((n : ℕ) → n ≤ 2 ^ 126 → IsNumber (f n)) → (digits : List ℕ) (o : Option ℕ) → magnitude_in digits ≡ o → (z : ℤ) → option_map f o ≡ Some z → IsNumber z
signed-small f fits digits None is z e = absurd (cc)
signed-small f fits digits (Some n) is z e =
    let same : f n ≡ z = cc in
    subst IsNumber same (fits n (magnitude-small digits n is))

fits-plus : (n : ℕ) → n ≤ 2 ^ 126 → IsNumber (pos n)
fits-plus n h = h

fits-minus : (n : ℕ) → n ≤ 2 ^ 126 → IsNumber (neg_ℤ (pos n))
fits-minus n h = omega (arith, ints)

number-small : (field : List ℕ) (z : ℤ) → number_in field ≡ Some z → IsNumber z
number-small field z e = by (starts_with_minus field) e
  where
    by : (t : Bool) → (if t then option_map (λ n. neg_ℤ (pos n)) (magnitude_in (drop 1 field)) else option_map (λ n. pos n) (magnitude_in field)) ≡ Some z → IsNumber z
    by true e = signed-small (λ n. neg_ℤ (pos n)) fits-minus (drop 1 field) (magnitude_in (drop 1 field)) refl z e
    by false e = signed-small (λ n. pos n) fits-plus field (magnitude_in field) refl z e

-- fields that are all numbers
numbers-in : (numerals : List (List ℕ)) (k : ℕ) → position_from is_no_number k numerals ≡ None → (row : List ℤ) × (map number_in numerals ≡ map (λ z. Some z) row) × All IsNumber row
numbers-in [] k e = ([], refl, All-nil IsNumber)
numbers-in (field ∷ rest) k e = by (λ more. numbers-in rest (k + 1) more) (number_in field) refl
  where
    by : (position_from is_no_number (k + 1) rest ≡ None → (row : List ℤ) × (map number_in rest ≡ map (λ z. Some z) row) × All IsNumber row) → (o : Option ℤ) → number_in field ≡ o
        → (row : List ℤ) × (map number_in (field ∷ rest) ≡ map (λ z. Some z) row) × All IsNumber row
    by more None is = absurd (let wrong = rw is at e in cc)
    by more (Some z) is =
        let later = more (rw is at e) in
        (z ∷ later.0, ap₂ (λ (a : Option ℤ) (b : List (Option ℤ)). a ∷ b) is later.1, All-cons IsNumber z later.0 (number-small field z is) later.2)

no-fault : (number : ℕ) (o : Option ℕ) → option_map (λ field. Number number field) o ≡ None → o ≡ None
no-fault number None e = refl
no-fault number (Some k) e = absurd (cc)

whole-record : (fields : List (List ℕ)) (keyword : List ℕ) (count : ℕ) → length fields ≡ count + 1 → bytes_eq (keyword_of fields) keyword ≡ true → fields ≡ keyword ∷ drop 1 fields
whole-record [] keyword count size is = absurd (omega arith)
whole-record (f ∷ fs) keyword count size is = ap (λ (x : List ℕ). x ∷ fs) ((bytes_eq-Decides f keyword).0 is)

rest-size : (fields : List (List ℕ)) (count : ℕ) → length fields ≡ count + 1 → length (drop 1 fields) ≡ count
rest-size [] count size = absurd (omega arith)
rest-size (f ∷ fs) count size = omega arith

-- a record without a fault is read as what is due
fine-record : (number : ℕ) (due : Expected) (fields : List (List ℕ)) → record_fault number due fields ≡ None → (row : List ℤ) × IsReadAs due fields row
fine-record number due fields e = by (bytes_eq (keyword_of fields) due.keyword) refl (length fields == due.count + 1) refl e
  where
    by : (s : Bool) → bytes_eq (keyword_of fields) due.keyword ≡ s → (t : Bool) → (length fields == due.count + 1) ≡ t
        → (if not s then Some (Keyword number) else if not t then Some (Shape number (due.count + 1) (length fields))
        else option_map (λ field. Number number field) (position_from is_no_number 2 (drop 1 fields))) ≡ None → (row : List ℤ) × IsReadAs due fields row
    by false is t are e = absurd (cc)
    by true is false are e = absurd (cc)
    by true is true are e =
        let size : length fields ≡ due.count + 1 = eqb-true (length fields) (due.count + 1) are in
        let row = numbers-in (drop 1 fields) 2 (no-fault number (position_from is_no_number 2 (drop 1 fields)) e) in
        let many : length row.0 ≡ due.count = sym (length-map row.0 (λ (z : ℤ). Some z)) ∙ sym (ap length row.1) ∙ length-map (drop 1 fields) number_in ∙ rest-size fields due.count size in
        (row.0, record { keyword = whole-record fields due.keyword due.count size is; spelt = row.1; numbers = record { one_each = many; each = row.2 } })

-- so are records without a fault
abbrev pub AreFine : List Expected → List (List (List ℕ)) → List (List ℤ) → Type 0
AreFine dues records rows =
    (length records ≡ length dues) × (length rows ≡ length dues) × ((k : ℕ) → k < length dues → IsReadAs (get_or dues k none) (get_or records k []) (get_or rows k []))

fine-records : (number : ℕ) (dues : List Expected) (records : List (List (List ℕ))) → first_fault number dues records ≡ None → (rows : List (List ℤ)) × AreFine dues records rows
fine-records number [] [] e = ([], (refl, refl, λ k h. absurd (omega arith)))
fine-records number [] (fields ∷ rest) e = absurd (cc)
fine-records number (due ∷ more) [] e = absurd (cc)
fine-records number (due ∷ more) (fields ∷ rest) e = by (λ h. fine-records (number + 1) more rest h) (record_fault number due fields) refl e
  where
    step : (row : List ℤ) → IsReadAs due fields row → (rows : List (List ℤ)) × AreFine more rest rows → (rows : List (List ℤ)) × AreFine (due ∷ more) (fields ∷ rest) rows
    step row read later = (row ∷ later.0, (omega (arith, later.1.0), omega (arith, later.1.1), each))
      where
        each : (k : ℕ) → k < length (due ∷ more) → IsReadAs (get_or (due ∷ more) k none) (get_or (fields ∷ rest) k []) (get_or (row ∷ later.0) k [])
        each zero h = read
        each (suc k) h = later.1.2 k (omega arith)

    by : (first_fault (number + 1) more rest ≡ None → (rows : List (List ℤ)) × AreFine more rest rows) → (o : Option TextErr) → record_fault number due fields ≡ o
        → option_or o (first_fault (number + 1) more rest) ≡ None → (rows : List (List ℤ)) × AreFine (due ∷ more) (fields ∷ rest) rows
    by later None is e = let first = fine-record number due fields is in step first.0 first.1 (later e)
    by later (Some why) is e = absurd (cc)

-- the forms that there are
form-known : (z : ℤ) (form : ℕ) → form_in z ≡ Some form → (z ≡ pos form) × (1 ≤ form) × (form ≤ 3)
form-known z form e = by (int_eq z (pos 1)) refl (int_eq z (pos 2)) refl (int_eq z (pos 3)) refl e
  where
    is_it : (k : ℕ) → int_eq z (pos k) ≡ true → 1 ≤ k → k ≤ 3 → Some k ≡ Some form → (z ≡ pos form) × (1 ≤ form) × (form ≤ 3)
    is_it k same low high e =
        let at : k ≡ form = cc in
        ((Decides-int_eq z (pos k)).0 same ∙ ap pos at, omega arith, omega arith)

    by : (a : Bool) → int_eq z (pos 1) ≡ a → (b : Bool) → int_eq z (pos 2) ≡ b → (c : Bool) → int_eq z (pos 3) ≡ c
        → (if a then Some 1 else if b then Some 2 else if c then Some 3 else None) ≡ Some form → (z ≡ pos form) × (1 ≤ form) × (form ≤ 3)
    by true p b q c r e = is_it 1 p (omega arith) (omega arith) e
    by false p true q c r e = is_it 2 q (omega arith) (omega arith) e
    by false p false q true r e = is_it 3 r (omega arith) (omega arith) e
    by false p false q false r e = absurd (cc)

-- what a text without a fault is read as
pub record IsReadInForm (n form : ℕ) (records : List (List (List ℕ))) : Type 0 where
  pub low : 1 ≤ form
  pub high : form ≤ 3
  pub named : first_number (get_or records 0 []) ≡ pos form
  pub rows : List (List ℤ)
  pub read : AreReadAs n (line_count n form) records rows

read-rows : (n form : ℕ) (records : List (List (List ℕ))) → 1 ≤ form → form ≤ 3 → first_fault 1 (take (line_count n form) (layout n)) records ≡ None
    → (rows : List (List ℤ)) × AreReadAs n (line_count n form) records rows
read-rows n form records low high e =
    let fine = fine-records 1 (take (line_count n form) (layout n)) records e in
    let size = length-due n (line_count n form) (line-count n form low high).1 in (
      fine.0,
      record {
        one_each = fine.1.0 ∙ size;
        as_many = fine.1.1 ∙ size;
        each = λ k h.
            let P : Expected → Type 0 = λ due. IsReadAs due (get_or records k []) (get_or fine.0 k []) in
            subst P (get_or-take (line_count n form) (layout n) k none h) (fine.1.2 k (omega (arith, size)));
      },
    )

pub fine-text : (n : ℕ) (records : List (List (List ℕ))) → text_fault n records ≡ None → (form : ℕ) × IsReadInForm n form records
fine-text n [] e = absurd (cc)
fine-text n (fields ∷ rest) e = by (record_fault 1 (expected (codes "form") 1) fields) e
  where
    in_form : (o : Option ℕ) → form_in (first_number fields) ≡ o → fault_in_form n (fields ∷ rest) (first_number fields) o ≡ None → (form : ℕ) × IsReadInForm n form (fields ∷ rest)
    in_form None is e = absurd (cc)
    in_form (Some form) is e =
        let known = form-known (first_number fields) form is in
        let rows = read-rows n form (fields ∷ rest) known.1 known.2 e in
        (form, record { low = known.1; high = known.2; named = known.0; rows = rows.0; read = rows.1 })

    by : (o : Option TextErr) → option_or o (fault_in_form n (fields ∷ rest) (first_number fields) (form_in (first_number fields))) ≡ None → (form : ℕ) × IsReadInForm n form (fields ∷ rest)
    by None e = in_form (form_in (first_number fields)) refl e
    by (Some why) e = absurd (cc)
