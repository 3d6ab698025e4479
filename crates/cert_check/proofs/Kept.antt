-- Which records take memory.
use Rattle.cert_check.proofs.Common
use Common.{[], ℕ, ℤ, ◌<◌, ◌∙◌, ◌∷◌, ◌≡◌, ◌⊎◌, ap, arith, codes, drop, due_at, expected, false}
use Common.{fault_in_form, fields_of, first_number, FirstTakesMemory, form_in, get_or, inl, inr}
use Common.{is_no_number, is_none, IsReadAs, keyword_of, length, length-map, List, map, Memory}
use Common.{number_in, option_or, record_fault, Row, Some, subst, suc, TakesMemory, text_fault}
use Common.{TextErr, zero}

-- a first field that is a number
first-spelt : (numerals : List (List ℕ)) (row : List ℤ) → map number_in numerals ≡ map (λ z. Some z) row → length row ≡ 1 → is_no_number (get_or numerals 0 []) ≡ false
first-spelt numerals [] e size = absurd (omega (arith, size))
first-spelt [] (z ∷ row) e size = absurd (cc)
first-spelt (numeral ∷ numerals) (z ∷ row) e size = let here : number_in numeral ≡ Some z = cc in ap is_none here

-- a record that was read with one number took memory
one-kept : (keyword : List ℕ) (fields : List (List ℕ)) (row : List ℤ) → IsReadAs (expected keyword 1) fields row → TakesMemory (expected keyword 1) fields
one-kept keyword fields row read = record {
  keyword = ap keyword_of read.keyword;
  count = omega (arith, ap length read.keyword, ap length read.spelt, length-map (drop 1 fields) number_in, length-map row (λ z. Some z), read.numbers.one_each);
  some = ap (λ (f : List (List ℕ)). is_no_number (get_or f 1 [])) read.keyword ∙ first-spelt (drop 1 fields) row read.spelt read.numbers.one_each;
}

-- where some records were read, the first one took memory
pub first-kept : (n k : ℕ) (fields : List (List (List ℕ))) (rows : List (List ℤ)) → 0 < k
    → ((j : ℕ) → j < k → IsReadAs (due_at n j) (get_or fields j []) (get_or rows j [])) → TakesMemory (expected (codes "form") 1) (get_or fields 0 [])
first-kept n k fields rows some read = one-kept (codes "form") (get_or fields 0 []) (get_or rows 0 []) (read 0 some)

-- so it did where the records before one that takes memory were read
pub first-takes : (n k : ℕ) (fields : List (List (List ℕ))) (rows : List (List ℤ)) → ((j : ℕ) → j < k → IsReadAs (due_at n j) (get_or fields j []) (get_or rows j []))
    → TakesMemory (due_at n k) (get_or fields k []) → TakesMemory (expected (codes "form") 1) (get_or fields 0 [])
first-takes n zero fields rows read takes = takes
first-takes n (suc k) fields rows read takes = first-kept n (suc k) fields rows (omega arith) read

-- the first record of a text is that of its form
pub form-refused : (records : List Row) (x : Row) (why : TextErr) → 0 < length records → x ≡ get_or records 0 x
    → ((why ≡ Memory) × TakesMemory (expected (codes "form") 1) (fields_of x)) ⊎ (record_fault 1 (expected (codes "form") 1) (fields_of x) ≡ Some why)
    → ((why ≡ Memory) × FirstTakesMemory 1 (map fields_of records)) ⊎ ((n : ℕ) → text_fault n (map fields_of records) ≡ Some why)
form-refused [] x why some is h = absurd (omega arith)
form-refused (r ∷ rs) x why some is (inl (e, takes)) =
    let P : Row → Type 0 = λ y. TakesMemory (expected (codes "form") 1) (fields_of y) in
    inl (e, (omega arith, subst P is takes))
form-refused (r ∷ rs) x why some is (inr bad) =
    let P : Row → Type 0 = λ y. record_fault 1 (expected (codes "form") 1) (fields_of y) ≡ Some why in
    inr (λ n. ap (λ o. option_or o (fault_in_form n (map fields_of (r ∷ rs)) (first_number (fields_of r)) (form_in (first_number (fields_of r))))) (subst P is bad))
