-- A turn of the loop that reads records.
use Rattle.cert_check.proofs.Common
use Common.{[], ℕ, ℤ, ◌*◌, ◌++◌, ◌+◌, ◌<◌, ◌∙◌, ◌∷◌, ◌≡◌, ◌≤◌, ◌⊎◌, All, ap, arith, cases_lt}
use Common.{due_at, Expected, expected, fields_of, first_fault, get_or, get_or-map, get_or-take}
use Common.{get_or_append_left, get_or_at, inl, inr, IsReadAs, layout, length, length-map}
use Common.{length-take, List, map, None, record_fault, Row, Some, subst, sym, take, TakesMemory}
use Common.{TextErr}
use Rattle.std.specs.Prelude.{Result, Ok, Err, IsErrAnd, IfErr}
use Rattle.cert_check.proofs.FieldPlaces.{none, length-layout}
use Rattle.cert_check.proofs.Faults.{LeftAt, left-more, refused-here}

pub due-is : (due : Expected) (keyword : List ℕ) (count : ℕ) → keyword ≡ due.keyword → count ≡ due.count → expected keyword count ≡ due
due-is due keyword count e f = λ i. expected (e i) (f i)

pub length-due : (n count : ℕ) → count ≤ 3 * n + 17 → length (take count (layout n)) ≡ count
length-due n count h = omega (arith, length-take count (layout n), length-layout n)

pub fields-at : (records : List Row) (k : ℕ) (x : Row) → k < length records → x ≡ get_or records k x → get_or (map fields_of records) k [] ≡ fields_of x
fields-at records k x h is = get_or-map fields_of records k x [] h ∙ sym (ap fields_of is)

module _ (n count k : ℕ) (records : List Row) (x : Row) (few : count ≤ 3 * n + 17) (h : k < count) (l : k < length records) (is : x ≡ get_or records k x) where
  fault-same : (due : Expected) → due ≡ due_at n k
      → record_fault (k + 1) (get_or (take count (layout n)) k none) (get_or (map fields_of records) k []) ≡ record_fault (k + 1) due (fields_of x)
  fault-same due e =
      ap (λ d. record_fault (k + 1) d (get_or (map fields_of records) k [])) (get_or-take count (layout n) k none h ∙ sym e)
      ∙ ap (record_fault (k + 1) due) (fields-at records k x l is)

  inside : k < length (take count (layout n))
  inside = omega (arith, length-due n count few)

  among : k < length (map fields_of records)
  among = omega (arith, length-map records fields_of)

  pub read-more : (due : Expected) → due ≡ due_at n k → LeftAt (take count (layout n)) (map fields_of records) k
      → record_fault (k + 1) due (fields_of x) ≡ None → LeftAt (take count (layout n)) (map fields_of records) (k + 1)
  read-more due e before fine = left-more (take count (layout n)) (map fields_of records) k inside among before (fault-same due e ∙ fine)

  pub read-refused : (due : Expected) (why : TextErr) → due ≡ due_at n k → LeftAt (take count (layout n)) (map fields_of records) k
      → record_fault (k + 1) due (fields_of x) ≡ Some why → first_fault 1 (take count (layout n)) (map fields_of records) ≡ Some why
  read-refused due why e before bad = refused-here (take count (layout n)) (map fields_of records) k why inside among before (fault-same due e ∙ bad)

  pub read-as : (due : Expected) (row : List ℤ) → due ≡ due_at n k → IsReadAs due (fields_of x) row
      → IsReadAs (due_at n k) (get_or (map fields_of records) k []) row
  read-as due row e read =
      let P : Expected → Type 0 = λ d. IsReadAs d (get_or (map fields_of records) k []) row in
      let Q : List (List ℕ) → Type 0 = λ f. IsReadAs due f row in
      subst P e (subst Q (sym (fields-at records k x l is)) read)

  pub read-takes : (due : Expected) → due ≡ due_at n k → TakesMemory due (fields_of x) → TakesMemory (due_at n k) (get_or (map fields_of records) k [])
  read-takes due e takes =
      let P : Expected → Type 0 = λ d. TakesMemory d (get_or (map fields_of records) k []) in
      let Q : List (List ℕ) → Type 0 = λ f. TakesMemory due f in
      subst P e (subst Q (sym (fields-at records k x l is)) takes)

-- one more row
pub rows-more : (n k : ℕ) (fields : List (List (List ℕ))) (rows : List (List ℤ)) (row : List ℤ) → length rows ≡ k
    → ((j : ℕ) → j < k → IsReadAs (due_at n j) (get_or fields j []) (get_or rows j [])) → IsReadAs (due_at n k) (get_or fields k []) row
    → (j : ℕ) → j < k + 1 → IsReadAs (due_at n j) (get_or fields j []) (get_or (rows ++ row ∷ []) j [])
rows-more n k fields rows row size before read j h = by (cases_lt j k)
  where
    by : (j < k) ⊎ (k ≤ j) → IsReadAs (due_at n j) (get_or fields j []) (get_or (rows ++ row ∷ []) j [])
    by (inl l) = rw (get_or_append_left rows (row ∷ []) [] j (omega arith)) (before j l)
    by (inr l) = let e : j ≡ k = omega arith in rw e (rw (get_or_at rows row [] [] k size) read)

-- an error that is passed on
pub err-as : {X : Type 0} (r : Result X TextErr) (e : TextErr) (P : TextErr → Type 0) → IsErrAnd r (λ x. x ≡ e) → P e → IfErr r P
err-as (Ok x) e P h p = tt
err-as (Err x) e P h p = subst P (sym h) p

-- what holds of an error holds in another word
pub err-map : {X : Type 0} (r : Result X TextErr) (P Q : TextErr → Type 0) → ((why : TextErr) → P why → Q why) → IfErr r P → IfErr r Q
err-map (Ok x) P Q f h = tt
err-map (Err why) P Q f h = f why h

-- what holds of the fields of records holds of the records
pub records-all : (P : List (List ℕ) → Type 0) (records : List Row) → All P (map fields_of records) → All (λ x. P (fields_of x)) records
records-all P records h k d l =
    let e = get_or-map fields_of records k d [] l in
    subst P e (h k [] (omega (arith, length-map records fields_of)))
