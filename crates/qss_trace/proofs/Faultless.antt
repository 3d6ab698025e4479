-- Records without a fault parse as a trace.
use Rattle.qss_trace.proofs.Common
use Common.{[], ℕ, ℤ, ◌&&◌, ◌*◌, ◌++◌, ◌+◌, ◌<◌, ◌==◌, ◌^◌, ◌∙◌, ◌∷◌, ◌≡◌, ◌≤ℤ◌, ◌≤◌, ◌⊎◌}
use Common.{AddsNumbers, ap, append-nil, append_assoc, ap₂, AreRecordsOf, arith, Bool, bytes_eq}
use Common.{bytes_eq-Decides, cases_lt, codes, Decides-int_eq, drop, drop-drop, eqb-true, false}
use Common.{fault_from, first_number, fits, Form, form_fault, get_or, HasShape, if◌then◌else◌, inl}
use Common.{inr, int_eq, int_le, ints, is_unfit, IsCutInto, IsFactor, IsFaultOf, IsSize, IsTextOf}
use Common.{Kept, Keyword, keyword_of, length, length-append, Limit, line, List, lt-ltb, map}
use Common.{Missing, None, not, Number, number_count, number_fault, number_within, Option}
use Common.{option_map, option_or, ParsesAs, part, pos, position_from, record_fault, refl, Shape}
use Common.{shape_fault, Some, subst, suc, sym, take, TextErr, Trace, trace_fault, true}
use Common.{unsigned_abs, zero}
use Rattle.qss_trace.specs.ExpectedFields.{Due, due, due_at, first_unfit}
use Rattle.qss_trace.proofs.Cutting.{records-few}
use Rattle.cert_check.proofs.Totals.{cut-total}
use Rattle.qss_trace.proofs.Fields.{Parts, IsSound, trace_of}
use Rattle.qss_trace.proofs.Judging.{within-is, spells-one, one-bad}
use Rattle.qss_trace.proofs.Keeping.{Records, kept-none, kept-form, kept-scale, kept-refine}
use Rattle.qss_trace.proofs.Keeping.{kept-quanta, kept-place, kept-places, all-lines}
use Rattle.qss_trace.proofs.Taken.{spells-many, quanta-many, place-adds}
use Rattle.qss_trace.specs.declared.trace_parser.Limit.TheVariants as limit

-- neither of two options has a fault
both-none : {X : Type 0} (a b : Option X) → option_or a b ≡ None → (a ≡ None) × (b ≡ None)
both-none None b e = (refl, e)
both-none (Some x) b e = absurd (cc)

no-number : (number : ℕ) (o : Option ℕ) → option_map (λ field. Number number field) o ≡ None → o ≡ None
no-number number None e = refl
no-number number (Some k) e = absurd (cc)

-- fields without a fault are numbers within their limit
numbers-in : (l : Limit) (fields : List (List ℕ)) (k : ℕ) → position_from (is_unfit l) k fields ≡ None → (row : List ℤ) × (map (number_within l) fields ≡ map (λ z. Some z) row)
numbers-in l [] k e = ([], refl)
numbers-in l (field ∷ rest) k e = by (λ more. numbers-in l rest (k + 1) more) (number_within l field) refl
  where
    by : (position_from (is_unfit l) (k + 1) rest ≡ None → (row : List ℤ) × (map (number_within l) rest ≡ map (λ z. Some z) row)) → (o : Option ℤ) → number_within l field ≡ o
        → (row : List ℤ) × (map (number_within l) (field ∷ rest) ≡ map (λ z. Some z) row)
    by more None is = absurd (let wrong = rw is at e in cc)
    by more (Some z) is =
        let later = more (rw is at e) in
        (z ∷ later.0, ap₂ (λ (a : Option ℤ) (b : List (Option ℤ)). a ∷ b) is later.1)

-- so they add their numbers to others
adds-of : (l : Limit) (fields : List (List ℕ)) (k : ℕ) (old : List ℤ) → position_from (is_unfit l) k fields ≡ None → (new : List ℤ) × AddsNumbers l fields old new
adds-of l fields k old e = let row = numbers-in l fields k e in (old ++ row.0, record { row = row.0; added = refl; spelt = row.1 })

-- a record without a fault has its shape
shape-of : (number : ℕ) (keyword : List ℕ) (count : ℕ) (fields : List (List ℕ)) → shape_fault number keyword count fields ≡ None → HasShape keyword count fields
shape-of number keyword count fields e = by (bytes_eq (keyword_of fields) keyword) refl (length fields == count + 1) refl e
  where
    by : (s : Bool) → bytes_eq (keyword_of fields) keyword ≡ s → (t : Bool) → (length fields == count + 1) ≡ t
        → (if not s then Some (Keyword number) else if not t then Some (Shape number (count + 1) (length fields)) else None) ≡ None → HasShape keyword count fields
    by false is t are e = absurd (cc)
    by true is false are e = absurd (cc)
    by true is true are e = record { keyword_is = (bytes_eq-Decides (keyword_of fields) keyword).0 is; count_is = eqb-true (length fields) (count + 1) are }

-- a record of one number
one-number : (keyword : List ℕ) (fields : List (List ℕ)) (l : Limit) (number : ℕ) → HasShape keyword 1 fields → number_fault number (part l 1 ∷ []) fields ≡ None
    → (z : ℤ) × (number_within l (get_or fields 1 []) ≡ Some z)
one-number keyword fields l number shape e = by (number_within l (get_or fields 1 [])) refl
  where
    by : (o : Option ℤ) → number_within l (get_or fields 1 []) ≡ o → (z : ℤ) × (number_within l (get_or fields 1 []) ≡ Some z)
    by None is = absurd (let no : None ≡ Some (Number number 2) = sym e ∙ one-bad keyword fields shape l number is in cc)
    by (Some z) is = (z, is)

-- it names form 1
form-one : (fields : List (List ℕ)) (z : ℤ) → number_within limit.Any (get_or fields 1 []) ≡ Some z → form_fault 0 fields ≡ None → z ≡ pos 1
form-one fields z is e =
    let first : first_number fields ≡ z = rw ((within-is limit.Any (get_or fields 1 []) z is).0) refl in
    by (int_eq z (pos 1)) refl (ap (λ (y : ℤ). if int_eq y (pos 1) then None else Some (Form y)) (sym first) ∙ e)
  where
    by : (t : Bool) → int_eq z (pos 1) ≡ t → (if t then None else Some (Form z)) ≡ None → z ≡ pos 1
    by true same e = (Decides-int_eq z (pos 1)).0 same
    by false same e = absurd (cc)

-- a number within the limits of a scale
factor-of : (z : ℤ) → fits limit.Factor z ≡ true → (z ≡ pos (unsigned_abs z)) × IsFactor (unsigned_abs z)
factor-of z e = by (int_le (pos 1) z) refl (int_le z (pos (2 ^ 16))) refl e
  where
    order : (a b : ℤ) → int_le a b ≡ true → a ≤ℤ b
    order a b h = grind (arith, ints)

    by : (s : Bool) → int_le (pos 1) z ≡ s → (t : Bool) → int_le z (pos (2 ^ 16)) ≡ t → (s && t) ≡ true → (z ≡ pos (unsigned_abs z)) × IsFactor (unsigned_abs z)
    by true p true q h =
        let low = order (pos 1) z p in
        let high = order z (pos (2 ^ 16)) q in
        (omega (arith, ints), record { some = omega (arith, ints); few = omega (arith, ints) })
    by true p false q h = absurd (cc)
    by false p t q h = absurd (cc)

-- ---- places

-- what is due from record 4 on
place-due : (n k : ℕ) → 4 ≤ k → due_at n k ≡ due (codes "at") (part limit.State n ∷ part limit.Level n ∷ [])
place-due n zero h = absurd (omega arith)
place-due n (suc zero) h = absurd (omega arith)
place-due n (suc (suc zero)) h = absurd (omega arith)
place-due n (suc (suc (suc zero))) h = absurd (omega arith)
place-due n (suc (suc (suc (suc k)))) h = refl

-- the shape and the numbers of a record without a fault
record Parted (n k : ℕ) (fields : List (List ℕ)) (d : Due) : Type 0 where
  shape : shape_fault (k + 1) d.keyword (number_count d.parts) fields ≡ None
  numbers : number_fault (k + 1) d.parts fields ≡ None
  form : form_fault k fields ≡ None

parted : (n k : ℕ) (fields : List (List ℕ)) → record_fault n k fields ≡ None → Parted n k fields (due_at n k)
parted n k fields e =
    let one = both-none (shape_fault (k + 1) (due_at n k).keyword (number_count (due_at n k).parts) fields) (option_or (number_fault (k + 1) (due_at n k).parts fields) (form_fault k fields)) e in
    let two = both-none (number_fault (k + 1) (due_at n k).parts fields) (form_fault k fields) one.1 in
    record { shape = one.0; numbers = two.0; form = two.1 }

-- one place more
place-more : (n : ℕ) (seen : Records) (fields : List (List ℕ)) (scale refine : ℕ) (q states levels : List ℤ) → 1 ≤ n → 4 ≤ length seen → Kept n seen scale refine q states levels
    → record_fault n (length seen) fields ≡ None → (states' : List ℤ) × (levels' : List ℤ) × Kept n (seen ++ fields ∷ []) scale refine q states' levels'
place-more n seen fields scale refine q states levels some h kept none =
    let parts = part limit.State n ∷ part limit.Level n ∷ [] in
    let p = subst (Parted n (length seen) fields) (place-due n (length seen) h) (parted n (length seen) fields none) in
    let count : number_count parts ≡ 2 * n = omega arith in
    let shape = subst (λ c. HasShape (codes "at") c fields) count (shape-of (length seen + 1) (codes "at") (number_count parts) fields p.shape) in
    let unfit = no-number (length seen + 1) (first_unfit 2 parts (drop 1 fields)) p.numbers in
    let one = both-none (position_from (is_unfit limit.State) 2 (take n (drop 1 fields))) (first_unfit (2 + n) (part limit.Level n ∷ []) (drop n (drop 1 fields))) unfit in
    let two = both-none (position_from (is_unfit limit.Level) (2 + n) (take n (drop n (drop 1 fields)))) None one.1 in
    let later : drop n (drop 1 fields) ≡ drop (n + 1) fields = drop-drop n 1 fields ∙ ap (λ k. drop k fields) (omega arith) in
    let levels-fine = subst (λ fs. position_from (is_unfit limit.Level) (2 + n) (take n fs) ≡ None) later two.0 in
    let a = adds-of limit.State (take n (drop 1 fields)) 2 states one.0 in
    let b = adds-of limit.Level (take n (drop (n + 1) fields)) (2 + n) levels levels-fine in
    let adds = place-adds (codes "at") n fields states levels a.0 b.0 refl shape a.1 b.1 in (
      states ++ adds.xs,
      levels ++ adds.ms,
      kept-place n seen fields scale refine q states levels adds.xs adds.ms some h kept none adds.state_count adds.level_count adds.small_states adds.small_levels adds.spelt,
    )

-- all places
places-more : (n : ℕ) (seen more : Records) (scale refine : ℕ) (q states levels : List ℤ) → 1 ≤ n → 4 ≤ length seen → Kept n seen scale refine q states levels
    → fault_from n (length seen) more ≡ None → (states' : List ℤ) × (levels' : List ℤ) × Kept n (seen ++ more) scale refine q states' levels' × (5 ≤ length (seen ++ more))
places-more n seen [] scale refine q states levels some h kept e =
    let all : seen ++ [] ≡ seen = append-nil seen in
    (states, levels, subst (λ r. Kept n r scale refine q states levels) (sym all) kept, subst (λ (r : Records). 5 ≤ length r) (sym all) (by (cases_lt (length seen) 5)))
  where
    by : (length seen < 5) ⊎ (5 ≤ length seen) → 5 ≤ length seen
    by (inl low) = absurd (let wrong = ap (λ t. if t then Some (Missing (length seen + 1)) else None) (sym (lt-ltb (length seen) 5 low)) ∙ e in cc)
    by (inr high) = high
places-more n seen (fields ∷ rest) scale refine q states levels some h kept e =
    let two = both-none (record_fault n (length seen) fields) (fault_from n (length seen + 1) rest) e in
    let one = place-more n seen fields scale refine q states levels some h kept two.0 in
    let size = length-append seen (fields ∷ []) in
    let later = subst (λ k. fault_from n k rest ≡ None) (sym size) two.1 in
    let all = places-more n (seen ++ fields ∷ []) rest scale refine q one.0 one.1 some (omega (arith, size)) one.2 later in
    let same = append_assoc seen (fields ∷ []) rest in
    (all.0, all.1, subst (λ r. Kept n r scale refine q all.0 all.1) same all.2, subst (λ (r : Records). 5 ≤ length r) same all.3)

-- ---- the records before them

-- the numbers of records without a fault
record AreKept (n : ℕ) (records : Records) : Type 0 where
  scale : ℕ
  refine : ℕ
  q : List ℤ
  states : List ℤ
  levels : List ℤ
  keeps : Kept n records scale refine q states levels
  some : 5 ≤ length records

all-kept : (n : ℕ) (records : Records) → 1 ≤ n → trace_fault n records ≡ None → AreKept n records
all-kept n [] some e = absurd (cc)
all-kept n (a ∷ []) some e = absurd (let no = (both-none (record_fault n 0 a) (Some (Missing 2)) e).1 in cc)
all-kept n (a ∷ b ∷ []) some e =
    let no-a = (both-none (record_fault n 0 a) (option_or (record_fault n 1 b) (Some (Missing 3))) e).1 in
    absurd (let no = (both-none (record_fault n 1 b) (Some (Missing 3)) no-a).1 in cc)
all-kept n (a ∷ b ∷ c ∷ []) some e =
    let no-a = (both-none (record_fault n 0 a) (fault_from n 1 (b ∷ c ∷ [])) e).1 in
    let no-b = (both-none (record_fault n 1 b) (fault_from n 2 (c ∷ [])) no-a).1 in
    absurd (let no = (both-none (record_fault n 2 c) (Some (Missing 4)) no-b).1 in cc)
all-kept n (a ∷ b ∷ c ∷ d ∷ rest) some e =
    let no-a = both-none (record_fault n 0 a) (fault_from n 1 (b ∷ c ∷ d ∷ rest)) e in
    let no-b = both-none (record_fault n 1 b) (fault_from n 2 (c ∷ d ∷ rest)) no-a.1 in
    let no-c = both-none (record_fault n 2 c) (fault_from n 3 (d ∷ rest)) no-b.1 in
    let no-d = both-none (record_fault n 3 d) (fault_from n 4 rest) no-c.1 in
    let p-a = parted n 0 a no-a.0 in
    let p-b = parted n 1 b no-b.0 in
    let p-c = parted n 2 c no-c.0 in
    let p-d = parted n 3 d no-d.0 in
    let shape-a = shape-of 1 (codes "trace") 1 a p-a.shape in
    let shape-b = shape-of 2 (codes "scale") 1 b p-b.shape in
    let shape-c = shape-of 3 (codes "refine") 1 c p-c.shape in
    let z-a = one-number (codes "trace") a limit.Any 1 shape-a p-a.numbers in
    let z-b = one-number (codes "scale") b limit.Factor 2 shape-b p-b.numbers in
    let z-c = one-number (codes "refine") c limit.Factor 3 shape-c p-c.numbers in
    let is-form = form-one a z-a.0 z-a.1 p-a.form in
    let scale = factor-of z-b.0 (within-is limit.Factor (get_or b 1 []) z-b.0 z-b.1).1 in
    let refine = factor-of z-c.0 (within-is limit.Factor (get_or c 1 []) z-c.0 z-c.1).1 in
    let s = unsigned_abs z-b.0 in
    let r = unsigned_abs z-c.0 in
    let spells-a = subst (λ z. ParsesAs a (line (codes "trace") (z ∷ []))) is-form (spells-one (codes "trace") a shape-a limit.Any z-a.0 z-a.1) in
    let spells-b = subst (λ z. ParsesAs b (line (codes "scale") (z ∷ []))) scale.0 (spells-one (codes "scale") b shape-b limit.Factor z-b.0 z-b.1) in
    let spells-c = subst (λ z. ParsesAs c (line (codes "refine") (z ∷ []))) refine.0 (spells-one (codes "refine") c shape-c limit.Factor z-c.0 z-c.1) in
    let count : number_count (part limit.Quantum n ∷ []) ≡ n = omega arith in
    let shape-d = subst (λ k. HasShape (codes "Q") k d) count (shape-of 4 (codes "Q") (number_count (part limit.Quantum n ∷ [])) d p-d.shape) in
    let unfit-d = no-number 4 (first_unfit 2 (part limit.Quantum n ∷ []) (drop 1 d)) p-d.numbers in
    let fine-d = (both-none (position_from (is_unfit limit.Quantum) 2 (take n (drop 1 d))) None unfit-d).0 in
    let q = adds-of limit.Quantum (take n (drop 1 d)) 2 [] fine-d in
    let k-a = kept-form n [] a 1 1 [] [] [] (kept-none n 1 1) no-a.0 refl spells-a in
    let k-b = kept-scale n (a ∷ []) b 1 1 [] [] [] k-a no-b.0 s refl spells-b scale.1 in
    let k-c = kept-refine n (a ∷ b ∷ []) c s 1 [] [] [] k-b no-c.0 r refl spells-c refine.1 in
    let k-d = kept-quanta n (a ∷ b ∷ c ∷ []) d s r [] [] [] k-c no-d.0 q.0 refl (spells-many (codes "Q") d n limit.Quantum [] q.0 shape-d refl q.1) (quanta-many (codes "Q") d n [] q.0 shape-d refl q.1) in
    let all = places-more n (a ∷ b ∷ c ∷ d ∷ []) rest s r q.0 [] [] some (omega arith) k-d no-d.1 in
    record { scale = s; refine = r; q = q.0; states = all.0; levels = all.1; keeps = all.2; some = all.3 }

-- records without a fault, of few bytes, parse as a trace
spelled : (n : ℕ) (records : Records) → IsSize n → length records ≤ 2 ^ 24 + 1 → trace_fault n records ≡ None → (t : Trace) × AreRecordsOf n records t
spelled n records size few e =
    let k = all-kept n records size.some e in
    let parts : Parts = record { n = n; scale = k.scale; refine = k.refine; q = k.q; states = k.states; levels = k.levels } in
    let some = k.some in
    let sound : IsSound parts = record {
      size = size;
      scale = k.keeps.some_scale (omega (arith, some));
      refine = k.keeps.some_refinement (omega (arith, some));
      quanta = k.keeps.quanta (omega (arith, some));
      places = kept-places n records k.scale k.refine k.q k.states k.levels size.some some few k.keeps;
    } in
    (trace_of parts sound, record { size = refl; spelt = all-lines n records k.scale k.refine k.q k.states k.levels size.some (omega (arith, some)) k.keeps })

pub judged : (n : ℕ) (bytes : List ℕ) → IsSize n → length bytes ≤ 2 ^ 24 → ((t : Trace) × IsTextOf n bytes t) ⊎ ((why : TextErr) × IsFaultOf n bytes why)
judged n bytes size short = by (cut-total bytes)
  where
    by : (records : Records) × IsCutInto bytes records → ((t : Trace) × IsTextOf n bytes t) ⊎ ((why : TextErr) × IsFaultOf n bytes why)
    by cut = from (trace_fault n cut.0) refl
      where
        from : (o : Option TextErr) → trace_fault n cut.0 ≡ o → ((t : Trace) × IsTextOf n bytes t) ⊎ ((why : TextErr) × IsFaultOf n bytes why)
        from (Some why) e = inr (why, (cut.0, cut.1, e))
        from None e =
            let few = records-few bytes cut.0 cut.1.0 cut.1.1 cut.1.2 in
            let t = spelled n cut.0 size (omega (arith, few, short)) e in
            inl (t.0, (cut.0, cut.1, t.1))
