-- Columns, and multiples of them that are added to sums of rows, modulo 2^128.
use Rattle.qss_order2.proofs.Common
use Common.{[], ℕ, ℤ, ◌*ℤ◌, ◌++◌, ◌+ℤ◌, ◌+◌, ◌-ℤ◌, ◌-◌, ◌<◌, ◌==◌, ◌∙◌, ◌∷◌, ◌≡◌, ◌≢◌, ◌≤◌, add-mul}
use Common.{All, All-append, All-from_recursion, among_more, ap, AreColumnsBelow, arith, cases_Bool}
use Common.{cases_eq, cases_lt, coefficient_of, column_at, Entry, eqb, eqb-no, eqb-yes, false}
use Common.{get_or, get_or-set_other, get_or-set_same, if-false, if-true, if◌then◌else◌, inl, inr}
use Common.{int_at, int_wrap, ints, is_listed, IsColumn, IsWithin, length, length-append, List}
use Common.{Machine, mul-sub, not, or_cases, pos, refl, row_at, rows_in, set, start_coefficient}
use Common.{start_discretes, state_count, subst, suc, sum_below, sum_below-same, sum_below-zero}
use Common.{sum_over_more, sym, take, take_all, true, zero, zero-*ℤ}
use Rattle.std.proofs.lemmas.Bool.{or_parts, eqb-true, eqb-false}
use Rattle.std.proofs.lemmas.Int.{int_wrap_fits, int_wrap-add_left, int_wrap-add_right}
use Rattle.std.proofs.lemmas.Int.{int_wrap-mul_right}
use Rattle.std.proofs.lemmas.List.{get_or_append_left, get_or-append_right}
use Rattle.std.specs.Int.{w128}
use Rattle.qss_machine.proofs.Among.{among_rows}
use Rattle.qss_machine.proofs.Unread.{unread_mode}
use Rattle.qss_machine.specs.Readers.{reading_rows}
use Rattle.mu_num.proofs.Sums.{sum_changed}
use Rattle.qss_order2.proofs.FixedFacts.{wide}
use Rattle.qss_order2.proofs.FixedRows.{coefficient_push, zero_or}

abbrev pub entry_0 : Entry
entry_0 = record { var = 0; coef = pos 0 }

-- ---- a column, row by row

pub record IsColumnOf (m : Machine) (state : ℕ) (rows : List ℕ) (entries : List Entry) : Type 0
  where
    pub known : All (λ entry. entry.var < state_count m) entries
    pub reads : All (λ entry. start_coefficient m entry.var state ≢ pos 0) entries
    pub same : (j : ℕ) → is_listed rows j ≡ true → coefficient_of entries j ≡ start_coefficient m j
        state
    pub none : (j : ℕ) → is_listed rows j ≡ false → coefficient_of entries j ≡ pos 0

pub no_column : (m : Machine) (state : ℕ) → IsColumnOf m state [] []
no_column m state = record {
  known = λ k d h. absurd (omega (arith, h));
  reads = λ k d h. absurd (omega (arith, h));
  same = λ j e. absurd (cc);
  none = λ j e. refl;
}

module _ (m : Machine) (state : ℕ) (rows : List ℕ) (i : ℕ) (h : i < length rows)
    (fresh : is_listed (take i rows) (get_or rows i 0) ≡ false)
    (inside : get_or rows i 0 < state_count m) (old : List Entry)
    (are : IsColumnOf m state (take i rows) old) where
  abbrev row : ℕ
  row = get_or rows i 0

  by_row : {P : Type 0} (j : ℕ) → is_listed (take (i + 1) rows) j ≡ true →
      (is_listed (take i rows) j ≡ true → P) → (row ≡ j → P) → P
  by_row j e before here = elim (or_cases (is_listed (take i rows) j) (eqb row j)
      (sym (among_more rows i j h) ∙ e)) [ inl b ↦ before b | inr y ↦ here (eqb-true row j y) ]

  not_row : (j : ℕ) → is_listed (take (i + 1) rows) j ≡ false → (is_listed (take i rows) j ≡ false)
      × (row ≢ j)
  not_row j e = let both = or_parts (is_listed (take i rows) j) (eqb row j)
      (sym (among_more rows i j h) ∙ e) in (both.0, eqb-false row j both.1)

  skip : start_coefficient m row state ≡ pos 0 → IsColumnOf m state (take (i + 1) rows) old
  skip none_here = record {
    known = are.known;
    reads = are.reads;
    same = λ j e. by_row j e (are.same j) (λ here.
        subst (λ r. coefficient_of old r ≡ start_coefficient m r state) here (are.none row fresh
        ∙ sym none_here));
    none = λ j e. are.none j (not_row j e).0;
  }

  push : (e : Entry) → e.var ≡ row → e.coef ≡ start_coefficient m row state → e.coef ≢ pos 0 →
      IsColumnOf m state (take (i + 1) rows) (old ++ e ∷ [])
  push e at is some = record {
    known = All-append (λ (entry : Entry). entry.var < state_count m) old (e ∷ []) are.known
        (All-from_recursion (λ (entry : Entry). entry.var < state_count m) (e ∷ []) (
          omega (
            arith,
            at,
            inside,
          ),
          tt,
        ));
    reads = All-append (λ (entry : Entry). start_coefficient m entry.var state ≢ pos 0) old (e ∷ [])
        are.reads
        (All-from_recursion (λ (entry : Entry). start_coefficient m entry.var state ≢ pos 0)
        (e ∷ []) ((λ z. some (is ∙ ap (λ r. start_coefficient m r state) (sym at) ∙ z)), tt));
    same = λ j l.
        by_row j l (λ before. other j (λ here. absurd (cc (here, fresh, before)))
        ∙ are.same j before)
        (λ here. subst (λ r. coefficient_of (old ++ e ∷ []) r ≡ start_coefficient m r state)
        here own);
    none = λ j l. let both = not_row j l in other j both.1 ∙ are.none j both.0;
  }
    where
      other : (j : ℕ) → row ≢ j → coefficient_of (old ++ e ∷ []) j ≡ coefficient_of old j
      other j ne = omega (
        arith,
        ints,
        coefficient_push old e j,
        if-false (e.var == j) e.coef
            (pos 0) (eqb-no e.var j (λ f. ne (sym at ∙ f))),
      )

      own : coefficient_of (old ++ e ∷ []) row ≡ start_coefficient m row state
      own = omega (
        arith,
        ints,
        coefficient_push old e row,
        if-true (e.var == row) e.coef (pos 0)
            (eqb-yes e.var row at),
        are.none row fresh,
        is,
      )

  pub column_more : (new : List Entry) (coef : ℤ) → coef ≡ start_coefficient m row state →
      (coef ≡ pos 0 → new ≡ old) → (coef ≢ pos 0 → new ≡ old ++ record {
        var = row;
        coef =
            coef;
      } ∷ []) →
      IsColumnOf m state (take (i + 1) rows) new
  column_more new coef is none some = elim (zero_or coef) [
    | inl e ↦ subst (IsColumnOf m state (take (i + 1) rows)) (sym (none e)) (skip (sym is ∙ e))
    | inr ne ↦ subst (IsColumnOf m state (take (i + 1) rows)) (sym (some ne)) (push (record {
      var =
          row;
      coef = coef;
    }) refl is ne)
  ]

pub column_done : (m : Machine) (state i : ℕ) (entries : List Entry) → length (reading_rows m state)
    ≤ i → IsColumnOf m state (take i (reading_rows m state)) entries → IsColumn m state entries
column_done m state i entries end given =
    let are = subst (λ (rows : List ℕ). IsColumnOf m state rows entries)
    (take_all i (reading_rows m state) end) given in
    record {
      known = are.known;
      reads = are.reads;
      same = λ j h. elim (cases_Bool (is_listed (reading_rows m state) j)) [
        | inl e ↦ are.same j e
        | inr not ↦ are.none j not ∙ sym (unread_mode m.f (state_count m) (row_at m j)
            (start_discretes m) state (sym (among_rows m state j h) ∙ not))
      ];
    }

-- one more column
pub columns_more : (m : Machine) (state : ℕ) (old new : List (List Entry)) (column : List Entry) →
    AreColumnsBelow m state old → new ≡ old ++ column ∷ [] → IsColumn m state column →
    AreColumnsBelow m (state + 1) new
columns_more m state old new column are added is = record {
  one_each = omega (arith, ap length added, length-append old (column ∷ []), are.one_each);
  each = λ j h. subst (λ (l : List (List Entry)). IsColumn m j (column_at l j)) (sym added)
      (elim (cases_lt j state) [
        | inl low ↦ subst (IsColumn m j) (sym (get_or_append_left old (column ∷ []) [] j
            (omega (arith, low, are.one_each)))) (are.each j low)
        | inr high ↦
            let here : j ≡ length old = omega (arith, h, high, are.one_each) in
            let own : column_at (old ++ column ∷ []) j ≡ column =
            get_or-append_right old (column ∷ []) (length old) j [] refl (omega (arith, here))
            ∙ ap (λ (n : ℕ). get_or (column ∷ []) n []) (first here) in
            let place : state ≡ j = omega (arith, here, are.one_each) in
            subst (IsColumn m j) (sym own) (subst (λ (n : ℕ). IsColumn m n column) place is)
      ]);
}
  where
    first : {j n : ℕ} → j ≡ n → j - n ≡ 0
    first e = omega (arith, e)

-- a row that no entry is of has the coefficient 0
pub unlisted : (entries : List Entry) (j : ℕ) → is_listed (rows_in entries) j ≡ false →
    coefficient_of entries j ≡ pos 0
unlisted [] j e = refl
unlisted (x ∷ xs) j e =
    let both = or_parts (eqb x.var j) (is_listed (rows_in xs) j) e in
    omega (arith, ints, if-false (x.var == j) x.coef (pos 0) both.0, unlisted xs j both.1)

-- ---- numbers modulo 2^128

pub wrap_small : (z : ℤ) → IsWithin 126 z → int_wrap w128 z ≡ z
wrap_small z small = int_wrap_fits w128 z (wide z small)

pub wrap_sum : (a b : ℤ) → int_wrap w128 (int_wrap w128 a +ℤ int_wrap w128 b) ≡ int_wrap w128
    (a +ℤ b)
wrap_sum a b = int_wrap-add_left w128 a (int_wrap w128 b) ∙ int_wrap-add_right w128 a b

-- a multiple of a number that is known modulo 2^128
pub wrap_multiple : (z c d : ℤ) → int_wrap w128 (z +ℤ c *ℤ int_wrap w128 d) ≡ int_wrap w128
    (z +ℤ c *ℤ d)
wrap_multiple z c d = sym (int_wrap-add_right w128 z (c *ℤ int_wrap w128 d))
    ∙ ap (λ (y : ℤ). int_wrap w128 (z +ℤ y)) (int_wrap-mul_right w128 c d)
    ∙ int_wrap-add_right w128 z (c *ℤ d)

-- ---- a multiple of a column

pub multiple_none : (factor x z : ℤ) (i : ℕ) → x ≡ int_wrap w128 z →
    x ≡ int_wrap w128 (z +ℤ coefficient_of [] i *ℤ factor)
multiple_none factor x z i is = let same : z ≡ z +ℤ pos 0 *ℤ factor =
    omega (arith, ints, zero-*ℤ factor) in is ∙ ap (int_wrap w128) same

pub multiple_more : (column : List Entry) (k : ℕ) (factor : ℤ) (now : List ℤ) (v : ℤ) (i : ℕ)
    (z : ℤ) → k < length column → (get_or column k entry_0).var < length now →
    v ≡ int_wrap w128 (int_at now (get_or column k entry_0).var +ℤ int_wrap w128
    ((get_or column k entry_0).coef *ℤ factor)) →
    int_at now i ≡ int_wrap w128 (z +ℤ coefficient_of (take k column) i *ℤ factor) →
    int_at (set now (get_or column k entry_0).var v) i ≡ int_wrap w128 (z +ℤ coefficient_of
    (take (k + 1) column) i *ℤ factor)
multiple_more column k factor now v i z h inside is before =
    elim (cases_eq e.var i) [ inl here ↦ own here | inr ne ↦ other ne ]
  where
    e : Entry
    e = get_or column k entry_0

    so_far : ℤ
    so_far = coefficient_of (take k column) i

    more : coefficient_of (take (k + 1) column) i ≡ so_far +ℤ (if e.var == i then e.coef else pos 0)
    more = sum_over_more (λ (entry : Entry). if entry.var == i then entry.coef else pos 0)
        column k entry_0 h

    own : e.var ≡ i → int_at (set now e.var v) i ≡ int_wrap w128 (z +ℤ coefficient_of
        (take (k + 1) column) i *ℤ factor)
    own here =
        let all : coefficient_of (take (k + 1) column) i ≡ so_far +ℤ e.coef =
        more ∙ ap (λ (y : ℤ). so_far +ℤ y) (if-true (e.var == i) e.coef (pos 0)
        (eqb-yes e.var i here)) in
        let term : z +ℤ coefficient_of (take (k + 1) column) i *ℤ factor ≡ (z +ℤ so_far *ℤ factor)
        +ℤ e.coef *ℤ factor =
        ap (λ (y : ℤ). z +ℤ y *ℤ factor) all ∙ omega (arith, ints, add-mul so_far e.coef factor) in
        ap (λ (j : ℕ). int_at (set now e.var v) j) (sym here)
        ∙ get_or-set_same now e.var v (pos 0) inside ∙ is
        ∙ ap (λ (y : ℤ). int_wrap w128 (y +ℤ int_wrap w128 (e.coef *ℤ factor)))
        (ap (int_at now) here ∙ before)
        ∙ wrap_sum (z +ℤ so_far *ℤ factor) (e.coef *ℤ factor)
        ∙ ap (int_wrap w128) (sym term)

    other : e.var ≢ i → int_at (set now e.var v) i ≡ int_wrap w128 (z +ℤ coefficient_of
        (take (k + 1) column) i *ℤ factor)
    other ne =
        let all : coefficient_of (take (k + 1) column) i ≡ so_far =
        omega (arith, ints, more, if-false (e.var == i) e.coef (pos 0) (eqb-no e.var i ne)) in
        get_or-set_other now e.var i v (pos 0) (λ f. ne (sym f)) ∙ before
        ∙ ap (λ (y : ℤ). int_wrap w128 (z +ℤ y *ℤ factor)) (sym all)

-- ---- sums of which one value changes

-- the sum of multiples of what values gained
abbrev pub gain : ℕ → (ℕ → ℤ) → (ℕ → ℤ) → (ℕ → ℤ) → ℤ
gain n c old new = sum_below n (λ j. c j *ℤ (new j -ℤ old j))

pub gain_none : (n : ℕ) (c x : ℕ → ℤ) → gain n c x x ≡ pos 0
gain_none n c x = sum_below-same n (λ j. c j *ℤ (x j -ℤ x j)) (λ j. pos 0) (λ j h. omega (
  arith,
  ints,
  mul-sub (c j) (x j) (x j),
)) ∙ sum_below-zero n

pub gain_more : (n j : ℕ) (c old now new : ℕ → ℤ) → j < n → ((k : ℕ) → k < n → k ≢ j →
    new k ≡ now k) → gain n c old new ≡ gain n c old now +ℤ c j *ℤ (new j -ℤ now j)
gain_more n j c old now new h same =
    let sum = sum_changed n j (λ k. c k *ℤ (now k -ℤ old k)) (λ k. c k *ℤ (new k -ℤ old k)) h
    (λ k low far. ap (λ (z : ℤ). c k *ℤ (z -ℤ old k)) (same k low far)) in
    omega (
      arith,
      ints,
      sum,
      mul-sub (c j) (new j) (old j),
      mul-sub (c j) (now j) (old j),
      mul-sub (c j) (new j) (now j),
    )

-- a weighted sum gains what its values gain
pub gain_is : (n : ℕ) (c old new : ℕ → ℤ) → sum_below n (λ j. c j *ℤ new j) ≡ sum_below n
    (λ j. c j *ℤ old j) +ℤ gain n c old new
gain_is zero c old new = omega (arith, ints)
gain_is (suc n) c old new = omega (arith, ints, gain_is n c old new, mul-sub (c n) (new n) (old n))

-- a multiple of the column of a state is added where its value changes
pub column_gain : (m : Machine) (columns : List (List Entry)) (i j : ℕ) (old now new : ℕ →
    ℤ) (x y z d : ℤ) → AreColumnsBelow m (state_count m) columns → j < state_count m →
    i < state_count m →
    ((k : ℕ) → k < state_count m → k ≢ j → new k ≡ now k) → d ≡ int_wrap w128 (new j -ℤ now j) →
    x ≡ int_wrap w128 (z +ℤ gain (state_count m) (start_coefficient m i) old now) →
    ((w : ℤ) → x ≡ int_wrap w128 w → y ≡ int_wrap w128 (w +ℤ coefficient_of (column_at columns j)
    i *ℤ d)) →
    y ≡ int_wrap w128 (z +ℤ gain (state_count m) (start_coefficient m i) old new)
column_gain m columns i j old now new x y z d are h inside same of_d before added =
    let n = state_count m in
    let c : ℕ → ℤ = start_coefficient m i in
    let w : ℤ = z +ℤ gain n c old now in
    let more = gain_more n j c old now new h same in
    let whole : w +ℤ c j *ℤ (new j -ℤ now j) ≡ z +ℤ gain n c old new = omega (arith, ints, more) in
    added w before
    ∙ ap (λ (k : ℤ). int_wrap w128 (w +ℤ k *ℤ d)) ((are.each j h).same i inside)
    ∙ ap (λ (k : ℤ). int_wrap w128 (w +ℤ c j *ℤ k)) of_d
    ∙ wrap_multiple w (c j) (new j -ℤ now j)
    ∙ ap (int_wrap w128) whole
