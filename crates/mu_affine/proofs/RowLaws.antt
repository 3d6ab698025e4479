-- Rounded right sides and forms that fit are within the limits of a machine.
use Rattle.mu_affine.proofs.Common
use Common.{ℕ, ℤ, ◌&&◌, ◌*◌, ◌+◌, ◌<◌, ◌^◌, ◌≡◌, ◌≢◌, ◌≤◌, All, All-map, All-weaker, and_parts}
use Common.{AreNamed, arith, Bool, Entry, entry_of, ExactEntry, ExactForm, ExactProduct, exceeds}
use Common.{filter, form_fits, get_or, get_or-map, ints, is_some_number, IsForm, IsRightSide, IsRow}
use Common.{IsStrictlyIncreasing, IsWithin, length, length-map, List, list_all, map, nat_le}
use Common.{nat_tests, not, pos, Product, rounded_entries, rounded_form, rounded_products}
use Common.{rounded_row, row_fits, sum_by, true, unsigned_abs}
use Rattle.std.proofs.lemmas.List.Elements.{All-filter, filter_passes}
use Rattle.std.proofs.lemmas.List.Kept.{AllPairs-from_increasing, AllPairs-filter}
use Rattle.std.proofs.lemmas.List.Sums.{AllPass-from_list_all}
use Rattle.std.specs.Prelude.{AllPairs}
use Rattle.qss_machine.specs.MachineLimits.{AreEntries, AreProducts}
use Rattle.mu_affine.specs.Rounded.{product_of}
use Rattle.mu_affine.specs.RoundedMachines.{ArePaired}
use Rattle.mu_affine.proofs.Turns.{map_twice}

-- keys that rise still rise after some elements are left out
rising_kept : {Y : Type 0} (key : Y → ℕ) (keep : Y → Bool) (ys : List Y) (d : Y) → IsStrictlyIncreasing (map key ys) → IsStrictlyIncreasing (map key (filter keep ys))
rising_kept {Y} key keep ys d rising k within =
    let zs = filter keep ys in
    let same : length (map key zs) ≡ length zs = length-map zs key in
    let inside : k + 1 < length zs = omega arith in
    let here : k < length zs = omega arith in
    let below : key (get_or zs k d) < key (get_or zs (k + 1) d) = AllPairs-filter (λ a b. key a < key b) keep ys pairs k (k + 1) d (omega arith) inside in
    rw (get_or-map key zs k d 0 here, get_or-map key zs (k + 1) d 0 inside) below
  where
    pairs : AllPairs (λ a b. key a < key b) ys
    pairs i j e low high =
        let same : length (map key ys) ≡ length ys = length-map ys key in
        let first : i < length ys = omega arith in
        rw (get_or-map key ys i e 0 first, get_or-map key ys j e 0 high) at (AllPairs-from_increasing (map key ys) rising i j 0 low (omega arith))

some_number : (z : ℤ) → is_some_number z ≡ true → z ≢ pos 0
some_number z e same = grind (arith, ints)

pub within : (bits : ℕ) (z : ℤ) → not (exceeds bits z) ≡ true → IsWithin bits z
within bits z e = grind (arith, nat_tests)

-- the entries of named coefficients
pub entries_are : (count p : ℕ) (es : List ExactEntry) → AreNamed count es → AreEntries count (rounded_entries p es)
entries_are count p es h =
    let keep = λ (e : Entry). is_some_number e.coef in
    let made = map (entry_of p) es in
    let rising : IsStrictlyIncreasing (map (λ (e : Entry). e.var) made) = rw (map_twice (entry_of p) (λ (e : Entry). e.var) es) h.rising in
    record {
      rising = rising_kept (λ (e : Entry). e.var) keep made (record { var = 0; coef = pos 0 }) rising;
      known = All-filter keep (λ (e : Entry). e.var < count) made (All-map (λ (e : Entry). e.var < count) (entry_of p) es h.known);
      nonzero = All-weaker (λ (e : Entry). keep e ≡ true) (λ (e : Entry). e.coef ≢ pos 0) (λ e k. some_number e.coef k) (filter keep made) (filter_passes keep made);
    }

-- the products of paired coefficients
pub products_are : (n g p : ℕ) (es : List ExactProduct) → ArePaired n g es → AreProducts n g (rounded_products p es)
products_are n g p es h =
    let keep = λ (e : Product). is_some_number e.coef in
    let key = λ (e : Product). e.state * (n + g) + e.discrete in
    let made = map (product_of p) es in
    let rising : IsStrictlyIncreasing (map key made) = rw (map_twice (product_of p) key es) h.rising in
    record {
      rising = rising_kept key keep made (record { state = 0; discrete = 0; coef = pos 0 }) rising;
      of_states = All-filter keep (λ (e : Product). e.state < n) made (All-map (λ (e : Product). e.state < n) (product_of p) es h.of_states);
      of_discretes = All-filter keep (λ (e : Product). (n ≤ e.discrete) × (e.discrete < n + g)) made
          (All-map (λ (e : Product). (n ≤ e.discrete) × (e.discrete < n + g)) (product_of p) es h.of_discretes);
      nonzero = All-weaker (λ (e : Product). keep e ≡ true) (λ (e : Product). e.coef ≢ pos 0) (λ e k. some_number e.coef k) (filter keep made) (filter_passes keep made);
    }

small_all : {X : Type 0} (coef : X → ℤ) (xs : List X) → list_all (λ x. not (exceeds 44 (coef x))) xs ≡ true → All (λ x. IsWithin 44 (coef x)) xs
small_all coef xs e =
    All-weaker (λ x. not (exceeds 44 (coef x)) ≡ true) (λ x. IsWithin 44 (coef x)) (λ x h. within 44 (coef x) h) xs (AllPass-from_list_all (λ x. not (exceeds 44 (coef x))) xs e)

-- the right side of a state
pub row_is : (n g p f : ℕ) (form : ExactForm) → IsRightSide n g form → row_fits (rounded_row p f form) ≡ true → IsRow n g (rounded_row p f form)
row_is n g p f form h fits =
    let row = rounded_row p f form in
    let lists = list_all (λ (e : Entry). not (exceeds 44 e.coef)) row.entries in
    let others = list_all (λ (e : Product). not (exceeds 44 e.coef)) row.products in
    let both = and_parts (lists && others) (not (exceeds 78 row.beta)) fits in
    let first = and_parts lists others both.0 in
    record {
      entries = entries_are (n + g) p form.entries h.entries;
      products = products_are n g p form.products h.products;
      coefficients = small_all (λ (e : Entry). e.coef) row.entries first.0;
      factors = small_all (λ (e : Product). e.coef) row.products first.1;
      constant = within 78 row.beta both.1;
    }

-- the form of a condition or a statement
pub form_is : (n g p f : ℕ) (form : ExactForm) → AreNamed (n + g + g) form.entries → form_fits (rounded_form p f form) ≡ true → IsForm n g (rounded_form p f form)
form_is n g p f form h fits =
    let made = rounded_form p f form in
    let sizes = sum_by (λ (e : Entry). unsigned_abs e.coef) made.entries + unsigned_abs made.time in
    let both = and_parts (nat_le sizes (2 ^ 38)) (not (exceeds 78 made.gamma)) fits in
    record {
      entries = entries_are (n + g + g) p form.entries h;
      bounded = record { coefficients = at_most sizes (2 ^ 38) both.0; constant = within 78 made.gamma both.1 };
    }
  where
    at_most : (a b : ℕ) → nat_le a b ≡ true → a ≤ b
    at_most a b e = grind (arith, nat_tests)
