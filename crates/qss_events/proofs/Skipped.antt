-- Event-free ticks, one after another.
use Rattle.qss_events.proofs.Common
use Common.{[], ℕ, ℤ, ◌*ℤ◌, ◌++◌, ◌+ℤ◌, ◌+◌, ◌∙◌, ◌∷◌, ◌≡◌, ap, arith, Bool, Decides-int_eq, false}
use Common.{firing_flags, flat_map, HandlerState, if◌then◌else◌, int_at, int_at-tabulate, int_eq}
use Common.{ints, is_within_quantum, IsEventFree, length, level_rows, List, list_any, Machine}
use Common.{MayFollowTick, NoneRises, Ok, one-mul, pos, range_with_len, refl, rows_after, rows_from}
use Common.{run_from, run_with, slope_at, Snapshot, snapshot_after, state_count, states_after, step}
use Common.{subst, suc, sym, tabulate-same, tick_rows, true, truths, zero}
use Rattle.std.proofs.Common.{add-one}
use Rattle.std.proofs.Math.IntN.{suc_ℤ-*ℤ}
use Rattle.qss_events.specs.EventFreeTicks.{SkippingIsSound, RowsOfVisits}
use Rattle.qss_events.proofs.Quiet.{quiet_step, quiet_handling}

-- a list of which nothing is taken
flat_map-none : {X A : Type 0} (f : X → List A) (xs : List X) → ((x : X) → f x ≡ []) → flat_map f xs ≡ []
flat_map-none f [] none = refl
flat_map-none f (x ∷ xs) none = ap (λ a. a ++ flat_map f xs) (none x) ∙ flat_map-none f xs none

-- where no condition rose, none rises at the next tick
pub settled_twice : (a : List Bool) → list_any (λ flag. flag) (firing_flags a a a) ≡ false
settled_twice [] = refl
settled_twice (true ∷ a) = settled_twice a
settled_twice (false ∷ a) = settled_twice a

-- a state some ticks after one tick
one_more : (x s : ℤ) (ticks : ℕ) → (x +ℤ pos 1 *ℤ s) +ℤ pos ticks *ℤ s ≡ x +ℤ pos (suc ticks) *ℤ s
one_more x s ticks = omega (arith, ints, one-mul s, suc_ℤ-*ℤ (pos ticks) s)

states_more : (m : Machine) (w : Snapshot) (ticks : ℕ) → states_after m (snapshot_after m w 1) ticks ≡ states_after m w (suc ticks)
states_more m w ticks =
    tabulate-same (pos 0) (state_count m) _ _
    (λ j h.
    ap (λ x. x +ℤ pos ticks *ℤ slope_at m j w.levels w.discretes) (int_at-tabulate (state_count m) (λ j. int_at w.states j +ℤ pos 1 *ℤ slope_at m j w.levels w.discretes) j h)
    ∙ one_more (int_at w.states j) (slope_at m j w.levels w.discretes) ticks)

pub quiet_more : (m : Machine) (tick : ℕ) (w : Snapshot) (ticks : ℕ) → IsEventFree m tick w (suc ticks) → IsEventFree m (tick + 1) (snapshot_after m w 1) ticks
quiet_more m tick w ticks quiet =
    let e : (tick + 1) + ticks ≡ tick + suc ticks = omega arith in
    record {
      near = λ j h. subst (λ x. is_within_quantum m j (int_at x j) (int_at w.levels j) ≡ true) (sym (states_more m w ticks)) (quiet.near j h);
      same = subst (λ t. truths m (states_after m (snapshot_after m w 1) ticks) w.discretes t ≡ w.after_handlers) (sym e)
          (subst (λ x. truths m x w.discretes (tick + suc ticks) ≡ w.after_handlers) (sym (states_more m w ticks)) quiet.same);
    }

pub world_more : (m : Machine) (w : Snapshot) (ticks : ℕ) → snapshot_after m (snapshot_after m w 1) ticks ≡ snapshot_after m w (suc ticks)
world_more m w zero = refl
world_more m w (suc ticks) =
    ap (λ x. record { states = x; levels = w.levels; discretes = w.discretes; at_arrival = w.after_handlers; after_handlers = w.after_handlers }) (states_more m w (suc ticks))

same_level : (z : ℤ) → int_eq z z ≡ true
same_level z = (Decides-int_eq z z).1 refl

no_level_rows : (tick : ℕ) (levels states : List ℤ) → level_rows tick levels levels states ≡ []
no_level_rows tick levels states = flat_map-none _ (range_with_len 0 (length states)) (λ j. if_same (int_eq (int_at levels j) (int_at levels j)) _ _ (same_level (int_at levels j)))
  where
    if_same : {A : Type 0} (b : Bool) (x y : A) → b ≡ true → (if b then x else y) ≡ x
    if_same true x y e = refl
    if_same false x y e = absurd (cc)

pub quiet_rows : (m : Machine) (tick : ℕ) (w : Snapshot) → MayFollowTick m w → NoneRises w → IsEventFree m tick w 1 → tick_rows m (tick + 1) w (snapshot_after m w 1) ≡ []
quiet_rows m tick w left none quiet =
    ap (λ (h : HandlerState). h.rows ++ level_rows (tick + 1) w.levels w.levels (states_after m w 1)) (quiet_handling m tick w left none quiet)
    ∙ no_level_rows (tick + 1) w.levels (states_after m w 1)

-- a run goes on after a tick
pub rows_step : (level : ℤ → ℤ → ℤ → ℤ) (m : Machine) (count tick : ℕ) (w next : Snapshot) → step level m (tick + 1) w ≡ Ok next →
    rows_from level m (suc count) tick w ≡ tick_rows m (tick + 1) w next ++ rows_from level m count (tick + 1) next
rows_step level m count tick w next e =
    ap (λ r. let run = run_with r (λ next. run_from level m count (tick + 1) next) in rows_after m tick w run.snapshots run.overflow) e

pub skip : SkippingIsSound
skip level m tick w zero rest left none quiet =
    let e : zero + rest ≡ rest = omega arith in
    let f : tick + zero ≡ tick = omega arith in
    ap (λ n. rows_from level m n tick w) e ∙ ap (λ t. rows_from level m rest t w) (sym f)
skip level m tick w (suc more) rest left none quiet =
    let first : IsEventFree m tick w 1 = quiet 1 (omega arith) (omega arith) in
    let e : suc more + rest ≡ suc (more + rest) = omega arith in
    let f : (tick + 1) + more ≡ tick + suc more = omega arith in
    ap (λ n. rows_from level m n tick w) e
    ∙ rows_step level m (more + rest) tick w (snapshot_after m w 1) (quiet_step level m tick w left none first)
    ∙ ap (λ rows. rows ++ rows_from level m (more + rest) (tick + 1) (snapshot_after m w 1)) (quiet_rows m tick w left none first)
    ∙ skip level m (tick + 1) (snapshot_after m w 1) more rest
    (record { one_each = left.one_each; small_levels = left.small_levels; light = left.light }) (settled_twice w.after_handlers)
    (λ ticks positive below. quiet_more m tick w ticks (quiet (suc ticks) (omega arith) (omega (arith, below))))
    ∙ ap (λ t. rows_from level m rest t (snapshot_after m (snapshot_after m w 1) more)) f
    ∙ ap (rows_from level m rest (tick + suc more)) (world_more m w more)

pub rows_of_visits : RowsOfVisits
rows_of_visits = record {
  goes_on = λ level m count tick w next e. ap (λ n. rows_from level m n tick w) (add-one count) ∙ rows_step level m count tick w next e;
  overflows = λ level m count tick w var e.
      ap (λ n. rows_from level m n tick w) (add-one count)
      ∙ ap (λ r. let run = run_with r (λ next. run_from level m count (tick + 1) next) in rows_after m tick w run.snapshots run.overflow) e;
  ends = λ level m tick w. refl;
}
