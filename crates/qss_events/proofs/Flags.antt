-- Flags of branches by place.
use Rattle.qss_events.proofs.Common
use Common.{[], ℕ, ℤ, ◌&&◌, ◌<◌, ◌∙◌, ◌∷◌, ◌≡◌, ap, arith, Bool, Condition, condition_at}
use Common.{conditions, false, firing_flags, flag_at, get_or-map, length, length-map, Less, List}
use Common.{Machine, not, pos, refl, suc, sym, truth, truths, zero}
use Rattle.qss_events.proofs.Firsts.{same_lists}

pub length-due_flags : (now at_arrival after_handlers : List Bool) → length at_arrival ≡ length now → length after_handlers ≡ length now → length (firing_flags now at_arrival after_handlers) ≡ length now
length-due_flags [] [] [] e f = refl
length-due_flags [] (a ∷ at_arrival) after_handlers e f = absurd (omega (arith, e))
length-due_flags [] [] (s ∷ after_handlers) e f = absurd (omega (arith, f))
length-due_flags (n ∷ now) [] after_handlers e f = absurd (omega (arith, e))
length-due_flags (n ∷ now) (a ∷ at_arrival) [] e f = absurd (omega (arith, f))
length-due_flags (n ∷ now) (a ∷ at_arrival) (s ∷ after_handlers) e f = ap suc (length-due_flags now at_arrival after_handlers (omega (arith, e)) (omega (arith, f)))

pub flag_at-due_flags : (now at_arrival after_handlers : List Bool) (k : ℕ) → length at_arrival ≡ length now → length after_handlers ≡ length now → k < length now →
    flag_at (firing_flags now at_arrival after_handlers) k ≡ (flag_at now k && not (flag_at at_arrival k && flag_at after_handlers k))
flag_at-due_flags [] at_arrival after_handlers k e f h = absurd (omega (arith, h))
flag_at-due_flags (n ∷ now) [] after_handlers k e f h = absurd (omega (arith, e))
flag_at-due_flags (n ∷ now) (a ∷ at_arrival) [] k e f h = absurd (omega (arith, f))
flag_at-due_flags (n ∷ now) (a ∷ at_arrival) (s ∷ after_handlers) zero e f h = refl
flag_at-due_flags (n ∷ now) (a ∷ at_arrival) (s ∷ after_handlers) (suc k) e f h = flag_at-due_flags now at_arrival after_handlers k (omega (arith, e)) (omega (arith, f)) (omega (arith, h))

-- flags that are those of each place
pub due_flags_are : (now at_arrival after_handlers due : List Bool) → length at_arrival ≡ length now → length after_handlers ≡ length now → length due ≡ length now →
    ((k : ℕ) → k < length now → flag_at due k ≡ (flag_at now k && not (flag_at at_arrival k && flag_at after_handlers k))) → due ≡ firing_flags now at_arrival after_handlers
due_flags_are now at_arrival after_handlers due e f many each =
    let all = length-due_flags now at_arrival after_handlers e f in
    same_lists false due (firing_flags now at_arrival after_handlers) (many ∙ sym all)
    (λ k h. let inside : k < length now = omega (arith, h, all) in each k inside ∙ sym (flag_at-due_flags now at_arrival after_handlers k e f inside))

-- the truths of conditions by place
pub truths_are : (m : Machine) (x d : List ℤ) (tick : ℕ) (flags : List Bool) → length flags ≡ length (conditions m) →
    ((k : ℕ) → k < length (conditions m) → flag_at flags k ≡ truth m (condition_at m k) x d tick) → flags ≡ truths m x d tick
truths_are m x d tick flags many each =
    let none : Condition = record { form = record { entries = []; time = pos 0; gamma = pos 0 }; rel = Less } in
    let test = λ (c : Condition). truth m c x d tick in
    let all = length-map (conditions m) test in
    same_lists false flags (truths m x d tick) (many ∙ sym all)
    (λ k h. let inside : k < length (conditions m) = omega (arith, h, all) in each k inside ∙ sym (get_or-map test (conditions m) k none false inside))
