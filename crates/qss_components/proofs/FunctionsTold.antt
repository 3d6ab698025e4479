-- A function that receives a message.
use Rattle.qss_components.proofs.Common
use Common.{ℕ, ℤ, ◌-◌, ◌∙◌, ◌≡◌, ◌≢◌, ap, Bool, Decides-int_eq, Discrete, discretes_after_message}
use Common.{false, function_after_message, FunctionState, if-false, if-true, if◌then◌else◌, int_eq}
use Common.{Level, levels_after_message, List, Machine, Message, None, Option, refl, row_at}
use Common.{row_reads, set as slice_set, Some, state_count, subst, sum_at, sum_of, sym, true}
use Rattle.qss_components.specs.Functions.{change_by}

pub level_told : (m : Machine) (row : ℕ) (levels : List ℤ) (message : Message) (var : ℕ) (level : ℤ)
    → message ≡ Level var level →
    (if row_reads var (row_at m row) then slice_set levels var level else levels) ≡
    levels_after_message m row levels message
level_told m row levels message var level is = subst (λ (s : Message).
    (if row_reads var (row_at m row) then slice_set levels var level else levels) ≡
    levels_after_message m row levels s) (sym is) refl

pub discretes_keep : (m : Machine) (row : ℕ) (discretes : List ℤ) (message : Message) (var : ℕ)
    (level : ℤ) → message ≡ Level var level → discretes ≡ discretes_after_message m row discretes
    message
discretes_keep m row discretes message var level is = subst (λ (s : Message). discretes ≡
    discretes_after_message m row discretes s) (sym is) refl

pub discrete_told : (m : Machine) (row : ℕ) (discretes : List ℤ) (message : Message) (var : ℕ)
    (value : ℤ) → message ≡ Discrete var value →
    (if row_reads var (row_at m row) then slice_set discretes (var - state_count m) value else
    discretes) ≡ discretes_after_message m row discretes message
discrete_told m row discretes message var value is =
    subst (λ (s : Message). (if row_reads var (row_at m row) then slice_set discretes
    (var - state_count m) value else discretes) ≡ discretes_after_message m row discretes s)
    (sym is) refl

pub levels_keep : (m : Machine) (row : ℕ) (levels : List ℤ) (message : Message) (var : ℕ)
    (value : ℤ) → message ≡ Discrete var value → levels ≡ levels_after_message m row levels message
levels_keep m row levels message var value is = subst (λ (s : Message). levels ≡
    levels_after_message m row levels s) (sym is) refl

-- the tick of the first change, by whether there is one and whether the sum is another
pub change_kept : (changed : Option ℕ) (tick first : ℕ) (before after : ℤ) → changed ≡ Some first → Some first ≡ change_by changed tick before after
change_kept changed tick first before after is = subst (λ (o : Option ℕ). Some first ≡ change_by o tick before after) (sym is) refl

pub change_none : (changed : Option ℕ) (tick : ℕ) (before after : ℤ) → changed ≡ None → before ≡ after → None ≡ change_by changed tick before after
change_none changed tick before after is same =
    subst (λ (o : Option ℕ). None ≡ change_by o tick before after) (sym is)
    (sym (if-true (int_eq before after) None (Some tick) ((Decides-int_eq before after).1 same)))

pub change_here : (changed : Option ℕ) (tick : ℕ) (before after : ℤ) → changed ≡ None → before ≢ after → Some tick ≡ change_by changed tick before after
change_here changed tick before after is differ = subst (λ (o : Option ℕ). Some tick ≡ change_by o tick before after) (sym is) (by (int_eq before after) refl)
  where
    by : (b : Bool) → int_eq before after ≡ b → Some tick ≡ (if int_eq before after then None else Some tick)
    by true e = absurd (differ ((Decides-int_eq before after).0 e))
    by false e = sym (if-false (int_eq before after) None (Some tick) e)

-- a function whose parts are those that a message makes is given it
pub given_so : (m : Machine) (s : FunctionState) (tick : ℕ) (message : Message) (levels discretes : List ℤ) (changed : Option ℕ) (before after : ℤ) →
    levels ≡ levels_after_message m s.row s.levels message → discretes ≡ discretes_after_message m
    s.row s.discretes message →
    before ≡ sum_of m s → after ≡ sum_at m s.row levels discretes → changed ≡ change_by s.changed tick before after →
    record { row = s.row; tick = tick; levels = levels; discretes = discretes; changed = changed } ≡ function_after_message m s tick message
given_so m s tick message levels discretes changed before after of_levels of_discretes of_before of_after of_changed =
    ap (λ (o : Option ℕ). record s { tick = tick; levels = levels; discretes = discretes; changed = o })
    (of_changed ∙ ap (λ (b : ℤ). change_by s.changed tick b after) of_before ∙ ap (change_by s.changed tick (sum_of m s)) of_after)
    ∙ ap (λ (ls : List ℤ). record s { tick = tick; levels = ls; discretes = discretes; changed = change_by s.changed tick (sum_of m s) (sum_at m s.row ls discretes) }) of_levels
    ∙ ap (λ (ds : List ℤ). record s {
      tick = tick;
      levels = levels_after_message m s.row s.levels message;
      discretes = ds;
      changed = change_by s.changed tick (sum_of m s) (sum_at m s.row
          (levels_after_message m s.row s.levels message) ds);
    })
    of_discretes
