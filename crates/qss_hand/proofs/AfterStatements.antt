-- What one statement leaves as it was.
use Rattle.qss_hand.proofs.Common
use Common.{[], ℕ, ℤ, ◌+◌, ◌<◌, ◌∙◌, ◌∷◌, ◌≡◌, ◌≤◌, Action, ap, AreValuesOf, arith, fold, get_or}
use Common.{HandlerState, handling_of, if_cases, is_some, length, length-append, length-set, List}
use Common.{Machine, None, pos, refl, Reinit, Row, run_action, Set, Some, sym, take, true, Values}
use Common.{values_after}
use Rattle.std.proofs.lemmas.List.Elements.{All-set}
use Rattle.std.proofs.lemmas.List.Folds.{fold_stuck}
use Rattle.std.proofs.lemmas.List.Sums.{fold_more}
use Rattle.std.specs.Prelude.{Option}
use Rattle.mu_num.specs.Sizes.{IsWithin, exceeds}
use Rattle.mu_num.proofs.SizeTests.{passes-within}
use Rattle.qss_machine.specs.Handlers.{assigned_value, assign}
use Rattle.qss_machine.specs.declared.machine_parts.RowKind.TheVariants as kind

module _ (m : Machine) (w : Values) where
  fits_assign : (tick : ℕ) (action : Action) (z : ℤ) → AreValuesOf m w → AreValuesOf m (values_after w (assign m tick (handling_of w) action z))
  fits_assign tick (Set var form) z fits =
      if_cases (λ (h : HandlerState). AreValuesOf m (values_after w h)) (exceeds 43 z) _ _ (λ e. fits)
      (λ e. record {
        states = fits.states;
        discretes = length-set w.d _ z ∙ fits.discretes;
        before = fits.before;
        small_states = fits.small_states;
        small_discretes = All-set (IsWithin 43) w.d _ z (passes-within 43 z e) fits.small_discretes;
        small_before = fits.small_before;
        in_time = fits.in_time;
      })
  fits_assign tick (Reinit var form) z fits =
      if_cases (λ (h : HandlerState). AreValuesOf m (values_after w h)) (exceeds 88 z) _ _ (λ e. fits)
      (λ e. record {
        states = length-set w.x var z ∙ fits.states;
        discretes = fits.discretes;
        before = fits.before;
        small_states = All-set (IsWithin 88) w.x var z (passes-within 88 z e) fits.small_states;
        small_discretes = fits.small_discretes;
        small_before = fits.small_before;
        in_time = fits.in_time;
      })

  -- the values still fit the machine
  pub fits_action : (tick : ℕ) (before : List ℤ) (action : Action) → AreValuesOf m w → AreValuesOf m (values_after w (run_action m tick before (handling_of w) action))
  fits_action tick before action fits = fits_assign tick action (assigned_value m tick before (handling_of w) action) fits

module _ (m : Machine) (h : HandlerState) where
  rows_assign : (tick : ℕ) (action : Action) (z : ℤ) → length (assign m tick h action z).rows ≤ length h.rows + 1
  rows_assign tick (Set var form) z =
      let new : ℤ → Row = λ z. record { tick = tick; kind = kind.Set; var = var; level = z; state = pos 0 } in
      if_cases (λ (g : HandlerState). length g.rows ≤ length h.rows + 1) (exceeds 43 z) _ _ (λ e. omega arith) (λ e. omega (arith, length-append h.rows (new z ∷ [])))
  rows_assign tick (Reinit var form) z =
      let new : ℤ → Row = λ z. record { tick = tick; kind = kind.Reinit; var = var; level = pos 0; state = z } in
      if_cases (λ (g : HandlerState). length g.rows ≤ length h.rows + 1) (exceeds 88 z) _ _ (λ e. omega arith) (λ e. omega (arith, length-append h.rows (new z ∷ [])))

  -- at most one row more
  pub rows_action : (tick : ℕ) (before : List ℤ) (action : Action) → length (run_action m tick before h action).rows ≤ length h.rows + 1
  rows_action tick before action =
      if_cases (λ (g : HandlerState). length g.rows ≤ length h.rows + 1) (is_some h.overflow) h _ (λ e. omega arith)
      (λ e. rows_assign tick action (assigned_value m tick before h action))

-- after an overflow statements change nothing
pub action_stays : (m : Machine) (tick : ℕ) (before : List ℤ) (h : HandlerState) (var : ℕ) → h.overflow ≡ Some var → (action : Action) → run_action m tick before h action ≡ h
action_stays m tick before h var e action = if_cases (λ (g : HandlerState). g ≡ h) (is_some h.overflow) h _ (λ t. refl) (λ f. let some : is_some h.overflow ≡ true = ap is_some e in absurd (cc))

-- a handling that has not overflowed is the one of its values
pub whole : (h : HandlerState) → h.overflow ≡ None → record h { overflow = None } ≡ h
whole h e = ap (λ (o : Option ℕ). record h { overflow = o }) (sym e)

last_is : (m : Machine) (w0 w : Values) (actions : List Action) (i : ℕ) (item : Action) → item ≡ get_or actions i item →
    w.tick ≡ w0.tick → w.pre ≡ w0.pre → handling_of w ≡ fold (run_action m w0.tick w0.pre) (handling_of w0) (take i actions) →
    run_action m w.tick w.pre (handling_of w) item ≡ run_action m w0.tick w0.pre (fold (run_action m w0.tick w0.pre) (handling_of w0) (take i actions)) (get_or actions i item)
last_is m w0 w actions i item is tick before so_far =
    ap (λ t. run_action m t w.pre (handling_of w) item) tick
    ∙ ap (λ p. run_action m w0.tick p (handling_of w) item) before
    ∙ ap (λ g. run_action m w0.tick w0.pre g item) so_far
    ∙ ap (run_action m w0.tick w0.pre (fold (run_action m w0.tick w0.pre) (handling_of w0) (take i actions))) is

-- the statements up to one more
pub so_far_more : (m : Machine) (w0 w next : Values) (actions : List Action) (i : ℕ) (item : Action) → i < length actions → item ≡ get_or actions i item →
    w.tick ≡ w0.tick → w.pre ≡ w0.pre → handling_of w ≡ fold (run_action m w0.tick w0.pre) (handling_of w0) (take i actions) →
    next ≡ values_after w (run_action m w.tick w.pre (handling_of w) item) → None ≡ (run_action m w.tick w.pre (handling_of w) item).overflow →
    handling_of next ≡ fold (run_action m w0.tick w0.pre) (handling_of w0) (take (i + 1) actions)
so_far_more m w0 w next actions i item h is tick before so_far values over =
    ap handling_of values
    ∙ whole (run_action m w.tick w.pre (handling_of w) item) (sym over)
    ∙ last_is m w0 w actions i item is tick before so_far
    ∙ sym (fold_more (run_action m w0.tick w0.pre) (handling_of w0) actions i item h)

-- all statements, where one overflowed
pub stuck : (m : Machine) (w0 w : Values) (actions : List Action) (i : ℕ) (item : Action) (var : ℕ) → i < length actions → item ≡ get_or actions i item →
    w.tick ≡ w0.tick → w.pre ≡ w0.pre → handling_of w ≡ fold (run_action m w0.tick w0.pre) (handling_of w0) (take i actions) →
    Some var ≡ (run_action m w.tick w.pre (handling_of w) item).overflow →
    run_action m w.tick w.pre (handling_of w) item ≡ fold (run_action m w0.tick w0.pre) (handling_of w0) actions
stuck m w0 w actions i item var h is tick before so_far over =
    let end : HandlerState = run_action m w.tick w.pre (handling_of w) item in
    fold_stuck (run_action m w0.tick w0.pre) end (action_stays m w0.tick w0.pre end var (sym over)) (handling_of w0) actions i item h
    (sym (last_is m w0 w actions i item is tick before so_far))

-- values that a handling leaves, from those at the start
pub from_start : (w0 w : Values) (h : HandlerState) → w.tick ≡ w0.tick → w.pre ≡ w0.pre → w.room ≡ w0.room → values_after w h ≡ values_after w0 h
from_start w0 w h tick before room =
    ap (λ (t : ℕ). record { x = h.states; d = h.discretes; pre = w.pre; tick = t; log = h.rows; room = w.room }) tick
    ∙ ap (λ (p : List ℤ). record { x = h.states; d = h.discretes; pre = p; tick = w0.tick; log = h.rows; room = w.room }) before
    ∙ ap (λ (r : ℕ). record { x = h.states; d = h.discretes; pre = w0.pre; tick = w0.tick; log = h.rows; room = r }) room

pub all_done : (w0 w : Values) (h : HandlerState) → handling_of w ≡ h → w.tick ≡ w0.tick → w.pre ≡ w0.pre → w.room ≡ w0.room → w ≡ values_after w0 h
all_done w0 w h e tick before room = ap (values_after w) e ∙ from_start w0 w h tick before room
