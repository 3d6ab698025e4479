-- A line that receives a message, by the kind of the message.
use Rattle.qss_components.proofs.Common
use Common.{ℕ, ℤ, ◌==◌, ◌≡◌, ◌≢◌, eqb-no, eqb-yes, if-false, if-true, Line, line_told, Message}
use Common.{Slope, State, subst, sym}

module _ (var other : ℕ) (line : Line) (message : Message) where
  pub slope_told : (slope : ℤ) → message ≡ Slope other slope → other ≡ var → record line { slope = slope } ≡ line_told var line message
  slope_told slope is own = subst (λ (s : Message). record line { slope = slope } ≡ line_told var line s) (sym is) (sym (if-true (other == var) (record line { slope = slope }) line (eqb-yes other var own)))

  pub slope_untold : (slope : ℤ) → message ≡ Slope other slope → other ≢ var → line ≡ line_told var line message
  slope_untold slope is ne = subst (λ (s : Message). line ≡ line_told var line s) (sym is) (sym (if-false (other == var) (record line { slope = slope }) line (eqb-no other var ne)))

  pub state_told : (state : ℤ) → message ≡ State other state → other ≡ var → record line { x = state } ≡ line_told var line message
  state_told state is own = subst (λ (s : Message). record line { x = state } ≡ line_told var line s) (sym is) (sym (if-true (other == var) (record line { x = state }) line (eqb-yes other var own)))

  pub state_untold : (state : ℤ) → message ≡ State other state → other ≢ var → line ≡ line_told var line message
  state_untold state is ne = subst (λ (s : Message). line ≡ line_told var line s) (sym is) (sym (if-false (other == var) (record line { x = state }) line (eqb-no other var ne)))
