-- An event-free tick under whichever rule.
use Rattle.qss_events.proofs.Common
use Common.{[], ℕ, ℤ, ◌+◌, ◌∙◌, ◌≡◌, ap, Bool, false, finish_tick, handlers_at, HandlerState}
use Common.{int_at, IsEventFree, IsStep, List, Machine, MatchBool, MayFollowTick, None, NoneRises}
use Common.{Ok, pos, refl, Result, Snapshot, snapshot_after, state_count, states_after, subst, sym}
use Common.{tabulate-int_at, tabulate-same, true}
use Rattle.mu_num.specs.Levels.{IsWithinOneLevel}
use Rattle.qss_machine.specs.Ticks.{AreNextLevels}
use Rattle.qss_events.specs.EventFreeTicks.{EventFreeTickIsUnique}
use Rattle.qss_events.proofs.Quiet.{quiet_handling, quiet_settle}

near_only : (b : Bool) (P Q : Type 0) → b ≡ true → MatchBool b P Q → P
near_only true P Q e p = p
near_only false P Q e p = absurd (cc)

-- what holds of a state that is near its level
pub near_holds : (b : Bool) (P Q : Type 0) → b ≡ true → P → MatchBool b P Q
near_holds true P Q e p = p
near_holds false P Q e p = absurd (cc)

module _ (Rule : ℤ → ℤ → ℤ → ℤ → Type 0) (m : Machine) (tick : ℕ) (w : Snapshot) (result : Result Snapshot ℕ)
    (left : MayFollowTick m w) (none : NoneRises w) (quiet : IsEventFree m tick w 1) where
  handling : handlers_at m (tick + 1) w ≡ record { states = states_after m w 1; discretes = w.discretes; rows = []; overflow = None }
  handling = quiet_handling m tick w left none quiet

  kept : (levels : List ℤ) → AreNextLevels Rule m (states_after m w 1) w.levels levels → levels ≡ w.levels
  kept levels are =
      tabulate-int_at levels (state_count m) are.one_each
      ∙ tabulate-same (pos 0) (state_count m) (int_at levels) (int_at w.levels) (λ j h. near_only _ _ _ (quiet.near j h) (are.each j h))
      ∙ sym (tabulate-int_at w.levels (state_count m) left.one_each)

  forced : IsStep Rule m (tick + 1) w result → result ≡ Ok (snapshot_after m w 1)
  forced s =
      let are : AreNextLevels Rule m (states_after m w 1) w.levels s.0 =
      subst (λ (h : HandlerState). AreNextLevels Rule m h.states w.levels s.0) handling (s.1 (ap (λ (h : HandlerState). h.overflow) handling)) in
      s.2
      ∙ ap (λ (h : HandlerState). finish_tick m (tick + 1) w h s.0) handling
      ∙ ap (finish_tick m (tick + 1) w (record { states = states_after m w 1; discretes = w.discretes; rows = []; overflow = None })) (kept s.0 are)
      ∙ quiet_settle m tick w left quiet

  pub allowed : result ≡ Ok (snapshot_after m w 1) → IsStep Rule m (tick + 1) w result
  allowed e = (
    w.levels,
    (λ over. subst (λ (h : HandlerState). AreNextLevels Rule m h.states w.levels w.levels) (sym handling)
        (record { one_each = left.one_each; each = λ j h. near_holds _ _ _ (quiet.near j h) refl })),
    e
        ∙ sym (quiet_settle m tick w left quiet)
        ∙ ap (λ (h : HandlerState). finish_tick m (tick + 1) w h w.levels) (sym handling),
  )

pub quiet_tick_is_forced : EventFreeTickIsUnique
quiet_tick_is_forced m tick w result left none quiet = (forced IsWithinOneLevel m tick w result left none quiet, allowed IsWithinOneLevel m tick w result left none quiet)
