-- Crossings that received a message, and those that it does not go to.
use Rattle.qss_components.proofs.Common
use Common.{ℕ, ◌<◌, ◌==◌, ◌∙◌, ◌≡◌, All, ap, arith, Bool, Condition, Crossing}
use Common.{crossing_after_message, CrossingAgrees, Entry, entry_of, false, form_at, get_or}
use Common.{get_or-map, Input, input_after_message, InputAgrees, length, length-map, List}
use Common.{list_any_at, Machine, map, Message, refl, speed_by, subst, sym, true, Values}
use Rattle.qss_machine.specs.Readers.{has_entry}
use Rattle.qss_components.proofs.Moving.{no_ticks}
use Rattle.qss_components.proofs.Inputs.{entries_same}

-- no input is of a variable that no entry is of
pub unread : (var : ℕ) (entries : List Entry) (inputs : List Input) (k : ℕ) (d : Input) → map entry_of inputs ≡ entries → has_entry var entries ≡ false → k < length inputs → ((get_or inputs k d).var == var) ≡ false
unread var entries inputs k d own none h = by_test ((get_or inputs k d).var == var) refl
  where
    inside : k < length entries
    inside = omega (arith, h, ap (λ (l : List Entry). length l) own, length-map inputs entry_of)

    is : get_or entries k (entry_of d) ≡ entry_of (get_or inputs k d)
    is = ap (λ (l : List Entry). get_or l k (entry_of d)) (sym own) ∙ get_or-map entry_of inputs k d (entry_of d) h

    by_test : (b : Bool) → ((get_or inputs k d).var == var) ≡ b → ((get_or inputs k d).var == var) ≡ false
    by_test false e = e
    by_test true e =
        let found = list_any_at (λ (entry : Entry). entry.var == var) entries k (entry_of d) inside (ap (λ (entry : Entry). entry.var == var) is ∙ e) in
        absurd (cc)

module _ (m : Machine) (tick : ℕ) (message : Message) (v new : Values) (given : (i : Input) → InputAgrees m tick v i → InputAgrees m tick new (input_after_message m tick message i)) where
  lines_told : (inputs : List Input) → All (InputAgrees m tick v) inputs → All (InputAgrees m tick new) (map (input_after_message m tick message) inputs)
  lines_told inputs agree k d h =
      let inside : k < length inputs = omega (arith, h, length-map inputs (input_after_message m tick message)) in
      subst (InputAgrees m tick new) (sym (get_or-map (input_after_message m tick message) inputs k d d inside)) (given (get_or inputs k d) (agree k d inside))

  pub told : (place : ℕ) (condition : Condition) (c : Crossing) → CrossingAgrees m tick v place condition c → CrossingAgrees m tick new place condition (crossing_after_message m c tick message)
  told place condition c a =
      let inputs : List Input = map (input_after_message m tick message) c.inputs in
      record {
        own = a.own;
        own_rel = a.own_rel;
        own_time = a.own_time;
        own_constant = a.own_constant;
        entries = entries_same m tick message c.inputs ∙ a.entries;
        not_later = omega arith;
        lines = lines_told c.inputs a.lines;
        here = no_ticks (form_at m inputs c.time c.gamma tick) (speed_by m inputs c.time) tick;
        own_speed = refl;
      }

  -- where its inputs are of other variables
  pub untold : (place : ℕ) (condition : Condition) (c : Crossing) → ((k : ℕ) (d : Input) → k < length c.inputs → input_after_message m tick message (get_or c.inputs k d) ≡ get_or c.inputs k d) →
      CrossingAgrees m tick v place condition c → CrossingAgrees m tick new place condition c
  untold place condition c same a = record {
    own = a.own;
    own_rel = a.own_rel;
    own_time = a.own_time;
    own_constant = a.own_constant;
    entries = a.entries;
    not_later = a.not_later;
    lines = λ k d h. subst (InputAgrees m tick new) (same k d h) (given (get_or c.inputs k d) (a.lines k d h));
    here = a.here;
    own_speed = a.own_speed;
  }
