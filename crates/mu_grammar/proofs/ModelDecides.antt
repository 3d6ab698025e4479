-- The machine of a model reads exactly the models that the tokens parse as.
use Rattle.mu_grammar.proofs.Common
use Common.{[], ℕ, ◌<◌, ◌∷◌, ◌≡◌, advances, after, allow, arith, Bool, Decides, deep, deeper}
use Common.{descends, done, Effect, false, finishes, go, List, model_machine, model_turn, ModelTree}
use Common.{nat_lt, Next, refl, refuses, SpellsModel, State, subst, sym, Symbol, syntax, true}
use Rattle.mu_grammar.proofs.Fronts.{after-syntax, after-deep}
use Rattle.mu_grammar.proofs.ModelReaders.{GoodEffect, IsModelReader}
use Rattle.mu_grammar.proofs.CompleteModels.{model_read}
use Rattle.mu_grammar.proofs.SoundStates.{CompletesModel, CompletesEffect}
use Rattle.mu_grammar.proofs.SoundModels.{back_model, start_spells}
use Rattle.mu_grammar.proofs.ModelEnds.{model_ends}

-- reading from here accepts the tokens as this model
abbrev pub Accepts : ℕ → Next State ModelTree → List Symbol → ModelTree → Type 0
Accepts limit s ts m = after model_machine limit s ts ≡ done m

-- the same from a state
abbrev pub Accepted : ℕ → ModelTree → State → List Symbol → Type 0
Accepted limit out s ts = Accepts limit (go s) ts out

-- the model is complete before these tokens
abbrev pub Complete : ℕ → ModelTree → ModelTree → List Symbol → Type 0
Complete limit out m ts = Accepts limit (done m) ts out

never : (limit : ℕ) (out : ModelTree) (ts : List Symbol) → Accepts limit syntax ts out → ⊥
never limit out ts is = let e = after-syntax model_machine limit ts in cc

never_deep : (limit : ℕ) (out : ModelTree) (ts : List Symbol) → Accepts limit deep ts out → ⊥
never_deep limit out ts is = let e = after-deep model_machine limit ts in cc

below : (d limit : ℕ) → nat_lt d limit ≡ true → d < limit
below d limit is = grind arith

allowed : (d limit : ℕ) → d < limit → nat_lt d limit ≡ true
allowed d limit less = grind arith

module _ (limit : ℕ) (out : ModelTree) where
  good_allow : (f : Effect State ModelTree) (ts : List Symbol) → GoodEffect limit (Accepted limit out) (Complete limit out) f ts → Accepts limit (allow limit f) ts out
  good_allow (advances s) ts is = is
  good_allow (descends d s) ts (less, is) = subst (λ b. Accepts limit (deeper b s) ts out) (sym (allowed d limit less)) is
  good_allow (finishes m) ts is = is
  good_allow refuses ts is = absurd is

  allow_good : (f : Effect State ModelTree) (ts : List Symbol) → Accepts limit (allow limit f) ts out → GoodEffect limit (Accepted limit out) (Complete limit out) f ts
  allow_good (advances s) ts is = is
  allow_good (descends d s) ts is = by (nat_lt d limit) refl is
    where
      by : (b : Bool) → nat_lt d limit ≡ b → Accepts limit (deeper b s) ts out → (d < limit) × Accepted limit out s ts
      by true less is = (below d limit less, is)
      by false less is = absurd (never_deep limit out ts is)
  allow_good (finishes m) ts is = is
  allow_good refuses ts is = absurd (never limit out ts is)

  -- the machine reads this model
  reader : IsModelReader limit (Accepted limit out) (Complete limit out)
  reader = record {
    forth = λ s x ts is. good_allow (model_turn s x) ts is;
    back = λ s x ts is. allow_good (model_turn s x) ts is;
    no_end = λ s is. cc;
  }

  effect_completes : (f : Effect State ModelTree) (ts : List Symbol) → ((s : State) → Accepted limit out s ts → CompletesModel limit out s ts) → GoodEffect limit (Accepted limit out) (Complete limit out) f ts → CompletesEffect limit out f ts
  effect_completes (advances s) ts on is = on s is
  effect_completes (descends d s) ts on is = (is.0, on s is.1)
  effect_completes (finishes m) [] on is = (refl, let e : m ≡ out = cc in e)
  effect_completes (finishes m) (x ∷ ts) on is = absurd (never limit out ts is)
  effect_completes refuses ts on is = is

  -- what is accepted completes the state
  sound : (ts : List Symbol) (s : State) → Accepted limit out s ts → CompletesModel limit out s ts
  sound [] s is = absurd (reader.no_end s is)
  sound (x ∷ ts) s is = back_model limit out s x ts (effect_completes (model_turn s x) ts (sound ts) (reader.back s x ts is))

-- the same, whatever the model is
abbrev AcceptedSome : ℕ → State → List Symbol → Type 0
AcceptedSome limit s ts = (out : ModelTree) × Accepted limit out s ts

abbrev CompleteSome : ℕ → ModelTree → List Symbol → Type 0
CompleteSome limit m ts = (out : ModelTree) × Complete limit out m ts

some_good : (limit : ℕ) (f : Effect State ModelTree) (ts : List Symbol) → GoodEffect limit (AcceptedSome limit) (CompleteSome limit) f ts → (out : ModelTree) × GoodEffect limit (Accepted limit out) (Complete limit out) f ts
some_good limit (advances s) ts is = is
some_good limit (descends d s) ts (less, is) = (is.0, (less, is.1))
some_good limit (finishes m) ts is = is
some_good limit refuses ts is = absurd is

good_some : (limit : ℕ) (f : Effect State ModelTree) (ts : List Symbol) (out : ModelTree) → GoodEffect limit (Accepted limit out) (Complete limit out) f ts → GoodEffect limit (AcceptedSome limit) (CompleteSome limit) f ts
good_some limit (advances s) ts out is = (out, is)
good_some limit (descends d s) ts out (less, is) = (less, (out, is))
good_some limit (finishes m) ts out is = (out, is)
good_some limit refuses ts out is = is

reader_some : (limit : ℕ) → IsModelReader limit (AcceptedSome limit) (CompleteSome limit)
reader_some limit = record {
  forth = λ s x ts is. (let good = some_good limit (model_turn s x) ts is in (good.0, (reader limit good.0).forth s x ts good.1));
  back = λ s x ts is. good_some limit (model_turn s x) ts is.0 ((reader limit is.0).back s x ts is.1);
  no_end = λ s is. (reader limit is.0).no_end s is.1;
}

-- the machine reads what the tokens parse as
pub model_decides : Decides model_machine SpellsModel
model_decides = record {
  accepted = λ limit ts m is. start_spells limit m ts (sound limit m ts model_machine.start is);
  accepts = λ limit ts m spells. model_read limit (Accepted limit m) (Complete limit m) (reader limit m) ts m spells refl;
  ends = λ limit s. (let found = model_ends limit (AcceptedSome limit) (CompleteSome limit) (reader_some limit) (λ m. (m, refl)) s in (found.0, found.2, found.1.0, found.1.1));
}
