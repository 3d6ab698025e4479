-- Each source is refused in one way, or gives one machine and one model.
use Rattle.qss_guarantees.proofs.Common
use Common.{ℕ, ◌^◌, ◌∙◌, ◌≡◌, ◌≤◌, ◌⊎◌, Answer, arith, Bool, false, inl, inr, IsParseRefusal}
use Common.{IsRefusalFor, IsRefused, IsSourceMachine, IsSourceRefusal, IsSourceTree, IsTreeRefusal}
use Common.{length, List, long_for, Machine, MatchBool, nat_lt, nat_tests, refl, refusal, Refused}
use Common.{subst, sym, too_long, true}
use Rattle.std.specs.Prelude.{nat_le}
use Rattle.mu_tree.specs.ModelTree.{ModelTree}
use Rattle.qss_compile.proofs.Deciding.{Decides}
use Rattle.qss_compile.proofs.Existence.{spelled_decides, sources_decided}
use Rattle.qss_compile.proofs.Singles.{spelled_single, source_single}
use Rattle.qss_machine.specs.MachineLimits.{HasUnits}
use Rattle.qss_machine.proofs.Fields.{same_machine}
use Rattle.qss_top.specs.MachineAnswers.{refused}
use Rattle.qss_top.specs.Shares.{IsShared}
use Rattle.qss_top.proofs.Sources.{short_for}
use Rattle.qss_top.specs.declared.status.Status.TheVariants as ends

-- ---- refusals

module _ (Refuses : List ℕ → Refused → Type 0) (bytes : List ℕ) where
  -- a refusal, by whether the source is too long
  abbrev ByLength : Bool → Answer → Type 0
  ByLength long a = MatchBool long (a ≡ refusal ends.ModelRefused too_long)
      ((r : Refused) × Refuses bytes r × (a ≡ refusal ends.ModelRefused (refused bytes)))

  one_by : (long : Bool) (a b : Answer) → ByLength long a → ByLength long b → a ≡ b
  one_by true a b p q = p ∙ sym q
  one_by false a b p q = p.2 ∙ sym q.2

  one_refusal : (a b : Answer) → IsRefusalFor Refuses bytes a → IsRefusalFor Refuses bytes b
      → a ≡ b
  one_refusal a b p q = one_by (nat_lt (2 ^ 20) (length bytes)) a b p q

  -- the reason of the refusal of a source that is not too long
  reason_of : length bytes ≤ 2 ^ 20 → (a : Answer) → IsRefusalFor Refuses bytes a
      → (r : Refused) × Refuses bytes r
  reason_of h a p =
      let short : nat_lt (2 ^ 20) (length bytes) ≡ false = grind arith in
      let found : ByLength false a = rw short at p in
      (found.0, found.1)

  -- a source is refused, or is not too long and gives something
  judged : {B : Type 0} {Gives : B → Type 0} → Decides (Refuses bytes) Gives
      → ((a : Answer) × IsRefusalFor Refuses bytes a)
      ⊎ ((length bytes ≤ 2 ^ 20) × ((b : B) × Gives b))
  judged {B} {Gives} decides = by (nat_le (length bytes) (2 ^ 20)) refl
    where
      by : (short : Bool) → nat_le (length bytes) (2 ^ 20) ≡ short
          → ((a : Answer) × IsRefusalFor Refuses bytes a)
          ⊎ ((length bytes ≤ 2 ^ 20) × ((b : B) × Gives b))
      by false e = inl (
        refusal ends.ModelRefused too_long,
        long_for Refuses bytes (grind (arith, nat_tests)),
      )
      by true e = let short : length bytes ≤ 2 ^ 20 = grind (arith, nat_tests) in elim decides [
        | inl found ↦ inr (short, found)
        | inr (r, refuses) ↦
            inl (
              refusal ends.ModelRefused (refused bytes),
              short_for Refuses bytes short r refuses,
            )
      ]

pub one_source_refusal : (bytes : List ℕ) (a b : Answer) → IsSourceRefusal bytes a
    → IsSourceRefusal bytes b → a ≡ b
one_source_refusal bytes a b p q = one_refusal IsRefused bytes a b p q

pub one_tree_refusal : (bytes : List ℕ) (a b : Answer) → IsTreeRefusal bytes a
    → IsTreeRefusal bytes b → a ≡ b
one_tree_refusal bytes a b p q = one_refusal IsParseRefusal bytes a b p q

-- ---- machines

-- a machine with a relative quantum is unique
one_shared : (share : ℕ) (plain m n : Machine) → IsShared share plain m → IsShared share plain n
    → m ≡ n
one_shared share plain m n a b = same_machine m n (record {
  coefficient_bits = a.coef_bits ∙ sym b.coef_bits;
  tick_bits = a.tick_bits ∙ sym b.tick_bits;
  level_bits = a.level_bits ∙ sym b.level_bits;
  last_tick = a.last ∙ sym b.last;
  same_states = a.states ∙ sym b.states;
  same_discretes = a.discretes ∙ sym b.discretes;
  same_rows = a.rows ∙ sym b.rows;
  same_clauses = a.clauses ∙ sym b.clauses;
  share = a.relative ∙ sym b.relative;
})

pub one_source_machine : (share : ℕ) (bytes : List ℕ) (m n : Machine)
    → IsSourceMachine share bytes m → IsSourceMachine share bytes n → m ≡ n
one_source_machine share bytes m n p q = one_shared share p.plain m n p.shared
    (subst (λ (k : Machine). IsShared share k n)
    ((source_single bytes).one q.plain p.plain q.means p.means) q.shared)

-- a source that compiles to a machine is not rejected
pub source_fine : (share : ℕ) (bytes : List ℕ) (a : Answer) (m : Machine)
    → IsSourceRefusal bytes a → IsSourceMachine share bytes m → ⊥
source_fine share bytes a m refuses is =
    let (r, reason) = reason_of IsRefused bytes is.short a refuses in
    (source_single bytes).apart is.plain r is.means reason

-- the same machine with another relative quantum
shared_units : (m : Machine) (share : ℕ) → share ≤ 2048 → HasUnits m.p m.k m.f m.last share
shared_units m share few =
    let units : HasUnits m.p m.k m.f m.last m.relative = m.has_units in assumption (units, few)

with_share : (share : ℕ) → share ≤ 2048 → (plain : Machine)
    → (m : Machine) × IsShared share plain m
with_share share few plain =
    (record plain { relative = share; has_units = shared_units plain share few }, assumption refl)

-- a source is rejected or compiles to a machine
pub source_judged : (share : ℕ) → share ≤ 2048 → (bytes : List ℕ)
    → ((a : Answer) × IsSourceRefusal bytes a) ⊎ ((m : Machine) × IsSourceMachine share bytes m)
source_judged share few bytes = elim (judged IsRefused bytes (sources_decided bytes)) [
  | inl refuses ↦ inl refuses
  | inr (short, (plain, means)) ↦ let m = with_share share few plain in
      inr (m.0, record { short = short; plain = plain; means = means; shared = m.1 })
]

-- ---- models

pub one_source_tree : (bytes : List ℕ) (a b : ModelTree) → IsSourceTree bytes a
    → IsSourceTree bytes b → a ≡ b
one_source_tree bytes a b p q = (spelled_single bytes).one a b p.spelled q.spelled

-- a source that parses as a model is not rejected
pub tree_fine : (bytes : List ℕ) (a : Answer) (tree : ModelTree) → IsTreeRefusal bytes a
    → IsSourceTree bytes tree → ⊥
tree_fine bytes a tree refuses is =
    let (r, reason) = reason_of IsParseRefusal bytes is.short a refuses in
    (spelled_single bytes).apart tree r is.spelled reason

-- a source is rejected or parses as a model
pub tree_judged : (bytes : List ℕ)
    → ((a : Answer) × IsTreeRefusal bytes a) ⊎ ((tree : ModelTree) × IsSourceTree bytes tree)
tree_judged bytes = elim (judged IsParseRefusal bytes (spelled_decides bytes)) [
  | inl refuses ↦ inl refuses
  | inr (short, (tree, parses)) ↦ inr (tree, record { short = short; spelled = parses })
]
