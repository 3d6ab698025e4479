-- What `clap` promises of the command line.
use Rattle.std.proofs.Common.{◌≡◌, ◌≢◌, true, false, suc, ℕ, List, [], ◌∷◌, length, refl, sym, ap}
use Rattle.std.proofs.Common.{◌∙◌, inl, inr, arith, ne_eqb}
use Rattle.std.specs.Prelude.{Option, Some, None, Result, Ok, Err, IfOk, MatchOption, MatchResult}
use Rattle.clap.specs.Words.{App, FailsBy, HasKind, IsAmong, Kinds, Row, fault_of, is_simple}
use Rattle.clap.specs.Words.{is_simple_and_free, kind_of, matches_of}
use Rattle.clap.specs.Walk.{is_empty}
use Rattle.clap.specs.declared.error.Error.{Error}
use Rattle.clap.specs.declared.error.kind.ErrorKind.{ErrorKind}
use Rattle.clap.specs.declared.error.kind.ErrorKind.TheVariants.{OutOfMemory}
use Rattle.clap.proofs.OnLiterals.{clap_on_literals}
use Rattle.qss_cli.specs.CommandLine.{command_line, takes, matches_in}
use Rattle.qss_cli.specs.Commands.{command_given, command_of}

-- the definition of the command line satisfies the requirements of `clap`
free_line : is_simple_and_free command_line ≡ true
unfolding clap_on_literals
free_line = refl

simple_line : is_simple command_line ≡ true
unfolding clap_on_literals
simple_line = refl

-- a kind that is among them, and there is one
some_kind : (k : ErrorKind) (kinds : Kinds) → IsAmong k kinds → is_empty kinds ≡ false
some_kind k [] h = absurd h
some_kind k (x ∷ xs) h = let some : suc (length xs) ≢ 0 = omega arith in ne_eqb _ _ some

module _ (app : App) (same : app ≡ command_line) (words : List (List ℕ)) where
  -- the words are taken
  pub taken : {T : Type 0} (m : T) → (is_simple_and_free app ≡ true → FailsBy {T = T} (fault_of app words) (Ok m)) → takes words ≡ true
  unfolding takes
  taken m h =
      let none : fault_of app words ≡ [] = h (ap is_simple_and_free same ∙ free_line) in
      ap (λ (a : App). is_empty (fault_of a words)) (sym same) ∙ ap is_empty none

  -- the arguments are rejected
  pub refused : (T : Type 0) (e : Error) → (is_simple_and_free app ≡ true → FailsBy {T = T} (fault_of app words) (Err e)) → kind_of e ≢ OutOfMemory → takes words ≡ false
  unfolding takes
  refused T e h other = by (h (ap is_simple_and_free same ∙ free_line))
    where
      by : HasKind (fault_of app words) e → takes words ≡ false
      by (inl k) = absurd (other k)
      by (inr k) = ap (λ (a : App). is_empty (fault_of a words)) (sym same) ∙ some_kind (kind_of e) (fault_of app words) k

  -- what was found among words that are taken
  pub found_so : (rows : List Row) → (is_simple app ≡ true → rows ≡ matches_of app words) → rows ≡ matches_in words
  unfolding matches_in
  found_so rows h = h (ap is_simple same ∙ simple_line) ∙ ap (λ (a : App). matches_of a words) same

-- if `clap` rejects the arguments, what holds without an allocation failure holds for the result
pub none-found : {T E : Type 0} (Holds : Type 0) (HoldsOf : T → Type 0) (kind : ErrorKind) (result : Result (Option T) E)
    → MatchResult result (λ found. (found ≡ None) × (kind ≢ OutOfMemory)) (λ _. kind ≡ OutOfMemory) → (kind ≢ OutOfMemory → Holds) → IfOk result (λ found. MatchOption found Holds HoldsOf)
none-found Holds HoldsOf kind (Ok None) told h = h told.1
none-found Holds HoldsOf kind (Ok (Some x)) told h = absurd (let e = told.0 in cc)
none-found Holds HoldsOf kind (Err e) told h = tt

-- the command that is made of what was found
pub command_taken : (words : List (List ℕ)) (found : List Row) → takes words ≡ true → found ≡ matches_in words → command_given found ≡ command_of words
unfolding command_of
command_taken words found e same = rw e (ap command_given same)

pub command_refused : (words : List (List ℕ)) → takes words ≡ false → None ≡ command_of words
unfolding command_of
command_refused words e = rw e refl
