-- What became of a run, from what was written of it and how it ended.
use Rattle.qss_rows.proofs.Common
use Common.{ℕ, ◌++◌, ◌≡◌, Bool, header, IsResultOf, IsWriting, List, Machine, Memory, None, Option}
use Common.{refl, RunEnd, Some, StopsAtLine, subst, text_in, WriteStop}
use Rattle.std.proofs.Common.{inl, inr}
use Rattle.std.specs.Prelude.{IfSome}
use Rattle.qss_rows.specs.declared.simulation_rows.RunResult.{RunResult}
use Rattle.qss_rows.specs.declared.simulation_rows.WriteStop.TheVariants.{Fault}
use Rattle.qss_rows.specs.Simulations.{IsSimulated}
use Rattle.qss_rows.specs.declared.simulation_rows.RunResult.TheVariants as played

-- a fact of what an option holds
pub some_holds : {X : Type 0} (P : X → Type 0) (o : Option X) (x : X) → o ≡ Some x → IfSome o P → P x
some_holds P None x e h = absurd (cc)
some_holds P (Some y) x e h = let same : y ≡ x = cc in subst P same h

module _ {K : Type 0} (written : K → Option (List ℕ)) (faults : K → ℕ) (failed : K → Bool) (m : Machine) (Ends : RunEnd → Type 0) (lines : List (Option (List ℕ))) (old new : K) where
  abbrev Writes : Option WriteStop → Type 0
  Writes stop = IsWriting written faults failed stop old new (header ++ text_in lines)

  -- all was written
  pub written_whole : (e : RunEnd) (result : RunResult) → Ends e → IsResultOf m e result → Writes None → IsSimulated written faults failed m Ends lines result old new
  written_whole e played.Ended ends told w = record {
    end = subst Ends told ends;
    whole = λ x. w.whole refl;
    prefix = w.prefix;
    short = λ x. absurd (cc);
    calm = λ x. w.calm (λ f. absurd (cc));
    last = λ x. absurd (cc);
  }
  written_whole e (played.Overflowed name tick) ends told w = record {
    end = (told.0, subst Ends told.1 ends, told.2);
    whole = λ x. w.whole refl;
    prefix = w.prefix;
    short = λ x. absurd (cc);
    calm = λ x. w.calm (λ f. absurd (cc));
    last = λ x. absurd (cc);
  }
  written_whole e played.Fault ends told w = absurd told
  written_whole e played.Memory ends told w = record {
    end = tt;
    whole = λ x. absurd (cc);
    prefix = w.prefix;
    short = λ x. inr ((told.0, told.1, subst Ends told.2 ends), w.whole refl);
    calm = λ x. w.calm (λ f. absurd (cc));
    last = λ x. absurd (cc);
  }

  -- the sink failed
  pub written_faulty : (s : WriteStop) → s ≡ Fault → Writes (Some s) → IsSimulated written faults failed m Ends lines played.Fault old new
  written_faulty s e w =
      let is = subst (λ (stop : WriteStop). Writes (Some stop)) e w in
      record { end = tt; whole = λ x. absurd (cc); prefix = is.prefix; short = λ x. absurd (cc); calm = λ x. absurd (x refl); last = λ x. is.last refl }

  -- allocation failed for a line
  pub written_short : (s : WriteStop) → s ≡ Memory → Writes (Some s) → StopsAtLine written header lines old new → IsSimulated written faults failed m Ends lines played.Memory old new
  written_short s e w stopped =
      let is = subst (λ (stop : WriteStop). Writes (Some stop)) e w in
      record { end = tt; whole = λ x. absurd (cc); prefix = is.prefix; short = λ x. inl stopped; calm = λ x. is.calm (λ f. absurd (cc)); last = λ x. absurd (cc) }
