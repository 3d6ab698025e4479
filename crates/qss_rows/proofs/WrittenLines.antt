-- Lines that are written one after another.
use Rattle.qss_rows.proofs.Common
use Common.{[], ℕ, ◌++◌, ◌+◌, ◌<◌, ◌∙◌, ◌∷◌, ◌≡◌, ap, append-nil, append_assoc, Appends}
use Common.{Appends-trans, arith, Bool, bytes_in, flat_map-append, IsWriting, length, line_at, List}
use Common.{Memory, None, Option, refl, rules, Some, StopsAtLine, subst, suc, sym, take, text_in}
use Common.{WriteStop, zero}
use Rattle.std.specs.Prelude.{IsSome}
use Rattle.std.proofs.KnownBytes.{Appends-nil}
use Rattle.std.proofs.lemmas.List.{take_more}
use Rattle.mu_io.specs.FaultCounts.{HasOneMoreFault}
use Rattle.mu_io.specs.Sinks.{AppendsPrefix}

-- ---- lines

pub text_in-append : (xs ys : List (Option (List ℕ))) → text_in (xs ++ ys) ≡ text_in xs ++ text_in ys
text_in-append xs ys = flat_map-append bytes_in xs ys

-- one more line
pub text_more : (lines : List (Option (List ℕ))) (i : ℕ) → i < length lines → text_in (take (i + 1) lines) ≡ text_in (take i lines) ++ bytes_in (line_at lines i)
text_more lines i inside =
    ap text_in (take_more lines i None inside) ∙ text_in-append (take i lines) (line_at lines i ∷ []) ∙ ap (λ (l : List ℕ). text_in (take i lines) ++ l) (append-nil (bytes_in (line_at lines i)))

-- where lines have bytes one of them is there
pub some_where : (lines : List (Option (List ℕ))) → 0 < length (text_in lines) → (i : ℕ) × IsSome (line_at lines i)
some_where [] h = absurd (omega (arith, h))
some_where (Some line ∷ rest) h = (0, search rules)
some_where (None ∷ rest) h = let s = some_where rest h in (suc s.0, s.1)

-- ---- prefixes

pub whole_prefix : (old now : Option (List ℕ)) (xs : List ℕ) → Appends old now xs → AppendsPrefix old now xs
whole_prefix old now xs a = record { front = xs; rest = []; parts = append-nil xs; appended = a }

-- a prefix of a prefix is a prefix of the whole
front_prefix : (old now : Option (List ℕ)) (xs ys : List ℕ) → AppendsPrefix old now xs → AppendsPrefix old now (xs ++ ys)
front_prefix old now xs ys p = record {
  front = p.front;
  rest = p.rest ++ ys;
  parts = sym (append_assoc p.front p.rest ys) ∙ ap (λ (l : List ℕ). l ++ ys) p.parts;
  appended = p.appended;
}

-- what is done and a prefix of what follows are a prefix of both
later_prefix : (old mid now : Option (List ℕ)) (done xs : List ℕ) → Appends old mid done → AppendsPrefix mid now xs → AppendsPrefix old now (done ++ xs)
later_prefix old mid now done xs before p = record {
  front = done ++ p.front;
  rest = p.rest;
  parts = append_assoc done p.front p.rest ∙ ap (λ (l : List ℕ). done ++ l) p.parts;
  appended = Appends-trans old mid now done p.front before p.appended;
}

-- ---- sinks

module _ {K : Type 0} (written : K → Option (List ℕ)) (faults : K → ℕ) (failed : K → Bool) where
  -- nothing is written
  pub writes_nothing : (sink : K) → IsWriting written faults failed None sink sink []
  writes_nothing sink = record {
    whole = λ e. Appends-nil (written sink);
    prefix = whole_prefix (written sink) (written sink) [] (Appends-nil (written sink));
    calm = λ e. refl;
    last = λ e. absurd (cc);
  }

  -- all is written
  pub writes_all : (old new : K) (bytes : List ℕ) → Appends (written old) (written new) bytes → faults new ≡ faults old → IsWriting written faults failed None old new bytes
  writes_all old new bytes appended calm = record {
    whole = λ e. appended;
    prefix = whole_prefix (written old) (written new) bytes appended;
    calm = λ e. calm;
    last = λ e. absurd (cc);
  }

  -- allocation failed, and nothing is written
  pub writes_none : (sink : K) (bytes : List ℕ) → IsWriting written faults failed (Some Memory) sink sink bytes
  writes_none sink bytes = record {
    whole = λ e. absurd (cc);
    prefix = record { front = []; rest = bytes; parts = refl; appended = Appends-nil (written sink) };
    calm = λ e. refl;
    last = λ e. absurd (cc);
  }

  -- what was written before is a prefix
  pub writes_later : (stop : Option WriteStop) (old mid new : K) (done bytes : List ℕ) → Appends (written old) (written mid) done → faults mid ≡ faults old →
      IsWriting written faults failed stop mid new bytes → IsWriting written faults failed stop old new (done ++ bytes)
  writes_later stop old mid new done bytes before same w = record {
    whole = λ e. Appends-trans (written old) (written mid) (written new) done bytes before (w.whole e);
    prefix = later_prefix (written old) (written mid) (written new) done bytes before w.prefix;
    calm = λ e. w.calm e ∙ same;
    last = λ e. let end = w.last e in record { one = subst (λ n. HasOneMoreFault n (faults new)) same end.one; last = end.last };
  }

  -- a call that stopped wrote a prefix of more, too
  pub stops_early : (s : WriteStop) (old new : K) (bytes more : List ℕ) → IsWriting written faults failed (Some s) old new bytes → IsWriting written faults failed (Some s) old new (bytes ++ more)
  stops_early s old new bytes more w = record {
    whole = λ e. absurd (cc);
    prefix = front_prefix (written old) (written new) bytes more w.prefix;
    calm = w.calm;
    last = w.last;
  }

  -- the writing stops in a part of what is left
  pub part_stops : (s : WriteStop) (old mid new : K) (done line more bytes : List ℕ) → done ++ (line ++ more) ≡ bytes → Appends (written old) (written mid) done → faults mid ≡ faults old →
      IsWriting written faults failed (Some s) mid new line → IsWriting written faults failed (Some s) old new bytes
  part_stops s old mid new done line more bytes parts appended calm w =
      subst (IsWriting written faults failed (Some s) old new) parts
      (writes_later (Some s) old mid new done (line ++ more) appended calm (stops_early s mid new line more w))

module _ {K : Type 0} (written : K → Option (List ℕ)) where
  -- a call that wrote nothing stopped before the first line, where there is one
  pub stops_first : (lines : List (Option (List ℕ))) (i : ℕ) (sink : K) → IsSome (line_at lines i) → StopsAtLine written [] lines sink sink
  stops_first [] i sink wanted = absurd (cc)
  stops_first (Some line ∷ rest) i sink wanted = record { front = []; line = line; rest = rest; parts = refl; appended = Appends-nil (written sink) }
  stops_first (None ∷ rest) zero sink wanted = absurd (cc)
  stops_first (None ∷ rest) (suc i) sink wanted =
      let s = stops_first rest i sink wanted in
      record { front = None ∷ s.front; line = s.line; rest = s.rest; parts = ap (λ (l : List (Option (List ℕ))). None ∷ l) s.parts; appended = s.appended }

  -- a call that stopped at one of these lines stopped at one of more
  pub stops_sooner : (head : List ℕ) (lines more : List (Option (List ℕ))) (old new : K) → StopsAtLine written head lines old new → StopsAtLine written head (lines ++ more) old new
  stops_sooner head lines more old new s = record {
    front = s.front;
    line = s.line;
    rest = s.rest ++ more;
    parts = sym (append_assoc s.front (Some s.line ∷ s.rest) more) ∙ ap (λ (l : List (Option (List ℕ))). l ++ more) s.parts;
    appended = s.appended;
  }

  -- what was written before is a prefix
  pub stops_later : (head : List ℕ) (done lines : List (Option (List ℕ))) (old mid new : K) → Appends (written old) (written mid) (head ++ text_in done) → StopsAtLine written [] lines mid new →
      StopsAtLine written head (done ++ lines) old new
  stops_later head done lines old mid new before s = record {
    front = done ++ s.front;
    line = s.line;
    rest = s.rest;
    parts = append_assoc done s.front (Some s.line ∷ s.rest) ∙ ap (λ (l : List (Option (List ℕ))). done ++ l) s.parts;
    appended = subst (Appends (written old) (written new))
        (append_assoc head (text_in done) (text_in s.front) ∙ ap (λ (l : List ℕ). head ++ l) (sym (text_in-append done s.front)))
        (Appends-trans (written old) (written mid) (written new) (head ++ text_in done) (text_in s.front) before s.appended);
  }

-- ---- a run that is written as it goes

-- of these lines of a run some are written, and the others are ahead
pub record IsUnderWay {K : Type 0} (written : K → Option (List ℕ)) (faults : K → ℕ) (failed : K → Bool) (lines left : List (Option (List ℕ))) (old mid : K) : Type 0 where
  pub done : List (Option (List ℕ))
  pub parts : done ++ left ≡ lines
  pub appended : Appends (written old) (written mid) (text_in done)
  pub calm : faults mid ≡ faults old

module _ {K : Type 0} (written : K → Option (List ℕ)) (faults : K → ℕ) (failed : K → Bool) (old : K) where
  -- the first lines are written
  pub begins : (mid : K) (present left : List (Option (List ℕ))) → IsWriting written faults failed None old mid (text_in present) → IsUnderWay written faults failed (present ++ left) left old mid
  begins mid present left w = record { done = present; parts = refl; appended = w.whole refl; calm = w.calm (λ e. absurd (cc)) }

  module _ (mid last : K) (lines left present later : List (Option (List ℕ))) (way : IsUnderWay written faults failed lines left old mid) (ahead : left ≡ present ++ later) where
    parts_on : way.done ++ (present ++ later) ≡ lines
    parts_on = ap (λ (l : List (Option (List ℕ))). way.done ++ l) (sym ahead) ∙ way.parts

    -- the run goes on
    pub goes_on : IsWriting written faults failed None mid last (text_in present) → IsUnderWay written faults failed lines later old last
    goes_on w = record {
      done = way.done ++ present;
      parts = append_assoc way.done present later ∙ parts_on;
      appended = subst (Appends (written old) (written last)) (sym (text_in-append way.done present))
          (Appends-trans (written old) (written mid) (written last) (text_in way.done) (text_in present) way.appended (w.whole refl));
      calm = w.calm (λ e. absurd (cc)) ∙ way.calm;
    }

    text_on : text_in way.done ++ (text_in present ++ text_in later) ≡ text_in lines
    text_on = ap (λ (l : List ℕ). text_in way.done ++ l) (sym (text_in-append present later)) ∙ sym (text_in-append way.done (present ++ later)) ∙ ap text_in parts_on

    -- the sink or memory fails
    pub fails : (s : WriteStop) → IsWriting written faults failed (Some s) mid last (text_in present) → IsWriting written faults failed (Some s) old last (text_in lines)
    fails s w =
        subst (IsWriting written faults failed (Some s) old last) text_on
        (writes_later written faults failed (Some s) old mid last (text_in way.done) (text_in present ++ text_in later) way.appended way.calm
        (stops_early written faults failed s mid last (text_in present) (text_in later) w))

    -- memory is not found for a line
    pub halts : StopsAtLine written [] present mid last → StopsAtLine written [] lines old last
    halts s =
        subst (λ (l : List (Option (List ℕ))). StopsAtLine written [] l old last) parts_on
        (stops_later written [] way.done (present ++ later) old mid last way.appended (stops_sooner written [] present later mid last s))

    -- the run ends
    pub ends : later ≡ [] → IsWriting written faults failed None mid last (text_in present) → IsWriting written faults failed None old last (text_in lines)
    ends none w =
        subst (IsWriting written faults failed None old last)
        (ap (λ (l : List ℕ). text_in way.done ++ l) (sym (append-nil (text_in present)) ∙ ap (λ (l : List (Option (List ℕ))). text_in present ++ text_in l) (sym none)) ∙ text_on)
        (writes_later written faults failed None old mid last (text_in way.done) (text_in present) way.appended way.calm w)
