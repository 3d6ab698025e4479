-- The answer that is specified for the bytes that were read.
use Rattle.qss_top.proofs.Common
use Common.{[], ℕ, ◌++◌, ◌<◌, ◌∷◌, ◌≡◌, Answer, AnswersFromReads, ap, Appends-nil, AreReadInOrder}
use Common.{ArgumentsAnswerFromReads, arith, Bool, Command, FailsAtFile, false, fully_read}
use Common.{in_progress, inl, inr, is_too_long, IsAnsweredBy, IsAnswerFromReads, IsOutcome, length}
use Common.{List, MayHaveContents, None, Option, Outcome, ReadFails, Reading, reading, refl, Some}
use Common.{suc, take, true}
use Rattle.std.specs.Prelude.{replicate}
use Rattle.std.proofs.lemmas.List.{length-take, length-replicate}
use Rattle.mu_io.specs.Readings.{Exceeds}
use Rattle.qss_top.specs.declared.command_outcome.Outcome.TheVariants as outcome

-- the answer and the file that fails are stated for another relation or for more readings
by_parts : {names others : List (List ℕ)} {IsSuch Others : List (List ℕ) → Answer → Type 0}
    {what : Outcome} {old new : Option (List ℕ)} {from mid to : List Reading}
    → (IsAnswerFromReads names IsSuch what old new mid to
    → IsAnswerFromReads others Others what old new from to)
    → (FailsAtFile names IsSuch mid to → FailsAtFile others Others from to)
    → AnswersFromReads names IsSuch what old new mid to
    → AnswersFromReads others Others what old new from to
by_parts answer fault (inl none) = inl none
by_parts answer fault (inr (inl (e, fails))) = inr (inl (e, fault fails))
by_parts answer fault (inr (inr (not_read, is))) = inr (inr (not_read, answer is))

-- the readings of a call, without those before it; the last one may also stop
pub stripped : (stopped other : Bool) → (stopped ≡ true → other ≡ true) → (old new : List Reading)
    (names contents : List (List ℕ)) (since : List Reading)
    → AreReadInOrder stopped names contents (since ++ old) new → (reads : List Reading)
    × (new ≡ reads ++ old) × AreReadInOrder other names contents since reads
stripped stopped other may old new [] [] since h = (since, h, refl)
stripped stopped other may old new [] (bytes ∷ contents) since h = absurd h
stripped stopped other may old new (name ∷ names) [] since h = absurd h
stripped stopped other may old new (name ∷ names) (bytes ∷ contents) since (inl h) =
    let (reads, more, read) = stripped stopped other may old new names contents
    (reading name bytes fully_read ∷ since) h in
    (reads, more, inl read)
stripped stopped other may old new (name ∷ names) (bytes ∷ contents) since
    (inr (e, none, last, is)) =
    (reading name bytes in_progress ∷ since, is, inr (may e, none, last, refl))

-- an allocation failed before a file was read
pub memory_unread : (found : Option Command) (old : Option (List ℕ)) (rs : List Reading)
    → ArgumentsAnswerFromReads found outcome.Memory old old rs rs
memory_unread None old rs = refl
memory_unread (Some command) old rs = inl (refl, Appends-nil old)

-- a call that has an answer and reads nothing
pub answer_read : {names : List (List ℕ)} {IsSuch : List (List ℕ) → Answer → Type 0}
    {Is : Answer → Type 0} {what : Outcome} {old new : Option (List ℕ)} {rs : List Reading}
    → ((a : Answer) → Is a → IsSuch [] a) → IsAnsweredBy Is what old new
    → IsAnswerFromReads names IsSuch what old new rs rs
answer_read {IsSuch = IsSuch} such is = record {
  contents = [];
  answer = is.answer;
  stopped = false;
  rejects = λ e. absurd (cc e);
  read = refl;
  specified = specified;
  outcome = is.outcome;
}
  where
    specified : (wholes : List (List ℕ)) → MayHaveContents false [] wholes
        → IsSuch wholes is.answer
    specified [] of = such is.answer is.such
    specified (whole ∷ wholes) of = absurd of

-- the answers are also those of another relation
pub map_read : {names : List (List ℕ)} {IsSuch Others : List (List ℕ) → Answer → Type 0}
    {what : Outcome} {old new : Option (List ℕ)} {from to : List Reading}
    → ((contents : List (List ℕ)) (a : Answer) → IsSuch contents a → Others contents a)
    → AnswersFromReads names IsSuch what old new from to
    → AnswersFromReads names Others what old new from to
map_read {names} {IsSuch} {Others} {what} {old} {new} {from} {to} step = by_parts answer fault
  where
    answer : IsAnswerFromReads names IsSuch what old new from to
        → IsAnswerFromReads names Others what old new from to
    answer is = record {
      contents = is.contents;
      answer = is.answer;
      stopped = is.stopped;
      rejects = is.rejects;
      read = is.read;
      specified = λ wholes of. step wholes is.answer (is.specified wholes of);
      outcome = is.outcome;
    }

    fault : FailsAtFile names IsSuch from to → FailsAtFile names Others from to
    fault h = record {
      contents = h.contents;
      name = h.name;
      later = h.later;
      bytes = h.bytes;
      before = h.before;
      named = h.named;
      whole = h.whole;
      fault = h.fault;
      needed = let (bytes, more, a, is) = h.needed in
          (bytes, more, a, step (h.contents ++ bytes ∷ more) a is);
    }

-- ---- a file that is read

-- the reading of a later file stopped
abbrev stops : Bool → List (List ℕ) → Bool
stops stopped [] = false
stops stopped (text ∷ texts) = stopped

in_order : (stopped : Bool) (names contents : List (List ℕ)) (from to : List Reading)
    → AreReadInOrder stopped (take (length contents) names) contents from to
    → AreReadInOrder (stops stopped contents) (take (length contents) names) contents from to
in_order stopped names [] from to h = h
in_order stopped names (text ∷ texts) from to h = h

may_stop : (stopped : Bool) (contents : List (List ℕ)) (a : Answer)
    → (stopped ≡ true → is_too_long a ≡ true) → stops stopped contents ≡ true
    → is_too_long a ≡ true
may_stop stopped [] a rejects e = absurd (cc e)
may_stop stopped (text ∷ texts) a rejects e = rejects e

module _ (name : List ℕ) (names : List (List ℕ)) (IsSuch : List (List ℕ) → Answer → Type 0) where
  module _ (bytes : List ℕ) where
    abbrev Later : List (List ℕ) → Answer → Type 0
    Later contents answer = IsSuch (bytes ∷ contents) answer

    with_first : (stopped : Bool) (contents : List (List ℕ)) (a : Answer)
        → ((rest : List (List ℕ)) → MayHaveContents stopped contents rest → Later rest a)
        → (wholes : List (List ℕ))
        → MayHaveContents (stops stopped contents) (bytes ∷ contents) wholes → IsSuch wholes a
    with_first stopped contents a specified [] of = absurd of
    with_first stopped [] a specified (first ∷ []) (inl of) = rw (of.0) (specified [] tt)
    with_first stopped [] a specified (first ∷ next ∷ rest) (inl of) = absurd of.1
    with_first stopped [] a specified (first ∷ rest) (inr of) = absurd (cc (of.0))
    with_first stopped (text ∷ texts) a specified (first ∷ rest) (inl of) =
        rw (of.0) (specified rest of.1)
    with_first stopped (text ∷ texts) a specified (first ∷ rest) (inr of) = absurd (cc)

    -- the file was read up to its end, and then further files
    pub whole_read : {what : Outcome} {old new : Option (List ℕ)} {from to : List Reading}
        → AnswersFromReads names Later what old new (reading name bytes fully_read ∷ from) to
        → AnswersFromReads (name ∷ names) IsSuch what old new from to
    whole_read {what} {old} {new} {from} {to} = by_parts answer fault
      where
        answer : IsAnswerFromReads names Later what old new (reading name bytes fully_read ∷ from)
            to → IsAnswerFromReads (name ∷ names) IsSuch what old new from to
        answer is = record {
          contents = bytes ∷ is.contents;
          answer = is.answer;
          stopped = stops is.stopped is.contents;
          rejects = may_stop is.stopped is.contents is.answer is.rejects;
          read = inl (in_order is.stopped names is.contents (reading name bytes fully_read ∷ from)
              to is.read);
          specified = with_first is.stopped is.contents is.answer is.specified;
          outcome = is.outcome;
        }

        fault : FailsAtFile names Later (reading name bytes fully_read ∷ from) to
            → FailsAtFile (name ∷ names) IsSuch from to
        fault h = record {
          contents = bytes ∷ h.contents;
          name = h.name;
          later = h.later;
          bytes = h.bytes;
          before = h.before;
          named = ap (λ (ns : List (List ℕ)). name ∷ ns) h.named;
          whole = inl h.whole;
          fault = h.fault;
          needed = h.needed;
        }

  -- all texts that are longer than the limit have this answer
  module _ (limit : ℕ) (a : Answer)
      (all : (bytes : List ℕ) → limit < length bytes → IsSuch (bytes ∷ []) a) where
    long_whole : (bytes : List ℕ) → limit < length bytes → (wholes : List (List ℕ))
        → MayHaveContents true (bytes ∷ []) wholes → IsSuch wholes a
    long_whole bytes long [] of = absurd of
    long_whole bytes long (whole ∷ []) (inl of) = all whole (rw (of.0) long)
    long_whole bytes long (whole ∷ next ∷ more) (inl of) = absurd of.1
    long_whole bytes long (whole ∷ rest) (inr (e, none, last, starts)) =
        let size = ap (λ (l : List ℕ). length l) starts in
        rw last (all whole (omega (arith, length-take (length bytes) whole, size)))

    -- the file is longer than the limit, and is rejected as too long
    pub long_read : {what : Outcome} {old new : Option (List ℕ)} {from to : List Reading}
        → Exceeds from to name limit → is_too_long a ≡ true → IsOutcome a what old new
        → IsAnswerFromReads (name ∷ names) IsSuch what old new from to
    long_read (bytes, more, long) rejects is = record {
      contents = bytes ∷ [];
      answer = a;
      stopped = true;
      rejects = λ e. rejects;
      read = inr (refl, refl, refl, more);
      specified = long_whole bytes long;
      outcome = is;
    }

    -- a read of the file failed
    pub fault_read : {from to : List Reading} → ReadFails from to name
        → FailsAtFile (name ∷ names) IsSuch from to
    fault_read {from} (bytes, fails) =
        let text = replicate {A = ℕ} (suc limit) 0 in
        let size = length-replicate {A = ℕ} (suc limit) 0 in record {
          contents = [];
          name = name;
          later = names;
          bytes = bytes;
          before = from;
          named = refl;
          whole = refl;
          fault = fails;
          needed = (text, [], a, all text (omega (arith, size)));
        }
