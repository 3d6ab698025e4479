-- The outcomes of running a machine.
use Rattle.qss_top.proofs.Common
use Common.{[], ℕ, ◌++◌, ◌∙◌, ◌∷◌, ◌≡◌, Answer, ap, append-nil, append_assoc, Appends, Appends-nil}
use Common.{Bool, codes, false, is_defined, IsMessageText, IsOutcome, IsWhole}
use Common.{line_text as outcome_text, List, Message, Option, Outcome, refl, Refusal, refusal}
use Common.{rejected, rejection, Status, status_of, status_of_refusal, subst, sym, true}
use Rattle.std.specs.Prelude.{flat_map}
use Rattle.std.proofs.lemmas.List.Concat.{flat_map-append}
use Rattle.csv.specs.Writing.{default_writer, row_text, row_body, end_text}
use Rattle.qss_rows.specs.RowTexts.{header}
use Rattle.qss_top.specs.WrittenTexts.{StopsAtLine}
use Rattle.qss_top.specs.declared.command_outcome.Outcome.TheVariants as outcome

-- ---- outcomes

-- the outcome is that of an answer
abbrev pub is_answer : Outcome → Bool
is_answer outcome.Usage = false
is_answer outcome.ReadFault = false
is_answer outcome.WriteFault = false
is_answer outcome.Memory = false
is_answer _ = true

-- the outcome of an answer, with its whole text
pub whole_outcome : (answer : Answer) (what : Outcome) (old new : Option (List ℕ))
    → is_answer what ≡ true → IsWhole answer what old new → IsOutcome answer what old new
whole_outcome answer outcome.Done old new is whole = whole
whole_outcome answer outcome.Usage old new is whole = absurd (cc)
whole_outcome answer outcome.ReadFault old new is whole = absurd (cc)
whole_outcome answer outcome.WriteFault old new is whole = absurd (cc)
whole_outcome answer outcome.TooLong old new is whole = whole
whole_outcome answer (outcome.Refused r) old new is whole = whole
whole_outcome answer (outcome.Overflow name tick) old new is whole = whole
whole_outcome answer (outcome.Rejected why) old new is whole = whole
whole_outcome answer outcome.Memory old new is whole = absurd (cc)

-- at a specified status the outcome is that of the answer
pub defined_whole : (answer : Answer) (what : Outcome) (old new : Option (List ℕ))
    → is_defined (status_of what) ≡ true → IsOutcome answer what old new
    → IsWhole answer what old new
defined_whole answer outcome.Done old new is whole = whole
defined_whole answer outcome.Usage old new is whole = whole
defined_whole answer outcome.ReadFault old new is none = absurd none
defined_whole answer outcome.WriteFault old new is stops = absurd (cc)
defined_whole answer outcome.TooLong old new is whole = whole
defined_whole answer (outcome.Refused r) old new is whole = whole
defined_whole answer (outcome.Overflow name tick) old new is whole = whole
defined_whole answer (outcome.Rejected why) old new is whole = whole
defined_whole answer outcome.Memory old new is cut = absurd (cc)

-- a refusal, if nothing was written
pub refused_now : (status : Status) (line : Message) (what : Outcome) (old : Option (List ℕ))
    → status_of what ≡ status → IsMessageText line (outcome_text what)
    → IsWhole (refusal status line) what old old
refused_now status line what old is said =
    record { status = is; line = said; text = Appends-nil old }

pub rejected_now : (why : Refusal) (old : Option (List ℕ))
    → IsOutcome (rejection why) (outcome.Rejected why) old old
rejected_now why old =
    refused_now (status_of_refusal why) (rejected why) (outcome.Rejected why) old refl refl

-- ---- lines

pub append_none : (xs ys : List ℕ) → xs ++ ys ≡ [] → (xs ≡ []) × (ys ≡ [])
append_none [] ys e = (refl, e)
append_none (x ∷ xs) ys e = absurd (cc)

-- a line has a text
pub row_none : (fields : List (List ℕ)) → row_text default_writer fields ≡ [] → ⊥
row_none fields e =
    let tail = (append_none (row_body default_writer fields) _ e).1 in
    let end = (append_none _ (end_text default_writer.terminator) tail).1 in
    cc

-- the bytes end a line
abbrev EndsLine : List ℕ → Type 0
EndsLine bytes = (front : List ℕ) × (bytes ≡ front ++ codes "\n")

line_ends : (head body blank : List ℕ) → EndsLine (head ++ (body ++ (blank ++ codes "\n")))
line_ends head body blank = (
  head ++ (body ++ blank),
  sym (append_assoc head (body ++ blank) (codes "\n")
      ∙ ap (λ (l : List ℕ). head ++ l) (append_assoc body blank (codes "\n"))),
)

module _ {Row : Type 0} (fields : Row → List (List ℕ)) where
  abbrev pub lines : List Row → List ℕ
  lines rows = flat_map (λ row. row_text default_writer (fields row)) rows

  lines_end : (head : List ℕ) → EndsLine head → (rows : List Row) → EndsLine (head ++ lines rows)
  lines_end head ended [] = subst EndsLine (sym (append-nil head)) ended
  lines_end head ended (row ∷ rows) =
      let text = row_text default_writer (fields row) in
      subst EndsLine (append_assoc head text (lines rows)) (lines_end (head ++ text)
      (line_ends head (row_body default_writer (fields row)) _) rows)

  -- a call that stopped before the line of a row
  pub stops_at_line : {old new : Option (List ℕ)} (front rest : List Row) (row : Row)
      (rows : List Row) → front ++ (row ∷ rest) ≡ rows → Appends old new (header ++ lines front)
      → StopsAtLine old new (header ++ lines rows)
  stops_at_line front rest row rows parts appended = record {
    lines = header ++ lines front;
    rest = lines (row ∷ rest);
    parts = append_assoc header (lines front) (lines (row ∷ rest))
        ∙ ap (λ (l : List ℕ). header ++ l) (sym (flat_map-append (λ (row : Row).
        row_text default_writer (fields row)) front (row ∷ rest)) ∙ ap lines parts);
    ended = lines_end header (codes "tick,event,name,level,state", refl) front;
    more = λ e. row_none (fields row) (append_none _ (lines rest) e).0;
    appended = appended;
  }
