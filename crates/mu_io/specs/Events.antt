-- Events: the calls to the operating system's files and streams, with their results.
use Rattle.std.specs.Prelude.{ℕ, List, [], ◌∷◌, ◌++◌}

pub data Event : Type 0 where
  -- the file of this name was opened at its start
  opened : (name : List ℕ) → Event
  -- a read of the open file returned these bytes; none at the end of the file
  gave : (bytes : List ℕ) → Event
  -- opening the file of this name failed
  open_failed : (name : List ℕ) → Event
  -- a read of the open file failed
  read_failed : Event
  -- a write accepted these bytes
  took : (bytes : List ℕ) → Event
  -- a write failed or accepted no bytes
  refused : Event

-- the concatenation of all accepted bytes; the list has the last event first
abbrev pub taken : List Event → List ℕ
taken [] = []
taken (took bytes ∷ before) = taken before ++ bytes
taken (opened name ∷ before) = taken before
taken (gave bytes ∷ before) = taken before
taken (open_failed name ∷ before) = taken before
taken (read_failed ∷ before) = taken before
taken (refused ∷ before) = taken before
