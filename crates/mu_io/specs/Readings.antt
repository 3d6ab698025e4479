-- What was read from files, one reading after another, and the files for which it is possible.
use Rattle.std.specs.Prelude.{◌≡◌, ◌⊎◌, ◌<◌, ℕ, suc, ◌-◌, List, [], ◌∷◌, ◌++◌, length, take, All}
use Rattle.std.specs.Prelude.{Option, None, Some, IfSome, Result, MatchResult, ◌==◌, if◌then◌else◌}
use Rattle.std.specs.Io.{StartsWith}
use Rattle.mu_io.specs.Events.{Event, opened, gave, open_failed, read_failed, took, refused}
use Rattle.mu_io.specs.Files.{Files, file_of}

-- the state of a reading: it can continue, it has reached the end of the file, or it has failed
pub data Stage : Type 0 where
  in_progress : Stage
  fully_read : Stage
  faulted : Stage

-- the reading of one file: its name, the bytes that were read so far, and its state
pub record Reading : Type 0 where
  pub name : List ℕ
  pub bytes : List ℕ
  pub stage : Stage

abbrev pub reading : List ℕ → List ℕ → Stage → Reading
reading name bytes stage = record { name = name; bytes = bytes; stage = stage }

-- the reading of a file that was opened, with no bytes yet
abbrev pub started : List ℕ → Reading
started name = reading name [] in_progress

-- the reading of a file that could not be opened
abbrev pub unopened : List ℕ → Reading
unopened name = reading name [] faulted

-- the last reading gained these bytes; it has reached the end of the file if there are none
abbrev pub with_bytes : List ℕ → List Reading → List Reading
with_bytes bytes [] = []
with_bytes bytes (last ∷ before) =
    let stage = if length bytes == 0 then fully_read else last.stage in
    reading last.name (last.bytes ++ bytes) stage ∷ before

-- the last reading failed
abbrev pub with_fault : List Reading → List Reading
with_fault [] = []
with_fault (last ∷ before) = reading last.name last.bytes faulted ∷ before

-- the readings of a list of events; both lists have the last one first
abbrev pub readings : List Event → List Reading
readings [] = []
readings (opened name ∷ before) = started name ∷ readings before
readings (open_failed name ∷ before) = unopened name ∷ readings before
readings (gave bytes ∷ before) = with_bytes bytes (readings before)
readings (read_failed ∷ before) = with_fault (readings before)
readings (took bytes ∷ before) = readings before
readings (refused ∷ before) = readings before

-- a prefix of the contents was read, all of them if the end was reached
-- a missing file gives no bytes and a failure
abbrev pub IsOfContents : Reading → Option (List ℕ) → Type 0
IsOfContents r None = (r.bytes ≡ []) × (r.stage ≡ faulted)
IsOfContents r (Some contents) =
    StartsWith contents r.bytes × (r.stage ≡ fully_read → contents ≡ r.bytes)

-- the reading is possible for these files
abbrev pub IsOf : Files → Reading → Type 0
IsOf files r = IsOfContents r (file_of files r.name)

-- the files at the first reading, at the second reading, and so on
abbrev pub World : Type 0
World = ℕ → Files

-- the world from its second reading on
abbrev pub later : World → World
later world n = world (suc n)

-- the readings are possible in this world; the list has the last one first
abbrev pub AreOf : World → List Reading → Type 0
AreOf world [] = Unit {0}
AreOf world (last ∷ before) = IsOf (world (length before)) last × AreOf world before

-- the readings that were added to the old ones
abbrev pub since : (old new : List Reading) → List Reading
since old new = take (length new - length old) new

-- all readings that were added are possible for the files, if these are known
abbrev pub AreOfKnown : Option Files → (old new : List Reading) → Type 0
AreOfKnown files old new = IfSome files (λ known. All (IsOf known) (since old new))

-- a read made the last reading gain the returned bytes, or fail
-- nothing is said of a read into an empty buffer that returned 0
abbrev pub ReadGains : {E : Type 0} → (old new : List Reading) → Result ℕ E → List ℕ → Type 0
ReadGains old new result buf =
    MatchResult result (λ n. 0 < length buf → new ≡ with_bytes (take n buf) old)
    (λ _. new ≡ with_fault old)

-- the file of this name was read up to its end
abbrev pub ReadsWhole : (old new : List Reading) → (name bytes : List ℕ) → Type 0
ReadsWhole old new name bytes = new ≡ reading name bytes fully_read ∷ old

-- more bytes than the limit were read
abbrev pub Exceeds : (old new : List Reading) → List ℕ → ℕ → Type 0
Exceeds old new name limit =
    (bytes : List ℕ) × (new ≡ reading name bytes in_progress ∷ old) × (limit < length bytes)

-- the file of this name could not be opened, or a read of it failed
abbrev pub ReadFails : (old new : List Reading) → List ℕ → Type 0
ReadFails old new name = (bytes : List ℕ) × (new ≡ reading name bytes faulted ∷ old)

-- nothing was read, or the reading of this name is in progress
abbrev pub ReadsPart : (old new : List Reading) → List ℕ → Type 0
ReadsPart old new name =
    (new ≡ old) ⊎ ((bytes : List ℕ) × (new ≡ reading name bytes in_progress ∷ old))
