-- Readings that follow one another, and a world in which they are possible.
use Rattle.mu_io.proofs.Common
use Common.{[], ℕ, ◌++◌, ◌-◌, ◌<◌, ◌∙◌, ◌∷◌, ◌≡◌, ◌≤◌, ap, append_assoc, arith, Bool, bytes_eq}
use Common.{bytes_eq-Decides, bytes_left, Consumes, drop, false, file_of, Files, in_progress}
use Common.{IsAtEnd, length, List, None, Option, option_map, reading, refl, Some, subst, suc, sym}
use Common.{take, true}
use Rattle.std.proofs.Common.{◌==◌, if◌then◌else◌, length-append, append-nil}
use Rattle.std.specs.Prelude.{All, IfSome, IsSome}
use Rattle.std.proofs.lemmas.List.Elements.{All-nil, All-cons, All-head, All-tail}
use Rattle.std.specs.Io.{StartsWith}
use Rattle.std.proofs.lemmas.List.{take_at, take_all, length-take-le}
use Rattle.std.specs.Cmp.{unsigned_Decides}
use Rattle.mu_io.specs.Readings.{Reading, fully_read, World, later, IsOf, IsOfContents, AreOf}
use Rattle.mu_io.specs.Readings.{AreOfKnown, since, with_bytes}

-- the readings after the old ones are those that were put before them
pub since-append : (rs old : List Reading) → since old (rs ++ old) ≡ rs
since-append rs old =
    take_at rs old (length (rs ++ old) - length old)
    (let l = length-append rs old in omega (arith, l))

pub since_is : (rs old new : List Reading) → new ≡ rs ++ old → since old new ≡ rs
since_is rs old new e = ap (since old) e ∙ since-append rs old

pub count_last : (rs : List Reading) (first : Reading) → length (rs ++ first ∷ []) ≡ suc (length rs)
count_last rs first = let l = length-append rs (first ∷ []) in omega (arith, l)

-- the first reading is possible at the start of the world, and the others in the world after it
pub AreOf-split : (world : World) (rs : List Reading) (first : Reading)
    → AreOf world (rs ++ first ∷ []) → IsOf (world 0) first × AreOf (later world) rs
AreOf-split world [] first may = (may.0, tt)
AreOf-split world (last ∷ rs) first may =
    let below = AreOf-split world rs first may.1 in
    let here : IsOf (world (suc (length rs))) last =
    subst (λ (n : ℕ). IsOf (world n) last) (count_last rs first) may.0 in
    (below.0, (here, below.1))

pub AreOf-join : (world : World) (rs : List Reading) (first : Reading) → IsOf (world 0) first
    → AreOf (later world) rs → AreOf world (rs ++ first ∷ [])
AreOf-join world [] first here may = (here, tt)
AreOf-join world (last ∷ rs) first here may = (
  subst (λ (n : ℕ). IsOf (world n) last) (sym (count_last rs first)) may.0,
  AreOf-join world rs first here may.1,
)

-- readings that are possible for these files are possible in the world that always has them
pub AreOf-steady : (files : Files) (rs : List Reading) → All (IsOf files) rs → AreOf (λ _. files) rs
AreOf-steady files [] each = tt
AreOf-steady files (last ∷ before) each = (
  All-head (IsOf files) last before each,
  AreOf-steady files before (All-tail (IsOf files) last before each),
)

-- readings stay possible in a world that has the same files at them
AreOf-same : (w v : World) (rs : List Reading) → ((n : ℕ) → n < length rs → w n ≡ v n) → AreOf v rs
    → AreOf w rs
AreOf-same w v [] same may = tt
AreOf-same w v (last ∷ before) same may = (
  subst (λ (files : Files). IsOf files last) (sym (same (length before) (omega arith))) may.0,
  AreOf-same w v before (λ n h. same n (omega (arith, h))) may.1,
)

-- the world in which each file has the bytes of its reading
abbrev pub found_in : List Reading → World
found_in [] n = []
found_in (last ∷ before) n =
    if n == length before then (last.name, last.bytes) ∷ [] else found_in before n

bytes_eq_same : (xs : List ℕ) → bytes_eq xs xs ≡ true
bytes_eq_same xs = (bytes_eq-Decides xs xs).1 refl

found_alone : (r : Reading) → IsOf ((r.name, r.bytes) ∷ []) r
found_alone r =
    let found : file_of ((r.name, r.bytes) ∷ []) r.name ≡ Some r.bytes =
    rw (bytes_eq_same r.name) refl in
    rw found (take_all (length r.bytes) r.bytes (omega arith), λ e. refl)

-- any readings are possible in some world
pub AreOf-found_in : (rs : List Reading) → AreOf (found_in rs) rs
AreOf-found_in [] = tt
AreOf-found_in (last ∷ before) =
    let here : (length before == length before) ≡ true = grind arith in
    let same : (n : ℕ) → n < length before → found_in (last ∷ before) n ≡ found_in before n =
    λ n h. let other : (n == length before) ≡ false = grind (arith, h) in rw other refl in (
      rw here (found_alone last),
      AreOf-same (found_in (last ∷ before)) (found_in before) before same (AreOf-found_in before),
    )

-- ---- readings of files that are known

-- one reading was added, and it is possible for the files if they are known
pub added : (files : Option Files) (r : Reading) (old new : List Reading) → new ≡ r ∷ old
    → IfSome files (λ fs. IsOf fs r) → AreOfKnown files old new
added None r old new e is = tt
added (Some fs) r old new e is =
    let one : since old new ≡ r ∷ [] = since_is (r ∷ []) old new e in
    rw one (All-cons (IsOf fs) r [] is (All-nil (IsOf fs)))

front_of : (contents bytes rest : List ℕ) → contents ≡ bytes ++ rest → StartsWith contents bytes
front_of contents bytes rest e = rw e (take_at bytes rest (length bytes) refl)

stage_is : (b : Bool) {c : Bool} → c ≡ b → (P : Type 0)
    → (if c then fully_read else in_progress) ≡ fully_read → (c ≡ true → P) → P
stage_is true e P is at_end = at_end e
stage_is false e P is at_end = let not : in_progress ≡ fully_read = rw e at is in cc not

ended : (bytes more rest : List ℕ) → rest ≡ [] → (bytes ++ more) ++ rest ≡ bytes ++ more
ended bytes more rest e = ap (λ l. (bytes ++ more) ++ l) e ∙ append-nil (bytes ++ more)

-- one read more
abbrev pub longer : (name bytes more : List ℕ) → Reading
longer name bytes more =
    reading name (bytes ++ more) (if length more == 0 then fully_read else in_progress)

grown : (name bytes more : List ℕ) (contents mid left : Option (List ℕ)) → IsSome contents
    → Consumes (option_map (λ b. drop 0 b) contents) mid bytes → Consumes mid left more
    → (length more ≡ 0 → IsAtEnd left) → IsOfContents (longer name bytes more) contents
grown name bytes more None mid left there before now end = cc
grown name bytes more (Some contents) None left there before now end = absurd before
grown name bytes more (Some contents) (Some rest) None there before now end = absurd now
grown name bytes more (Some contents) (Some rest) (Some left) there before now end =
    let all : contents ≡ (bytes ++ more) ++ left =
    before ∙ ap (λ l. bytes ++ l) now ∙ sym (append_assoc bytes more left) in (
      front_of contents (bytes ++ more) left all,
      λ stage. stage_is (length more == 0) refl (contents ≡ bytes ++ more) stage
          (λ zero_is. let none = (unsigned_Decides (length more) 0).0 zero_is in
          all ∙ ended bytes more left (end none)),
    )

abbrev pub IsThere : Option Files → List ℕ → Type 0
IsThere files name = IfSome files (λ fs. IsSome (file_of fs name))

gained : (files : Option Files) (name bytes more : List ℕ) (mid left : Option (List ℕ))
    → IsThere files name → Consumes (bytes_left files (Some (name, 0))) mid bytes
    → Consumes mid left more
    → (length more ≡ 0 → IsAtEnd left) → IfSome files (λ fs. IsOf fs (longer name bytes more))
gained None name bytes more mid left there before now end = tt
gained (Some fs) name bytes more mid left there before now end =
    grown name bytes more (file_of fs name) mid left there before now end

-- a read returned n bytes
pub added_read : (files : Option Files) (name bytes buf : List ℕ) (n : ℕ) (mid left : Option (List ℕ))
    (old now new : List Reading)
    → IsThere files name
    → Consumes (bytes_left files (Some (name, 0))) mid bytes
    → Consumes mid left (take n buf) × (n ≡ 0 → 0 < length buf → IsAtEnd left)
    → n ≤ length buf → 0 < length buf
    → now ≡ reading name bytes in_progress ∷ old → new ≡ with_bytes (take n buf) now → AreOfKnown files old new
added_read files name bytes buf n mid left old now new there before read bound room was e =
    let count : length (take n buf) ≡ n = length-take-le n buf bound in
    added files (longer name bytes (take n buf)) old new (e ∙ ap (with_bytes (take n buf)) was)
    (gained files name bytes (take n buf) mid left there before read.0
    (λ none. read.1 (sym count ∙ none) room))
