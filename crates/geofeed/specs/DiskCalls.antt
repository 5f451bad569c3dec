-- What a put does with the names of a folder and its one new file, call by call.
use Rattle.std.specs.Prelude.{◌≡◌, ℕ, List, [], ◌∷◌, ◌++◌, Option, None, Some}

pub data DiskCall : Type 0 where
  looked : (name : List ℕ) → (mode : Option ℕ) → DiskCall
  made : (name : List ℕ) → (mode : ℕ) → DiskCall
  filled : (bytes : List ℕ) → DiskCall
  mode_set : (mode : ℕ) → DiskCall
  synced : DiskCall
  renamed : (old new : List ℕ) → DiskCall
  removed : (name : List ℕ) → DiskCall

-- what is told is longer by these calls
abbrev pub Adds : (old new : Option (List DiskCall)) → List DiskCall → Type 0
Adds old new calls = (before : List DiskCall) → old ≡ Some before → new ≡ Some (before ++ calls)

-- the mode that a new file is made with: its owner's alone where it replaces a file
-- with a mode, else the usual one
abbrev pub first_mode : Option ℕ → ℕ
first_mode None = 0o666
first_mode (Some mode) = 0o600

-- the mode of the file that is replaced is set at the end
abbrev pub last_mode : Option ℕ → List DiskCall
last_mode None = []
last_mode (Some mode) = mode_set mode ∷ []

-- what is done to a new file before it takes its name
abbrev pub preparing : Option ℕ → List ℕ → List DiskCall
preparing mode bytes = filled bytes ∷ (last_mode mode ++ synced ∷ [])

-- these calls are the first of those
abbrev pub IsFront : List DiskCall → List DiskCall → Type 0
IsFront part all = (rest : List DiskCall) × (part ++ rest ≡ all)

-- a whole put: the new file has all its bytes, its last mode and stands on
-- the disk before it takes the name
abbrev pub replacing : (name bytes : List ℕ) → Option ℕ → (new : List ℕ) → List DiskCall
replacing name bytes mode new =
    looked name mode ∷ made new (first_mode mode) ∷ (preparing mode bytes ++ renamed new name ∷ [])

-- a put that came to nothing: the new file did not take the name,
-- and where it was made it was removed at last
pub data IsUndone (name bytes : List ℕ) : List DiskCall → Type 0 where
  none_done : IsUndone name bytes []
  only_looked : (mode : Option ℕ) → IsUndone name bytes (looked name mode ∷ [])
  given_up : (mode : Option ℕ)
      → (new : List ℕ) → (part : List DiskCall) → IsFront part (preparing mode bytes)
      → IsUndone name bytes
      (looked name mode ∷ made new (first_mode mode) ∷ (part ++ removed new ∷ []))
