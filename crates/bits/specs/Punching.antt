-- What a punch does to its bits and to its bytes.
use Rattle.std.specs.Prelude.{◌≡◌, ℕ, ◌+◌, min, Bool, true, false, List, [], ◌∷◌, ◌++◌, length, take, Ok, Err, Result, ◌≢◌, slice_set}
use Rattle.bits.specs.Bits.{lettered}

-- an append is refused exactly when the capacity is reached, and then the bits remain
abbrev pub Appends : {E : Type 0} → Result (Unit {0}) E → ℕ → List Bool → List Bool → Bool → Type 0
Appends (Ok u) room before after bit = (length before ≢ room) × (after ≡ before ++ bit ∷ [])
Appends (Err e) room before after bit = (length before ≡ room) × (after ≡ before)

-- the letter of a bit: `(` for 1 and `)` for 0
abbrev pub letter : Bool → ℕ
letter true = 40
letter false = 41

-- bytes into which a bit's letter is put at place n
abbrev pub put_letter : List ℕ → ℕ → Bool → List ℕ
put_letter text n bit = slice_set text n (letter bit)

-- an accepted append puts a bit behind those in the bytes; a refused one changes neither the bytes nor their count of bits
abbrev pub AppendsBy : {E : Type 0} → (List ℕ → ℕ → Bool → List ℕ) → Result (Unit {0}) E → List ℕ → ℕ → Bool → List ℕ → ℕ → Type 0
AppendsBy put (Ok u) bytes n bit bytes' n' = (bytes' ≡ put bytes n bit) × (n' ≡ n + 1)
AppendsBy put (Err e) bytes n bit bytes' n' = (bytes' ≡ bytes) × (n' ≡ n)

-- an accepted append sets one byte to the bit's letter; a refused one changes neither the bytes nor their count
abbrev pub Lettered : {E : Type 0} → Result (Unit {0}) E → List ℕ → ℕ → Bool → List ℕ → ℕ → Type 0
Lettered r text n bit text' n' = AppendsBy put_letter r text n bit text' n'

-- what a lettered punch has written: the first n letters of its text
abbrev pub letters : List ℕ → ℕ → List Bool
letters text n = lettered (take n text)

-- how many bits a lettered punch has room for: one a byte, 32,768 at most
abbrev pub letter_room : List ℕ → ℕ
letter_room text = min (length text) 32768
