-- Bits that are packed into bytes, the highest bit of each byte first.
use Rattle.std.specs.Prelude.{◌≡◌, ℕ, zero, suc, ◌+◌, ◌-◌, ◌*◌, ◌/◌, ◌%◌, ◌^◌, ◌<◌, min, Bool, false, List, [], ◌∷◌, ◌++◌, length, take, replicate, Result, ◌==◌, slice_index, slice_set}
use Rattle.bits.specs.Bits.{one}
use Rattle.bits.specs.Punching.{AppendsBy}

-- the k lowest bits of a number, the highest of them first
abbrev pub bits_of : ℕ → ℕ → List Bool
bits_of zero n = []
bits_of (suc k) n = (n / 2 ^ k % 2 == 1) ∷ bits_of k n

-- the bits of bytes, eight a byte
abbrev pub all_bits : List ℕ → List Bool
all_bits [] = []
all_bits (b ∷ bs) = bits_of 8 b ++ all_bits bs

-- the first `count` bits of the bytes, 32,768 at most
abbrev pub packed : List ℕ → ℕ → List Bool
packed bytes count = take (min count 32768) (all_bits bytes)

-- how many bits a packed punch has room for: eight a byte, in 4,096 bytes at most
abbrev pub packed_room : List ℕ → ℕ
packed_room bytes = 8 * min (length bytes) 4096

-- a byte that keeps its r highest bits, then has the bit, then zeros
abbrev pub put_bit : ℕ → ℕ → Bool → ℕ
put_bit byte r bit = (byte / 2 ^ (7 - r) / 2 * 2 + one bit) * 2 ^ (7 - r)

-- that in terms of its eight bits
abbrev pub PutBitLaw : Type 0
PutBitLaw = (byte r : ℕ) (bit : Bool) → r < 8 → bits_of 8 (put_bit byte r bit) ≡ take r (bits_of 8 byte) ++ bit ∷ replicate (7 - r) false

-- bytes into which a bit is put at place n
abbrev pub put_at : List ℕ → ℕ → Bool → List ℕ
put_at bytes n bit = slice_set bytes (n / 8) (put_bit (slice_index bytes (n / 8)) (n % 8) bit)

-- an accepted append puts the bit into one byte; a refused one changes neither the bytes nor their count of bits
abbrev pub Puts : {E : Type 0} → Result (Unit {0}) E → List ℕ → ℕ → Bool → List ℕ → ℕ → Type 0
Puts r bytes n bit bytes' n' = AppendsBy put_at r bytes n bit bytes' n'
