-- What is printed of a sheet.
use Rattle.std.specs.Prelude.{◌≡◌, ℕ, ◌+◌, ◌/◌, ◌%◌, Bool, true, false, cond, ◌⊎◌, List, [], ◌∷◌, ◌++◌, length, take, replicate, codes, decimal, nat_lt}
use Rattle.std.specs.List.{flat_map}
use Rattle.bits.specs.Bits.{ones, lettered}
use Rattle.packing.specs.Packs.{bytes_for, PackedInto}
use Rattle.packing.specs.Texts.{trimmed, LetteredSheet, Faulty, text_of_fault}
use Rattle.packing.specs.declared.letters.LetterFault.{LetterFault}

-- a hexadecimal digit: 0 to 9, A to F
abbrev pub hex_letter : ℕ → ℕ
hex_letter n = cond (nat_lt n 10) (48 + n) (55 + n)

-- a byte as a space and two digits
abbrev pub hex_byte : ℕ → List ℕ
hex_byte b = 32 ∷ hex_letter (b / 16) ∷ hex_letter (b % 16) ∷ []

-- are the letters that were read back the same?
abbrev pub verdict_text : Bool → List ℕ
verdict_text true = codes "the same"
verdict_text false = codes "not the same"

-- the lines on a packed sheet: how many bits, ones and bytes, the bytes' digits, and the verdict on reading back
abbrev pub text_of_sizes : ℕ → ℕ → ℕ → List ℕ → Bool → List ℕ
text_of_sizes bits ones bytes digits same =
    codes "Bits in the sheet: " ++ decimal bits
    ++ codes "\nOnes among them: " ++ decimal ones
    ++ codes "\nBytes to load: " ++ decimal bytes
    ++ codes "\nIn hexadecimal:" ++ digits
    ++ codes "\nRead back from these bytes, the letters are " ++ verdict_text same ++ codes ".\n"

-- what is printed of bits and the bytes that hold them
abbrev pub load_text : List Bool → List ℕ → List ℕ
load_text bits bytes =
    text_of_sizes (length bits) (ones bits) (bytes_for (length bits)) (flat_map hex_byte (take (bytes_for (length bits)) bytes)) true

-- the bits are packed into 4,096 bytes, zeros at first, and that is printed
abbrev pub Loaded : List Bool → List ℕ → Type 0
Loaded bits out = (bytes : List ℕ) × (PackedInto bits (length bits) (replicate 4096 0) bytes × (out ≡ load_text bits bytes))

-- a sheet is packed; of any other text the fault is printed
abbrev pub Reported : List ℕ → List ℕ → Type 0
Reported input out =
    (LetteredSheet (trimmed input) × Loaded (lettered (trimmed input)) out)
    ⊎ ((e : LetterFault) × (Faulty (trimmed input) e × (out ≡ text_of_fault e)))
