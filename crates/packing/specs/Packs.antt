-- Bits packed into bytes: what every byte then holds.
use Rattle.std.specs.Prelude.{◌≡◌, ℕ, ◌+◌, ◌-◌, ◌*◌, ◌/◌, Bool, false, List, ◌++◌, length, take, drop, replicate}
use Rattle.packed.specs.Packed.{all_bits, packed}

-- how many bytes hold n bits
abbrev pub bytes_for : ℕ → ℕ
bytes_for n = (n + 7) / 8

-- n bits stand in the bytes: a packed tape of n bits has them, zeros fill the last byte, and the bytes after it remain
pub record PackedInto (bits : List Bool) (n : ℕ) (before after : List ℕ) : Type 0 where
  pub count : n ≡ length bits
  pub tape : packed after n ≡ bits
  pub filled : take (8 * bytes_for n) (all_bits after) ≡ bits ++ replicate (8 * bytes_for n - n) false
  pub rest : drop (bytes_for n) after ≡ drop (bytes_for n) before
