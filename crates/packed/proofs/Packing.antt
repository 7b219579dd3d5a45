-- Lemmas on bits in bytes: reads, counts and writes.
use Rattle.std.proofs.Common.{◌≡◌, ℕ, zero, suc, ◌+◌, ◌-◌, ◌*◌, ◌/◌, ◌%◌, ◌^◌, ◌<◌, ◌≤◌, min, Bool, true, false, eqb, List, [], ◌∷◌, ◌++◌, length, get_or, take, set, replicate, Some, sym, refl, ap, ◌∙◌, subst, ap₂, mul_assoc, div-one, add-one, one-add, arith}
use lib.Count as count
use Rattle.std.specs.Int.{from_bool}
use Rattle.std.specs.List.{slice_get}
use Rattle.std.proofs.lemmas.Nat.{shr-shr, shr_below, shr_le, shl_whole, pow-add}
use Rattle.std.proofs.lemmas.List.{take-append-le, take_at, append_assoc, append-nil, replicate_more, length_push, length-take, take-take, take_all}
use Rattle.bits.specs.Bits.{one, ones, rank_of}
use Rattle.bits.proofs.Bitlists.{ones_append, nth_take}
use Rattle.packed.specs.Packed.{bits_of, all_bits, packed, put_bit, PutBitLaw}

abbrev bit : ℕ → Bool
bit n = eqb (n % 2) 1

pub length_all : (bytes : List ℕ) → length (all_bits bytes) ≡ 8 * length bytes
length_all [] = refl
length_all (b ∷ bs) = omega (arith, length_all bs)

-- ---- reads

pub nth_bits_of : (k n r : ℕ) → r < k → slice_get (bits_of k n) r ≡ Some (bit (n / 2 ^ (k - 1 - r)))
nth_bits_of zero n r h = absurd (omega arith)
nth_bits_of (suc k) n zero h = ap (λ j. Some (bit (n / 2 ^ j))) (let e : k ≡ suc k - 1 - 0 = omega arith in e)
nth_bits_of (suc k) n (suc r) h =
    nth_bits_of k n r (omega arith) ∙ ap (λ j. Some (bit (n / 2 ^ j))) (let e : k - 1 - r ≡ suc k - 1 - suc r = omega arith in e)

nth_left : {X : Type 0} (xs ys : List X) (i : ℕ) → i < length xs → slice_get (xs ++ ys) i ≡ slice_get xs i
nth_left [] ys i h = absurd (omega arith)
nth_left (x ∷ xs) ys zero h = refl
nth_left (x ∷ xs) ys (suc i) h = nth_left xs ys i (omega arith)

nth_right : {X : Type 0} (xs ys : List X) (i : ℕ) → slice_get (xs ++ ys) (length xs + i) ≡ slice_get ys i
nth_right [] ys i = ap (λ k. slice_get ys k) (let e : 0 + i ≡ i = omega arith in e)
nth_right (x ∷ xs) ys i = ap (λ k. slice_get (x ∷ (xs ++ ys)) k) (let e : suc (length xs) + i ≡ suc (length xs + i) = omega arith in e) ∙ nth_right xs ys i

take_past : {X : Type 0} (xs ys : List X) (m : ℕ) → take (length xs + m) (xs ++ ys) ≡ xs ++ take m ys
take_past [] ys m = ap (λ k. take k ys) (let e : 0 + m ≡ m = omega arith in e)
take_past (x ∷ xs) ys m =
    ap (λ k. take k (x ∷ (xs ++ ys))) (let e : suc (length xs) + m ≡ suc (length xs + m) = omega arith in e) ∙ ap (λ l. x ∷ l) (take_past xs ys m)

pub nth_all : (bytes : List ℕ) (q r : ℕ) → q < length bytes → r < 8 → slice_get (all_bits bytes) (8 * q + r) ≡ slice_get (bits_of 8 (get_or bytes q 0)) r
nth_all [] q r h l = absurd (omega arith)
nth_all (b ∷ bs) zero r h l =
    ap (λ k. slice_get (all_bits (b ∷ bs)) k) (let e : 8 * 0 + r ≡ r = omega arith in e) ∙ nth_left (bits_of 8 b) (all_bits bs) r l
nth_all (b ∷ bs) (suc q) r h l =
    ap (λ k. slice_get (all_bits (b ∷ bs)) k) (let e : 8 * suc q + r ≡ 8 + (8 * q + r) = omega arith in e)
    ∙ nth_right (bits_of 8 b) (all_bits bs) (8 * q + r)
    ∙ nth_all bs q r (omega arith) l

-- ---- the highest bits of a number

pub bits_push : (r n : ℕ) → bits_of (suc r) n ≡ bits_of r (n / 2) ++ bit n ∷ []
bits_push zero n = ap (λ m. bit m ∷ []) (div-one n)
bits_push (suc r) n =
    ap₂ ◌∷◌ (ap bit (sym (shr-shr n 1 r ∙ ap (λ j. n / 2 ^ j) (one-add r)))) (bits_push r n)

pub take_bits : (r k n : ℕ) → r ≤ k → take r (bits_of k n) ≡ bits_of r (n / 2 ^ (k - r))
take_bits zero k n h = refl
take_bits (suc r) zero n h = absurd (omega arith)
take_bits (suc r) (suc k) n h =
    let e : k - r + r ≡ k = omega arith in
    let d : k - r ≡ suc k - suc r = omega arith in
    ap₂ ◌∷◌ (ap bit (sym (shr-shr n (k - r) r ∙ ap (λ j. n / 2 ^ j) e))) (take_bits r k n (omega arith))
    ∙ ap (λ j. bits_of (suc r) (n / 2 ^ j)) d

-- ---- counts

one_bit : (m : ℕ) → m < 2 → one (eqb m 1) ≡ m
one_bit zero h = refl
one_bit (suc zero) h = refl
one_bit (suc (suc m)) h = absurd (omega arith)

no_ones : count.ones 0 ≡ 0
unfolding count.ones count.ones_in
no_ones = refl

ones_push : (xs : List Bool) (b : Bool) → ones (xs ++ b ∷ []) ≡ ones xs + one b
ones_push xs true = ones_append xs (true ∷ [])
ones_push xs false = ones_append xs (false ∷ [])

pub ones_bits : (r n : ℕ) → n < 2 ^ r → ones (bits_of r n) ≡ count.ones n
ones_bits zero n h = sym (ap count.ones (let e : n ≡ 0 = omega arith in e) ∙ no_ones)
ones_bits (suc r) n h =
    let a = ap ones (bits_push r n) ∙ ones_push (bits_of r (n / 2)) (bit n) in
    let i = ones_bits r (n / 2) (shr_below n r 1 (rw add-one h)) in
    a ∙ omega (arith, i, one_bit (n % 2) (omega arith), count.ones_step n)

-- the set bits among the r highest of a byte
pub rank_byte : (b r : ℕ) → b < 256 → r ≤ 8 → rank_of (bits_of 8 b) r ≡ count.ones (b / 2 ^ (8 - r))
rank_byte b r h l =
    let e : 8 ≡ r + (8 - r) = omega arith in
    let k : b < 2 ^ (r + (8 - r)) = subst (λ (x : ℕ). b < 2 ^ x) e h in
    ap ones (take_bits r 8 b l) ∙ ones_bits r (b / 2 ^ (8 - r)) (shr_below b r (8 - r) k)

rank_append : (xs ys : List Bool) (m : ℕ) → rank_of (xs ++ ys) (length xs + m) ≡ ones xs + rank_of ys m
rank_append xs ys m = ap ones (take_past xs ys m) ∙ ones_append xs (take m ys)

-- the set bits up to a place in the byte at q
pub rank_all : (bytes : List ℕ) (q r : ℕ) → q < length bytes → r ≤ 8 → rank_of (all_bits bytes) (8 * q + r) ≡ rank_of (all_bits bytes) (8 * q) + rank_of (bits_of 8 (get_or bytes q 0)) r
rank_all [] q r h l = absurd (omega arith)
rank_all (b ∷ bs) zero r h l =
    ap (λ k. rank_of (all_bits (b ∷ bs)) k) (let e : 8 * 0 + r ≡ r = omega arith in e)
    ∙ ap ones (take-append-le r (bits_of 8 b) (all_bits bs) l)
    ∙ (let e : rank_of (bits_of 8 b) r ≡ 0 + rank_of (bits_of 8 b) r = omega arith in e)
rank_all (b ∷ bs) (suc q) r h l =
    let x = bits_of 8 b in
    let e : 8 * suc q + r ≡ 8 + (8 * q + r) = omega arith in
    let f : 8 * suc q ≡ 8 + 8 * q = omega arith in
    let i = rank_all bs q r (omega arith) l in
    let m = ap (λ k. rank_of (all_bits (b ∷ bs)) k) e ∙ rank_append x (all_bits bs) (8 * q + r) in
    let n = ap (λ k. rank_of (all_bits (b ∷ bs)) k) f ∙ rank_append x (all_bits bs) (8 * q) in
    omega (arith, i, m, n)

-- one byte more
pub rank_whole : (bytes : List ℕ) (i : ℕ) → i < length bytes → get_or bytes i 0 < 256 → rank_of (all_bits bytes) (8 * (i + 1)) ≡ rank_of (all_bits bytes) (8 * i) + count.ones (get_or bytes i 0)
rank_whole bytes i h l =
    let b = get_or bytes i 0 in
    let e : 8 * (i + 1) ≡ 8 * i + 8 = omega arith in
    let w = rank_byte b 8 l (omega arith) ∙ ap count.ones (div-one b) in
    ap (λ k. rank_of (all_bits bytes) k) e ∙ rank_all bytes i 8 h (omega arith) ∙ ap (λ n. rank_of (all_bits bytes) (8 * i) + n) w

-- a part of a byte more
pub rank_part : (bytes : List ℕ) (n : ℕ) → n / 8 < length bytes → get_or bytes (n / 8) 0 < 256 → rank_of (all_bits bytes) n ≡ rank_of (all_bits bytes) (8 * (n / 8)) + count.ones (get_or bytes (n / 8) 0 / 2 ^ (8 - n % 8))
rank_part bytes n h l =
    let b = get_or bytes (n / 8) 0 in
    let e : n ≡ 8 * (n / 8) + n % 8 = omega arith in
    let r : n % 8 ≤ 8 = omega arith in
    ap (λ k. rank_of (all_bits bytes) k) e ∙ rank_all bytes (n / 8) (n % 8) h r ∙ ap (λ m. rank_of (all_bits bytes) (8 * (n / 8)) + m) (rank_byte b (n % 8) l r)

pub ones_byte : (b k : ℕ) → b < 256 → count.ones (b / 2 ^ k) ≤ 8
ones_byte b k h = count.ones-le 8 (b / 2 ^ k) (omega (arith, shr_le b k))

pub ones_whole : (b : ℕ) → b < 256 → count.ones b ≤ 8
ones_whole b h = count.ones-le 8 b h

pub length_packed : (bytes : List ℕ) (n : ℕ) → length (packed bytes n) ≡ min (min n 32768) (8 * length bytes)
length_packed bytes n = length-take (min n 32768) (all_bits bytes) ∙ ap (λ k. min (min n 32768) k) (length_all bytes)

-- a bit within
pub nth_packed : (bytes : List ℕ) (n p : ℕ) → p < min n 32768 → slice_get (packed bytes n) p ≡ slice_get (all_bits bytes) p
nth_packed bytes n p h = nth_take (min n 32768) (all_bits bytes) p h

pub rank_packed : (bytes : List ℕ) (n p : ℕ) → p ≤ min n 32768 → rank_of (packed bytes n) p ≡ rank_of (all_bits bytes) p
rank_packed bytes n p h = ap ones (take-take p (min n 32768) (all_bits bytes) h)

-- ---- writes

-- a bit as a byte
pub bit_byte : (b : Bool) → from_bool b ≡ one b
bit_byte true = refl
bit_byte false = refl

one_le : (c : Bool) → one c ≤ 1
one_le true = omega arith
one_le false = omega arith

set_bits : (r x : ℕ) (c : Bool) → r < 8 → bits_of (suc r) (x * 2 + one c) ≡ bits_of r x ++ c ∷ []
set_bits r x true h =
    let a : (x * 2 + 1) / 2 ≡ x = omega arith in
    let b : (x * 2 + 1) % 2 ≡ 1 = omega arith in
    bits_push r (x * 2 + 1) ∙ ap₂ (λ m k. bits_of r m ++ eqb k 1 ∷ []) a b
set_bits r x false h =
    let a : (x * 2 + 0) / 2 ≡ x = omega arith in
    let b : (x * 2 + 0) % 2 ≡ 0 = omega arith in
    bits_push r (x * 2 + 0) ∙ ap₂ (λ m k. bits_of r m ++ eqb k 1 ∷ []) a b

-- a number with k zeros after its bits
bits_zeros : (a k y : ℕ) → bits_of (a + k) (y * 2 ^ k) ≡ bits_of a y ++ replicate k false
bits_zeros a zero y =
    ap₂ (λ m n. bits_of m n) (let e : a + 0 ≡ a = omega arith in e) (let e : y * 2 ^ 0 ≡ y = omega arith in e) ∙ sym (append-nil (bits_of a y))
bits_zeros a (suc k) y =
    let n = y * 2 ^ suc k in
    let m : n ≡ y * 2 ^ k * 2 = ap (λ j. y * j) (ap (λ j. 2 ^ j) (sym (add-one k)) ∙ pow-add 2 k 1) ∙ sym (mul_assoc y (2 ^ k) 2) in
    let h : n / 2 ≡ y * 2 ^ k = omega arith in
    let l : n % 2 ≡ 0 = omega arith in
    ap (λ j. bits_of j n) (let e : a + suc k ≡ suc (a + k) = omega arith in e)
    ∙ bits_push (a + k) n
    ∙ ap₂ (λ x y. bits_of (a + k) x ++ eqb y 1 ∷ []) h l
    ∙ ap (λ x. x ++ false ∷ []) (bits_zeros a k y)
    ∙ append_assoc (bits_of a y) (replicate k false) (false ∷ [])
    ∙ ap (λ x. bits_of a y ++ x) (replicate_more k false ∙ ap (λ j. replicate j false) (add-one k))

-- the bits of a byte into which a bit is put
pub put_law : PutBitLaw
put_law b r c h =
    let x = b / 2 ^ (7 - r) / 2 in
    let e : 8 ≡ suc r + (7 - r) = omega arith in
    let f : 7 - r + 1 ≡ 8 - r = omega arith in
    ap (λ j. bits_of j (put_bit b r c)) e
    ∙ bits_zeros (suc r) (7 - r) (x * 2 + one c)
    ∙ ap (λ l. l ++ replicate (7 - r) false) (set_bits r x c h)
    ∙ append_assoc (bits_of r x) (c ∷ []) (replicate (7 - r) false)
    ∙ ap (λ l. l ++ c ∷ replicate (7 - r) false) (ap (λ m. bits_of r m) (shr-shr b (7 - r) 1 ∙ ap (λ j. b / 2 ^ j) f) ∙ sym (take_bits r 8 b (omega arith)))

-- the bytes up to the one into which a bit is put
pub put_whole : (bytes : List ℕ) (q r : ℕ) (c : Bool) → q < length bytes → r < 8 →
    take (8 * (q + 1)) (all_bits (set bytes q (put_bit (get_or bytes q 0) r c))) ≡ take (8 * q + r) (all_bits bytes) ++ c ∷ replicate (7 - r) false
put_whole [] q r c h l = absurd (omega arith)
put_whole (b ∷ bs) zero r c h l =
    let f : r ≡ 8 * 0 + r = omega arith in
    take-append-le 8 (bits_of 8 (put_bit b r c)) (all_bits bs) (omega arith)
    ∙ take_all 8 (bits_of 8 (put_bit b r c)) (omega arith)
    ∙ put_law b r c l
    ∙ ap (λ x. x ++ c ∷ replicate (7 - r) false) (sym (take-append-le r (bits_of 8 b) (all_bits bs) (omega arith)) ∙ ap (λ k. take k (all_bits (b ∷ bs))) f)
put_whole (b ∷ bs) (suc q) r c h l =
    let e : 8 * (suc q + 1) ≡ 8 + 8 * (q + 1) = omega arith in
    let f : 8 + (8 * q + r) ≡ 8 * suc q + r = omega arith in
    let new = set bs q (put_bit (get_or bs q 0) r c) in
    let zeros = c ∷ replicate (7 - r) false in
    ap (λ k. take k (all_bits (b ∷ new))) e
    ∙ take_past (bits_of 8 b) (all_bits new) (8 * (q + 1))
    ∙ ap (λ x. bits_of 8 b ++ x) (put_whole bs q r c (omega arith) l)
    ∙ sym (append_assoc (bits_of 8 b) (take (8 * q + r) (all_bits bs)) zeros)
    ∙ ap (λ x. x ++ zeros) (sym (take_past (bits_of 8 b) (all_bits bs) (8 * q + r)) ∙ ap (λ k. take k (all_bits (b ∷ bs))) f)

-- what `top << low` gives, where nothing is lost
pub put_fits : (b r top : ℕ) (c : Bool) → b < 256 → r < 8 → top ≡ b / 2 ^ (7 - r) / 2 * 2 + one c → (top * 2 ^ (7 - r)) % 256 ≡ put_bit b r c
put_fits b r top c h l e =
    let x = b / 2 ^ (7 - r) / 2 in
    let f : 8 ≡ r + 1 + (7 - r) = omega arith in
    let k : b < 2 ^ (r + 1 + (7 - r)) = subst (λ (m : ℕ). b < 2 ^ m) f h in
    let m : b / 2 ^ (7 - r) < 2 ^ (r + 1) = shr_below b (r + 1) (7 - r) k in
    let n : x < 2 ^ r = shr_below (b / 2 ^ (7 - r)) r 1 m in
    let d : 2 ^ (r + 1) ≡ 2 ^ r * 2 = pow-add 2 r 1 in
    let t : x * 2 + one c < 2 ^ (r + 1) = omega (arith, one_le c) in
    ap (λ y. (y * 2 ^ (7 - r)) % 256) e ∙ shl_whole (x * 2 + one c) (r + 1) (7 - r) 8 t (omega arith)

-- the byte that has the bit at n is full of bits up to it, and then of zeros
pub put_fills : (bytes new : List ℕ) (n : ℕ) (c : Bool) → n < 8 * length bytes → new ≡ set bytes (n / 8) (put_bit (get_or bytes (n / 8) 0) (n % 8) c) → take (8 * (n / 8 + 1)) (all_bits new) ≡ take n (all_bits bytes) ++ c ∷ replicate (7 - n % 8) false
put_fills bytes new n c h e =
    let g : 8 * (n / 8) + n % 8 ≡ n = omega arith in
    ap (λ l. take (8 * (n / 8 + 1)) (all_bits l)) e
    ∙ put_whole bytes (n / 8) (n % 8) c (omega arith) (omega arith)
    ∙ ap (λ k. take k (all_bits bytes) ++ c ∷ replicate (7 - n % 8) false) g

-- one bit more
pub packed_put : (bytes new : List ℕ) (n : ℕ) (c : Bool) → n < 8 * min (length bytes) 4096 → new ≡ set bytes (n / 8) (put_bit (get_or bytes (n / 8) 0) (n % 8) c) → packed new (n + 1) ≡ packed bytes n ++ c ∷ []
packed_put bytes new n c h e =
    let a : min (n + 1) 32768 ≡ n + 1 = omega arith in
    let b : n ≡ min n 32768 = omega arith in
    let x = take n (all_bits bytes) in
    let zeros = replicate (7 - n % 8) false in
    ap (λ k. take k (all_bits new)) a
    ∙ sym (take-take (n + 1) (8 * (n / 8 + 1)) (all_bits new) (omega arith))
    ∙ ap (λ l. take (n + 1) l) (put_fills bytes new n c (omega arith) e ∙ sym (append_assoc x (c ∷ []) zeros))
    ∙ take_at (x ++ c ∷ []) zeros (n + 1) (length_push x c ∙ omega (arith, length-take n (all_bits bytes), length_all bytes))
    ∙ ap (λ k. take k (all_bits bytes) ++ c ∷ []) b
