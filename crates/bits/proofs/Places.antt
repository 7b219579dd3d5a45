-- Lemmas on the places of bits, filtered out of a range of numbers: how many they are, and which is the k-th.
use Rattle.std.proofs.Common.{◌≡◌, ℕ, zero, suc, ◌+◌, ◌-◌, ◌<◌, ◌≤◌, Bool, true, false, not, List, [], ◌∷◌, map, length, take, drop, Some, None, Option, sym, refl, ap, ◌∙◌, subst, inr, arith}
use Rattle.std.specs.List.{slice_get, filter, range_with_len}
use Rattle.std.specs.Option.{option_eq, option_map}
use mathlib.Core.Bool.{beq}
use Rattle.std.proofs.lemmas.List.{length-drop, length-map}
use Rattle.bits.specs.Bits.{ones, rank_of, which_are, Select}
use Rattle.bits.proofs.Bitlists.{nth_drop}

-- whether the bit at i is there and is b
abbrev pub is_at : List Bool → Bool → ℕ → Bool
is_at bs b i = option_eq beq (slice_get bs i) (Some b)

pub ones_at : (bs : List Bool) (i : ℕ) → i < length bs → slice_get bs i ≡ Some (is_at bs true i)
ones_at [] i h = absurd (omega arith)
ones_at (true ∷ bs) zero h = refl
ones_at (false ∷ bs) zero h = refl
ones_at (b ∷ bs) (suc i) h = ones_at bs i (omega arith)

pub zeros_at : (bs : List Bool) (i : ℕ) → i < length bs → slice_get (map not bs) i ≡ Some (is_at bs false i)
zeros_at [] i h = absurd (omega arith)
zeros_at (true ∷ bs) zero h = refl
zeros_at (false ∷ bs) zero h = refl
zeros_at (b ∷ bs) (suc i) h = zeros_at bs i (omega arith)

-- the bits that are b, by place
pub those_at : (bs : List Bool) (b : Bool) (i : ℕ) → i < length bs → slice_get (which_are b bs) i ≡ Some (is_at bs b i)
those_at bs true i h = ones_at bs i h
those_at bs false i h = zeros_at bs i h

pub length_those : (bs : List Bool) (b : Bool) → length (which_are b bs) ≡ length bs
length_those bs true = refl
length_those bs false = length-map bs not

-- f tells the first n bits of bs, from number a on
abbrev pub Tells : (ℕ → Bool) → ℕ → ℕ → List Bool → Type 0
Tells f a n bs = (i : ℕ) → i < n → slice_get bs i ≡ Some (f (a + i))

tells_first : (f : ℕ → Bool) (a n : ℕ) (b : Bool) (bs : List Bool) → Tells f a (suc n) (b ∷ bs) → f a ≡ b
tells_first f a n b bs t = let e : Some b ≡ Some (f (a + 0)) = t 0 (omega arith) in let z : a + 0 ≡ a = omega arith in cc

tells_rest : (f : ℕ → Bool) (a n : ℕ) (b : Bool) (bs : List Bool) → Tells f a (suc n) (b ∷ bs) → Tells f (a + 1) n bs
tells_rest f a n b bs t i h = t (suc i) (omega arith) ∙ ap (λ k. Some (f k)) (let e : a + suc i ≡ a + 1 + i = omega arith in e)

-- the k-th number that stays, counted from 0, is the place of the one before which k ones stand
abbrev Kth : List Bool → ℕ → ℕ → Option ℕ → Type 0
Kth bs a k None = ones bs ≤ k
Kth bs a k (Some p) = (q : ℕ) × (p ≡ a + q) × (slice_get bs q ≡ Some true) × (rank_of bs q ≡ k)

filtered_kth : (f : ℕ → Bool) (a : ℕ) (bs : List Bool) (k : ℕ) → Tells f a (length bs) bs → Kth bs a k (slice_get (filter f (range_with_len a (length bs))) k)
filtered_kth f a [] k t = omega arith
filtered_kth f a (true ∷ bs) zero t = rw (tells_first f a (length bs) true bs t) (0, (omega arith), refl, refl)
filtered_kth f a (true ∷ bs) (suc k) t =
    rw (tells_first f a (length bs) true bs t) (
    more (slice_get (filter f (range_with_len (a + 1) (length bs))) k) (filtered_kth f (a + 1) bs k (tells_rest f a (length bs) true bs t)))
  where
    more : (o : Option ℕ) → Kth bs (a + 1) k o → Kth (true ∷ bs) a (suc k) o
    more None h = omega arith
    more (Some p) h = (suc h.0, omega (arith, h.1), h.2, omega (arith, h.3))
filtered_kth f a (false ∷ bs) k t =
    rw (tells_first f a (length bs) false bs t) (
    more (slice_get (filter f (range_with_len (a + 1) (length bs))) k) (filtered_kth f (a + 1) bs k (tells_rest f a (length bs) false bs t)))
  where
    more : (o : Option ℕ) → Kth bs (a + 1) k o → Kth (false ∷ bs) a k o
    more None h = h
    more (Some p) h = (suc h.0, omega (arith, h.1), h.2, h.3)

rank_drop : (bs : List Bool) (a q : ℕ) → rank_of bs (a + q) ≡ rank_of bs a + rank_of (drop a bs) q
rank_drop bs zero q = let e : 0 + q ≡ q = omega arith in rw e (let f : rank_of bs q ≡ 0 + rank_of bs q = omega arith in f)
rank_drop [] (suc a) q = omega (arith, none (suc a + q), none q)
  where
    none : (n : ℕ) → rank_of [] n ≡ 0
    none zero = refl
    none (suc n) = refl
rank_drop (true ∷ bs) (suc a) q = let e : suc a + q ≡ suc (a + q) = omega arith in rw e (omega (arith, rank_drop bs a q))
rank_drop (false ∷ bs) (suc a) q = let e : suc a + q ≡ suc (a + q) = omega arith in rw e (rank_drop bs a q)

ones_drop : (bs : List Bool) (a : ℕ) → ones bs ≡ rank_of bs a + ones (drop a bs)
ones_drop bs zero = let f : ones bs ≡ 0 + ones bs = omega arith in f
ones_drop [] (suc a) = refl
ones_drop (true ∷ bs) (suc a) = omega (arith, ones_drop bs a)
ones_drop (false ∷ bs) (suc a) = ones_drop bs a

-- select by filtering the numbers from a on: the k-th that stays, counted from 0, where j - 1 - k ones stand before a
pub filtered_select : (f : ℕ → Bool) (bs : List Bool) (a n j k : ℕ) (o : Option ℕ) → n ≡ length bs → ((i : ℕ) → i < n → slice_get bs i ≡ Some (f i)) → j ≡ rank_of bs a + k + 1 → option_map (λ x. x) o ≡ slice_get (filter f (range_with_len a (n - a))) k → Select bs j o
filtered_select f bs a n j k o l t e h = read o (h ∙ ap (λ m. slice_get (filter f (range_with_len a m)) k) w)
  where
    rest : List Bool
    rest = drop a bs

    w : n - a ≡ length rest
    w = omega (arith, l, length-drop a bs)

    all : Kth rest a k (slice_get (filter f (range_with_len a (length rest))) k)
    all = filtered_kth f a rest k (λ i m. nth_drop a bs i ∙ t (a + i) (omega (arith, w)))

    read : (o : Option ℕ) → option_map (λ x. x) o ≡ slice_get (filter f (range_with_len a (length rest))) k → Select bs j o
    read None g =
        let m : Kth rest a k None = subst (λ (q : Option ℕ). Kth rest a k q) (sym g) all in
        inr (omega (arith, m, ones_drop bs a))
    read (Some p) g =
        let m : Kth rest a k (Some p) = subst (λ (q : Option ℕ). Kth rest a k q) (sym g) all in
        rw m.1 (sym (nth_drop a bs m.0) ∙ m.2, omega (arith, rank_drop bs a m.0, m.3))
