-- Lemmas on lists of bits: rank step by step, flipped and windowed lists, select.
use Rattle.std.proofs.Common.{◌≡◌, ℕ, zero, suc, ◌+◌, ◌-◌, ◌<◌, ◌≤◌, min, Bool, true, false, not, List, [], ◌∷◌, ◌++◌, map, length, take, drop, Some, None, Decides, Option, unwrap_or, sym, refl, ap, ◌∙◌, subst, ⊎_elim, add-one, arith}
use Rattle.std.specs.List.{slice_get}
use Rattle.std.specs.Option.{option_map, option_eq}
use Rattle.std.proofs.lemmas.List.{take_all, take-take, length-take, length-drop, length-map}
use Rattle.std.proofs.lemmas.Bool.{cases_lt}
use Rattle.std.proofs.lemmas.Bool.Decides.{Decides-like}
use Rattle.bits.specs.Laws.{Agrees}
use Rattle.bits.specs.Bits.{one, ones, rank_of, Select}

-- is the bit at i there and set?
abbrev pub set_at : List Bool → ℕ → Bool
set_at bs i = unwrap_or (slice_get bs i) false

pub ones_append : (xs ys : List Bool) → ones (xs ++ ys) ≡ ones xs + ones ys
ones_append [] ys = omega arith
ones_append (true ∷ xs) ys = omega (arith, ones_append xs ys)
ones_append (false ∷ xs) ys = omega (arith, ones_append xs ys)

pub rank_suc : (bs : List Bool) (i : ℕ) → rank_of bs (suc i) ≡ rank_of bs i + one (set_at bs i)
rank_suc [] zero = refl
rank_suc [] (suc i) = refl
rank_suc (true ∷ bs) zero = refl
rank_suc (false ∷ bs) zero = refl
rank_suc (true ∷ bs) (suc i) = omega (arith, rank_suc bs i)
rank_suc (false ∷ bs) (suc i) = omega (arith, rank_suc bs i)

-- one bit more
pub rank_more : (bs : List Bool) (i : ℕ) (b : Bool) → b ≡ set_at bs i → rank_of bs (i + 1) ≡ rank_of bs i + one b
rank_more bs i b e = rw add-one (rank_suc bs i ∙ ap (λ (x : Bool). rank_of bs i + one x) (sym e))

pub rank_past : (bs : List Bool) (p : ℕ) → length bs ≤ p → rank_of bs p ≡ ones bs
rank_past bs p h = ap ones (take_all p bs h)

pub ones_le_length : (bs : List Bool) → ones bs ≤ length bs
ones_le_length [] = omega arith
ones_le_length (true ∷ bs) = omega (arith, ones_le_length bs)
ones_le_length (false ∷ bs) = omega (arith, ones_le_length bs)

-- the step of a loop over the bits, by the bit that `valueOr` has read
pub rank_yes : (bs : List Bool) (i : ℕ) (b : Bool) → b ≡ set_at bs i → b ≡ true → rank_of bs (i + 1) ≡ rank_of bs i + 1
rank_yes bs i b e t = rank_more bs i b e ∙ ap (λ (x : Bool). rank_of bs i + one x) t

pub rank_no : (bs : List Bool) (i : ℕ) (b : Bool) → b ≡ set_at bs i → b ≡ false → rank_of bs (i + 1) ≡ rank_of bs i
rank_no bs i b e t = let h : rank_of bs (i + 1) ≡ rank_of bs i + 0 = rank_more bs i b e ∙ ap (λ (x : Bool). rank_of bs i + one x) t in omega arith

pub nth_map : {X Y : Type 0} (f : X → Y) (xs : List X) (i : ℕ) → slice_get (map f xs) i ≡ option_map f (slice_get xs i)
nth_map f [] i = refl
nth_map f (x ∷ xs) zero = refl
nth_map f (x ∷ xs) (suc i) = nth_map f xs i

pub nth_take : {X : Type 0} (n : ℕ) (xs : List X) (i : ℕ) → i < n → slice_get (take n xs) i ≡ slice_get xs i
nth_take zero xs i h = absurd (omega arith)
nth_take (suc n) [] i h = refl
nth_take (suc n) (x ∷ xs) zero h = refl
nth_take (suc n) (x ∷ xs) (suc i) h = nth_take n xs i (omega arith)

pub nth_drop : {X : Type 0} (n : ℕ) (xs : List X) (i : ℕ) → slice_get (drop n xs) i ≡ slice_get xs (n + i)
nth_drop zero xs i = ap (λ k. slice_get xs k) (let e : i ≡ 0 + i = omega arith in e)
nth_drop (suc n) [] i = refl
nth_drop (suc n) (x ∷ xs) i = nth_drop n xs i ∙ ap (λ k. slice_get (x ∷ xs) k) (let e : suc (n + i) ≡ suc n + i = omega arith in e)

pub rank_le : (bs : List Bool) (p : ℕ) → rank_of bs p ≤ p
rank_le bs p = omega (arith, ones_le_length (take p bs), length-take p bs)

-- the bits that are not set are the others
pub rank_not : (bs : List Bool) (p : ℕ) → p ≤ length bs → rank_of (map not bs) p + rank_of bs p ≡ p
rank_not bs zero h = refl
rank_not [] (suc p) h = absurd (omega arith)
rank_not (true ∷ bs) (suc p) h = omega (arith, rank_not bs p (omega arith))
rank_not (false ∷ bs) (suc p) h = omega (arith, rank_not bs p (omega arith))

-- ---- windows

-- how many there are says which they are
pub take_exact : {X : Type 0} (m k : ℕ) (xs : List X) → k ≡ min m (length xs) → take m xs ≡ take k xs
take_exact m k xs e =
    ⊎_elim
    (λ (h : m < length xs). ap (λ j. take j xs) (let f : m ≡ k = omega arith in f))
    (λ (h : length xs ≤ m). take_all m xs h ∙ sym (take_all k xs (omega arith)))
    (cases_lt m (length xs))

-- past the end nothing is added
pub rank_end : (bs : List Bool) (p k : ℕ) → k ≡ min p (length bs) → rank_of bs k ≡ rank_of bs p
rank_end bs p k e = sym (ap ones (take_exact p k bs e))

-- the ones of the flipped bits, up to the end
pub rank_flipped : (bs : List Bool) (p k : ℕ) → k ≡ min p (length bs) → rank_of (map not bs) p + rank_of bs k ≡ k
rank_flipped bs p k e =
    let n = length-map bs not in
    omega (arith, rank_not bs k (omega arith), rank_end (map not bs) p k (omega arith))

-- a take of a take
pub take_both : {X : Type 0} (p m : ℕ) (xs : List X) → take p (take m xs) ≡ take (min p m) xs
take_both p m xs =
    ⊎_elim
    (λ (h : p < m). take-take p m xs (omega arith) ∙ ap (λ j. take j xs) (let f : p ≡ min p m = omega arith in f))
    (λ (h : m ≤ p). take_all p (take m xs) (omega (arith, length-take m xs)) ∙ ap (λ j. take j xs) (let f : m ≡ min p m = omega arith in f))
    (cases_lt p m)

pub length_window : (most from : ℕ) (bs : List Bool) → length (take most (drop from bs)) ≡ min (length bs - from) most
length_window most from bs = omega (arith, length-take most (drop from bs), length-drop from bs)

-- ---- select has one answer

rank_below : (bs : List Bool) (p : ℕ) → slice_get bs p ≡ Some true → rank_of bs p < ones bs
rank_below [] p e = absurd (let z : ◌≡◌ {A = ℕ} 0 1 = cc in omega arith)
rank_below (true ∷ bs) zero e = omega arith
rank_below (false ∷ bs) zero e = absurd (let z : ◌≡◌ {A = ℕ} 0 1 = cc in omega arith)
rank_below (true ∷ bs) (suc p) e = omega (arith, rank_below bs p e)
rank_below (false ∷ bs) (suc p) e = rank_below bs p e

same_place : (bs : List Bool) (p q : ℕ) → slice_get bs p ≡ Some true → slice_get bs q ≡ Some true → rank_of bs p ≡ rank_of bs q → p ≡ q
same_place [] p q e f h = absurd (let z : ◌≡◌ {A = ℕ} 0 1 = cc in omega arith)
same_place (b ∷ bs) zero zero e f h = refl
same_place (true ∷ bs) zero (suc q) e f h = absurd (omega arith)
same_place (true ∷ bs) (suc p) zero e f h = absurd (omega arith)
same_place (false ∷ bs) zero (suc q) e f h = absurd (let z : ◌≡◌ {A = ℕ} 0 1 = cc in omega arith)
same_place (false ∷ bs) (suc p) zero e f h = absurd (let z : ◌≡◌ {A = ℕ} 0 1 = cc in omega arith)
same_place (true ∷ bs) (suc p) (suc q) e f h = ap suc (same_place bs p q e f (omega arith))
same_place (false ∷ bs) (suc p) (suc q) e f h = ap suc (same_place bs p q e f h)

pub select_one : (bs : List Bool) (j : ℕ) (o q : Option ℕ) → Select bs j o → Select bs j q → o ≡ q
select_one bs j None None s t = refl
select_one bs j None (Some q) s t = absurd (⊎_elim (λ (z : j ≡ 0). omega (arith, t.1)) (λ (l : ones bs < j). omega (arith, t.1, rank_below bs q t.0)) s)
select_one bs j (Some p) None s t = absurd (⊎_elim (λ (z : j ≡ 0). omega (arith, s.1)) (λ (l : ones bs < j). omega (arith, s.1, rank_below bs p s.0)) t)
select_one bs j (Some p) (Some q) s t = ap Some (same_place bs p q s.0 t.0 (omega (arith, s.1, t.1)))

-- ---- the same answers

-- what `==` on options decides
pub options_same : {X : Type 0} (E : X → X → Bool) → ((x y : X) → Decides (E x y) (x ≡ y)) → (a b : Option X) (r : Bool) → r ≡ option_eq E a b → Decides r (a ≡ b)
options_same E d None None r e = (λ t. refl, λ h. e)
options_same E d None (Some y) r e = (λ t. cc, λ h. cc)
options_same E d (Some x) None r e = (λ t. cc, λ h. cc)
options_same E d (Some x) (Some y) r e = Decides-like r (λ (h : x ≡ y). ap Some h) (λ (h : Some x ≡ Some y). cc) (subst (λ (q : Bool). Decides q (x ≡ y)) (sym e) (d x y))

-- where the other three answers are the same, the answers to select decide
pub selects_agree : (xs ys : List Bool) (p : ℕ) (a b : Option ℕ) (r : Bool) → length xs ≡ length ys → slice_get xs p ≡ slice_get ys p → rank_of xs p ≡ rank_of ys p → Select xs p a → Select ys p b → Decides r (a ≡ b) → Decides r (Agrees xs ys p)
selects_agree xs ys p a b r l g k s t d =
    Decides-like r
    (λ e. record { len = l; get = g; rank = k; select = λ o h. subst (λ (q : Option ℕ). Select ys p q) (sym (select_one xs p o a h s ∙ e)) t })
    (λ (h : Agrees xs ys p). select_one ys p a b (h.select a s) t)
    d

-- equal lists give the same answers
pub same_agrees : (xs ys : List Bool) (p : ℕ) → xs ≡ ys → Agrees xs ys p
same_agrees xs ys p e = subst (λ (zs : List Bool). Agrees xs zs p) e (record { len = refl; get = refl; rank = refl; select = λ o h. h })
