-- What cells mean, for every way to write pairs that can be undone: what was written means itself, and what cannot be written means blank.
use Rattle.std.proofs.Common.{◌≡◌, ℕ, zero, suc, ◌≤◌, true, ◌⊎◌, List, [], ◌∷◌, map, Some, None, Option, sym, refl, ap, ◌∙◌, subst, inl, inr, ⊎_elim, arith}
use mathlib.Core.List.Memᴰ
use mathlib.Core.List.{Memᴰ}
use Rattle.std.specs.List.{flat_map, AllByRecursion as All}
use Rattle.std.specs.Str.{bytes_eq}
use Rattle.std.proofs.ByRecursion.{All-append, All-map, All-push, All-weaker}
use Rattle.std.proofs.lemmas.Slice.Eq.{bytes_eq-Decides}
use Rattle.std.proofs.lemmas.Bool.{cases_eq, cases_Bool, both_ways, cond-true, cond-false, cond_both, and_from, and_parts, le-leb, leb-true}
use Rattle.panel.specs.declared.shown.Shown.{Shown}
use Rattle.panel.specs.declared.shown.Shown.TheVariants.{Blank, Best, Pair}
use Rattle.panel.specs.Inner.{shown_by}
use Rattle.panel.specs.Shows.{is_lot, proper, pair_of, told, up_to, pairs_up_to, written, meaning}

-- lots and pairs, listed

all_lots : (n : ℕ) → All (λ k. (1 ≤ k) × (k ≤ n)) (up_to n)
unfolding up_to
all_lots zero = tt
all_lots (suc n) =
    All-push (λ k. (1 ≤ k) × (k ≤ suc n)) (up_to n) (suc n)
    (All-weaker (λ k. (1 ≤ k) × (k ≤ n)) (λ k. (1 ≤ k) × (k ≤ suc n)) (λ k h. (omega arith, omega arith)) (up_to n) (all_lots n))
    (omega arith, omega arith)

lot_listed : (n k : ℕ) → 1 ≤ k → k ≤ n → Memᴰ k (up_to n)
unfolding up_to
lot_listed zero k low high = absurd (omega arith)
lot_listed (suc n) k low high =
    ⊎_elim (λ e. Memᴰ.append_right (up_to n) (Memᴰ.head e))
    (λ ne. Memᴰ.append_left (suc n ∷ []) (lot_listed n k low (omega arith)))
    (cases_eq k (suc n))

all_joined : {X Y : Type 0} (Q : X → Type 0) (P : Y → Type 0) (f : X → List Y) → ((x : X) → Q x → All P (f x)) → (xs : List X) → All Q xs → All P (flat_map f xs)
all_joined Q P f each [] h = tt
all_joined Q P f each (x ∷ xs) h = All-append P (f x) (flat_map f xs) (each x h.0) (all_joined Q P f each xs h.1)

joined_listed : {X Y : Type 0} (f : X → List Y) (x : X) (y : Y) (xs : List X) → Memᴰ x xs → Memᴰ y (f x) → Memᴰ y (flat_map f xs)
joined_listed f x y [] m h = absurd (Memᴰ.not-nil m)
joined_listed f x y (z ∷ zs) m h =
    ⊎_elim (λ e. Memᴰ.append_left (flat_map f zs) (subst (λ w. Memᴰ y (f w)) e h))
    (λ below. Memᴰ.append_right (f z) (joined_listed f x y zs below h))
    (Memᴰ.cases_cons m)

lot_is : (k : ℕ) → (1 ≤ k) × (k ≤ 4000) → is_lot k ≡ true
lot_is k h = and_from _ _ (le-leb 1 k h.0) (le-leb k 4000 h.1)

is_lot_lem : (k : ℕ) → is_lot k ≡ true → (1 ≤ k) × (k ≤ 4000)
is_lot_lem k h = let p = and_parts _ _ h in (leb-true 1 k p.0, leb-true k 4000 p.1)

pairs_proper : All (λ s. proper s ≡ true) (pairs_up_to 4000)
unfolding pairs_up_to
pairs_proper =
    all_joined (λ k. (1 ≤ k) × (k ≤ 4000)) (λ s. proper s ≡ true) (λ best. Best best ∷ map (Pair best) (up_to 4000))
    (λ best h. (
      lot_is best h,
      All-map (λ s. proper s ≡ true) (Pair best) (up_to 4000)
          (All-weaker (λ k. (1 ≤ k) × (k ≤ 4000)) (λ k. proper (Pair best k) ≡ true) (λ k l. and_from _ _ (lot_is best h) (lot_is k l)) (up_to 4000) (all_lots 4000)),
    ))
    (up_to 4000) (all_lots 4000)

-- blank, or one of the pairs
pub pair_listed : (s : Shown) → proper s ≡ true → (s ≡ Blank) ⊎ Memᴰ s (pairs_up_to 4000)
unfolding pairs_up_to
pair_listed Blank h = inl refl
pair_listed (Best best) h =
    let b = is_lot_lem best h in
    inr (joined_listed (λ b. Best b ∷ map (Pair b) (up_to 4000)) best (Best best) (up_to 4000) (lot_listed 4000 best b.0 b.1) (Memᴰ.head refl))
pair_listed (Pair best second) h =
    let p = and_parts (is_lot best) (is_lot second) h in
    let b = is_lot_lem best p.0 in
    let s = is_lot_lem second p.1 in
    inr (joined_listed (λ b. Best b ∷ map (Pair b) (up_to 4000)) best (Pair best second) (up_to 4000) (lot_listed 4000 best b.0 b.1)
    (Memᴰ.tail (Memᴰ.map (Pair best) (lot_listed 4000 second s.0 s.1))))

-- the one that is written so, wherever it is listed

written_one : (write : Shown → List ℕ) (cells : List ℕ) (s : Shown) → write s ≡ cells → (list : List Shown) → All (λ t. write t ≡ cells → t ≡ s) list → Memᴰ s list → written write cells list ≡ s
unfolding written
written_one write cells s e [] only m = absurd (Memᴰ.not-nil m)
written_one write cells s e (t ∷ rest) only m =
    ⊎_elim (λ hit. cond-true (bytes_eq (write t) cells) t (written write cells rest) hit ∙ only.0 ((bytes_eq-Decides (write t) cells).0 hit))
    (λ miss. cond-false (bytes_eq (write t) cells) t (written write cells rest) miss
    ∙ ⊎_elim (λ here. absurd (both_ways _ miss ((bytes_eq-Decides (write t) cells).1 (ap write (sym here) ∙ e))))
    (λ below. written_one write cells s e rest only.1 below) (Memᴰ.cases_cons m))
    (cases_Bool (bytes_eq (write t) cells))

written_none : (write : Shown → List ℕ) (cells : List ℕ) (list : List Shown) → All (λ t. write t ≡ cells → t ≡ Blank) list → written write cells list ≡ Blank
unfolding written
written_none write cells [] only = refl
written_none write cells (t ∷ rest) only =
    ⊎_elim (λ hit. cond-true (bytes_eq (write t) cells) t (written write cells rest) hit ∙ only.0 ((bytes_eq-Decides (write t) cells).0 hit))
    (λ miss. cond-false (bytes_eq (write t) cells) t (written write cells rest) miss ∙ written_none write cells rest only.1)
    (cases_Bool (bytes_eq (write t) cells))

-- `guess` undoes `write`

abbrev pub Undoes : (List ℕ → Shown) → (Shown → List ℕ) → Type 0
Undoes guess write = (s : Shown) → proper s ≡ true → guess (write s) ≡ s

-- only the guess can be written as these cells
only_guess : (guess : List ℕ → Shown) (write : Shown → List ℕ) (cells : List ℕ) → Undoes guess write → All (λ t. write t ≡ cells → t ≡ guess cells) (pairs_up_to 4000)
only_guess guess write cells u =
    All-weaker (λ t. proper t ≡ true) (λ t. write t ≡ cells → t ≡ guess cells) (λ t h e. sym (u t h) ∙ ap guess e) (pairs_up_to 4000) pairs_proper

-- a guess that is written as these cells is what they mean
means_guess : (guess : List ℕ → Shown) (write : Shown → List ℕ) → Undoes guess write → (cells : List ℕ) (s : Shown) → s ≡ guess cells → proper s ≡ true → write s ≡ cells → s ≡ meaning write cells
unfolding meaning
means_guess guess write u cells s is h e =
    let only = All-weaker (λ t. write t ≡ cells → t ≡ guess cells) (λ t. write t ≡ cells → t ≡ s) (λ t f w. f w ∙ sym is) (pairs_up_to 4000) (only_guess guess write cells u) in
    ⊎_elim (λ b. b ∙ sym (written_none write cells (pairs_up_to 4000)
    (All-weaker (λ t. write t ≡ cells → t ≡ s) (λ t. write t ≡ cells → t ≡ Blank) (λ t f w. f w ∙ b) (pairs_up_to 4000) only)))
    (λ m. sym (written_one write cells s e (pairs_up_to 4000) only m))
    (pair_listed s h)

-- where it is not, they mean blank
means_blank : (guess : List ℕ → Shown) (write : Shown → List ℕ) → Undoes guess write → (cells : List ℕ) (s : Shown) → s ≡ guess cells → (write s ≡ cells → ⊥) → Blank ≡ meaning write cells
unfolding meaning
means_blank guess write u cells s is n =
    sym (written_none write cells (pairs_up_to 4000)
    (All-weaker (λ t. write t ≡ cells → t ≡ guess cells) (λ t. write t ≡ cells → t ≡ Blank) (λ t f w. absurd (n (ap write (is ∙ sym (f w)) ∙ w))) (pairs_up_to 4000) (only_guess guess write cells u)))

-- what was written means itself
pub means_written : (guess : List ℕ → Shown) (write : Shown → List ℕ) → Undoes guess write → (cells : List ℕ) (s : Shown) → proper s ≡ true → cells ≡ write s → meaning write cells ≡ s
means_written guess write u cells s h e = sym (means_guess guess write u cells s (sym (u s h) ∙ ap guess (sym e)) h (sym e))

-- a guess is what the cells mean, unless they mean blank
pub means_guess_or_blank : (guess : List ℕ → Shown) (write : Shown → List ℕ) → Undoes guess write → (cells : List ℕ) (s : Shown) → s ≡ guess cells → proper s ≡ true → (meaning write cells ≡ Blank) ⊎ (s ≡ meaning write cells)
means_guess_or_blank guess write u cells s is h =
    ⊎_elim (λ hit. inr (means_guess guess write u cells s is h ((bytes_eq-Decides (write s) cells).0 hit)))
    (λ miss. inl (sym (means_blank guess write u cells s is (λ e. both_ways _ miss ((bytes_eq-Decides (write s) cells).1 e)))))
    (cases_Bool (bytes_eq (write s) cells))

-- what cells mean is written as these cells, unless they mean blank
written_so : (write : Shown → List ℕ) (cells : List ℕ) (list : List Shown) → (written write cells list ≡ Blank) ⊎ (write (written write cells list) ≡ cells)
unfolding written
written_so write cells [] = inl refl
written_so write cells (t ∷ rest) =
    ⊎_elim (λ hit. let here = cond-true (bytes_eq (write t) cells) t (written write cells rest) hit in inr (ap write here ∙ (bytes_eq-Decides (write t) cells).0 hit))
    (λ miss. let later = cond-false (bytes_eq (write t) cells) t (written write cells rest) miss in ⊎_elim (λ b. inl (later ∙ b)) (λ e. inr (ap write later ∙ e)) (written_so write cells rest))
    (cases_Bool (bytes_eq (write t) cells))

-- where the one that they may mean is not written as these cells, they mean blank
pub means_not : (write : Shown → List ℕ) (cells : List ℕ) (s : Shown) → (meaning write cells ≡ Blank) ⊎ (s ≡ meaning write cells) → (write s ≡ cells → ⊥) → Blank ≡ meaning write cells
unfolding meaning
means_not write cells s may n =
    ⊎_elim (λ b. sym b) (λ is. ⊎_elim (λ b. sym b) (λ e. absurd (n (ap write is ∙ e))) (written_so write cells (pairs_up_to 4000))) may

pub told_proper : (best : ℕ) (second : Option ℕ) → proper (told best second) ≡ true
told_proper best second =
    cond_both (proper (pair_of best second)) (pair_of best second) Blank (λ s. proper s ≡ true) (λ h. h) (λ h. refl)

pub by_proper : (best second : Option ℕ) → proper (shown_by best second) ≡ true
by_proper None second = refl
by_proper (Some best) second = told_proper best second
