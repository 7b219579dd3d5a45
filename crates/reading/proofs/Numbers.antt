-- The numbers of children one after another, on the way back.
use Rattle.std.proofs.Common.{◌≡◌, ℕ, zero, suc, ◌+◌, ◌-◌, ◌<◌, ◌≤◌, Bool, true, false, cond, not, ◌&&◌, eqb, List, [], ◌∷◌, ◌++◌, map, length, take, drop, Some, None, Option, unwrap_or, sym, refl, ap, ◌∙◌, subst, inl, inr, add-one, arith, length-take}
use Rattle.std.specs.List.{slice_get}
use Rattle.std.proofs.lemmas.Bool.{cases_lt, ne_eqb, lt-ltb}
use Rattle.std.proofs.lemmas.List.{drop_all}
use Rattle.bits.specs.Bits.{ones, rank_of}
use Rattle.bits.proofs.Bitlists.{rank_yes}
use Rattle.leaders.specs.Sheet.{unary}
use Rattle.reading.specs.declared.climb.Climb.{Climb}
use Rattle.reading.specs.declared.climb.Sweep.{Sweep}
use Rattle.reading.specs.declared.place.Way.{Way}
use Rattle.reading.specs.declared.place.Ways.{Ways}
use Rattle.reading.specs.Climbing.{at, climb}
use Rattle.reading.specs.Place.{after, lones, Begins, Number, Lone, lonely}
use Rattle.reading.specs.Reading.{reach, On, Rooted, Widened, Swept, Stepped, Goes, Front}
use Rattle.reading.proofs.Climbs.{climb_append, unary_few, unary_many, same}
use Rattle.reading.proofs.Marks.{after_add}

-- ---- lists

-- a slice in two parts
pub slice_join : {X : Type 0} (r p u : ℕ) (xs : List X) → r ≤ p → p ≤ u → drop r (take u xs) ≡ drop r (take p xs) ++ drop p (take u xs)
slice_join zero zero u xs h k = refl
slice_join zero (suc p) zero xs h k = absurd (omega arith)
slice_join zero (suc p) (suc u) [] h k = refl
slice_join zero (suc p) (suc u) (x ∷ xs) h k = ap (◌∷◌ x) (slice_join zero p u xs (omega arith) (omega arith))
slice_join (suc r) zero u xs h k = absurd (omega arith)
slice_join (suc r) (suc p) zero xs h k = absurd (omega arith)
slice_join (suc r) (suc p) (suc u) [] h k = refl
slice_join (suc r) (suc p) (suc u) (x ∷ xs) h k = slice_join r p u xs (omega arith) (omega arith)

zeros_front : (p : ℕ) (bs : List Bool) → ones (take p (map not bs)) ≡ ones (map not (take p bs))
zeros_front zero bs = refl
zeros_front (suc p) [] = refl
zeros_front (suc p) (true ∷ bs) = zeros_front p bs
zeros_front (suc p) (false ∷ bs) = ap (λ n. n + 1) (zeros_front p bs)

zeros_slice : (r p : ℕ) (bs : List Bool) → r ≤ p → rank_of (map not bs) p ≡ rank_of (map not bs) r + ones (map not (drop r (take p bs)))
zeros_slice zero p bs h = omega (arith, zeros_front p bs)
zeros_slice (suc r) zero bs h = absurd (omega arith)
zeros_slice (suc r) (suc p) [] h = refl
zeros_slice (suc r) (suc p) (true ∷ bs) h = zeros_slice r p bs (omega arith)
zeros_slice (suc r) (suc p) (false ∷ bs) h = omega (arith, zeros_slice r p bs (omega arith))

one_zero : (d : ℕ) → ones (map not (unary d)) ≡ 1
unfolding unary
one_zero zero = refl
one_zero (suc d) = one_zero d

-- ---- a number, bit by bit

pub nth_within : {X : Type 0} (xs : List X) (p : ℕ) (x : X) → slice_get xs p ≡ Some x → p < length xs
nth_within [] p x e = absurd (let z : ◌≡◌ {A = ℕ} 0 1 = cc in omega arith)
nth_within (y ∷ xs) zero x e = omega arith
nth_within (y ∷ xs) (suc p) x e = omega (arith, nth_within xs p x e)

read_one : (bs : List Bool) (p : ℕ) → p < length bs → unwrap_or (slice_get bs p) true ≡ true → slice_get bs p ≡ Some true
read_one [] p h e = absurd (omega arith)
read_one (x ∷ bs) zero h e = ap Some e
read_one (x ∷ bs) (suc p) h e = read_one bs p (omega arith) e

one_bit : (bs : List Bool) (p : ℕ) (b : Bool) → slice_get bs p ≡ Some b → drop p (take (suc p) bs) ≡ b ∷ []
one_bit [] p b e = absurd (let z : ◌≡◌ {A = ℕ} 0 1 = cc in omega arith)
one_bit (x ∷ bs) zero b e = cc
one_bit (x ∷ bs) (suc p) b e = one_bit bs p b e

pub number_none : (bs : List Bool) (end : ℕ) → slice_get bs end ≡ Some false → drop end (take (suc end) bs) ≡ unary (end - end)
unfolding unary
number_none bs end e = one_bit bs end false e ∙ ap unary (let z : 0 ≡ end - end = omega arith in z)

pub number_more : (bs : List Bool) (end p : ℕ) → 1 ≤ p → p ≤ end → slice_get bs end ≡ Some false → unwrap_or (slice_get bs (p - 1)) true ≡ true → drop p (take (suc end) bs) ≡ unary (end - p) → drop (p - 1) (take (suc end) bs) ≡ unary (end - (p - 1))
unfolding unary
number_more bs end p h k e v n =
    let s : suc (p - 1) ≡ p = omega arith in
    let one = read_one bs (p - 1) (omega (arith, nth_within bs end false e)) v in
    slice_join (p - 1) p (suc end) bs (omega arith) (omega arith)
    ∙ ap (λ q. drop (p - 1) (take q bs) ++ drop p (take (suc end) bs)) (sym s)
    ∙ ap (λ xs. xs ++ drop p (take (suc end) bs)) (one_bit bs (p - 1) true one)
    ∙ ap (◌∷◌ true) n
    ∙ ap unary (let z : suc (end - p) ≡ end - (p - 1) = omega arith in z)

pub read_zero : (o : Option Bool) → unwrap_or o true ≡ false → o ≡ Some false
read_zero None e = cc
read_zero (Some b) e = ap Some e

-- ---- where numbers begin

after_one : (m p : ℕ) (bs : List Bool) → after m bs ≡ suc p → after m (true ∷ bs) ≡ suc (suc p)
unfolding after
after_one zero p bs h = absurd (omega arith)
after_one (suc m) p bs h = ap suc h

after_zeros : (bs : List Bool) (p : ℕ) → slice_get bs p ≡ Some false → after (rank_of (map not bs) (suc p)) bs ≡ suc p
unfolding after
after_zeros [] p e = absurd (let z : ◌≡◌ {A = ℕ} 0 1 = cc in omega arith)
after_zeros (true ∷ bs) zero e = absurd (let z : ◌≡◌ {A = ℕ} 0 1 = cc in omega arith)
after_zeros (false ∷ bs) zero e = refl
after_zeros (true ∷ bs) (suc p) e = after_one (rank_of (map not bs) (suc p)) p bs (after_zeros bs p e)
after_zeros (false ∷ bs) (suc p) e = ap (λ n. after n (false ∷ bs)) (add-one (rank_of (map not bs) (suc p))) ∙ ap suc (after_zeros bs p e)

pub begins_after : (bs : List Bool) (lot p : ℕ) → Begins bs lot p → p ≡ after lot bs
begins_after bs lot p h =
    let e : suc (p - 1) ≡ p = omega (arith, h.some) in
    sym e ∙ sym (after_zeros bs (p - 1) h.zero_before) ∙ ap (λ n. after (rank_of (map not bs) n) bs) e ∙ ap (λ n. after n bs) h.zeros

-- where a zero is, the next lot's number begins
pub begins_select : (bs : List Bool) (j p : ℕ) → slice_get (map not bs) p ≡ Some true → rank_of (map not bs) p + 1 ≡ j → Begins bs j (p + 1)
begins_select bs j p e h = record {
  some = omega arith;
  zero_before = ap (slice_get bs) (let z : p + 1 - 1 ≡ p = omega arith in z) ∙ flip bs p e;
  zeros = rank_yes (map not bs) p true (sym (ap (λ o. unwrap_or o false) e)) refl ∙ h;
}
  where
    flip : (bs : List Bool) (p : ℕ) → slice_get (map not bs) p ≡ Some true → slice_get bs p ≡ Some false
    flip [] p e = absurd (let z : ◌≡◌ {A = ℕ} 0 1 = cc in omega arith)
    flip (true ∷ bs) zero e = absurd (let z : ◌≡◌ {A = ℕ} 0 1 = cc in omega arith)
    flip (false ∷ bs) zero e = refl
    flip (x ∷ bs) (suc p) e = flip bs p e

-- the number of the lot before
pub begins_back : (bs : List Bool) (m p r : ℕ) → Begins bs (suc m) p → 1 ≤ m → r ≤ p - 1 → Number bs (p - 1) r → Begins bs m r
begins_back bs m p r h k l n =
    let e : suc (p - 1) ≡ p = omega (arith, h.some) in
    let count : rank_of (map not bs) p ≡ rank_of (map not bs) r + 1 =
    zeros_slice r p bs (omega arith) ∙ ap (λ q. rank_of (map not bs) r + ones (map not (drop r (take q bs)))) (sym e)
    ∙ ap (λ xs. rank_of (map not bs) r + ones (map not xs)) n.is ∙ ap (λ q. rank_of (map not bs) r + q) (one_zero (p - 1 - r)) in
    let zeros : rank_of (map not bs) r ≡ m = omega (arith, count, h.zeros) in
    let some : 1 ≤ r = from r zeros in
    record { some = some; zero_before = n.zero_before some; zeros = zeros }
  where
    from : (r : ℕ) → rank_of (map not bs) r ≡ m → 1 ≤ r
    from zero e = absurd (omega (arith, e))
    from (suc r) e = omega arith

pub after_up : (m n : ℕ) (bs : List Bool) → m ≤ n → after m bs ≤ after n bs
after_up m n bs h = let e : m + (n - m) ≡ n = omega arith in omega (arith, after_add m (n - m) bs, ap (λ z. after z bs) e)

-- the bits of the lot before
number_slice : (bs : List Bool) (p r u : ℕ) → 1 ≤ p → r ≤ p - 1 → p ≤ u → Number bs (p - 1) r → drop r (take u bs) ≡ unary (p - 1 - r) ++ drop p (take u bs)
number_slice bs p r u g h k n =
    let e : p ≡ suc (p - 1) = omega arith in
    slice_join r p u bs (omega arith) k ∙ ap (λ xs. xs ++ drop p (take u bs)) (ap (λ q. drop r (take q bs)) e ∙ n.is)

-- ---- readers

-- a reader from lot j at the lot before
pub reach_back : (bs : List Bool) (m j p r : ℕ) → Begins bs (suc m) p → 1 ≤ m → suc m ≤ j → r ≤ p - 1 → Number bs (p - 1) r → reach bs m j ≡ climb (unary (p - 1 - r)) (reach bs (suc m) j)
unfolding reach
reach_back bs m j p r h k l g n =
    let here = begins_after bs (suc m) p h in
    let there = begins_after bs m r (begins_back bs m p r h k g n) in
    ap (λ q. climb (drop q (take (after j bs) bs)) (at j j 0 0)) (sym there)
    ∙ ap (λ xs. climb xs (at j j 0 0)) (number_slice bs p r (after j bs) h.some g (omega (arith, here, after_up (suc m) j bs l)) n)
    ∙ climb_append (unary (p - 1 - r)) (drop p (take (after j bs) bs)) (at j j 0 0)
    ∙ ap (λ q. climb (unary (p - 1 - r)) (climb (drop q (take (after j bs) bs)) (at j j 0 0))) here

pub reach_none : (bs : List Bool) (m : ℕ) → reach bs m m ≡ at m m 0 0
unfolding reach climb
reach_none bs m = ap (λ xs. climb xs (at m m 0 0)) (drop_all (after m bs) (take (after m bs) bs) (omega (arith, length-take (after m bs) bs)))

-- steps more make no difference
more_steps : (d : ℕ) (s : Climb) (c : ℕ) → climb (unary d) (at s.lot s.best s.above (s.steps + c)) ≡ at (climb (unary d) s).lot (climb (unary d) s).best (climb (unary d) s).above ((climb (unary d) s).steps + c)
more_steps d s c = elim (cases_lt s.above d) [
  | inl h ↦
      let e = unary_many d s.lot s.best s.above s.steps h in
      unary_many d s.lot s.best s.above (s.steps + c) h
      ∙ same _ _ _ _ _ _ _ _ (sym (ap (λ z. z.lot) e)) (sym (ap (λ z. z.best) e)) (sym (ap (λ z. z.above) e)) (omega (arith, ap (λ z. z.steps) e))
  | inr h ↦
      let e = unary_few d s.lot s.best s.above s.steps h in
      unary_few d s.lot s.best s.above (s.steps + c) h
      ∙ same _ _ _ _ _ _ _ _ (sym (ap (λ z. z.lot) e)) (sym (ap (λ z. z.best) e)) (sym (ap (λ z. z.above) e)) (omega (arith, ap (λ z. z.steps) e))
]

pub on_back : (bs : List Bool) (m p r j c : ℕ) (s : Climb) → Begins bs (suc m) p → 1 ≤ m → suc m ≤ j → r ≤ p - 1 → Number bs (p - 1) r → On bs j (suc m) c s → On bs j m c (climb (unary (p - 1 - r)) s)
on_back bs m p r j c s h k l g n o =
    let e = reach_back bs m j p r h k l g n in
    ap (climb (unary (p - 1 - r))) o
    ∙ more_steps (p - 1 - r) (reach bs (suc m) j) c
    ∙ ap (λ z. at z.lot z.best z.above (z.steps + c)) (sym e)

pub rooted_back : (bs : List Bool) (m p r : ℕ) (s : Climb) → Begins bs (suc m) p → 1 ≤ m → s.lot ≡ suc m → r ≤ p - 1 → Number bs (p - 1) r → Rooted bs (suc m) s → Rooted bs m (climb (unary (p - 1 - r)) s)
rooted_back bs m p r s h k lot g n o = elim (cases_lt s.above (p - 1 - r)) [
  | inl d ↦
      let e : climb (unary (p - 1 - r)) s ≡ at m m 0 (s.steps + 1) = unary_many (p - 1 - r) s.lot s.best s.above s.steps d ∙ same _ _ _ _ _ _ _ _ (omega arith) (omega arith) refl refl in
      let none = reach_none bs m in
      let there : Rooted bs m (at m m 0 (s.steps + 1)) = record {
        within = omega arith;
        on = same _ _ _ _ _ _ _ _ (sym (ap (λ z. z.lot) none)) (sym (ap (λ z. z.best) none)) (sym (ap (λ z. z.above) none)) (omega (arith, ap (λ z. z.steps) none));
      } in
      subst (Rooted bs m) (sym e) there
  | inr d ↦
      let e = unary_few (p - 1 - r) s.lot s.best s.above s.steps d in
      let best = ap (λ z. z.best) e in
      let steps = ap (λ z. z.steps) e in
      let next = on_back bs m p r s.best s.steps s h k o.within g n o.on in
      record {
        within = omega (arith, best, o.within);
        on = next ∙ ap (λ b. at (reach bs m b).lot (reach bs m b).best (reach bs m b).above ((reach bs m b).steps + s.steps)) (sym best)
            ∙ ap (λ x. at (reach bs m (climb (unary (p - 1 - r)) s).best).lot (reach bs m (climb (unary (p - 1 - r)) s).best).best (reach bs m (climb (unary (p - 1 - r)) s).best).above ((reach bs m (climb (unary (p - 1 - r)) s).best).steps + x)) (sym steps);
      }
]

passed_lot : (d : ℕ) (s : Climb) → (climb (unary d) s).lot ≡ s.lot - 1
passed_lot d s = elim (cases_lt s.above d) [
  | inl h ↦ ap (λ z. z.lot) (unary_many d s.lot s.best s.above s.steps h)
  | inr h ↦ ap (λ z. z.lot) (unary_few d s.lot s.best s.above s.steps h)
]

on_start : (bs : List Bool) (m i : ℕ) (s : Climb) → s ≡ at m m 0 0 → i ≡ m → On bs m i 0 s
on_start bs m i s e h =
    let none = ap (λ x. reach bs x m) h ∙ reach_none bs m in
    e ∙ same _ _ _ _ _ _ _ _ (sym (ap (λ z. z.lot) none)) (sym (ap (λ z. z.best) none)) (sym (ap (λ z. z.above) none)) (omega (arith, ap (λ z. z.steps) none))

rooted_start : (bs : List Bool) (m i : ℕ) (s : Climb) → s ≡ at m m 0 0 → i ≡ m → Rooted bs i s
rooted_start bs m i s e h =
    let best = ap (λ z. z.best) e in
    let steps = ap (λ z. z.steps) e in
    record {
      within = omega (arith, best);
      on = on_start bs m i s e h ∙ ap (λ c. at (reach bs i m).lot (reach bs i m).best (reach bs i m).above ((reach bs i m).steps + c)) (sym steps)
          ∙ ap (λ b. at (reach bs i b).lot (reach bs i b).best (reach bs i b).above ((reach bs i b).steps + s.steps)) (sym best);
    }

-- ---- a sweep

pub swept_back : (bs : List Bool) (m j p r : ℕ) (s t : Sweep) → Begins bs (suc m) p → 1 ≤ m → suc m ≤ j → r ≤ p - 1 → Number bs (p - 1) r → s.all.lot ≡ suc m → Swept bs (suc m) j s → t.all ≡ climb (unary (p - 1 - r)) s.all → Widened s r (p - 1 - r) t → Swept bs m j t
swept_back bs m j p r s t h k l g n lot w a v = elim (cases_lt s.all.above (p - 1 - r)) [
  | inl d ↦
      let x = v.0 d in
      let best : t.all.best ≡ m = ap (λ z. z.best) (a ∙ unary_many (p - 1 - r) s.all.lot s.all.best s.all.above s.all.steps d) ∙ omega arith in
      let next : t.all.best + 1 ≡ suc m = omega arith in
      let there = begins_back bs m p r h k g n in record {
        lot = back_lot;
        all = all;
        rooted = rooted;
        from = omega arith;
        upto = omega arith;
        here = subst (Begins bs t.all.best) (sym x.0) (subst (λ b. Begins bs b r) (sym best) there);
        none = λ e. absurd (omega arith);
        right = λ e. x.1 ∙ ap Some (ap (λ z. z.best) w.all ∙ ap (λ b. (reach bs b j).best) (sym next));
        later = λ e. omega (arith, x.2, ap (λ z. z.above) w.all, ap (λ b. (reach bs b j).above) next, begins_after bs (suc m) p h, begins_after bs m r there, ap (λ b. after b bs) next, ap (λ b. after b bs) best);
      }
  | inr d ↦
      let x = v.1 d in
      let best : t.all.best ≡ s.all.best = ap (λ z. z.best) (a ∙ unary_few (p - 1 - r) s.all.lot s.all.best s.all.above s.all.steps d) in record {
        lot = back_lot;
        all = all;
        rooted = rooted;
        from = omega (arith, best, w.from);
        upto = omega (arith, best, w.upto);
        here = subst (Begins bs t.all.best) (sym x.0) (subst (λ b. Begins bs b s.here) (sym best) w.here);
        none = λ e. x.1 ∙ w.none (sym best ∙ e);
        right = λ e. x.1 ∙ w.right (omega (arith, best)) ∙ ap (λ b. Some (reach bs (b + 1) j).best) (sym best);
        later = λ e. x.2 ∙ w.later (omega (arith, best)) ∙ ap (λ b. after (b + 1) bs - after b bs - (2 + (reach bs (b + 1) j).above)) (sym best);
      }
]
  where
    all : t.all ≡ reach bs m j
    all = a ∙ ap (climb (unary (p - 1 - r))) w.all ∙ sym (reach_back bs m j p r h k l g n)

    back_lot : t.all.lot ≡ m
    back_lot = ap (λ z. z.lot) a ∙ passed_lot (p - 1 - r) s.all ∙ omega arith

    rooted : Rooted bs m t.all
    rooted = subst (Rooted bs m) (sym a) (rooted_back bs m p r s.all h k lot g n w.rooted)

pub swept_none : (bs : List Bool) (j p : ℕ) (s : Sweep) → Begins bs j p → s.all ≡ at j j 0 0 → s.here ≡ p → s.right ≡ None → Swept bs j j s
swept_none bs j p s h a e z =
    let best = ap (λ x. x.best) a in record {
      lot = ap (λ x. x.lot) a;
      all = a ∙ sym (reach_none bs j);
      rooted = rooted_start bs j j s.all a refl;
      from = omega (arith, best);
      upto = omega (arith, best);
      here = subst (Begins bs s.all.best) (sym e) (subst (λ b. Begins bs b p) (sym best) h);
      none = λ i. z;
      right = λ i. absurd (omega (arith, best));
      later = λ i. absurd (omega (arith, best));
    }

-- ---- lots with none below them

pub lones_run : (a : Bool) (d : ℕ) (zs : List Bool) → lones a true (unary d ++ zs) ≡ lones true false zs
unfolding lones unary
lones_run true zero zs = omega arith
lones_run false zero zs = omega arith
lones_run a (suc d) zs = lones_run a d zs

lone_more : (d : ℕ) (zs : List Bool) (count : ℕ) (bare : Bool) → Lone zs count bare → Lone (unary d ++ zs) (count + lonely bare d) (eqb d 0)
unfolding lones unary
lone_more zero zs count true h true = omega (arith, h false)
lone_more zero zs count true h false = omega (arith, h false)
lone_more zero zs count false h true = omega (arith, h false)
lone_more zero zs count false h false = omega (arith, h false)
lone_more (suc d) zs count bare h a =
    rw (ne_eqb (suc d) 0 (omega arith), lt-ltb 0 (suc d) (omega arith)) (lones_run a d zs ∙ ends a bare (h true))
  where
    ends : (a bare : Bool) → lones true false zs ≡ count + cond (true && bare) 1 0 → lones true false zs ≡ count + cond (bare && true) 1 0 + cond (a && false) 1 0
    ends true true e = omega arith
    ends true false e = omega arith
    ends false true e = omega arith
    ends false false e = omega arith

pub lone_back : (bs : List Bool) (p r u count : ℕ) (bare : Bool) → 1 ≤ p → r ≤ p - 1 → p ≤ u → Number bs (p - 1) r → Lone (drop p (take u bs)) count bare → Lone (drop r (take u bs)) (count + lonely bare (p - 1 - r)) (eqb (p - 1 - r) 0)
lone_back bs p r u count bare g h k n o = subst (λ xs. Lone xs (count + lonely bare (p - 1 - r)) (eqb (p - 1 - r) 0)) (sym (number_slice bs p r u g h k n)) (lone_more (p - 1 - r) (drop p (take u bs)) count bare o)

-- ---- a way

pub goes_back : (bs : List Bool) (w s t : Way) (m r : ℕ) → Goes bs w (suc m) s → 1 ≤ m → suc m ≤ w.left.lot → s.at ≤ w.at → r ≤ s.at - 1 → Number bs (s.at - 1) r → Stepped s r (s.at - 1 - r) t → t.left.lot ≡ m → Goes bs w m t
goes_back bs w s t m r g k u a h n step lot =
    let d = s.at - 1 - r in record {
      begins = subst (Begins bs m) (sym step.place) (begins_back bs m s.at r g.begins k h n);
      lot = lot;
      left = λ j c i o. subst (On bs j m c) (sym step.left) (on_back bs m s.at r j c s.left g.begins k (omega arith) h n (g.left j c i o));
      rooted = λ o. subst (Rooted bs m) (sym step.left) (rooted_back bs m s.at r s.left g.begins k g.lot h n (g.rooted o));
      lone = λ v i o.
          let there = lone_back bs s.at r v s.lone s.bare g.begins.some h (omega arith) n (g.lone v i o) in
          let placed : Lone (drop t.at (take v bs)) (s.lone + lonely s.bare d) (eqb d 0) = subst (λ x. Lone (drop x (take v bs)) (s.lone + lonely s.bare d) (eqb d 0)) (sym step.place) there in
          subst (λ x. Lone (drop t.at (take v bs)) t.lone x) (sym step.bare) (subst (λ x. Lone (drop t.at (take v bs)) x (eqb d 0)) (sym step.lone) placed);
    }

-- ---- in front of lot k: from it to the lot before, to lot i, and to lot 1

lone_none : (bs : List Bool) (p : ℕ) → Lone (drop p (take p bs)) 0 false
unfolding lones
lone_none bs p true = ap (lones true false) (drop_all p (take p bs) (omega (arith, length-take p bs)))
lone_none bs p false = ap (lones false false) (drop_all p (take p bs) (omega (arith, length-take p bs)))

pub near_best : (bs : List Bool) (m i : ℕ) (w n : Way) → w.left ≡ at m m 0 0 → Goes bs w i n → n.left.best ≡ (reach bs i m).best
near_best bs m i w n e g = let l = ap (λ z. z.lot) e in ap (λ z. z.best) (g.left m 0 (omega (arith, l)) (on_start bs m w.left.lot w.left e l))

pub front_is : (bs : List Bool) (k i gone : ℕ) (w b v n : Way) (f : Ways) → i < k → 1 ≤ i → Begins bs k w.at → w.lone ≡ 0 → w.bare ≡ false → Goes bs w (k - 1) b →
    v.at ≡ b.at → v.left ≡ at (k - 1) (k - 1) 0 0 → v.lone ≡ b.lone → v.bare ≡ b.bare → Goes bs v i n → Goes bs n 1 f.way → On bs k 1 gone f.own → Front bs k n.left.best n.left.steps gone f
front_is bs k i gone w b v n f h some begins lone bare wb at-is left_is Lone-is bare-is vn nf own =
    let vl : v.left.lot ≡ k - 1 = ap (λ z. z.lot) left_is in
    let nl : n.left.lot ≡ i = vn.lot in
    let here = begins_after bs k w.at begins in
    let first = begins_after bs 1 f.way.at nf.begins in
    let near = begins_after bs i n.at vn.begins in
    let before = begins_after bs (k - 1) b.at wb.begins in
    let left-n : On bs (k - 1) n.left.lot 0 n.left = subst (λ x. On bs (k - 1) x 0 n.left) (sym nl) (vn.left (k - 1) 0 (omega (arith, vl)) (on_start bs (k - 1) v.left.lot v.left left_is vl)) in
    let left-f = nf.left (k - 1) 0 (omega (arith, nl)) left-n in
    let root = vn.rooted (rooted_start bs (k - 1) v.left.lot v.left left_is vl) in
    let best-n : On bs n.left.best n.left.lot n.left.steps n.left = subst (λ x. On bs n.left.best x n.left.steps n.left) (sym nl) root.on in
    let best-f = nf.left n.left.best n.left.steps (omega (arith, nl, root.within)) best-n in
    let lone-w : Lone (drop w.at (take w.at bs)) w.lone w.bare = subst (λ x. Lone (drop w.at (take w.at bs)) w.lone x) (sym bare) (subst (λ x. Lone (drop w.at (take w.at bs)) x false) (sym lone) (lone_none bs w.at)) in
    let lone-b = wb.lone w.at (omega arith) lone-w in
    let lone-v : Lone (drop v.at (take w.at bs)) v.lone v.bare =
    subst (λ x. Lone (drop v.at (take w.at bs)) v.lone x) (sym bare-is) (subst (λ x. Lone (drop v.at (take w.at bs)) x b.bare) (sym Lone-is) (subst (λ x. Lone (drop x (take w.at bs)) b.lone b.bare) (sym at-is) lone-b)) in
    let lone-n = vn.lone w.at (omega (arith, here, before, at-is, after_up (k - 1) k bs (omega arith))) lone-v in
    let lone-f = nf.lone w.at (omega (arith, here, near, after_up i k bs (omega arith))) lone-n in record {
      first = first;
      left = omega (arith, ap (λ z. z.steps) left-f);
      best = ap (λ z. z.steps) best-f;
      own = ap (λ z. z.steps) own;
      lone = ap (λ x. lones true false (drop x (take (after k bs) bs))) (sym first) ∙ ap (λ x. lones true false (drop f.way.at (take x bs))) (sym here) ∙ lone-f true;
    }
