-- How one symbol of a lot's word hangs the next lots of its sides, and how the rest is hung.
use Rattle.std.proofs.Common.{◌≡◌, ℕ, suc, ◌+◌, ◌<◌, ◌≤◌, Bool, true, false, eqb, ◌≢◌, ◌⊎◌, List, [], ◌∷◌, ◌++◌, length, get_or, set, sym, refl, ap, ◌∙◌, subst, inl, inr, append_assoc, arith, length-append, get_or-set_other, get_or-set_same}
use Rattle.std.proofs.lemmas.Bool.{cases_Bool, eqb-false, eq-eqb, ne_eqb}
use Rattle.std.proofs.lemmas.List.{length-set}
use Rattle.leaders.specs.Verdict.{falses, trues}
use Rattle.leaders.specs.Rebuilt.{through, past, blend}
use Rattle.links.specs.Walks.{Chain}
use Rattle.rebuilding.specs.Splices.{Runs, count, Along, EndsIn, Joining, Joined}

pub count_append : (z : ℕ) (xs ys : List ℕ) → count z (xs ++ ys) ≡ count z xs + count z ys
unfolding count
count_append z [] ys = omega arith
count_append z (x ∷ xs) ys = let h = count_append z xs ys in elim (cases_Bool (eqb x z)) [ inl e ↦ grind (arith, h, e) | inr e ↦ grind (arith, h, e) ]

pub count_same : (z : ℕ) (ys : List ℕ) → count z (z ∷ ys) ≡ suc (count z ys)
unfolding count
count_same z ys = let e = eq-eqb z z refl in rw e

-- a lot that is not in x ∷ xs
pub count_none : (z x : ℕ) (xs : List ℕ) → count z (x ∷ xs) ≡ 0 → (x ≢ z) × (count z xs ≡ 0)
unfolding count
count_none z x xs h = elim (cases_Bool (eqb x z)) [ inl e ↦ absurd (omega (arith, rw e at h)) | inr e ↦ (eqb-false x z e, rw e at h) ]

runs_set : (next : List ℕ) (t v i e : ℕ) (zs : List ℕ) → count t zs ≡ 0 → Runs next i zs e → Runs (set next t v) i zs e
runs_set next t v i e [] h r = r
runs_set next t v i e (z ∷ zs) h r =
    let (d, k) = count_none t z zs h in
    let g = get_or-set_other next t z v 0 d in
    (r.0, r.1, rw g (runs_set next t v (get_or next z 0) e zs k r.2))

chain_set : (next : List ℕ) (t v i : ℕ) (zs : List ℕ) → count t zs ≡ 0 → Chain next i zs → Chain (set next t v) i zs
chain_set next t v i [] h r = r
chain_set next t v i (z ∷ zs) h r =
    let (d, k) = count_none t z zs h in
    let g = get_or-set_other next t z v 0 d in
    (r.0, r.1, rw g (chain_set next t v (get_or next z 0) zs k r.2))

runs_append : (next : List ℕ) (i t e : ℕ) (xs ys : List ℕ) → 1 ≤ t → Runs next i xs t → Runs next (get_or next t 0) ys e → Runs next i (xs ++ t ∷ ys) e
runs_append next i t e [] ys p r s = (r, p, s)
runs_append next i t e (x ∷ xs) ys p r s = (r.0, r.1, runs_append next (get_or next x 0) t e xs ys p r.2 s)

chain_append : (next : List ℕ) (i t : ℕ) (xs ys : List ℕ) → 1 ≤ t → Runs next i xs t → Chain next (get_or next t 0) ys → Chain next i (xs ++ t ∷ ys)
chain_append next i t [] ys p r s = (r, p, s)
chain_append next i t (x ∷ xs) ys p r s = (r.0, r.1, chain_append next (get_or next x 0) t xs ys p r.2 s)

chain_split : (next : List ℕ) (i s : ℕ) (us vs : List ℕ) → Chain next i (us ++ s ∷ vs) → Runs next i us s × (1 ≤ s) × Chain next (get_or next s 0) vs
chain_split next i s [] vs c = c
chain_split next i s (u ∷ us) vs c = let h = chain_split next (get_or next u 0) s us vs c.2 in ((c.0, c.1, h.0), h.1, h.2)

through_is : (s : ℕ) (us vs : List ℕ) → count s us ≡ 0 → through s (us ++ s ∷ vs) ≡ us ++ s ∷ []
unfolding through
through_is s [] vs h = let e = eq-eqb s s refl in rw e
through_is s (u ∷ us) vs h = let (d, k) = count_none s u us h in let e = ne_eqb u s d in rw e (ap (◌∷◌ u) (through_is s us vs k))

past_is : (s : ℕ) (us vs : List ℕ) → count s us ≡ 0 → past s (us ++ s ∷ vs) ≡ vs
unfolding past
past_is s [] vs h = let e = eq-eqb s s refl in rw e
past_is s (u ∷ us) vs h = let (d, k) = count_none s u us h in let e = ne_eqb u s d in rw e (past_is s us vs k)

ends_from : (ws cs : List ℕ) (e : ℕ) → ws ≡ cs ++ e ∷ [] → EndsIn ws e
ends_from [] cs e h = tt
ends_from (w ∷ ws) cs e h = (cs, h)

ends_past : (us vs : List ℕ) (s e : ℕ) → EndsIn (us ++ s ∷ vs) e → EndsIn vs e
ends_past us [] s e h = tt
ends_past [] (v ∷ vs) s e ([], h) = absurd (let z : ◌≡◌ {A = ℕ} (length (s ∷ v ∷ vs)) 1 = ap length h in omega arith)
ends_past [] (v ∷ vs) s e (c ∷ cs, h) = ends_from (v ∷ vs) cs e cc
ends_past (u ∷ us) (v ∷ vs) s e ([], h) = absurd (let z : ◌≡◌ {A = ℕ} (length (u ∷ (us ++ s ∷ v ∷ vs))) 1 = ap length h in let y = length-append us (s ∷ v ∷ vs) in omega arith)
ends_past (u ∷ us) (v ∷ vs) s e (c ∷ cs, h) = ends_past us (v ∷ vs) s e (ends_from (us ++ s ∷ v ∷ vs) cs e cc)

-- one write at tail hangs a side's lots up to s on what is linked
record Cut (next : List ℕ) (x : ℕ) (pre : List ℕ) (s : ℕ) (vs ys : List ℕ) (b : ℕ) : Type 0 where
  run : Runs next x pre s
  some : 1 ≤ s
  rest : Chain next (get_or next s 0) vs
  other : Chain next b ys
  apart : (z : ℕ) → count z pre + count z (s ∷ []) + count z vs + count z ys ≤ 1

cut : (next : List ℕ) (x tail a b s : ℕ) (pre us vs ys : List ℕ) → tail < length next → Runs next x pre tail → 1 ≤ tail → Chain next a (us ++ s ∷ vs) → Chain next b ys →
    ((z : ℕ) → count z pre + count z (tail ∷ []) + count z (us ++ s ∷ vs) + count z ys ≤ 1) → Cut (set next tail a) x (pre ++ tail ∷ us) s vs ys b
cut next x tail a b s pre us vs ys fits r p c d apart =
    let at = apart tail in
    let here = count_same tail [] in
    let parts : (z : ℕ) → count z (us ++ s ∷ vs) ≡ count z us + (count z (s ∷ []) + count z vs) = λ z. count_append z us (s ∷ vs) ∙ ap (λ m. count z us + m) (count_append z (s ∷ []) vs) in
    let pt = parts tail in
    let none = count_none tail s [] (omega arith) in
    let h = chain_split next a s us vs c in
    let same = get_or-set_same next tail a 0 fits in
    let next' = set next tail a in
    record {
      run = runs_append next' x tail s pre us p (runs_set next tail a x tail pre (omega arith) r) (subst (λ i. Runs next' i us s) (sym same) (runs_set next tail a a s us (omega arith) h.0));
      some = h.1;
      rest = subst (λ i. Chain next' i vs) (sym (get_or-set_other next tail s a 0 none.0)) (chain_set next tail a (get_or next s 0) vs (omega arith) h.2);
      other = chain_set next tail a b ys (omega arith) d;
      apart = λ z. omega (arith, apart z, parts z, count_append z pre (tail ∷ us), count_append z (tail ∷ []) us);
    }

module _ (next₀ next left right : List ℕ) (x : ℕ) (w : List Bool) (all : List ℕ) (tail a b low high end_l endR : ℕ) (fits : tail < length next) where
  -- a lot that is not in the whole is not tail
  tail_in : (pre rest : List ℕ) → pre ++ tail ∷ rest ≡ all → (z : ℕ) → count z all ≡ 0 → z ≢ tail
  tail_in pre rest e z h d =
      let m : count z (tail ∷ rest) ≡ suc (count tail rest) = ap (λ y. count y (tail ∷ rest)) d ∙ count_same tail rest in
      omega (arith, ap (count z) e, count_append z pre (tail ∷ rest))

  pub join_false : Joining next₀ next left right x (false ∷ w) all tail a b low high end_l endR →
      Joining next₀ (set next tail a) left right x w all low (get_or (set next tail a) low 0) b (get_or right low 0) high end_l endR
  unfolding falses trues blend
  join_false j = go j.ss j.lows j.along_l j.lefts j.whole
    where
      go : (ss : List ℕ) → Chain right low ss → Along ss j.xs → falses (false ∷ w) ≡ length ss → j.pre ++ tail ∷ blend (false ∷ w) ss j.ts j.xs j.ys ≡ all →
          Joining next₀ (set next tail a) left right x w all low (get_or (set next tail a) low 0) b (get_or right low 0) high end_l endR
      go [] lows along few whole = absurd (omega arith)
      go (s ∷ ss) lows (us, vs, e, none, along) few whole =
          let d = lows.0 in
          let k = cut next x tail a b s j.pre us vs j.ys fits j.run j.some (rw e at j.lower) j.upper (λ z. rw e at (j.apart z)) in
          let p = ap (through s) e ∙ through_is s us vs none in
          let q = ap (past s) e ∙ past_is s us vs none in
          rw d (record {
            pre = j.pre ++ tail ∷ us;
            ss = ss;
            ts = j.ts;
            xs = vs;
            ys = j.ys;
            run = k.run;
            some = k.some;
            lows = lows.2;
            highs = j.highs;
            lower = k.rest;
            upper = k.other;
            along_l = along;
            along_r = j.along_r;
            last_l = ends_past us vs s end_l (subst (λ zs. EndsIn zs end_l) e j.last_l);
            last_r = j.last_r;
            apart = k.apart;
            lefts = omega arith;
            rights = j.rights;
            whole = append_assoc j.pre (tail ∷ us) (s ∷ blend w ss j.ts vs j.ys) ∙ ap (λ zs. j.pre ++ tail ∷ zs) (sym (append_assoc us (s ∷ []) (blend w ss j.ts vs j.ys))) ∙ (rw (p, q) at whole);
            frame = λ z h. get_or-set_other next tail z a 0 (tail_in j.pre (blend (false ∷ w) (s ∷ ss) j.ts j.xs j.ys) whole z h) ∙ j.frame z h;
          })

  pub join_true : Joining next₀ next left right x (true ∷ w) all tail a b low high end_l endR →
      Joining next₀ (set next tail b) left right x w all high a (get_or (set next tail b) high 0) low (get_or left high 0) end_l endR
  unfolding falses trues blend
  join_true j = go j.ts j.highs j.along_r j.rights j.whole
    where
      go : (ts : List ℕ) → Chain left high ts → Along ts j.ys → trues (true ∷ w) ≡ length ts → j.pre ++ tail ∷ blend (true ∷ w) j.ss ts j.xs j.ys ≡ all →
          Joining next₀ (set next tail b) left right x w all high a (get_or (set next tail b) high 0) low (get_or left high 0) end_l endR
      go [] highs along few whole = absurd (omega arith)
      go (s ∷ ts) highs (us, vs, e, none, along) few whole =
          let d = highs.0 in
          let k = cut next x tail b a s j.pre us vs j.xs fits j.run j.some (rw e at j.upper) j.lower (λ z. omega (arith, rw e at (j.apart z))) in
          let p = ap (through s) e ∙ through_is s us vs none in
          let q = ap (past s) e ∙ past_is s us vs none in
          rw d (record {
            pre = j.pre ++ tail ∷ us;
            ss = j.ss;
            ts = ts;
            xs = j.xs;
            ys = vs;
            run = k.run;
            some = k.some;
            lows = j.lows;
            highs = highs.2;
            lower = k.other;
            upper = k.rest;
            along_l = j.along_l;
            along_r = along;
            last_l = j.last_l;
            last_r = ends_past us vs s endR (subst (λ zs. EndsIn zs endR) e j.last_r);
            apart = λ z. omega (arith, k.apart z);
            lefts = j.lefts;
            rights = omega arith;
            whole = append_assoc j.pre (tail ∷ us) (s ∷ blend w j.ss ts j.xs vs) ∙ ap (λ zs. j.pre ++ tail ∷ zs) (sym (append_assoc us (s ∷ []) (blend w j.ss ts j.xs vs))) ∙ (rw (p, q) at whole);
            frame = λ z h. get_or-set_other next tail z b 0 (tail_in j.pre (blend (true ∷ w) j.ss (s ∷ ts) j.xs j.ys) whole z h) ∙ j.frame z h;
          })

-- only what is left of the right side is still to be hung on t
pub record Hung (next₀ next : List ℕ) (x : ℕ) (all : List ℕ) (t b endR : ℕ) : Type 0 where
  pub pre : List ℕ
  pub ys : List ℕ
  pub run : Runs next x pre t
  pub some : 1 ≤ t
  pub upper : Chain next b ys
  pub last : EndsIn ys endR
  pub apart : (z : ℕ) → count z pre + count z (t ∷ []) + count z ys ≤ 1
  pub whole : pre ++ t ∷ ys ≡ all
  pub frame : (z : ℕ) → count z all ≡ 0 → get_or next z 0 ≡ get_or next₀ z 0

module _ (next₀ next left right : List ℕ) (x : ℕ) (all : List ℕ) (tail a b low high end_l endR : ℕ) where
  pub hang_none : Joining next₀ next left right x [] all tail a b low high end_l endR → a ≡ 0 → Hung next₀ next x all tail b endR
  unfolding blend
  hang_none j e = go j.xs j.lower j.apart j.whole
    where
      go : (xs : List ℕ) → Chain next a xs → ((z : ℕ) → count z j.pre + count z (tail ∷ []) + count z xs + count z j.ys ≤ 1) → j.pre ++ tail ∷ blend [] j.ss j.ts xs j.ys ≡ all → Hung next₀ next x all tail b endR
      go [] c apart whole = record { pre = j.pre; ys = j.ys; run = j.run; some = j.some; upper = j.upper; last = j.last_r; apart = λ z. omega (arith, apart z); whole = whole; frame = j.frame }
      go (y ∷ xs) c apart whole = absurd (omega (arith, c.0, c.1))

  pub hang_left : Joining next₀ next left right x [] all tail a b low high end_l endR → a ≢ 0 → tail < length next → Hung next₀ (set next tail a) x all end_l b endR
  unfolding blend
  hang_left j d fits = go j.xs j.lower j.last_l j.apart j.whole
    where
      go : (xs : List ℕ) → Chain next a xs → EndsIn xs end_l → ((z : ℕ) → count z j.pre + count z (tail ∷ []) + count z xs + count z j.ys ≤ 1) → j.pre ++ tail ∷ blend [] j.ss j.ts xs j.ys ≡ all → Hung next₀ (set next tail a) x all end_l b endR
      go [] c l apart whole = absurd (d c)
      go (y ∷ xs) c (us, e) apart whole =
          let k = cut next x tail a b end_l j.pre us [] j.ys fits j.run j.some (subst (Chain next a) e c) j.upper (λ z. subst (λ zs. count z j.pre + count z (tail ∷ []) + count z zs + count z j.ys ≤ 1) e (apart z)) in
          record {
            pre = j.pre ++ tail ∷ us;
            ys = j.ys;
            run = k.run;
            some = k.some;
            upper = k.other;
            last = j.last_r;
            apart = λ z. omega (arith, k.apart z);
            whole = append_assoc j.pre (tail ∷ us) (end_l ∷ j.ys) ∙ ap (λ zs. j.pre ++ tail ∷ zs) (sym (append_assoc us (end_l ∷ []) j.ys) ∙ ap (λ zs. zs ++ j.ys) (sym e)) ∙ whole;
            frame = λ z h. get_or-set_other next tail z a 0 (tail_in next₀ next left right x [] all tail a b low high end_l endR fits j.pre (blend [] j.ss j.ts (y ∷ xs) j.ys) whole z h) ∙ j.frame z h;
          }

module _ (next₀ next : List ℕ) (x : ℕ) (all : List ℕ) (t b endR : ℕ) (h : Hung next₀ next x all t b endR) (fits : t < length next) where
  chain_end : Chain (set next t b) x all
  chain_end =
      let at = h.apart t in
      let here = count_same t [] in
      let next' = set next t b in
      subst (Chain next' x) h.whole
      (chain_append next' x t h.pre h.ys h.some (runs_set next t b x t h.pre (omega arith) h.run) (subst (λ i. Chain next' i h.ys) (sym (get_or-set_same next t b 0 fits)) (chain_set next t b b h.ys (omega arith) h.upper)))

  frame_end : (z : ℕ) → count z all ≡ 0 → get_or (set next t b) z 0 ≡ get_or next₀ z 0
  frame_end z k = get_or-set_other next t z b 0 (tail_in next₀ next [] [] x [] all t 0 0 0 0 0 0 fits h.pre h.ys h.whole z k) ∙ h.frame z k

  pub end_none : b ≡ 0 → Joined next₀ (set next t b) x all t
  end_none e = go h.ys h.upper h.whole
    where
      go : (ys : List ℕ) → Chain next b ys → h.pre ++ t ∷ ys ≡ all → Joined next₀ (set next t b) x all t
      go [] c whole = record { chain = chain_end; ends = ends_from all h.pre t (sym whole); frame = frame_end }
      go (y ∷ ys) c whole = absurd (omega (arith, c.0, c.1))

  pub end_right : b ≢ 0 → Joined next₀ (set next t b) x all endR
  end_right d = go h.ys h.upper h.last h.whole
    where
      go : (ys : List ℕ) → Chain next b ys → EndsIn ys endR → h.pre ++ t ∷ ys ≡ all → Joined next₀ (set next t b) x all endR
      go [] c l whole = absurd (d c)
      go (y ∷ ys) c (us, e) whole = record { chain = chain_end; ends = ends_from all (h.pre ++ t ∷ us) endR (sym whole ∙ ap (λ zs. h.pre ++ t ∷ zs) e ∙ sym (append_assoc h.pre (t ∷ us) (endR ∷ []))); frame = frame_end }

-- what is left of the left side hangs on tail, if there is any
abbrev pub HangWay : List ℕ → List ℕ → ℕ → ℕ → ℕ → ℕ → Type 0
HangWay next next2 tail last2 a end_l = ((a ≢ 0) × (next2 ≡ set next tail a) × (last2 ≡ end_l)) ⊎ ((a ≡ 0) × (next2 ≡ next) × (last2 ≡ tail))

hung_is : (next₀ next next2 left right : List ℕ) (x : ℕ) (all : List ℕ) (tail last2 a b low high end_l endR : ℕ) → tail < length next → HangWay next next2 tail last2 a end_l →
    Joining next₀ next left right x [] all tail a b low high end_l endR → Hung next₀ next2 x all last2 b endR
hung_is next₀ next next2 left right x all tail last2 a b low high end_l endR fits (inl (d, e, f)) j = rw (e, f) (hang_left next₀ next left right x all tail a b low high end_l endR j d fits)
hung_is next₀ next next2 left right x all tail last2 a b low high end_l endR fits (inr (d, e, f)) j = rw (e, f) (hang_none next₀ next left right x all tail a b low high end_l endR j d)

-- what is left of both sides hangs
module _ (n : ℕ) (next next2 : List ℕ) (tail last2 a b end_l endR : ℕ) (long : length next ≡ suc n) (p : tail ≤ n) (q : end_l ≤ n) (way : HangWay next next2 tail last2 a end_l) where
  fits : last2 < length next2
  fits = elim way [ inl (d, e, f) ↦ omega (arith, ap length e, length-set next tail a) | inr (d, e, f) ↦ omega (arith, ap length e) ]

  module _ (next₀ left right : List ℕ) (x : ℕ) (all : List ℕ) (low high : ℕ) (j : Joining next₀ next left right x [] all tail a b low high end_l endR) where
    pub closed_right : b ≢ 0 → Joined next₀ (set next2 last2 b) x all endR
    closed_right d = end_right next₀ next2 x all last2 b endR (hung_is next₀ next next2 left right x all tail last2 a b low high end_l endR (omega arith) way j) fits d

    pub closed_none : b ≡ 0 → Joined next₀ (set next2 last2 b) x all last2
    closed_none d = end_none next₀ next2 x all last2 b endR (hung_is next₀ next next2 left right x all tail last2 a b low high end_l endR (omega arith) way j) fits d

chain_none : (next : List ℕ) (i : ℕ) (zs : List ℕ) → Chain next i zs → 0 ≡ length zs → i ≡ 0
chain_none next i [] c e = c
chain_none next i (z ∷ zs) c e = absurd (omega arith)

chain_ends : (next : List ℕ) (i : ℕ) (zs : List ℕ) → Chain next i zs → i ≡ 0 → length zs ≡ 0
chain_ends next i [] c e = refl
chain_ends next i (z ∷ zs) c e = absurd (omega (arith, c.0, c.1))

-- the symbol that is left, by which spine has a lot left
module _ (next₀ next left right : List ℕ) (x : ℕ) (all : List ℕ) (tail a b low high end_l endR : ℕ) where
  pub left_lower : (w : List Bool) → length w ≤ 1 → low ≢ 0 → Joining next₀ next left right x w all tail a b low high end_l endR → w ≡ false ∷ []
  unfolding falses
  left_lower [] few d j = absurd (d (chain_none right low j.ss j.lows j.lefts))
  left_lower (false ∷ []) few d j = refl
  left_lower (true ∷ []) few d j = absurd (d (chain_none right low j.ss j.lows j.lefts))
  left_lower (c ∷ e ∷ w) few d j = absurd (omega arith)

  pub left_upper : (w : List Bool) → length w ≤ 1 → low ≡ 0 → high ≢ 0 → Joining next₀ next left right x w all tail a b low high end_l endR → w ≡ true ∷ []
  unfolding falses trues
  left_upper [] few z d j = absurd (d (chain_none left high j.ts j.highs j.rights))
  left_upper (true ∷ []) few z d j = refl
  left_upper (false ∷ []) few z d j = absurd (omega (arith, j.lefts, chain_ends right low j.ss j.lows z))
  left_upper (c ∷ e ∷ w) few z d j = absurd (omega arith)

  pub left_none : (w : List Bool) → low ≡ 0 → high ≡ 0 → Joining next₀ next left right x w all tail a b low high end_l endR → w ≡ []
  unfolding falses trues
  left_none [] y z j = refl
  left_none (false ∷ w) y z j = absurd (omega (arith, j.lefts, chain_ends right low j.ss j.lows y))
  left_none (true ∷ w) y z j = absurd (omega (arith, j.rights, chain_ends left high j.ts j.highs z))
