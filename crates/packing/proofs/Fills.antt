-- Bits packed into bytes, one more at a time.
use Rattle.std.proofs.Common.{◌≡◌, ℕ, ◌+◌, ◌-◌, ◌*◌, ◌/◌, ◌%◌, ◌<◌, min, Bool, false, List, [], ◌∷◌, ◌++◌, length, get_or, take, drop, set, replicate, sym, ap, ◌∙◌, subst, ap₂, arith}
use Rattle.std.proofs.lemmas.List.{append_assoc, drop-drop, drop-set-lt, length_push}
use Rattle.packed.specs.Packed.{all_bits, packed, packed_room, put_bit}
use Rattle.packed.proofs.Packing.{put_fills, packed_put}
use Rattle.packing.specs.Packs.{bytes_for, PackedInto}

-- the bytes that are left alone by a bit more
rest_more : (n : ℕ) (before now new : List ℕ) (v : ℕ) → new ≡ set now (n / 8) v → drop (bytes_for n) now ≡ drop (bytes_for n) before → drop (bytes_for (n + 1)) new ≡ drop (bytes_for (n + 1)) before
rest_more n before now new v e h =
    let k = n / 8 + 1 - bytes_for n in
    let a : bytes_for (n + 1) ≡ n / 8 + 1 = omega arith in
    let b : bytes_for n + k ≡ n / 8 + 1 = omega arith in
    ap (λ l. drop (bytes_for (n + 1)) l) e
    ∙ drop-set-lt (bytes_for (n + 1)) now (n / 8) v (omega arith)
    ∙ ap (λ j. drop j now) (a ∙ sym b)
    ∙ sym (drop-drop k (bytes_for n) now)
    ∙ ap (λ l. drop k l) h
    ∙ drop-drop k (bytes_for n) before
    ∙ ap (λ j. drop j before) (b ∙ sym a)

-- one bit more
pub fills_more : (bs : List Bool) (n : ℕ) (c : Bool) (before now new : List ℕ) → PackedInto bs n before now → n < packed_room now → new ≡ set now (n / 8) (put_bit (get_or now (n / 8) 0) (n % 8) c) → PackedInto (bs ++ c ∷ []) (n + 1) before new
fills_more bs n c before now new p h e =
    let a : bytes_for (n + 1) ≡ n / 8 + 1 = omega arith in
    let z : 7 - n % 8 ≡ 8 * bytes_for (n + 1) - (n + 1) = omega arith in
    let m : n ≡ min n 32768 = omega arith in
    let t : take n (all_bits now) ≡ bs = ap (λ k. take k (all_bits now)) m ∙ p.tape in
    record {
      count = omega (arith, length_push bs c, p.count);
      tape = packed_put now new n c h e ∙ ap (λ l. l ++ c ∷ []) p.tape;
      filled =
          ap (λ k. take (8 * k) (all_bits new)) a
          ∙ put_fills now new n c (omega arith) e
          ∙ ap₂ (λ l k. l ++ c ∷ replicate k false) t z
          ∙ sym (append_assoc bs (c ∷ []) (replicate (8 * bytes_for (n + 1) - (n + 1)) false));
      rest = rest_more n before now new (put_bit (get_or now (n / 8) 0) (n % 8) c) e p.rest;
    }

-- all bits
pub fills_all : (bs : List Bool) (n : ℕ) (xs : List Bool) (first before now last : List ℕ) → PackedInto xs (length xs) before now → xs ≡ bs → n ≡ length bs → before ≡ first → last ≡ now → PackedInto bs n first last
fills_all bs n xs first before now last p e l f g =
    let a : PackedInto bs (length bs) before now = subst (λ (ys : List Bool). PackedInto ys (length ys) before now) e p in
    let b : PackedInto bs n before now = subst (λ (k : ℕ). PackedInto bs k before now) (sym l) a in
    let c : PackedInto bs n first now = subst (λ (x : List ℕ). PackedInto bs n x now) f b in
    subst (λ (x : List ℕ). PackedInto bs n first x) (sym g) c

-- where there is room, the bits are fewer than it
pub never_full : (bs : List Bool) (i m : ℕ) (before now : List ℕ) → PackedInto bs i before now → m ≡ i → i < packed_room before → length now ≡ length before → length (packed now m) ≡ packed_room now → ⊥
never_full bs i m before now p e h l f =
    let a : length (packed now i) ≡ length bs = ap length p.tape in
    let b : length (packed now m) ≡ length (packed now i) = ap (λ k. length (packed now k)) e in
    omega (arith, p.count)
