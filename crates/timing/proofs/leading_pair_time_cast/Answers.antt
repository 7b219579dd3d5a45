use Rattle.std.proofs.Common.{◌≡◌, ℕ, suc, ◌*◌, min, Bool, true, false, cond, ltb, List, length, take, Ok, Err, sym, ap, ◌∙◌, arith, rules}
use Rattle.std.proofs.lemmas.List.{length-take}
use Rattle.leaders.specs.Refusal.{Refusal}
use Rattle.bits.proofs.Bitlists.{take_exact}
use Rattle.leaders.specs.Order.{beats}
use Rattle.leaders.specs.Sheet.{sheet}
use Rattle.keys.specs.Prices.{price_at_least}
use Rattle.packed.specs.Packed.{all_bits, packed, packed_room}
use Rattle.casting.specs.Casts.{casting, cast_sheet}
use Rattle.timing.proofs.leading_pair_time_cast.Goals as goal

-- an accepted cast leaves the sheet, and tells its length
accepted : (a b : Bool) (bs s w : List Bool) (bits m : ℕ) (x y : Refusal) → casting bs (Ok bits) ≡ cond a (casting w (Err x)) (cond b (casting w (Err y)) (casting s (Ok m))) → (bs ≡ s) × (bits ≡ m)
accepted true b bs s w bits m x y e = absurd (let z : ◌≡◌ {A = ℕ} 0 1 = cc (ap (λ c. c.reply) e) in omega arith)
accepted false true bs s w bits m x y e = absurd (let z : ◌≡◌ {A = ℕ} 0 1 = cc (ap (λ c. c.reply) e) in omega arith)
accepted false false bs s w bits m x y e = (ap (λ c. c.bits) e, cc (ap (λ c. c.reply) e))

cast_into : (s w : List Bool) (n room numbers bits count : ℕ) (new end : List ℕ) → end ≡ new → casting (packed new count) (Ok bits) ≡ cast_sheet s n room numbers w → packed end bits ≡ s
cast_into s w n room numbers bits count new end h e =
    let a = accepted (ltb numbers (4 * suc n)) (ltb room (length s)) (packed new count) s w bits (length s) _ _ e in
    let m = min count 32768 in
    let long : bits ≡ min m (length (all_bits new)) = a.1 ∙ sym (ap length a.0) ∙ length-take m (all_bits new) in
    ap (λ z. packed z bits) h
    ∙ ap (λ k. take k (all_bits new)) (let z : min bits 32768 ≡ bits = omega (arith, long) in z)
    ∙ sym (take_exact m bits (all_bits new) long)
    ∙ a.0

pub returns-in-Ok : goal.returns-in-Ok
returns-in-Ok c h =
    let prices = c.args.prices.now in
    let n = min (length prices) 4000 in
    let old = c.new-punch.result in
    let punch = c.cast.new.punch in
    cast_into (sheet (beats price_at_least prices) n) (packed old.bytes.now old.count) n (packed_room old.bytes.now) (length c.args.work.now) c.in-Ok.bits punch.count punch.bytes.now _ (search rules) c.in-Ok.ensures.bits
