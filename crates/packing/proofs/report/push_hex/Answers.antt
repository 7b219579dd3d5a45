use Rattle.std.proofs.Common.{◌≡◌, ℕ, ◌+◌, ◌/◌, ◌%◌, ◌<◌, cond, ltb, List, [], ◌∷◌, ◌++◌, is_ok, IfOk, Ok, Err, string_bytes, Result, ap, ◌∙◌, ap₂, arith}
use Rattle.std.proofs.lemmas.List.{append_assoc}
use Rattle.std.proofs.lemmas.Bool.{cond_both}
use Rattle.packing.specs.Reports.{hex_letter}
use Rattle.packing.proofs.report.push_hex.Goals as goal

-- three characters, one after another
three : {E : Type 0} (r : Result (Unit {0}) E) (s₀ s₁ s₂ s₃ e₃ : List ℕ) (a b c : ℕ) → s₁ ≡ s₀ ++ a ∷ [] → s₂ ≡ s₁ ++ b ∷ [] → s₃ ≡ cond (is_ok r) (s₂ ++ e₃) s₂ → e₃ ≡ c ∷ [] → IfOk r (λ u. s₃ ≡ s₀ ++ a ∷ b ∷ c ∷ [])
three (Ok u) s₀ s₁ s₂ s₃ e₃ a b c p q r e =
    r ∙ ap₂ ◌++◌ (q ∙ ap (λ s. s ++ b ∷ []) p ∙ append_assoc s₀ (a ∷ []) (b ∷ [])) e ∙ append_assoc s₀ (a ∷ b ∷ []) (c ∷ [])
three (Err x) s₀ s₁ s₂ s₃ e₃ a b c p q r e = tt

digit_small : (n : ℕ) → n < 16 → hex_letter n < 128
digit_small n h = cond_both (ltb n 10) (48 + n) (55 + n) (λ (m : ℕ). m < 128) (λ t. omega arith) (λ t. omega arith)

pub returns : goal.returns
returns c =
    let b = c.args.byte in
    let s = string_bytes c.args.out.now in
    let d₁ = c.hex_digit.ensures in
    let d₂ = c.hex_digit-2.ensures in
    let fits : b < 256 = c.ranges.byte.fits in
    let l₁ : c.hex_digit.result < 128 = omega (arith, d₁, digit_small (b / 16) (omega arith)) in
    let l₂ : c.hex_digit-2.result < 128 = omega (arith, d₂, digit_small (b % 16) (omega arith)) in
    let e₁ = c.in_ok-push.ensures.ascii (omega arith) in
    let e₂ = c.in_ok-push-2.ensures.ascii l₁ ∙ ap (λ x. x ∷ []) d₁ in
    let e₃ = c.push-3.ensures.ascii l₂ ∙ ap (λ x. x ∷ []) d₂ in
    three c.push-3.result s (string_bytes c.push.new.self) (string_bytes c.push-2.new.self) (string_bytes c.push-3.new.self) _ 32 (hex_letter (b / 16)) (hex_letter (b % 16))
    (c.in_ok-push.ensures.bytes ∙ ap (λ x. s ++ x) e₁)
    (c.in_ok-push-2.ensures.bytes ∙ ap (λ x. string_bytes c.push.new.self ++ x) e₂)
    c.push-3.ensures.bytes
    e₃
