-- What a list that has room is like.
use Rattle.std.proofs.Common.{◌≡◌, ℕ, ◌≤◌, true, eqb, leb, List, [], ◌∷◌, length, sym, refl, ◌∙◌, arith}
use Rattle.std.proofs.lemmas.Bool.{and_parts, eqb-true, leb-true}
use Rattle.answers.specs.Room.{roomy}

none : {X : Type 0} (xs : List X) → length xs ≡ 0 → xs ≡ []
none [] e = refl
none (x ∷ xs) e = absurd (omega arith)

pub room_is : {X : Type 0} (xs : List X) (entries capacity calls : ℕ) → entries ≡ length xs → true ≡ roomy entries capacity calls → (xs ≡ []) × (calls ≤ capacity)
room_is xs entries capacity calls many h =
    let both = and_parts (eqb entries 0) (leb calls capacity) (sym h) in
    (none xs (sym many ∙ eqb-true entries 0 both.0), leb-true calls capacity both.1)
