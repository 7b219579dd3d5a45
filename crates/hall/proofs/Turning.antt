-- A command performed is a turn of the hall, and a line more of its replies.
use Rattle.std.proofs.Common.{◌≡◌, ℕ, suc, ◌+◌, ◌-◌, ◌*◌, ◌≤◌, Bool, true, false, cond, ltb, List, [], ◌∷◌, ◌++◌, length, drop, IfOk, Some, None, Ok, Err, Option, Result, sym, refl, ap, ◌∙◌, subst, arith}
use Rattle.std.proofs.lemmas.List.{append_assoc, append-nil, drop-drop}
use Rattle.std.proofs.lemmas.Result.{IfOk-weaker}
use Rattle.bits.specs.Punching.{letter_room}
use Rattle.leaders.specs.Order.{Strict, beats}
use Rattle.leaders.specs.Refusal.{Refusal, refusal}
use Rattle.leaders.specs.Verdict.{verdict, judged, closes}
use Rattle.casting.specs.Casts.{Casting, casting, cast_sheet}
use Rattle.book.specs.Entries.{Entry, entry, room_for, sheet_of}
use Rattle.board.specs.Pages.{lots_by, page_reply, page_shows, Knows}
use Rattle.board.proofs.Sittings.{knows_sheet}
use Rattle.commands.specs.Texts.{lines, FirstLine}
use Rattle.replies.specs.Replies.{cast_line, page_line}
use Rattle.hall.specs.Halls.{Terms, terms, program_terms, Hall, hall, book_turn, cast_shown, shown_bits, cast_turn, page_of, line_turn, replies, Stands, Turned, Next}

-- the working numbers past a place stay where those past an earlier one do
pub drop_later : (m k : ℕ) (xs ys : List ℕ) → m ≤ k → drop m xs ≡ drop m ys → drop k xs ≡ drop k ys
drop_later m k xs ys h e =
    let z : m + (k - m) ≡ k = omega arith in
    ap (λ i. drop i xs) (sym z) ∙ sym (drop-drop (k - m) m xs) ∙ ap (drop (k - m)) e ∙ drop-drop (k - m) m ys ∙ ap (λ i. drop i ys) z

pub cast_lots : {K : Type 0} (ks : List K) (shown : Option (List K)) (reply : Result ℕ Refusal) → (cast_shown (hall ks shown) reply).lots ≡ ks
cast_lots ks shown (Ok n) = refl
cast_lots ks shown (Err e) = refl

module _ {K : Type 0} (at_least : K → K → Bool) (ks ls : List K) (shown : Option (List K)) (bits : List Bool) (stands : Stands at_least shown bits) where
  pub book_turned : (e : Entry K) (reply : Result ℕ Refusal) → entry ls reply ≡ e → Turned at_least (book_turn (hall ks shown) e) ls bits
  book_turned e reply is = record { lots_are = ap (λ (z : Entry K). z.lots) is; stands = stands }

  -- a cast stands for the lots as they are now, or nothing changes
  cast_stands : length ks ≤ 4000 → (t u : Bool) (p q : Refusal) (n : ℕ) → let c = cond t (casting bits (Err p)) (cond u (casting bits (Err q)) (casting (sheet_of at_least ks) (Ok n))) in Stands at_least (cast_shown (hall ks shown) c.reply).shown c.bits
  cast_stands few true u p q n = stands
  cast_stands few false true p q n = stands
  cast_stands few false false p q n = record { sheet_is = refl; few = λ zs e. let same : ks ≡ zs = cc in subst (λ (z : List K). length z ≤ 4000) same few }

  module _ (room work : ℕ) where
    cast_same : cast_sheet (sheet_of at_least ks) (length ks) room work bits ≡ cast_sheet (sheet_of at_least ks) (length ks) room work (shown_bits at_least shown)
    cast_same = ap (cast_sheet (sheet_of at_least ks) (length ks) room work) (sym stands.sheet_is)

    pub cast_turned : length ks ≤ 4000 → ls ≡ ks → (new : List Bool) → new ≡ (cast_sheet (sheet_of at_least ks) (length ks) room work bits).bits → Turned at_least (cast_turn (hall ks shown) (cast_sheet (sheet_of at_least ks) (length ks) room work (shown_bits at_least shown))) ls new
    cast_turned few is new w =
        let c : Casting = cast_sheet (sheet_of at_least ks) (length ks) room work bits in
        let st : Stands at_least (cast_shown (hall ks shown) c.reply).shown c.bits = cast_stands few (ltb work (4 * suc (length ks))) (ltb room (length (sheet_of at_least ks))) (refusal 5 []) (refusal 6 (length (sheet_of at_least ks) ∷ [])) (length (sheet_of at_least ks)) in
        subst (λ (z : Casting). Turned at_least (cast_turn (hall ks shown) z) ls new) cast_same (record {
          lots_are = is ∙ sym (cast_lots ks shown c.reply);
          stands = subst (λ (z : List Bool). Stands at_least (cast_shown (hall ks shown) c.reply).shown z) (sym w) st;
        })

    pub cast_replied : {T E : Type 0} (r : Result T E) (before after : List ℕ) → IfOk r (λ _. after ≡ before ++ cast_line (cast_sheet (sheet_of at_least ks) (length ks) room work bits)) → IfOk r (λ _. after ≡ before ++ cast_line (cast_sheet (sheet_of at_least ks) (length ks) room work (shown_bits at_least shown)))
    cast_replied r before after m = IfOk-weaker r _ _ (λ _ w. w ∙ ap (λ (z : Casting). before ++ cast_line z) cast_same) m

-- a page answers for the keys of the last cast
no_verdict : (bits : List Bool) → [] ≡ bits → verdict bits ≡ Err (refusal 7 [])
unfolding verdict judged closes
no_verdict bits e = ap verdict (sym e)

pub page_said : {K : Type 0} (at_least : K → K → Bool) → ((ks : List K) → Strict (beats at_least ks)) → (shown : Option (List K)) (bits : List Bool) → Stands at_least shown bits → (start size : ℕ) (X : List ℕ → Type 0) →
    ((b : ℕ → ℕ → Bool) → Knows b (lots_by (verdict bits)) bits → X (page_line (page_reply (lots_by (verdict bits)) start size) (page_shows b (lots_by (verdict bits)) start size))) → X (page_of at_least shown start size)
page_said at_least strict None bits st start size X h =
    let b = beats at_least [] in
    let e = no_verdict bits st.sheet_is in
    subst (λ (v : Result ℕ Refusal). X (page_line (page_reply (lots_by v) start size) (page_shows b (lots_by v) start size))) e (h b (subst (λ (v : Result ℕ Refusal). Knows b (lots_by v) bits) (sym e) tt))
page_said at_least strict (Some ks) bits st start size X h =
    let b = beats at_least ks in
    let k = knows_sheet b (strict ks) (length ks) (st.few ks refl) bits st.sheet_is in
    subst (λ (v : Result ℕ Refusal). X (page_line (page_reply (lots_by v) start size) (page_shows b (lots_by v) start size))) k.0 (h b k.1)

-- the terms of a hall program, by the sizes of its lists
pub program_terms_lem : {K : Type 0} (make : List ℕ → Option K) (at_least : K → K → Bool) (arity m : ℕ) (text : List ℕ) (w : ℕ) → m ≡ 4000 → length text ≡ 14000 → w ≡ 16004 → terms make at_least arity (room_for m) (letter_room text) w ≡ program_terms make at_least arity
program_terms_lem make at_least arity m text w p q r =
    let room : letter_room text ≡ 14000 = omega arith in
    let most : room_for m ≡ 4000 = omega arith in
    ap (λ z. terms make at_least arity z (letter_room text) w) most ∙ ap (λ z. terms make at_least arity 4000 z w) room ∙ ap (λ z. terms make at_least arity 4000 14000 z) r

-- one line more of the replies
module _ {K : Type 0} (at_least : K → K → Bool) (t : Terms K) (all : List ℕ) where
  line_more : (ks ls : List K) (shown : Option (List K)) (bits : List Bool) (before after text bytes rest : List ℕ) → Turned at_least (line_turn t (hall ks shown) bytes) ls bits → after ≡ before ++ (line_turn t (hall ks shown) bytes).reply →
      replies t (hall ks shown) (lines text) ≡ (line_turn t (hall ks shown) bytes).reply ++ replies t (line_turn t (hall ks shown) bytes).after (lines rest) → before ++ replies t (hall ks shown) (lines text) ≡ all →
      (new : Option (List K)) × (Stands at_least new bits × (after ++ replies t (hall ls new) (lines rest) ≡ all))
  line_more ks ls shown bits before after text bytes rest w said owed inv =
      let n = line_turn t (hall ks shown) bytes in (
        n.after.shown,
        (
          w.stands,
          ap (λ z. z ++ replies t (hall ls n.after.shown) (lines rest)) said
              ∙ ap (λ z. (before ++ n.reply) ++ replies t (hall z n.after.shown) (lines rest)) w.lots_are
              ∙ append_assoc before n.reply (replies t n.after (lines rest))
              ∙ ap (λ z. before ++ z) (sym owed)
              ∙ inv,
        ),
      )

  pub session_more : (ks ls : List K) (shown : Option (List K)) (bits : List Bool) (before after text bytes rest : List ℕ) → FirstLine text bytes rest → Turned at_least (line_turn t (hall ks shown) bytes) ls bits → after ≡ before ++ (line_turn t (hall ks shown) bytes).reply → before ++ replies t (hall ks shown) (lines text) ≡ all →
      (new : Option (List K)) × (Stands at_least new bits × (after ++ replies t (hall ls new) (lines rest) ≡ all))
  unfolding replies
  session_more ks ls shown bits before after text bytes rest first w said inv =
      line_more ks ls shown bits before after text bytes rest w said (ap (replies t (hall ks shown)) first.lines_are) inv

-- the same of a line that has had its turn, and the end
module _ {K : Type 0} (t : Terms K) (all : List ℕ) where
  pub next_more : (ks ls : List K) (shown : Option (List K)) (bits : List Bool) (before after text rest : List ℕ) → Next t (hall ks shown) text rest ls bits before after → before ++ replies t (hall ks shown) (lines text) ≡ all →
      (new : Option (List K)) × (Stands t.at_least new bits × (after ++ replies t (hall ls new) (lines rest) ≡ all))
  next_more ks ls shown bits before after text rest next inv =
      line_more t.at_least t all ks ls shown bits before after text next.line rest next.turned next.replied next.owed inv

  pub session_all : (h : Hall K) (out : List ℕ) (left : List (List ℕ)) → left ≡ [] → out ++ replies t h left ≡ all → out ≡ all
  unfolding replies
  session_all h out left none inv = sym (append-nil out) ∙ ap (λ z. out ++ replies t h z) (sym none) ∙ inv
