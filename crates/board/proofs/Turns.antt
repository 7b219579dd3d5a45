-- Each call on a board is a turn, and one call more of its run.
use Rattle.std.proofs.Common.{◌≡◌, ℕ, ◌+◌, ◌<◌, ◌≤◌, Bool, true, false, cond, ltb, List, [], ◌∷◌, ◌++◌, map, length, get_or, drop, set, Err, Option, Result, sym, ap, ◌∙◌, subst}
use Rattle.std.proofs.lemmas.List.{at_drop_more, at_drop_all, length-map, map-set}
use Rattle.std.proofs.lemmas.Bool.{lt-ltb, le-ltb, cond-true, cond-false}
use Rattle.leaders.specs.Refusal.{Refusal, refusal}
use Rattle.panel.specs.declared.shown.Shown.{Shown}
use Rattle.board.specs.declared.call.BoardCall.{BoardCall}
use Rattle.board.specs.declared.call.BoardCall.TheVariants.{Take, Page}
use Rattle.board.specs.declared.call.BoardReply.{BoardReply}
use Rattle.board.specs.Pages.{lots_by, page_reply, page_shows, Knows}
use Rattle.board.specs.Showing.{take_answer, page_answer, Turn, turn, turn_of, Showing, showing, turned, shows1, shows}

module _ (v : Result ℕ Refusal) (b : ℕ → ℕ → Bool) (l : Option ℕ) where
  pub take_turn : (k : Option ℕ) (ss : List Shown) (r : Result ℕ Refusal) (a : Result BoardReply Refusal) → k ≡ lots_by v → r ≡ v → a ≡ take_answer r → turn k ss a ≡ turn_of v b l ss Take
  unfolding turn_of
  take_turn k ss r a e f h = rw (h, f, e)

  module _ {D : Type 0} (shown : D → Shown) (ps : List D) (p start size : ℕ) where
    pub no_panel : length ps ≤ p → turn l (map shown ps) (Err (refusal 0 [])) ≡ turn_of v b l (map shown ps) (Page p start size)
    unfolding turn_of
    no_panel past =
        let test : ltb p (length (map shown ps)) ≡ false = le-ltb _ _ (simp length-map past) in
        sym (cond-false _ _ _ test)

    pub page_turn : (q : D) (r : Result (Unit {0}) Refusal) (a : Result BoardReply Refusal) → p < length ps → r ≡ page_reply l start size → a ≡ page_answer r → shown q ≡ page_shows b l start size → turn l (map shown (set ps p q)) a ≡ turn_of v b l (map shown ps) (Page p start size)
    unfolding turn_of
    page_turn q r a lt e h s =
        let test : ltb p (length (map shown ps)) ≡ true = lt-ltb _ _ (simp length-map lt) in
        let is : map shown (set ps p q) ≡ set (map shown ps) p (page_shows b l start size) = map-set shown ps p q ∙ ap (λ z. set (map shown ps) p z) s in
        ap (λ z. turn l z a) is ∙ ap (λ z. turn l (set (map shown ps) p (page_shows b l start size)) z) (h ∙ ap page_answer e) ∙ sym (cond-true _ _ _ test)

-- what a board knows lasts
lots_of : (v : Result ℕ Refusal) (b : ℕ → ℕ → Bool) (bits : List Bool) (l : Option ℕ) (ss : List Shown) (p start size : ℕ) → Knows b l bits → (t : Bool) → Knows b (cond t (turn l (set ss p (page_shows b l start size)) (page_answer (page_reply l start size))) (turn l ss (Err (refusal 0 [])))).lots bits
lots_of v b bits l ss p start size h true = h
lots_of v b bits l ss p start size h false = h

pub knows_more : (v : Result ℕ Refusal) (b : ℕ → ℕ → Bool) (bits : List Bool) (l k : Option ℕ) (ss ts : List Shown) (a : Result BoardReply Refusal) (c : BoardCall) → Knows b (lots_by v) bits → Knows b l bits → turn k ts a ≡ turn_of v b l ss c → Knows b k bits
unfolding turn_of
knows_more v b bits l k ss ts a Take u h e = let f : lots_by v ≡ k = ap (λ (t : Turn). t.lots) (sym e) in subst (λ z. Knows b z bits) f u
knows_more v b bits l k ss ts a (Page p start size) u h e =
    let f = ap (λ (t : Turn). t.lots) (sym e) in
    subst (λ z. Knows b z bits) f (lots_of v b bits l ss p start size h (ltb p (length ss)))

module _ (v : Result ℕ Refusal) (b : ℕ → ℕ → Bool) (xs : List BoardCall) (i : ℕ) where
  pub shows_more : (d : BoardCall) → i < length xs → (l k : Option ℕ) (ss ts : List Shown) (rs qs : List (Result BoardReply Refusal)) (a : Result BoardReply Refusal) → turn k ts a ≡ turn_of v b l ss (get_or xs i d) → qs ≡ rs ++ a ∷ [] →
      shows v b (showing k ts qs) (drop (i + 1) xs) ≡ shows v b (showing l ss rs) (drop i xs)
  unfolding shows shows1
  shows_more d lt l k ss ts rs qs a e pushed =
      ap (λ z. shows v b (showing k ts z) (drop (i + 1) xs)) pushed ∙ ap (λ t. shows v b (turned rs t) (drop (i + 1) xs)) e ∙ sym (at_drop_more (shows v b (showing l ss rs)) xs i d lt)

  pub shows_all : length xs ≤ i → (s : Showing) → shows v b s (drop i xs) ≡ s
  unfolding shows
  shows_all past s = at_drop_all (shows v b s) xs i past

module _ {T : Type 0} (bits_of : T → List Bool) (verdict : List Bool → Result ℕ Refusal) (u t : T) (e : u ≡ t) where
  pub turns_at : (l k : Option ℕ) (ss ts : List Shown) (a : Result BoardReply Refusal) (c : BoardCall) → ((b : ℕ → ℕ → Bool) → Knows b l (bits_of u) → turn k ts a ≡ turn_of (verdict (bits_of u)) b l ss c) → (b : ℕ → ℕ → Bool) → Knows b l (bits_of t) → turn k ts a ≡ turn_of (verdict (bits_of t)) b l ss c
  turns_at l k ss ts a c = subst (λ x. (b : ℕ → ℕ → Bool) → Knows b l (bits_of x) → turn k ts a ≡ turn_of (verdict (bits_of x)) b l ss c) e

  pub ends_at : (now start : Showing) (xs : List BoardCall) (i : ℕ) → length xs ≤ i → ((b : ℕ → ℕ → Bool) → Knows b (lots_by (verdict (bits_of u))) (bits_of u) → shows (verdict (bits_of u)) b now (drop i xs) ≡ shows (verdict (bits_of u)) b start xs) →
      (b : ℕ → ℕ → Bool) → Knows b (lots_by (verdict (bits_of t))) (bits_of t) → ((shows (verdict (bits_of t)) b start xs).shown ≡ now.shown) × ((shows (verdict (bits_of t)) b start xs).answers ≡ now.answers)
  ends_at now start xs i past h b k =
      let there : (c : ℕ → ℕ → Bool) → Knows c (lots_by (verdict (bits_of t))) (bits_of t) → shows (verdict (bits_of t)) c now (drop i xs) ≡ shows (verdict (bits_of t)) c start xs = subst (λ x. (c : ℕ → ℕ → Bool) → Knows c (lots_by (verdict (bits_of x))) (bits_of x) → shows (verdict (bits_of x)) c now (drop i xs) ≡ shows (verdict (bits_of x)) c start xs) e h in
      let is : shows (verdict (bits_of t)) b start xs ≡ now = sym (there b k) ∙ shows_all (verdict (bits_of t)) b xs i past now in
      (ap (λ (s : Showing). s.shown) is, ap (λ (s : Showing). s.answers) is)
