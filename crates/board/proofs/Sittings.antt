-- What the run of a board says of each take, of each page, and of each panel's last page.
use Rattle.std.proofs.Common.{◌≡◌, ℕ, ◌+◌, ◌<◌, ◌≤◌, Bool, true, false, cond, ltb, ◌≢◌, List, [], ◌∷◌, ◌++◌, length, get_or, set, Ok, Err, Option, Result, sym, refl, ap, ◌∙◌, subst, arith}
use Rattle.std.proofs.lemmas.List.{length-set, length-append, append_assoc, append-nil, get_or-set_same, get_or-set_other}
use Rattle.std.proofs.lemmas.Bool.{lt-ltb, cond-true}
use Rattle.leaders.specs.Order.{Strict, beats, dearer}
use Rattle.leaders.specs.Sheet.{sheet}
use Rattle.leaders.specs.Refusal.{Refusal, refusal}
use Rattle.leaders.specs.Verdict.{verdict}
use Rattle.leaders.proofs.Verdicts.{accepts_sheets}
use Rattle.leaders.proofs.Merging.{prices_strict}
use Rattle.leaders.proofs.Promises.{accepted_exactly_when_cast}
use Rattle.panel.specs.declared.shown.Shown.{Shown}
use Rattle.panel.specs.declared.shown.Shown.TheVariants.{Blank}
use Rattle.board.specs.declared.call.BoardCall.{BoardCall}
use Rattle.board.specs.declared.call.BoardCall.TheVariants.{Take, Page}
use Rattle.board.specs.declared.call.BoardReply.{BoardReply}
use Rattle.board.specs.Pages.{lots_by, page_reply, page_shows, Knows}
use Rattle.board.specs.Showing.{take_answer, page_answer, Turn, turn, turn_of, Showing, shows1, shows, idle}
use Rattle.board.specs.Sitting.{Sitting, any_take, Spared, lots_after, Answers, Sat}

-- two lists that are split at the same place
pub split_same : {X : Type 0} (xs ys us vs : List X) (x y : X) → length xs ≡ length ys → xs ++ x ∷ us ≡ ys ++ y ∷ vs → x ≡ y
split_same [] [] us vs x y n e = cc
split_same [] (w ∷ ys) us vs x y n e = absurd (omega arith)
split_same (z ∷ xs) [] us vs x y n e = absurd (omega arith)
split_same (z ∷ xs) (w ∷ ys) us vs x y n e = let f : xs ++ x ∷ us ≡ ys ++ y ∷ vs = cc in split_same xs ys us vs x y (omega arith) f

module _ (v : Result ℕ Refusal) (b : ℕ → ℕ → Bool) where
  pub shows_append : (s : Showing) (xs zs : List BoardCall) → shows v b s (xs ++ zs) ≡ shows v b (shows v b s xs) zs
  unfolding shows
  shows_append s [] zs = refl
  shows_append s (x ∷ xs) zs = shows_append (shows1 v b s x) xs zs

  pub shows_many : (s : Showing) (cs : List BoardCall) → length (shows v b s cs).answers ≡ length s.answers + length cs
  unfolding shows shows1
  shows_many s [] = omega arith
  shows_many s (c ∷ cs) = shows_many (shows1 v b s c) cs ∙ simp length-append (omega arith)

  pub shows_says : (s : Showing) (cs : List BoardCall) → (rs : List (Result BoardReply Refusal)) × ((shows v b s cs).answers ≡ s.answers ++ rs)
  unfolding shows shows1
  shows_says s [] = ([], sym (append-nil s.answers))
  shows_says s (c ∷ cs) = let a = (turn_of v b s.lots s.shown c).answer in let (rs, e) = shows_says (shows1 v b s c) cs in (a ∷ rs, e ∙ append_assoc s.answers (a ∷ []) rs)

  pub take_says : (s : Showing) → s.answers ≡ [] → (f g : List BoardCall) (es rs : List (Result BoardReply Refusal)) (a : Result BoardReply Refusal) → (shows v b s (f ++ Take ∷ g)).answers ≡ es ++ a ∷ rs → length es ≡ length f → a ≡ take_answer v
  unfolding shows shows1 turn_of
  take_says s none f g es rs a e n =
      let l = shows v b s f in
      let x = take_answer v in
      let (qs, h) = shows_says (shows1 v b l Take) g in
      let many : length l.answers ≡ length f = shows_many s f ∙ omega (arith, ap length none) in
      let said : es ++ a ∷ rs ≡ l.answers ++ x ∷ qs = sym e ∙ ap (λ (z : Showing). z.answers) (shows_append s f (Take ∷ g)) ∙ h ∙ append_assoc l.answers (x ∷ []) qs in
      split_same es l.answers rs qs a x (n ∙ sym many) said

  page_shown : (l : Option ℕ) (ss : List Shown) (p : ℕ) (x : Shown) (a : Result BoardReply Refusal) (t : Bool) → length (cond t (turn l (set ss p x) a) (turn l ss (Err (refusal 0 [])))).shown ≡ length ss
  page_shown l ss p x a true = length-set ss p x
  page_shown l ss p x a false = refl

  pub shows_panels : (s : Showing) (cs : List BoardCall) → length (shows v b s cs).shown ≡ length s.shown
  unfolding shows shows1 turn_of
  shows_panels s [] = refl
  shows_panels s (Take ∷ cs) = shows_panels (shows1 v b s Take) cs
  shows_panels s (Page p i n ∷ cs) = shows_panels (shows1 v b s (Page p i n)) cs ∙ page_shown s.lots s.shown p (page_shows b s.lots i n) _ (ltb p (length s.shown))

  page_other : (l : Option ℕ) (ss : List Shown) (p q : ℕ) (x d : Shown) (a : Result BoardReply Refusal) → q ≢ p → (t : Bool) → get_or (cond t (turn l (set ss q x) a) (turn l ss (Err (refusal 0 [])))).shown p d ≡ get_or ss p d
  page_other l ss p q x d a ne true = get_or-set_other ss q p x d (λ e. ne (sym e))
  page_other l ss p q x d a ne false = refl

  pub spared : (p : ℕ) (d : Shown) (s : Showing) (cs : List BoardCall) → Spared p cs → get_or (shows v b s cs).shown p d ≡ get_or s.shown p d
  unfolding shows shows1 turn_of
  spared p d s [] h = refl
  spared p d s (Take ∷ cs) h = spared p d (shows1 v b s Take) cs h
  spared p d s (Page q i n ∷ cs) h = spared p d (shows1 v b s (Page q i n)) cs h.1 ∙ page_other s.lots s.shown p q (page_shows b s.lots i n) d _ h.0 (ltb q (length s.shown))

page_lots : (l : Option ℕ) (ss ts : List Shown) (a : Result BoardReply Refusal) (t : Bool) → (cond t (turn l ts a) (turn l ss (Err (refusal 0 [])))).lots ≡ l
page_lots l ss ts a true = refl
page_lots l ss ts a false = refl

same_cond : {X : Type 0} (t : Bool) (x : X) → cond t x x ≡ x
same_cond true x = refl
same_cond false x = refl

page_answer_lem : (l : Option ℕ) (ss ts : List Shown) (a : Result BoardReply Refusal) (t : Bool) → (cond t (turn l ts a) (turn l ss (Err (refusal 0 [])))).answer ≡ cond t a (Err (refusal 0 []))
page_answer_lem l ss ts a true = refl
page_answer_lem l ss ts a false = refl

module _ (v : Result ℕ Refusal) (b : ℕ → ℕ → Bool) where
  pub lots_then : (s : Showing) (cs : List BoardCall) → (shows v b s cs).lots ≡ cond (any_take cs) (lots_by v) s.lots
  unfolding shows shows1 turn_of
  lots_then s [] = refl
  lots_then s (Take ∷ cs) = lots_then (shows1 v b s Take) cs ∙ same_cond (any_take cs) (lots_by v)
  lots_then s (Page p i m ∷ cs) = lots_then (shows1 v b s (Page p i m)) cs ∙ ap (λ z. cond (any_take cs) (lots_by v) z) (page_lots s.lots s.shown (set s.shown p (page_shows b s.lots i m)) _ (ltb p (length s.shown)))

  pub page_says : (ss : List Shown) (f g : List BoardCall) (es rs : List (Result BoardReply Refusal)) (a : Result BoardReply Refusal) (p start size : ℕ) → (shows v b (idle ss) (f ++ Page p start size ∷ g)).answers ≡ es ++ a ∷ rs → length es ≡ length f → a ≡ cond (ltb p (length ss)) (page_answer (page_reply (lots_after v f) start size)) (Err (refusal 0 []))
  unfolding shows shows1 turn_of
  page_says ss f g es rs a p start size e n =
      let l = shows v b (idle ss) f in
      let x = (turn_of v b l.lots l.shown (Page p start size)).answer in
      let (qs, h) = shows_says v b (shows1 v b l (Page p start size)) g in
      let many : length l.answers ≡ length f = shows_many v b (idle ss) f ∙ omega arith in
      let said : es ++ a ∷ rs ≡ l.answers ++ x ∷ qs = sym e ∙ ap (λ (z : Showing). z.answers) (shows_append v b (idle ss) f (Page p start size ∷ g)) ∙ h ∙ append_assoc l.answers (x ∷ []) qs in
      split_same es l.answers rs qs a x (n ∙ sym many) said
      ∙ page_answer_lem l.lots l.shown (set l.shown p (page_shows b l.lots start size)) (page_answer (page_reply l.lots start size)) (ltb p (length l.shown))
      ∙ ap (λ k. cond (ltb p k) (page_answer (page_reply l.lots start size)) (Err (refusal 0 []))) (shows_panels v b (idle ss) f)
      ∙ ap (λ k. cond (ltb p (length ss)) (page_answer (page_reply k start size)) (Err (refusal 0 []))) (lots_then (idle ss) f)

module _ (v : Result ℕ Refusal) (b : ℕ → ℕ → Bool) where
  -- what the last page on a panel shows stays there
  pub last_page : (ss : List Shown) (f g : List BoardCall) (p start size : ℕ) → Spared p g → p < length ss → get_or (shows v b (idle ss) (f ++ Page p start size ∷ g)).shown p Blank ≡ page_shows b (lots_after v f) start size
  unfolding shows shows1 turn_of
  last_page ss f g p start size h lt =
      let l = shows v b (idle ss) f in
      let x = page_shows b l.lots start size in
      let len : p < length l.shown = omega (arith, shows_panels v b (idle ss) f) in
      let test : ltb p (length l.shown) ≡ true = lt-ltb _ _ len in
      let put : turn_of v b l.lots l.shown (Page p start size) ≡ turn l.lots (set l.shown p x) (page_answer (page_reply l.lots start size)) = cond-true _ _ _ test in
      ap (λ (z : Showing). get_or z.shown p Blank) (shows_append v b (idle ss) f (Page p start size ∷ g))
      ∙ spared v b p Blank (shows1 v b l (Page p start size)) g h
      ∙ ap (λ (z : Turn). get_or z.shown p Blank) put
      ∙ get_or-set_same l.shown p x Blank len
      ∙ ap (λ z. page_shows b z start size) (lots_then v b (idle ss) f)

-- a sitting that ran so went as it should
pub sat : (v : Result ℕ Refusal) (b : ℕ → ℕ → Bool) (s : Sitting) → (shows v b (idle s.before) s.calls).shown ≡ s.shown → (shows v b (idle s.before) s.calls).answers ≡ s.answers → Sat b v s
sat v b s shown answers =
    let ss = s.before in
    let many : length ss ≡ length s.shown = sym (shows_panels v b (idle ss) s.calls) ∙ ap length shown in
    let said : (f g : List BoardCall) (c : BoardCall) (a : Result BoardReply Refusal) → (h : Answers s f c g a) → (shows v b (idle ss) (f ++ c ∷ g)).answers ≡ h.earlier ++ a ∷ h.later =
    λ f g c a h. ap (λ z. (shows v b (idle ss) z).answers) (sym h.calls_are) ∙ answers ∙ h.answers_are in
    record {
      takes = λ f g a h. take_says v b (idle ss) refl f g h.earlier h.later a (said f g Take a h) h.in_step;
      pages = λ f g p start size a h.
          page_says v b ss f g h.earlier h.later a p start size (said f g (Page p start size) a h) h.in_step
          ∙ ap (λ z. cond (ltb p z) (page_answer (page_reply (lots_after v f) start size)) (Err (refusal 0 []))) many;
      shows = λ f g p start size calls spare lt.
          ap (λ z. get_or z p Blank) (sym shown ∙ ap (λ z. (shows v b (idle ss) z).shown) calls) ∙ last_page v b ss f g p start size spare (omega arith);
      spares = λ p spare. ap (λ z. get_or z p Blank) (sym shown) ∙ spared v b p Blank (idle ss) s.calls spare;
      panels = sym many;
    }

-- some order knows the bits: that of the prices that cast them, or any where there are none
pub some_order : (bits : List Bool) (v : Result ℕ Refusal) → verdict bits ≡ v → (b : ℕ → ℕ → Bool) × Knows b (lots_by v) bits
some_order bits (Ok n) e = let (few, (ps, c)) = (accepted_exactly_when_cast bits n).0 e in (beats dearer ps, (prices_strict ps, c.cast))
some_order bits (Err e) h = (ltb, tt)

-- every call of a sitting is answered
pub all_answered : (v : Result ℕ Refusal) (b : ℕ → ℕ → Bool) (s : Sitting) → (shows v b (idle s.before) s.calls).answers ≡ s.answers → length s.answers ≡ length s.calls
all_answered v b s answers = ap length (sym answers) ∙ shows_many v b (idle s.before) s.calls ∙ omega arith

-- the verdict on the sheet of an order, and what a board that has taken it knows
pub knows_sheet : (b : ℕ → ℕ → Bool) → Strict b → (n : ℕ) → n ≤ 4000 → (bits : List Bool) → sheet b n ≡ bits → (verdict bits ≡ Ok n) × Knows b (lots_by (verdict bits)) bits
knows_sheet b s n few bits e =
    let h = (accepts_sheets bits n).1 (b, s, few, e) in
    (h, subst (λ v. Knows b (lots_by v) bits) (sym h) (s, e))
