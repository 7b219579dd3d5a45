-- The working numbers of linked lots and the bits of the sheet hold the tree of the order; so the prices along its merge order are the rebuilt ones.
use Rattle.std.proofs.Common.{◌≡◌, ℕ, zero, suc, ◌+◌, ◌-◌, ◌*◌, ◌≤◌, min, Bool, ltb, List, ◌++◌, length, get_or, take, drop, set, sym, refl, ap, ◌∙◌, subst, inl, inr, append_assoc, arith, length-append, get_or-set_other}
use Rattle.std.proofs.lemmas.Bool.{cond_both, both_ways, ltb-true, ltb-false}
use Rattle.std.proofs.lemmas.List.{take_at, drop_at}
use Rattle.leaders.specs.Order.{Strict}
use Rattle.leaders.specs.Sheet.{spread, brackets, drop_last, spine_of, spines, sheet}
use Rattle.leaders.specs.Tree.{Tree, leaf, node, size, Wellformed, root, Follows, list_of}
use Rattle.leaders.specs.Rebuilt.{prices_of, merge_order, rebuilt}
use Rattle.leaders.proofs.Trees.{has_a_tree, trees_are_wellformed}
use Rattle.leaders.proofs.Sheets.{Highest, Within, within_left, within_right, full_word_lem}
use Rattle.leaders.proofs.Listing.{list_here}
use Rattle.leaders.proofs.Merging.{merge_is, list_length}
use Rattle.leaders.proofs.Counting.{sheet_lengths}
use Rattle.links.specs.Links.{Linked, last_child}
use Rattle.links.specs.Walks.{top, Chain}
use Rattle.links.proofs.Joins.{parent_is}
use Rattle.links.proofs.Loops.{spread_parts, spread_last}
use Rattle.links.proofs.Walking.{Last, last_is, last_one, parent_root, left_is, right_is}
use Rattle.linking.specs.Linking.{Starts}
use Rattle.rebuilding.specs.Held.{end_of_word, word_at, Holds}
use Rattle.rebuilding.specs.Prices.{Lists, Prices}
use Rattle.rebuilding.proofs.Sides.{once}

module _ (b : ℕ → ℕ → Bool) (s : Strict b) (n : ℕ) (bits : List Bool) (e : sheet b n ≡ bits) (starts : List ℕ) (at : Starts b n n starts) where
  -- the bits up to the word of lot m, and with it
  abbrev front : ℕ → List Bool
  front m = brackets b n ++ spread (spine_of b n) 1 m

  front_length : (m : ℕ) → length (front m) ≡ 2 * n + 2 + length (spread (spine_of b n) 1 m)
  front_length m = omega (arith, length-append (brackets b n) (spread (spine_of b n) 1 m), (sheet_lengths b s n).of_brackets)

  bits_are : (m r : ℕ) → m + r ≡ n → bits ≡ front m ++ spread (spine_of b n) (1 + m) r
  unfolding sheet
  bits_are m r d = sym e ∙ ap (λ w. brackets b n ++ w) (ap (spread (spine_of b n) 1) (sym d) ∙ spread_parts (spine_of b n) 1 m r) ∙ sym (append_assoc (brackets b n) (spread (spine_of b n) 1 m) (spread (spine_of b n) (1 + m) r))

  end_is : (k : ℕ) → 1 ≤ k → k ≤ n → end_of_word bits starts n k ≡ length (front k)
  unfolding sheet
  end_is k p q =
      let d : k + (n - k) ≡ n = omega arith in
      let all = ap length (bits_are k (n - k) d) ∙ length-append (front k) (spread (spine_of b n) (1 + k) (n - k)) in
      cond_both (ltb k n) (min (get_or starts k 0) (length bits)) (length bits) (λ v. v ≡ length (front k))
      (λ h. let i : suc k - 1 ≡ k = omega arith in
      let start : get_or starts k 0 ≡ 2 * n + 2 + length (spread (spine_of b n) 1 k) = rw i at (at (suc k) (omega arith) (ltb-true k n h)) in
      omega (arith, start, front_length k))
      (λ h. let i : k ≡ n = omega (arith, ltb-false k n h) in
      let same : bits ≡ front n = sym e in
      ap length same ∙ ap (λ m. length (front m)) (sym i))

  word_is : (k : ℕ) → 1 ≤ k → k ≤ n → word_at bits starts n k ≡ spine_of b n k
  word_is zero p q = absurd (omega arith)
  word_is (suc m) p q =
      let d : suc m + (n - suc m) ≡ n = omega arith in
      let i : suc m - 1 ≡ m = omega arith in
      let start : length (front m) ≡ get_or starts m 0 = front_length m ∙ sym (rw i at (at (suc m) p q)) in
      let upto : take (end_of_word bits starts n (suc m)) bits ≡ front (suc m) = ap (λ w. take (end_of_word bits starts n (suc m)) w) (bits_are (suc m) (n - suc m) d) ∙ take_at (front (suc m)) (spread (spine_of b n) (1 + suc m) (n - suc m)) (end_of_word bits starts n (suc m)) (sym (end_is (suc m) p q)) in
      let parts : front (suc m) ≡ front m ++ spine_of b n (suc m) = ap (λ w. brackets b n ++ w) (spread_last (spine_of b n) m) ∙ sym (append_assoc (brackets b n) (spread (spine_of b n) 1 m) (spine_of b n (suc m))) in
      ap (λ j. drop (get_or starts j 0) (take (end_of_word bits starts n (suc m)) bits)) i ∙ ap (drop (get_or starts m 0)) (upto ∙ parts) ∙ drop_at (front m) (spine_of b n (suc m)) (get_or starts m 0) start

  module _ (up left right kids : List ℕ) (h : Linked b n n up left right kids) where
    holds : (o : ℕ) (t : Tree) → Follows b o t → Within b n o t → Holds up left right (word_at bits starts n) o t
    unfolding size
    holds o leaf f c = tt
    holds o (node l w r) f c =
        let k = root o l in
        let most : k ≤ n = omega (arith, c.fits) in (
          h.parents k (omega arith) most ∙ parent_root b s n o l w r f c,
          left_is b s n up left right kids h o l w r f c,
          right_is b s n up left right kids h o l w r f c,
          word_is k (omega arith) most ∙ ap drop_last (full_word_lem b s n o l w r f c),
          holds o l f.1 (within_left b n o l w r f c),
          holds k r f.2 (within_right b n o l w r f c),
        )

    -- the best of all lots is the last child of node 0
    last_top : (t : Tree) → size t ≡ n → Follows b 0 t → Within b n 0 t → Last b 0 n (top 0 t)
    unfolding size
    last_top leaf d f c = record { upto = omega arith; child = inl refl; none = λ z p q. absurd (omega arith) }
    last_top (node l w r) d f c = record {
      upto = omega (arith, c.fits);
      child = inr (parent_root b s n 0 l w r f c);
      none = λ z p q i.
          let g : Highest b z (z - 1) 0 = subst (Highest b z (z - 1)) i (parent_is b z) in
          both_ways (b (root 0 l) z) (g.none (root 0 l) (omega arith) (omega arith)) (f.0.over z (omega arith) (omega arith) (omega arith));
    }

    first_is : (t : Tree) → size t ≡ n → Follows b 0 t → Within b n 0 t → get_or right 0 0 ≡ top 0 t
    first_is t d f c = h.rights 0 (omega arith) ∙ last_one b 0 n (last_child b 0 n) (top 0 t) (last_is b 0 n) (last_top t d f c)

    pub prices_are_rebuilt : (next prices : List ℕ) →
        ((t : Tree) → size t ≡ n → Wellformed t → Holds up left right (word_at bits starts n) 0 t → Chain next (top 0 t) (list_of 0 t)) → Prices n next (get_or right 0 0) prices → prices ≡ rebuilt b n
    prices_are_rebuilt next prices chain given =
        let (t, d, f) = has_a_tree b s 0 n in
        let c : Within b n 0 t = record { fits = omega arith; before = inl refl; after = λ h m p q. absurd (omega arith) } in
        let v = trees_are_wellformed b 0 t f in
        let zs = list_of 0 t in
        let lists : Lists n zs = record { long = list_length 0 t ∙ d; once = once 0 t v; here = λ z p q. list_here 0 t z p (omega arith) } in
        let linked = chain t d v (holds 0 t f c) in
        let merged : merge_order b n n 1 n ≡ zs = ap (merge_order b n n 1) (let i : n ≡ 0 + size t = omega arith in i) ∙ merge_is b s n n 0 t f c (omega arith) in
        given zs (subst (λ i. Chain next i zs) (sym (first_is t d f c)) linked) lists ∙ ap (λ w. prices_of n w 1 n) (sym merged)

-- what hangs on node 0 is not read
pub linked_first : (b : ℕ → ℕ → Bool) (n v : ℕ) (up left right kids : List ℕ) → Linked b n n up left right kids → Linked b n n (set up 0 v) left right kids
linked_first b n v up left right kids h = record { parents = λ k p q. get_or-set_other up 0 k v 0 (omega arith) ∙ h.parents k p q; first = h.first; lefts = h.lefts; rights = h.rights; counts = h.counts }

-- a sheet of n lots has at least 2n + 2 bits
pub sheet_least : (b : ℕ → ℕ → Bool) → Strict b → (n : ℕ) → 2 * n + 2 ≤ length (sheet b n)
unfolding sheet
sheet_least b s n = omega (arith, length-append (brackets b n) (spines b n), (sheet_lengths b s n).of_brackets)
