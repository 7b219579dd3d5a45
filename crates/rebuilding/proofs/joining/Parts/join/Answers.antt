use Rattle.std.proofs.Common.{◌≡◌, ℕ, ◌-◌, Bool, List, ◌++◌, length, get_or, take, drop}
use Rattle.rebuilding.specs.Held.{end_of_word, word_at}
use Rattle.rebuilding.specs.Splices.{Ready}
use Rattle.rebuilding.proofs.joining.Parts.join.Goals as goal

-- the word that is read, as it is for n lots
read : (bits : List Bool) (starts : List ℕ) (n x upto : ℕ) (P : List Bool → Type 0) → length starts ≡ n → upto ≡ end_of_word bits starts (length starts) x → P (word_at bits starts n x) → P (drop (get_or starts (x - 1) 0) (take upto bits))
read bits starts n x upto P long e p = rw (e, long) p

pub returns-clause-joined : goal.returns-clause-joined
returns-clause-joined g c rest all few r =
    let self = c.args.self.now in
    let o = self.order in
    let x = c.args.x in
    let a = c.splice.ensures in
    let f = c.finish.ensures in
    let end_l = get_or self.ends.now (get_or o.sides.left.now x 0) 0 in
    let endR = get_or self.ends.now (get_or o.sides.right.now x 0) 0 in
    let start = read (g.T.Tape.bits self.words.tape.now) self.words.starts.now o.sides.n x c.end-upto.result (λ w. Ready o.next.now o.sides.left.now o.sides.right.now x (w ++ rest) all end_l endR) self.starts_long c.end-upto.ensures.is r in
    let done = (rw a.sides at f.finishes) o.next.now x rest all end_l endR few (a.spliced rest all end_l endR start) in
    (rw (f.sides, a.sides) at c.close.ensures.closes) o.next.now o.sides.left.now o.sides.right.now x all done
