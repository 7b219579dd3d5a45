use Rattle.std.proofs.Common.{◌+◌, ◌≤◌, ◌++◌, true, length, sym, ap, ◌∙◌, arith}
use Rattle.leaders.specs.Sheet.{spines, sheet}
use Rattle.links.specs.Walks.{node_brackets}
use Rattle.links.proofs.Walking.{sheet_parts, walked_words}
use Rattle.casting.proofs.Puts.{Going, begun, bit_more, part_more, part_room, rest_room}
use Rattle.casting.proofs.writing.Sheet.punch_all.Goals as goal
use Rattle.casting.proofs.writing.Sheet.punch_all.Goals.{After-append, After-punch_brackets}

-- the first bit stands, and the brackets and the words are to come
begins : (g : _) (c : After-append g) → let P = g.P.Punch in let b = g.L.Lots.order c.args.self.now.lots.now in let n = c.args.self.now.words.sides.n in
    (length (P.written c.clear.new.self) + length (sheet b n) ≤ P.room c.clear.new.self) × Going P.written P.room P.home c.clear.new.self c.append.new.self (node_brackets b n ++ spines b n) (sheet b n)
begins g c =
    let P = g.P.Punch in
    let b = g.L.Lots.order c.args.self.now.lots.now in
    let n = c.args.self.now.words.sides.n in
    let a = c.append.ensures in
    let fits : length (P.written c.clear.new.self) + length (sheet b n) ≤ P.room c.clear.new.self = omega (arith, ap length c.clear.ensures.empty, c.requires.room, c.clear.ensures.room) in
    (fits, bit_more P.written P.room P.home c.append.new.self c.append.result true (node_brackets b n ++ spines b n) fits (begun P.written P.room P.home _ _ _ (sym (sheet_parts b n))) a.bits a.room a.home)

-- the brackets stand, and the words are to come
goes_on : (g : _) (c : After-punch_brackets g) → let P = g.P.Punch in let b = g.L.Lots.order c.args.self.now.lots.now in let n = c.args.self.now.words.sides.n in
    Going P.written P.room P.home c.clear.new.self c.append.new.self (node_brackets b n ++ spines b n) (sheet b n) → Going P.written P.room P.home c.clear.new.self c.punch_brackets.new.punch (spines b n) (sheet b n)
goes_on g c z =
    let P = g.P.Punch in
    let b = g.L.Lots.order c.args.self.now.lots.now in
    let n = c.args.self.now.words.sides.n in
    part_more P.written P.room P.home c.punch_brackets.new.punch (node_brackets b n) (spines b n) z (rw c.requires.ready.counted at c.punch_brackets.ensures)

pub punch_brackets-requires : goal.punch_brackets-requires
punch_brackets-requires g c =
    let P = g.P.Punch in
    let b = g.L.Lots.order c.args.self.now.lots.now in
    let n = c.args.self.now.words.sides.n in
    let z = begins g (goal.at.punch_brackets-requires g c).After-append in
    omega (arith, part_room P.written P.room P.home (node_brackets b n) (spines b n) z.0 z.1, ap length c.requires.ready.counted)

pub punch_words-requires : goal.punch_words-requires
punch_words-requires g c =
    let P = g.P.Punch in
    let w = c.args.self.now.words in
    let at = goal.at.punch_words-requires g c in
    let e = walked_words (g.L.Lots.order c.args.self.now.lots.now) w.sides.n w.sides.left.now w.sides.right.now w.kids.now c.args.self.now.sizes.now c.requires.ready c.requires.sized in
    let z = begins g at.After-append in
    omega (arith, ap length e, rest_room P.written P.room P.home z.0 (goes_on g at.After-punch_brackets z.1))

pub returns-clause-bits : goal.returns-clause-bits
returns-clause-bits g c =
    let P = g.P.Punch in
    let b = g.L.Lots.order c.args.self.now.lots.now in
    let w = c.args.self.now.words in
    let e = walked_words b w.sides.n w.sides.left.now w.sides.right.now w.kids.now c.args.self.now.sizes.now c.requires.ready c.requires.sized in
    let at = goal.at.returns-clause-bits g c in
    let z = goes_on g at.After-punch_brackets (begins g at.After-append).1 in
    c.punch_words.ensures.bits_are ∙ ap (λ v. P.written c.punch_brackets.new.punch ++ v) e ∙ z.bits_are ∙ ap (λ v. v ++ sheet b w.sides.n) c.clear.ensures.empty
