use Rattle.bits.proofs.byte_punch.BytePunchPunch.clear.Goals as goal

pub returns-clause-empty : goal.returns-clause-empty
returns-clause-empty g c = g.met.C.Cells.none c.args.self.now.bytes.now
