-- The small books, computed from the definitions.
use Rattle.std.proofs.Common.{refl}
use Rattle.leaders.specs.Order.{best_from, key_of, leads_lot, beats}
use Rattle.leaders.specs.Sheet.{highest, parent, tally, every, spread, insert, ranked, children, unary, is_best, in_l, in_r, full_word, drop_last, sheet}
use Rattle.leaders.specs.Verdict.{falses, trues, close_at, closes, spent, taken, has_too_many, lowest, walk, finish, judged, verdict}
use Rattle.leaders.specs.Rebuilt.{through, past, blend, merge_order, place, prices_of}
use Rattle.leaders.specs.Samples.{Samples}

pub samples_hold : Samples
unfolding best_from key_of leads_lot beats highest parent tally every spread insert ranked children unary is_best in_l in_r full_word drop_last sheet falses trues close_at closes spent taken has_too_many lowest walk finish judged verdict through past blend merge_order place prices_of
samples_hold = record {
  no_lots = (refl, refl);
  one_lot = (refl, refl);
  level = (refl, refl);
  rising = (refl, refl);
  right_second = (refl, refl);
  left_second = (refl, refl);
  left_by_number = (refl, refl);
  six = (refl, refl);
  six_rebuilt = refl;
  four = (refl, refl);
  four_rebuilt = refl;
  four_refused = refl;
  spine_short = refl;
  spine_long = refl;
}
