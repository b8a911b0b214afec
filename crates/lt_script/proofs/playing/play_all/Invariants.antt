use Rattle.std.proofs.Common.{drop, take}
use Rattle.lt_script.specs.Grammar.{AreFaultless}
use Rattle.lt_script.specs.Playing.{WerePlayed, HasMade}
use Rattle.lt_script.proofs.playing.play_all.Given as goal

-- the moves so far were played, and the others have no fault behind them
abbrev pub invariant-loop-order : goal.invariant-loop-order
invariant-loop-order g l = record {
  played : WerePlayed l.fn.store (take l.order-index l.moves) l.fn.text.items l.store l.text.items;
  made : HasMade (take l.order-index l.moves) l.store;
  left : AreFaultless (take l.order-index l.moves) (drop l.order-index l.moves);
}
