use Rattle.std.proofs.Common.{ℕ, ◌<◌, length, fold, rules, arith}
use Rattle.lt_runner.specs.Serial.{ends_one}
use Rattle.lt_runner.specs.Board.{game_on, numbers_on}
use Rattle.lt_runner.proofs.BoardLaws.{width}
use Rattle.lt_runner.proofs.WholeRunLaws.{ending_room, ending_more}
use Rattle.lt_runner.proofs.board.Board.end_all.Goals as goal

pub end_one-requires-clause-room : goal.end_one-requires-clause-room
end_one-requires-clause-room g c = λ κs within.
    let setting = g.Y.Yard.setting c.args.yard.now in
    let view = g.Y.Pass.Pass.view in
    let txns = numbers_on c.args.self.now in
    let whole = fold (λ game (txn : ℕ). ends_one setting txns game) (game_on (view c.args.pass.now).front c.args.self.now) txns in
    let inside : c.loop-round._round < length txns = omega (arith, c.loop-round-test.true, c.how_many-round-end.ensures, width c.args.self.now) in
    ending_room setting txns (view c.loop-round.pass).front c.loop-round.self txns c.loop-round._round whole c.loop-round.invariant.onward inside c.requires.room

pub loop-round-preserved : goal.loop-round-preserved
loop-round-preserved g c =
    let setting = g.Y.Yard.setting c.args.yard.now in
    let view = g.Y.Pass.Pass.view in
    let txns = numbers_on c.args.self.now in
    let whole = fold (λ game (txn : ℕ). ends_one setting txns game) (game_on (view c.args.pass.now).front c.args.self.now) txns in
    let inside : c.loop-round._round < length txns = omega (arith, c.loop-round-test.true, c.how_many-round-end.ensures, width c.args.self.now) in
    record {
      acts = search rules;
      onward = ending_more setting txns (view c.loop-round.pass).front (view c.end_one.new.pass).front c.loop-round.self c.end_one.new.self txns c.loop-round._round whole
          c.loop-round.invariant.onward inside c.in_ok-end_one.ensures.comes;
    }
