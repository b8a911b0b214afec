use Rattle.std.proofs.Common.{◌<◌, length, drop, rules, arith, sym, ◌∙◌}
use Rattle.lt_runner.specs.Serial.{settled}
use Rattle.lt_runner.specs.Board.{game_on, numbers_on}
use Rattle.lt_runner.proofs.BoardLaws.{width}
use Rattle.lt_runner.proofs.OnLaws.{settled_stops, settled_room, settled_more}
use Rattle.lt_runner.proofs.board.Board.settle.Goals as goal

pub returns-then-not-was_released-clause-comes : goal.returns-then-not-was_released-clause-comes
returns-then-not-was_released-clause-comes g c =
    let setting = g.Y.Yard.setting c.args.yard.now in
    let view = g.Y.Pass.Pass.view in
    let txns = numbers_on c.args.self.now in
    let whole = settled setting txns (game_on (view c.args.pass.now).front c.args.self.now) in
    settled_stops setting txns (view c.loop-sweep.pass).front c.loop-sweep.self (drop c.loop-sweep._sweep txns) whole c.loop-sweep.invariant.onward
    (sym c.was_released.ensures ∙ c.if-not-was_released.true)

pub sweep-requires-clause-room : goal.sweep-requires-clause-room
sweep-requires-clause-room g c = λ κs within.
    let setting = g.Y.Yard.setting c.args.yard.now in
    let view = g.Y.Pass.Pass.view in
    let txns = numbers_on c.args.self.now in
    let whole = settled setting txns (game_on (view c.args.pass.now).front c.args.self.now) in
    let inside : c.loop-sweep._sweep < length txns = omega (arith, c.loop-sweep-test.true, c.how_many-sweep-end.ensures, width c.args.self.now) in
    settled_room setting txns (view c.loop-sweep.pass).front c.loop-sweep.self txns c.loop-sweep._sweep whole c.loop-sweep.invariant.onward inside
    (sym c.was_released.ensures ∙ c.if-not-was_released.false) c.requires.room

pub loop-sweep-preserved : goal.loop-sweep-preserved
loop-sweep-preserved g c =
    let setting = g.Y.Yard.setting c.args.yard.now in
    let view = g.Y.Pass.Pass.view in
    let txns = numbers_on c.args.self.now in
    let whole = settled setting txns (game_on (view c.args.pass.now).front c.args.self.now) in
    let inside : c.loop-sweep._sweep < length txns = omega (arith, c.loop-sweep-test.true, c.how_many-sweep-end.ensures, width c.args.self.now) in
    record {
      acts = search rules;
      onward = settled_more setting txns (view c.loop-sweep.pass).front (view c.sweep.new.pass).front c.loop-sweep.self c.sweep.new.self txns c.loop-sweep._sweep whole
          c.loop-sweep.invariant.onward inside (sym c.was_released.ensures ∙ c.if-not-was_released.false) c.in_ok-sweep.ensures.comes;
    }
