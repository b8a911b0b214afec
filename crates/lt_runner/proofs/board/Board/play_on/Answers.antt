use Rattle.std.proofs.Common.{◌<◌, length, drop, sym, ◌∙◌, rules, arith}
use Rattle.lt_runner.specs.Serial.{plays_on}
use Rattle.lt_runner.specs.Board.{game_on, numbers_on, turn_on}
use Rattle.lt_runner.proofs.OnLaws.{on_stops, on_empty, on_room, on_more}
use Rattle.lt_runner.proofs.board.Board.play_on.Goals as goal

pub returns-then-not-is_ready-clause-comes : goal.returns-then-not-is_ready-clause-comes
returns-then-not-is_ready-clause-comes g c =
    let view = g.Y.Pass.Pass.view in
    let setting = g.Y.Yard.setting c.args.yard.now in
    let lines = (turn_on setting c.args.txn c.args.self.now).lines in
    let whole = plays_on setting c.args.txn lines (game_on (view c.args.pass.now).front c.args.self.now) in
    on_stops setting (numbers_on c.args.self.now) c.args.txn (view c.loop-line.pass).front c.loop-line.self (drop c.loop-line._line lines) whole c.loop-line.invariant.onward
    (sym (c.is_ready.ensures setting) ∙ c.if-not-is_ready.true)

pub returns-then-lines_left-eq0-clause-comes : goal.returns-then-lines_left-eq0-clause-comes
returns-then-lines_left-eq0-clause-comes g c =
    let view = g.Y.Pass.Pass.view in
    let setting = g.Y.Yard.setting c.args.yard.now in
    let lines = (turn_on setting c.args.txn c.args.self.now).lines in
    let whole = plays_on setting c.args.txn lines (game_on (view c.args.pass.now).front c.args.self.now) in
    on_empty setting (numbers_on c.args.self.now) c.args.txn (view c.loop-line.pass).front c.loop-line.self (drop c.loop-line._line lines) whole c.loop-line.invariant.onward
    (sym (c.lines_left.ensures setting) ∙ c.if-lines_left-eq0.true)

pub play_next-requires-clause-room : goal.play_next-requires-clause-room
play_next-requires-clause-room g c = λ κs within.
    let view = g.Y.Pass.Pass.view in
    let setting = g.Y.Yard.setting c.args.yard.now in
    let lines = (turn_on setting c.args.txn c.args.self.now).lines in
    let whole = plays_on setting c.args.txn lines (game_on (view c.args.pass.now).front c.args.self.now) in
    let inside : c.loop-line._line < length lines = omega (arith, c.loop-line-test.true, c.lines_left-line-end.ensures setting) in
    on_room setting (numbers_on c.args.self.now) c.args.txn (view c.loop-line.pass).front c.loop-line.self lines c.loop-line._line whole c.loop-line.invariant.onward
    c.requires.number inside (sym (c.is_ready.ensures setting) ∙ c.if-not-is_ready.false) c.requires.room

pub loop-line-preserved : goal.loop-line-preserved
loop-line-preserved g c =
    let view = g.Y.Pass.Pass.view in
    let setting = g.Y.Yard.setting c.args.yard.now in
    let lines = (turn_on setting c.args.txn c.args.self.now).lines in
    let whole = plays_on setting c.args.txn lines (game_on (view c.args.pass.now).front c.args.self.now) in
    let inside : c.loop-line._line < length lines = omega (arith, c.loop-line-test.true, c.lines_left-line-end.ensures setting) in
    record {
      acts = search rules;
      onward = on_more setting (numbers_on c.args.self.now) c.args.txn (view c.loop-line.pass).front (view c.play_next.new.pass).front c.loop-line.self c.play_next.new.self
          lines c.loop-line._line whole c.loop-line.invariant.onward inside (sym (c.is_ready.ensures setting) ∙ c.if-not-is_ready.false) c.in_ok-play_next.ensures.comes;
    }
