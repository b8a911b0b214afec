use Rattle.std.proofs.Common.{fold, rules}
use Rattle.lt_runner.specs.Serial.{takes_line}
use Rattle.lt_runner.specs.Board.{game_on, numbers_on}
use Rattle.lt_runner.proofs.WholeRunLaws.{taking_fit, taking_room, taking_more}
use Rattle.lt_runner.proofs.board.Board.take_lines.Goals as goal

pub take_line-requires-clause-line : goal.take_line-requires-clause-line
take_line-requires-clause-line g c = λ κs within.
    let setting = g.Y.Yard.setting c.args.yard.now in
    let view = g.Y.Pass.Pass.view in
    taking_fit setting (numbers_on c.args.self.now) (view c.loop-line.pass).front c.loop-line.self c.args.lines.now c.loop-line.line-index c.line-item.result
    c.loop-line.invariant.onward.stands c.loop-line-test.true c.line-item.is c.requires.lines

pub take_line-requires-clause-room : goal.take_line-requires-clause-room
take_line-requires-clause-room g c = λ κs within.
    let setting = g.Y.Yard.setting c.args.yard.now in
    let view = g.Y.Pass.Pass.view in
    let txns = numbers_on c.args.self.now in
    let whole = fold (takes_line setting txns) (game_on (view c.args.pass.now).front c.args.self.now) c.args.lines.now in
    taking_room setting txns (view c.loop-line.pass).front c.loop-line.self c.args.lines.now c.loop-line.line-index c.line-item.result whole
    c.loop-line.invariant.onward c.loop-line-test.true c.line-item.is c.requires.lines c.requires.room

pub loop-line-preserved : goal.loop-line-preserved
loop-line-preserved g c =
    let setting = g.Y.Yard.setting c.args.yard.now in
    let view = g.Y.Pass.Pass.view in
    let txns = numbers_on c.args.self.now in
    let whole = fold (takes_line setting txns) (game_on (view c.args.pass.now).front c.args.self.now) c.args.lines.now in
    record {
      acts = search rules;
      onward = taking_more setting txns (view c.loop-line.pass).front (view c.take_line.new.pass).front c.loop-line.self c.take_line.new.self c.args.lines.now c.loop-line.line-index c.line-item.result whole
          c.loop-line.invariant.onward c.loop-line-test.true c.line-item.is c.in_ok-take_line.ensures.comes;
    }
