use Rattle.lt_trace.specs.Grammar.{txns_of}
use Rattle.lt_runner.proofs.OnLaws.{own_board}
use Rattle.lt_runner.proofs.TraceRoomLaws.{start_shows, start_fresh, start_fits, start_room, all_played}
use Rattle.lt_runner.proofs.serial.play_trace.Goals as goal

pub play_all-requires-clause-board : goal.play_all-requires-clause-board
play_all-requires-clause-board g c = λ κs within.
    let setting = g.Y.Yard.setting c.args.yard.now in
    let events = (g.Y.Pass.Pass.view c.args.pass.now).front in
    let lines = c.args.lines.now in
    let shows = start_shows setting lines c.in_ok-numbers.numbers.keys c.args.trees events c.in_ok-board.board c.in_ok-numbers.ensures c.requires.trees c.requires.fresh c.requires.numbered c.in_ok-board.ensures in
    own_board setting (txns_of lines) events c.in_ok-board.board shows.stands

pub play_all-requires-clause-fresh : goal.play_all-requires-clause-fresh
play_all-requires-clause-fresh g c = λ κs within.
    let setting = g.Y.Yard.setting c.args.yard.now in
    let events = (g.Y.Pass.Pass.view c.args.pass.now).front in
    let lines = c.args.lines.now in
    let shows = start_shows setting lines c.in_ok-numbers.numbers.keys c.args.trees events c.in_ok-board.board c.in_ok-numbers.ensures c.requires.trees c.requires.fresh c.requires.numbered c.in_ok-board.ensures in
    start_fresh setting (txns_of lines) events c.in_ok-board.board shows

pub play_all-requires-clause-lines : goal.play_all-requires-clause-lines
play_all-requires-clause-lines g c = λ κs within.
    let setting = g.Y.Yard.setting c.args.yard.now in
    let events = (g.Y.Pass.Pass.view c.args.pass.now).front in
    let lines = c.args.lines.now in
    let shows = start_shows setting lines c.in_ok-numbers.numbers.keys c.args.trees events c.in_ok-board.board c.in_ok-numbers.ensures c.requires.trees c.requires.fresh c.requires.numbered c.in_ok-board.ensures in
    start_fits setting (txns_of lines) events c.in_ok-board.board lines shows c.requires.lines

pub play_all-requires-clause-room : goal.play_all-requires-clause-room
play_all-requires-clause-room g c = λ κs within.
    let setting = g.Y.Yard.setting c.args.yard.now in
    let events = (g.Y.Pass.Pass.view c.args.pass.now).front in
    let lines = c.args.lines.now in
    let shows = start_shows setting lines c.in_ok-numbers.numbers.keys c.args.trees events c.in_ok-board.board c.in_ok-numbers.ensures c.requires.trees c.requires.fresh c.requires.numbered c.in_ok-board.ensures in
    start_room setting (txns_of lines) events c.in_ok-board.board lines shows c.requires.room

pub returns-clause-comes : goal.returns-clause-comes
returns-clause-comes g c =
    let setting = g.Y.Yard.setting c.args.yard.now in
    let view = g.Y.Pass.Pass.view in
    let events = (view c.args.pass.now).front in
    let lines = c.args.lines.now in
    let shows = start_shows setting lines c.in_ok-numbers.numbers.keys c.args.trees events c.in_ok-board.board c.in_ok-numbers.ensures c.requires.trees c.requires.fresh c.requires.numbered c.in_ok-board.ensures in
    all_played setting (txns_of lines) events (view c.play_all.new.pass).front c.in_ok-board.board c.play_all.new.self lines shows c.in_ok-play_all.ensures.comes
