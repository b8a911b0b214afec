use Rattle.std.proofs.Common.{◌≡◌, ◌∙◌, ap, subst, map, slice_set, []}
use Rattle.lt_seq.specs.declared.plan.YardPlan.{YardPlan}
use Rattle.lt_seq.specs.Table.{Setting}
use Rattle.lt_seq.specs.Passes.{IsRest}
use Rattle.lt_trace.specs.Grammar.{txns_of}
use Rattle.lt_runner.specs.Serial.{played}
use Rattle.lt_runner.specs.Board.{turns_of}
use Rattle.lt_runner.proofs.WholeRunLaws.{ended_turns}
use Rattle.lt_runner.proofs.TraceRoomLaws.{playable}
use Rattle.lt_runner.proofs.ClosingLaws.{tells, only_pass, only_front, closing, numbers_told, few_told, run_notes_are}
use Rattle.lt_watch.specs.Tellings.{after_notes}
use Rattle.lt_runner.proofs.serial.run_serial.Goals as goal

-- the table that was built is the trace's
abbrev setting_is : YardPlan → Setting
setting_is plan = record { plan = plan; marks = [] }

pub play_trace-requires-clause-lines : goal.play_trace-requires-clause-lines
play_trace-requires-clause-lines g c = λ lifetimes within.
    (playable c.args.trace.now c.args.first (g.Y.Yard.setting c.in_ok-yard.yard) c.lines-lines.result.now (c.in_ok-yard.ensures.setting ∙ ap setting_is c.plan_of-plan.ensures)
    c.lines-lines.ensures.lines c.lines-lines.ensures.trace c.requires.first).fits

pub play_trace-requires-clause-numbered : goal.play_trace-requires-clause-numbered
play_trace-requires-clause-numbered g c = λ lifetimes within.
    (playable c.args.trace.now c.args.first (g.Y.Yard.setting c.in_ok-yard.yard) c.lines-lines.result.now (c.in_ok-yard.ensures.setting ∙ ap setting_is c.plan_of-plan.ensures)
    c.lines-lines.ensures.lines c.lines-lines.ensures.trace c.requires.first).numbered

pub play_trace-requires-clause-room : goal.play_trace-requires-clause-room
play_trace-requires-clause-room g c = λ lifetimes within.
    (playable c.args.trace.now c.args.first (g.Y.Yard.setting c.in_ok-yard.yard) c.lines-lines.result.now (c.in_ok-yard.ensures.setting ∙ ap setting_is c.plan_of-plan.ensures)
    c.lines-lines.ensures.lines c.lines-lines.ensures.trace c.requires.first).room

pub returns-clause-serial : goal.returns-clause-serial
returns-clause-serial g c =
    let view = g.Y.Pass.Pass.view in
    let setting = g.Y.Yard.setting c.in_ok-yard.yard in
    let new = c.play_trace.new.pass in
    let board = c.in_ok-board.board in
    let closed = c.in_ok-lists.field-0 in
    let last = c.take_notes-notes.new.pass in
    let passes = map view (slice_set (slice_set c.in_ok-yard.passes.items 0 new) 0 last) in
    let one : c.plan_of-plan.result.passes ≡ 1 = ap (λ (plan : YardPlan). plan.passes) c.plan_of-plan.ensures in
    let same = only_pass view c.in_ok-yard.passes.items new c.index_mut-2.result.now c.plan_of-plan.result.passes c.in_ok-yard.ensures.passes one c.index_mut-2.ensures.value in
    let front = only_front view c.in_ok-yard.passes.items new last c.plan_of-plan.result.passes c.in_ok-yard.ensures.passes one (c.take_notes-notes.ensures.pass ∙ ap (λ p. record (view p) { notes = [] }) same) in
    tells c.args.trace.now c.args.first setting (view new).front (turns_of board.seats) board.released passes closed c.in_ok-outcomes.outcomes c.pop.new.self.items c.in-Some.receipts
    (c.in_ok-yard.ensures.setting ∙ ap setting_is c.plan_of-plan.ensures)
    c.in_ok-board.ensures.acts.sound.legal
    (c.in_ok-board.ensures.comes.game_is ∙ ap (λ lines. played setting (txns_of lines) lines) c.lines-lines.ensures.lines)
    (subst (λ events. IsRest setting events passes closed) front c.in_ok-lists.ensures.rest)
    c.in-Some.ensures.items
    (c.in_ok-outcomes.ensures ∙ ended_turns board.seats)

pub returns-clause-played_to_end : goal.returns-clause-played_to_end
returns-clause-played_to_end g c =
    let view = g.Y.Pass.Pass.view in
    let setting = g.Y.Yard.setting c.in_ok-yard.yard in
    let lines = c.lines-lines.result.now in
    let events = (view c.play_trace.new.pass).front in
    let board = c.in_ok-board.board in
    numbers_told c.args.trace.now c.args.first events board c.in_ok-outcomes.outcomes c.lines-lines.ensures.trace
    (closing c.args.trace.now c.args.first setting (txns_of lines) lines events board (c.in_ok-yard.ensures.setting ∙ ap setting_is c.plan_of-plan.ensures) c.lines-lines.ensures.lines c.in_ok-board.ensures.comes)
    c.in_ok-outcomes.ensures

pub returns-clause-few : goal.returns-clause-few
returns-clause-few g c =
    let view = g.Y.Pass.Pass.view in
    let setting = g.Y.Yard.setting c.in_ok-yard.yard in
    let new = c.play_trace.new.pass in
    let lines = c.lines-lines.result.now in
    let events = (view new).front in
    let board = c.in_ok-board.board in
    let closed = c.in_ok-lists.field-0 in
    let last = c.take_notes-notes.new.pass in
    let passes = map view (slice_set (slice_set c.in_ok-yard.passes.items 0 new) 0 last) in
    let one : c.plan_of-plan.result.passes ≡ 1 = ap (λ (plan : YardPlan). plan.passes) c.plan_of-plan.ensures in
    let same = only_pass view c.in_ok-yard.passes.items new c.index_mut-2.result.now c.plan_of-plan.result.passes c.in_ok-yard.ensures.passes one c.index_mut-2.ensures.value in
    let front = only_front view c.in_ok-yard.passes.items new last c.plan_of-plan.result.passes c.in_ok-yard.ensures.passes one (c.take_notes-notes.ensures.pass ∙ ap (λ p. record (view p) { notes = [] }) same) in
    let rest = subst (λ events. IsRest setting events passes closed) front c.in_ok-lists.ensures.rest in
    few_told c.args.trace.now c.args.first closed.places events board c.lines-lines.ensures.trace
    (closing c.args.trace.now c.args.first setting (txns_of lines) lines events board (c.in_ok-yard.ensures.setting ∙ ap setting_is c.plan_of-plan.ensures) c.lines-lines.ensures.lines c.in_ok-board.ensures.comes)
    rest.places

pub returns-clause-told : goal.returns-clause-told
returns-clause-told g c =
    let view = g.Y.Pass.Pass.view in
    let setting = g.Y.Yard.setting c.in_ok-yard.yard in
    let new = c.play_trace.new.pass in
    let lines = c.lines-lines.result.now in
    let events = (view new).front in
    let setting_here = c.in_ok-yard.ensures.setting ∙ ap setting_is c.plan_of-plan.ensures in
    let one : c.plan_of-plan.result.passes ≡ 1 = ap (λ (plan : YardPlan). plan.passes) c.plan_of-plan.ensures in
    let same = only_pass view c.in_ok-yard.passes.items new c.index_mut-2.result.now c.plan_of-plan.result.passes c.in_ok-yard.ensures.passes one c.index_mut-2.ensures.value in
    let ends = closing c.args.trace.now c.args.first setting (txns_of lines) lines events c.in_ok-board.board setting_here c.lines-lines.ensures.lines c.in_ok-board.ensures.comes in
    let taken : c.take_notes-notes.result.items ≡ (view new).notes = c.take_notes-notes.ensures.notes ∙ ap (λ p. (view p).notes) same in
    c.tell_notes.ensures ∙ ap (λ ns. map (after_notes ns) (g.T.Tells.logs c.args.watch.now))
    (c.deref.ensures.value ∙ taken ∙ run_notes_are c.args.trace.now c.args.first setting (view new) c.in_ok-board.board setting_here c.in_ok-board.ensures.acts.noted ends)
