use Rattle.std.proofs.Common.{◌≡◌, [], None, Err, sym, ap, subst, ◌∙◌}
use Rattle.lt_seq.specs.declared.event.Deed.TheVariants.{Ask}
use Rattle.lt_seq.specs.declared.event.Reply.{Reply}
use Rattle.lt_seq.specs.declared.event.Reply.TheVariants.{Granted}
use Rattle.lt_seq.specs.declared.fault.Fault.{Fault}
use Rattle.lt_seq.specs.declared.fault.Fault.TheVariants.{Busy, HistoryFull, OutOfLocks}
use Rattle.lt_seq.specs.Yard.{AskAnswers}
use Rattle.lt_history.specs.declared.outcome.Outcome.TheVariants.{OutOfLocks as StoppedAt}
use Rattle.lt_runner.specs.Turn.{asked_at, reply_in}
use Rattle.lt_runner.specs.Attempt.{bar_of}
use Rattle.lt_runner.specs.Seats.{idle}
use Rattle.lt_runner.specs.PlaysOn.{IsFit, IsNextAsk, PlaysOn}
use Rattle.lt_runner.specs.PlaysAlone.{IsPlayedAtOnce}
use Rattle.lt_runner.proofs.NoteLaws.{asks_notes}
use Rattle.lt_runner.specs.Work.{Spends}
use Rattle.lt_runner.proofs.SpendLaws.{spends_asked, spends_stopped, spends_refused}
use Rattle.lt_runner.proofs.PlayMoveLaws.{asked_at_once, stopped_at_once, ask_not_refused, is_caused_by_ask}
use Rattle.lt_runner.proofs.PlaysOnLaws.{plays_asked, plays_stopped, ask_refused, answer_of, fit_ended}
use Rattle.lt_runner.proofs.turn.Turn.ask.Goals as goal

pub returns-in_ok-replied-in-Ok-clause-plays : goal.returns-in_ok-replied-in-Ok-clause-plays
returns-in_ok-replied-in-Ok-clause-plays g c =
    let setting = g.Y.Yard.setting c.args.yard.now in
    let old = g.Y.Pass.Pass.view c.args.pass.now in
    let new = g.Y.Pass.Pass.view c.ask.new.pass in
    let seat = c.args.self.now in
    let tree = c.args.tree in
    let range = c.args.range.now in
    let rest = c.requires.line.0 in
    let receipt = c.in-Ok.receipt in
    let next : IsNextAsk seat.turn tree range c.args.line.now rest = record { lines = c.requires.line.1; asks_it = c.requires.asks; goes = c.requires.next.goes } in
    let answers = subst (AskAnswers setting (bar_of setting seat.turn) old new seat.turn.txn (Ask tree range Granted)) c.in-Ok.is
    (answer_of setting old new seat c.number.result c.is_big.result (Ask tree range Granted) c.ask.result c.number.ensures c.is_big.ensures c.ask.ensures.answer) in
    let is : c.replied.new.self ≡ idle (asked_at seat.turn.lines (reply_in receipt.event.deed) None seat.turn) =
    c.in_ok-replied-in-Ok.ensures.turn ∙ ap (λ (r : Reply). idle (asked_at seat.turn.lines r None seat.turn)) c.reply_in.ensures in
    subst (PlaysOn setting [] old new seat) (sym is) (plays_asked setting [] old new seat tree range c.args.line.now rest receipt next c.requires.ready.sound answers)

pub returns-in_ok-end_as-in-Err-OutOfLocks-clause-fit : goal.returns-in_ok-end_as-in-Err-OutOfLocks-clause-fit
returns-in_ok-end_as-in-Err-OutOfLocks-clause-fit g c =
    let setting = g.Y.Yard.setting c.args.yard.now in
    let stop = c.in-Err-OutOfLocks in
    subst (IsFit setting) (sym c.in_ok-end_as-in-Err-OutOfLocks.ensures.ended) (fit_ended setting c.args.self.now (StoppedAt stop.place stop.used) c.requires.fit)

pub returns-in_ok-end_as-in-Err-OutOfLocks-clause-plays : goal.returns-in_ok-end_as-in-Err-OutOfLocks-clause-plays
returns-in_ok-end_as-in-Err-OutOfLocks-clause-plays g c =
    let setting = g.Y.Yard.setting c.args.yard.now in
    let old = g.Y.Pass.Pass.view c.args.pass.now in
    let new = g.Y.Pass.Pass.view c.ask.new.pass in
    let seat = c.args.self.now in
    let tree = c.args.tree in
    let range = c.args.range.now in
    let rest = c.requires.line.0 in
    let stop = c.in-Err-OutOfLocks in
    let next : IsNextAsk seat.turn tree range c.args.line.now rest = record { lines = c.requires.line.1; asks_it = c.requires.asks; goes = c.requires.next.goes } in
    let result_is : c.ask.result ≡ Err (OutOfLocks stop.place stop.used) = stop.is ∙ ap (λ (f : Fault). Err f) stop.field-0-is in
    let answers = subst (AskAnswers setting (bar_of setting seat.turn) old new seat.turn.txn (Ask tree range Granted)) result_is
    (answer_of setting old new seat c.number.result c.is_big.result (Ask tree range Granted) c.ask.result c.number.ensures c.is_big.ensures c.ask.ensures.answer) in
    subst (PlaysOn setting [] old new seat) (sym c.in_ok-end_as-in-Err-OutOfLocks.ensures.ended)
    (plays_stopped setting [] old new seat tree range c.args.line.now rest stop.place stop.used next c.requires.ready.plan.trees c.requires.ready.sound answers)

pub returns-in-Err-Busy-clause-plays : goal.returns-in-Err-Busy-clause-plays
returns-in-Err-Busy-clause-plays g c =
    let setting = g.Y.Yard.setting c.args.yard.now in
    let old = g.Y.Pass.Pass.view c.args.pass.now in
    let new = g.Y.Pass.Pass.view c.ask.new.pass in
    let seat = c.args.self.now in
    let tree = c.args.tree in
    let range = c.args.range.now in
    let rest = c.requires.line.0 in
    let busy = c.in-Err-Busy in
    let next : IsNextAsk seat.turn tree range c.args.line.now rest = record { lines = c.requires.line.1; asks_it = c.requires.asks; goes = c.requires.next.goes } in
    let result_is : c.ask.result ≡ Err (Busy busy.row busy.holder) = busy.is ∙ ap (λ (f : Fault). Err f) busy.field-0-is in
    let answers = subst (AskAnswers setting (bar_of setting seat.turn) old new seat.turn.txn (Ask tree range Granted)) result_is
    (answer_of setting old new seat c.number.result c.is_big.result (Ask tree range Granted) c.ask.result c.number.ensures c.is_big.ensures c.ask.ensures.answer) in
    subst (PlaysOn setting [] old new seat) (sym c.give_way.ensures)
    (ask_refused setting [] old new seat tree range c.args.line.now rest (Busy busy.row busy.holder) next c.requires.next (λ never. never) c.requires.ready.sound answers)

pub returns-in-Err-HistoryFull-clause-plays : goal.returns-in-Err-HistoryFull-clause-plays
returns-in-Err-HistoryFull-clause-plays g c =
    let setting = g.Y.Yard.setting c.args.yard.now in
    let old = g.Y.Pass.Pass.view c.args.pass.now in
    let new = g.Y.Pass.Pass.view c.ask.new.pass in
    let seat = c.args.self.now in
    let tree = c.args.tree in
    let range = c.args.range.now in
    let rest = c.requires.line.0 in
    let full = c.in-Err-HistoryFull in
    let next : IsNextAsk seat.turn tree range c.args.line.now rest = record { lines = c.requires.line.1; asks_it = c.requires.asks; goes = c.requires.next.goes } in
    let result_is : c.ask.result ≡ Err (HistoryFull full.place) = full.is ∙ ap (λ (f : Fault). Err f) full.field-0-is in
    let answers = subst (AskAnswers setting (bar_of setting seat.turn) old new seat.turn.txn (Ask tree range Granted)) result_is
    (answer_of setting old new seat c.number.result c.is_big.result (Ask tree range Granted) c.ask.result c.number.ensures c.is_big.ensures c.ask.ensures.answer) in
    subst (PlaysOn setting [] old new seat) (sym c.give_way-in-Err-HistoryFull.ensures)
    (ask_refused setting [] old new seat tree range c.args.line.now rest (HistoryFull full.place) next c.requires.next (λ never. never) c.requires.ready.sound answers)

pub returns-in_ok-replied-in-Ok-clause-alone : goal.returns-in_ok-replied-in-Ok-clause-alone
returns-in_ok-replied-in-Ok-clause-alone g c =
    let setting = g.Y.Yard.setting c.args.yard.now in
    let old = g.Y.Pass.Pass.view c.args.pass.now in
    let new = g.Y.Pass.Pass.view c.ask.new.pass in
    let seat = c.args.self.now in
    let tree = c.args.tree in
    let range = c.args.range.now in
    let rest = c.requires.line.0 in
    let next : IsNextAsk seat.turn tree range c.args.line.now rest = record { lines = c.requires.line.1; asks_it = c.requires.asks; goes = c.requires.next.goes } in
    let receipt = c.in-Ok.receipt in
    let answers = subst (AskAnswers setting (bar_of setting seat.turn) old new seat.turn.txn (Ask tree range Granted)) c.in-Ok.is
    (answer_of setting old new seat c.number.result c.is_big.result (Ask tree range Granted) c.ask.result c.number.ensures c.is_big.ensures c.ask.ensures.answer) in
    let is : c.replied.new.self ≡ idle (asked_at seat.turn.lines (reply_in receipt.event.deed) None seat.turn) =
    c.in_ok-replied-in-Ok.ensures.turn ∙ ap (λ (r : Reply). idle (asked_at seat.turn.lines r None seat.turn)) c.reply_in.ensures in
    λ may. subst (IsPlayedAtOnce setting seat.turn.lines old.front new.front seat) (sym is)
    (asked_at_once setting old new seat tree range c.args.line.now rest receipt next answers may)

pub returns-in_ok-end_as-in-Err-OutOfLocks-clause-alone : goal.returns-in_ok-end_as-in-Err-OutOfLocks-clause-alone
returns-in_ok-end_as-in-Err-OutOfLocks-clause-alone g c =
    let setting = g.Y.Yard.setting c.args.yard.now in
    let old = g.Y.Pass.Pass.view c.args.pass.now in
    let new = g.Y.Pass.Pass.view c.ask.new.pass in
    let seat = c.args.self.now in
    let tree = c.args.tree in
    let range = c.args.range.now in
    let rest = c.requires.line.0 in
    let next : IsNextAsk seat.turn tree range c.args.line.now rest = record { lines = c.requires.line.1; asks_it = c.requires.asks; goes = c.requires.next.goes } in
    let stop = c.in-Err-OutOfLocks in
    let result_is : c.ask.result ≡ Err (OutOfLocks stop.place stop.used) = stop.is ∙ ap (λ (f : Fault). Err f) stop.field-0-is in
    let answers = subst (AskAnswers setting (bar_of setting seat.turn) old new seat.turn.txn (Ask tree range Granted)) result_is
    (answer_of setting old new seat c.number.result c.is_big.result (Ask tree range Granted) c.ask.result c.number.ensures c.is_big.ensures c.ask.ensures.answer) in
    λ may. subst (IsPlayedAtOnce setting seat.turn.lines old.front new.front seat) (sym c.in_ok-end_as-in-Err-OutOfLocks.ensures.ended)
    (stopped_at_once setting old new seat tree range c.args.line.now rest stop.place stop.used next c.requires.ready.plan.trees answers may)

pub returns-in-Err-Busy-clause-caused : goal.returns-in-Err-Busy-clause-caused
returns-in-Err-Busy-clause-caused g c =
    let setting = g.Y.Yard.setting c.args.yard.now in
    let old = g.Y.Pass.Pass.view c.args.pass.now in
    let new = g.Y.Pass.Pass.view c.ask.new.pass in
    let seat = c.args.self.now in
    let tree = c.args.tree in
    let range = c.args.range.now in
    let busy = c.in-Err-Busy in
    let result_is : c.ask.result ≡ Err (Busy busy.row busy.holder) = busy.is ∙ ap (λ (f : Fault). Err f) busy.field-0-is in
    let answers = subst (AskAnswers setting (bar_of setting seat.turn) old new seat.turn.txn (Ask tree range Granted)) result_is
    (answer_of setting old new seat c.number.result c.is_big.result (Ask tree range Granted) c.ask.result c.number.ensures c.is_big.ensures c.ask.ensures.answer) in
    is_caused_by_ask setting old new seat.turn (Ask tree range Granted) (Busy busy.row busy.holder) c.requires.ready.sound answers (λ place rows e. cc)

pub returns-in-Err-HistoryFull-clause-caused : goal.returns-in-Err-HistoryFull-clause-caused
returns-in-Err-HistoryFull-clause-caused g c =
    let setting = g.Y.Yard.setting c.args.yard.now in
    let old = g.Y.Pass.Pass.view c.args.pass.now in
    let new = g.Y.Pass.Pass.view c.ask.new.pass in
    let seat = c.args.self.now in
    let tree = c.args.tree in
    let range = c.args.range.now in
    let full = c.in-Err-HistoryFull in
    let result_is : c.ask.result ≡ Err (HistoryFull full.place) = full.is ∙ ap (λ (f : Fault). Err f) full.field-0-is in
    let answers = subst (AskAnswers setting (bar_of setting seat.turn) old new seat.turn.txn (Ask tree range Granted)) result_is
    (answer_of setting old new seat c.number.result c.is_big.result (Ask tree range Granted) c.ask.result c.number.ensures c.is_big.ensures c.ask.ensures.answer) in
    is_caused_by_ask setting old new seat.turn (Ask tree range Granted) (HistoryFull full.place) c.requires.ready.sound answers (λ place rows e. cc)

pub returns-in-Err-HistoryFull-clause-alone : goal.returns-in-Err-HistoryFull-clause-alone
returns-in-Err-HistoryFull-clause-alone g c =
    let setting = g.Y.Yard.setting c.args.yard.now in
    let old = g.Y.Pass.Pass.view c.args.pass.now in
    let new = g.Y.Pass.Pass.view c.ask.new.pass in
    let seat = c.args.self.now in
    let tree = c.args.tree in
    let range = c.args.range.now in
    let full = c.in-Err-HistoryFull in
    let result_is : c.ask.result ≡ Err (HistoryFull full.place) = full.is ∙ ap (λ (f : Fault). Err f) full.field-0-is in
    let answers = subst (AskAnswers setting (bar_of setting seat.turn) old new seat.turn.txn (Ask tree range Granted)) result_is
    (answer_of setting old new seat c.number.result c.is_big.result (Ask tree range Granted) c.ask.result c.number.ensures c.is_big.ensures c.ask.ensures.answer) in
    λ may. ask_not_refused setting old new seat c.give_way-in-Err-HistoryFull.new.self (Ask tree range Granted) (HistoryFull full.place) may answers (λ place rows e. cc)

pub returns-in_err-replied-in-Ok-clause-noted : goal.returns-in_err-replied-in-Ok-clause-noted
returns-in_err-replied-in-Ok-clause-noted g c =
    let setting = g.Y.Yard.setting c.args.yard.now in
    asks_notes setting _ (g.Y.Pass.Pass.view c.args.pass.now) (g.Y.Pass.Pass.view c.ask.new.pass) c.number.result _ c.ask.result c.ask.ensures.answer

pub returns-in_err-end_as-in-Err-OutOfLocks-clause-noted : goal.returns-in_err-end_as-in-Err-OutOfLocks-clause-noted
returns-in_err-end_as-in-Err-OutOfLocks-clause-noted g c =
    let setting = g.Y.Yard.setting c.args.yard.now in
    asks_notes setting _ (g.Y.Pass.Pass.view c.args.pass.now) (g.Y.Pass.Pass.view c.ask.new.pass) c.number.result _ c.ask.result c.ask.ensures.answer

pub returns-in_ok-replied-in-Ok-clause-noted : goal.returns-in_ok-replied-in-Ok-clause-noted
returns-in_ok-replied-in-Ok-clause-noted g c =
    let setting = g.Y.Yard.setting c.args.yard.now in
    asks_notes setting _ (g.Y.Pass.Pass.view c.args.pass.now) (g.Y.Pass.Pass.view c.ask.new.pass) c.number.result _ c.ask.result c.ask.ensures.answer

pub returns-in_ok-end_as-in-Err-OutOfLocks-clause-noted : goal.returns-in_ok-end_as-in-Err-OutOfLocks-clause-noted
returns-in_ok-end_as-in-Err-OutOfLocks-clause-noted g c =
    let setting = g.Y.Yard.setting c.args.yard.now in
    asks_notes setting _ (g.Y.Pass.Pass.view c.args.pass.now) (g.Y.Pass.Pass.view c.ask.new.pass) c.number.result _ c.ask.result c.ask.ensures.answer

pub returns-in-Err-OutOfMemory-clause-noted : goal.returns-in-Err-OutOfMemory-clause-noted
returns-in-Err-OutOfMemory-clause-noted g c =
    let setting = g.Y.Yard.setting c.args.yard.now in
    asks_notes setting _ (g.Y.Pass.Pass.view c.args.pass.now) (g.Y.Pass.Pass.view c.ask.new.pass) c.number.result _ c.ask.result c.ask.ensures.answer

pub returns-in-Err-HistoryFull-clause-noted : goal.returns-in-Err-HistoryFull-clause-noted
returns-in-Err-HistoryFull-clause-noted g c =
    let setting = g.Y.Yard.setting c.args.yard.now in
    asks_notes setting _ (g.Y.Pass.Pass.view c.args.pass.now) (g.Y.Pass.Pass.view c.ask.new.pass) c.number.result _ c.ask.result c.ask.ensures.answer

pub returns-in-Err-Busy-clause-noted : goal.returns-in-Err-Busy-clause-noted
returns-in-Err-Busy-clause-noted g c =
    let setting = g.Y.Yard.setting c.args.yard.now in
    asks_notes setting _ (g.Y.Pass.Pass.view c.args.pass.now) (g.Y.Pass.Pass.view c.ask.new.pass) c.number.result _ c.ask.result c.ask.ensures.answer

pub returns-in_ok-replied-in-Ok-clause-spends : goal.returns-in_ok-replied-in-Ok-clause-spends
returns-in_ok-replied-in-Ok-clause-spends g c =
    let setting = g.Y.Yard.setting c.args.yard.now in
    let old = g.Y.Pass.Pass.view c.args.pass.now in
    let new = g.Y.Pass.Pass.view c.ask.new.pass in
    let seat = c.args.self.now in
    let tree = c.args.tree in
    let range = c.args.range.now in
    let rest = c.requires.line.0 in
    let next : IsNextAsk seat.turn tree range c.args.line.now rest = record { lines = c.requires.line.1; asks_it = c.requires.asks; goes = c.requires.next.goes } in
    let receipt = c.in-Ok.receipt in
    let answers = subst (AskAnswers setting (bar_of setting seat.turn) old new seat.turn.txn (Ask tree range Granted)) c.in-Ok.is
    (answer_of setting old new seat c.number.result c.is_big.result (Ask tree range Granted) c.ask.result c.number.ensures c.is_big.ensures c.ask.ensures.answer) in
    let is : c.replied.new.self ≡ idle (asked_at seat.turn.lines (reply_in receipt.event.deed) None seat.turn) =
    c.in_ok-replied-in-Ok.ensures.turn ∙ ap (λ (r : Reply). idle (asked_at seat.turn.lines r None seat.turn)) c.reply_in.ensures in
    subst (Spends setting old new seat) (sym is) (spends_asked setting old new seat tree range c.args.line.now rest receipt next c.requires.fit c.requires.ready.sound answers).spends

pub returns-in_ok-end_as-in-Err-OutOfLocks-clause-spends : goal.returns-in_ok-end_as-in-Err-OutOfLocks-clause-spends
returns-in_ok-end_as-in-Err-OutOfLocks-clause-spends g c =
    let setting = g.Y.Yard.setting c.args.yard.now in
    let old = g.Y.Pass.Pass.view c.args.pass.now in
    let new = g.Y.Pass.Pass.view c.ask.new.pass in
    let seat = c.args.self.now in
    let tree = c.args.tree in
    let range = c.args.range.now in
    let rest = c.requires.line.0 in
    let next : IsNextAsk seat.turn tree range c.args.line.now rest = record { lines = c.requires.line.1; asks_it = c.requires.asks; goes = c.requires.next.goes } in
    let stop = c.in-Err-OutOfLocks in
    let result_is : c.ask.result ≡ Err (OutOfLocks stop.place stop.used) = stop.is ∙ ap (λ (f : Fault). Err f) stop.field-0-is in
    let answers = subst (AskAnswers setting (bar_of setting seat.turn) old new seat.turn.txn (Ask tree range Granted)) result_is
    (answer_of setting old new seat c.number.result c.is_big.result (Ask tree range Granted) c.ask.result c.number.ensures c.is_big.ensures c.ask.ensures.answer) in
    subst (Spends setting old new seat) (sym c.in_ok-end_as-in-Err-OutOfLocks.ensures.ended)
    (spends_stopped setting old new seat tree range c.args.line.now rest stop.place stop.used next c.requires.fit c.requires.ready.sound answers).spends

pub returns-in-Err-Busy-clause-spends : goal.returns-in-Err-Busy-clause-spends
returns-in-Err-Busy-clause-spends g c =
    let setting = g.Y.Yard.setting c.args.yard.now in
    let old = g.Y.Pass.Pass.view c.args.pass.now in
    let new = g.Y.Pass.Pass.view c.ask.new.pass in
    let seat = c.args.self.now in
    let tree = c.args.tree in
    let range = c.args.range.now in
    let rest = c.requires.line.0 in
    let next : IsNextAsk seat.turn tree range c.args.line.now rest = record { lines = c.requires.line.1; asks_it = c.requires.asks; goes = c.requires.next.goes } in
    let busy = c.in-Err-Busy in
    let result_is : c.ask.result ≡ Err (Busy busy.row busy.holder) = busy.is ∙ ap (λ (f : Fault). Err f) busy.field-0-is in
    let answers = subst (AskAnswers setting (bar_of setting seat.turn) old new seat.turn.txn (Ask tree range Granted)) result_is
    (answer_of setting old new seat c.number.result c.is_big.result (Ask tree range Granted) c.ask.result c.number.ensures c.is_big.ensures c.ask.ensures.answer) in
    subst (Spends setting old new seat) (sym c.give_way.ensures)
    (spends_refused setting old new seat tree range c.args.line.now rest (Busy busy.row busy.holder) next c.requires.fit c.requires.next (λ never. never) c.requires.ready.sound answers)

pub returns-in-Err-HistoryFull-clause-spends : goal.returns-in-Err-HistoryFull-clause-spends
returns-in-Err-HistoryFull-clause-spends g c =
    let setting = g.Y.Yard.setting c.args.yard.now in
    let old = g.Y.Pass.Pass.view c.args.pass.now in
    let new = g.Y.Pass.Pass.view c.ask.new.pass in
    let seat = c.args.self.now in
    let tree = c.args.tree in
    let range = c.args.range.now in
    let rest = c.requires.line.0 in
    let next : IsNextAsk seat.turn tree range c.args.line.now rest = record { lines = c.requires.line.1; asks_it = c.requires.asks; goes = c.requires.next.goes } in
    let full = c.in-Err-HistoryFull in
    let result_is : c.ask.result ≡ Err (HistoryFull full.place) = full.is ∙ ap (λ (f : Fault). Err f) full.field-0-is in
    let answers = subst (AskAnswers setting (bar_of setting seat.turn) old new seat.turn.txn (Ask tree range Granted)) result_is
    (answer_of setting old new seat c.number.result c.is_big.result (Ask tree range Granted) c.ask.result c.number.ensures c.is_big.ensures c.ask.ensures.answer) in
    subst (Spends setting old new seat) (sym c.give_way-in-Err-HistoryFull.ensures)
    (spends_refused setting old new seat tree range c.args.line.now rest (HistoryFull full.place) next c.requires.fit c.requires.next (λ never. never) c.requires.ready.sound answers)
