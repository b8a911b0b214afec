use Rattle.std.proofs.Common.{subst, sym, ap, ◌∙◌, Result, Ok, Err, false}
use Rattle.lt_seq.specs.declared.event.Deed.TheVariants.{Ask}
use Rattle.lt_seq.specs.declared.event.Reply.TheVariants.{Granted}
use Rattle.lt_seq.specs.declared.event.Receipt.{Receipt}
use Rattle.lt_seq.specs.declared.fault.Fault.{Fault}
use Rattle.lt_seq.specs.declared.fault.Fault.TheVariants.{OutOfLocks}
use Rattle.lt_seq.specs.Table.{Setting}
use Rattle.lt_seq.specs.Yard.{AskAnswers, bar_for}
use Rattle.lt_store.specs.Attempts.{setting_of}
use Rattle.lt_store.proofs.LockLaws.{ask_is_fine, ask_is_full, never_full, has_asked}
use Rattle.lt_store.proofs.locks.ask.Goals as goal

pub unreachable-requires-in-Err-HistoryFull : goal.unreachable-requires-in-Err-HistoryFull
unreachable-requires-in-Err-HistoryFull g c =
    let view = g.Y.Pass.Pass.view in
    let limit = (g.Y.Yard.setting c.args.yard.now).plan.limit in
    let on = λ (s : Setting) (r : Result Receipt Fault). AskAnswers s (bar_for s false) (view c.args.pass.now) (view c.ask.new.pass) c.args.txn (Ask 0 c.args.range.now Granted) r in
    never_full limit c.args.txn c.args.range.now (view c.args.pass.now) (view c.ask.new.pass) c.in-Err-HistoryFull.field-0-0 c.requires.table c.requires.room
    (subst (λ r. on (setting_of limit) r) (c.in-Err-HistoryFull.is ∙ ap Err c.in-Err-HistoryFull.field-0-is)
    (subst (λ s. on s c.ask.result) c.requires.setting c.ask.ensures.answer))

pub returns-in-Ok-clause-table : goal.returns-in-Ok-clause-table
returns-in-Ok-clause-table g c =
    let view = g.Y.Pass.Pass.view in
    let limit = (g.Y.Yard.setting c.args.yard.now).plan.limit in
    let on = λ (s : Setting) (r : Result Receipt Fault). AskAnswers s (bar_for s false) (view c.args.pass.now) (view c.ask.new.pass) c.args.txn (Ask 0 c.args.range.now Granted) r in
    let was = ask_is_fine limit c.args.txn c.args.range.now (view c.args.pass.now) (view c.ask.new.pass) c.in-Ok.receipt c.requires.table
    (subst (λ r. on (setting_of limit) r) c.in-Ok.is (subst (λ s. on s c.ask.result) c.requires.setting c.ask.ensures.answer)) in
    was.table

pub returns-in-Ok-clause-asked : goal.returns-in-Ok-clause-asked
returns-in-Ok-clause-asked g c =
    let view = g.Y.Pass.Pass.view in
    let limit = (g.Y.Yard.setting c.args.yard.now).plan.limit in
    let on = λ (s : Setting) (r : Result Receipt Fault). AskAnswers s (bar_for s false) (view c.args.pass.now) (view c.ask.new.pass) c.args.txn (Ask 0 c.args.range.now Granted) r in
    let was = ask_is_fine limit c.args.txn c.args.range.now (view c.args.pass.now) (view c.ask.new.pass) c.in-Ok.receipt c.requires.table
    (subst (λ r. on (setting_of limit) r) c.in-Ok.is (subst (λ s. on s c.ask.result) c.requires.setting c.ask.ensures.answer)) in
    has_asked limit c.args.txn c.args.range.now (view c.args.pass.now) (view c.ask.new.pass) c.in-Ok.receipt c.reply_of.result was c.reply_of.ensures

pub returns-in-Err-OutOfLocks-clause-table : goal.returns-in-Err-OutOfLocks-clause-table
returns-in-Err-OutOfLocks-clause-table g c =
    let view = g.Y.Pass.Pass.view in
    let limit = (g.Y.Yard.setting c.args.yard.now).plan.limit in
    let on = λ (s : Setting) (r : Result Receipt Fault). AskAnswers s (bar_for s false) (view c.args.pass.now) (view c.ask.new.pass) c.args.txn (Ask 0 c.args.range.now Granted) r in
    let was = ask_is_full limit c.args.txn c.args.range.now (view c.args.pass.now) (view c.ask.new.pass) c.in-Err-OutOfLocks.place c.in-Err-OutOfLocks.used c.requires.table
    (subst (λ r. on (setting_of limit) r) (c.in-Err-OutOfLocks.is ∙ ap Err c.in-Err-OutOfLocks.field-0-is) (subst (λ s. on s c.ask.result) c.requires.setting c.ask.ensures.answer)) in
    was.table

pub returns-in-Err-OutOfLocks-clause-asked : goal.returns-in-Err-OutOfLocks-clause-asked
returns-in-Err-OutOfLocks-clause-asked g c =
    let view = g.Y.Pass.Pass.view in
    let limit = (g.Y.Yard.setting c.args.yard.now).plan.limit in
    let on = λ (s : Setting) (r : Result Receipt Fault). AskAnswers s (bar_for s false) (view c.args.pass.now) (view c.ask.new.pass) c.args.txn (Ask 0 c.args.range.now Granted) r in
    let was = ask_is_full limit c.args.txn c.args.range.now (view c.args.pass.now) (view c.ask.new.pass) c.in-Err-OutOfLocks.place c.in-Err-OutOfLocks.used c.requires.table
    (subst (λ r. on (setting_of limit) r) (c.in-Err-OutOfLocks.is ∙ ap Err c.in-Err-OutOfLocks.field-0-is) (subst (λ s. on s c.ask.result) c.requires.setting c.ask.ensures.answer)) in
    was.stopped
