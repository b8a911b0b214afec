use Rattle.std.proofs.Common.{rules, ◌≡◌, ◌∷◌, ◌++◌, [], ap, ◌∙◌}
use Rattle.lt_runner.specs.Plays.{lines_for}
use Rattle.lt_runner.specs.Seats.{opening_seat}
use Rattle.lt_crew.proofs.ByTxnLaws.{lines_again, turns_more}
use Rattle.lt_crew.proofs.opening.opening_turns.Goals as goal

pub loop-txn-preserved : goal.loop-txn-preserved
loop-txn-preserved c =
    let trees = c.args.trees in
    let lines = c.args.lines.now in
    let txn = c.in-Some.txn.now in
    let again = lines_again txn lines c.own_lines.result.now (c.own_lines.ensures ∙ c.in_ok-by_txn.ensures txn) in
    let seat : c.in_ok-new.field-0 ≡ opening_seat trees txn (lines_for txn lines) = c.in_ok-new.ensures ∙ ap (λ ls. opening_seat trees txn ls) again in
    let first : c.loop-txn.txn-iterator ≡ c.in-Some.txn.now ∷ c.next.new.self = search rules in
    let made : c.push.new.self.items ≡ c.loop-txn.turns.items ++ c.in_ok-new.field-0 ∷ [] = search rules in
    turns_more (λ txn. opening_seat trees txn (lines_for txn lines)) c.loop-txn.turns.items c.push.new.self.items _ c.in_ok-new.field-0
    c.loop-txn.txn-iterator c.next.new.self txn first made seat c.loop-txn.invariant
