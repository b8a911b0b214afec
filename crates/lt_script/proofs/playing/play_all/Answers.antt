use Rattle.std.proofs.Common.{take, drop, ◌+◌, sym, subst}
use Rattle.lt_script.specs.Grammar.{AreFaultless}
use Rattle.lt_script.specs.Playing.{WerePlayed, HasMade}
use Rattle.lt_script.proofs.MadeLaws.{is_open, one_made}
use Rattle.lt_script.proofs.PlayLaws.{one_played, next_left, one_taken}
use Rattle.lt_script.proofs.playing.play_all.Goals as goal

-- its transaction has not ended
pub step-requires-clause-open : goal.step-requires-clause-open
step-requires-clause-open g c = λ κs within.
    let moves = c.args.moves.now in
    let i = c.loop-order.order-index in
    let m = c.order-item.result in
    let left = next_left moves i m c.loop-order-test.true c.order-item.is c.loop-order.invariant.left in
    c.loop-order.invariant.made.ended m.txn (is_open (take i moves) m left.0)

-- one more move is played
pub loop-order-preserved : goal.loop-order-preserved
loop-order-preserved g c =
    let moves = c.args.moves.now in
    let i = c.loop-order.order-index in
    let m = c.order-item.result in
    let before = take i moves in
    let store = c.loop-order.store in
    let next = c.in_ok-next.next in
    let left = next_left moves i m c.loop-order-test.true c.order-item.is c.loop-order.invariant.left in
    let taken = sym (one_taken moves i m c.loop-order-test.true c.order-item.is) in
    let written = c.loop-order.text.items in
    let more = c.push_answer.new.text.items in
    let played = one_played c.args.store before c.args.text.now.items written more store next m c.in_ok-next.answer
    c.loop-order.invariant.played c.in_ok-next.ensures.steps c.in_ok-next.ensures.serial c.in_ok-push_answer.ensures in
    let made = one_made before m store next c.in_ok-next.answer left.0 c.loop-order.invariant.made c.in_ok-next.ensures.steps in
    record {
      played = subst (λ l. WerePlayed c.args.store l c.args.text.now.items next more) taken played;
      made = subst (λ l. HasMade l next) taken made;
      left = subst (λ l. AreFaultless l (drop (i + 1) moves)) taken left.1;
    }
