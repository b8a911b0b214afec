use Rattle.std.proofs.Common.{◌≡◌, ◌<◌, ◌≤◌, length, sym, ◌∙◌, arith}
use Rattle.lt_watch.proofs.TellingLaws.{told_more, full_more, full_same, told_whole}
use Rattle.lt_watch.proofs.watchers.Watchers.tell_all.Goals as goal
use Rattle.lt_watch.proofs.watchers.Watchers.tell_all.Goals.{then-tell_one, else-tell_one}

pub loop-watch-preserved : goal.loop-watch-preserved
loop-watch-preserved g c =
    let note = c.args.note.now in
    let i = c.loop-watch.watch-index in
    let here : i < length c.loop-watch.watch-items = omega (arith, c.loop-watch.auto.watch-items, c.loop-watch-test.true) in
    let told = c.loop-watch.invariant.0 in
    let count = c.loop-watch.invariant.1 in (
      told_more _ note i _ _ c.watch-item.result _ told here c.tell_one.ensures.told,
      elim c.if-tell_one.branch [
        | then-tell_one w ↦ w.full-is ∙ full_more _ note i _ _ _ c.watch-item.result told here (sym c.tell_one.ensures.full ∙ w.if-tell_one.true) count
        | else-tell_one w ↦ w.full-is ∙ full_same _ note i _ _ _ c.watch-item.result told here (sym c.tell_one.ensures.full ∙ w.if-tell_one.false) count
      ],
    )

pub returns-clause-told : goal.returns-clause-told
returns-clause-told g c =
    let old = c.args.self.now.list.items in
    let same : length c.loop-watch.watch-items ≡ length old = omega (arith, c.loop-watch.auto.watch-items, c.deref_mut-watch-items.ensures.len, c.args.self.now.list.ok) in
    let all : length old ≤ c.loop-watch.watch-index = omega (arith, same, c.loop-watch.auto.watch-items, c.loop-watch-test.false) in
    let room : length old ≤ c.args.self.now.list.len = omega (arith, c.args.self.now.list.ok) in
    told_whole _ c.args.note.now c.loop-watch.watch-index c.args.self.now.list.len old c.loop-watch.watch-items c.loop-watch.invariant.0 same all room
