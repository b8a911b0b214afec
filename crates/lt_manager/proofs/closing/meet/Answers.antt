use Rattle.std.proofs.Common.{◌≡◌, ◌∙◌, List, ap, subst, arith}
use Rattle.lt_seq.specs.declared.event.Event.{Event}
use Rattle.lt_seq.specs.History.{IsFront}
use Rattle.lt_rows.specs.declared.view.View.{View}
use Rattle.lt_locktree.specs.Calls.{sees}
use Rattle.lt_manager.proofs.CloseLaws.{misses_others}
use Rattle.lt_manager.proofs.closing.meet.Goals as goal

pub returns-clause-other : goal.returns-clause-other
returns-clause-other c =
    let events : List Event = (sees c.args.first.now).front in
    let now : List Event = (sees c.learn.new.pass).front in
    let rights : (sees c.share-note.new.pass).rights ≡ c.args.table.now.rows.plan.passes =
    omega (arith, ap (λ (v : View). v.rights) c.share-note.ensures.left, c.requires.first.1) in
    let same : (sees c.learn-2.new.pass).front ≡ events =
    c.learn-2.ensures.all rights ∙ ap (λ (v : View). v.front) c.share-note.ensures.left in
    let told : IsFront events now = subst (λ (es : List Event). IsFront es now) c.share-note.ensures.note.2 c.learn.ensures.told in
    let back : IsFront now events =
    subst (IsFront now) same
    (subst (λ (es : List Event). IsFront es (sees c.learn-2.new.pass).front) c.share-note-2.ensures.note.2 c.learn-2.ensures.told) in
    misses_others events now (sees c.args.other.now) c.learn.ensures.more told back
