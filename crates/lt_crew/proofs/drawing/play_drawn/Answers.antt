use Rattle.std.proofs.Common.{◌≡◌, ℕ, ◌+◌, ◌-◌, ◌<◌, ◌≤◌, ◌∷◌, [], Bool, length, ap, subst, ◌∙◌, arith, length-append}
use Rattle.lt_runner.specs.TurnView.{Seat}
use Rattle.lt_runner.proofs.PlaysOnLaws.{ready_still}
use Rattle.lt_deal.specs.declared.view.View.{View}
use Rattle.lt_deal.specs.Handles.{knows}
use Rattle.lt_crew.specs.Drawing.{DrawsOn}
use Rattle.lt_crew.proofs.TimesLaws.{few_once}
use Rattle.lt_crew.proofs.DrawnLaws.{drawn_none, drawn_more}
use Rattle.lt_crew.proofs.drawing.play_drawn.Goals as goal

pub loop-init : goal.loop-init
loop-init g c =
    let seat : View Seat = knows c.args.seat.now in
    record {
      of = c.requires.of;
      ready = c.requires.ready;
      seat = c.requires.seat;
      early = ap (λ (v : View Seat). v.nones) c.requires.blank;
      drew = drawn_none (g.Y.Yard.setting c.args.yard.now) (g.Y.Pass.Pass.view c.args.pass.now) seat c.requires.ready.sound
          (ap (λ (v : View Seat). v.drew) c.requires.blank) (ap (λ (v : View Seat). v.gave) c.requires.blank);
    }

smaller : (most was is : ℕ) → is ≡ was + 1 → is ≤ most → most - is < most - was
smaller most was is more few = omega arith

pub loop-smaller : goal.loop-smaller
loop-smaller g c =
    let view = g.Y.Pass.Pass.view in
    let setting = g.Y.Yard.setting c.args.yard.now in
    let was : View Seat = knows c.loop.seat in
    let is : View Seat = knows c.play_next.new.seat in
    let stock = (knows c.args.seat.now).stock in
    let next = subst (λ (more : Bool). DrawsOn more setting (view c.loop.pass) (view c.play_next.new.pass) was is) c.if-branch.true
    c.in_ok-play_next.ensures.next in
    let drew = drawn_more setting stock (view c.args.pass.now) (view c.loop.pass) (view c.play_next.new.pass) was is c.requires.distinct
    c.loop.invariant.drew next in
    smaller (length stock) (length was.drew) (length is.drew)
    (ap (λ (v : View Seat). length v.drew) next.knows_is ∙ length-append was.drew (next.index ∷ []))
    (few_once is.drew (length stock) drew.used.inside drew.used.once)

pub loop-preserved : goal.loop-preserved
loop-preserved g c =
    let view = g.Y.Pass.Pass.view in
    let setting = g.Y.Yard.setting c.args.yard.now in
    let was : View Seat = knows c.loop.seat in
    let is : View Seat = knows c.play_next.new.seat in
    let stock = (knows c.args.seat.now).stock in
    let next = subst (λ (more : Bool). DrawsOn more setting (view c.loop.pass) (view c.play_next.new.pass) was is) c.if-branch.true
    c.in_ok-play_next.ensures.next in
    record {
      of = c.in_ok-play_next.ensures.of;
      ready = ready_still setting [] (view c.loop.pass) (view c.play_next.new.pass) next.item next.turn c.loop.invariant.ready next.plays;
      seat = c.in_ok-play_next.ensures.seat;
      early = ap (λ (v : View Seat). v.nones) next.knows_is ∙ c.loop.invariant.early;
      drew = drawn_more setting stock (view c.args.pass.now) (view c.loop.pass) (view c.play_next.new.pass) was is c.requires.distinct
          c.loop.invariant.drew next;
    }
