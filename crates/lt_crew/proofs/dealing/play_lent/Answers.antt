use Rattle.std.proofs.Common.{ap}
use Rattle.lt_seq.specs.Yard.{PassView, origin_of}
use Rattle.lt_crew.proofs.DealtLaws.{all_played}
use Rattle.lt_crew.proofs.dealing.play_lent.Goals as goal

pub returns-clause-played : goal.returns-clause-played
returns-clause-played g c =
    let view = g.Y.Pass.Pass.view in
    let setting = g.Y.Yard.setting c.args.yard.now in
    all_played g.Y.Pass.Pass.origin view (origin_of (g.Y.Yard.identity c.args.yard.now) setting) c.args.deal.now (view c.take_back.new.me).front
    (view c.tell.new.me).front
    c.args.workers.now c.side_by_side.new.workers c.take_seats.new.workers c.take_back.new.workers c.tell.new.workers c.in_ok-seats.seats.items
    c.side_by_side.ensures (c.any_short.ensures c.if-any_short.false) c.in_ok-seats.ensures.seats c.in_ok-seats.ensures.workers
    c.take_back.ensures.workers c.take_back.ensures.seen
    c.tell.ensures.workers (ap (λ (p : PassView). p.front) c.tell.ensures.me)
