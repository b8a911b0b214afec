use Rattle.std.proofs.Common.{◌<◌, length, sym, ap, arith}
use Rattle.std.specs.Global.{Vec}
use Rattle.lt_seq.specs.Yard.{PassView, origin_of}
use Rattle.lt_runner.specs.TurnView.{Seat}
use Rattle.lt_runner.specs.PlaysOn.{IsFit}
use Rattle.lt_deal.specs.Closings.{IsClosed, stock_of, drew_of, gave_of, nones_of}
use Rattle.lt_crew.specs.DealRounds.{IsDealtRound}
use Rattle.lt_crew.proofs.ResultLaws.{if_then, if_on}
use Rattle.lt_crew.proofs.CallerLaws.{sorted_distinct}
use Rattle.lt_crew.proofs.DealRoundLaws.{all_fit, all_seated, lent_seated, seated_stock, stock_long, all_returned, round_ends}
use Rattle.lt_crew.proofs.dealing.deal_round.Goals as goal

pub play_lent-requires-clause-seated : goal.play_lent-requires-clause-seated
play_lent-requires-clause-seated g c κs within =
    let view = g.Y.Pass.Pass.view in
    let setting = g.Y.Yard.setting c.args.yard.now in
    let turns = c.args.turns.items in
    let crew = c.requires.crew.crew in
    all_seated g.Y.Pass.Pass.origin view (origin_of (g.Y.Yard.identity c.args.yard.now) setting) c.in_ok-deal.deal (view c.args.me.now).front turns
    c.args.workers.now c.lend.new.workers c.seat_all.new.workers c.lend.ensures.workers
    (c.seat_all.ensures c.in_ok-deal.deal turns c.in_ok-deal.ensures.seats) c.requires.resting (sym c.in_ok-deal.ensures.sizes.0)
    c.requires.caller.plan (all_fit (IsFit setting) turns crew.fit) (sorted_distinct turns crew.registered.sorted)

pub play_lent-requires-clause-one : goal.play_lent-requires-clause-one
play_lent-requires-clause-one g c κs within k d low =
    let view = g.Y.Pass.Pass.view in
    let setting = g.Y.Yard.setting c.args.yard.now in
    let turns = c.args.turns.items in
    let gets = c.seat_all.ensures c.in_ok-deal.deal turns c.in_ok-deal.ensures.seats in
    let lends = c.lend.ensures.workers in
    ap (λ (p : PassView). p.rights)
    ((lent_seated g.Y.Pass.Pass.origin view (origin_of (g.Y.Yard.identity c.args.yard.now) setting) c.in_ok-deal.deal (view c.args.me.now).front turns
    c.args.workers.now c.lend.new.workers c.seat_all.new.workers lends gets).1 k d (omega (arith, low, lends.0, gets.0))).pass

pub close-requires-clause-all : goal.close-requires-clause-all
close-requires-clause-all g c =
    let view = g.Y.Pass.Pass.view in
    let setting = g.Y.Yard.setting c.args.yard.now in
    let place = origin_of (g.Y.Yard.identity c.args.yard.now) setting in
    let turns = c.args.turns.items in
    let gets = c.seat_all.ensures c.in_ok-deal.deal turns c.in_ok-deal.ensures.seats in
    let lends = c.lend.ensures.workers in
    let plays = c.in_ok-seats.ensures.played in
    let several : 0 < length c.seat_all.new.workers = omega (arith, c.requires.caller.some, lends.0, gets.0) in (
      omega (arith, plays.seated, lends.0, gets.0, c.in_ok-deal.ensures.sizes.1),
      stock_long g.Y.Pass.Pass.origin view place c.in_ok-deal.deal (view c.play_lent.new.me).front turns c.seat_all.new.workers c.play_lent.new.workers
          c.in_ok-seats.seats.items plays
          (seated_stock g.Y.Pass.Pass.origin view place c.in_ok-deal.deal turns c.lend.new.workers c.seat_all.new.workers gets
          (sym c.in_ok-deal.ensures.sizes.0)) several,
    )

pub close-requires-clause-returned : goal.close-requires-clause-returned
close-requires-clause-returned g c =
    let view = g.Y.Pass.Pass.view in
    let setting = g.Y.Yard.setting c.args.yard.now in
    let place = origin_of (g.Y.Yard.identity c.args.yard.now) setting in
    let turns = c.args.turns.items in
    let gets = c.seat_all.ensures c.in_ok-deal.deal turns c.in_ok-deal.ensures.seats in
    let lends = c.lend.ensures.workers in
    let several : 0 < length c.seat_all.new.workers = omega (arith, c.requires.caller.some, lends.0, gets.0) in
    all_returned g.Y.Pass.Pass.origin view place c.in_ok-deal.deal (view c.play_lent.new.me).front turns c.seat_all.new.workers c.play_lent.new.workers
    c.in_ok-seats.seats.items c.in_ok-seats.ensures.played
    (seated_stock g.Y.Pass.Pass.origin view place c.in_ok-deal.deal turns c.lend.new.workers c.seat_all.new.workers gets
    (sym c.in_ok-deal.ensures.sizes.0)) several

pub returns-clause-resting : goal.returns-clause-resting
returns-clause-resting g c =
    let view = g.Y.Pass.Pass.view in
    let setting = g.Y.Yard.setting c.args.yard.now in
    let turns = c.args.turns.items in
    let seats = c.in_ok-seats.seats.items in
    if_on c.close.result (λ (r : Vec Seat). IsClosed (stock_of seats) (drew_of seats) (gave_of seats) (nones_of seats) r.items) _
    (λ r closed. (round_ends g.Y.Pass.Pass.origin view (origin_of (g.Y.Yard.identity c.args.yard.now) setting) c.in_ok-deal.deal turns r.items
    c.args.workers.now c.lend.new.workers c.seat_all.new.workers c.play_lent.new.workers seats (view c.args.me.now) (view c.lend.new.me)
    (view c.play_lent.new.me) _ _ c.lend.ensures.workers (c.seat_all.ensures c.in_ok-deal.deal turns c.in_ok-deal.ensures.seats) c.requires.resting
    c.requires.numbers c.requires.caller (sym c.in_ok-deal.ensures.sizes.0) c.in_ok-seats.ensures.played c.lend.ensures.me c.in_ok-seats.ensures.me
    (sorted_distinct turns c.requires.crew.crew.registered.sorted) c.requires.noted c.requires.workers_noted closed).resting) c.close.ensures

pub returns-clause-numbers : goal.returns-clause-numbers
returns-clause-numbers g c =
    let view = g.Y.Pass.Pass.view in
    let setting = g.Y.Yard.setting c.args.yard.now in
    let turns = c.args.turns.items in
    let seats = c.in_ok-seats.seats.items in
    if_on c.close.result (λ (r : Vec Seat). IsClosed (stock_of seats) (drew_of seats) (gave_of seats) (nones_of seats) r.items) _
    (λ r closed. (round_ends g.Y.Pass.Pass.origin view (origin_of (g.Y.Yard.identity c.args.yard.now) setting) c.in_ok-deal.deal turns r.items
    c.args.workers.now c.lend.new.workers c.seat_all.new.workers c.play_lent.new.workers seats (view c.args.me.now) (view c.lend.new.me)
    (view c.play_lent.new.me) _ _ c.lend.ensures.workers (c.seat_all.ensures c.in_ok-deal.deal turns c.in_ok-deal.ensures.seats) c.requires.resting
    c.requires.numbers c.requires.caller (sym c.in_ok-deal.ensures.sizes.0) c.in_ok-seats.ensures.played c.lend.ensures.me c.in_ok-seats.ensures.me
    (sorted_distinct turns c.requires.crew.crew.registered.sorted) c.requires.noted c.requires.workers_noted closed).numbers) c.close.ensures

pub returns-clause-workers_noted : goal.returns-clause-workers_noted
returns-clause-workers_noted g c =
    let view = g.Y.Pass.Pass.view in
    let setting = g.Y.Yard.setting c.args.yard.now in
    let turns = c.args.turns.items in
    let seats = c.in_ok-seats.seats.items in
    if_on c.close.result (λ (r : Vec Seat). IsClosed (stock_of seats) (drew_of seats) (gave_of seats) (nones_of seats) r.items) _
    (λ r closed. (round_ends g.Y.Pass.Pass.origin view (origin_of (g.Y.Yard.identity c.args.yard.now) setting) c.in_ok-deal.deal turns r.items
    c.args.workers.now c.lend.new.workers c.seat_all.new.workers c.play_lent.new.workers seats (view c.args.me.now) (view c.lend.new.me)
    (view c.play_lent.new.me) _ _ c.lend.ensures.workers (c.seat_all.ensures c.in_ok-deal.deal turns c.in_ok-deal.ensures.seats) c.requires.resting
    c.requires.numbers c.requires.caller (sym c.in_ok-deal.ensures.sizes.0) c.in_ok-seats.ensures.played c.lend.ensures.me c.in_ok-seats.ensures.me
    (sorted_distinct turns c.requires.crew.crew.registered.sorted) c.requires.noted c.requires.workers_noted closed).workers_noted) c.close.ensures

pub returns-clause-noted : goal.returns-clause-noted
returns-clause-noted g c =
    let view = g.Y.Pass.Pass.view in
    let setting = g.Y.Yard.setting c.args.yard.now in
    let turns = c.args.turns.items in
    let seats = c.in_ok-seats.seats.items in
    if_on c.close.result (λ (r : Vec Seat). IsClosed (stock_of seats) (drew_of seats) (gave_of seats) (nones_of seats) r.items) _
    (λ r closed. (round_ends g.Y.Pass.Pass.origin view (origin_of (g.Y.Yard.identity c.args.yard.now) setting) c.in_ok-deal.deal turns r.items
    c.args.workers.now c.lend.new.workers c.seat_all.new.workers c.play_lent.new.workers seats (view c.args.me.now) (view c.lend.new.me)
    (view c.play_lent.new.me) _ _ c.lend.ensures.workers (c.seat_all.ensures c.in_ok-deal.deal turns c.in_ok-deal.ensures.seats) c.requires.resting
    c.requires.numbers c.requires.caller (sym c.in_ok-deal.ensures.sizes.0) c.in_ok-seats.ensures.played c.lend.ensures.me c.in_ok-seats.ensures.me
    (sorted_distinct turns c.requires.crew.crew.registered.sorted) c.requires.noted c.requires.workers_noted closed).noted) c.close.ensures

pub returns-clause-dealt : goal.returns-clause-dealt
returns-clause-dealt g c =
    let view = g.Y.Pass.Pass.view in
    let setting = g.Y.Yard.setting c.args.yard.now in
    let turns = c.args.turns.items in
    let seats = c.in_ok-seats.seats.items in
    if_then c.close.result (λ (r : Vec Seat). IsClosed (stock_of seats) (drew_of seats) (gave_of seats) (nones_of seats) r.items)
    (λ (r : Vec Seat). IsDealtRound setting (view c.args.me.now).front (view c.play_lent.new.me).front turns r.items)
    (λ r closed. (round_ends g.Y.Pass.Pass.origin view (origin_of (g.Y.Yard.identity c.args.yard.now) setting) c.in_ok-deal.deal turns r.items
    c.args.workers.now c.lend.new.workers c.seat_all.new.workers c.play_lent.new.workers seats (view c.args.me.now) (view c.lend.new.me)
    (view c.play_lent.new.me) _ _ c.lend.ensures.workers (c.seat_all.ensures c.in_ok-deal.deal turns c.in_ok-deal.ensures.seats) c.requires.resting
    c.requires.numbers c.requires.caller (sym c.in_ok-deal.ensures.sizes.0) c.in_ok-seats.ensures.played c.lend.ensures.me c.in_ok-seats.ensures.me
    (sorted_distinct turns c.requires.crew.crew.registered.sorted) c.requires.noted c.requires.workers_noted closed).dealt) c.close.ensures
