use Rattle.std.proofs.Common.{◌∷◌, ◌++◌}
use Rattle.crossbeam_queue.specs.Passes.{view, IsPassOf}
use Rattle.lt_seq.specs.Yard.{origin_of}
use Rattle.lt_crew.proofs.ResultLaws.{if_then}
use Rattle.lt_live.specs.Ends.{IsTogether, IsPlayedLive}
use Rattle.lt_live.specs.declared.hire.Played.{Played}
use Rattle.lt_live.proofs.EndsLaws.{done_queues}
use Rattle.lt_live.proofs.LeftLaws.{parted_hired, parted_of, played_live}
use Rattle.lt_live.proofs.live.end_all.Goals as goal

pub part_with-requires-clause-queues : goal.part_with-requires-clause-queues
part_with-requires-clause-queues g c =
    let place = origin_of (g.Y.Yard.identity c.args.yard.now) (g.Y.Yard.setting c.args.yard.now) in
    done_queues g.Y.Pass.Pass.origin g.Y.Pass.Pass.view place (IsPassOf c.args.queue.now) c.args.lines.now c.args.workers.items 0 c.requires.done

pub serve_last-requires-clause-hired : goal.serve_last-requires-clause-hired
serve_last-requires-clause-hired g c κs within =
    let place = origin_of (g.Y.Yard.identity c.args.yard.now) (g.Y.Yard.setting c.args.yard.now) in
    parted_hired g.Y.Pass.Pass.origin g.Y.Pass.Pass.view place c.args.lines.now (IsPassOf c.args.queue.now) (view c.args.ticket) c.args.workers.items
    c.in_ok-first.field-0 c.requires.done c.requires.some c.requires.parts c.in_ok-first.ensures

pub put_together-requires-clause-of : goal.put_together-requires-clause-of
put_together-requires-clause-of g c κs within =
    let place = origin_of (g.Y.Yard.identity c.args.yard.now) (g.Y.Yard.setting c.args.yard.now) in
    parted_of g.Y.Pass.Pass.origin g.Y.Pass.Pass.view place c.args.lines.now (IsPassOf c.args.queue.now) (view c.args.ticket) c.args.workers.items
    c.in_ok-first.field-0 c.serve_last.new.first.pass c.requires.done c.requires.some c.in_ok-first.ensures c.serve_last.ensures.of

pub returns : goal.returns
returns g c =
    let origin = g.Y.Pass.Pass.origin in
    let seen = g.Y.Pass.Pass.view in
    let place = origin_of (g.Y.Yard.identity c.args.yard.now) (g.Y.Yard.setting c.args.yard.now) in
    let last = c.serve_last.new.first in
    let parted = c.in_ok-first.field-0 in
    if_then c.put_together.result
    (λ (played : Played g.row.Y-Pass.Denot).
    IsTogether origin seen place (last.pass ∷ parted.others.items) (parted.turns.items ++ last.turns.items) played)
    (λ (played : Played g.row.Y-Pass.Denot). IsPlayedLive origin seen place c.args.lines.now (view c.args.ticket).put played)
    (λ played together.
    played_live origin seen place c.args.lines.now (IsPassOf c.args.queue.now) (view c.args.ticket) c.args.workers.items parted last played
    c.requires.done c.requires.some c.requires.count c.requires.whole c.requires.none c.in_ok-first.ensures c.serve_last.ensures.of
    c.serve_last.ensures.fit c.serve_last.ensures.all (c.serve_last.ensures.serves c.if-first.false) (c.serve_last.ensures.taken c.if-first.false)
    together) c.put_together.ensures
