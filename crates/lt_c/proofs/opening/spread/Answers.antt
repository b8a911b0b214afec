use Rattle.std.proofs.Common.{rules, ◌≡◌, [], ◌∷◌, sym, subst}
use Rattle.lt_c.proofs.OpeningLaws.{AreSpread, spread_none, spread_more}
use Rattle.lt_c.proofs.opening.spread.Goals as goal

pub loop-pass-init : goal.loop-pass-init
loop-pass-init c =
    let rest = c.into_iter-pass-iterator.result.rest.items in
    let next : c.args.passes.items ≡ c.in-Some.first ∷ c.into_iter-pass-iterator.result.rest.items = search rules in
    let none : c.new-made.result.items ≡ [] = search rules in
    subst (AreSpread c.args.table.now c.in-Some.first rest) (sym none)
    (spread_none c.args.table.now c.args.passes.items rest c.in-Some.first c.requires.of next)

pub loop-pass-preserved : goal.loop-pass-preserved
loop-pass-preserved c =
    spread_more c.args.table.now c.loop-pass.first c.share-note.new.pass c.in-Some-pass.pass c.learn.new.pass
    c.loop-pass.pass-iterator.rest.items
    c.next-in-loop-pass.new.self.rest.items c.loop-pass.made.items c.push.new.self.items c.share-note.result c.loop-pass.invariant
    c.in-Some-pass.ensures.steps.0 c.share-note.ensures.of c.share-note.ensures.left c.share-note.ensures.note.1 c.learn.ensures.of
    c.learn.ensures.learned c.in_ok-push.ensures.items
