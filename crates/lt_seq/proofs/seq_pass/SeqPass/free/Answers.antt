use Rattle.std.proofs.Common.{ap, arith, rules, refl, ◌+◌, length}
use Rattle.lt_seq.proofs.SeqLaws.{trees_there, lawful_there, sequential_to, sound_of, length-events_of}
use Rattle.lt_seq.specs.declared.event.Deed.TheVariants.{Free}
use Rattle.lt_seq.specs.SeqPass.{IsSequential}
use Rattle.lt_seq.proofs.seq_pass.SeqPass.free.Goals as goal

pub free-count-requires-clause-tree : goal.free-count-requires-clause-tree
free-count-requires-clause-tree c = omega (arith, trees_there _ _ _ _ _ c.self.invariant, ap (λ p. p.plan.trees) c.self.view_is)

pub free-count-requires-clause-lawful : goal.free-count-requires-clause-lawful
free-count-requires-clause-lawful c = lawful_there _ _ _ _ _ c.args.tree c.self.invariant

-- the pass once it has the receipt
next : (c : goal.After-receipt-2) → IsSequential c.self.inside.plan c.self.inside.number c.self.inside.rights c.free-count.new.self c.push_reserved.new.self.items
next c =
    let inside = c.self.inside in
    let is = c.self.view_is in
    let deed = Free c.args.tree c.args.range.now c.args.first c.free-count.result in
    sequential_to inside.plan inside.number inside.rights inside.trees c.free-count.new.self inside.mine.items c.push_reserved.new.self.items
    (record { place = inside.plan.first + c.len.result; event = record { pass = inside.number; txn = c.args.txn; deed = deed } }) _
    c.self.invariant
    (record {
      pass = refl;
      place = grind arith;
      room = omega (arith, ap (λ p. p.plan.first) is, ap (λ p. length p.view.front) is, length-events_of inside.mine.items, c.requires.room);
      tree = omega (arith, ap (λ p. p.plan.trees) is);
      question = c.free-count.ensures.ordered;
      replies = ap (Free c.args.tree c.args.range.now c.args.first) c.free-count.ensures.count;
      moved_is = refl;
    })
    c.free-count.ensures.after
    (search rules)

pub invariant_of-self-2 : goal.invariant_of-self-2
invariant_of-self-2 c = next c

pub returns-clause-sound : goal.returns-clause-sound
returns-clause-sound c = sound_of _ _ _ _ _ _ (next c)
