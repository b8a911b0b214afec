use Rattle.std.proofs.Common.{◌≡◌, ap, arith, rules, refl, ◌+◌, length}
use Rattle.lt_seq.proofs.SeqLaws.{trees_there, sound_there, lawful_there, sequential_to, sound_of, length-events_of, with_any_reply}
use Rattle.lt_ranges.specs.Interval.{IsInterval}
use Rattle.lt_seq.specs.declared.event.Deed.TheVariants.{Ask}
use Rattle.lt_seq.specs.SeqPass.{IsSequential}
use Rattle.lt_seq.specs.Table.{ask_reply, tree_at}
use Rattle.lt_seq.proofs.seq_pass.SeqPass.ask.Goals as goal

pub reply-requires-clause-tree : goal.reply-requires-clause-tree
reply-requires-clause-tree c = omega (arith, trees_there _ _ _ _ _ c.self.invariant, ap (λ p. p.plan.trees) c.self.view_is)

pub ask-requires-clause-tree : goal.ask-requires-clause-tree
ask-requires-clause-tree c = omega (arith, trees_there _ _ _ _ _ c.self.invariant, ap (λ p. p.plan.trees) c.self.view_is)

pub reply-requires-clause-lawful : goal.reply-requires-clause-lawful
reply-requires-clause-lawful c = lawful_there _ _ _ _ _ c.args.tree c.self.invariant

pub ask-requires-clause-sound : goal.ask-requires-clause-sound
ask-requires-clause-sound c = sound_there _ _ _ _ _ c.args.tree c.self.invariant

-- the pass once it has the receipt
next : (c : goal.After-receipt-2) → IsSequential c.self.inside.plan c.self.inside.number c.self.inside.rights c.ask.new.self c.push_reserved.new.self.items
next c =
    let inside = c.self.inside in
    let is = c.self.view_is in
    let reply : c.in_ok-kept.kept ≡ ask_reply inside.plan.buffer c.args.txn c.args.range.now (tree_at inside.trees c.args.tree) = search rules in
    sequential_to inside.plan inside.number inside.rights inside.trees c.ask.new.self inside.mine.items c.push_reserved.new.self.items
    (record { place = inside.plan.first + c.len.result; event = record { pass = inside.number; txn = c.args.txn; deed = Ask c.args.tree c.args.range.now c.in_ok-kept.kept } }) _
    c.self.invariant
    (record {
      pass = refl;
      place = grind arith;
      room = omega (arith, ap (λ p. p.plan.first) is, ap (λ p. length p.view.front) is, length-events_of inside.mine.items, c.requires.room);
      tree = omega (arith, ap (λ p. p.plan.trees) is);
      question = with_any_reply c.in_ok-reply.reply (IsInterval c.args.range.now) c.in_ok-reply.ensures.ordered c.ask.ensures.ordered;
      replies = ap (Ask c.args.tree c.args.range.now) reply;
      moved_is = refl;
    })
    (search rules)
    (search rules)

pub invariant_of-self-2 : goal.invariant_of-self-2
invariant_of-self-2 c = next c

pub returns-clause-sound : goal.returns-clause-sound
returns-clause-sound c = sound_of _ _ _ _ _ _ (next c)
