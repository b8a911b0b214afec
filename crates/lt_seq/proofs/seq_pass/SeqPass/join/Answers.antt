use Rattle.std.proofs.Common.{◌≡◌, ◌∙◌, [], length, slice_set, ap, arith, rules, refl, ◌+◌}
use Rattle.lt_seq.specs.declared.event.Deed.TheVariants.{Join}
use Rattle.lt_seq.specs.Pairs.{joined}
use Rattle.lt_seq.specs.SeqPass.{IsSequential}
use Rattle.lt_seq.specs.Table.{tree_at, ended}
use Rattle.lt_seq.proofs.SeqLaws.{trees_there, lawful_there, sequential_to, sound_of, length-events_of}
use Rattle.lt_seq.proofs.seq_pass.SeqPass.join.Goals as goal

pub joined-requires-clause-tree : goal.joined-requires-clause-tree
joined-requires-clause-tree c = omega (arith, trees_there _ _ _ _ _ c.self.invariant, ap (λ p. p.plan.trees) c.self.view_is)

pub joined-requires-clause-lawful : goal.joined-requires-clause-lawful
joined-requires-clause-lawful c = lawful_there _ _ _ _ _ c.args.tree c.self.invariant

pub put-before-requires : goal.put-before-requires
put-before-requires c = omega (arith, trees_there _ _ _ _ _ c.self.invariant, ap (λ p. p.plan.trees) c.self.view_is)

-- the pass once it has the receipt
next : (c : goal.After-receipt-2) → IsSequential c.self.inside.plan c.self.inside.number c.self.inside.rights c.put-before.new.self c.push_reserved-2.new.self.items
next c =
    let inside = c.self.inside in
    let is = c.self.view_is in
    let now = tree_at inside.trees c.args.tree in
    let pairs : c.in_ok-pairs.pairs.items ≡ joined [] now.pairs = search rules in
    sequential_to inside.plan inside.number inside.rights inside.trees c.put-before.new.self inside.mine.items c.push_reserved-2.new.self.items
    (record { place = inside.plan.first + c.len.result; event = record { pass = inside.number; txn = c.args.txn; deed = Join c.args.tree c.put-before.result c.len-after.result } })
    (record { pairs = joined [] now.pairs; mode = ended now.mode })
    c.self.invariant
    (record {
      pass = refl;
      place = grind arith;
      room = omega (arith, ap (λ p. p.plan.first) is, ap (λ p. length p.view.front) is, length-events_of inside.mine.items, c.requires.room);
      tree = omega (arith, ap (λ p. p.plan.trees) is);
      question = tt;
      replies = search rules;
      moved_is = refl;
    })
    (c.put-before.ensures.after ∙ ap (λ ps. slice_set inside.trees c.args.tree (record { pairs = ps; mode = ended now.mode })) pairs)
    (search rules)

pub invariant_of-self-2 : goal.invariant_of-self-2
invariant_of-self-2 c = next c

pub returns-clause-sound : goal.returns-clause-sound
returns-clause-sound c = sound_of _ _ _ _ _ _ (next c)
