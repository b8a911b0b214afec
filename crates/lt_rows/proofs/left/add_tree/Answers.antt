use Rattle.std.proofs.Common.{◌≡◌, ℕ, List, ◌++◌, ◌-◌, ◌∷◌, [], length, ap, subst, ◌∙◌, sym, refl, arith, rules, length-append}
use Rattle.lt_seq.specs.declared.event.Held.{Held}
use Rattle.lt_seq.specs.Table.{held_in}
use Rattle.lt_forest.specs.Trees.{pair_of}
use Rattle.lt_rows.specs.Nodes.{node_of}
use Rattle.lt_rows.specs.LastWords.{nodes_in}
use Rattle.lt_rows.specs.Walks.{InTree}
use Rattle.lt_rows.proofs.WalkLaws.{down_step, up_step, tree_seen}
use Rattle.lt_rows.proofs.left.add_tree.Goals as goal

pub row-requires : goal.row-requires
row-requires c = (down_step (c.loop-link.link - 1) c.loop-link.invariant c.if-link-ne0.true refl).below

pub loop-link-smaller-then-link-ne0 : goal.loop-link-smaller-then-link-ne0
loop-link-smaller-then-link-ne0 c =
    let room = (down_step (c.loop-link.link - 1) c.loop-link.invariant c.if-link-ne0.true refl).room in
    let longer = ap length c.in_ok-push.ensures.items in
    omega (arith, length-append c.loop-link.above.items ((c.loop-link.link - 1) ∷ []))

pub loop-link-preserved-then-link-ne0 : goal.loop-link-preserved-then-link-ne0
loop-link-preserved-then-link-ne0 c =
    let link_is = sym (c.left-link.ensures ∙ ap (λ words. (node_of words).left) c.row.ensures) in
    let above_are = sym c.in_ok-push.ensures.items in
    subst (λ (x : ℕ × List ℕ). InTree (nodes_in c.args.last.now) c.args.last.now.rows c.args.top c.args.tree c.args.left.now.items x.0 x.1 c.loop-link.left.items)
    (λ i. (link_is i, above_are i))
    (down_step (c.loop-link.link - 1) c.loop-link.invariant c.if-link-ne0.true refl).next

pub row-image-requires : goal.row-image-requires
row-image-requires c = (up_step c.pop.new.self.items c.in-Some.row c.loop-link.invariant c.if-link-ne0.false c.in-Some.ensures.items).below

pub loop-link-smaller : goal.loop-link-smaller
loop-link-smaller c =
    let room = (up_step c.pop.new.self.items c.in-Some.row c.loop-link.invariant c.if-link-ne0.false c.in-Some.ensures.items).room in
    let longer = ap length c.in_ok-push-2.ensures.items in
    let shorter = ap length c.in-Some.ensures.items in
    omega (arith, length-append {A = Held}, length-append {A = ℕ})

pub loop-link-preserved : goal.loop-link-preserved
loop-link-preserved c =
    let link_is = sym (c.right-link.ensures ∙ ap (λ words. (node_of words).right) c.row-image.ensures) in
    let owner_is = c.owner.ensures ∙ ap (λ words. (node_of words).owner) c.row-image.ensures in
    let range_is = c.range.ensures ∙ ap (λ words. (node_of words).range) c.row-image.ensures in
    let new : Held = record { tree = c.args.tree; owner = c.owner.result; range = c.range.result } in
    let pair_is : held_in c.args.tree (pair_of (nodes_in c.args.last.now) c.in-Some.row ∷ []) ≡ new ∷ [] =
    (λ i. record { tree = c.args.tree; owner = sym owner_is i; range = sym range_is i } ∷ []) in
    let left_are = ap (λ l. c.loop-link.left.items ++ l) pair_is ∙ sym c.in_ok-push-2.ensures.items in
    subst (λ (x : ℕ × List Held). InTree (nodes_in c.args.last.now) c.args.last.now.rows c.args.top c.args.tree c.args.left.now.items x.0 c.pop.new.self.items x.1)
    (λ i. (link_is i, left_are i))
    (up_step c.pop.new.self.items c.in-Some.row c.loop-link.invariant c.if-link-ne0.false c.in-Some.ensures.items).next

pub returns-in_default : goal.returns-in_default
returns-in_default c = tree_seen c.loop-link.invariant c.if-link-ne0.false (search rules)
