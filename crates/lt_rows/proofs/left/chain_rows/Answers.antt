use Rattle.std.proofs.Common.{ℕ, List, ◌-◌, ap, subst, ◌∙◌, sym, refl}
use Rattle.lt_rows.specs.Nodes.{node_of}
use Rattle.lt_rows.specs.LastWords.{nodes_in}
use Rattle.lt_rows.specs.Walks.{InChain}
use Rattle.lt_rows.proofs.WalkLaws.{chain_step, chain_seen}
use Rattle.lt_rows.proofs.left.chain_rows.Goals as goal

pub row-requires : goal.row-requires
row-requires c = (chain_step (c.loop-link.link - 1) c.loop-link.invariant c.loop-link-test.true refl).below

pub loop-link-preserved : goal.loop-link-preserved
loop-link-preserved c =
    let link_is = sym (c.left-link.ensures ∙ ap (λ words. (node_of words).left) c.row.ensures) in
    let rows_are = sym c.in_ok-push.ensures.items in
    subst (λ (x : ℕ × List ℕ). InChain (nodes_in c.args.last.now) c.args.last.now.rows c.args.first x.0 x.1) (λ i. (link_is i, rows_are i))
    (chain_step (c.loop-link.link - 1) c.loop-link.invariant c.loop-link-test.true refl).next

pub returns : goal.returns
returns c = chain_seen c.loop-link.invariant c.loop-link-test.false
