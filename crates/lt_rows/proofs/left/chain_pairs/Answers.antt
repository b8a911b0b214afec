use Rattle.std.proofs.Common.{ap, subst, ◌∙◌, sym}
use Rattle.lt_seq.specs.Pairs.{granted}
use Rattle.lt_rows.specs.Nodes.{node_of}
use Rattle.lt_rows.specs.LastWords.{nodes_in}
use Rattle.lt_rows.specs.Walks.{InGrants}
use Rattle.lt_rows.proofs.NodeRanges.{node_interval}
use Rattle.lt_rows.proofs.WalkLaws.{grant_step}
use Rattle.lt_rows.proofs.left.chain_pairs.Goals as goal

pub row-requires : goal.row-requires
row-requires c = (grant_step c.pop.new.self.items c.in-Some.row c.loop-row.invariant c.in-Some.ensures.items (λ r. node_interval _)).below

pub loop-row-preserved : goal.loop-row-preserved
loop-row-preserved c =
    let range_is = c.range.ensures ∙ ap (λ words. (node_of words).range) c.row.ensures in
    subst (InGrants (nodes_in c.args.last.now) c.args.last.now.rows c.args.txn c.args.rows.items c.pop.new.self.items)
    (ap (λ range. granted c.args.txn range c.loop-row.pairs.items) (sym range_is) ∙ sym c.in_ok-grant.ensures.ok)
    (grant_step c.pop.new.self.items c.in-Some.row c.loop-row.invariant c.in-Some.ensures.items (λ r. node_interval _)).next
