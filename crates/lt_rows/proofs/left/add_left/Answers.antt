use Rattle.std.proofs.Common.{◌≢◌, ap, subst, ◌∙◌, sym, ◌++◌}
use Rattle.lt_seq.specs.Table.{held_in}
use Rattle.lt_forest.specs.Forest.{IsChain, folded}
use Rattle.lt_forest.specs.Trees.{LeadsTo}
use Rattle.lt_rows.specs.Nodes.{node_of}
use Rattle.lt_rows.specs.LastWords.{nodes_in, LeadsToTree, LeadsToChain}
use Rattle.lt_rows.proofs.LeftLaws.{on_ok, leads_to_tree, leads_to_chain, tree_left, chain_left}
use Rattle.lt_rows.proofs.left.add_left.Goals as goal

pub add_tree-requires : goal.add_tree-requires
add_tree-requires c =
    let none = sym (ap (λ words. (node_of words).owner) c.row-anchor.ensures) ∙ (sym c.owner.ensures ∙ c.if-owner-eq0.true) in
    let link_is = sym (c.left.ensures ∙ ap (λ words. (node_of words).left) c.row-anchor.ensures) in
    subst (LeadsToTree c.args.last.now) link_is (leads_to_tree c.args.plan.now c.args.last.now c.requires.forest.0 c.requires.forest.1 c.args.tree c.requires.tree none)

pub returns-then-owner-eq0 : goal.returns-then-owner-eq0
returns-then-owner-eq0 c =
    let none = sym (ap (λ words. (node_of words).owner) c.row-anchor.ensures) ∙ (sym c.owner.ensures ∙ c.if-owner-eq0.true) in
    let link_is = sym (c.left.ensures ∙ ap (λ words. (node_of words).left) c.row-anchor.ensures) in
    on_ok c.add_tree.result
    (λ adds state end. tree_left c.args.plan.now c.args.last.now state end c.args.tree c.requires.tree c.args.left.now.items c.add_tree.new.left.items none
    (λ u leads. adds u (subst (λ link. LeadsTo (nodes_in c.args.last.now) link u) link_is leads)))
    c.add_tree.ensures

pub chain_rows-requires : goal.chain_rows-requires
chain_rows-requires c =
    let some : (nodes_in c.args.last.now c.args.tree).owner ≢ 0 = λ e. c.if-owner-eq0.false (c.owner.ensures ∙ (ap (λ words. (node_of words).owner) c.row-anchor.ensures ∙ e)) in
    let link_is = sym (c.left-2.ensures ∙ ap (λ words. (node_of words).left) c.row-anchor.ensures) in
    subst (LeadsToChain c.args.last.now) link_is (leads_to_chain c.args.plan.now c.args.last.now c.requires.forest.0 c.requires.forest.1 c.args.tree c.requires.tree some)

pub returns : goal.returns
returns c =
    let some : (nodes_in c.args.last.now c.args.tree).owner ≢ 0 = λ e. c.if-owner-eq0.false (c.owner.ensures ∙ (ap (λ words. (node_of words).owner) c.row-anchor.ensures ∙ e)) in
    let link_is = c.left-2.ensures ∙ ap (λ words. (node_of words).left) c.row-anchor.ensures in
    let owner_is = c.owner-2.ensures ∙ ap (λ words. (node_of words).owner) c.row-anchor.ensures in
    let leads = subst (λ link. IsChain (nodes_in c.args.last.now) link c.in_ok-rows.rows.items) link_is c.in_ok-rows.ensures.0 in
    let pairs_are = c.deref.ensures.value ∙ (c.in_ok-pairs.ensures ∙ ap (λ txn. folded txn (nodes_in c.args.last.now) c.in_ok-rows.rows.items) owner_is) in
    on_ok c.add_held.result
    (λ adds state end. adds ∙ ap (λ pairs. c.args.left.now.items ++ held_in c.args.tree pairs)
    (pairs_are ∙ chain_left c.args.plan.now c.args.last.now state end c.args.tree c.requires.tree c.in_ok-rows.rows.items some leads))
    c.add_held.ensures
