use Rattle.std.proofs.Common.{rules, ◌≡◌, length}
use Rattle.lt_chain.proofs.ChainRows.{chain_words}
use Rattle.lt_chain.proofs.image.chain_row.Goals as goal

pub returns-clause-node : goal.returns-clause-node
returns-clause-node c =
    let long_a : length c.pack-a.result ≡ 8 = search rules in
    let long_b : length c.pack-b.result ≡ 8 = search rules in
    chain_words c.args.owner c.args.next c.args.range.now c.left.result c.right.result c.pack-a.result c.pack-b.result
    c.left.ensures.value c.right.ensures.value c.left.ensures.ordered long_a long_b c.pack-a.ensures.value c.pack-b.ensures.value
    c.pack-a.ensures.valid c.pack-b.ensures.valid
