use Rattle.std.proofs.Common.{◌≡◌, List, [], sym, ap, ◌∙◌, subst}
use Rattle.std.specs.Prelude.{IfOk}
use Rattle.lt_seq.specs.declared.event.Pair.{Pair}
use Rattle.lt_forest.specs.Forest.{folded}
use Rattle.lt_rows.specs.Handles.{knows}
use Rattle.lt_rows.specs.Lawful.{shown}
use Rattle.lt_chain.specs.Chains.{all_granted}
use Rattle.lt_chain.proofs.FoldOrder.{folded_ranges}
use Rattle.lt_chain.proofs.pairs.chain_pairs.Goals as goal

pub returns-clause-pairs : goal.returns-clause-pairs
returns-clause-pairs c =
    let txn = c.args.txn in
    let same : all_granted txn c.in_ok-ranges.ranges.items ≡ folded txn (shown (knows c.args.pass.now) []) c.args.rows.now =
    ap (all_granted txn) c.in_ok-ranges.ensures.ranges ∙ sym (folded_ranges txn (shown (knows c.args.pass.now) []) c.args.rows.now) in
    subst (λ (l : List Pair). IfOk c.granted_by_left_ends.result (λ pairs. pairs.items ≡ l)) same c.granted_by_left_ends.ensures
