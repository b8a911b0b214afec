use Rattle.lt_rows.proofs.FirstAsk.{whole_words}
use Rattle.std.proofs.Common.{refl}
use Rattle.lt_rows.proofs.worked.whole_row.Goals as goal

pub returns-clause-node : goal.returns-clause-node
returns-clause-node c = whole_words c.args.txn c.args.left 18446744073709551615 refl
