use Rattle.std.proofs.Common.{length, ap, List, arith}
use Rattle.lt_store.specs.declared.done.Done.{Done}
use Rattle.lt_store.specs.Acting.{fresh}
use Rattle.lt_store.proofs.giving_up.give_up.Goals as goal

pub free_all-requires-clause-room : goal.free_all-requires-clause-room
free_all-requires-clause-room g c = λ κs within.
    let own = ap (λ (l : List Done). length l) (c.done.ensures (fresh c.args.txn)) in
    omega (arith, own, c.requires.room (fresh c.args.txn))
