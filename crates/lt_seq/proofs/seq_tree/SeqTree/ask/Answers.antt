use Rattle.std.proofs.Common.{◌≡◌, rules}
use Rattle.lt_seq.specs.declared.event.Reply.TheVariants.{Buffered}
use Rattle.lt_seq.specs.Table.{ask_reply}
use Rattle.lt_seq.specs.Sound.{IsOwned}
use Rattle.lt_seq.proofs.LawfulLaws.{buffered_unopposed}
use Rattle.lt_seq.proofs.seq_tree.SeqTree.ask.Goals as goal

pub grant-requires-in-Buffered-clause-unopposed : goal.grant-requires-in-Buffered-clause-unopposed
grant-requires-in-Buffered-clause-unopposed c =
    let inside = c.self.inside in
    let owned : IsOwned inside.pairs.items inside.mode = search rules in
    let reply : Buffered ≡ ask_reply c.args.buffer c.args.txn c.args.range.now (record { pairs = inside.pairs.items; mode = inside.mode }) = search rules in
    buffered_unopposed c.args.buffer c.args.txn c.args.range.now inside.pairs.items inside.mode owned reply
