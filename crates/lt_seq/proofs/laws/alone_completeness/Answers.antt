use Rattle.lt_seq.proofs.YardLaws.{alone_answers, alone_ask_answers, alone_done, alone_ask_done, alone_ask_below}
use Rattle.lt_seq.proofs.laws.alone_completeness.Goals as goal

pub returns : goal.returns
returns c = record {
  ask = λ setting bar old new txn deed result ask all. alone_ask_below setting bar old new txn deed result (alone_ask_answers setting bar old new txn deed result ask all);
  full = λ setting bar old new txn deed result ask all. alone_ask_done setting bar old new txn deed result (alone_ask_answers setting bar old new txn deed result ask all);
  others = λ setting old new txn deed result answers all. alone_done setting old new txn deed result (alone_answers setting old new txn deed result answers all);
}
