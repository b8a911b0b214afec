-- Worked summaries.
use Rattle.std.specs.Prelude.{◌≡◌, ℕ, List, [], ◌∷◌, codes, false, true}
use Rattle.lt_ranges.specs.Short.{at}
use Rattle.lt_ranges.specs.Interval.{whole}
use Rattle.lt_seq.specs.declared.event.Reply.TheVariants.{Granted, Buffered, HeldBy}
use Rattle.lt_seq.specs.declared.event.Deed.{Deed}
use Rattle.lt_seq.specs.declared.event.Deed.TheVariants.{Ask, Free, Who, Join}
use Rattle.lt_seq.specs.declared.event.Receipt.{Receipt}
use Rattle.lt_history.specs.declared.outcome.Outcome.{Outcome}
use Rattle.lt_history.specs.declared.outcome.Outcome.TheVariants.{Done, Aborted, Deadlock, OutOfLocks}
use Rattle.lt_history.specs.declared.outcome.Ended.{Ended}
use Rattle.lt_history.specs.Summary.{summary_line}

-- an event at a place, of a transaction
abbrev pub made : ℕ → ℕ → Deed → Receipt
made place txn deed = record { place = place; event = record { pass = 0; txn = txn; deed = deed } }

abbrev pub ended : ℕ → Outcome → Ended
ended txn outcome = record { txn = txn; outcome = outcome }

-- a transaction that asks once, for a buffer, and ends
abbrev pub one_ask : List Receipt
one_ask = made 0 1 (Ask 1 (at (codes "06987")) Buffered) ∷ made 1 1 (Free 1 whole true 1) ∷ []

-- events of every kind, one kind more often than the next
abbrev pub every_kind : List Receipt
every_kind =
    made 0 1 (Ask 0 (at (codes "a")) Granted) ∷ made 1 1 (Ask 0 (at (codes "b")) Granted)
    ∷ made 2 2 (Ask 1 (at (codes "a")) Buffered)
    ∷ made 3 2 (Ask 0 (at (codes "a")) (HeldBy (1 ∷ []))) ∷ made 4 2 (Ask 0 (at (codes "b")) (HeldBy (1 ∷ [])))
    ∷ made 5 3 (Ask 0 (at (codes "b")) (HeldBy (1 ∷ [])))
    ∷ made 6 2 (Who 0 (at (codes "a")) 3 (1 ∷ [])) ∷ made 7 2 (Join 0 2 2) ∷ made 8 1 (Join 0 2 2)
    ∷ made 9 1 (Free 0 (at (codes "a")) true 1) ∷ made 10 1 (Free 0 (at (codes "b")) false 1)
    ∷ made 11 2 (Free 1 whole true 1) ∷ made 12 3 (Free 0 whole true 0) ∷ []

abbrev pub every_end : List Ended
every_end =
    ended 1 Done ∷ ended 2 Aborted ∷ ended 3 Aborted ∷ ended 4 (OutOfLocks 12 2)
    ∷ ended 5 (Deadlock []) ∷ ended 6 (Deadlock []) ∷ ended 7 (Deadlock []) ∷ []

pub record SummaryRows : Type 0 where
  pub nothing : summary_line [] [] ≡ codes "sum 0 0 0 0 0 0 0 0 0 0 0\n"
  pub one_ask : summary_line one_ask (ended 1 Done ∷ []) ≡ codes "sum 2 0 1 0 0 1 0 1 0 0 0\n"
  pub every_kind : summary_line every_kind every_end ≡ codes "sum 13 2 1 3 1 4 2 1 2 3 1\n"
