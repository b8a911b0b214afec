-- A history of a crew of two in which transaction 1's search leaves out transaction 2, which was held at its lock line twice and
-- still searches: worked, so that it stays no run.
use Rattle.std.specs.Prelude.{ℕ, List, [], ◌∷◌, true, false}
use Rattle.lt_ranges.specs.declared.key.Key.TheVariants.{Bytes}
use Rattle.lt_ranges.specs.Interval.{Interval}
use Rattle.lt_seq.specs.declared.event.Deed.{Deed}
use Rattle.lt_seq.specs.declared.event.Deed.TheVariants.{Ask, Free, Who}
use Rattle.lt_seq.specs.declared.event.Reply.TheVariants.{Granted, HeldBy}
use Rattle.lt_seq.specs.declared.event.Event.{Event}
use Rattle.lt_seq.specs.declared.event.Receipt.{Receipt}
use Rattle.lt_seq.specs.Table.{Setting}
use Rattle.lt_trace.specs.declared.line.Line.{Line}
use Rattle.lt_trace.specs.declared.line.LineDeed.TheVariants.{Lock}
use Rattle.lt_requests.specs.declared.wish.Wish.{Wish}
use Rattle.lt_history.specs.declared.outcome.Outcome.TheVariants.{Done, Deadlock}
use Rattle.lt_runner.specs.Turn.{asks, waits, ends, frees}
use Rattle.lt_runner.specs.Run.{Play, AreAllPlayed, IsRun}

abbrev pub at : ℕ → Interval
at k = record { left = Bytes (k ∷ []); right = Bytes (k ∷ []) }

abbrev pub two : Setting
two = record { plan = record { trees = 1; limit = 64; buffer = 0; passes = 2; first = 0 }; marks = [] }

abbrev pub line : ℕ → ℕ → Line
line txn k = record { txn = txn; number = 0; deed = Lock 0 (at k) }

abbrev pub lines : List Line
lines = line 1 97 ∷ line 2 98 ∷ line 1 98 ∷ line 2 97 ∷ []

abbrev pub ev : ℕ → Deed → Event
ev txn deed = record { pass = 0; txn = txn; deed = deed }

abbrev pub history : List Event
history =
    ev 1 (Ask 0 (at 97) Granted) ∷ ev 2 (Ask 0 (at 98) Granted)
    ∷ ev 1 (Ask 0 (at 98) (HeldBy (2 ∷ []))) ∷ ev 2 (Ask 0 (at 97) (HeldBy (1 ∷ [])))
    ∷ ev 2 (Ask 0 (at 97) (HeldBy (1 ∷ []))) ∷ ev 1 (Ask 0 (at 98) (HeldBy (2 ∷ [])))
    ∷ ev 2 (Who 0 (at 98) 1 (2 ∷ [])) ∷ ev 2 (Free 0 (at 98) true 1)
    ∷ ev 1 (Ask 0 (at 98) Granted) ∷ ev 1 (Free 0 (at 97) true 1) ∷ ev 1 (Free 0 (at 98) false 1) ∷ []

abbrev pub r : ℕ → ℕ → Deed → Receipt
r place txn deed = record { place = place; event = ev txn deed }

abbrev pub wish : ℕ → ℕ → Wish
wish txn k = record { txn = txn; tree = 0; range = at k }

abbrev pub plays : List Play
plays =
    record {
      txn = 1;
      moves =
          asks [] (r 0 1 (Ask 0 (at 97) Granted)) ∷ asks [] (r 2 1 (Ask 0 (at 98) (HeldBy (2 ∷ []))))
          ∷ waits [] (r 5 1 (Ask 0 (at 98) (HeldBy (2 ∷ [])))) (wish 1 98 ∷ []) []
          ∷ asks [] (r 8 1 (Ask 0 (at 98) Granted)) ∷ ends
          ∷ frees (r 9 1 (Free 0 (at 97) true 1)) ∷ frees (r 10 1 (Free 0 (at 98) false 1)) ∷ [];
      outcome = Done;
    }
    ∷ record {
      txn = 2;
      moves =
          asks [] (r 1 2 (Ask 0 (at 98) Granted)) ∷ asks [] (r 3 2 (Ask 0 (at 97) (HeldBy (1 ∷ []))))
          ∷ waits [] (r 4 2 (Ask 0 (at 97) (HeldBy (1 ∷ [])))) (wish 1 98 ∷ wish 2 97 ∷ []) (r 6 2 (Who 0 (at 98) 1 (2 ∷ [])) ∷ [])
          ∷ frees (r 7 2 (Free 0 (at 98) true 1)) ∷ [];
      outcome = Deadlock (record { waiter = 2; holder = 1; place = 4 } ∷ record { waiter = 1; holder = 2; place = 6 } ∷ []);
    }
    ∷ []

-- All is as it must be but for that search.
pub record LeavesOneOut : Type 0 where
  pub played : AreAllPlayed true two lines history plays
  pub no_run : IsRun true two lines history plays → ⊥
