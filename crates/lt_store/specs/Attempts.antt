-- What asking for a range makes of the table, and what giving all back makes of it.
use Rattle.std.specs.Prelude.{ℕ, ◌+◌, nat_lt, Bool, true, false, List, [], ◌∷◌, ◌++◌, if◌then◌else◌}
use Rattle.lt_ranges.specs.Interval.{Interval}
use Rattle.lt_seq.specs.declared.event.Deed.{Deed}
use Rattle.lt_seq.specs.declared.event.Deed.TheVariants.{Ask, Free, Join}
use Rattle.lt_seq.specs.declared.event.Reply.{Reply}
use Rattle.lt_seq.specs.declared.event.Reply.TheVariants.{Granted}
use Rattle.lt_seq.specs.declared.event.Event.{Event}
use Rattle.lt_seq.specs.Table.{Setting, TreeState, used, tree_at, ask_reply}
use Rattle.lt_seq.specs.History.{after}
use Rattle.lt_seq.specs.Yard.{event_after}
use Rattle.lt_store.specs.declared.done.Done.{Done}
use Rattle.lt_store.specs.Ranges.{range_of}

-- one tree without a buffer, and one pass
abbrev pub setting_of : ℕ → Setting
setting_of limit = record { plan = record { trees = 1; limit = limit; buffer = 0; passes = 1; first = 0 }; marks = [] }

-- the tree behind these events
abbrev pub tree_after_all : ℕ → List Event → TreeState
tree_after_all limit events = tree_at (after (setting_of limit) events) 0

-- the rows in use behind them
abbrev pub used_after : ℕ → List Event → ℕ
used_after limit events = used (after (setting_of limit) events)

-- the events, and behind them what the transaction does
abbrev pub with_deed : ℕ → ℕ → Deed → List Event → List Event
with_deed limit txn deed events = events ++ event_after (setting_of limit) events 0 txn deed ∷ []

-- an attempt joins first where the rows in use have reached the limit
abbrev pub joined_first : ℕ → ℕ → List Event → List Event
joined_first limit txn events =
    if nat_lt (used_after limit events) limit then events else with_deed limit txn (Join 0 0 0) events

-- there is a lock left then
abbrev pub has_room : ℕ → ℕ → List Event → Bool
has_room limit txn events = nat_lt (used_after limit (joined_first limit txn events)) limit

-- so that it asks, and is replied so
abbrev pub asked : ℕ → ℕ → Interval → List Event → List Event
asked limit txn range events = with_deed limit txn (Ask 0 range Granted) (joined_first limit txn events)

abbrev pub reply_to : ℕ → ℕ → Interval → List Event → Reply
reply_to limit txn range events = ask_reply 0 txn range (tree_after_all limit (joined_first limit txn events))

-- one free for each operation that was done, the first one marked
abbrev pub all_freed : ℕ → ℕ → Bool → List Done → List Event → List Event
all_freed limit txn first [] events = events
all_freed limit txn first (d ∷ ds) events =
    all_freed limit txn false ds (with_deed limit txn (Free 0 (range_of d.op) first 0) events)
