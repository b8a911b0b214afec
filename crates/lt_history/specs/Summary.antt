-- The line of numbers about a run: its events by kind, and its transactions by outcome.
use Rattle.std.specs.Prelude.{ℕ, List, [], ◌∷◌, ◌++◌, Bool, true, false, length, codes, count_by}
use Rattle.std.specs.List.{flat_map}
use Rattle.lt_ranges.specs.KeyText.{spaced}
use Rattle.lt_seq.specs.declared.event.Reply.TheVariants.{Granted, Buffered, HeldBy}
use Rattle.lt_seq.specs.declared.event.Deed.{Deed}
use Rattle.lt_seq.specs.declared.event.Deed.TheVariants.{Ask, Free, Who, Join}
use Rattle.lt_seq.specs.declared.event.Receipt.{Receipt}
use Rattle.lt_history.specs.declared.outcome.Outcome.{Outcome}
use Rattle.lt_history.specs.declared.outcome.Outcome.TheVariants.{Done, Aborted, Deadlock, OutOfLocks}
use Rattle.lt_history.specs.declared.outcome.Ended.{Ended}

-- an ask that was granted, but for a buffer
abbrev pub is_granted : Deed → Bool
is_granted (Ask tree range Granted) = true
is_granted (Ask tree range Buffered) = false
is_granted (Ask tree range (HeldBy owners)) = false
is_granted (Free tree range first count) = false
is_granted (Who tree range named owners) = false
is_granted (Join tree before after) = false

-- an ask that was granted into a buffer
abbrev pub is_buffered : Deed → Bool
is_buffered (Ask tree range Granted) = false
is_buffered (Ask tree range Buffered) = true
is_buffered (Ask tree range (HeldBy owners)) = false
is_buffered (Free tree range first count) = false
is_buffered (Who tree range named owners) = false
is_buffered (Join tree before after) = false

-- an ask that was refused, since others hold some of the range
abbrev pub is_held : Deed → Bool
is_held (Ask tree range Granted) = false
is_held (Ask tree range Buffered) = false
is_held (Ask tree range (HeldBy owners)) = true
is_held (Free tree range first count) = false
is_held (Who tree range named owners) = false
is_held (Join tree before after) = false

-- a question who holds a range
abbrev pub is_who : Deed → Bool
is_who (Ask tree range reply) = false
is_who (Free tree range first count) = false
is_who (Who tree range named owners) = true
is_who (Join tree before after) = false

-- a free
abbrev pub is_free : Deed → Bool
is_free (Ask tree range reply) = false
is_free (Free tree range first count) = true
is_free (Who tree range named owners) = false
is_free (Join tree before after) = false

-- a join
abbrev pub is_join : Deed → Bool
is_join (Ask tree range reply) = false
is_join (Free tree range first count) = false
is_join (Who tree range named owners) = false
is_join (Join tree before after) = true

-- how a transaction ended
abbrev pub is_done : Outcome → Bool
is_done Done = true
is_done Aborted = false
is_done (Deadlock walk) = false
is_done (OutOfLocks place used) = false

abbrev pub is_aborted : Outcome → Bool
is_aborted Done = false
is_aborted Aborted = true
is_aborted (Deadlock walk) = false
is_aborted (OutOfLocks place used) = false

abbrev pub is_deadlock : Outcome → Bool
is_deadlock Done = false
is_deadlock Aborted = false
is_deadlock (Deadlock walk) = true
is_deadlock (OutOfLocks place used) = false

abbrev pub is_out_of_locks : Outcome → Bool
is_out_of_locks Done = false
is_out_of_locks Aborted = false
is_out_of_locks (Deadlock walk) = false
is_out_of_locks (OutOfLocks place used) = true

-- how many events have such a deed
abbrev pub deeds : (Deed → Bool) → List Receipt → ℕ
deeds is_such receipts = count_by (λ receipt. is_such receipt.event.deed) receipts

-- how many transactions have such an outcome
abbrev pub ends : (Outcome → Bool) → List Ended → ℕ
ends is_such outcomes = count_by (λ ended. is_such ended.outcome) outcomes

-- the number of the events, and of the asks by their replies
abbrev pub ask_numbers : List Receipt → List ℕ
ask_numbers receipts =
    length receipts ∷ deeds is_granted receipts ∷ deeds is_buffered receipts ∷ deeds is_held receipts ∷ []

-- the numbers of the other events
abbrev pub other_numbers : List Receipt → List ℕ
other_numbers receipts = deeds is_who receipts ∷ deeds is_free receipts ∷ deeds is_join receipts ∷ []

-- the numbers of the transactions, of each outcome
abbrev pub outcome_numbers : List Ended → List ℕ
outcome_numbers outcomes =
    ends is_done outcomes ∷ ends is_aborted outcomes ∷ ends is_deadlock outcomes ∷ ends is_out_of_locks outcomes ∷ []

-- the word and the numbers, each behind a space
abbrev pub summary_line : List Receipt → List Ended → List ℕ
summary_line receipts outcomes =
    codes "sum" ++ flat_map spaced (ask_numbers receipts) ++ flat_map spaced (other_numbers receipts)
    ++ flat_map spaced (outcome_numbers outcomes) ++ codes "\n"
