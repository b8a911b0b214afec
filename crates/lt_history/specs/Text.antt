-- The text of a history with the outcomes of its transactions.
use Rattle.std.specs.Prelude.{ℕ, List, [], ◌∷◌, ◌++◌, codes, decimal}
use Rattle.std.specs.List.{flat_map}
use Rattle.lt_ranges.specs.KeyText.{spaced, range_text}
use Rattle.lt_seq.specs.declared.event.Reply.{Reply}
use Rattle.lt_seq.specs.declared.event.Reply.TheVariants.{Granted, Buffered, HeldBy}
use Rattle.lt_seq.specs.declared.event.Deed.{Deed}
use Rattle.lt_seq.specs.declared.event.Deed.TheVariants.{Ask, Free, Who, Join}
use Rattle.lt_seq.specs.declared.event.Receipt.{Receipt}
use Rattle.lt_requests.specs.declared.cycle.Edge.{Edge}
use Rattle.lt_history.specs.declared.outcome.Outcome.{Outcome}
use Rattle.lt_history.specs.declared.outcome.Outcome.TheVariants.{Done, Aborted, Deadlock, OutOfLocks}
use Rattle.lt_history.specs.declared.outcome.Ended.{Ended}

abbrev pub held_by : List ℕ → List ℕ
held_by owners = codes " held by" ++ flat_map spaced owners

abbrev pub reply_text : Reply → List ℕ
reply_text Granted = codes " granted"
reply_text Buffered = codes " buffered"
reply_text (HeldBy owners) = held_by owners

abbrev pub holders_text : List ℕ → List ℕ
holders_text [] = codes " held by none"
holders_text (owner ∷ owners) = held_by (owner ∷ owners)

abbrev pub deed_text : Deed → List ℕ
deed_text (Ask tree range reply) = codes " ask" ++ spaced tree ++ range_text range ++ reply_text reply
deed_text (Free tree range first count) = codes " free" ++ spaced tree ++ range_text range ++ spaced count
deed_text (Who tree range named owners) =
    codes " who" ++ spaced tree ++ range_text range ++ spaced named ++ holders_text owners
deed_text (Join tree before after) = codes " join" ++ spaced tree ++ spaced before ++ spaced after

abbrev pub event_line : Receipt → List ℕ
event_line receipt = decimal receipt.place ++ spaced receipt.event.txn ++ deed_text receipt.event.deed ++ codes "\n"

-- the transactions of a walk behind the first
abbrev pub walk_text : List Edge → List ℕ
walk_text edges = flat_map (λ edge. spaced edge.holder) edges

-- the look that showed no room
abbrev pub out_of_locks_text : ℕ → ℕ → List ℕ
out_of_locks_text place used = codes " outoflocks" ++ spaced place ++ spaced used

-- a walk goes from the transaction back to it
abbrev pub outcome_text : ℕ → Outcome → List ℕ
outcome_text txn Done = codes " done"
outcome_text txn Aborted = codes " aborted"
outcome_text txn (Deadlock walk) = codes " deadlock" ++ spaced txn ++ walk_text walk
outcome_text txn (OutOfLocks place used) = out_of_locks_text place used

abbrev pub ended_line : Ended → List ℕ
ended_line ended = codes "txn" ++ spaced ended.txn ++ outcome_text ended.txn ended.outcome ++ codes "\n"

abbrev pub end_line : ℕ → ℕ → List ℕ
end_line count used = codes "end" ++ spaced count ++ spaced used ++ codes "\n"

-- the events by place, the outcomes by transaction, and the last line
abbrev pub text : List Receipt → List Ended → ℕ → ℕ → List ℕ
text receipts outcomes count used = flat_map event_line receipts ++ flat_map ended_line outcomes ++ end_line count used
