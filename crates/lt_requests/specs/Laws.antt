-- Laws of starts and retries.
use Rattle.std.specs.Prelude.{◌≡◌, ℕ, ◌+◌, ◌≤◌, List, [], ◌∷◌, ◌++◌, length, Result, Some, None}
use Rattle.lt_seq.specs.declared.event.Event.{Event}
use Rattle.lt_seq.specs.declared.event.Receipt.{Receipt}
use Rattle.lt_seq.specs.declared.event.Reply.TheVariants.{HeldBy}
use Rattle.lt_seq.specs.declared.fault.Fault.{Fault}
use Rattle.lt_seq.specs.Table.{Setting}
use Rattle.lt_seq.specs.History.{after}
use Rattle.lt_seq.specs.Questions.{receipt_after}
use Rattle.lt_seq.specs.Yard.{PassView, HasAll, place_after, places_end}
use Rattle.lt_requests.specs.declared.wish.Wish.{Wish}
use Rattle.lt_requests.specs.declared.started.Started.{Started}
use Rattle.lt_requests.specs.Registered.{Ascend, wish_of}
use Rattle.lt_requests.specs.Search.{wishes_of, searched, edges_in}
use Rattle.lt_requests.specs.Started.{IsStarted, HasAnswer, deed_for, reply_of}
use Rattle.lt_requests.specs.Walks.{cycle_of}
use Rattle.lt_requests.specs.Circles.{IsCircle}

-- A pass that has all the rights gets an answer, where there are places for the joins of all trees, the ask and a question for
-- each that waits.
abbrev pub StartsHaveAnswers : Type 0
StartsHaveAnswers =
    (setting : Setting) (bar : ℕ) (wish : Wish) (others waiting before : List Wish) (old new : PassView) (after : List Wish) (result : Result Started Fault)
    → IsStarted setting bar wish others waiting before old new after result → Ascend waiting → HasAll setting old
    → place_after setting old.front + setting.plan.trees + 1 + length waiting ≤ places_end → HasAnswer result

-- the ask for a wish by one pass alone behind these events
abbrev pub alone_ask : Setting → List Event → ℕ → Wish → Receipt
alone_ask setting events txn wish = receipt_after setting events 0 txn (deed_for wish)

-- an ask that was held by these owners, and the search behind it
abbrev pub held_and_searched : Setting → ℕ → List Wish → List Event → Receipt → List ℕ → List Receipt
held_and_searched setting txn wishes events ask owners =
    ask ∷ searched setting txn wishes wishes (events ++ ask.event ∷ []) [] (wishes_of owners wishes)

-- A search misses no circle. The ask of one that waits was held, and the search behind it found no closed walk: then no way of
-- those that wait for one another, by what the table holds, leads from it back to it.
abbrev pub SearchesFindCircles : Type 0
SearchesFindCircles =
    (setting : Setting) (txn : ℕ) (wishes : List Wish) (events : List Event) (wish : Wish) (owners : List ℕ)
    → Ascend wishes → wish_of txn wishes ≡ Some wish → reply_of (alone_ask setting events txn wish).event.deed ≡ HeldBy owners
    → cycle_of (edges_in wishes (held_and_searched setting txn wishes events (alone_ask setting events txn wish) owners)) txn ≡ None
    → (way : List ℕ) → IsCircle (after setting (events ++ (alone_ask setting events txn wish).event ∷ [])) wishes txn way → ⊥
