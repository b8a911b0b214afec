-- The search for a deadlock that a held ask begins.
use Rattle.std.specs.Prelude.{◌≡◌, ℕ, List, [], ◌∷◌, ◌++◌, map, filter, ◌&&◌, ◌==◌, not}
use Rattle.std.specs.List.{flat_map}
use Rattle.lt_ranges.specs.Numbers.{is_in}
use Rattle.lt_seq.specs.declared.event.Deed.{Deed}
use Rattle.lt_seq.specs.declared.event.Deed.TheVariants.{Ask, Free, Who, Join}
use Rattle.lt_seq.specs.declared.event.Receipt.{Receipt}
use Rattle.lt_seq.specs.Table.{Setting}
use Rattle.lt_seq.specs.Questions.{question, receipt_after, named_in}
use Rattle.lt_seq.specs.declared.event.Event.{Event}
use Rattle.lt_requests.specs.declared.wish.Wish.{Wish}
use Rattle.lt_requests.specs.declared.cycle.Edge.{Edge}

-- the wishes of the transactions among these; wishes ascend by transaction
abbrev pub wishes_of : List ℕ → List Wish → List Wish
wishes_of owners wishes = filter (λ w. is_in w.txn owners) wishes

-- those that are not listed yet, and aren't the one that searches
abbrev pub new_wishes : ℕ → List Wish → List Wish → List Wish
new_wishes txn listed wishes = filter (λ w. not (w.txn == txn) && not (is_in w.txn (map (λ l. l.txn) listed))) wishes

-- who holds what the wish is for?
abbrev pub question_for : Wish → Deed
question_for wish = Who wish.tree wish.range wish.txn []

-- The transaction asks for each listed wish in turn, and lists the wishes of those named behind the others.
abbrev pub IsSearch : ℕ → List Wish → List Wish → List Wish → List Receipt → Type 0
IsSearch txn wishes done [] [] = Unit {0}
IsSearch txn wishes done [] (r ∷ rs) = ⊥
IsSearch txn wishes done (w ∷ ws) [] = ⊥
IsSearch txn wishes done (w ∷ ws) (r ∷ rs) =
    (question r.event.deed ≡ question_for w)
    × IsSearch txn wishes (done ++ w ∷ []) (ws ++ new_wishes txn (done ++ w ∷ ws) (wishes_of (named_in r.event.deed) wishes)) rs

-- The search comes from those done and those listed to these, by its events so far.
abbrev pub Reaches : ℕ → List Wish → List Wish → List Wish → List Receipt → List Wish → List Wish → Type 0
Reaches txn wishes done listed [] done_now left = (done_now ≡ done) × (left ≡ listed)
Reaches txn wishes done [] (r ∷ rs) done_now left = ⊥
Reaches txn wishes done (w ∷ ws) (r ∷ rs) done_now left =
    (question r.event.deed ≡ question_for w)
    × Reaches txn wishes (done ++ w ∷ []) (ws ++ new_wishes txn (done ++ w ∷ ws) (wishes_of (named_in r.event.deed) wishes)) rs done_now left

-- The same search by one pass alone behind these events. No wish is asked for twice, so there are no more questions than wishes.
abbrev pub searched : Setting → ℕ → List Wish → List Wish → List Event → List Wish → List Wish → List Receipt
searched setting txn wishes [] events done listed = []
searched setting txn wishes (step ∷ steps) events done [] = []
searched setting txn wishes (step ∷ steps) events done (w ∷ ws) =
    let r = receipt_after setting events 0 txn (question_for w) in
    r ∷ searched setting txn wishes steps (events ++ r.event ∷ []) (done ++ w ∷ []) (ws ++ new_wishes txn (done ++ w ∷ ws) (wishes_of (named_in r.event.deed) wishes))

-- from who asked to each transaction named that waits
abbrev pub edges_of : ℕ → ℕ → List Wish → List Edge
edges_of waiter place named = map (λ w. record { waiter = waiter; holder = w.txn; place = place }) named

abbrev pub waiter_in : Receipt → Deed → ℕ
waiter_in r (Who tree range named owners) = named
waiter_in r (Ask tree range reply) = r.event.txn
waiter_in r (Free tree range first count) = r.event.txn
waiter_in r (Join tree before after) = r.event.txn

-- the edges of an ask and the search behind it
abbrev pub edges_in : List Wish → List Receipt → List Edge
edges_in wishes receipts = flat_map (λ r. edges_of (waiter_in r r.event.deed) r.place (wishes_of (named_in r.event.deed) wishes)) receipts
