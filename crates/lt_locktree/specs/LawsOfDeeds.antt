-- From what a search holds for a range, an event's plan meets what a commit asks.
use Rattle.std.specs.Prelude.{◌≡◌, ℕ, pos, ◌+◌, ◌<◌, List, [], ◌∷◌, map}
use Rattle.lt_ranges.specs.Interval.{Interval, IsInterval}
use Rattle.lt_seq.specs.declared.event.Event.{Event}
use Rattle.lt_seq.specs.declared.event.Deed.TheVariants.{Ask, Who}
use Rattle.lt_seq.specs.declared.event.Reply.TheVariants.{HeldBy}
use Rattle.lt_seq.specs.Pairs.{others}
use Rattle.lt_forest.specs.declared.part.PartRow.{PartRow}
use Rattle.lt_forest.specs.Parts.{row_pair}
use Rattle.lt_rows.specs.declared.view.View.{View}
use Rattle.lt_rows.specs.Lawful.{IsCommit}
use Rattle.lt_tree.specs.Gathers.{IsLockedWith, IsClosed}

-- Who holds a range, asked as any transaction: the owners are those of the part's rows.
abbrev pub WhoCommits : Type 0
WhoCommits =
    (v : View) (tree : ℕ) (asked : Interval) (here : ℕ) (rows : List PartRow) (hangs more : List ℕ) (e : Event) (named : ℕ)
    → IsLockedWith v tree asked here rows hangs more → IsClosed asked rows hangs → tree < v.plan.trees → IsInterval asked
    → e.pass + 1 ≡ v.mark → e.deed ≡ Who tree asked named (others named asked (map row_pair rows))
    → IsCommit v.plan v e [] (pos 0)

-- An ask that others hold is answered by these, and nothing changes.
abbrev pub HeldAskCommits : Type 0
HeldAskCommits =
    (v : View) (tree : ℕ) (asked : Interval) (here : ℕ) (rows : List PartRow) (hangs more : List ℕ) (e : Event) (o : ℕ) (os : List ℕ)
    → IsLockedWith v tree asked here rows hangs more → IsClosed asked rows hangs → tree < v.plan.trees → IsInterval asked
    → e.pass + 1 ≡ v.mark → others e.txn asked (map row_pair rows) ≡ o ∷ os → e.deed ≡ Ask tree asked (HeldBy (o ∷ os))
    → IsCommit v.plan v e [] (pos 0)
