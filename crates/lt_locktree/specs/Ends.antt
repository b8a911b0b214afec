-- Deeds that end a buffer.
use Rattle.std.specs.Prelude.{◌≡◌, ◌≢◌, ℕ, ◌+◌, List, [], false}
use Rattle.lt_seq.specs.declared.event.Event.{Event}
use Rattle.lt_seq.specs.declared.event.Pair.{Pair}
use Rattle.lt_seq.specs.declared.event.Mode.TheVariants.{Tree as TreeMode, Buffer}
use Rattle.lt_seq.specs.History.{IsQuestion}
use Rattle.lt_rows.specs.Plan.{setting_of}
use Rattle.lt_seq.specs.Table.{tree_of, tree_after, replied, is_buffered}
use Rattle.lt_forest.specs.Buffers.{buffered_state}
use Rattle.lt_rows.specs.declared.view.View.{View}
use Rattle.lt_rows.specs.Nodes.{mode_of}
use Rattle.lt_rows.specs.Views.{images}
use Rattle.lt_rows.specs.Lawful.{shown}
use Rattle.lt_locktree.specs.Endings.{HoldsBuffer}

-- The pass holds a tree's buffer, and of it the sequential table makes these pairs by the event, in Tree mode with this score.
pub record EndsAs (v : View) (tree owner count : ℕ) (olds : List ℕ) (score : ℕ) (pairs : List Pair) (e : Event) : Type 0 where
  pub holds : HoldsBuffer v tree owner count olds
  pub own : e.pass + 1 ≡ v.mark
  pub tree_is : tree_of e.deed ≡ tree
  pub question : IsQuestion e.deed
  pub after : tree_after (setting_of v.plan) e.txn e.deed (buffered_state owner count (shown v []) olds)
      ≡ record { pairs = pairs; mode = TreeMode score }
  pub reply : replied (setting_of v.plan) e.txn e.deed (buffered_state owner count (shown v []) olds) ≡ e.deed

-- the anchor shows a buffer into which an ask of this transaction doesn't go
abbrev pub TakesNoAsk : View → ℕ → ℕ → Type 0
TakesNoAsk v tree txn =
    (owner : ℕ) × (count : ℕ) × (mode_of (images v tree) ≡ Buffer owner count)
    × (is_buffered v.plan.buffer txn [] (Buffer owner count) ≡ false)
