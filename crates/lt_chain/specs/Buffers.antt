-- What the calls on a buffer ask and say.
use Rattle.std.specs.Prelude.{◌≡◌, ℕ, ◌<◌, List, [], ◌∷◌}
use Rattle.lt_ranges.specs.Interval.{Interval, IsInterval}
use Rattle.lt_seq.specs.declared.event.Event.{Event}
use Rattle.lt_seq.specs.declared.event.Mode.TheVariants.{Tree as TreeMode, Buffer}
use Rattle.lt_seq.specs.declared.event.Deed.TheVariants.{Ask}
use Rattle.lt_seq.specs.declared.event.Reply.TheVariants.{Buffered}
use Rattle.lt_seq.specs.declared.fault.Fault.{Fault}
use Rattle.lt_seq.specs.declared.fault.Fault.TheVariants.{Busy, OutOfMemory, HistoryFull, OutOfLocks}
use Rattle.lt_rows.specs.declared.row_plan.RowPlan.{RowPlan}
use Rattle.lt_rows.specs.declared.view.View.{View}
use Rattle.lt_rows.specs.declared.image.RowImage.{RowImage}
use Rattle.lt_rows.specs.Nodes.{mode_of}
use Rattle.lt_rows.specs.Views.{images}
use Rattle.lt_rows.specs.Lawful.{shown}
use Rattle.lt_rows.specs.Handles.{Commits}
use Rattle.lt_tree.specs.States.{HoldsNone, OnlyHeld, OnlyRows, KeepsRows, IsRefused}
use Rattle.lt_tree.specs.Puttings.{Backs}

-- the pass gathers, and holds the tree's anchor and no other row
abbrev pub HoldsAnchor : View → ℕ → Type 0
HoldsAnchor v tree = Backs v (tree ∷ [])

-- the anchor shows an empty tree in which a buffer may begin
pub record MayBegin (k : RowPlan) (v : View) (tree : ℕ) : Type 0 where
  pub room : 0 < k.buffer
  pub mode : mode_of (images v tree) ≡ TreeMode 100
  pub empty : (shown v [] tree).left ≡ 0

-- or the buffer of this transaction, with so many rows, and room for one more
pub record MayAppend (k : RowPlan) (v : View) (tree txn count : ℕ) : Type 0 where
  pub room : count < k.buffer
  pub mode : mode_of (images v tree) ≡ Buffer txn count

-- this pass's buffered ask in this tree, of a transaction with a number
pub record AsksBuffered (pass tree : ℕ) (e : Event) : Type 0 where
  pub range : Interval
  pub pass_is : e.pass ≡ pass
  pub txn : 0 < e.txn
  pub question : IsInterval range
  pub deed : e.deed ≡ Ask tree range Buffered

-- a row was met that another pass holds, and no want of memory
abbrev pub IsMet : View → View → Fault → Type 0
IsMet v w OutOfMemory = ⊥
IsMet v w (Busy row holder) = IsRefused v w (Busy row holder)
IsMet v w (HistoryFull place) = ⊥
IsMet v w (OutOfLocks place used) = ⊥

-- The event was committed with the rows that were held and others that were taken besides, and all were given back.
pub record Makes (v w : View) (e : Event) (place : ℕ) : Type 0 where
  pub full : View
  pub made : View
  pub plan : List RowImage
  pub takes : OnlyRows v full
  pub keeps : KeepsRows v full
  pub commits : Commits full made plan e place
  pub puts : OnlyHeld made w
  pub none : HoldsNone w
