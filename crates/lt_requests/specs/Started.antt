-- What a start or a retry comes to, by what the pass has seen before and after.
use Rattle.std.specs.Prelude.{◌≡◌, ◌⊎◌, ℕ, List, [], ◌∷◌, ◌++◌, Option, Some, None, Bool, if◌then◌else◌, Result, Ok, Err, take, drop}
use Rattle.lt_seq.specs.declared.event.Deed.{Deed}
use Rattle.lt_seq.specs.declared.event.Deed.TheVariants.{Ask, Free, Who, Join}
use Rattle.lt_seq.specs.declared.event.Reply.{Reply}
use Rattle.lt_seq.specs.declared.event.Reply.TheVariants.{Granted, Buffered, HeldBy}
use Rattle.lt_seq.specs.declared.event.Receipt.{Receipt}
use Rattle.lt_seq.specs.declared.fault.Fault.{Fault}
use Rattle.lt_seq.specs.declared.fault.Fault.TheVariants.{OutOfMemory, Busy, HistoryFull, OutOfLocks}
use Rattle.lt_seq.specs.Table.{Setting}
use Rattle.lt_seq.specs.Yard.{PassView, Happens, Answers, AskAnswers, IsSound, Goes}
use Rattle.lt_seq.specs.Questions.{question, named_in}
use Rattle.lt_requests.specs.declared.wish.Wish.{Wish}
use Rattle.lt_requests.specs.declared.cycle.Edge.{Edge}
use Rattle.lt_requests.specs.declared.started.Started.{Started}
use Rattle.lt_requests.specs.declared.started.Started.TheVariants.{Granted as StartedGranted, Waits, Deadlock}
use Rattle.lt_requests.specs.Search.{IsSearch, Reaches, wishes_of, new_wishes, question_for, edges_in, edges_of}
use Rattle.lt_requests.specs.Registered.{without}
use Rattle.lt_requests.specs.Walks.{cycle_of}

-- an event that the pass made by a call of its own, and then others
pub record MakesOne (setting : Setting) (old : PassView) (txn : ℕ) (receipt : Receipt) (Others : PassView → Type 0) : Type 0 where
  pub next : PassView
  pub happens : Happens setting old next txn (question receipt.event.deed) receipt
  pub others : Others next

-- the events of the pass's calls between two moments, one call each
abbrev pub AreMade : Setting → PassView → PassView → ℕ → List Receipt → Type 0
AreMade setting old new txn [] = new ≡ old
AreMade setting old new txn (r ∷ rs) = MakesOne setting old txn r (λ next. AreMade setting next new txn rs)

-- A search among these wishes, behind an event that named the owners: its events are the pass's own, and are those of a
-- search; what is found is the least closed walk by their edges and those of that event.
pub record HasSearched (setting : Setting) (txn : ℕ) (wishes : List Wish) (place : ℕ) (owners : List ℕ)
    (old new : PassView) (found : Option (List Edge)) : Type 0 where
  pub receipts : List Receipt
  pub made : AreMade setting old new txn receipts
  pub is_search : IsSearch txn wishes [] (wishes_of owners wishes) receipts
  pub walk : found ≡ cycle_of (edges_of txn place (wishes_of owners wishes) ++ edges_in wishes receipts) txn

-- The question for the next of those left gave the fault, or memory was short behind the calls that were made.
abbrev pub HasFailed : Setting → ℕ → List Wish → PassView → PassView → Fault → Type 0
HasFailed setting txn left old new fault =
    ((new ≡ old) × (fault ≡ OutOfMemory)) ⊎ ((wish : Wish) × (more : List Wish) × (left ≡ wish ∷ more)
    × Answers setting old new txn (question_for wish) (Err fault))

-- A search that a fault has cut short: its events so far are the pass's own, and are those of a search. They stand.
pub record IsCutShort (setting : Setting) (txn : ℕ) (wishes : List Wish) (owners : List ℕ) (old new : PassView) (fault : Fault) : Type 0 where
  pub receipts : List Receipt
  -- the pass behind them
  pub last : PassView
  pub made : AreMade setting old last txn receipts
  -- who was asked for, and who was left
  pub done : List Wish
  pub left : List Wish
  pub reaches : Reaches txn wishes [] (wishes_of owners wishes) receipts done left
  pub failed : HasFailed setting txn left last new fault

abbrev pub SearchAnswers : Setting → ℕ → List Wish → ℕ → List ℕ → PassView → PassView → Result (Option (List Edge)) Fault → Type 0
SearchAnswers setting txn wishes place owners old new (Ok found) = HasSearched setting txn wishes place owners old new found
SearchAnswers setting txn wishes place owners old new (Err fault) = IsCutShort setting txn wishes owners old new fault

-- One question of a search, and what is listed and drawn by its answer.
pub record IsAskedFor (setting : Setting) (txn : ℕ) (wish : Wish) (wishes : List Wish) (old new : PassView)
    (listed : List Wish) (edges : List Edge) (listed_now : List Wish) (edges_now : List Edge) : Type 0 where
  pub receipt : Receipt
  pub happens : Happens setting old new txn (question_for wish) receipt
  pub listed_is : listed_now ≡ listed ++ new_wishes txn listed (wishes_of (named_in receipt.event.deed) wishes)
  pub edges_is : edges_now ≡ edges ++ edges_of wish.txn receipt.place (wishes_of (named_in receipt.event.deed) wishes)

-- The question gave the fault, or memory was short behind it.
abbrev pub HasNoAnswer : Setting → ℕ → Wish → PassView → PassView → Fault → Type 0
HasNoAnswer setting txn wish old new fault =
    ((receipt : Receipt) × Happens setting old new txn (question_for wish) receipt × (fault ≡ OutOfMemory))
    ⊎ Answers setting old new txn (question_for wish) (Err fault)

-- a search so far: so many of those listed were asked for
pub record IsGoing (setting : Setting) (txn : ℕ) (wishes first : List Wish) (old now : PassView)
    (listed : List Wish) (next : ℕ) (begun edges : List Edge) : Type 0 where
  pub receipts : List Receipt
  pub made : AreMade setting old now txn receipts
  pub reaches : Reaches txn wishes [] first receipts (take next listed) (drop next listed)
  pub edges_are : edges ≡ begun ++ edges_in wishes receipts

-- Starts and retries.

abbrev pub deed_for : Wish → Deed
deed_for wish = Ask wish.tree wish.range Granted

-- the reply of an ask
abbrev pub reply_of : Deed → Reply
reply_of (Ask tree range reply) = reply
reply_of (Free tree range first count) = Granted
reply_of (Who tree range named owners) = Granted
reply_of (Join tree before after) = Granted

-- the ask was granted
pub record IsGranted (setting : Setting) (bar : ℕ) (wish : Wish) (old new : PassView) (place : ℕ) (buffered : Bool) : Type 0 where
  pub ask : Receipt
  pub answers : AskAnswers setting bar old new wish.txn (deed_for wish) (Ok ask)
  pub place_is : place ≡ ask.place
  pub reply_is : reply_of ask.event.deed ≡ (if buffered then Buffered else Granted)

-- the ask was held by these owners
pub record IsHeld (setting : Setting) (bar : ℕ) (wish : Wish) (old asked : PassView) (ask : Receipt) (owners : List ℕ) : Type 0 where
  pub answers : AskAnswers setting bar old asked wish.txn (deed_for wish) (Ok ask)
  pub reply_is : reply_of ask.event.deed ≡ HeldBy owners

-- it was held, and a search behind it among all wishes, its own among them, found a closed walk or none
pub record IsSearched (setting : Setting) (bar : ℕ) (wish : Wish) (wishes : List Wish) (old new : PassView)
    (owners : List ℕ) (found : Option (List Edge)) : Type 0 where
  pub ask : Receipt
  pub asked : PassView
  pub held : IsHeld setting bar wish old asked ask owners
  pub searched : HasSearched setting wish.txn wishes ask.place owners asked new found

-- it was held, and its search was cut short
pub record IsCutAsk (setting : Setting) (bar : ℕ) (wish : Wish) (wishes : List Wish) (old new : PassView) (fault : Fault) : Type 0 where
  pub owners : List ℕ
  pub ask : Receipt
  pub asked : PassView
  pub held : IsHeld setting bar wish old asked ask owners
  pub cut : IsCutShort setting wish.txn wishes owners asked new fault

-- what is left of a registry behind a held ask and its search, whose event had this place and named the owners
abbrev pub IsHeldAnswer : Setting → ℕ → ℕ → List ℕ → List Wish → PassView → PassView → List Wish → Result Started Fault → Type 0
IsHeldAnswer setting txn place owners before old new after (Ok (StartedGranted p buffered)) = ⊥
IsHeldAnswer setting txn place owners before old new after (Ok (Waits named)) =
    (named ≡ owners) × HasSearched setting txn before place owners old new None × (after ≡ before)
IsHeldAnswer setting txn place owners before old new after (Ok (Deadlock walk)) =
    HasSearched setting txn before place owners old new (Some walk) × (after ≡ without txn before)
IsHeldAnswer setting txn place owners before old new after (Err fault) = IsCutShort setting txn before owners old new fault × (after ≡ before)

-- why there was no answer: memory was short at once, the ask gave the fault, or its search was cut short
abbrev pub HasFault : Setting → ℕ → Wish → List Wish → PassView → PassView → Fault → Type 0
HasFault setting bar wish wishes old new fault =
    ((new ≡ old) × (fault ≡ OutOfMemory)) ⊎ (AskAnswers setting bar old new wish.txn (deed_for wish) (Err fault)
    ⊎ IsCutAsk setting bar wish wishes old new fault)

-- The answer: granted, and it does not wait; held, with no closed walk through it, and it waits; held with one, and it does
-- not wait; or a fault, and the registry is as before. `waiting` are all wishes with its own, and `others` those without it.
abbrev pub IsStarted : Setting → ℕ → Wish → List Wish → List Wish → List Wish → PassView → PassView → List Wish → Result Started Fault → Type 0
IsStarted setting bar wish others waiting before old new after (Ok (StartedGranted place buffered)) =
    IsGranted setting bar wish old new place buffered × (after ≡ others)
IsStarted setting bar wish others waiting before old new after (Ok (Waits owners)) =
    IsSearched setting bar wish waiting old new owners None × (after ≡ waiting)
IsStarted setting bar wish others waiting before old new after (Ok (Deadlock walk)) =
    ((owners : List ℕ) × IsSearched setting bar wish waiting old new owners (Some walk)) × (after ≡ others)
IsStarted setting bar wish others waiting before old new after (Err fault) = HasFault setting bar wish waiting old new fault × (after ≡ before)

-- What a start or a retry keeps, whatever it answers: the pass keeps its rights, and where it was sound it has seen no less and is sound.
pub record Keeps (setting : Setting) (old new : PassView) : Type 0 where
  pub rights : new.rights ≡ old.rights
  pub goes : IsSound setting old → Goes setting old new

-- it has an answer, or the ask was out of locks, or memory was short
abbrev pub HasAnswer : Result Started Fault → Type 0
HasAnswer (Ok started) = Unit {0}
HasAnswer (Err OutOfMemory) = Unit {0}
HasAnswer (Err (Busy row holder)) = ⊥
HasAnswer (Err (HistoryFull place)) = ⊥
HasAnswer (Err (OutOfLocks place used_rows)) = Unit {0}
