-- What a step makes of a store.
use Rattle.std.specs.Prelude.{◌≡◌, ℕ, ◌+◌, Bool, true, false, List, [], ◌∷◌, ◌++◌, length, map}
use Rattle.std.specs.List.{AllByRecursion}
use Rattle.lt_ranges.specs.Numbers.{is_in, with_number}
use Rattle.lt_seq.specs.declared.event.Reply.{Reply}
use Rattle.lt_seq.specs.declared.event.Reply.TheVariants.{Granted, Buffered, HeldBy}
use Rattle.lt_seq.specs.declared.event.Event.{Event}
use Rattle.lt_store.specs.declared.row.StoreRow.{StoreRow}
use Rattle.lt_store.specs.declared.op.Op.{Op}
use Rattle.lt_store.specs.declared.op.Op.TheVariants.{Get, Put, Scan, Commit, Abort}
use Rattle.lt_store.specs.declared.answer.Answer.{Answer}
use Rattle.lt_store.specs.declared.answer.Answer.TheVariants.{Committed, Aborted, Held, OutOfLocks, Gone}
use Rattle.lt_store.specs.declared.done.Done.{Done}
use Rattle.lt_store.specs.Ranges.{range_of}
use Rattle.lt_store.specs.Rerun.{rerun, after_all, answer_on, map_after, AreAnswers, AllAreAnswers}
use Rattle.lt_store.specs.Attempts.{joined_first, has_room, asked, reply_to, all_freed, used_after}
use Rattle.lt_store.specs.View.{Work, StoreView, begun}

-- The committed transactions, one after another from the empty map, give each answer. The map is theirs with the puts of the live
-- transactions, and each of those has the answers that it would get as one more transaction behind all commits.
pub record IsSerial (store : StoreView) : Type 0 where
  pub commits : AllAreAnswers [] store.commits
  pub map_is : store.map ≡ after_all (rerun store.commits) (map (λ w. w.done) store.live)
  pub live : AllByRecursion (λ w. AreAnswers (rerun store.commits) w.done) store.live

-- The transaction among the live ones, once it has begun: what it has done, and those around it.
pub record IsAmong (works : List Work) (txn : ℕ) (before : List Work) (done : List Done) (behind : List Work) : Type 0 where
  pub works_are : begun txn works ≡ before ++ record { txn = txn; done = done } ∷ behind

-- it commits
pub record Commits (old new : StoreView) (txn : ℕ) (answer : Answer) : Type 0 where
  pub before : List Work
  pub done : List Done
  pub behind : List Work
  pub among : IsAmong old.live txn before done behind
  pub answer_is : answer ≡ Committed
  pub new_is : new ≡ record old {
    front = all_freed old.limit txn true done old.front;
    commits = old.commits ++ done ∷ [];
    live = before ++ behind;
    ended = with_number txn old.ended;
    steps = old.steps + 1;
  }

-- it is undone, and its locks are released
pub record Aborts (old new : StoreView) (txn : ℕ) (answer : Answer) : Type 0 where
  pub before : List Work
  pub done : List Done
  pub behind : List Work
  pub among : IsAmong old.live txn before done behind
  pub answer_is : answer ≡ Aborted
  pub new_is : new ≡ record old {
    front = all_freed old.limit txn true done old.front;
    map = new.map;
    live = before ++ behind;
    ended = with_number txn old.ended;
    steps = old.steps + 1;
  }

-- there was no lock left for it
pub record Stops (old new : StoreView) (txn : ℕ) (answer : Answer) : Type 0 where
  pub before : List Work
  pub done : List Done
  pub behind : List Work
  pub among : IsAmong old.live txn before done behind
  pub answer_is : answer ≡ OutOfLocks (length (joined_first old.limit txn old.front)) (used_after old.limit (joined_first old.limit txn old.front))
  pub new_is : new ≡ record old {
    front = all_freed old.limit txn true done (joined_first old.limit txn old.front);
    map = new.map;
    live = before ++ behind;
    gone = with_number txn old.gone;
    steps = old.steps + 1;
  }

-- it was granted the range, and has done the operation
pub record Acts (old new : StoreView) (txn : ℕ) (op : Op) (answer : Answer) : Type 0 where
  pub before : List Work
  pub done : List Done
  pub behind : List Work
  pub among : IsAmong old.live txn before done behind
  pub answer_is : answer ≡ answer_on old.map op
  pub new_is : new ≡ record old {
    front = asked old.limit txn (range_of op) old.front;
    map = map_after old.map op;
    live = before ++ record { txn = txn; done = done ++ record { op = op; answer = answer_on old.map op } ∷ [] } ∷ behind;
    steps = old.steps + 1;
  }

-- others hold it
pub record Waits (old new : StoreView) (txn : ℕ) (op : Op) (owners : List ℕ) (answer : Answer) : Type 0 where
  pub answer_is : answer ≡ Held owners
  pub new_is : new ≡ record old {
    front = asked old.limit txn (range_of op) old.front;
    live = begun txn old.live;
    steps = old.steps + 1;
  }

abbrev pub RepliedTo : Reply → StoreView → StoreView → ℕ → Op → Answer → Type 0
RepliedTo Granted old new txn op answer = Acts old new txn op answer
RepliedTo Buffered old new txn op answer = Acts old new txn op answer
RepliedTo (HeldBy owners) old new txn op answer = Waits old new txn op owners answer

-- by whether there is a lock left, and by the reply
abbrev pub Attempts : Bool → StoreView → StoreView → ℕ → Op → Answer → Type 0
Attempts true old new txn op answer = RepliedTo (reply_to old.limit txn (range_of op) old.front) old new txn op answer
Attempts false old new txn op answer = Stops old new txn answer

abbrev pub DoesOp : Op → StoreView → StoreView → ℕ → Answer → Type 0
DoesOp (Get key) old new txn answer = Attempts (has_room old.limit txn old.front) old new txn (Get key) answer
DoesOp (Put key value) old new txn answer = Attempts (has_room old.limit txn old.front) old new txn (Put key value) answer
DoesOp (Scan range) old new txn answer = Attempts (has_room old.limit txn old.front) old new txn (Scan range) answer
DoesOp Commit old new txn answer = Commits old new txn answer
DoesOp Abort old new txn answer = Aborts old new txn answer

-- nothing is done for a transaction that is gone
abbrev pub StepsBy : Bool → StoreView → StoreView → ℕ → Op → Answer → Type 0
StepsBy true old new txn op answer = (answer ≡ Gone) × (new ≡ record old { steps = old.steps + 1 })
StepsBy false old new txn op answer = DoesOp op old new txn answer

abbrev pub Steps : StoreView → StoreView → ℕ → Op → Answer → Type 0
Steps old new txn op answer = StepsBy (is_in txn old.gone) old new txn op answer
