-- A step counts as one, and ends a transaction only with its last move.
use Rattle.std.proofs.Common.{◌≡◌, ℕ, ◌+◌, ◌<◌, List, [], ◌∷◌, ◌++◌, length, Bool, true, false, ◌&&◌, ◌||◌, ◌==◌, nat_lt}
use Rattle.std.proofs.Common.{Option, Some, None, if◌then◌else◌, refl, sym, ap, ◌∙◌, arith}
use Rattle.std.specs.Option.{option_or}
use Rattle.std.proofs.lemmas.Bool.Decides.{nat_tests}
use Rattle.std.proofs.lemmas.List.Folds.{list_any-append}
use Rattle.std.proofs.lemmas.Grind.{common_steps}
use Rattle.lt_ranges.specs.Numbers.{is_in, with_number}
use Rattle.lt_seq.specs.declared.event.Reply.{Reply}
use Rattle.lt_seq.specs.declared.event.Reply.TheVariants.{Granted, Buffered, HeldBy}
use Rattle.lt_trace.specs.declared.fault.TraceFault.{TraceFault}
use Rattle.lt_trace.specs.declared.fault.TraceFault.TheVariants as fault
use Rattle.lt_store.specs.declared.op.Op.{Op}
use Rattle.lt_store.specs.declared.op.Op.TheVariants.{Get, Put, Scan, Commit, Abort}
use Rattle.lt_store.specs.declared.op.Move.{Move}
use Rattle.lt_store.specs.declared.answer.Answer.{Answer}
use Rattle.lt_store.specs.Ranges.{range_of}
use Rattle.lt_store.specs.Attempts.{has_room, reply_to}
use Rattle.lt_store.specs.View.{StoreView}
use Rattle.lt_store.specs.Steps.{Steps, StepsBy, DoesOp, Attempts, RepliedTo}
use Rattle.lt_script.specs.Moves.{is_last, has_ended}
use Rattle.lt_script.specs.Grammar.{most_lines, fault_of_op, fault_of_turn, IsFaultless}
use Rattle.lt_script.specs.Playing.{HasMade}

or_left : (a b : Bool) → (a || b) ≡ false → a ≡ false
or_left true b e = cc
or_left false b e = refl

or_right : (a b : Bool) → (a || b) ≡ false → b ≡ false
or_right true b e = cc
or_right false b e = e

or_none : (a b : Bool) → a ≡ false → b ≡ false → (a || b) ≡ false
or_none true b e f = cc
or_none false b e f = f

and_true : (a : Bool) → (a && true) ≡ false → a ≡ false
and_true true e = e
and_true false e = refl

-- a number put into a list makes no other one a member
not_in : (t n : ℕ) (ns : List ℕ) → is_in t ns ≡ false → (n == t) ≡ false → is_in t (with_number n ns) ≡ false
not_in t n [] out other = or_none (n == t) false other refl
not_in t n (m ∷ ms) out other =
    by_tests (nat_lt n m) (n == m) (not_in t n ms (or_right (m == t) (is_in t ms) out) other)
  where
    by_tests : (a b : Bool) → is_in t (with_number n ms) ≡ false →
        is_in t (if a then n ∷ m ∷ ms else if b then m ∷ ms else m ∷ with_number n ms) ≡ false
    by_tests true b rest = or_none (n == t) _ other out
    by_tests false true rest = out
    by_tests false false rest = or_none (m == t) _ (or_left (m == t) (is_in t ms) out) rest

-- What a step does to the count and to those that have ended.

abbrev steps_of : StoreView → ℕ
steps_of store = store.steps

abbrev ended_of : StoreView → List ℕ
ended_of store = store.ended

record Counts (old new : StoreView) (txn : ℕ) (op : Op) : Type 0 where
  steps : new.steps ≡ old.steps + 1
  ended : (t : ℕ) → is_in t old.ended ≡ false → (txn == t && is_last op) ≡ false → is_in t new.ended ≡ false

keeps : (old new : StoreView) (txn : ℕ) (op : Op) → new.steps ≡ old.steps + 1 → new.ended ≡ old.ended → Counts old new txn op
keeps old new txn op steps same = record { steps = steps; ended = λ t out not_last. ap (λ ns. is_in t ns) same ∙ out }

ends : (old new : StoreView) (txn : ℕ) (op : Op) → is_last op ≡ true → new.steps ≡ old.steps + 1 →
    new.ended ≡ with_number txn old.ended → Counts old new txn op
ends old new txn op last steps is = record {
  steps = steps;
  ended = λ t out not_last. ap (λ ns. is_in t ns) is
      ∙ not_in t txn old.ended out (and_true (txn == t) (ap (λ b. txn == t && b) (sym last) ∙ not_last));
}

by_reply : (reply : Reply) (old new : StoreView) (txn : ℕ) (op : Op) (answer : Answer) →
    RepliedTo reply old new txn op answer → Counts old new txn op
by_reply Granted old new txn op answer h = keeps old new txn op (ap steps_of h.new_is) (ap ended_of h.new_is)
by_reply Buffered old new txn op answer h = keeps old new txn op (ap steps_of h.new_is) (ap ended_of h.new_is)
by_reply (HeldBy owners) old new txn op answer h = keeps old new txn op (ap steps_of h.new_is) (ap ended_of h.new_is)

by_room : (room : Bool) (old new : StoreView) (txn : ℕ) (op : Op) (answer : Answer) →
    Attempts room old new txn op answer → Counts old new txn op
by_room true old new txn op answer h = by_reply (reply_to old.limit txn (range_of op) old.front) old new txn op answer h
by_room false old new txn op answer h = keeps old new txn op (ap steps_of h.new_is) (ap ended_of h.new_is)

by_op : (op : Op) (old new : StoreView) (txn : ℕ) (answer : Answer) → DoesOp op old new txn answer → Counts old new txn op
by_op (Get key) old new txn answer h = by_room (has_room old.limit txn old.front) old new txn (Get key) answer h
by_op (Put key value) old new txn answer h = by_room (has_room old.limit txn old.front) old new txn (Put key value) answer h
by_op (Scan range) old new txn answer h = by_room (has_room old.limit txn old.front) old new txn (Scan range) answer h
by_op Commit old new txn answer h = ends old new txn Commit refl (ap steps_of h.new_is) (ap ended_of h.new_is)
by_op Abort old new txn answer h = ends old new txn Abort refl (ap steps_of h.new_is) (ap ended_of h.new_is)

by_gone : (gone : Bool) (old new : StoreView) (txn : ℕ) (op : Op) (answer : Answer) →
    StepsBy gone old new txn op answer → Counts old new txn op
by_gone true old new txn op answer h = keeps old new txn op (ap steps_of h.1) (ap ended_of h.1)
by_gone false old new txn op answer h = by_op op old new txn answer h

counts : (old new : StoreView) (txn : ℕ) (op : Op) (answer : Answer) → Steps old new txn op answer → Counts old new txn op
counts old new txn op answer h = by_gone (is_in txn old.gone) old new txn op answer h

-- What a move without a fault tells.

none_first : (a b : Option TraceFault) → option_or a b ≡ None → a ≡ None
none_first None b e = refl
none_first (Some f) b e = cc

none_second : (a b : Option TraceFault) → option_or a b ≡ None → b ≡ None
none_second None b e = e
none_second (Some f) b e = cc

not_first : (b : Bool) (f : TraceFault) (rest : Option TraceFault) → (if b then Some f else rest) ≡ None → b ≡ false
not_first true f rest e = cc
not_first false f rest e = refl

-- its transaction had no last move
pub is_open : (before : List Move) (m : Move) → IsFaultless before m → has_ended m.txn before ≡ false
is_open before m h =
    not_first (has_ended m.txn before) (fault.AfterEnd (3 + length before)) _
    (none_second (fault_of_op (3 + length before) m.op) (fault_of_turn (3 + length before) before m.txn) h.says)

-- and few moves are before it
pub are_few : (before : List Move) (m : Move) → IsFaultless before m → length before < 65536
are_few before m h =
    let within = not_first (nat_lt most_lines (3 + length before)) (fault.TooManyLines (3 + length before)) _ h.text in
    grind (arith, nat_tests)

-- The moves that a store has made.

ended_snoc : (t : ℕ) (before : List Move) (m : Move) → has_ended t (before ++ m ∷ []) ≡ (has_ended t before || has_ended t (m ∷ []))
ended_snoc t before m = list_any-append (λ (n : Move). n.txn == t && is_last n.op) before (m ∷ [])

-- and one more
pub one_made : (before : List Move) (m : Move) (old new : StoreView) (answer : Answer) → IsFaultless before m → HasMade before old →
    Steps old new m.txn m.op answer → HasMade (before ++ m ∷ []) new
one_made before m old new answer faultless made step =
    let are = counts old new m.txn m.op answer step in
    record {
      steps = grind (arith, common_steps, are.steps, made.steps);
      few = grind (arith, common_steps, are_few before m faultless);
      ended = λ t h.
          let not_either : (has_ended t before || has_ended t (m ∷ [])) ≡ false = sym (ended_snoc t before m) ∙ h in
          are.ended t (made.ended t (or_left (has_ended t before) _ not_either))
          (or_left (m.txn == t && is_last m.op) false (or_right (has_ended t before) _ not_either));
    }
