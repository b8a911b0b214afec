-- Transactions whose puts touch no key of others may be played in any order.
use Rattle.std.proofs.Common.{◌≡◌, ◌≢◌, ℕ, List, [], ◌∷◌, ◌++◌, Bool, true, false, ◌&&◌, refl, sym, ap, subst, ◌∙◌, zero, suc, ◌<◌, length, drop, get_or, Some, None, arith}
use Rattle.lt_ranges.specs.declared.key.Key.{Key}
use Rattle.lt_ranges.specs.Key.{key_le}
use Rattle.lt_ranges.specs.Interval.{Interval, has}
use Rattle.lt_ranges.proofs.KeyLaws.{le_itself}
use Rattle.lt_store.specs.declared.row.StoreRow.{StoreRow}
use Rattle.lt_store.specs.declared.op.Op.{Op}
use Rattle.lt_store.specs.declared.op.Op.TheVariants.{Get, Put, Scan, Commit, Abort}
use Rattle.lt_store.specs.declared.answer.Answer.TheVariants.{Value, Rows}
use Rattle.lt_store.specs.declared.done.Done.{Done}
use Rattle.lt_store.specs.declared.undo.Undo.{Undo}
use Rattle.lt_store.specs.Rows.{find, put, restored, inside}
use Rattle.lt_store.specs.Rerun.{answer_on, map_after, after_ops, after_all, AreAnswers, AllAreAnswers}
use Rattle.lt_store.specs.Ranges.{range_of}
use Rattle.lt_store.specs.Undoing.{undo_op, undo_of, unwound, CanUnwind}
use Rattle.lt_store.specs.Clear.{Clear, IsClearOf, AreClearOf, AreClearOfAll, AllAreClearOf}
use Rattle.lt_store.proofs.RowsLaws.{undone, find_other, inside_other, put_commutes, find_same}

pub has_itself : (key : Key) → has (record { left = key; right = key }) key ≡ true
has_itself key = by (key_le key key) (le_itself key)
  where
    by : (b : Bool) → b ≡ true → (b && b) ≡ true
    by true e = refl
    by false e = e

differs : (a b : Key) → has (record { left = b; right = b }) a ≡ false → a ≢ b
differs a b out same =
    let there : has (record { left = b; right = b }) a ≡ true = subst (λ (k : Key). has (record { left = b; right = b }) k ≡ true) (sym same) (has_itself b) in
    let e : true ≡ false = sym there ∙ out in
    cc

-- One put of a key that an operation does not touch.
module _ (a : Key) (value : ℕ) where
  pub answer_other : (rows : List StoreRow) (op : Op) → has (range_of op) a ≡ false → answer_on (put rows a value) op ≡ answer_on rows op
  answer_other rows (Get key) out = ap Value (find_other rows a key value (differs a key out))
  answer_other rows (Put key w) out = refl
  answer_other rows (Scan range) out = ap Rows (inside_other range a value out rows)
  answer_other rows Commit out = refl
  answer_other rows Abort out = refl

  pub map_other : (rows : List StoreRow) (op : Op) → has (range_of op) a ≡ false → map_after (put rows a value) op ≡ put (map_after rows op) a value
  map_other rows (Get key) out = refl
  map_other rows (Put key w) out = put_commutes rows a key value w (differs a key out)
  map_other rows (Scan range) out = refl
  map_other rows Commit out = refl
  map_other rows Abort out = refl

  pub undo_op_other : (rows : List StoreRow) (op : Op) → has (range_of op) a ≡ false → undo_op (put rows a value) op ≡ undo_op rows op
  undo_op_other rows (Get key) out = refl
  undo_op_other rows (Put key w) out = ap (λ old. (let u : Undo = record { key = key; old = old } in u) ∷ []) (find_other rows a key value (differs a key out))
  undo_op_other rows (Scan range) out = refl
  undo_op_other rows Commit out = refl
  undo_op_other rows Abort out = refl

  pub ops_other : (rows : List StoreRow) (ops : List Done) → Clear a ops → after_ops (put rows a value) ops ≡ put (after_ops rows ops) a value
  ops_other rows [] clear = refl
  ops_other rows (d ∷ ds) clear =
      ap (λ (l : List StoreRow). after_ops l ds) (map_other rows d.op clear.0) ∙ ops_other (map_after rows d.op) ds clear.1

  pub answers_other : (rows : List StoreRow) (ops : List Done) → Clear a ops → AreAnswers rows ops → AreAnswers (put rows a value) ops
  answers_other rows [] clear are = tt
  answers_other rows (d ∷ ds) clear are = (
    are.0 ∙ sym (answer_other rows d.op clear.0),
    subst (λ (l : List StoreRow). AreAnswers l ds) (sym (map_other rows d.op clear.0)) (answers_other (map_after rows d.op) ds clear.1 are.1),
  )

  pub undo_other : (rows : List StoreRow) (ops : List Done) → Clear a ops → undo_of (put rows a value) ops ≡ undo_of rows ops
  undo_other rows [] clear = refl
  undo_other rows (d ∷ ds) clear =
      ap (λ (us : List Undo). us ++ undo_of (map_after (put rows a value) d.op) ds) (undo_op_other rows d.op clear.0)
      ∙ ap (λ (us : List Undo). undo_op rows d.op ++ us)
      (ap (λ (l : List StoreRow). undo_of l ds) (map_other rows d.op clear.0) ∙ undo_other (map_after rows d.op) ds clear.1)

-- One operation, and then those of a transaction.
op_first : (rows : List StoreRow) (op : Op) (ops : List Done) → IsClearOf op ops → after_ops (map_after rows op) ops ≡ map_after (after_ops rows ops) op
op_first rows (Get key) ops clear = refl
op_first rows (Put key value) ops clear = ops_other key value rows ops clear
op_first rows (Scan range) ops clear = refl
op_first rows Commit ops clear = refl
op_first rows Abort ops clear = refl

answers_behind_op : (rows : List StoreRow) (op : Op) (ops : List Done) → IsClearOf op ops → AreAnswers rows ops → AreAnswers (map_after rows op) ops
answers_behind_op rows (Get key) ops clear are = are
answers_behind_op rows (Put key value) ops clear are = answers_other key value rows ops clear are
answers_behind_op rows (Scan range) ops clear are = are
answers_behind_op rows Commit ops clear are = are
answers_behind_op rows Abort ops clear are = are

undo_behind_op : (rows : List StoreRow) (op : Op) (ops : List Done) → IsClearOf op ops → undo_of (map_after rows op) ops ≡ undo_of rows ops
undo_behind_op rows (Get key) ops clear = refl
undo_behind_op rows (Put key value) ops clear = undo_other key value rows ops clear
undo_behind_op rows (Scan range) ops clear = refl
undo_behind_op rows Commit ops clear = refl
undo_behind_op rows Abort ops clear = refl

-- Two transactions.
pub swapped : (rows : List StoreRow) (puts ops : List Done) → AreClearOf puts ops → after_ops (after_ops rows puts) ops ≡ after_ops (after_ops rows ops) puts
swapped rows [] ops clear = refl
swapped rows (d ∷ ds) ops clear =
    swapped (map_after rows d.op) ds ops clear.1 ∙ ap (λ (l : List StoreRow). after_ops l ds) (op_first rows d.op ops clear.0)

pub answers_behind : (rows : List StoreRow) (puts ops : List Done) → AreClearOf puts ops → AreAnswers rows ops → AreAnswers (after_ops rows puts) ops
answers_behind rows [] ops clear are = are
answers_behind rows (d ∷ ds) ops clear are = answers_behind (map_after rows d.op) ds ops clear.1 (answers_behind_op rows d.op ops clear.0 are)

pub undo_behind : (rows : List StoreRow) (puts ops : List Done) → AreClearOf puts ops → undo_of (after_ops rows puts) ops ≡ undo_of rows ops
undo_behind rows [] ops clear = refl
undo_behind rows (d ∷ ds) ops clear = undo_behind (map_after rows d.op) ds ops clear.1 ∙ undo_behind_op rows d.op ops clear.0

-- One transaction, and then others.
pub last_of_all : (rows : List StoreRow) (puts : List Done) (all : List (List Done)) → AreClearOfAll puts all → after_all (after_ops rows puts) all ≡ after_ops (after_all rows all) puts
last_of_all rows puts [] clear = refl
last_of_all rows puts (ops ∷ more) clear =
    ap (λ (l : List StoreRow). after_all l more) (swapped rows puts ops clear.0) ∙ last_of_all (after_ops rows ops) puts more clear.1

pub all-append : (rows : List StoreRow) (xs ys : List (List Done)) → after_all rows (xs ++ ys) ≡ after_all (after_all rows xs) ys
all-append rows [] ys = refl
all-append rows (x ∷ xs) ys = all-append (after_ops rows x) xs ys

pub ops-append : (rows : List StoreRow) (xs ys : List Done) → after_ops rows (xs ++ ys) ≡ after_ops (after_ops rows xs) ys
ops-append rows [] ys = refl
ops-append rows (d ∷ ds) ys = ops-append (map_after rows d.op) ds ys

-- a transaction between others comes to what it comes to behind them
pub behind_others : (rows : List StoreRow) (xs : List (List Done)) (ops : List Done) (ys : List (List Done)) → AreClearOfAll ops ys →
    after_all rows (xs ++ ops ∷ ys) ≡ after_ops (after_all rows (xs ++ ys)) ops
behind_others rows xs ops ys clear =
    all-append rows xs (ops ∷ ys) ∙ last_of_all (after_all rows xs) ops ys clear ∙ ap (λ (l : List StoreRow). after_ops l ops) (sym (all-append rows xs ys))

-- or before them
pub before_others : (rows : List StoreRow) (xs : List (List Done)) (ops : List Done) (ys : List (List Done)) → AreClearOfAll ops xs → AreClearOfAll ops ys →
    after_all rows (xs ++ ops ∷ ys) ≡ after_all (after_ops rows ops) (xs ++ ys)
before_others rows xs ops ys before behind =
    all-append rows xs (ops ∷ ys) ∙ ap (λ (l : List StoreRow). after_all l ys) (sym (last_of_all rows ops xs before)) ∙ sym (all-append (after_ops rows ops) xs ys)

pub undo_behind_all : (rows : List StoreRow) (all : List (List Done)) (ops : List Done) → AllAreClearOf all ops → undo_of (after_all rows all) ops ≡ undo_of rows ops
undo_behind_all rows [] ops clear = refl
undo_behind_all rows (x ∷ xs) ops clear = undo_behind_all (after_ops rows x) xs ops clear.1 ∙ undo_behind rows x ops clear.0

pub answers_behind_all : (rows : List StoreRow) (all : List (List Done)) (ops : List Done) → AllAreClearOf all ops → AreAnswers rows ops → AreAnswers (after_all rows all) ops
answers_behind_all rows [] ops clear are = are
answers_behind_all rows (x ∷ xs) ops clear are = answers_behind_all (after_ops rows x) xs ops clear.1 (answers_behind rows x ops clear.0 are)

-- undoing from the last to the first leaves the map as it was
pub unwinds : (rows : List StoreRow) (ops : List Done) → unwound (after_ops rows ops) (undo_of rows ops) ≡ rows
unwinds rows [] = refl
unwinds rows (d ∷ ds) = by d.op (unwinds (map_after rows d.op) ds)
  where
    by : (op : Op) → unwound (after_ops (map_after rows op) ds) (undo_of (map_after rows op) ds) ≡ map_after rows op →
        unwound (after_ops (map_after rows op) ds) (undo_op rows op ++ undo_of (map_after rows op) ds) ≡ rows
    by (Get key) rest = rest
    by (Put key value) rest = ap (λ (l : List StoreRow). restored l key (find rows key)) rest ∙ undone rows key value
    by (Scan range) rest = rest
    by Commit rest = rest
    by Abort rest = rest

-- and each key is there then
pub can_unwind : (rows : List StoreRow) (ops : List Done) → CanUnwind (after_ops rows ops) (undo_of rows ops)
can_unwind rows [] = tt
can_unwind rows (d ∷ ds) = by d.op (can_unwind (map_after rows d.op) ds) (unwinds (map_after rows d.op) ds)
  where
    by : (op : Op) → CanUnwind (after_ops (map_after rows op) ds) (undo_of (map_after rows op) ds) →
        unwound (after_ops (map_after rows op) ds) (undo_of (map_after rows op) ds) ≡ map_after rows op →
        CanUnwind (after_ops (map_after rows op) ds) (undo_op rows op ++ undo_of (map_after rows op) ds)
    by (Get key) rest is = rest
    by (Put key value) rest is =
        (rest, λ none. (let e : Some value ≡ None = sym (find_same rows key value) ∙ ap (λ (l : List StoreRow). find l key) (sym is) ∙ none in cc))
    by (Scan range) rest is = rest
    by Commit rest is = rest
    by Abort rest is = rest

-- one undoing more
pub unwound_at : (rows : List StoreRow) (us : List Undo) (i : ℕ) (u : Undo) → i < length us → u ≡ get_or us i u →
    unwound rows (drop i us) ≡ restored (unwound rows (drop (suc i) us)) u.key u.old
unwound_at rows [] i u lt is = absurd (omega arith)
unwound_at rows (v ∷ vs) zero u lt is = ap (λ (w : Undo). restored (unwound rows vs) w.key w.old) (sym is)
unwound_at rows (v ∷ vs) (suc i) u lt is = unwound_at rows vs i u (omega arith) is

pub can_at : (rows : List StoreRow) (us : List Undo) (i : ℕ) (u : Undo) → i < length us → u ≡ get_or us i u → CanUnwind rows us → find (unwound rows (drop (suc i) us)) u.key ≢ None
can_at rows [] i u lt is can = absurd (omega arith)
can_at rows (v ∷ vs) zero u lt is can = subst (λ (w : Undo). find (unwound rows vs) w.key ≢ None) (sym is) can.1
can_at rows (v ∷ vs) (suc i) u lt is can = can_at rows vs i u (omega arith) is can.0
