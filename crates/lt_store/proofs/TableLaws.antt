-- The one tree of the map's table behind each event.
use Rattle.std.proofs.Common.{◌≡◌, ◌≢◌, ℕ, ◌+◌, ◌<◌, ◌≤◌, List, [], ◌∷◌, ◌++◌, length, Bool, true, false, ◌&&◌, nat_lt, ◌==◌, slice_set, not, if◌then◌else◌, refl, sym, ap, subst, ◌∙◌, arith, length-append, get_or-set_same}
use Rattle.lt_ranges.specs.declared.key.Key.{Key}
use Rattle.lt_ranges.specs.Interval.{Interval, has}
use Rattle.lt_seq.specs.declared.event.Mode.{Mode}
use Rattle.lt_seq.specs.declared.event.Mode.TheVariants.{Tree, Buffer}
use Rattle.lt_seq.specs.declared.event.Deed.{Deed}
use Rattle.lt_seq.specs.declared.event.Deed.TheVariants.{Ask, Free, Who, Join}
use Rattle.lt_seq.specs.declared.event.Reply.{Reply}
use Rattle.lt_seq.specs.declared.event.Reply.TheVariants.{Granted, Buffered}
use Rattle.lt_seq.specs.declared.event.Event.{Event}
use Rattle.lt_seq.specs.declared.event.Pair.{Pair}
use Rattle.lt_seq.specs.Pairs.{others, freed, granted, joined, IsLawful}
use Rattle.lt_seq.specs.Joins.{holds}
use Rattle.lt_seq.specs.Table.{Setting, TreeState, fresh, step, tree_at, tree_of, tree_after, replied, is_buffered, ask_reply, after_ask, after_free, reply_by, pairs_by, ended, raised, buffered_mode, drops_all}
use Rattle.lt_seq.specs.History.{after, IsLegal}
use Rattle.lt_seq.specs.Yard.{event_after}
use Rattle.lt_seq.proofs.HistoryLaws.{after_more}
use Rattle.lt_seq.proofs.TableLaws.{length-after}
use Rattle.lt_seq.proofs.LawfulLaws.{lawful_history}
use Rattle.lt_seq.proofs.JoinLaws.{joins}
use Rattle.lt_store.specs.Attempts.{setting_of, tree_after_all, with_deed, joined_first, used_after, all_freed}
use Rattle.lt_store.specs.declared.done.Done.{Done}
use Rattle.lt_store.specs.Ranges.{range_of}
use Rattle.std.proofs.lemmas.Bool.Decides.{nat_tests}
use Rattle.lt_store.specs.Locks.{IsPlain}
use Rattle.lt_store.proofs.PairLaws.{grant_gives, grant_keeps, free_keeps, nobody_has}

ended_plain : (mode : Mode) → IsPlain (ended mode)
ended_plain (Tree score) = tt
ended_plain (Buffer txn count) = tt

raised_plain : (first : Bool) (mode : Mode) → IsPlain mode → IsPlain (raised first mode)
raised_plain first (Tree score) h = tt
raised_plain first (Buffer txn count) h = h

tree_next : (limit : ℕ) (events : List Event) (e : Event) → tree_of e.deed ≡ 0 →
    tree_after_all limit (events ++ e ∷ []) ≡ tree_after (setting_of limit) e.txn e.deed (tree_after_all limit events)
tree_next limit events e first =
    let setting = setting_of limit in
    let trees = after setting events in
    let there : 0 < length trees = omega (arith, length-after setting events) in
    ap (λ ts. tree_at ts 0) (after_more setting events e)
    ∙ ap (λ (n : ℕ). tree_at (step_at setting trees e n) 0) first
    ∙ get_or-set_same trees 0 (tree_after setting e.txn e.deed (tree_at trees 0)) fresh there
  where
    step_at : Setting → List TreeState → Event → ℕ → List TreeState
    step_at setting trees e n = slice_set trees n (tree_after setting e.txn e.deed (tree_at trees n))

no_and : (b c : Bool) → c ≡ false → (b && c) ≡ false
no_and true c e = e
no_and false c e = refl

none_below : (n : ℕ) → nat_lt n 0 ≡ false
none_below n = grind (arith, nat_tests)

drops_none : (txn : ℕ) (range : Interval) (mode : Mode) → IsPlain mode → drops_all txn range mode ≡ false
drops_none txn range (Tree score) plain = refl
drops_none txn range (Buffer owner count) plain = absurd plain

-- without a buffer an ask is buffered never
unbuffered : (txn : ℕ) (pairs : List Pair) (mode : Mode) → is_buffered 0 txn pairs mode ≡ false
unbuffered txn pairs (Tree score) = no_and (score == 100 && length pairs == 0) (nat_lt 0 0) refl
unbuffered txn pairs (Buffer owner count) = no_and (owner == txn) (nat_lt count 0) (none_below count)

no_room : (txn : ℕ) (range : Interval) (t : TreeState) → after_ask 0 txn range t ≡ record { pairs = pairs_by (others txn range t.pairs) txn range t.pairs; mode = ended t.mode }
no_room txn range t = by (is_buffered 0 txn t.pairs t.mode) (unbuffered txn t.pairs t.mode)
  where
    by : (b : Bool) → b ≡ false →
        (let s : TreeState = (if b then record { pairs = granted txn range t.pairs; mode = buffered_mode txn t.mode } else record { pairs = pairs_by (others txn range t.pairs) txn range t.pairs; mode = ended t.mode }) in s)
        ≡ record { pairs = pairs_by (others txn range t.pairs) txn range t.pairs; mode = ended t.mode }
    by true e = cc
    by false e = refl

pub reply_is : (txn : ℕ) (range : Interval) (t : TreeState) → ask_reply 0 txn range t ≡ reply_by (others txn range t.pairs)
reply_is txn range t = ap (λ (b : Bool). if b then Buffered else reply_by (others txn range t.pairs)) (unbuffered txn t.pairs t.mode)

-- The tree behind each kind of event.
module _ (limit txn : ℕ) (events : List Event) where
  was : TreeState
  was = tree_after_all limit events

  join_tree : tree_after_all limit (with_deed limit txn (Join 0 0 0) events) ≡ record { pairs = joined [] (tree_after_all limit events).pairs; mode = ended (tree_after_all limit events).mode }
  join_tree = tree_next limit events (event_after (setting_of limit) events 0 txn (Join 0 0 0)) refl

  ask_tree : (range : Interval) → tree_after_all limit (with_deed limit txn (Ask 0 range Granted) events)
      ≡ record { pairs = pairs_by (others txn range (tree_after_all limit events).pairs) txn range (tree_after_all limit events).pairs; mode = ended (tree_after_all limit events).mode }
  ask_tree range = tree_next limit events (event_after (setting_of limit) events 0 txn (Ask 0 range Granted)) refl ∙ no_room txn range (tree_after_all limit events)

  free_tree : (range : Interval) (first : Bool) → IsPlain (tree_after_all limit events).mode → tree_after_all limit (with_deed limit txn (Free 0 range first 0) events)
      ≡ record { pairs = freed txn range (tree_after_all limit events).pairs; mode = raised first (ended (tree_after_all limit events).mode) }
  free_tree range first plain =
      tree_next limit events (event_after (setting_of limit) events 0 txn (Free 0 range first 0)) refl
      ∙ by (drops_all txn range (tree_after_all limit events).mode) (drops_none txn range (tree_after_all limit events).mode plain)
    where
      by : (b : Bool) → b ≡ false →
          (let s : TreeState = (if b then fresh else record { pairs = freed txn range (tree_after_all limit events).pairs; mode = raised first (ended (tree_after_all limit events).mode) }) in s)
          ≡ record { pairs = freed txn range (tree_after_all limit events).pairs; mode = raised first (ended (tree_after_all limit events).mode) }
      by true e = cc
      by false e = refl

  pub join_plain : IsPlain (tree_after_all limit (with_deed limit txn (Join 0 0 0) events)).mode
  join_plain = subst (λ (t : TreeState). IsPlain t.mode) (sym join_tree) (ended_plain (tree_after_all limit events).mode)

  pub ask_plain : (range : Interval) → IsPlain (tree_after_all limit (with_deed limit txn (Ask 0 range Granted) events)).mode
  ask_plain range = subst (λ (t : TreeState). IsPlain t.mode) (sym (ask_tree range)) (ended_plain (tree_after_all limit events).mode)

  pub free_plain : (range : Interval) (first : Bool) → IsPlain (tree_after_all limit events).mode → IsPlain (tree_after_all limit (with_deed limit txn (Free 0 range first 0) events)).mode
  free_plain range first plain = subst (λ (t : TreeState). IsPlain t.mode) (sym (free_tree range first plain)) (raised_plain first (ended (tree_after_all limit events).mode) (ended_plain (tree_after_all limit events).mode))

  -- who holds a key holds it still
  pub join_holds : (owner : ℕ) (key : Key) → IsLegal (setting_of limit) events → holds owner key (tree_after_all limit events).pairs ≡ true →
      holds owner key (tree_after_all limit (with_deed limit txn (Join 0 0 0) events)).pairs ≡ true
  join_holds owner key legal held =
      subst (λ (t : TreeState). holds owner key t.pairs ≡ true) (sym join_tree)
      ((joins [] (tree_after_all limit events).pairs ((lawful_history (setting_of limit) events legal).sound 0).lawful).keeps owner key held)

  pub ask_holds : (range : Interval) (owner : ℕ) (key : Key) → holds owner key (tree_after_all limit events).pairs ≡ true →
      holds owner key (tree_after_all limit (with_deed limit txn (Ask 0 range Granted) events)).pairs ≡ true
  ask_holds range owner key held =
      subst (λ (t : TreeState). holds owner key t.pairs ≡ true) (sym (ask_tree range)) (by (others txn range (tree_after_all limit events).pairs))
    where
      by : (os : List ℕ) → holds owner key (pairs_by os txn range (tree_after_all limit events).pairs) ≡ true
      by [] = grant_keeps txn range (tree_after_all limit events).pairs owner key held
      by (o ∷ os) = held

  -- but for the one that frees
  pub free_holds : (range : Interval) (first : Bool) (owner : ℕ) (key : Key) → IsPlain (tree_after_all limit events).mode → owner ≢ txn →
      holds owner key (tree_after_all limit events).pairs ≡ true → holds owner key (tree_after_all limit (with_deed limit txn (Free 0 range first 0) events)).pairs ≡ true
  free_holds range first owner key plain differ held =
      subst (λ (t : TreeState). holds owner key t.pairs ≡ true) (sym (free_tree range first plain)) (free_keeps txn range (tree_after_all limit events).pairs owner key differ held)

  -- the transaction holds what it was granted
  pub ask_gives : (range : Interval) (key : Key) → others txn range (tree_after_all limit events).pairs ≡ [] → has range key ≡ true →
      holds txn key (tree_after_all limit (with_deed limit txn (Ask 0 range Granted) events)).pairs ≡ true
  ask_gives range key none e =
      subst (λ (t : TreeState). holds txn key t.pairs ≡ true) (sym (ask_tree range))
      (subst (λ (os : List ℕ). holds txn key (pairs_by os txn range (tree_after_all limit events).pairs) ≡ true) (sym none) (grant_gives txn range (tree_after_all limit events).pairs key e))

-- the joins before an ask
pub first_holds : (limit txn : ℕ) (events : List Event) (owner : ℕ) (key : Key) → IsLegal (setting_of limit) events → holds owner key (tree_after_all limit events).pairs ≡ true →
    holds owner key (tree_after_all limit (joined_first limit txn events)).pairs ≡ true
first_holds limit txn events owner key legal held = by (nat_lt (used_after limit events) limit)
  where
    by : (b : Bool) → holds owner key (tree_after_all limit (if b then events else with_deed limit txn (Join 0 0 0) events)).pairs ≡ true
    by true = held
    by false = join_holds limit txn events owner key legal held

pub first_plain : (limit txn : ℕ) (events : List Event) → IsPlain (tree_after_all limit events).mode → IsPlain (tree_after_all limit (joined_first limit txn events)).mode
first_plain limit txn events plain = by (nat_lt (used_after limit events) limit)
  where
    by : (b : Bool) → IsPlain (tree_after_all limit (if b then events else with_deed limit txn (Join 0 0 0) events)).mode
    by true = plain
    by false = join_plain limit txn events

-- a release
pub frees_plain : (limit txn : ℕ) (first : Bool) (ops : List Done) (events : List Event) → IsPlain (tree_after_all limit events).mode → IsPlain (tree_after_all limit (all_freed limit txn first ops events)).mode
frees_plain limit txn first [] events plain = plain
frees_plain limit txn first (d ∷ ds) events plain = frees_plain limit txn false ds (with_deed limit txn (Free 0 (range_of d.op) first 0) events) (free_plain limit txn events (range_of d.op) first plain)

pub frees_hold : (limit txn : ℕ) (first : Bool) (ops : List Done) (events : List Event) (owner : ℕ) (key : Key) → IsPlain (tree_after_all limit events).mode → owner ≢ txn →
    holds owner key (tree_after_all limit events).pairs ≡ true → holds owner key (tree_after_all limit (all_freed limit txn first ops events)).pairs ≡ true
frees_hold limit txn first [] events owner key plain differ held = held
frees_hold limit txn first (d ∷ ds) events owner key plain differ held =
    frees_hold limit txn false ds (with_deed limit txn (Free 0 (range_of d.op) first 0) events) owner key (free_plain limit txn events (range_of d.op) first plain) differ
    (free_holds limit txn events (range_of d.op) first owner key plain differ held)

pub length-frees : (limit txn : ℕ) (first : Bool) (ops : List Done) (events : List Event) → length (all_freed limit txn first ops events) ≡ length events + length ops
length-frees limit txn first [] events = omega arith
length-frees limit txn first (d ∷ ds) events =
    let rest = length-frees limit txn false ds (with_deed limit txn (Free 0 (range_of d.op) first 0) events) in
    omega (arith, rest, length-append events (event_after (setting_of limit) events 0 txn (Free 0 (range_of d.op) first 0) ∷ []))

pub length-first : (limit txn : ℕ) (events : List Event) → length (joined_first limit txn events) ≤ length events + 1
length-first limit txn events = by (nat_lt (used_after limit events) limit)
  where
    by : (b : Bool) → length (if b then events else with_deed limit txn (Join 0 0 0) events) ≤ length events + 1
    by true = omega arith
    by false = omega (arith, length-append events (event_after (setting_of limit) events 0 txn (Join 0 0 0) ∷ []))
