-- What the table and the queue tell at the end, put together: each transaction of the trace has come to its end by all of its events.
use Rattle.std.proofs.Common.{◌≡◌, ℕ, zero, suc, ◌+◌, ◌<◌, ◌≤◌, List, [], ◌∷◌, ◌++◌, map, length, get_or, IsTrue, true}
use Rattle.std.proofs.Common.{refl, sym, ap, subst, ◌∙◌, arith}
use Rattle.std.specs.List.{AllByRecursion, flat_map}
use Rattle.std.specs.List.Sorted.{IsPermutation}
use Rattle.std.proofs.lemmas.List.Elements.{All-from_recursion, recursion_from_All}
use Rattle.std.proofs.lemmas.List.Sorted.{All-permutation}
use Rattle.lt_ranges.specs.Numbers.{is_in}
use Rattle.lt_seq.specs.declared.event.Event.{Event}
use Rattle.lt_seq.specs.declared.event.Receipt.{Receipt}
use Rattle.lt_seq.specs.Table.{Setting, opening}
use Rattle.lt_seq.specs.History.{IsLegal, calls_from}
use Rattle.lt_seq.specs.Passes.{numbers_from}
use Rattle.lt_seq.specs.Questions.{receipts_of}
use Rattle.lt_seq.specs.Yard.{PassView}
use Rattle.lt_trace.specs.declared.line.Line.{Line}
use Rattle.lt_trace.specs.Grammar.{txns_of}
use Rattle.lt_runner.specs.TurnView.{Seat}
use Rattle.lt_runner.specs.Played.{Search, HasCome, Stands, IsOver}
use Rattle.lt_runner.specs.Plays.{opening_stage, lines_for}
use Rattle.lt_crew.specs.Crew.{own_in, AreApart, AreDealt}
use Rattle.lt_crew.proofs.OwnLaws.{EachByItsOwn, own_receipts, each_by_own, all_passes}
use Rattle.lt_live.specs.Deals.{times}
use Rattle.lt_live.specs.Live.{AreOwn, Block, IsBlock, number_of, AreServed, AllWorked}
use Rattle.lt_live.proofs.BlockLaws.{made_of, numbers_of, IsAmongBlocks, blocks_dealt, all_among}
use Rattle.lt_live.proofs.TimesLaws.{times_there, there_times, times_in_one, one_list, times_moved, txns_once}

-- One transaction has ended, by all of its events of the history.
pub record HasEnded (setting : Setting) (lines : List Line) (history : List Event) (seat : Seat) : Type 0 where
  pub searches : List Search
  pub own : AreOwn seat.turn.txn searches
  pub stands : Stands true setting searches lines history seat
  pub over : IsOver seat

-- All transactions of the trace have, in one legal history, and no other has an event.
pub record AllEnded (setting : Setting) (lines : List Line) (history : List Event) (seats : List Seat) : Type 0 where
  pub legal : IsLegal setting history
  pub ended : AllByRecursion (HasEnded setting lines history) seats
  pub numbers : (txn : ℕ) → times txn (map (λ s. s.turn.txn) seats) ≡ times txn (txns_of lines)
  pub own : AllByRecursion (λ e. IsTrue (is_in e.txn (txns_of lines))) history

ended_block : (setting : Setting) (lines : List Line) (history : List Event) (block : Block) → IsBlock setting lines history block →
    block.made ≡ receipts_of setting.plan.first (number_of block) history → HasEnded setting lines history block.seat
ended_block setting lines history block is all = record {
  searches = is.come.0;
  own = is.come.1;
  stands = subst (λ (rs : List Receipt). HasCome true setting is.come.0 history
      (opening_stage setting block.seat.turn.txn (lines_for block.seat.turn.txn lines)) block.seat rs) all is.come.2;
  over = is.over;
}

-- The blocks of all passes.

abbrev seats_of : List Block → List Seat
seats_of blocks = map (λ (b : Block). b.seat) blocks

record Gathered (setting : Setting) (lines : List Line) (history : List Event) (passes : List PassView) (turns : List (List Seat)) : Type 0 where
  all : List (List Block)
  mine : map made_of all ≡ map (λ (p : PassView). p.mine) passes
  seats : map seats_of all ≡ turns
  each : AllByRecursion (λ blocks. AllByRecursion (IsBlock setting lines history) blocks) all

gathered : (setting : Setting) (lines : List Line) (history : List Event) (passes : List PassView) (turns : List (List Seat)) →
    AreServed setting lines history passes turns → Gathered setting lines history passes turns
gathered setting lines history [] [] served = record { all = []; mine = refl; seats = refl; each = tt }
gathered setting lines history [] (ts ∷ tss) served = absurd served
gathered setting lines history (v ∷ vs) [] served = absurd served
gathered setting lines history (v ∷ vs) (ts ∷ tss) served =
    let rest = gathered setting lines history vs tss served.1 in
    let one = served.0 in
    record {
      all = one.blocks ∷ rest.all;
      mine = ap (λ rs. rs ∷ map made_of rest.all) (sym one.mine) ∙ ap (λ rss. v.mine ∷ rss) rest.mine;
      seats = ap (λ ss. ss ∷ map seats_of rest.all) one.turns_are ∙ ap (λ sss. ts ∷ sss) rest.seats;
      each = (one.each, rest.each);
    }

-- Lists of lists.

abbrev head_or : List Receipt → List (List Receipt) → List Receipt
head_or d [] = d
head_or d (x ∷ xs) = x

abbrev tail_of : List (List Receipt) → List (List Receipt)
tail_of [] = []
tail_of (x ∷ xs) = xs

-- what stands by number
at_number : (g : ℕ → List Receipt) (k n : ℕ) (all : List (List Block)) → map made_of all ≡ map g (numbers_from k n) → (pass : ℕ) → pass < n →
    g (k + pass) ≡ made_of (get_or all pass [])
at_number g k zero all is pass inside = absurd (omega (arith, inside))
at_number g k (suc n) [] is pass inside = absurd (let e : [] ≡ g k ∷ map g (numbers_from (k + 1) n) = is in cc)
at_number g k (suc n) (bs ∷ all) is zero inside = ap g (omega arith) ∙ sym (ap (head_or []) is)
at_number g k (suc n) (bs ∷ all) is (suc pass) inside =
    ap g (omega arith) ∙ at_number g (k + 1) n all (ap tail_of is) pass (omega (arith, inside))

count_is : (g : ℕ → List Receipt) (k n : ℕ) (all : List (List Block)) → map made_of all ≡ map g (numbers_from k n) → length all ≡ n
count_is g k zero [] is = refl
count_is g k zero (bs ∷ all) is = absurd (let e : made_of bs ∷ map made_of all ≡ [] = is in cc)
count_is g k (suc n) [] is = absurd (let e : [] ≡ g k ∷ map g (numbers_from (k + 1) n) = is in cc)
count_is g k (suc n) (bs ∷ all) is = ap suc (count_is g (k + 1) n all (ap tail_of is))

numbers_at : (all : List (List Block)) (pass : ℕ) → get_or (map numbers_of all) pass [] ≡ numbers_of (get_or all pass [])
numbers_at [] pass = refl
numbers_at (bs ∷ all) zero = refl
numbers_at (bs ∷ all) (suc pass) = numbers_at all pass

each_at : (P : List Block → Type 0) (all : List (List Block)) (pass : ℕ) → P [] → AllByRecursion P all → P (get_or all pass [])
each_at P [] pass none each = none
each_at P (bs ∷ all) zero none each = each.0
each_at P (bs ∷ all) (suc pass) none each = each_at P all pass none each.1

all_at : (P : List Block → Type 0) (all : List (List Block)) → ((pass : ℕ) → pass < length all → P (get_or all pass [])) → AllByRecursion P all
all_at P [] each = tt
all_at P (bs ∷ all) each = (each 0 (omega arith), all_at P all (λ pass inside. each (suc pass) (omega (arith, inside))))

numbers_same : (blocks : List Block) → numbers_of blocks ≡ map (λ (s : Seat). s.turn.txn) (seats_of blocks)
numbers_same [] = refl
numbers_same (b ∷ bs) = ap (λ ns. number_of b ∷ ns) (numbers_same bs)

lists_same : (all : List (List Block)) → map numbers_of all ≡ map (λ (ss : List Seat). map (λ (s : Seat). s.turn.txn) ss) (map seats_of all)
lists_same [] = refl
lists_same (bs ∷ all) = ap (λ ns. ns ∷ map numbers_of all) (numbers_same bs)
    ∙ ap (λ nss. map (λ (s : Seat). s.turn.txn) (seats_of bs) ∷ nss) (lists_same all)

flat_numbers : (turns : List (List Seat)) →
    flat_map (λ (ns : List ℕ). ns) (map (λ (ss : List Seat). map (λ (s : Seat). s.turn.txn) ss) turns)
    ≡ flat_map (λ (ss : List Seat). map (λ (s : Seat). s.turn.txn) ss) turns
flat_numbers [] = refl
flat_numbers (ts ∷ tss) = ap (λ ns. map (λ (s : Seat). s.turn.txn) ts ++ ns) (flat_numbers tss)

map_append : (xs ys : List Seat) →
    map (λ (s : Seat). s.turn.txn) (xs ++ ys) ≡ map (λ (s : Seat). s.turn.txn) xs ++ map (λ (s : Seat). s.turn.txn) ys
map_append [] ys = refl
map_append (x ∷ xs) ys = ap (λ ns. x.turn.txn ∷ ns) (map_append xs ys)

flat_seats : (turns : List (List Seat)) →
    map (λ (s : Seat). s.turn.txn) (flat_map (λ (ss : List Seat). ss) turns) ≡ flat_map (λ (ss : List Seat). map (λ (s : Seat). s.turn.txn) ss) turns
flat_seats [] = refl
flat_seats (ts ∷ tss) = map_append ts (flat_map (λ (ss : List Seat). ss) tss) ∙ ap (λ ns. map (λ (s : Seat). s.turn.txn) ts ++ ns) (flat_seats tss)

all_append : (P : Seat → Type 0) (xs ys : List Seat) → AllByRecursion P xs → AllByRecursion P ys → AllByRecursion P (xs ++ ys)
all_append P [] ys all more = more
all_append P (x ∷ xs) ys all more = (all.0, all_append P xs ys all.1 more)

all_flat : (P : Seat → Type 0) (lists : List (List Seat)) → AllByRecursion (λ ss. AllByRecursion P ss) lists →
    AllByRecursion P (flat_map (λ (ss : List Seat). ss) lists)
all_flat P [] all = tt
all_flat P (ss ∷ lists) all = all_append P ss (flat_map (λ (xs : List Seat). xs) lists) all.0 (all_flat P lists all.1)

all_seats : (P : Seat → Type 0) (all : List (List Block)) → AllByRecursion (λ blocks. AllByRecursion P (seats_of blocks)) all →
    AllByRecursion (λ ss. AllByRecursion P ss) (map seats_of all)
all_seats P [] each = tt
all_seats P (bs ∷ all) each = (each.0, all_seats P all each.1)

-- What all workers did.

module _ (setting : Setting) (lines : List Line) (history : List Event) (passes : List PassView) (turns : List (List Seat))
    (worked : AllWorked setting lines history passes turns) where
  made : Gathered setting lines history passes turns
  made = gathered setting lines history passes turns worked.served

  lists : map made_of made.all ≡ map (λ (pass : ℕ). calls_from setting.plan.first pass history) (numbers_from 0 setting.plan.passes)
  lists = made.mine ∙ worked.lists

  abbrev dealt : ℕ → List ℕ
  dealt pass = get_or (map numbers_of made.all) pass []

  -- the numbers of all blocks are those of the trace
  dealt_are : (txn : ℕ) → times txn (flat_map (λ (ns : List ℕ). ns) (map numbers_of made.all)) ≡ times txn (txns_of lines)
  dealt_are txn = ap (λ (nss : List (List ℕ)). times txn (flat_map (λ (ns : List ℕ). ns) nss))
      (lists_same made.all ∙ ap (map (λ (ss : List Seat). map (λ (s : Seat). s.turn.txn) ss)) made.seats)
      ∙ ap (times txn) (flat_numbers turns) ∙ worked.taken txn

  few : (txn : ℕ) → times txn (flat_map (λ (ns : List ℕ). ns) (map numbers_of made.all)) ≤ 1
  few txn = subst (λ (n : ℕ). n ≤ 1) (sym (dealt_are txn)) (txns_once txn lines)

  apart : AreApart dealt
  apart txn p q here there =
      one_list txn (map numbers_of made.all) p q (few txn) (times_there txn (dealt p) here) (times_there txn (dealt q) there)

  calls_are : (pass : ℕ) → pass < setting.plan.passes → calls_from setting.plan.first pass history ≡ made_of (get_or made.all pass [])
  calls_are pass inside =
      ap (λ (p : ℕ). calls_from setting.plan.first p history) (zero_on pass)
      ∙ at_number (λ (p : ℕ). calls_from setting.plan.first p history) 0 setting.plan.passes made.all lists pass inside
    where
      zero_on : (n : ℕ) → n ≡ 0 + n
      zero_on n = omega arith

  blocks_at : (pass : ℕ) → AllByRecursion (IsBlock setting lines history) (get_or made.all pass [])
  blocks_at pass = each_at (λ bs. AllByRecursion (IsBlock setting lines history) bs) made.all pass tt made.each

  each_event : EachByItsOwn dealt history
  each_event = each_by_own setting.plan.passes dealt setting.plan.first history (all_passes setting history (opening setting) worked.legal)
      (λ pass inside. subst (λ (ns : List ℕ). AreDealt ns (calls_from setting.plan.first pass history)) (sym (numbers_at made.all pass))
      (subst (λ (rs : List Receipt). AreDealt (numbers_of (get_or made.all pass [])) rs) (sym (calls_are pass inside))
      (blocks_dealt setting lines history (get_or made.all pass []) (blocks_at pass))))

  -- a block has all of its transaction's receipts
  block_ended : (pass : ℕ) (block : Block) → pass < setting.plan.passes → IsBlock setting lines history block →
      IsAmongBlocks (get_or made.all pass []) block → HasEnded setting lines history block.seat
  block_ended pass block inside is among =
      let there : IsTrue (is_in (number_of block) (dealt pass)) =
      subst (λ (ns : List ℕ). IsTrue (is_in (number_of block) ns)) (sym (numbers_at made.all pass))
      (there_times (number_of block) (numbers_of (get_or made.all pass [])) among.there) in
      ended_block setting lines history block is
      (sym among.made ∙ ap (own_in (number_of block)) (sym (calls_are pass inside))
      ∙ sym (own_receipts dealt setting.plan.first (number_of block) pass history apart each_event there))

  pass_ended : (pass : ℕ) → pass < setting.plan.passes → AllByRecursion (HasEnded setting lines history) (seats_of (get_or made.all pass []))
  pass_ended pass inside =
      each_ended (get_or made.all pass []) (blocks_at pass)
      (all_among setting lines history (get_or made.all pass [])
      (λ txn. (let all = few txn in let one = times_in_one txn (map numbers_of made.all) pass in
      let same = ap (times txn) (numbers_at made.all pass) in omega (arith, all, one, same))) (blocks_at pass))
    where
      each_ended : (bs : List Block) → AllByRecursion (IsBlock setting lines history) bs →
          AllByRecursion (IsAmongBlocks (get_or made.all pass [])) bs → AllByRecursion (HasEnded setting lines history) (seats_of bs)
      each_ended [] is among = tt
      each_ended (b ∷ bs) is among = (block_ended pass b inside is.0 among.0, each_ended bs is.1 among.1)

  seats_ended : AllByRecursion (HasEnded setting lines history) (flat_map (λ (ss : List Seat). ss) turns)
  seats_ended =
      let count = count_is (λ (p : ℕ). calls_from setting.plan.first p history) 0 setting.plan.passes made.all lists in
      subst (λ (sss : List (List Seat)). AllByRecursion (HasEnded setting lines history) (flat_map (λ (ss : List Seat). ss) sss)) made.seats
      (all_flat (HasEnded setting lines history) (map seats_of made.all)
      (all_seats (HasEnded setting lines history) made.all
      (all_at (λ bs. AllByRecursion (HasEnded setting lines history) (seats_of bs)) made.all
      (λ pass inside. pass_ended pass (omega (arith, count, inside))))))

  events_own : (es : List Event) → EachByItsOwn dealt es → AllByRecursion (λ e. IsTrue (is_in e.txn (txns_of lines))) es
  events_own [] each = tt
  events_own (e ∷ es) each =
      let one = times_there e.txn (dealt e.pass) each.0 in
      let most = times_in_one e.txn (map numbers_of made.all) e.pass in
      let all = dealt_are e.txn in
      (there_times e.txn (txns_of lines) (omega (arith, one, most, all)), events_own es each.1)

  -- so all have ended
  pub all_ended : AllEnded setting lines history (flat_map (λ ss. ss) turns)
  all_ended = record {
    legal = worked.legal;
    ended = seats_ended;
    numbers = λ txn. ap (times txn) (flat_seats turns) ∙ worked.taken txn;
    own = events_own history each_event;
  }

-- in whatever order they are told
pub ended_moved : (setting : Setting) (lines : List Line) (history : List Event) (xs ys : List Seat) → IsPermutation xs ys →
    AllEnded setting lines history xs → AllEnded setting lines history ys
ended_moved setting lines history xs ys moved all = record {
  legal = all.legal;
  ended = recursion_from_All (HasEnded setting lines history) ys
      (All-permutation (HasEnded setting lines history) xs ys moved (All-from_recursion (HasEnded setting lines history) xs all.ended));
  numbers = λ txn. times_moved (λ (s : Seat). s.turn.txn) txn xs ys moved ∙ all.numbers txn;
  own = all.own;
}
