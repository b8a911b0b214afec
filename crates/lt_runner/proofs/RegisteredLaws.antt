-- Who is registered where a transaction asks, and behind its answer.
use Rattle.std.proofs.Common.{◌≡◌, ◌≢◌, ℕ, zero, suc, ◌<◌, List, [], ◌∷◌, map, Bool, true, false}
use Rattle.std.proofs.Common.{◌==◌, ◌&&◌, ◌||◌, nat_lt, if◌then◌else◌, Option, Some, None, IfSome, IsTrue, is_some, Result, Ok, Err}
use Rattle.std.proofs.Common.{length, get_or, slice_set, nat_cmp, refl, sym, ap, subst, ◌∙◌, arith}
use Rattle.std.specs.List.{AllByRecursion, cons_option, list_all}
use Rattle.std.specs.List.Sorted.{IsStrictlySortedBy}
use Rattle.std.proofs.lemmas.Bool.Decides.{nat_tests}
use Rattle.std.proofs.lemmas.List.{get_or-map, length-map, length-set}
use Rattle.lt_ranges.specs.Numbers.{is_in}
use Rattle.lt_seq.proofs.NumbersLaws.{increasing_from}
use Rattle.lt_seq.specs.declared.fault.Fault.{Fault}
use Rattle.lt_seq.specs.declared.fault.Fault.TheVariants.{OutOfMemory, Busy, HistoryFull, OutOfLocks}
use Rattle.lt_seq.specs.Table.{Setting}
use Rattle.lt_seq.specs.Yard.{PassView}
use Rattle.lt_trace.specs.declared.line.Line.{Line}
use Rattle.lt_trace.specs.declared.line.LineDeed.{LineDeed}
use Rattle.lt_requests.specs.declared.wish.Wish.{Wish}
use Rattle.lt_requests.specs.declared.started.Started.{Started}
use Rattle.lt_requests.specs.declared.started.Started.TheVariants.{Granted as StartedGranted, Waits, Deadlock}
use Rattle.lt_requests.specs.Registered.{Ascend, may_ask, is_registered, without, with_wish, txns_of}
use Rattle.lt_requests.specs.Started.{IsStarted}
use Rattle.lt_history.specs.declared.outcome.Outcome.TheVariants.{Deadlock as EndedByDeadlock, OutOfLocks as StoppedAt}
use Rattle.lt_runner.specs.TurnView.{Turn, Seat}
use Rattle.lt_runner.specs.Turn.{ending, rest_of}
use Rattle.lt_runner.specs.Plays.{next_wish, wish_in, is_lock}
use Rattle.lt_runner.specs.Played.{IsAtLock}
use Rattle.lt_runner.specs.PlaysOn.{IsFit, IsFitLine}
use Rattle.lt_runner.specs.Seats.{idle, granted_at}
use Rattle.lt_runner.specs.Serial.{turn_of, with_turn, wishes_in}
use Rattle.lt_runner.specs.Board.{IsAnswered, seat_so, registry_so}
use Rattle.lt_runner.specs.Listed.{listed_in, IsSeated, IsRegistryOf, IsListedNow, wishes_for, others_for, IsAskingAt}
use Rattle.lt_runner.proofs.ChoiceLaws.{on_true, on_false}
use Rattle.lt_runner.proofs.TurnsLaws.{with_turn_at}
use Rattle.lt_runner.proofs.SteadyLaws.{numbers_with, turn_of_with}
use Rattle.lt_runner.proofs.WishLaws.{wish_of, IsPlaced, all_placed, wish_there, wish_other}
use Rattle.lt_runner.proofs.WaitLaws.{wishes_stay, wishes_leave, wishes_come}
use Rattle.lt_runner.proofs.AskLaws.{wishes_rise, few_wishes}
use Rattle.lt_runner.proofs.LockMoveLaws.{HasLock, has_lock}
use Rattle.lt_runner.proofs.PlaysOnLaws.{fit_ended}
use Rattle.lt_runner.proofs.StartsOnLaws.{granted_is}

-- A turn that waits where its seat is registered: its wish is the seat's in the registry.
abbrev shown : Seat → Turn
shown seat = record seat.turn { waits = seat.listed }

abbrev all_shown : List Seat → List Turn
all_shown seats = map shown seats

abbrev numbers : List Seat → List ℕ
numbers seats = map (λ seat. seat.turn.txn) seats

listed_is : (seats : List Seat) → listed_in seats ≡ wishes_in (all_shown seats)
listed_is [] = refl
listed_is (s ∷ ss) = ap (cons_option (if s.listed then next_wish s.turn.txn s.turn.lines else None)) (listed_is ss)

numbers_shown : (seats : List Seat) → map (λ (t : Turn). t.txn) (all_shown seats) ≡ numbers seats
numbers_shown [] = refl
numbers_shown (s ∷ ss) = ap (λ (ns : List ℕ). s.turn.txn ∷ ns) (numbers_shown ss)

sorted_shown : (seats : List Seat) → IsStrictlySortedBy nat_cmp (numbers seats) →
    IsStrictlySortedBy nat_cmp (map (λ (t : Turn). t.txn) (all_shown seats))
sorted_shown seats sorted = subst (IsStrictlySortedBy nat_cmp) (sym (numbers_shown seats)) sorted

map_set : (seats : List Seat) (place : ℕ) (seat : Seat) → all_shown (slice_set seats place seat) ≡ slice_set (all_shown seats) place (shown seat)
map_set [] place seat = refl
map_set (s ∷ ss) zero seat = refl
map_set (s ∷ ss) (suc place) seat = ap (λ (ts : List Turn). shown s ∷ ts) (map_set ss place seat)

-- a seat that is put in its place is a turn put in its place
shown_put : (seats : List Seat) (place : ℕ) (d seat : Seat) → IsStrictlySortedBy nat_cmp (numbers seats) → place < length seats →
    (get_or seats place d).turn.txn ≡ seat.turn.txn → all_shown (slice_set seats place seat) ≡ with_turn (shown seat) (all_shown seats)
shown_put seats place d seat sorted inside same =
    let wide = length-map seats shown in
    let here = get_or-map shown seats place d (shown d) inside in
    map_set seats place seat ∙ sym (with_turn_at (shown seat) (all_shown seats) place (shown d) (sorted_shown seats sorted) (omega (arith, wide))
    (ap (λ (t : Turn). t.txn) here ∙ same))

numbers_put : (seats : List Seat) (place : ℕ) (d seat : Seat) → IsStrictlySortedBy nat_cmp (numbers seats) → place < length seats →
    (get_or seats place d).turn.txn ≡ seat.turn.txn → numbers (slice_set seats place seat) ≡ numbers seats
numbers_put seats place d seat sorted inside same =
    sym (numbers_shown (slice_set seats place seat)) ∙ ap (map (λ (t : Turn). t.txn)) (shown_put seats place d seat sorted inside same)
    ∙ numbers_with (shown seat) (all_shown seats) ∙ numbers_shown seats

-- the seat at a place
all_at : (P : Seat → Type 0) (seats : List Seat) (place : ℕ) (d : Seat) → place < length seats → AllByRecursion P seats → P (get_or seats place d)
all_at P [] place d inside all = absurd (omega arith)
all_at P (s ∷ ss) zero d inside all = all.0
all_at P (s ∷ ss) (suc place) d inside all = all_at P ss place d (omega arith) all.1

all_put : (P : Seat → Type 0) (seats : List Seat) (place : ℕ) (seat : Seat) → AllByRecursion P seats → P seat →
    AllByRecursion P (slice_set seats place seat)
all_put P [] place seat all one = tt
all_put P (s ∷ ss) zero seat all one = (one, all.1)
all_put P (s ∷ ss) (suc place) seat all one = (all.0, all_put P ss place seat all.1 one)

-- each is shown at its number
placed_in : (setting : Setting) (seats turns : List Seat) → AllByRecursion (IsPlaced setting (all_shown turns)) (all_shown seats) →
    AllByRecursion (λ seat. IsPlaced setting (all_shown turns) (shown seat)) seats
placed_in setting [] turns all = tt
placed_in setting (s ∷ ss) turns all = (all.0, placed_in setting ss turns all.1)

placed_seats : (setting : Setting) (seats : List Seat) → IsStrictlySortedBy nat_cmp (numbers seats) →
    AllByRecursion (λ seat. IsPlaced setting (all_shown seats) (shown seat)) seats
placed_seats setting seats sorted = placed_in setting seats seats (all_placed setting (all_shown seats) (sorted_shown seats sorted))

-- One that asks.

-- all wishes with its own are those of all that wait with it among them
pub wishes_are : (setting : Setting) (registry : List Wish) (seats : List Seat) (place : ℕ) (seat d : Seat) (wish : Wish) (listed : Bool) →
    IsRegistryOf registry seats → place < length seats →
    get_or seats place d ≡ seat → seat.listed ≡ listed → next_wish seat.turn.txn seat.turn.lines ≡ Some wish →
    wishes_for listed wish registry ≡ wishes_in (with_turn (record (shown seat) { waits = true }) (all_shown seats))
wishes_are setting registry seats place seat d wish true is inside here listed next =
    let placed = subst (λ (s : Seat). IsPlaced setting (all_shown seats) (shown s)) here
    (all_at (λ s. IsPlaced setting (all_shown seats) (shown s)) seats place d inside (placed_seats setting seats is.sorted)) in
    is.all ∙ listed_is seats ∙ sym (wishes_stay setting (record (shown seat) { waits = true }) (all_shown seats) (sorted_shown seats is.sorted)
    (ap wish_of placed.there ∙ on_true seat.listed (next_wish seat.turn.txn seat.turn.lines) None listed))
wishes_are setting registry seats place seat d wish false is inside here listed next =
    let placed = subst (λ (s : Seat). IsPlaced setting (all_shown seats) (shown s)) here
    (all_at (λ s. IsPlaced setting (all_shown seats) (shown s)) seats place d inside (placed_seats setting seats is.sorted)) in
    ap (with_wish wish) (is.all ∙ listed_is seats) ∙ sym (wishes_come setting (record (shown seat) { waits = true }) wish (all_shown seats)
    (sorted_shown seats is.sorted)
    placed.number next (ap (λ (t : Turn). t.waits) placed.there ∙ listed))

some_is : (o p : Option Wish) (A : Wish → Type 0) → o ≡ p → ((w : Wish) → p ≡ Some w → A w) → IfSome o A
some_is o p A same each = subst (λ (x : Option Wish). IfSome x A) (sym same) (by_wish p each)
  where
    by_wish : (x : Option Wish) → ((w : Wish) → x ≡ Some w → A w) → IfSome x A
    by_wish None f = tt
    by_wish (Some w) f = f w refl

listed_wish : (seat : Seat) (b : Bool) (w : Wish) → seat.listed ≡ b → (if b then next_wish seat.turn.txn seat.turn.lines else None) ≡ Some w →
    IsSeated seat →
    IsTrue seat.turn.waits × (next_wish seat.turn.txn seat.turn.lines ≡ Some w)
listed_wish seat true w e is seated = (seated.waits e, is)
listed_wish seat false w e is seated = absurd cc

listed_now : (wishes : List Wish) (seat : Seat) → IsSeated seat → wish_in seat.turn.txn wishes ≡
    (if seat.listed then next_wish seat.turn.txn seat.turn.lines else None) → IsListedNow wishes seat
listed_now wishes seat seated is = record {
  waits = some_is (wish_in seat.turn.txn wishes) (if seat.listed then next_wish seat.turn.txn seat.turn.lines else None) _ is
      (λ w some. listed_wish seat seat.listed w refl some seated);
  listed = λ e. is ∙ on_true seat.listed (next_wish seat.turn.txn seat.turn.lines) None e;
}

all_listed : (setting : Setting) (wishes : List Wish) (seat : Seat) (all seats : List Seat) → IsStrictlySortedBy nat_cmp (numbers all) →
    wishes ≡ wishes_in (with_turn (record (shown seat) { waits = true }) (all_shown all)) →
    AllByRecursion (λ s. IsPlaced setting (all_shown all) (shown s)) seats → AllByRecursion IsSeated seats →
    AllByRecursion (λ other. other.turn.txn ≢ seat.turn.txn → IsListedNow wishes other) seats
all_listed setting wishes seat all [] sorted are placed seated = tt
all_listed setting wishes seat all (s ∷ ss) sorted are placed seated = (
  λ other. listed_now wishes s seated.0
      (ap (wish_in s.turn.txn) are ∙ wish_other setting (shown seat) (shown s) (all_shown all) (sorted_shown all sorted) placed.0 other),
  all_listed setting wishes seat all ss sorted are placed.1 seated.1,
)

both : (a b : Bool) → a ≡ true → b ≡ true → (a && b) ≡ true
both true b e f = f
both false b e f = absurd (let k : false ≡ true = e in cc)

may_be_asked : (setting : Setting) (seat : Seat) (wish : Wish) → IsFit setting seat → next_wish seat.turn.txn seat.turn.lines ≡ Some wish →
    may_ask setting.plan.trees wish ≡ true
may_be_asked setting seat wish fit is =
    let at = has_lock seat.turn.txn wish seat.turn.lines is in
    let fits : AllByRecursion (λ line. IsFitLine setting line.deed) (at.line ∷ at.rest) =
    subst (AllByRecursion (λ line. IsFitLine setting line.deed)) at.next fit.lines in
    let tree : wish.tree < setting.plan.trees = subst (IsFitLine setting) at.lock fits.0 in
    let own = at.own in
    let one : 0 < wish.txn = omega (arith, fit.txn, own) in
    both (nat_lt 0 wish.txn) (nat_lt wish.tree setting.plan.trees) (grind (arith, nat_tests)) (grind (arith, nat_tests))

may_listed : (setting : Setting) (seats : List Seat) → AllByRecursion (IsFit setting) seats →
    list_all (may_ask setting.plan.trees) (listed_in seats) ≡ true
may_listed setting [] fit = refl
may_listed setting (s ∷ ss) fit = by_wish (if s.listed then next_wish s.turn.txn s.turn.lines else None) refl (may_listed setting ss fit.1)
  where
    of_seat : (w : Wish) (b : Bool) → (if b then next_wish s.turn.txn s.turn.lines else None) ≡ Some w → next_wish s.turn.txn s.turn.lines ≡ Some w
    of_seat w true h = h
    of_seat w false h = absurd cc

    by_wish : (o : Option Wish) → (if s.listed then next_wish s.turn.txn s.turn.lines else None) ≡ o →
        list_all (may_ask setting.plan.trees) (listed_in ss) ≡ true →
        list_all (may_ask setting.plan.trees) (cons_option o (listed_in ss)) ≡ true
    by_wish None is rest = rest
    by_wish (Some w) is rest = both (may_ask setting.plan.trees w) _ (may_be_asked setting s w fit.0 (of_seat w s.listed is)) rest

-- whether a number is among wishes, by its wish
registered_by : (txn : ℕ) (wishes : List Wish) → is_registered txn wishes ≡ is_some (wish_in txn wishes)
registered_by txn [] = refl
registered_by txn (w ∷ ws) = by_test (w.txn == txn) (registered_by txn ws)
  where
    by_test : (b : Bool) → is_registered txn ws ≡ is_some (wish_in txn ws) →
        (b || is_in txn (txns_of ws)) ≡ is_some (if b then Some w else wish_in txn ws)
    by_test true rest = refl
    by_test false rest = rest

some_listed : (seat : Seat) (wish : Wish) → next_wish seat.turn.txn seat.turn.lines ≡ Some wish → (b : Bool) →
    is_some (if b then next_wish seat.turn.txn seat.turn.lines else None) ≡ b
some_listed seat wish is true = ap is_some is
some_listed seat wish is false = refl

pub seats_ask : (setting : Setting) (registry : List Wish) (seats : List Seat) (place : ℕ) (seat d : Seat) (wish : Wish) (listed : Bool) →
    IsRegistryOf registry seats → AllByRecursion (IsFit setting) seats →
    place < length seats → get_or seats place d ≡ seat → seat.listed ≡ listed → next_wish seat.turn.txn seat.turn.lines ≡ Some wish →
    IsAskingAt setting registry seats seat wish (wishes_for listed wish registry)
seats_ask setting registry seats place seat d wish listed is fit inside here listed_is_it next = record {
  registered = ap (λ (n : ℕ). is_registered n registry) own ∙ registered_by seat.turn.txn registry
      ∙ ap is_some (ap (wish_in seat.turn.txn) (is.all ∙ listed_is seats)
      ∙ wish_there setting seat.turn.txn turns sorted placed.number ∙ ap wish_of placed.there) ∙ some_listed seat wish next seat.listed;
  own = record {
    next = next;
    ascend = subst Ascend (sym are) (increasing_from _ (wishes_rise later sorted_later));
    own = ap (λ (n : ℕ). wish_in n (wishes_for listed wish registry)) own ∙ ap (wish_in seat.turn.txn) are
        ∙ wish_there setting seat.turn.txn later sorted_later (ap (is_in seat.turn.txn) kept ∙ placed.number)
        ∙ ap wish_of (turn_of_with setting new turns placed.number) ∙ next;
  };
  others = all_listed setting (wishes_for listed wish registry) seat seats seats is.sorted are (placed_seats setting seats is.sorted) is.seated;
  few = (let k = few_wishes later in let wide = sym (length-map later (λ (t : Turn). t.txn)) ∙ ap length kept
      ∙ length-map turns (λ (t : Turn). t.txn) in omega (arith, k, ap length are, wide, length-map seats shown));
  may_own = may_be_asked setting seat wish (subst (IsFit setting) here (all_at (IsFit setting) seats place d inside fit)) next;
  may = ap (list_all (may_ask setting.plan.trees)) is.all ∙ may_listed setting seats fit;
}
  where
    turns : List Turn
    turns = all_shown seats

    new : Turn
    new = record (shown seat) { waits = true }

    later : List Turn
    later = with_turn new turns

    kept : map (λ (t : Turn). t.txn) later ≡ map (λ (t : Turn). t.txn) turns
    kept = numbers_with new turns

    sorted : IsStrictlySortedBy nat_cmp (map (λ (t : Turn). t.txn) turns)
    sorted = sorted_shown seats is.sorted

    sorted_later : IsStrictlySortedBy nat_cmp (map (λ (t : Turn). t.txn) later)
    sorted_later = subst (IsStrictlySortedBy nat_cmp) (sym kept) sorted

    placed : IsPlaced setting turns (shown seat)
    placed = subst (λ (s : Seat). IsPlaced setting turns (shown s)) here
        (all_at (λ s. IsPlaced setting turns (shown s)) seats place d inside (placed_seats setting seats is.sorted))

    are : wishes_for listed wish registry ≡ wishes_in later
    are = wishes_are setting registry seats place seat d wish listed is inside here listed_is_it next

    own : wish.txn ≡ seat.turn.txn
    own = (has_lock seat.turn.txn wish seat.turn.lines next).own

-- Behind its answer.

lock_next : (seat : Seat) (wish : Wish) → next_wish seat.turn.txn seat.turn.lines ≡ Some wish → IsAtLock seat.turn.lines
lock_next seat wish next =
    let at = has_lock seat.turn.txn wish seat.turn.lines next in
    subst IsAtLock (sym at.next) (subst (λ (d : LineDeed). IsTrue (is_lock d)) (sym at.lock) refl)

quiet_granted : (turn : Turn) (wish : Wish) (buffered : Bool) → HasLock turn.txn wish turn.lines → (granted_at turn buffered).waits ≡ false
quiet_granted turn wish buffered at = ap (λ (t : Turn). t.waits) (granted_is turn wish buffered at)

granted_txn : (turn : Turn) (wish : Wish) (buffered : Bool) → HasLock turn.txn wish turn.lines → (granted_at turn buffered).txn ≡ turn.txn
granted_txn turn wish buffered at = ap (λ (t : Turn). t.txn) (granted_is turn wish buffered at)

seated_quiet : (turn : Turn) → turn.waits ≡ false → IsSeated (idle turn)
seated_quiet turn quiet = record {
  lock = λ w. absurd (let k : false ≡ true = sym quiet ∙ w in cc);
  waits = λ l. absurd
      (let k : false ≡ true = l in cc);
}

-- one that is put in its place, with the wishes of all that are registered then
stays_put : (registry left : List Wish) (seats : List Seat) (place : ℕ) (d seat : Seat) → IsRegistryOf registry seats → place < length seats →
    (get_or seats place d).turn.txn ≡ seat.turn.txn → IsSeated seat → left ≡ wishes_in (with_turn (shown seat) (all_shown seats)) →
    IsRegistryOf left (slice_set seats place seat)
stays_put registry left seats place d seat is inside same seated are = record {
  sorted = subst (IsStrictlySortedBy nat_cmp) (sym (numbers_put seats place d seat is.sorted inside same)) is.sorted;
  seated = all_put IsSeated seats place seat is.seated seated;
  all = are ∙ ap wishes_in (sym (shown_put seats place d seat is.sorted inside same)) ∙ sym (listed_is (slice_set seats place seat));
}

-- one that does not wait any more
without_is : (registry : List Wish) (seats : List Seat) (seat new : Seat) → IsRegistryOf registry seats → new.listed ≡ false →
    without new.turn.txn registry ≡ wishes_in (with_turn (shown new) (all_shown seats))
without_is registry seats seat new is quiet =
    ap (without new.turn.txn) (is.all ∙ listed_is seats) ∙ sym (wishes_leave (shown new) (all_shown seats)
    (on_false new.listed (next_wish new.turn.txn new.turn.lines) None quiet))

others_are : (setting : Setting) (registry : List Wish) (seats : List Seat) (place : ℕ) (seat d new : Seat) (wish : Wish) (listed : Bool) →
    IsRegistryOf registry seats → place < length seats →
    get_or seats place d ≡ seat → seat.listed ≡ listed → wish.txn ≡ seat.turn.txn → new.turn.txn ≡ seat.turn.txn → new.listed ≡ false →
    others_for listed wish registry ≡ wishes_in (with_turn (shown new) (all_shown seats))
others_are setting registry seats place seat d new wish true is inside here listed own same quiet =
    ap (λ (n : ℕ). without n registry) (own ∙ sym same) ∙ without_is registry seats seat new is quiet
others_are setting registry seats place seat d new wish false is inside here listed own same quiet =
    let placed = subst (λ (s : Seat). IsPlaced setting (all_shown seats) (shown s)) here
    (all_at (λ s. IsPlaced setting (all_shown seats) (shown s)) seats place d inside (placed_seats setting seats is.sorted)) in
    is.all ∙ listed_is seats ∙ sym (wishes_stay setting (shown new) (all_shown seats) (sorted_shown seats is.sorted)
    (ap (λ (n : ℕ). wish_of (turn_of setting n (all_shown seats))) same ∙ ap wish_of placed.there
    ∙ on_false seat.listed (next_wish seat.turn.txn seat.turn.lines) None listed
    ∙ sym (on_false new.listed (next_wish new.turn.txn new.turn.lines) None quiet)))

pub registries_stay : (setting : Setting) (bar : ℕ) (registry : List Wish) (seats : List Seat) (place : ℕ) (seat d : Seat) (wish : Wish)
    (listed : Bool) (old new : PassView) (left : List Wish) (result : Result Started Fault) →
    IsRegistryOf registry seats → place < length seats → get_or seats place d ≡ seat → seat.listed ≡ listed →
    next_wish seat.turn.txn seat.turn.lines ≡ Some wish →
    IsStarted setting bar wish (others_for listed wish registry) (wishes_for listed wish registry) registry old new left result → IsAnswered result →
    IsRegistryOf (registry_so wish.txn left result) (slice_set seats place (seat_so seat.turn result))
registries_stay setting bar registry seats place seat d wish listed old new left result is inside here listed_is_it next started answered =
    by_answer result started answered
  where
    turn : Turn
    turn = seat.turn

    at : HasLock turn.txn wish turn.lines
    at = has_lock turn.txn wish turn.lines next

    number : (get_or seats place d).turn.txn ≡ turn.txn
    number = ap (λ (s : Seat). s.turn.txn) here

    -- it does not wait any more, and its wish is left out
    goes : (t : Turn) (ws : List Wish) → t.txn ≡ turn.txn → t.waits ≡ false → ws ≡ others_for listed wish registry →
        IsRegistryOf ws (slice_set seats place (idle t))
    goes t ws same quiet are =
        stays_put registry ws seats place d (idle t) is inside (number ∙ sym same) (seated_quiet t quiet)
        (are ∙ others_are setting registry seats place seat d (idle t) wish listed is inside here listed_is_it at.own same refl)

    by_answer : (r : Result Started Fault) → IsStarted setting bar wish (others_for listed wish registry)
        (wishes_for listed wish registry) registry old new left r → IsAnswered r →
        IsRegistryOf (registry_so wish.txn left r) (slice_set seats place (seat_so turn r))
    by_answer (Ok (StartedGranted at_place buffered)) h has = goes (granted_at turn buffered) left (granted_txn turn wish buffered at)
        (quiet_granted turn wish buffered at) h.1
    by_answer (Ok (Waits owners)) h has =
        stays_put registry left seats place d (record { turn = record turn { waits = true }; busy = false; listed = true }) is inside number
        (record { lock = λ w. lock_next seat wish next; waits = λ l. refl })
        (h.1 ∙ wishes_are setting registry seats place seat d wish listed is inside here listed_is_it next)
    by_answer (Ok (Deadlock walk)) h has = goes (ending (EndedByDeadlock walk) turn) left refl refl h.1
    by_answer (Err OutOfMemory) h has = absurd has
    by_answer (Err (Busy row holder)) h has = absurd has
    by_answer (Err (HistoryFull at_place)) h has = absurd has
    by_answer (Err (OutOfLocks at_place rows)) h has =
        let ended : Seat = idle (ending (StoppedAt at_place rows) turn) in
        stays_put registry (without wish.txn left) seats place d ended is inside number (seated_quiet (ending (StoppedAt at_place rows) turn) refl)
        (ap (without wish.txn) h.1 ∙ ap (λ (n : ℕ). without n registry) at.own ∙ without_is registry seats seat ended is refl)

-- One that was played may be played on.

fit_rest : (setting : Setting) (lines : List Line) → AllByRecursion (λ line. IsFitLine setting line.deed) lines →
    AllByRecursion (λ line. IsFitLine setting line.deed) (rest_of lines)
fit_rest setting [] all = tt
fit_rest setting (line ∷ lines) all = all.1

no_lines : (line : Line) (rest : List Line) → line ∷ rest ≡ [] → ⊥
no_lines line rest e = cc

fit_granted : (setting : Setting) (seat : Seat) (wish : Wish) (buffered : Bool) → IsFit setting seat → HasLock seat.turn.txn wish seat.turn.lines →
    IsFit setting (idle (granted_at seat.turn buffered))
fit_granted setting seat wish buffered fit at = subst (λ (t : Turn). IsFit setting (idle t)) (sym (granted_is seat.turn wish buffered at)) (record {
  txn = fit.txn;
  lines = fit_rest setting seat.turn.lines fit.lines;
  releases = fit.releases;
  recorded = length-set seat.turn.recorded wish.tree _ ∙ fit.recorded;
  over = λ done. absurd (no_lines at.line at.rest (sym at.next ∙ fit.over done));
})

pub seats_stay_fit : (setting : Setting) (seat : Seat) (wish : Wish) (result : Result Started Fault) → IsFit setting seat →
    next_wish seat.turn.txn seat.turn.lines ≡ Some wish → IsAnswered result →
    IsFit setting (seat_so seat.turn result)
seats_stay_fit setting seat wish (Ok (StartedGranted place buffered)) fit next has =
    fit_granted setting seat wish buffered fit (has_lock seat.turn.txn wish seat.turn.lines next)
seats_stay_fit setting seat wish (Ok (Waits owners)) fit next has =
    record { txn = fit.txn; lines = fit.lines; releases = fit.releases; recorded = fit.recorded; over = fit.over }
seats_stay_fit setting seat wish (Ok (Deadlock walk)) fit next has = fit_ended setting seat (EndedByDeadlock walk) fit
seats_stay_fit setting seat wish (Err OutOfMemory) fit next has = absurd has
seats_stay_fit setting seat wish (Err (Busy row holder)) fit next has = absurd has
seats_stay_fit setting seat wish (Err (HistoryFull place)) fit next has = absurd has
seats_stay_fit setting seat wish (Err (OutOfLocks place rows)) fit next has = fit_ended setting seat (StoppedAt place rows) fit
