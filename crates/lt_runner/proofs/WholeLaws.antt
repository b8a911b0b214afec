-- The plain scheduler's run keeps to the rules of runs at each step.
use Rattle.std.proofs.Common.{◌≡◌, ◌≢◌, ◌⊎◌, inl, inr, ℕ, suc, ◌<◌, ◌≤◌, List, [], ◌∷◌, ◌++◌, map, Bool, true, false, ◌==◌, if◌then◌else◌, is_some, nat_lt, ◌&&◌, length, Contains}
use Rattle.std.proofs.Common.{nat_cmp, refl, sym, ap, subst, ◌∙◌, arith, append-nil, append_assoc, eq-eqb}
use Rattle.std.specs.List.{AllByRecursion, filter_map}
use Rattle.std.specs.List.Sorted.{IsStrictlySortedBy}
use Rattle.std.proofs.lemmas.Bool.Decides.{nat_tests}
use Rattle.std.proofs.lemmas.List.{length-append}
use Rattle.lt_ranges.specs.Numbers.{is_in}
use Rattle.lt_seq.specs.declared.event.Deed.{Deed}
use Rattle.lt_seq.specs.declared.event.Deed.TheVariants.{Ask, Free}
use Rattle.lt_seq.specs.declared.event.Reply.TheVariants.{Granted}
use Rattle.lt_seq.specs.declared.event.Event.{Event}
use Rattle.lt_seq.specs.declared.event.Receipt.{Receipt}
use Rattle.lt_seq.specs.Table.{Setting, used}
use Rattle.lt_seq.specs.History.{after, IsLegal}
use Rattle.lt_seq.specs.Passes.{numbers_from}
use Rattle.lt_seq.specs.Yard.{place_after}
use Rattle.lt_seq.specs.Questions.{receipt_after, receipts_of, events_of}
use Rattle.lt_trace.specs.declared.line.Line.{Line}
use Rattle.lt_trace.specs.declared.line.LineDeed.{LineDeed}
use Rattle.lt_trace.specs.declared.line.LineDeed.TheVariants.{Try, Lock, End, Abort, Escalate, Big}
use Rattle.lt_trace.specs.Grammar.{txns_of}
use Rattle.lt_requests.specs.declared.wish.Wish.{Wish}
use Rattle.lt_runner.specs.declared.release.Release.{Release}
use Rattle.lt_runner.specs.TurnView.{Turn}
use Rattle.lt_runner.specs.Turn.{Move, leaves, asks, waits, stops, escalates, grows, ends, frees, receipts_in, turn_after, reply_in}
use Rattle.lt_runner.specs.Attempt.{bar_of}
use Rattle.lt_runner.specs.Plays.{is_held, wish_in, end_of, opening_stage, lines_for, opening_turn}
use Rattle.lt_runner.specs.Run.{Play, ended_as, IsRun}
use Rattle.lt_runner.specs.Played.{HasCome, MovesBy, Search, IsAmong, IsLate, Fits, Stands, IsOver}
use Rattle.lt_runner.specs.Serial.{Game, turn_of, with_turn, line_move, does, attempt, behind_joins, joins_of, ask_move, opening_game, ended_in}
use Rattle.lt_runner.specs.Steps.{IsFitLine, IsFitRelease, IsSteady, IsInOrder, IsTurnOf, IsAtLine, IsOwing, KeepsSteps}
use Rattle.lt_runner.proofs.StepLaws.{all_with, turn_has, after_txn, ready_goes}
use Rattle.lt_runner.proofs.CallLaws.{AreCalls, AreOwn, legal_calls, own_calls}
use Rattle.lt_runner.proofs.PlayLaws.{longer}
use Rattle.lt_runner.proofs.RunLaws.{come_is_run}
use Rattle.lt_runner.proofs.WishLaws.{IsPlaced, all_placed, wishes_at, are_wishes, wish_other, fit_wishes}
use Rattle.lt_runner.proofs.SearchedLaws.{IsFitWish}
use Rattle.lt_runner.proofs.AttemptLaws.{seat_at, at_lines, done_moves, done_line, free_moves}
use Rattle.lt_runner.proofs.FollowLaws.{in_play, in_play_open, in_play_after, in_play_over, Comes, comes_searched, comes_stays, comes_moved, comes_same, play_other, play_taken}
use Rattle.lt_runner.proofs.FollowLaws.{play_ended, to_come, lines_behind}

-- All transactions, half played, in one legal history.
pub record Runs (setting : Setting) (txns : List ℕ) (lines left : List Line) (game : Game) : Type 0 where
  pub searches : List Search
  pub before : AllByRecursion (λ s. s.place < place_after setting game.events) searches
  pub legal : IsLegal setting game.events
  pub own : AllByRecursion (λ e. is_in e.txn txns ≡ true) game.events
  pub come : AllByRecursion (Comes setting lines left searches game.events) game.turns

-- what is known of each turn besides
record Known (setting : Setting) (lines left : List Line) (searches : List Search) (game : Game) (turn : Turn) : Type 0 where
  comes : Comes setting lines left searches game.events turn
  placed : IsPlaced setting game.turns turn
  steady : IsSteady setting turn

known : (setting : Setting) (lines left : List Line) (searches : List Search) (game : Game) (turns : List Turn) →
    AllByRecursion (Comes setting lines left searches game.events) turns → AllByRecursion (IsPlaced setting game.turns) turns → AllByRecursion (IsSteady setting) turns →
    AllByRecursion (Known setting lines left searches game) turns
known setting lines left searches game [] come placed steady = tt
known setting lines left searches game (t ∷ ts) come placed steady =
    (record { comes = come.0; placed = placed.0; steady = steady.0 }, known setting lines left searches game ts come.1 placed.1 steady.1)

all_known : (setting : Setting) (txns : List ℕ) (lines left : List Line) (game : Game) (runs : Runs setting txns lines left game) → IsInOrder setting txns game →
    AllByRecursion (Known setting lines left runs.searches game) game.turns
all_known setting txns lines left game runs order =
    known setting lines left runs.searches game game.turns runs.come (all_placed setting game.turns (subst (IsStrictlySortedBy nat_cmp) (sym order.numbers) order.sorted)) order.steady

all_both : (P : Event → Type 0) (xs ys : List Event) → AllByRecursion P xs → AllByRecursion P ys → AllByRecursion P (xs ++ ys)
all_both P [] ys all rest = rest
all_both P (x ∷ xs) ys all rest = (all.0, all_both P xs ys all.1 rest)

own_in : (txns : List ℕ) (txn : ℕ) (events : List Event) → is_in txn txns ≡ true → AreOwn txn events → AllByRecursion (λ e. is_in e.txn txns ≡ true) events
own_in txns txn [] there own = tt
own_in txns txn (e ∷ es) there own = (subst (λ (n : ℕ). is_in n txns ≡ true) (sym own.0) there, own_in txns txn es there own.1)

before_more : (setting : Setting) (events more : List Event) (searches : List Search) → AllByRecursion (λ s. s.place < place_after setting events) searches →
    AllByRecursion (λ s. s.place < place_after setting (events ++ more)) searches
before_more setting events more [] all = tt
before_more setting events more (s ∷ ss) all = ((let k = longer setting events more in omega (arith, all.0, k)), before_more setting events more ss all.1)

-- The searches of a move: one where it waits.
abbrev found_in : ℕ → Move → List Search
found_in txn (leaves joins) = []
found_in txn (asks joins ask) = []
found_in txn (waits joins ask wishes search) = record { txn = txn; place = ask.place; wishes = wishes } ∷ []
found_in txn (stops joins place used_rows) = []
found_in txn (escalates join) = []
found_in txn grows = []
found_in txn ends = []
found_in txn (frees free) = []

-- the wishes of a search are those that were registered
abbrev SearchesAmong : List Wish → Move → Type 0
SearchesAmong all (leaves joins) = Unit {0}
SearchesAmong all (asks joins ask) = Unit {0}
SearchesAmong all (waits joins ask wishes search) = wishes ≡ all
SearchesAmong all (stops joins place used_rows) = Unit {0}
SearchesAmong all (escalates join) = Unit {0}
SearchesAmong all grows = Unit {0}
SearchesAmong all ends = Unit {0}
SearchesAmong all (frees free) = Unit {0}

among_found : (txn : ℕ) (move : Move) → IsAmong (found_in txn move) txn move
among_found txn (leaves joins) = tt
among_found txn (asks joins ask) = tt
among_found txn (waits joins ask wishes search_found) = (0, omega arith, refl)
among_found txn (stops joins place used_rows) = tt
among_found txn (escalates join) = tt
among_found txn grows = tt
among_found txn ends = tt
among_found txn (frees free) = tt

-- What a move is between two histories, for the one that makes it.
record IsMade (setting : Setting) (txns : List ℕ) (left : List Line) (game : Game) (turn : Turn) (move : Move) : Type 0 where
  of_game : IsTurnOf setting txns game turn
  calls : AreCalls setting turn.txn game.events (receipts_in move)
  moves : MovesBy false setting game.events (game.events ++ events_of (receipts_in move)) (seat_at (in_play left turn)) (seat_at (in_play left (turn_after turn move))) (receipts_in move) move
  among : SearchesAmong (wishes_at turn game.turns) move
  pass : 0 < setting.plan.passes

contains_last : (xs : List Search) (s : Search) → Contains (xs ++ s ∷ []) s
contains_last [] s = (0, omega arith, refl)
contains_last (x ∷ xs) s = let (k, inside, is) = contains_last xs s in (suc k, omega (arith, inside), is)

among_last : (xs found : List Search) (s : Search) → Contains found s → Contains (xs ++ found) s
among_last [] found s there = there
among_last (x ∷ xs) found s there = let (k, inside, is) = among_last xs found s there in (suc k, omega (arith, inside), is)

fits_others : (txn from : ℕ) (searches : List Search) → AllByRecursion (λ s. s.place < from) searches → AllByRecursion (λ s. s.txn ≢ txn → s.place < from) searches
fits_others txn from [] all = tt
fits_others txn from (s ∷ ss) all = ((λ other. all.0), fits_others txn from ss all.1)

fits_own : (txn from : ℕ) (searches found : List Search) → AllByRecursion (λ s. s.txn ≢ txn → s.place < from) searches → AllByRecursion (λ s. s.txn ≡ txn) found →
    AllByRecursion (λ s. s.txn ≢ txn → s.place < from) (searches ++ found)
fits_own txn from [] [] all own = tt
fits_own txn from [] (s ∷ ss) all own = ((λ other. absurd (other own.0)), fits_own txn from [] ss tt own.1)
fits_own txn from (s ∷ ss) found all own = (all.0, fits_own txn from ss found all.1 own)

found_own : (txn : ℕ) (move : Move) → AllByRecursion (λ s. s.txn ≡ txn) (found_in txn move)
found_own txn (leaves joins) = tt
found_own txn (asks joins ask) = tt
found_own txn (waits joins ask wishes search_found) = (refl, tt)
found_own txn (stops joins place used_rows) = tt
found_own txn (escalates join) = tt
found_own txn grows = tt
found_own txn ends = tt
found_own txn (frees free) = tt

before_both : (place : ℕ) (xs ys : List Search) → AllByRecursion (λ s. s.place < place) xs → AllByRecursion (λ s. s.place < place) ys → AllByRecursion (λ s. s.place < place) (xs ++ ys)
before_both place [] ys all rest = rest
before_both place (x ∷ xs) ys all rest = (all.0, before_both place xs ys all.1 rest)

ask_before : (setting : Setting) (txn : ℕ) (events : List Event) (joins : List Receipt) (ask : Receipt) (rest : List Receipt) →
    AreCalls setting txn events (joins ++ ask ∷ rest) → ask.place < place_after setting (events ++ events_of (joins ++ ask ∷ rest))
ask_before setting txn events [] ask rest calls = omega (arith, ap (λ (r : Receipt). r.place) calls.0.is, length-append events (events_of (ask ∷ rest)))
ask_before setting txn events (j ∷ js) ask rest calls =
    omega (arith, ask_before setting txn (events ++ j.event ∷ []) js ask rest calls.1, ap length (append_assoc events (j.event ∷ []) (events_of (js ++ ask ∷ rest))))

-- its search lies in the history that it makes
found_before : (setting : Setting) (txn : ℕ) (events : List Event) (move : Move) (own : ℕ) → AreCalls setting txn events (receipts_in move) →
    AllByRecursion (λ s. s.place < place_after setting (events ++ events_of (receipts_in move))) (found_in own move)
found_before setting txn events (leaves joins) own calls = tt
found_before setting txn events (asks joins ask) own calls = tt
found_before setting txn events (waits joins ask wishes search_found) own calls = (ask_before setting txn events joins ask search_found calls, tt)
found_before setting txn events (stops joins place used_rows) own calls = tt
found_before setting txn events (escalates join) own calls = tt
found_before setting txn events grows own calls = tt
found_before setting txn events ends own calls = tt
found_before setting txn events (frees free) own calls = tt

-- a search comes behind all of the history
abbrev IsLateSearch : Setting → Game → Move → Type 0
IsLateSearch setting game (leaves joins) = Unit {0}
IsLateSearch setting game (asks joins ask) = Unit {0}
IsLateSearch setting game (waits joins ask wishes search) = place_after setting game.events ≤ ask.place
IsLateSearch setting game (stops joins place used_rows) = Unit {0}
IsLateSearch setting game (escalates join) = Unit {0}
IsLateSearch setting game grows = Unit {0}
IsLateSearch setting game ends = Unit {0}
IsLateSearch setting game (frees free) = Unit {0}

late_search : (setting : Setting) (game : Game) (move : Move) → IsLate (place_after setting game.events) move → IsLateSearch setting game move
late_search setting game (leaves joins) late = tt
late_search setting game (asks joins ask) late = tt
late_search setting game (waits joins ask wishes search_found) late = late
late_search setting game (stops joins place used_rows) late = tt
late_search setting game (escalates join) late = tt
late_search setting game grows late = tt
late_search setting game ends late = tt
late_search setting game (frees free) late = tt

-- the turn with the searches that there are now
searched_too : (setting : Setting) (lines left : List Line) (searches : List Search) (game : Game) (mover turn : Turn) (move : Move) →
    SearchesAmong (wishes_at mover game.turns) move → IsLateSearch setting game move →
    IsStrictlySortedBy nat_cmp (map (λ t. t.txn) game.turns) → Known setting lines left searches game turn → Comes setting lines left (searches ++ found_in mover.txn move) game.events turn
searched_too setting lines left searches game mover turn move among late sorted known_turn = by_move move among late
  where
    none : Comes setting lines left (searches ++ []) game.events turn
    none = subst (λ (ss : List Search). Comes setting lines left ss game.events turn) (sym (append-nil searches)) known_turn.comes

    by_move : (m : Move) → SearchesAmong (wishes_at mover game.turns) m → IsLateSearch setting game m → Comes setting lines left (searches ++ found_in mover.txn m) game.events turn
    by_move (leaves joins) a l = none
    by_move (asks joins ask) a l = none
    by_move (waits joins ask wishes search_found) a l =
        comes_searched setting lines left searches (record { txn = mover.txn; place = ask.place; wishes = wishes }) game.events turn l known_turn.steady
        (λ other. ap (wish_in turn.txn) a ∙ wish_other setting mover turn game.turns sorted known_turn.placed (λ same. other (sym same))) known_turn.comes
    by_move (stops joins place used_rows) a l = none
    by_move (escalates join) a l = none
    by_move grows a l = none
    by_move ends a l = none
    by_move (frees free) a l = none

-- one move more
runs_move : (setting : Setting) (txns : List ℕ) (lines left : List Line) (game : Game) (turn : Turn) (move : Move) → IsMade setting txns left game turn move →
    Runs setting txns lines left game → Runs setting txns lines left (does setting turn move game)
runs_move setting txns lines left game turn move made runs =
    let order = made.of_game.order in
    let more = events_of (receipts_in move) in
    let own = own_calls setting turn.txn game.events (receipts_in move) made.calls in
    let sorted : IsStrictlySortedBy nat_cmp (map (λ t. t.txn) game.turns) = subst (IsStrictlySortedBy nat_cmp) (sym order.numbers) order.sorted in
    let all = all_known setting txns lines left game runs order in
    let found = found_in turn.txn move in
    let searches = runs.searches ++ found in
    let late = late_search setting game move made.moves.late in
    let same = after_txn turn move in
    let fits : Fits searches found (place_after setting game.events) turn.txn = record {
      before = fits_own turn.txn (place_after setting game.events) runs.searches found (fits_others turn.txn (place_after setting game.events) runs.searches runs.before) (found_own turn.txn move);
      among = λ s there. among_last runs.searches found s there;
    } in
    let mine = turn_has (Known setting lines left runs.searches game) setting txns game turn made.of_game all in
    record {
      searches = searches;
      before = before_both (place_after setting (game.events ++ more)) runs.searches found (before_more setting game.events more runs.searches runs.before)
          (found_before setting turn.txn game.events move turn.txn made.calls);
      legal = legal_calls setting turn.txn game.events (receipts_in move) made.pass made.calls runs.legal;
      own = all_both (λ e. is_in e.txn txns ≡ true) game.events more runs.own (own_in txns turn.txn more made.of_game.number own);
      come = all_with (Known setting lines left runs.searches game) (Comes setting lines left searches (game.events ++ more)) (turn_after turn move) game.turns all
          (comes_moved setting lines left searches found game.events turn (turn_after turn move) (receipts_in move) move fits (among_found turn.txn move) same made.calls made.moves
          (searched_too setting lines left runs.searches game turn turn move made.among late sorted mine))
          (λ t differs known_turn. comes_stays setting lines left searches game.events more t turn.txn own (λ is. differs (is ∙ sym same))
          (searched_too setting lines left runs.searches game turn t move made.among late sorted known_turn));
    }

-- The moves of the scheduler.

among_ask : (setting : Setting) (turns : List Turn) (turn : Turn) (locks : Bool) (events : List Event) (joins : List Receipt) (ask : Receipt) →
    SearchesAmong (wishes_at turn turns) (ask_move setting turns turn locks events joins ask)
among_ask setting turns turn locks events joins ask = by_test (locks && is_held (reply_in ask.event.deed)) _
  where
    by_test : (b : Bool) (found : List Receipt) → SearchesAmong (wishes_at turn turns) (if b then waits joins ask (wishes_at turn turns) found else asks joins ask)
    by_test true found = refl
    by_test false found = tt

among_attempt : (setting : Setting) (turns : List Turn) (turn : Turn) (locks : Bool) (deed : Deed) (events : List Event) →
    SearchesAmong (wishes_at turn turns) (attempt setting turns turn locks deed events)
among_attempt setting turns turn locks deed events = by_room (nat_lt (used (after setting events)) (bar_of setting turn))
  where
    joins : List Receipt
    joins = joins_of setting turn.txn (numbers_from 0 setting.plan.trees) events

    mid : List Event
    mid = events ++ events_of joins

    by_second : (b : Bool) → SearchesAmong (wishes_at turn turns)
        (if b then ask_move setting turns turn locks mid joins (receipt_after setting mid 0 turn.txn deed) else stops joins (place_after setting mid) (used (after setting mid)))
    by_second true = among_ask setting turns turn locks mid joins (receipt_after setting mid 0 turn.txn deed)
    by_second false = tt

    by_room : (b : Bool) → SearchesAmong (wishes_at turn turns)
        (if b then ask_move setting turns turn locks events [] (receipt_after setting events 0 turn.txn deed) else behind_joins setting turns turn locks deed mid joins)
    by_room true = among_ask setting turns turn locks events [] (receipt_after setting events 0 turn.txn deed)
    by_room false = by_second (nat_lt (used (after setting mid)) (bar_of setting turn))

among_line : (setting : Setting) (game : Game) (turn : Turn) (deed : LineDeed) → SearchesAmong (wishes_at turn game.turns) (line_move setting game turn deed)
among_line setting game turn (Try tree range) = among_attempt setting game.turns turn false (Ask tree range Granted) game.events
among_line setting game turn (Lock tree range) = among_attempt setting game.turns turn true (Ask tree range Granted) game.events
among_line setting game turn End = tt
among_line setting game turn Abort = tt
among_line setting game turn (Escalate tree) = tt
among_line setting game turn Big = tt

lines_steady : (setting : Setting) (turns : List Turn) → AllByRecursion (IsSteady setting) turns → AllByRecursion (λ turn. AllByRecursion (IsFitLine setting turn.txn) turn.lines) turns
lines_steady setting [] all = tt
lines_steady setting (t ∷ ts) all = (all.0.lines, lines_steady setting ts all.1)

made_line : (setting : Setting) (txns : List ℕ) (left : List Line) (game : Game) (turn : Turn) (line : Line) (lines : List Line) → 0 < setting.plan.passes →
    IsAtLine setting txns game turn line lines → IsMade setting txns left game turn (line_move setting game turn line.deed)
made_line setting txns left game turn line lines pass at =
    let order = at.of_game.order in
    let steady = turn_has (IsSteady setting) setting txns game turn at.of_game order.steady in
    let fits : AllByRecursion (IsFitLine setting turn.txn) (line ∷ lines) = subst (AllByRecursion (IsFitLine setting turn.txn)) at.next steady.lines in
    let sorted : IsStrictlySortedBy nat_cmp (map (λ t. t.txn) game.turns) = subst (IsStrictlySortedBy nat_cmp) (sym order.numbers) order.sorted in
    let behind_it = lines_behind turn.txn line.deed (lines ++ to_come turn.txn left) in
    let move = line_move setting game turn line.deed in
    let waiting : Turn = record turn { waits = true } in
    let wishes : AllByRecursion (IsFitWish setting) (wishes_at turn game.turns) =
    fit_wishes setting (with_turn waiting game.turns)
    (all_with (λ t. AllByRecursion (IsFitLine setting t.txn) t.lines) (λ t. AllByRecursion (IsFitLine setting t.txn) t.lines) waiting game.turns
    (lines_steady setting game.turns order.steady) steady.lines (λ t differs all. all)) in
    let done = done_line setting game turn (line ∷ behind_it) line.deed fits.0.deed
    (are_wishes setting turn game.turns line lines sorted (ap (is_in turn.txn) order.numbers ∙ at.of_game.number) at.next) wishes in
    let may = done.may (record { since = setting.plan.first; held = 0; left = false }) (omega arith) in
    let new_same = in_play_after setting (game.events ++ events_of (receipts_in move)) (record { since = setting.plan.first; held = 0; left = false })
    (at_lines turn (line ∷ behind_it)) left turn line lines move at.goes at.next may in
    let old_same = in_play_open left turn line lines at.goes at.next in
    record {
      of_game = at.of_game;
      calls = done.calls;
      moves = subst (λ (t : Turn). MovesBy false setting game.events (game.events ++ events_of (receipts_in move)) (seat_at t)
          (seat_at (in_play left (turn_after turn move))) (receipts_in move) move) (sym old_same)
          (subst (λ (t : Turn). MovesBy false setting game.events (game.events ++ events_of (receipts_in move)) (seat_at (at_lines turn (line ∷ behind_it))) (seat_at t)
          (receipts_in move) move) new_same
          (done_moves setting game.events turn line behind_it move done));
      among = among_line setting game turn line.deed;
      pass = pass;
    }

made_free : (setting : Setting) (txns : List ℕ) (left : List Line) (game : Game) (turn : Turn) (r : Release) (rs : List Release) → 0 < setting.plan.passes → IsOwing setting txns game turn r rs →
    IsMade setting txns left game turn (frees (receipt_after setting game.events 0 turn.txn (Free r.tree r.range r.first 0)))
made_free setting txns left game turn r rs pass at =
    let steady = turn_has (IsSteady setting) setting txns game turn at.of_game at.of_game.order.steady in
    let fits : AllByRecursion (IsFitRelease setting) (r ∷ rs) = subst (AllByRecursion (IsFitRelease setting)) at.next steady.releases in
    let free = receipt_after setting game.events 0 turn.txn (Free r.tree r.range r.first 0) in
    let new = turn_after turn (frees free) in
    record {
      of_game = at.of_game;
      calls = (record { deed = Free r.tree r.range r.first 0; is = refl; tree = fits.0.0; question = fits.0.1 }, tt);
      moves = subst (λ (t : Turn). MovesBy false setting game.events (game.events ++ free.event ∷ []) (seat_at t) (seat_at (in_play left new)) (free ∷ []) (frees free))
          (sym (in_play_over left turn at.ended))
          (subst (λ (t : Turn). MovesBy false setting game.events (game.events ++ free.event ∷ []) (seat_at turn) (seat_at t) (free ∷ []) (frees free)) (sym (in_play_over left new at.ended))
          (free_moves setting game.events turn r rs (steady.over at.ended) at.next fits.0.0 fits.0.1));
      among = tt;
      pass = pass;
    }

-- Steps.

runs_with : (setting : Setting) (txns : List ℕ) (lines left later : List Line) (game : Game) (turn new : Turn) → IsTurnOf setting txns game turn → new.txn ≡ turn.txn →
    in_play left turn ≡ in_play later new →
    ((t : Turn) → t.txn ≢ turn.txn → in_play left t ≡ in_play later t) → Runs setting txns lines left game → Runs setting txns lines later (record game { turns = with_turn new game.turns })
runs_with setting txns lines left later game turn new of_game same mine others runs = record {
  searches = runs.searches;
  before = runs.before;
  legal = runs.legal;
  own = runs.own;
  come = all_with (Comes setting lines left runs.searches game.events) (Comes setting lines later runs.searches game.events) new game.turns runs.come
      (comes_same setting lines left later runs.searches game.events turn new same mine (turn_has (Comes setting lines left runs.searches game.events) setting txns game turn of_game runs.come))
      (λ t differs comes. comes_same setting lines left later runs.searches game.events t t refl (others t (λ is. differs (is ∙ sym same))) comes);
}

taken_play : (line : Line) (left : List Line) (turn : Turn) → line.txn ≡ turn.txn → is_some turn.outcome ≡ false →
    in_play (line ∷ left) turn ≡ in_play left (record turn { lines = turn.lines ++ line ∷ [] })
taken_play line left turn own goes = by_case (play_taken line left turn own)
  where
    by_case : in_play (line ∷ left) turn ≡ in_play left (record turn { lines = turn.lines ++ line ∷ [] }) ⊎ (is_some turn.outcome ≡ true) →
        in_play (line ∷ left) turn ≡ in_play left (record turn { lines = turn.lines ++ line ∷ [] })
    by_case (inl same) = same
    by_case (inr ended) = absurd (let k : false ≡ true = sym goes ∙ ended in cc)

-- a line of one that has ended changes nothing
passed : (setting : Setting) (txns : List ℕ) (lines left : List Line) (line : Line) (searches : List Search) (game : Game) (turn : Turn) → is_some turn.outcome ≡ true →
    line.txn ≡ turn.txn → turn_of setting turn.txn game.turns ≡ turn →
    (turns : List Turn) → AllByRecursion (Known setting lines (line ∷ left) searches game) turns → AllByRecursion (Comes setting lines left searches game.events) turns
passed setting txns lines left line searches game turn ended own there [] all = tt
passed setting txns lines left line searches game turn ended own there (t ∷ ts) all = (
  comes_same setting lines (line ∷ left) left searches game.events t t refl
      (by_test (line.txn == t.txn) refl) all.0.comes,
  passed setting txns lines left line searches game turn ended own there ts all.1,
)
  where
    by_test : (b : Bool) → (line.txn == t.txn) ≡ b → in_play (line ∷ left) t ≡ in_play left t
    by_test true e =
        let same : line.txn ≡ t.txn = grind (arith, nat_tests) in
        let is : t ≡ turn = sym all.0.placed.there ∙ ap (λ (n : ℕ). turn_of setting n game.turns) (sym same ∙ own) ∙ there in
        let over : is_some t.outcome ≡ true = ap (λ (u : Turn). is_some u.outcome) is ∙ ended in
        in_play_over (line ∷ left) t over ∙ sym (in_play_over left t over)
    by_test false e = play_other line left t (λ same. absurd (let k : false ≡ true = sym e ∙ eq-eqb line.txn t.txn same in cc))

pub runs_keeps : (setting : Setting) (txns : List ℕ) (lines : List Line) → 0 < setting.plan.passes → KeepsSteps setting txns (Runs setting txns lines)
runs_keeps setting txns lines pass = record {
  moves = λ left. record {
    plays = λ game turn line rest at runs. runs_move setting txns lines left game turn (line_move setting game turn line.deed) (made_line setting txns left game turn line rest pass at) runs;
    gives = λ game turn r rs at runs. runs_move setting txns lines left game turn (frees (receipt_after setting game.events 0 turn.txn (Free r.tree r.range r.first 0)))
        (made_free setting txns left game turn r rs pass at) runs;
    marks = λ game released runs. record { searches = runs.searches; before = runs.before; legal = runs.legal; own = runs.own; come = runs.come };
  };
  adds = λ game turn line left at runs.
      runs_with setting txns lines (line ∷ left) left game turn (record turn { lines = turn.lines ++ line ∷ [] }) at.of_game refl (taken_play line left turn at.fits.own at.goes)
      (λ t differs. play_other line left t (λ same. differs (sym same ∙ at.fits.own))) runs;
  passes = λ game turn line left at runs. record {
    searches = runs.searches;
    before = runs.before;
    legal = runs.legal;
    own = runs.own;
    come = passed setting txns lines left line runs.searches game turn at.ended at.fits.own at.of_game.there game.turns (all_known setting txns lines (line ∷ left) game runs at.of_game.order);
  };
  ends = λ game turn at runs.
      runs_with setting txns lines [] [] game turn (record turn { lines = turn.lines ++ end_of turn.txn ∷ [] }) at.of_game refl
      (play_ended turn at.empty (ready_goes turn at.ready)) (λ t differs. refl) runs;
}

-- The first game, and the last one.

opening_comes : (setting : Setting) (lines : List Line) (txns : List ℕ) → AllByRecursion (Comes setting lines lines [] []) (map (λ txn. opening_turn setting txn []) txns)
opening_comes setting lines [] = tt
opening_comes setting lines (txn ∷ txns) = (
  record {
    come = record {
      moves = [];
      played = tt;
      inside = tt;
      listed = tt;
      own = tt;
      here = refl;
      past = record { seen = omega arith; held = λ e. refl; left = λ e. refl; once = λ e. omega arith };
      made = refl;
    };
  },
  opening_comes setting lines txns,
)

pub opening_runs : (setting : Setting) (txns : List ℕ) (lines : List Line) → Runs setting txns lines lines (opening_game setting txns)
opening_runs setting txns lines = record { searches = []; before = tt; legal = tt; own = tt; come = opening_comes setting lines txns }

seats_stand : (setting : Setting) (lines : List Line) (searches : List Search) (events : List Event) (turns : List Turn) →
    AllByRecursion (λ t. IsOver (seat_at t)) turns → AllByRecursion (Comes setting lines [] searches events) turns →
    AllByRecursion (Stands false setting searches lines events) (map seat_at turns)
seats_stand setting lines searches events [] over all = tt
seats_stand setting lines searches events (t ∷ ts) over all = (
  subst (λ (u : Turn). HasCome false setting searches events (opening_stage setting t.txn (lines_for t.txn lines)) (seat_at u)
      (receipts_of setting.plan.first t.txn events)) (in_play_over [] t over.0.0) all.0.come,
  seats_stand setting lines searches events ts over.1 all.1,
)

seats_over : (turns : List Turn) → AllByRecursion (λ t. IsOver (seat_at t)) turns → AllByRecursion IsOver (map seat_at turns)
seats_over [] all = tt
seats_over (t ∷ ts) all = (all.0, seats_over ts all.1)

seats_numbers : (turns : List Turn) → map (λ s. s.turn.txn) (map seat_at turns) ≡ map (λ t. t.txn) turns
seats_numbers [] = refl
seats_numbers (t ∷ ts) = ap (λ (ns : List ℕ). t.txn ∷ ns) (seats_numbers ts)

seats_turns : (turns : List Turn) → map (λ s. s.turn) (map seat_at turns) ≡ turns
seats_turns [] = refl
seats_turns (t ∷ ts) = ap (λ (us : List Turn). t ∷ us) (seats_turns ts)

-- Where all have ended and given back all, it is a run.
pub runs_out : (setting : Setting) (lines : List Line) (game : Game) → map (λ t. t.txn) game.turns ≡ txns_of lines → AllByRecursion (λ t. IsOver (seat_at t)) game.turns →
    Runs setting (txns_of lines) lines [] game →
    (plays : List Play) × IsRun false setting lines game.events plays × (map ended_as plays ≡ filter_map ended_in game.turns)
runs_out setting lines game numbers over runs =
    let out = come_is_run false setting runs.searches lines game.events (map seat_at game.turns)
    (record { legal = runs.legal; numbers = seats_numbers game.turns ∙ numbers; stand = seats_stand setting lines runs.searches game.events game.turns over runs.come; own = runs.own })
    (seats_over game.turns over) in
    (out.plays, out.run, out.outcomes ∙ ap (filter_map ended_in) (seats_turns game.turns))
