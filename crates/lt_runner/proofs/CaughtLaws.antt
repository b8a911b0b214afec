-- One that waits behind its line's move was held there, and its search, which came last, has found no circle through it.
use Rattle.std.proofs.Common.{◌≡◌, ◌≢◌, ℕ, List, [], ◌∷◌, ◌++◌, map, Bool, true, false, ◌==◌, ◌&&◌, ◌||◌, nat_lt, nat_cmp, if◌then◌else◌, Option, Some, None, is_some, refl, sym, ap, subst, ◌∙◌}
use Rattle.std.proofs.Common.{append-nil, append_assoc, eq-eqb}
use Rattle.std.specs.List.{AllByRecursion}
use Rattle.std.specs.List.Sorted.{IsStrictlySortedBy, IsStrictlyIncreasing}
use Rattle.std.proofs.lemmas.List.{map-append}
use Rattle.lt_ranges.specs.Interval.{Interval}
use Rattle.lt_ranges.specs.Numbers.{is_in}
use Rattle.lt_seq.specs.declared.event.Deed.{Deed}
use Rattle.lt_seq.specs.declared.event.Deed.TheVariants.{Ask, Join}
use Rattle.lt_seq.specs.declared.event.Reply.{Reply}
use Rattle.lt_seq.specs.declared.event.Reply.TheVariants.{Granted, Buffered, HeldBy}
use Rattle.lt_seq.specs.declared.event.Event.{Event}
use Rattle.lt_seq.specs.declared.event.Receipt.{Receipt}
use Rattle.lt_seq.specs.Pairs.{others}
use Rattle.lt_seq.specs.Table.{Setting, TreeState, tree_at, used}
use Rattle.lt_seq.specs.History.{after}
use Rattle.lt_seq.specs.Yard.{place_after}
use Rattle.lt_seq.specs.Passes.{numbers_from}
use Rattle.lt_seq.specs.Questions.{receipt_after, events_of, named_by, named_in}
use Rattle.lt_seq.proofs.HistoryLaws.{after_more}
use Rattle.lt_seq.proofs.NumbersLaws.{ascending_increases}
use Rattle.lt_trace.specs.declared.line.Line.{Line}
use Rattle.lt_trace.specs.declared.line.LineDeed.{LineDeed}
use Rattle.lt_trace.specs.declared.line.LineDeed.TheVariants.{Try, Lock, End, Abort, Escalate, Big}
use Rattle.lt_trace.specs.Grammar.{is_last}
use Rattle.lt_requests.specs.declared.wish.Wish.{Wish}
use Rattle.lt_requests.specs.declared.cycle.Edge.{Edge}
use Rattle.lt_requests.specs.Search.{searched, wishes_of, new_wishes, question_for, edges_in}
use Rattle.lt_requests.specs.Walks.{cycle_of}
use Rattle.lt_requests.specs.Registered.{Ascend, wish_of}
use Rattle.lt_requests.specs.Circles.{holders, IsWaitWay, IsCircle}
use Rattle.lt_requests.proofs.CircleLaws.{no_circle as none_missed, held_owners}
use Rattle.lt_runner.specs.TurnView.{Turn}
use Rattle.lt_runner.specs.Turn.{Move, asks, waits, stops, escalates, grows, ends, receipts_in, turn_after, answered_by, walked, locked_by, asked_at, ended_at, reply_in}
use Rattle.lt_runner.specs.Attempt.{bar_of}
use Rattle.lt_runner.specs.Plays.{is_held, next_wish, wish_for}
use Rattle.lt_runner.specs.Serial.{Game, ask_move, behind_joins, joins_of, attempt, line_move}
use Rattle.lt_runner.proofs.SteadyLaws.{numbers, never}
use Rattle.lt_runner.proofs.WishLaws.{wishes_at, are_wishes}
use Rattle.lt_runner.proofs.GrowLaws.{PairsAt, IsOwn, who_same}

-- the ask of a lock line behind these events
abbrev pub ask_of : Setting → List Event → ℕ → ℕ → Interval → Receipt
ask_of setting events txn tree range = receipt_after setting events 0 txn (Ask tree range Granted)

-- it waits, and this is known of it
pub record IsCaught (setting : Setting) (game : Game) (turn : Turn) (move : Move) : Type 0 where
  pub wish : Wish
  pub next : next_wish turn.txn turn.lines ≡ Some wish
  pub same : turn_after turn move ≡ record turn { waits = true }
  pub blocked : (holder : ℕ) × (is_in holder (holders (after setting (game.events ++ events_of (receipts_in move))) wish) ≡ true)
  pub no_circle : (way : List ℕ) →
      IsCircle (after setting (game.events ++ events_of (receipts_in move))) (wishes_at turn game.turns) turn.txn way → ⊥

abbrev pub IsCaughtIf : Setting → Game → Turn → Move → Type 0
IsCaughtIf setting game turn move = is_some (turn_after turn move).outcome ≡ false → (turn_after turn move).waits ≡ true → IsCaught setting game turn move

-- The shapes of an attempt.

pub all_append : {X : Type 0} (P : X → Type 0) (xs ys : List X) → AllByRecursion P xs → AllByRecursion P ys → AllByRecursion P (xs ++ ys)
all_append P [] ys all rest = rest
all_append P (x ∷ xs) ys all rest = (all.0, all_append P xs ys all.1 rest)

joins_own : (setting : Setting) (txn : ℕ) (trees : List ℕ) (events : List Event) → AllByRecursion (IsOwn txn) (joins_of setting txn trees events)
joins_own setting txn [] events = tt
joins_own setting txn (tree ∷ trees) events =
    (record { txn_is = refl; no_free = tt }, joins_own setting txn trees (events ++ (receipt_after setting events 0 txn (Join tree 0 0)).event ∷ []))

searched_own : (setting : Setting) (txn : ℕ) (wishes steps : List Wish) (events : List Event) (done listed : List Wish) →
    AllByRecursion (IsOwn txn) (searched setting txn wishes steps events done listed)
searched_own setting txn wishes [] events done listed = tt
searched_own setting txn wishes (step_now ∷ steps) events done [] = tt
searched_own setting txn wishes (step_now ∷ steps) events done (w ∷ ws) =
    let r = receipt_after setting events 0 txn (question_for w) in (
      record { txn_is = refl; no_free = tt },
      searched_own setting txn wishes steps (events ++ r.event ∷ []) (done ++ w ∷ []) (ws ++ new_wishes txn (done ++ w ∷ ws) (wishes_of (named_in r.event.deed) wishes)),
    )

pub attempt_by : (P : Move → Type 0) (J : List Receipt → Type 0) (setting : Setting) (turns : List Turn) (turn : Turn) (locks : Bool) (deed : Deed) (events : List Event) →
    J [] → J (joins_of setting turn.txn (numbers_from 0 setting.plan.trees) events) →
    ((joins : List Receipt) (mid : List Event) → J joins → mid ≡ events ++ events_of joins →
    P (ask_move setting turns turn locks mid joins (receipt_after setting mid 0 turn.txn deed))) →
    ((joins : List Receipt) (place rows : ℕ) → J joins → P (stops joins place rows)) → P (attempt setting turns turn locks deed events)
attempt_by P J setting turns turn locks deed events none all on_ask on_stop = by_room (nat_lt (used (after setting events)) (bar_of setting turn))
  where
    joins : List Receipt
    joins = joins_of setting turn.txn (numbers_from 0 setting.plan.trees) events

    mid : List Event
    mid = events ++ events_of joins

    by_second : (b : Bool) →
        P (if b then ask_move setting turns turn locks mid joins (receipt_after setting mid 0 turn.txn deed) else stops joins (place_after setting mid) (used (after setting mid)))
    by_second true = on_ask joins mid all refl
    by_second false = on_stop joins (place_after setting mid) (used (after setting mid)) all

    by_room : (b : Bool) →
        P (if b then ask_move setting turns turn locks events [] (receipt_after setting events 0 turn.txn deed) else behind_joins setting turns turn locks deed mid joins)
    by_room true = on_ask [] events none (sym (append-nil events))
    by_room false = by_second (nat_lt (used (after setting mid)) (bar_of setting turn))

-- The events of a line's move are the transaction's, and none is a free.

ask_own : (setting : Setting) (turns : List Turn) (turn : Turn) (locks : Bool) (tree : ℕ) (range : Interval) (mid : List Event) (joins : List Receipt) → AllByRecursion (IsOwn turn.txn) joins →
    AllByRecursion (IsOwn turn.txn) (receipts_in (ask_move setting turns turn locks mid joins (ask_of setting mid turn.txn tree range)))
ask_own setting turns turn locks tree range mid joins own = by_test (locks && is_held (reply_in ask.event.deed))
  where
    ask : Receipt
    ask = ask_of setting mid turn.txn tree range

    wishes : List Wish
    wishes = wishes_at turn turns

    search_found : List Receipt
    search_found = searched setting turn.txn wishes wishes (mid ++ ask.event ∷ []) [] (wishes_of (named_by (reply_in ask.event.deed)) wishes)

    by_test : (b : Bool) → AllByRecursion (IsOwn turn.txn) (receipts_in (if b then waits joins ask wishes search_found else asks joins ask))
    by_test true = all_append (IsOwn turn.txn) joins (ask ∷ search_found) own
        (record { txn_is = refl; no_free = tt }, searched_own setting turn.txn wishes wishes (mid ++ ask.event ∷ []) [] (wishes_of (named_by (reply_in ask.event.deed)) wishes))
    by_test false = all_append (IsOwn turn.txn) joins (ask ∷ []) own (record { txn_is = refl; no_free = tt }, tt)

pub line_own : (setting : Setting) (game : Game) (turn : Turn) (deed : LineDeed) →
    AllByRecursion (IsOwn turn.txn) (receipts_in (line_move setting game turn deed))
line_own setting game turn (Try tree range) =
    attempt_by (λ m. AllByRecursion (IsOwn turn.txn) (receipts_in m)) (AllByRecursion (IsOwn turn.txn)) setting game.turns turn false (Ask tree range Granted) game.events tt
    (joins_own setting turn.txn (numbers_from 0 setting.plan.trees) game.events)
    (λ joins mid own is. ask_own setting game.turns turn false tree range mid joins own) (λ joins place rows own. own)
line_own setting game turn (Lock tree range) =
    attempt_by (λ m. AllByRecursion (IsOwn turn.txn) (receipts_in m)) (AllByRecursion (IsOwn turn.txn)) setting game.turns turn true (Ask tree range Granted) game.events tt
    (joins_own setting turn.txn (numbers_from 0 setting.plan.trees) game.events)
    (λ joins mid own is. ask_own setting game.turns turn true tree range mid joins own) (λ joins place rows own. own)
line_own setting game turn End = tt
line_own setting game turn Abort = tt
line_own setting game turn (Escalate tree) = (record { txn_is = refl; no_free = tt }, tt)
line_own setting game turn Big = tt

-- A search leaves all pairs.

searched_same : (setting : Setting) (txn : ℕ) (wishes steps : List Wish) (events : List Event) (done listed : List Wish) (k : ℕ) →
    PairsAt (after setting (events ++ events_of (searched setting txn wishes steps events done listed))) k ≡ PairsAt (after setting events) k
searched_same setting txn wishes [] events done listed k = ap (λ (es : List Event). PairsAt (after setting es) k) (append-nil events)
searched_same setting txn wishes (step_now ∷ steps) events done [] k = ap (λ (es : List Event). PairsAt (after setting es) k) (append-nil events)
searched_same setting txn wishes (step_now ∷ steps) events done (w ∷ ws) k =
    let r = receipt_after setting events 0 txn (question_for w) in
    let next = events ++ r.event ∷ [] in
    let more = ws ++ new_wishes txn (done ++ w ∷ ws) (wishes_of (named_in r.event.deed) wishes) in
    ap (λ (es : List Event). PairsAt (after setting es) k) (sym (append_assoc events (r.event ∷ []) (events_of (searched setting txn wishes steps next (done ++ w ∷ []) more))))
    ∙ searched_same setting txn wishes steps next (done ++ w ∷ []) more k
    ∙ ap (λ (trees : List TreeState). PairsAt trees k) (after_more setting events r.event)
    ∙ who_same setting (after setting events) txn 0 w.tree w.txn k w.range (others w.txn w.range (tree_at (after setting events) w.tree).pairs)

way_same : (old new : List TreeState) (wishes : List Wish) (from to : ℕ) (way : List ℕ) → ((w : Wish) → holders new w ≡ holders old w) →
    IsWaitWay new wishes from way to → IsWaitWay old wishes from way to
way_same old new wishes from to [] same along = along
way_same old new wishes from to (n ∷ ns) same ((w, is, there), rest) =
    ((w, is, subst (λ (hs : List ℕ). is_in n hs ≡ true) (same w) there), way_same old new wishes n to ns same rest)

circle_same : (old new : List TreeState) (wishes : List Wish) (txn : ℕ) (way : List ℕ) → ((w : Wish) → holders new w ≡ holders old w) →
    IsCircle new wishes txn way → IsCircle old wishes txn way
circle_same old new wishes txn [] same circle = circle
circle_same old new wishes txn (n ∷ ns) same circle = way_same old new wishes txn txn (n ∷ ns) same circle

-- A lock line that is held.

pub held_is : (reply : Reply) → is_held reply ≡ true → reply ≡ HeldBy (named_by reply)
held_is Granted e = absurd (let k : false ≡ true = e in cc)
held_is Buffered e = absurd (let k : false ≡ true = e in cc)
held_is (HeldBy owners) e = refl

some_in : (ns : List ℕ) → ns ≢ [] → (n : ℕ) × (is_in n ns ≡ true)
some_in [] some = absurd (some refl)
some_in (n ∷ ns) some = (n, by_test (n == n) (eq-eqb n n refl))
  where
    by_test : (b : Bool) → b ≡ true → (b || is_in n ns) ≡ true
    by_test true e = refl
    by_test false e = cc

pub tried_after : (line : Line) (lines : List Line) (tree : ℕ) (range : Interval) (reply : Reply) (walk : Option (List Edge)) (turn : Turn) → turn.lines ≡ line ∷ lines →
    line.deed ≡ Try tree range → asked_at turn.lines reply walk turn ≡ answered_by tree range reply turn
tried_after line lines tree range reply walk turn next tries =
    ap (λ (ls : List Line). asked_at ls reply walk turn) next
    ∙ subst (λ (d : LineDeed). asked_at (record line { deed = d } ∷ lines) reply walk turn ≡ answered_by tree range reply turn) (sym tries) refl

pub locked_after : (line : Line) (lines : List Line) (tree : ℕ) (range : Interval) (reply : Reply) (walk : Option (List Edge)) (turn : Turn) → turn.lines ≡ line ∷ lines →
    line.deed ≡ Lock tree range → asked_at turn.lines reply walk turn ≡ locked_by tree range reply walk turn
locked_after line lines tree range reply walk turn next locks =
    ap (λ (ls : List Line). asked_at ls reply walk turn) next
    ∙ subst (λ (d : LineDeed). asked_at (record line { deed = d } ∷ lines) reply walk turn ≡ locked_by tree range reply walk turn) (sym locks) refl

answered_free : (tree : ℕ) (range : Interval) (reply : Reply) (turn : Turn) → (answered_by tree range reply turn).waits ≡ false
answered_free tree range Granted turn = refl
answered_free tree range Buffered turn = refl
answered_free tree range (HeldBy owners) turn = refl

locked_free : (tree : ℕ) (range : Interval) (reply : Reply) (walk : Option (List Edge)) (turn : Turn) → is_held reply ≡ false →
    (locked_by tree range reply walk turn).waits ≡ false
locked_free tree range Granted walk turn e = refl
locked_free tree range Buffered walk turn e = refl
locked_free tree range (HeldBy owners) walk turn e = absurd (let k : true ≡ false = e in cc)

-- where a turn does not wait there is nothing to show
not_caught : (setting : Setting) (game : Game) (turn : Turn) (move : Move) → (turn_after turn move).waits ≡ false →
    IsCaughtIf setting game turn move
not_caught setting game turn move free goes held = never (turn_after turn move).waits free held

caught_held : (setting : Setting) (game : Game) (turn : Turn) (line : Line) (lines : List Line) (tree : ℕ) (range : Interval) (joins : List Receipt) (mid : List Event) →
    IsStrictlySortedBy nat_cmp (numbers game.turns) → is_in turn.txn (numbers game.turns) ≡ true → turn.lines ≡ line ∷ lines →
    line.deed ≡ Lock tree range →
    mid ≡ game.events ++ events_of joins → is_held (reply_in (ask_of setting mid turn.txn tree range).event.deed) ≡ true →
    (let ask = ask_of setting mid turn.txn tree range in let wishes = wishes_at turn game.turns in
    IsCaughtIf setting game turn (waits joins ask wishes (searched setting turn.txn wishes wishes (mid ++ ask.event ∷ []) [] (wishes_of (named_by (reply_in ask.event.deed)) wishes))))
caught_held setting game turn line lines tree range joins mid sorted number next locks is held goes waiting =
    by_walk (cycle_of (edges_in wishes (ask ∷ search_found)) turn.txn) refl
  where
    ask : Receipt
    ask = ask_of setting mid turn.txn tree range

    wishes : List Wish
    wishes = wishes_at turn game.turns

    named : List ℕ
    named = named_by (reply_in ask.event.deed)

    search_found : List Receipt
    search_found = searched setting turn.txn wishes wishes (mid ++ ask.event ∷ []) [] (wishes_of named wishes)

    move : Move
    move = waits joins ask wishes search_found

    asked_events : List Event
    asked_events = mid ++ ask.event ∷ []

    last_events : List Event
    last_events = game.events ++ events_of (receipts_in move)

    w : Wish
    w = record { txn = turn.txn; tree = tree; range = range }

    are : (ascend : Ascend wishes) × (wish_of turn.txn wishes ≡ Some w)
    are =
        let both = are_wishes setting turn game.turns line lines sorted number next in
        (subst IsStrictlyIncreasing both.0 (ascending_increases (map (λ x. x.txn) wishes)), both.1 ∙ ap (wish_for turn.txn) locks)

    reply : reply_in ask.event.deed ≡ HeldBy named
    reply = held_is (reply_in ask.event.deed) held

    events_are : last_events ≡ asked_events ++ events_of search_found
    events_are =
        ap (λ (es : List Event). game.events ++ es) (map-append (λ (r : Receipt). r.event) joins (ask ∷ search_found))
        ∙ sym (append_assoc game.events (events_of joins) (ask.event ∷ events_of search_found))
        ∙ ap (λ (es : List Event). es ++ ask.event ∷ events_of search_found) (sym is)
        ∙ sym (append_assoc mid (ask.event ∷ []) (events_of search_found))

    same_holders : (x : Wish) → holders (after setting last_events) x ≡ holders (after setting asked_events) x
    same_holders x =
        ap (λ (es : List Event). holders (after setting es) x) events_are
        ∙ ap (others x.txn x.range) (searched_same setting turn.txn wishes wishes asked_events [] (wishes_of named wishes) x.tree)

    after_it : turn_after turn move ≡ walked (cycle_of (edges_in wishes (ask ∷ search_found)) turn.txn) turn
    after_it =
        locked_after line lines tree range (reply_in ask.event.deed) (cycle_of (edges_in wishes (ask ∷ search_found)) turn.txn) turn next locks
        ∙ ap (λ (r : Reply). locked_by tree range r (cycle_of (edges_in wishes (ask ∷ search_found)) turn.txn) turn) reply

    by_walk : (walk : Option (List Edge)) → cycle_of (edges_in wishes (ask ∷ search_found)) turn.txn ≡ walk → IsCaught setting game turn move
    by_walk (Some walk) e =
        never (is_some (turn_after turn move).outcome) goes (ap (λ (t : Turn). is_some t.outcome) (after_it ∙ ap (λ (o : Option (List Edge)). walked o turn) e))
    by_walk None e =
        let owners = held_owners setting turn.txn mid w named refl reply in
        let some = some_in named owners.1 in
        record {
          wish = w;
          next = ap (next_wish turn.txn) next ∙ ap (wish_for turn.txn) locks;
          same = after_it ∙ ap (λ (o : Option (List Edge)). walked o turn) e;
          blocked = (some.0, ap (is_in some.0) (same_holders w ∙ sym owners.0) ∙ some.1);
          no_circle = λ way circle. none_missed setting turn.txn wishes mid w named are.0 are.1 reply e way
              (circle_same (after setting asked_events) (after setting last_events) wishes turn.txn way same_holders circle);
        }

-- Each move of a line.

held_move : (setting : Setting) (game : Game) (turn : Turn) (line : Line) (lines : List Line) (tree : ℕ) (range : Interval) (joins : List Receipt) (mid : List Event) →
    IsStrictlySortedBy nat_cmp (numbers game.turns) → is_in turn.txn (numbers game.turns) ≡ true → turn.lines ≡ line ∷ lines →
    line.deed ≡ Lock tree range →
    mid ≡ game.events ++ events_of joins →
    IsCaughtIf setting game turn (ask_move setting game.turns turn true mid joins (ask_of setting mid turn.txn tree range))
held_move setting game turn line lines tree range joins mid sorted number next locks is = by_test (is_held (reply_in ask.event.deed)) refl
  where
    ask : Receipt
    ask = ask_of setting mid turn.txn tree range

    wishes : List Wish
    wishes = wishes_at turn game.turns

    by_test : (b : Bool) → is_held (reply_in ask.event.deed) ≡ b →
        IsCaughtIf setting game turn (if b then waits joins ask wishes (searched setting turn.txn wishes wishes (mid ++ ask.event ∷ []) [] (wishes_of (named_by (reply_in ask.event.deed)) wishes))
        else asks joins ask)
    by_test true e = caught_held setting game turn line lines tree range joins mid sorted number next locks is e
    by_test false e =
        not_caught setting game turn (asks joins ask)
        (ap (λ (t : Turn). t.waits) (locked_after line lines tree range (reply_in ask.event.deed) None turn next locks) ∙ locked_free tree range (reply_in ask.event.deed) None turn e)

ended_free : (line : Line) (lines : List Line) (turn : Turn) → turn.lines ≡ line ∷ lines → is_last line.deed ≡ true →
    (ended_at turn.lines turn).waits ≡ false
ended_free line lines turn next last = ap (λ (ls : List Line). (ended_at ls turn).waits) next ∙ by_deed line.deed last
  where
    by_deed : (deed : LineDeed) → is_last deed ≡ true → (ended_at (record line { deed = deed } ∷ lines) turn).waits ≡ false
    by_deed (Try tree range) e = absurd (let k : false ≡ true = e in cc)
    by_deed (Lock tree range) e = absurd (let k : false ≡ true = e in cc)
    by_deed End e = refl
    by_deed Abort e = refl
    by_deed (Escalate tree) e = absurd (let k : false ≡ true = e in cc)
    by_deed Big e = absurd (let k : false ≡ true = e in cc)

pub caught : (setting : Setting) (game : Game) (turn : Turn) (line : Line) (lines : List Line) →
    IsStrictlySortedBy nat_cmp (numbers game.turns) → is_in turn.txn (numbers game.turns) ≡ true → turn.lines ≡ line ∷ lines →
    IsCaughtIf setting game turn (line_move setting game turn line.deed)
caught setting game turn line lines sorted number next = by_deed line.deed refl
  where
    by_deed : (deed : LineDeed) → line.deed ≡ deed → IsCaughtIf setting game turn (line_move setting game turn deed)
    by_deed (Try tree range) e =
        attempt_by (IsCaughtIf setting game turn) (λ joins. Unit {0}) setting game.turns turn false (Ask tree range Granted) game.events tt tt
        (λ joins mid own is. not_caught setting game turn (asks joins (ask_of setting mid turn.txn tree range))
        (ap (λ (t : Turn). t.waits) (tried_after line lines tree range (reply_in (ask_of setting mid turn.txn tree range).event.deed) None turn next e)
        ∙ answered_free tree range (reply_in (ask_of setting mid turn.txn tree range).event.deed) turn))
        (λ joins place rows own. not_caught setting game turn (stops joins place rows) refl)
    by_deed (Lock tree range) e =
        attempt_by (IsCaughtIf setting game turn) (λ joins. Unit {0}) setting game.turns turn true (Ask tree range Granted) game.events tt tt
        (λ joins mid own is. held_move setting game turn line lines tree range joins mid sorted number next e is)
        (λ joins place rows own. not_caught setting game turn (stops joins place rows) refl)
    by_deed End e = not_caught setting game turn ends (ended_free line lines turn next (ap is_last e))
    by_deed Abort e = not_caught setting game turn ends (ended_free line lines turn next (ap is_last e))
    by_deed (Escalate tree) e = not_caught setting game turn (escalates (receipt_after setting game.events 0 turn.txn (Join tree 0 0))) refl
    by_deed Big e = not_caught setting game turn grows refl
