-- Where all transactions have ended, what was done is a run.
use Rattle.std.proofs.Common.{◌≡◌, ◌≢◌, Contains, ℕ, zero, suc, List, [], ◌∷◌, Bool, true, false, Option, Some, None, is_some, option_map, map, refl, sym, ap, ◌∙◌, subst, arith}
use Rattle.std.specs.List.{AllByRecursion, filter_map, cons_option}
use Rattle.lt_seq.specs.declared.event.Event.{Event}
use Rattle.lt_seq.specs.Table.{Setting}
use Rattle.lt_trace.specs.declared.line.Line.{Line}
use Rattle.lt_history.specs.declared.outcome.Outcome.{Outcome}
use Rattle.lt_history.specs.declared.outcome.Ended.{Ended}
use Rattle.lt_runner.specs.TurnView.{Turn, Seat}
use Rattle.lt_runner.specs.Turn.{Move, leaves, asks, waits, stops, escalates, grows, ends, frees}
use Rattle.lt_runner.specs.Plays.{Plays, Stage, lines_for, opening_stage, stage_after_all}
use Rattle.lt_runner.specs.Run.{Play, ended_as, IsRun, IsSearchedRightly, IsListedRightly, moves_before, stage_at}
use Rattle.lt_runner.specs.Played.{Search, AreListed, IsAmong, Stands, AllStand, IsOver}
use Rattle.lt_runner.specs.Serial.{ended_in}

-- what a play was in the searches of others, and its own among them
record IsListed (crew : Bool) (searches : List Search) (setting : Setting) (lines : List Line) (play : Play) : Type 0 where
  listed : AreListed crew searches (opening_stage setting play.txn (lines_for play.txn lines)) play.moves
  own : AllByRecursion (IsAmong searches play.txn) play.moves

-- the plays of seats that are over
record PlaysOf (crew : Bool) (setting : Setting) (searches : List Search) (lines : List Line) (events : List Event) (seats : List Seat) : Type 0 where
  plays : List Play
  txns : map (λ (play : Play). play.txn) plays ≡ map (λ (s : Seat). s.turn.txn) seats
  played : AllByRecursion (λ play. Plays crew setting lines events play.txn play.outcome play.moves) plays
  listed : AllByRecursion (IsListed crew searches setting lines) plays
  outcomes : map ended_as plays ≡ filter_map ended_in (map (λ (s : Seat). s.turn) seats)

plays_of : (crew : Bool) (setting : Setting) (searches : List Search) (lines : List Line) (events : List Event) (seats : List Seat) →
    AllByRecursion (Stands crew setting searches lines events) seats → AllByRecursion IsOver seats →
    PlaysOf crew setting searches lines events seats
plays_of crew setting searches lines events [] stand over = record { plays = []; txns = refl; played = tt; listed = tt; outcomes = refl }
plays_of crew setting searches lines events (s ∷ ss) stand over = by_outcome s.turn.outcome refl over.0.0 (plays_of crew setting searches lines events ss stand.1 over.1)
  where
    by_outcome : (outcome : Option Outcome) → s.turn.outcome ≡ outcome → is_some s.turn.outcome ≡ true → PlaysOf crew setting searches lines events ss →
        PlaysOf crew setting searches lines events (s ∷ ss)
    by_outcome None is done rest = absurd (none_over (sym (ap is_some is) ∙ done))
      where
        none_over : false ≡ true → ⊥
        none_over e = cc
    by_outcome (Some outcome) is done rest =
        let come : Stands crew setting searches lines events s = stand.0 in
        let play : Play = record { txn = s.turn.txn; moves = come.moves; outcome = outcome } in
        record {
          plays = play ∷ rest.plays;
          txns = ap (λ ns. s.turn.txn ∷ ns) rest.txns;
          played = (
            record {
              played = come.played;
              outcome = ap (λ (t : Turn). t.outcome) come.here ∙ is;
              released = ap (λ (t : Turn). t.releases) come.here ∙ over.0.1;
              events = come.made;
            },
            rest.played,
          );
          listed = (record { listed = come.listed; own = come.own }, rest.listed);
          outcomes = ap (λ (es : List Ended). ended_as play ∷ es) rest.outcomes
              ∙ sym (ap (λ (o : Option Outcome). cons_option (option_map (λ (x : Outcome). record { txn = s.turn.txn; outcome = x }) o) (filter_map ended_in (map (λ (u : Seat). u.turn) ss))) is);
        }

-- one that is listed rightly in all searches is in each
at_search : (crew : Bool) (searches : List Search) (opening : Stage) (moves : List Move) (s : Search) → AreListed crew searches opening moves → Contains searches s → s.txn ≢ opening.turn.txn →
    IsListedRightly crew (stage_after_all opening (moves_before s.place moves)) s.wishes
at_search crew [] opening moves s listed (k, inside, is) other = absurd (omega (arith, inside))
at_search crew (x ∷ xs) opening moves s listed (zero, inside, is) other =
    let same : x ≡ s = is in
    subst (λ (y : Search). IsListedRightly crew (stage_after_all opening (moves_before y.place moves)) y.wishes) same (listed.0 (subst (λ (y : Search). y.txn ≢ opening.turn.txn) (sym same) other))
at_search crew (x ∷ xs) opening moves s listed (suc k, inside, is) other = at_search crew xs opening moves s listed.1 (k, omega (arith, inside), is) other

others_listed : (crew : Bool) (setting : Setting) (searches : List Search) (lines : List Line) (plays : List Play) (s : Search) →
    AllByRecursion (IsListed crew searches setting lines) plays → Contains searches s →
    AllByRecursion (λ other. other.txn ≢ s.txn → IsListedRightly crew (stage_at setting lines other s.place) s.wishes) plays
others_listed crew setting searches lines [] s listed there = tt
others_listed crew setting searches lines (play ∷ plays) s listed there = (
  λ other. at_search crew searches (opening_stage setting play.txn (lines_for play.txn lines)) play.moves s listed.0.listed there (λ same. other (sym same)),
  others_listed crew setting searches lines plays s listed.1 there,
)

searched : (crew : Bool) (setting : Setting) (searches : List Search) (lines : List Line) (plays : List Play) (txn : ℕ) (moves : List Move) →
    AllByRecursion (IsListed crew searches setting lines) plays → AllByRecursion (IsAmong searches txn) moves →
    AllByRecursion (IsSearchedRightly crew setting lines plays txn) moves
searched crew setting searches lines plays txn [] listed own = tt
searched crew setting searches lines plays txn (move ∷ moves) listed own = (at_move move own.0, searched crew setting searches lines plays txn moves listed own.1)
  where
    at_move : (move : Move) → IsAmong searches txn move → IsSearchedRightly crew setting lines plays txn move
    at_move (leaves joins) among = tt
    at_move (asks joins ask) among = tt
    at_move (waits joins ask wishes found) among = others_listed crew setting searches lines plays (record { txn = txn; place = ask.place; wishes = wishes }) listed among
    at_move (stops joins place rows) among = tt
    at_move (escalates join) among = tt
    at_move grows among = tt
    at_move ends among = tt
    at_move (frees free) among = tt

all_searched : (crew : Bool) (setting : Setting) (searches : List Search) (lines : List Line) (all plays : List Play) →
    AllByRecursion (IsListed crew searches setting lines) all → AllByRecursion (IsListed crew searches setting lines) plays →
    AllByRecursion (λ play. AllByRecursion (IsSearchedRightly crew setting lines all play.txn) play.moves) plays
all_searched crew setting searches lines all [] listed own = tt
all_searched crew setting searches lines all (play ∷ plays) listed own =
    (searched crew setting searches lines all play.txn play.moves listed own.0.own, all_searched crew setting searches lines all plays listed own.1)

-- Plays of all, and what is told of how each ended.
pub record IsPlayedOut (crew : Bool) (setting : Setting) (lines : List Line) (history : List Event) (seats : List Seat) : Type 0 where
  pub plays : List Play
  pub run : IsRun crew setting lines history plays
  pub outcomes : map ended_as plays ≡ filter_map ended_in (map (λ (s : Seat). s.turn) seats)

-- one legal history in which each transaction's moves stand once and in its order
pub come_is_run : (crew : Bool) (setting : Setting) (searches : List Search) (lines : List Line) (history : List Event) (seats : List Seat) →
    AllStand crew setting searches lines history seats → AllByRecursion IsOver seats →
    IsPlayedOut crew setting lines history seats
come_is_run crew setting searches lines history seats all over =
    let made = plays_of crew setting searches lines history seats all.stand over in
    record {
      plays = made.plays;
      run = record {
        all = record {
          legal = all.legal;
          txns = made.txns ∙ all.numbers;
          played = made.played;
          others = all.own;
        };
        searches = all_searched crew setting searches lines made.plays made.plays made.listed made.listed;
      };
      outcomes = made.outcomes;
    }
