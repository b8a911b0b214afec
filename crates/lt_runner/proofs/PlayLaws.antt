-- Plays grow at their end, and stay plays when the history goes on.
use Rattle.std.proofs.Common.{◌≡◌, ℕ, ◌+◌, ◌-◌, ◌<◌, ◌≤◌, List, [], ◌∷◌, ◌++◌, length, take, Bool, refl, sym, ap, ◌∙◌, subst, arith, append_assoc, append-nil}
use Rattle.std.specs.List.{AllByRecursion, flat_map}
use Rattle.std.proofs.lemmas.List.{take-append-le}
use Rattle.std.proofs.Math.Seq.{take-append_seam}
use Rattle.std.proofs.lemmas.List.{length-append}
use Rattle.lt_seq.specs.declared.event.Event.{Event}
use Rattle.lt_seq.specs.declared.event.Receipt.{Receipt}
use Rattle.lt_seq.specs.Table.{Setting, used}
use Rattle.lt_seq.specs.History.{after, IsFront}
use Rattle.lt_seq.specs.Yard.{place_after}
use Rattle.lt_trace.specs.declared.line.Line.{Line}
use Rattle.lt_trace.specs.declared.line.LineDeed.{LineDeed}
use Rattle.lt_runner.specs.Plays.{Stage, stage_after, stage_after_all, MayDo, IsMove, ArePlayed}
use Rattle.lt_runner.specs.Played.{AreInside, IsInside}
use Rattle.lt_runner.specs.Turn.{Move, leaves, asks, waits, stops, escalates, grows, ends, frees, receipts_in}
use Rattle.lt_runner.specs.Attempt.{used_at, HasRoom, IsFull, AreJoins, IsAttempt, IsStop}

-- one move more
pub played_more : (crew : Bool) (setting : Setting) (history : List Event) (stage : Stage) (moves : List Move) (move : Move) →
    ArePlayed crew setting history stage moves → IsMove crew setting history (stage_after_all stage moves) (stage_after_all stage moves).turn.lines move →
    ArePlayed crew setting history stage (moves ++ move ∷ [])
played_more crew setting history stage [] move played next = (next, tt)
played_more crew setting history stage (m ∷ ms) move played next =
    (played.0, played_more crew setting history (stage_after stage m) ms move played.1 next)

-- what stood at a place of the history stands there when it goes on
pub used_stays : (setting : Setting) (history more : List Event) (place : ℕ) → place ≤ place_after setting history →
    used_at setting (history ++ more) place ≡ used_at setting history place
used_stays setting history more place inside =
    ap (λ events. used (after setting events)) (take-append-le (place - setting.plan.first) history more (omega arith))

pub room_stays : (setting : Setting) (history more : List Event) (bar from to : ℕ) → to ≤ place_after setting history →
    HasRoom setting history bar from to → HasRoom setting (history ++ more) bar from to
room_stays setting history more bar from to inside (place, low, high, room) =
    (place, low, high, subst (λ n. n < bar) (sym (used_stays setting history more place (omega arith))) room)

full_stays : (setting : Setting) (history more : List Event) (bar from to : ℕ) → to ≤ place_after setting history →
    IsFull setting history bar from to → IsFull setting (history ++ more) bar from to
full_stays setting history more bar from to inside (place, low, high, full) =
    (place, low, high, subst (λ n. bar ≤ n) (sym (used_stays setting history more place (omega arith))) full)

pub joins_stay : (setting : Setting) (history more : List Event) (bar since : ℕ) (joins : List Receipt) → AreInside setting history joins →
    AreJoins setting history bar since joins → AreJoins setting (history ++ more) bar since joins
joins_stay setting history more bar since [] inside may = may
joins_stay setting history more bar since (j ∷ js) inside may = (full_stays setting history more bar since j.place inside.0 may.0, may.1)

pub attempt_stays : (setting : Setting) (history more : List Event) (bar since : ℕ) (joins : List Receipt) (place : ℕ) → place ≤ place_after setting history → AreInside setting history joins →
    IsAttempt setting history bar since joins place → IsAttempt setting (history ++ more) bar since joins place
attempt_stays setting history more bar since [] place inside joins may = room_stays setting history more _ _ _ inside may
attempt_stays setting history more bar since (j ∷ js) place inside joins may =
    (joins_stay setting history more bar since (j ∷ js) joins may.0, may.1, room_stays setting history more _ _ _ inside may.2)

pub longer : (setting : Setting) (history more : List Event) → place_after setting history ≤ place_after setting (history ++ more)
longer setting history more = omega (arith, length-append history more)

stop_stays : (setting : Setting) (history more : List Event) (bar since : ℕ) (joins : List Receipt) (place rows : ℕ) → AreInside setting history joins →
    IsStop setting history bar since joins place rows → IsStop setting (history ++ more) bar since joins place rows
stop_stays setting history more bar since joins place rows inside may = record {
  joined = joins_stay setting history more bar since joins inside may.joined;
  all = may.all;
  low = may.low;
  high = (let k = longer setting history more in omega (arith, may.high, k));
  shows = may.shows ∙ sym (used_stays setting history more place may.high);
  full = may.full;
}

may_stays : (crew : Bool) (setting : Setting) (history more : List Event) (stage : Stage) (deed : LineDeed) (move : Move) →
    IsInside setting history move → MayDo crew setting history stage deed move → MayDo crew setting (history ++ more) stage deed move
may_stays crew setting history more stage deed (leaves joins) inside may = (may.0, may.1, (joins_stay setting history more _ _ joins inside may.2.0, may.2.1))
may_stays crew setting history more stage deed (asks joins ask) inside may =
    (attempt_stays setting history more _ _ joins ask.place inside.0 inside.1 may.0, may.1, may.2, may.3)
may_stays crew setting history more stage deed (waits joins ask wishes search) inside may =
    (attempt_stays setting history more _ _ joins ask.place inside.0 inside.1 may.0, may.1, may.2, may.3, may.4, may.5)
may_stays crew setting history more stage deed (stops joins place rows) inside may = (stop_stays setting history more _ _ joins place rows inside may.0, may.1)
may_stays crew setting history more stage deed (escalates join) inside may = may
may_stays crew setting history more stage deed grows inside may = may
may_stays crew setting history more stage deed ends inside may = may
may_stays crew setting history more stage deed (frees free) inside may = may

move_stays : (crew : Bool) (setting : Setting) (history more : List Event) (stage : Stage) (lines : List Line) (move : Move) →
    IsInside setting history move → IsMove crew setting history stage lines move → IsMove crew setting (history ++ more) stage lines move
move_stays crew setting history more stage [] move inside may = may
move_stays crew setting history more stage (line ∷ lines) move inside may = may_stays crew setting history more stage line.deed move inside may

-- what was played stays played
pub played_stays : (crew : Bool) (setting : Setting) (history more : List Event) (stage : Stage) (moves : List Move) →
    AllByRecursion (IsInside setting history) moves → ArePlayed crew setting history stage moves → ArePlayed crew setting (history ++ more) stage moves
played_stays crew setting history more stage [] inside played = tt
played_stays crew setting history more stage (m ∷ ms) inside played = (
  move_stays crew setting history more stage stage.turn.lines m inside.0 played.0,
  played_stays crew setting history more (stage_after stage m) ms inside.1 played.1,
)

-- what a front shows is what its place shows in the whole history
pub used_at_front : (setting : Setting) (seen history : List Event) → IsFront seen history → used_at setting history (place_after setting seen) ≡ used (after setting seen)
used_at_front setting seen history (more, is) =
    let k : (setting.plan.first + length seen) - setting.plan.first ≡ length seen = omega arith in
    ap (λ n. used (after setting (take n history))) k ∙ ap (λ events. used (after setting (take (length seen) events))) is
    ∙ ap (λ events. used (after setting events)) (take-append_seam seen more)

-- the used rows at the end of a history, whatever comes behind
pub used_here : (setting : Setting) (events more : List Event) → used_at setting (events ++ more) (place_after setting events) ≡ used (after setting events)
used_here setting events more = used_at_front setting events (events ++ more) (more, refl)

pub room_here : (setting : Setting) (events more : List Event) (bar since : ℕ) → since ≤ place_after setting events → used (after setting events) < bar →
    HasRoom setting (events ++ more) bar since (place_after setting events)
room_here setting events more bar since low room =
    (place_after setting events, low, omega arith, subst (λ n. n < bar) (sym (used_here setting events more)) room)

pub full_here : (setting : Setting) (events more : List Event) (bar since : ℕ) → since ≤ place_after setting events → bar ≤ used (after setting events) →
    IsFull setting (events ++ more) bar since (place_after setting events)
full_here setting events more bar since low full =
    (place_after setting events, low, omega arith, subst (λ n. bar ≤ n) (sym (used_here setting events more)) full)

-- Moves in order.

pub all_more : (P : Move → Type 0) (moves : List Move) (move : Move) → AllByRecursion P moves → P move → AllByRecursion P (moves ++ move ∷ [])
all_more P [] move all one = (one, tt)
all_more P (m ∷ ms) move all one = (all.0, all_more P ms move all.1 one)

pub after_more : (stage : Stage) (moves : List Move) (move : Move) → stage_after_all stage (moves ++ move ∷ []) ≡ stage_after (stage_after_all stage moves) move
after_more stage [] move = refl
after_more stage (m ∷ ms) move = after_more (stage_after stage m) ms move

pub flat_more : (moves : List Move) (move : Move) → flat_map receipts_in (moves ++ move ∷ []) ≡ flat_map receipts_in moves ++ receipts_in move
flat_more [] move = append-nil (receipts_in move)
flat_more (m ∷ ms) move = ap (λ rs. receipts_in m ++ rs) (flat_more ms move) ∙ sym (append_assoc (receipts_in m) (flat_map receipts_in ms) (receipts_in move))

pub list_inside : (setting : Setting) (history more : List Event) (receipts : List Receipt) → AreInside setting history receipts → AreInside setting (history ++ more) receipts
list_inside setting history more [] all = tt
list_inside setting history more (r ∷ rs) all = ((let k = longer setting history more in omega (arith, all.0, k)), list_inside setting history more rs all.1)

move_inside : (setting : Setting) (history more : List Event) (move : Move) → IsInside setting history move → IsInside setting (history ++ more) move
move_inside setting history more (leaves joins) inside = list_inside setting history more joins inside
move_inside setting history more (asks joins ask) inside = ((let k = longer setting history more in omega (arith, inside.0, k)), list_inside setting history more joins inside.1)
move_inside setting history more (waits joins ask wishes search) inside = ((let k = longer setting history more in omega (arith, inside.0, k)), list_inside setting history more joins inside.1)
move_inside setting history more (stops joins place rows) inside = list_inside setting history more joins inside
move_inside setting history more (escalates join) inside = inside
move_inside setting history more grows inside = inside
move_inside setting history more ends inside = inside
move_inside setting history more (frees free) inside = inside

pub all_inside : (setting : Setting) (history more : List Event) (moves : List Move) → AllByRecursion (IsInside setting history) moves → AllByRecursion (IsInside setting (history ++ more)) moves
all_inside setting history more [] all = tt
all_inside setting history more (m ∷ ms) all = (move_inside setting history more m all.0, all_inside setting history more ms all.1)
