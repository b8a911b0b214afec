-- What a transaction's moves make of its turn, and of what it holds, whatever others do between.
use Rattle.std.proofs.Common.{◌≡◌, ℕ, zero, suc, ◌≤◌, List, [], ◌∷◌, ◌++◌, Bool}
use Rattle.std.proofs.Common.{true, false, ◌==◌, ◌||◌, if◌then◌else◌, IsTrue, Option, Some, None, is_some}
use Rattle.std.proofs.Common.{length, replicate, refl, sym, ap, subst, ◌∙◌, arith}
use Rattle.std.specs.List.{AllByRecursion}
use Rattle.std.proofs.lemmas.Bool.Decides.{nat_tests}
use Rattle.lt_ranges.specs.Interval.{Interval}
use Rattle.lt_seq.specs.declared.event.Deed.{Deed}
use Rattle.lt_seq.specs.declared.event.Reply.{Reply}
use Rattle.lt_seq.specs.declared.event.Reply.TheVariants.{Granted, Buffered, HeldBy}
use Rattle.lt_seq.specs.declared.event.Event.{Event}
use Rattle.lt_seq.specs.Table.{Setting}
use Rattle.lt_trace.specs.Grammar.{is_last}
use Rattle.lt_trace.specs.declared.line.Line.{Line}
use Rattle.lt_trace.specs.declared.line.LineDeed.{LineDeed}
use Rattle.lt_trace.specs.declared.line.LineDeed.TheVariants.{Try, Lock, End, Abort, Escalate, Big}
use Rattle.lt_requests.specs.declared.wish.Wish.{Wish}
use Rattle.lt_requests.specs.declared.cycle.Edge.{Edge}
use Rattle.lt_runner.specs.declared.release.Release.{Release}
use Rattle.lt_runner.specs.TurnView.{Turn, Seat}
use Rattle.lt_runner.specs.Turn.{Move, leaves, asks, waits, stops, escalates, grows, ends, frees}
use Rattle.lt_runner.specs.Turn.{turn_after, reply_in, asked_at, ended_at, answered_by, locked_by, walked, rest_of, nothing_recorded}
use Rattle.lt_runner.specs.Plays.{Stage, stage_after, stage_after_all, opening_stage, opening_turn, MayDo, MayFree, IsMove}
use Rattle.lt_runner.specs.Plays.{ArePlayed, has_last, own_of, lines_for, end_of, line_question, next_wish, is_lock, is_big}
use Rattle.lt_runner.specs.Played.{Search, Stands, IsAtLock}
use Rattle.lt_runner.specs.Steps.{IsSteady, IsFitLine, AreRanges}
use Rattle.lt_runner.specs.Standing.{AreFitDeeds, IsStanding}
use Rattle.lt_runner.proofs.SteadyLaws.{steady_after, steady_freed}
use Rattle.lt_runner.proofs.StuckLaws.{lock_wish}
use Rattle.lt_runner.proofs.RetriesLaws.{goes_on}

-- Its turn.

no_lines : {P : Type 0} (line : Line) (rest : List Line) → line ∷ rest ≡ [] → P
no_lines line rest e = absurd (let k : line ∷ rest ≡ [] = e in cc)

no_releases : {P : Type 0} (r : Release) (rs : List Release) → r ∷ rs ≡ [] → P
no_releases r rs e = absurd (let k : r ∷ rs ≡ [] = e in cc)

-- one with a line has not ended
pub line_goes : (setting : Setting) (turn : Turn) (line : Line) (rest : List Line) → IsSteady setting turn → turn.lines ≡ line ∷ rest →
    is_some turn.outcome ≡ false
line_goes setting turn line rest steady next = by_outcome (is_some turn.outcome) refl
  where
    by_outcome : (b : Bool) → is_some turn.outcome ≡ b → is_some turn.outcome ≡ false
    by_outcome true e = no_lines line rest (sym next ∙ steady.over e)
    by_outcome false e = e

-- one that owes a free has
pub free_ended : (setting : Setting) (turn : Turn) (r : Release) (rs : List Release) → IsSteady setting turn → turn.releases ≡ r ∷ rs →
    is_some turn.outcome ≡ true
free_ended setting turn r rs steady next = by_outcome (is_some turn.outcome) refl
  where
    by_outcome : (b : Bool) → is_some turn.outcome ≡ b → is_some turn.outcome ≡ true
    by_outcome true e = e
    by_outcome false e = no_releases r rs (sym next ∙ steady.none_owed e)

-- what a move is at these lines
by_frees : (setting : Setting) (turn : Turn) (since : ℕ) (rs : List Release) (move : Move) → MayFree since rs move → IsSteady setting turn →
    turn.releases ≡ rs → IsSteady setting (turn_after turn move)
by_frees setting turn since [] move may steady owed = absurd may
by_frees setting turn since (r ∷ rs) (frees free) may steady owed = steady_freed setting turn steady
by_frees setting turn since (r ∷ rs) (leaves joins) may steady owed = absurd may
by_frees setting turn since (r ∷ rs) (asks joins ask) may steady owed = absurd may
by_frees setting turn since (r ∷ rs) (waits joins ask wishes found) may steady owed = absurd may
by_frees setting turn since (r ∷ rs) (stops joins place rows) may steady owed = absurd may
by_frees setting turn since (r ∷ rs) (escalates join) may steady owed = absurd may
by_frees setting turn since (r ∷ rs) grows may steady owed = absurd may
by_frees setting turn since (r ∷ rs) ends may steady owed = absurd may

pub steady_move : (crew : Bool) (setting : Setting) (history : List Event) (stage : Stage) (move : Move) →
    IsMove crew setting history stage stage.turn.lines move → IsSteady setting stage.turn →
    IsSteady setting (stage_after stage move).turn
steady_move crew setting history stage move may steady = by_lines stage.turn.lines refl may
  where
    by_lines : (lines : List Line) → stage.turn.lines ≡ lines → IsMove crew setting history stage lines move →
        IsSteady setting (turn_after stage.turn move)
    by_lines [] is m = by_frees setting stage.turn stage.past.since stage.turn.releases move m steady refl
    by_lines (line ∷ rest) is m = steady_after setting stage.turn move (line_goes setting stage.turn line rest steady is) steady

pub steady_moves : (crew : Bool) (setting : Setting) (history : List Event) (stage : Stage) (moves : List Move) →
    ArePlayed crew setting history stage moves → IsSteady setting stage.turn →
    IsSteady setting (stage_after_all stage moves).turn
steady_moves crew setting history stage [] played steady = steady
steady_moves crew setting history stage (m ∷ ms) played steady = steady_moves crew setting history (stage_after stage m) ms played.1
    (steady_move crew setting history stage m played.0 steady)

-- Its opening.

fit_own : (setting : Setting) (txn : ℕ) (lines : List Line) → AreFitDeeds setting lines → AllByRecursion (IsFitLine setting txn) (own_of txn lines)
fit_own setting txn [] fit = tt
fit_own setting txn (line ∷ lines) fit = by_test (line.txn == txn) refl (fit_own setting txn lines fit.1)
  where
    by_test : (b : Bool) → (line.txn == txn) ≡ b → AllByRecursion (IsFitLine setting txn) (own_of txn lines) →
        AllByRecursion (IsFitLine setting txn) (if b then line ∷ own_of txn lines else own_of txn lines)
    by_test true e rest = (record { own = (let same : line.txn ≡ txn = grind (arith, nat_tests) in same); deed = fit.0 }, rest)
    by_test false e rest = rest

fit_push : (setting : Setting) (txn : ℕ) (lines : List Line) → AllByRecursion (IsFitLine setting txn) lines →
    AllByRecursion (IsFitLine setting txn) (lines ++ end_of txn ∷ [])
fit_push setting txn [] fit = (record { own = refl; deed = tt }, tt)
fit_push setting txn (line ∷ lines) fit = (fit.0, fit_push setting txn lines fit.1)

fit_lines : (setting : Setting) (txn : ℕ) (lines : List Line) → AreFitDeeds setting lines →
    AllByRecursion (IsFitLine setting txn) (lines_for txn lines)
fit_lines setting txn lines fit = by_test (has_last (own_of txn lines))
  where
    by_test : (b : Bool) → AllByRecursion (IsFitLine setting txn) (if b then own_of txn lines else own_of txn lines ++ end_of txn ∷ [])
    by_test true = fit_own setting txn lines fit
    by_test false = fit_push setting txn (own_of txn lines) (fit_own setting txn lines fit)

last_push : (txn : ℕ) (lines : List Line) → has_last (lines ++ end_of txn ∷ []) ≡ true
last_push txn [] = refl
last_push txn (line ∷ lines) = or_later (is_last line.deed) (has_last (lines ++ end_of txn ∷ [])) (last_push txn lines)
  where
    or_later : (a b : Bool) → b ≡ true → (a || b) ≡ true
    or_later true b e = refl
    or_later false b e = e

last_opening : (txn : ℕ) (lines : List Line) → has_last (lines_for txn lines) ≡ true
last_opening txn lines = by_test (has_last (own_of txn lines)) refl
  where
    by_test : (b : Bool) → has_last (own_of txn lines) ≡ b → has_last (if b then own_of txn lines else own_of txn lines ++ end_of txn ∷ []) ≡ true
    by_test true e = e
    by_test false e = last_push txn (own_of txn lines)

no_ranges : (count : ℕ) → AllByRecursion AreRanges (replicate count nothing_recorded)
no_ranges zero = tt
no_ranges (suc n) = (tt, no_ranges n)

long_replicate : (count : ℕ) → length (replicate count nothing_recorded) ≡ count
long_replicate zero = refl
long_replicate (suc n) = ap suc (long_replicate n)

pub steady_opening : (setting : Setting) (txn : ℕ) (lines : List Line) → AreFitDeeds setting lines →
    IsSteady setting (opening_turn setting txn (lines_for txn lines))
steady_opening setting txn lines fit = record {
  lines = fit_lines setting txn lines fit;
  recorded = long_replicate setting.plan.trees;
  ranges = no_ranges setting.plan.trees;
  releases = tt;
  held = λ w. absurd (let k : false ≡ true = w in cc);
  over = λ o. absurd (let k : false ≡ true = o in cc);
  still = λ o. refl;
  none_owed = λ o. refl;
}

-- The line that ends it.

abbrev HasEnd : Turn → Type 0
HasEnd turn = is_some turn.outcome ≡ false → has_last turn.lines ≡ true

rest_last : (line : Line) (rest : List Line) → is_last line.deed ≡ false → has_last (line ∷ rest) ≡ true → has_last rest ≡ true
rest_last line rest no_end has = sym (ap (λ (b : Bool). b || has_last rest) no_end) ∙ has

end_past : (turn : Turn) (line : Line) (rest : List Line) → turn.lines ≡ line ∷ rest → is_last line.deed ≡ false → HasEnd turn →
    is_some turn.outcome ≡ false → has_last (rest_of turn.lines) ≡ true
end_past turn line rest next no_end has goes = ap (λ (ls : List Line). has_last (rest_of ls)) next
    ∙ rest_last line rest no_end (ap has_last (sym next) ∙ has goes)

end_asked : (turn : Turn) (line : Line) (rest : List Line) (reply : Reply) (walk : Option (List Edge)) → turn.lines ≡ line ∷ rest → HasEnd turn →
    HasEnd (asked_at turn.lines reply walk turn)
end_asked turn line rest reply walk next has = subst (λ (ls : List Line). HasEnd (asked_at ls reply walk turn)) (sym next) (by_deed line.deed refl)
  where
    answered : (tree : ℕ) (range : Interval) (r : Reply) → is_last line.deed ≡ false → HasEnd (answered_by tree range r turn)
    answered tree range Granted no_end goes = end_past turn line rest next no_end has goes
    answered tree range Buffered no_end goes = end_past turn line rest next no_end has goes
    answered tree range (HeldBy owners) no_end goes = end_past turn line rest next no_end has goes

    walks : (w : Option (List Edge)) → HasEnd (walked w turn)
    walks None goes = has goes
    walks (Some edges) goes = absurd (let k : true ≡ false = goes in cc)

    locked : (tree : ℕ) (range : Interval) (r : Reply) → is_last line.deed ≡ false → HasEnd (locked_by tree range r walk turn)
    locked tree range Granted no_end goes = end_past turn line rest next no_end has goes
    locked tree range Buffered no_end goes = end_past turn line rest next no_end has goes
    locked tree range (HeldBy owners) no_end goes = walks walk goes

    by_deed : (deed : LineDeed) → line.deed ≡ deed → HasEnd (asked_at (line ∷ rest) reply walk turn)
    by_deed (Try tree range) e = subst (λ (d : LineDeed). HasEnd (asked_at (record line { deed = d } ∷ rest) reply walk turn)) (sym e)
        (answered tree range reply (ap is_last e))
    by_deed (Lock tree range) e = subst (λ (d : LineDeed). HasEnd (asked_at (record line { deed = d } ∷ rest) reply walk turn)) (sym e)
        (locked tree range reply (ap is_last e))
    by_deed End e = subst (λ (d : LineDeed). HasEnd (asked_at (record line { deed = d } ∷ rest) reply walk turn)) (sym e) has
    by_deed Abort e = subst (λ (d : LineDeed). HasEnd (asked_at (record line { deed = d } ∷ rest) reply walk turn)) (sym e) has
    by_deed (Escalate tree) e = subst (λ (d : LineDeed). HasEnd (asked_at (record line { deed = d } ∷ rest) reply walk turn)) (sym e) has
    by_deed Big e = subst (λ (d : LineDeed). HasEnd (asked_at (record line { deed = d } ∷ rest) reply walk turn)) (sym e) has

end_ended : (turn : Turn) (line : Line) (rest : List Line) → turn.lines ≡ line ∷ rest → HasEnd turn → HasEnd (ended_at turn.lines turn)
end_ended turn line rest next has = subst (λ (ls : List Line). HasEnd (ended_at ls turn)) (sym next) (by_deed line.deed)
  where
    by_deed : (deed : LineDeed) → HasEnd (ended_at (record line { deed = deed } ∷ rest) turn)
    by_deed (Try tree range) = has
    by_deed (Lock tree range) = has
    by_deed End = λ goes. absurd (let k : true ≡ false = goes in cc)
    by_deed Abort = λ goes. absurd (let k : true ≡ false = goes in cc)
    by_deed (Escalate tree) = has
    by_deed Big = has

no_end_escalates : (deed : LineDeed) (d : Deed) → line_question deed ≡ Some d → is_last deed ≡ false
no_end_escalates (Try tree range) d e = refl
no_end_escalates (Lock tree range) d e = refl
no_end_escalates End d e = absurd cc
no_end_escalates Abort d e = absurd cc
no_end_escalates (Escalate tree) d e = refl
no_end_escalates Big d e = refl

no_end_grows : (deed : LineDeed) → IsTrue (is_big deed) → is_last deed ≡ false
no_end_grows (Try tree range) e = absurd (let k : false ≡ true = e in cc)
no_end_grows (Lock tree range) e = absurd (let k : false ≡ true = e in cc)
no_end_grows End e = absurd (let k : false ≡ true = e in cc)
no_end_grows Abort e = absurd (let k : false ≡ true = e in cc)
no_end_grows (Escalate tree) e = absurd (let k : false ≡ true = e in cc)
no_end_grows Big e = refl

end_does : (crew : Bool) (setting : Setting) (history : List Event) (stage : Stage) (line : Line) (rest : List Line) (move : Move) →
    stage.turn.lines ≡ line ∷ rest →
    MayDo crew setting history stage line.deed move → HasEnd stage.turn → HasEnd (turn_after stage.turn move)
end_does crew setting history stage line rest (leaves joins) next may has = has
end_does crew setting history stage line rest (asks joins ask) next may has = end_asked stage.turn line rest (reply_in ask.event.deed) None next has
end_does crew setting history stage line rest (waits joins ask wishes found) next may has =
    end_asked stage.turn line rest (reply_in ask.event.deed) _ next has
end_does crew setting history stage line rest (stops joins place rows) next may has = λ goes. absurd (let k : true ≡ false = goes in cc)
end_does crew setting history stage line rest (escalates join) next may has =
    λ goes. end_past stage.turn line rest next (no_end_escalates line.deed _ may.1) has goes
end_does crew setting history stage line rest grows next may has = λ goes. end_past stage.turn line rest next (no_end_grows line.deed may) has goes
end_does crew setting history stage line rest ends next may has = end_ended stage.turn line rest next has
end_does crew setting history stage line rest (frees free) next may has = absurd may

end_frees : (turn : Turn) (since : ℕ) (rs : List Release) (move : Move) → MayFree since rs move → HasEnd turn → HasEnd (turn_after turn move)
end_frees turn since [] move may has = absurd may
end_frees turn since (r ∷ rs) (frees free) may has = has
end_frees turn since (r ∷ rs) (leaves joins) may has = absurd may
end_frees turn since (r ∷ rs) (asks joins ask) may has = absurd may
end_frees turn since (r ∷ rs) (waits joins ask wishes found) may has = absurd may
end_frees turn since (r ∷ rs) (stops joins place rows) may has = absurd may
end_frees turn since (r ∷ rs) (escalates join) may has = absurd may
end_frees turn since (r ∷ rs) grows may has = absurd may
end_frees turn since (r ∷ rs) ends may has = absurd may

end_moves : (crew : Bool) (setting : Setting) (history : List Event) (stage : Stage) (moves : List Move) →
    ArePlayed crew setting history stage moves → HasEnd stage.turn → HasEnd (stage_after_all stage moves).turn
end_moves crew setting history stage [] played has = has
end_moves crew setting history stage (m ∷ ms) played has = end_moves crew setting history (stage_after stage m) ms played.1
    (by_lines stage.turn.lines refl played.0)
  where
    by_lines : (lines : List Line) → stage.turn.lines ≡ lines → IsMove crew setting history stage lines m → HasEnd (turn_after stage.turn m)
    by_lines [] is may = end_frees stage.turn stage.past.since stage.turn.releases m may has
    by_lines (line ∷ rest) is may = end_does crew setting history stage line rest m is may has

pub seats_stand : (setting : Setting) (searches : List Search) (lines : List Line) (history : List Event) (seat : Seat) → AreFitDeeds setting lines →
    Stands true setting searches lines history seat →
    IsStanding setting seat.turn
seats_stand setting searches lines history seat fit come =
    let opening = opening_stage setting seat.turn.txn (lines_for seat.turn.txn lines) in
    record {
      steady = subst (IsSteady setting) come.here (steady_moves true setting history opening come.moves come.played
          (steady_opening setting seat.turn.txn lines fit));
      last = subst HasEnd come.here (end_moves true setting history opening come.moves come.played (λ goes. last_opening seat.turn.txn lines));
    }

lock_not_last : (deed : LineDeed) → IsTrue (is_lock deed) → is_last deed ≡ false
lock_not_last (Try tree range) e = absurd (let k : false ≡ true = e in cc)
lock_not_last (Lock tree range) e = refl
lock_not_last End e = absurd (let k : false ≡ true = e in cc)
lock_not_last Abort e = absurd (let k : false ≡ true = e in cc)
lock_not_last (Escalate tree) e = absurd (let k : false ≡ true = e in cc)
lock_not_last Big e = absurd (let k : false ≡ true = e in cc)

two_lines : (lines : List Line) → IsAtLock lines → has_last lines ≡ true → 2 ≤ length lines
two_lines [] lock has = absurd lock
two_lines (line ∷ []) lock has = absurd (let k : has_last [] ≡ true = rest_last line []
    (lock_not_last line.deed lock) has in let x : false ≡ true = k in cc)
two_lines (line ∷ l ∷ ls) lock has = omega arith

pub waiters_have_lines : (setting : Setting) (turn : Turn) → IsStanding setting turn → turn.waits ≡ true →
    IsAtLock turn.lines × (2 ≤ length turn.lines) × ((wish : Wish) × (next_wish turn.txn turn.lines ≡ Some wish))
waiters_have_lines setting turn stands held =
    let lock = stands.steady.held held in
    (lock, two_lines turn.lines lock (stands.last (goes_on setting turn stands.steady held)), lock_wish turn.txn turn.lines lock)
