-- A transaction that may be played on may be so behind each move.
use Rattle.std.proofs.Common.{◌≡◌, ◌≢◌, ℕ, ◌≤◌, ◌<◌, List, [], ◌∷◌, ◌++◌, Bool, true, false, ◌||◌, IsTrue, Option, Some, None, is_some}
use Rattle.std.proofs.Common.{refl, sym, ap, subst, ◌∙◌, arith}
use Rattle.std.specs.List.{AllByRecursion}
use Rattle.std.proofs.lemmas.Bool.{false≢true}
use Rattle.lt_ranges.specs.Interval.{Interval}
use Rattle.lt_seq.specs.declared.event.Deed.{Deed}
use Rattle.lt_seq.specs.declared.event.Reply.{Reply}
use Rattle.lt_seq.specs.declared.event.Reply.TheVariants.{Granted, Buffered, HeldBy}
use Rattle.lt_seq.specs.declared.event.Event.{Event}
use Rattle.lt_seq.specs.Table.{Setting}
use Rattle.lt_seq.specs.Yard.{PassView, place_after}
use Rattle.lt_trace.specs.Grammar.{is_last}
use Rattle.lt_trace.specs.declared.line.Line.{Line}
use Rattle.lt_trace.specs.declared.line.LineDeed.{LineDeed}
use Rattle.lt_trace.specs.declared.line.LineDeed.TheVariants.{Try, Lock, End, Abort, Escalate, Big}
use Rattle.lt_requests.specs.declared.cycle.Edge.{Edge}
use Rattle.lt_runner.specs.declared.release.Release.{Release}
use Rattle.lt_runner.specs.TurnView.{Turn, Seat}
use Rattle.lt_runner.specs.Turn.{Move, leaves, asks, waits, stops, escalates, grows, ends, frees}
use Rattle.lt_runner.specs.Turn.{turn_after, reply_in, asked_at, ended_at, answered_by, locked_by, walked, rest_of}
use Rattle.lt_runner.specs.Plays.{Stage, stage_after, stage_after_all, lines_for, MayDo, MayFree, IsMove, ArePlayed, has_last, line_question, is_big}
use Rattle.lt_runner.specs.Seats.{opening_seat}
use Rattle.lt_runner.specs.Run.{IsListedRightly, moves_before}
use Rattle.lt_runner.specs.Played.{Search, HasCome}
use Rattle.lt_runner.specs.PlaysOn.{PlaysOn, IsFit, IsFitLine as IsPlainLine}
use Rattle.lt_runner.specs.Steps.{IsSteady, IsFitDeed, IsFitLine}
use Rattle.lt_runner.specs.Standing.{AreFitDeeds, IsStanding}
use Rattle.lt_runner.proofs.StandingLaws.{steady_moves, steady_opening, seats_stand}
use Rattle.lt_live.specs.Live.{AreOwn}
use Rattle.lt_live.specs.Going.{MayGoOn}

-- The line that ends it.

abbrev HasEnd : Turn → Type 0
HasEnd turn = is_some turn.outcome ≡ false → has_last turn.lines ≡ true

rest_last : (line : Line) (rest : List Line) → is_last line.deed ≡ false → has_last (line ∷ rest) ≡ true → has_last rest ≡ true
rest_last line rest no_end has = sym (ap (λ (b : Bool). b || has_last rest) no_end) ∙ has

end_past : (turn : Turn) (line : Line) (rest : List Line) → turn.lines ≡ line ∷ rest → is_last line.deed ≡ false → HasEnd turn →
    is_some turn.outcome ≡ false → has_last (rest_of turn.lines) ≡ true
end_past turn line rest next no_end has goes = ap (λ (ls : List Line). has_last (rest_of ls)) next
    ∙ rest_last line rest no_end (ap has_last (sym next) ∙ has goes)

end_asked : (turn : Turn) (line : Line) (rest : List Line) (reply : Reply) (walk : Option (List Edge)) → turn.lines ≡ line ∷ rest → HasEnd turn →
    HasEnd (asked_at turn.lines reply walk turn)
end_asked turn line rest reply walk next has = subst (λ (ls : List Line). HasEnd (asked_at ls reply walk turn)) (sym next) (by_deed line.deed refl)
  where
    answered : (tree : ℕ) (range : Interval) (r : Reply) → is_last line.deed ≡ false → HasEnd (answered_by tree range r turn)
    answered tree range Granted no_end goes = end_past turn line rest next no_end has goes
    answered tree range Buffered no_end goes = end_past turn line rest next no_end has goes
    answered tree range (HeldBy owners) no_end goes = end_past turn line rest next no_end has goes

    walks : (w : Option (List Edge)) → HasEnd (walked w turn)
    walks None goes = has goes
    walks (Some edges) goes = absurd (false≢true (sym goes))

    locked : (tree : ℕ) (range : Interval) (r : Reply) → is_last line.deed ≡ false → HasEnd (locked_by tree range r walk turn)
    locked tree range Granted no_end goes = end_past turn line rest next no_end has goes
    locked tree range Buffered no_end goes = end_past turn line rest next no_end has goes
    locked tree range (HeldBy owners) no_end goes = walks walk goes

    at_deed : (deed : LineDeed) → line.deed ≡ deed → HasEnd (asked_at (record line { deed = deed } ∷ rest) reply walk turn) →
        HasEnd (asked_at (line ∷ rest) reply walk turn)
    at_deed deed e = subst (λ (d : LineDeed). HasEnd (asked_at (record line { deed = d } ∷ rest) reply walk turn)) (sym e)

    by_deed : (deed : LineDeed) → line.deed ≡ deed → HasEnd (asked_at (line ∷ rest) reply walk turn)
    by_deed (Try tree range) e = at_deed (Try tree range) e (answered tree range reply (ap is_last e))
    by_deed (Lock tree range) e = at_deed (Lock tree range) e (locked tree range reply (ap is_last e))
    by_deed End e = at_deed End e has
    by_deed Abort e = at_deed Abort e has
    by_deed (Escalate tree) e = at_deed (Escalate tree) e has
    by_deed Big e = at_deed Big e has

end_ended : (turn : Turn) (line : Line) (rest : List Line) → turn.lines ≡ line ∷ rest → HasEnd turn → HasEnd (ended_at turn.lines turn)
end_ended turn line rest next has = subst (λ (ls : List Line). HasEnd (ended_at ls turn)) (sym next) (by_deed line.deed)
  where
    by_deed : (deed : LineDeed) → HasEnd (ended_at (record line { deed = deed } ∷ rest) turn)
    by_deed (Try tree range) = has
    by_deed (Lock tree range) = has
    by_deed End = λ goes. absurd (false≢true (sym goes))
    by_deed Abort = λ goes. absurd (false≢true (sym goes))
    by_deed (Escalate tree) = has
    by_deed Big = has

no_end_asks : (deed : LineDeed) (d : Deed) → line_question deed ≡ Some d → is_last deed ≡ false
no_end_asks (Try tree range) d e = refl
no_end_asks (Lock tree range) d e = refl
no_end_asks End d e = absurd cc
no_end_asks Abort d e = absurd cc
no_end_asks (Escalate tree) d e = refl
no_end_asks Big d e = refl

no_end_grows : (deed : LineDeed) → IsTrue (is_big deed) → is_last deed ≡ false
no_end_grows (Try tree range) e = absurd (false≢true e)
no_end_grows (Lock tree range) e = absurd (false≢true e)
no_end_grows End e = absurd (false≢true e)
no_end_grows Abort e = absurd (false≢true e)
no_end_grows (Escalate tree) e = absurd (false≢true e)
no_end_grows Big e = refl

end_does : (setting : Setting) (history : List Event) (stage : Stage) (line : Line) (rest : List Line) (move : Move) →
    stage.turn.lines ≡ line ∷ rest → MayDo true setting history stage line.deed move → HasEnd stage.turn → HasEnd (turn_after stage.turn move)
end_does setting history stage line rest (leaves joins) next may has = has
end_does setting history stage line rest (asks joins ask) next may has = end_asked stage.turn line rest (reply_in ask.event.deed) None next has
end_does setting history stage line rest (waits joins ask wishes found) next may has =
    end_asked stage.turn line rest (reply_in ask.event.deed) _ next has
end_does setting history stage line rest (stops joins place rows) next may has = λ goes. absurd (false≢true (sym goes))
end_does setting history stage line rest (escalates join) next may has =
    λ goes. end_past stage.turn line rest next (no_end_asks line.deed _ may.1) has goes
end_does setting history stage line rest grows next may has = λ goes. end_past stage.turn line rest next (no_end_grows line.deed may) has goes
end_does setting history stage line rest ends next may has = end_ended stage.turn line rest next has
end_does setting history stage line rest (frees free) next may has = absurd may

end_frees : (turn : Turn) (since : ℕ) (rs : List Release) (move : Move) → MayFree since rs move → HasEnd turn → HasEnd (turn_after turn move)
end_frees turn since [] move may has = absurd may
end_frees turn since (r ∷ rs) (frees free) may has = has
end_frees turn since (r ∷ rs) (leaves joins) may has = absurd may
end_frees turn since (r ∷ rs) (asks joins ask) may has = absurd may
end_frees turn since (r ∷ rs) (waits joins ask wishes found) may has = absurd may
end_frees turn since (r ∷ rs) (stops joins place rows) may has = absurd may
end_frees turn since (r ∷ rs) (escalates join) may has = absurd may
end_frees turn since (r ∷ rs) grows may has = absurd may
end_frees turn since (r ∷ rs) ends may has = absurd may

end_moves : (setting : Setting) (history : List Event) (stage : Stage) (moves : List Move) → ArePlayed true setting history stage moves →
    HasEnd stage.turn → HasEnd (stage_after_all stage moves).turn
end_moves setting history stage [] played has = has
end_moves setting history stage (m ∷ ms) played has =
    end_moves setting history (stage_after stage m) ms played.1 (by_lines stage.turn.lines refl played.0)
  where
    by_lines : (lines : List Line) → stage.turn.lines ≡ lines → IsMove true setting history stage lines m → HasEnd (turn_after stage.turn m)
    by_lines [] is may = end_frees stage.turn stage.past.since stage.turn.releases m may has
    by_lines (line ∷ rest) is may = end_does setting history stage line rest m is may has

-- A play.

-- none of them is of another
none_other : (P : Search → Type 0) (txn : ℕ) (searches : List Search) → AreOwn txn searches → AllByRecursion (λ s. s.txn ≢ txn → P s) searches
none_other P txn [] own = tt
none_other P txn (s ∷ ss) own = (λ other. absurd (other own.0), none_other P txn ss own.1)

pub stands_on : (setting : Setting) (found : List Search) (old new : PassView) (was is : Seat) → AreOwn was.turn.txn found →
    IsStanding setting was.turn → PlaysOn setting found old new was is → IsStanding setting is.turn
stands_on setting found old new was is own stands plays = record {
  steady = subst (IsSteady setting) come.here (steady_moves true setting new.front here come.moves come.played stands.steady);
  last = subst HasEnd come.here (end_moves setting new.front here come.moves come.played stands.last);
}
  where
    -- as if it had come here at once
    here : Stage
    here = record { turn = was.turn; past = record { since = 0; held = 0; left = false } }

    begun : HasCome true setting found old.front here was []
    begun = record {
      moves = [];
      played = tt;
      inside = tt;
      listed = none_other (λ s. IsListedRightly true (stage_after_all here (moves_before s.place [])) s.wishes) was.turn.txn found own;
      own = tt;
      here = refl;
      past = record { seen = omega arith; held = λ _. refl; left = λ _. refl; once = λ _. omega arith };
      made = refl;
    }

    come : HasCome true setting found new.front here is ([] ++ plays.made)
    come = plays.comes here [] found (record { lock = stands.steady.held; held = λ _. refl })
        (record { before = none_other (λ s. s.place < place_after setting old.front) was.turn.txn found own; among = λ s there. there }) begun

-- and its deeds are fit besides
pub goes_on : (setting : Setting) (old new : PassView) (was is : Seat) → MayGoOn setting was → IsFit setting is →
    PlaysOn setting [] old new was is → MayGoOn setting is
goes_on setting old new was is may fit plays =
    record { fit = fit; standing = stands_on setting [] old new was is tt may.standing plays }

-- Its opening.

plain_line : (setting : Setting) (deed : LineDeed) → IsFitDeed setting deed → IsPlainLine setting deed
plain_line setting (Try tree range) fit = fit.0
plain_line setting (Lock tree range) fit = fit.0
plain_line setting End fit = tt
plain_line setting Abort fit = tt
plain_line setting (Escalate tree) fit = fit
plain_line setting Big fit = tt

plain_lines : (setting : Setting) (txn : ℕ) (lines : List Line) → AllByRecursion (IsFitLine setting txn) lines →
    AllByRecursion (λ line. IsPlainLine setting line.deed) lines
plain_lines setting txn [] fit = tt
plain_lines setting txn (line ∷ lines) fit = (plain_line setting line.deed fit.0.deed, plain_lines setting txn lines fit.1)

pub opens_going : (setting : Setting) (txn : ℕ) (lines : List Line) → AreFitDeeds setting lines → 1 ≤ txn →
    MayGoOn setting (opening_seat setting.plan.trees txn (lines_for txn lines))
opens_going setting txn lines deeds one = record {
  fit = record {
    txn = one;
    lines = plain_lines setting txn (lines_for txn lines) (steady_opening setting txn lines deeds).lines;
    releases = tt;
    recorded = (steady_opening setting txn lines deeds).recorded;
    over = λ o. absurd (false≢true o);
  };
  standing = seats_stand setting [] lines [] (opening_seat setting.plan.trees txn (lines_for txn lines)) deeds (record {
    moves = [];
    played = tt;
    inside = tt;
    listed = tt;
    own = tt;
    here = refl;
    past = record { seen = omega arith; held = λ _. refl; left = λ _. refl; once = λ _. omega arith };
    made = refl;
  });
}

-- as it was made for so many trees
pub opens_for : (setting : Setting) (trees txn : ℕ) (lines : List Line) (opened : Seat) → trees ≡ setting.plan.trees →
    opened ≡ opening_seat trees txn (lines_for txn lines) → opened ≡ opening_seat setting.plan.trees txn (lines_for txn lines)
opens_for setting trees txn lines opened same is = is ∙ ap (λ (n : ℕ). opening_seat n txn (lines_for txn lines)) same

pub opened_goes : (setting : Setting) (trees txn : ℕ) (lines : List Line) (opened : Seat) → trees ≡ setting.plan.trees →
    opened ≡ opening_seat trees txn (lines_for txn lines) → AreFitDeeds setting lines → 1 ≤ txn → MayGoOn setting opened
opened_goes setting trees txn lines opened same is deeds one =
    subst (MayGoOn setting) (sym (opens_for setting trees txn lines opened same is)) (opens_going setting txn lines deeds one)

-- one that has not ended has a line
pub lines_left : (setting : Setting) (seat : Seat) → MayGoOn setting seat → seat.turn.outcome ≡ None → seat.turn.lines ≢ []
lines_left setting seat may none no_lines = false≢true (sym (ap has_last no_lines) ∙ may.standing.last (ap is_some none))
