-- A worker plays a transaction as far as it can.
use Rattle.std.proofs.Common.{◌≡◌, ◌⊎◌, ℕ, ◌+◌, ◌≤◌, List, [], ◌∷◌, IsTrue, is_some, length, refl, sym, ap, ◌∙◌, inl, inr, arith, ◌<◌, subst}
use Rattle.std.proofs.lemmas.Bool.{false≢true}
use Rattle.lt_trace.specs.declared.line.Line.{Line}
use Rattle.lt_runner.specs.TurnView.{Seat}
use Rattle.lt_crew.specs.Crew.{MayGo, IsStuck, IsOn}

-- behind so many plays as many lines are gone, or it is stuck
abbrev pub IsWithin : ℕ → ℕ → Seat → Type 0
IsWithin lines plays seat = IsStuck seat ⊎ (length seat.turn.lines + plays ≤ lines)

no_lines : (lines : List Line) → length lines ≤ 0 → lines ≡ []
no_lines [] h = refl
no_lines (x ∷ xs) h = absurd (omega arith)

-- behind as many plays as there were lines
pub within_all : (lines plays : ℕ) (seat : Seat) → lines ≤ plays → IsWithin lines plays seat → IsStuck seat ⊎ (seat.turn.lines ≡ [])
within_all lines plays seat all (inl stuck) = inl stuck
within_all lines plays seat all (inr few) = inr (no_lines seat.turn.lines (omega (arith, all, few)))

not_stuck : (seat : Seat) → MayGo seat → IsStuck seat → ⊥
not_stuck seat goes (inl waits) = false≢true (sym goes.goes ∙ waits)
not_stuck seat goes (inr busy) = false≢true (sym goes.free ∙ busy)

some_line : (seat : Seat) (line : Line) (rest : List Line) → seat.turn.lines ≡ line ∷ rest → seat.turn.lines ≡ [] → ⊥
some_line seat line rest is none = let no = ap length (sym is ∙ none) in omega (arith, no)

-- one play more, at a line
by_more : (lines plays : ℕ) (was is : Seat) (line : Line) (rest : List Line) → MayGo was → was.turn.lines ≡ line ∷ rest →
    (IsTrue (is_some was.turn.outcome) → was.turn.lines ≡ []) →
    IsWithin lines plays was → (on : IsOn was is) →
    (IsStuck is ⊎ ((length is.turn.lines < length was.turn.lines) ⊎
    (IsTrue (is_some was.turn.outcome) × (is.turn ≡ record was.turn { releases = [] })))) →
    IsWithin lines (plays + 1) is
by_more lines plays was is line rest goes next over (inl stuck) on by = absurd (not_stuck was goes stuck)
by_more lines plays was is line rest goes next over (inr few) on (inl stuck) = inl stuck
by_more lines plays was is line rest goes next over (inr few) on (inr (inl less)) = inr (omega (arith, few, less))
by_more lines plays was is line rest goes next over (inr few) on (inr (inr ended)) = absurd (some_line was line rest next (over ended.0))

pub within_more : (lines plays : ℕ) (was is : Seat) (line : Line) (rest : List Line) → MayGo was → was.turn.lines ≡ line ∷ rest →
    (IsTrue (is_some was.turn.outcome) → was.turn.lines ≡ []) →
    IsWithin lines plays was → IsOn was is → IsWithin lines (plays + 1) is
within_more lines plays was is line rest goes next over within on = by_more lines plays was is line rest goes next over within on on.by

-- one that is played was not stuck at first
pub not_stuck_first : (first was is : Seat) → MayGo was → (IsStuck first → was ≡ first) → IsStuck first → is ≡ first
not_stuck_first first was is goes same stuck = absurd (not_stuck was goes (subst IsStuck (sym (same stuck)) stuck))
