-- How much a transaction of a crew has still to do.
use Rattle.std.specs.Prelude.{ℕ, ◌+◌, ◌-◌, ◌*◌, ◌<◌, ◌≤◌, ◌≡◌, List, [], ◌∷◌, length, is_some, Result, Ok, Err, if◌then◌else◌, false}
use Rattle.lt_seq.specs.declared.fault.Fault.{Fault}
use Rattle.lt_seq.specs.Table.{Setting}
use Rattle.lt_seq.specs.Yard.{PassView}
use Rattle.lt_trace.specs.declared.line.Line.{Line}
use Rattle.lt_runner.specs.declared.release.Release.{Release}
use Rattle.lt_runner.specs.declared.turn.Moved.{Moved}
use Rattle.lt_runner.specs.declared.turn.Moved.TheVariants.{Played, Held, Ended}
use Rattle.lt_runner.specs.TurnView.{Recorded, Seat}

-- Events: of each line an ask with the joins of all trees, and what it records; once more the joins of an ask that is refused.
abbrev pub lines_work : ℕ → List Line → ℕ
lines_work trees [] = 0
lines_work trees (line ∷ lines) = (2 * trees + 3) + lines_work trees lines

-- the frees of what it recorded
abbrev pub owed_in : Recorded → ℕ
owed_in r = length r.ranges + (if r.buffered then 1 else 0)

abbrev pub owed : List Recorded → ℕ
owed [] = 0
owed (r ∷ rs) = owed_in r + owed rs

-- the ask that finds it held, and the joins of one that is refused; one that waits has made both
abbrev pub tries_work : Setting → Seat → ℕ
tries_work setting seat = if seat.turn.waits then 0 else setting.plan.trees + 1 + (if seat.busy then 0 else setting.plan.trees)

-- how many events it may still make but for those of starts and retries: once it has ended, its frees
abbrev pub work : Setting → Seat → ℕ
work setting seat =
    if is_some seat.turn.outcome then length seat.turn.releases
    else lines_work setting.plan.trees seat.turn.lines + owed seat.turn.recorded + tries_work setting seat

abbrev pub some_left : List Release → ℕ
some_left [] = 0
some_left (r ∷ rs) = 1

-- How many steps it may still take: each line is held once and then done, and the release comes once.
abbrev pub steps : Seat → ℕ
steps seat =
    if is_some seat.turn.outcome then some_left seat.turn.releases
    else 2 * length seat.turn.lines - (if seat.turn.waits then 1 else 0)

-- What a play spends: its events are paid for, it takes no step back, and one that was not registered is not.
pub record Spends (setting : Setting) (old new : PassView) (was is : Seat) : Type 0 where
  pub events : length new.mine + work setting is ≤ length old.mine + work setting was
  pub steps : steps is ≤ steps was
  pub listed : was.listed ≡ false → is.listed ≡ false

-- whether it came on
abbrev pub StepsOn : Seat → Seat → Result Moved Fault → Type 0
StepsOn was is (Ok Played) = steps is < steps was
StepsOn was is (Ok Held) = steps is < steps was
StepsOn was is (Ok Ended) = steps is ≡ 0
StepsOn was is (Err fault) = Unit {0}
